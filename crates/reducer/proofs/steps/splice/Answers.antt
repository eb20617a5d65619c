-- `reducer::steps::splice` meets its contract. Assumes nothing.
use mathlib.Core.Path.{ap}
use Rattle.std.proofs.Common.{rules}
use Rattle.reducer.proofs.Stepping.{spliced}
use Rattle.reducer.proofs.steps.splice.Goals as goal

pub returns : goal.returns
returns c =
    let n = c.from-node.ensures in
    spliced _ _ _ c.requires.1 _ _ _ _ _ _ (λ l u g. rw (ap (λ b. b.now) n.0, n.1) at (c.write.ensures.writes.of l u g).wrote)
    c.write_next-size.ensures (search rules)
