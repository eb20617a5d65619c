-- `nodes::alone::alone` meets its contract, for every slice and every place. Assumes nothing.
use Rattle.std.proofs.Common.{◌∙◌}
use Rattle.calculus.proofs.Nodes.{alone_at}
use Rattle.nodes.proofs.alone.alone.Goals as goal

pub returns-then-at-words : goal.returns-then-at-words
returns-then-at-words c = c.stands_alone.ensures ∙ alone_at c.args.words.now c.args.at c.if-at-words.true
