-- `engine::runs::begin` meets its contract. Assumes nothing.
use mathlib.Core.Path.{refl}
use native.Mathlib.Omega.{arith}
use Rattle.std.proofs.Common.{rules}
use Rattle.std.proofs.lemmas.Grind.{common_steps}
use Rattle.engine.proofs.Answering.{begun_refused, begun_ended}
use Rattle.engine.proofs.runs.begin.Goals as goal

pub returns-then-capacity-count : goal.returns-then-capacity-count
returns-then-capacity-count c = begun_refused (omega (arith, c.capacity.ensures, c.if-capacity-count.true)) c.refused.ensures

pub returns : goal.returns
returns c =
    begun_ended c.capacity.ensures refl (omega (arith, c.if-capacity-count.false)) (search (rules, common_steps)) (search (rules, common_steps))
    c.reduce.ensures
