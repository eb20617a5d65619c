-- `engine::reductions::reduce` meets its contract: the loop's invariant is Looping.Running. Assumes nothing.
use Prim.Native.Nat.{◌-◌}
use Rattle.engine.proofs.Looping.{Running}
use Rattle.engine.proofs.reductions.reduce.Given as goal

abbrev pub invariant-loop-report : goal.invariant-loop-report
invariant-loop-report l = Running l.initial.first l.initial.second l.count l.cap l.limit l.first l.second l.n l.made l.front l.from

abbrev pub decreases-loop-report : goal.decreases-loop-report
decreases-loop-report l = l.limit - l.made.steps
