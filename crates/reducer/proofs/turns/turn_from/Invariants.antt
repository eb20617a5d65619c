-- `reducer::turns::turn_from` meets its contract: the loop's invariant is Walking. Assumes nothing.
use Prim.Native.Nat.{◌-◌}
use lib.ListN.{length}
use Rattle.reducer.proofs.Walking.{Walking}
use Rattle.reducer.proofs.turns.turn_from.Given as goal

abbrev pub invariant-loop-due : goal.invariant-loop-due
invariant-loop-due l = Walking l.words l.fn.from l.i l.due l.waiting

abbrev pub decreases-loop-due : goal.decreases-loop-due
decreases-loop-due l = length l.words - l.i
