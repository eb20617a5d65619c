-- `writing::substitution::substitute` meets its contract: each turn of the loop, and each way out, is one law of Rounds. The measure is the number of
-- words left. Assumes nothing.
use lib.ListN.{length}
use Rattle.writing.proofs.Rounds.{Begun}
use Rattle.writing.proofs.substitution.+substitute.Given as goal

abbrev pub invariant-loop-left : goal.invariant-loop-left
invariant-loop-left l = Begun l.words l.due l.x l.value l.initial.target l.rest l.left l.y l.target

abbrev pub decreases-loop-left : goal.decreases-loop-left
decreases-loop-left l = length l.rest

abbrev pub decreases-substitute : goal.decreases-substitute
decreases-substitute l = length l.words.now
