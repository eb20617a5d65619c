-- The measure is the room.
use Rattle.types.proofs.Types.+compare_within.Given as goal

abbrev pub decreases-compare_within : goal.decreases-compare_within
decreases-compare_within l = l.room
