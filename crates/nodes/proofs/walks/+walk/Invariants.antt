-- The measure is the number of words left.
use Rattle.std.proofs.Common.{length}
use Rattle.nodes.proofs.walks.+walk.Given as goal

abbrev pub decreases-walk : goal.decreases-walk
decreases-walk l = length l.words.now
