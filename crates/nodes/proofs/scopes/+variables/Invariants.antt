-- The measure is the number of words left.
use Rattle.std.proofs.Common.{length}
use Rattle.nodes.proofs.scopes.+variables.Given as goal

abbrev pub decreases-variables : goal.decreases-variables
decreases-variables l = length l.words.now
