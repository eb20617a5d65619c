-- The measure is the number of words left.
use Rattle.std.proofs.Common.{length}
use Rattle.types.proofs.+compare_words.Given as goal

abbrev pub decreases-compare_words : goal.decreases-compare_words
decreases-compare_words l = length l.x.now
