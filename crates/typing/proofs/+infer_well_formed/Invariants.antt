-- The measure of both is the number of the words from the place on.
use Rattle.std.proofs.Common.{◌-◌, length}
use Rattle.typing.proofs.+infer_well_formed.Given as goal

abbrev pub decreases-infer : goal.decreases-infer
decreases-infer l = length l.words.now - l.at

abbrev pub decreases-well_formed : goal.decreases-well_formed
decreases-well_formed l = length l.words.now - l.at
