-- `types::Types::compare` meets its contract: the room is enough. Assumes nothing.
use mathlib.Core.Path.{refl}
use Rattle.types.proofs.Comparing.{enough}
use Rattle.types.proofs.Types.compare.Goals as goal

pub returns : goal.returns
returns c = enough _ _ _ _ _ _ refl c.compare_within.ensures
