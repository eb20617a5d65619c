-- `pieces::became::number_in` meets its contract. Assumes nothing.
use mathlib.Core.Path.{refl}
use Rattle.calculus.specs.Words.{put}
use Rattle.pieces.proofs.became.number_in.Goals as goal

pub returns-clause-told : goal.returns-clause-told
unfolding put
returns-clause-told c = (_, refl, refl)
