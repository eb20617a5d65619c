-- `demands::card_twice` meets its contract, by what `card` promises. Assumes nothing.
use mathlib.Core.Path.{refl}
use Rattle.demands_of_cans.proofs.Carding.{carded_twice}
use Rattle.demands_of_cans.proofs.card_twice.Goals as goal

pub returns : goal.returns
returns c = carded_twice _ _ _ _ _ refl c.card-earlier.ensures c.card-later.ensures
