-- `demands::price_twice` meets its contract, by what `price` promises. Assumes nothing.
use mathlib.Core.Path.{refl}
use Rattle.demands_of_cans.proofs.Costing.{priced_twice}
use Rattle.demands_of_cans.proofs.price_twice.Goals as goal

pub returns : goal.returns
returns c = priced_twice _ _ _ _ _ refl c.price-earlier.ensures c.price-later.ensures
