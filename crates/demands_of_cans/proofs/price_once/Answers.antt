-- `demands::price_once` meets its contract, by what `price` promises. Assumes nothing.
use Rattle.demands_of_cans.proofs.Costing.{priced_once}
use Rattle.demands_of_cans.proofs.price_once.Goals as goal

pub returns : goal.returns
returns c = priced_once _ _ _ c.price.ensures
