-- `demands::card_once` meets its contract, by what `card` promises. Assumes nothing.
use Rattle.demands_of_cans.proofs.Carding.{carded_once}
use Rattle.demands_of_cans.proofs.card_once.Goals as goal

pub returns : goal.returns
returns c = carded_once _ _ _ c.card.ensures
