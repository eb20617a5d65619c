-- `demands::save_once` meets its contract, by what `save` promises. Assumes nothing.
use Rattle.demands_of_saves.proofs.Saving.{saved_once}
use Rattle.demands_of_saves.proofs.save_once.Goals as goal

pub returns : goal.returns
returns c = saved_once _ _ _ c.save.ensures
