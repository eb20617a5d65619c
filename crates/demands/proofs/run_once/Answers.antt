-- `demands::run_once` meets its contract, by what `run` promises. Assumes nothing.
use Rattle.demands.proofs.Running.{once}
use Rattle.demands.proofs.run_once.Goals as goal

pub returns : goal.returns
returns c = once _ _ c.run.ensures
