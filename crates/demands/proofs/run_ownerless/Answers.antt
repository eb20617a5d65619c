-- `demands::run_ownerless` meets its contract, by what `check` and `run` promise. Assumes nothing.
use Rattle.demands.proofs.Owning.{without_owners}
use Rattle.demands.proofs.run_ownerless.Goals as goal

pub returns : goal.returns
returns c = without_owners c.check-checked.result _ _ _ _ c.check-checked.ensures c.run-owned.ensures c.run-ownerless.ensures
