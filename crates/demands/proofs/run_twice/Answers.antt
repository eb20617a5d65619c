-- `demands::run_twice` meets its contract, by what `check` and `run` promise. Assumes nothing.
use mathlib.Core.Path.{refl}
use Rattle.demands.proofs.Demanding.{twice}
use Rattle.demands.proofs.run_twice.Goals as goal

pub returns : goal.returns
returns c = twice c.check-checked.result _ _ _ _ refl c.check-checked.ensures c.run-earlier.ensures c.run-later.ensures
