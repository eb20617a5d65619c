-- `demands::check_once` meets its contract, by what `check` promises. Assumes nothing.
use Rattle.demands.proofs.Demanding.{checks}
use Rattle.demands.proofs.check_once.Goals as goal

pub returns : goal.returns
returns c = checks _ c.check.result c.check.ensures
