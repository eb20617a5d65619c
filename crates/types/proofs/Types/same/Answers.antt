-- `types::Types::same` meets its contract. Assumes nothing.
use Rattle.types.proofs.Comparing.{equality}
use Rattle.types.proofs.Types.same.Goals as goal

pub returns : goal.returns
returns c = rw c.is_ok.ensures.value (equality _ _ _ _ _ c.compare.ensures)
