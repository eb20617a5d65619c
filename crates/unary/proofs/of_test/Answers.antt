-- `unary::of_test` meets its contract. Assumes nothing.
use Rattle.unary.proofs.Told.{tested}
use Rattle.unary.proofs.of_test.Goals as goal

pub returns-clause-told : goal.returns-clause-told
returns-clause-told c = tested _ c.holds-fails.ensures (rw c.from.ensures at c.number_in.ensures.told)
