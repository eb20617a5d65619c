-- `unary::of_null` meets its contract. Assumes nothing.
use Rattle.unary.proofs.Told.{null_nil, null_cons, null_other}
use Rattle.unary.proofs.of_null.Goals as goal

pub returns-in-Nil-clause-told : goal.returns-in-Nil-clause-told
returns-in-Nil-clause-told c = rw c.in-Nil.is (null_nil c.number_in.ensures.told)

pub returns-in-Cons-clause-told : goal.returns-in-Cons-clause-told
returns-in-Cons-clause-told c = rw c.in-Cons.is (null_cons c.number_in-in-Cons.ensures.told)

pub returns-in_default : goal.returns-in_default
returns-in_default c = record { placed = tt; told = null_other c.in_default.not-Nil c.in_default.not-Cons }
