-- `unary::of_fix` meets its contract. Assumes nothing.
use Rattle.unary.proofs.Told.{fix_lambda, fix_other}
use Rattle.unary.proofs.of_fix.Goals as goal

pub returns-in-Lambda-clause-told : goal.returns-in-Lambda-clause-told
returns-in-Lambda-clause-told c = rw c.in-Lambda.is (fix_lambda c.body_of.ensures)

pub returns-in_default : goal.returns-in_default
returns-in_default c = record { placed = tt; told = fix_other c.in_default.not-Lambda }
