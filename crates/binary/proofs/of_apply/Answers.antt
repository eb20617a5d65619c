-- `binary::of_apply` meets its contract. Assumes nothing.
use Rattle.binary.proofs.Told.{apply_lambda, apply_other}
use Rattle.binary.proofs.of_apply.Goals as goal

pub returns-in-Lambda-clause-told : goal.returns-in-Lambda-clause-told
returns-in-Lambda-clause-told c = apply_lambda c.in-Lambda.ensures c.body_of.ensures

pub returns-in_default : goal.returns-in_default
returns-in_default c =
    let a = rw c.code.ensures.value at c.amiss.ensures in
    record { placed = a.placed; told = apply_other c.value_of.ensures c.in_default.not-Lambda a.told }
