-- `binary::of_if` meets its contract. Assumes nothing.
use Rattle.binary.proofs.Told.{if_zero, if_more, if_other}
use Rattle.binary.proofs.of_if.Goals as goal

pub returns-in-Number-eq0-clause-told : goal.returns-in-Number-eq0-clause-told
returns-in-Number-eq0-clause-told c = if_zero c.in-Number-eq0.ensures c.in-Number-eq0.field-0-test

pub returns-in-Number-clause-told : goal.returns-in-Number-clause-told
returns-in-Number-clause-told c = if_more c.in-Number.ensures c.in-Number.field-0-test.1

pub returns-in_default : goal.returns-in_default
returns-in_default c =
    let a = rw c.code.ensures.value at c.amiss.ensures in
    record { placed = a.placed; told = if_other c.value_of.ensures c.in_default.not-Number a.told }
