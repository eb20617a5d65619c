-- `binary::numbers` meets its contract. Assumes nothing.
use Rattle.binary.proofs.Told.{no_first, no_second, both_numbers}
use Rattle.binary.proofs.numbers.Goals as goal

pub returns-in-Number-Number : goal.returns-in-Number-Number
returns-in-Number-Number c =
    let first = rw c.in-Number-Number.is-0 at c.value_of.ensures in
    let second = rw c.in-Number-Number.is-1 at c.value_of-2.ensures in
    both_numbers (first.small c.requires.0) (second.small c.requires.1) first second

pub returns-in_default : goal.returns-in_default
returns-in_default c = no_second (rw c.in_default.is-0 at c.value_of.ensures) c.value_of-2.ensures c.in_default.not-Number-1

pub returns-in_default-2 : goal.returns-in_default-2
returns-in_default-2 c = no_first c.value_of.ensures c.in_default.not-Number-0
