-- `conversions::at_number` meets its contract. Assumes nothing.
use Rattle.conversions.proofs.Crossing.{number_number, number_other}
use Rattle.conversions.proofs.at_number.Goals as goal

pub returns-in-Number-clause-told : goal.returns-in-Number-clause-told
returns-in-Number-clause-told c = number_number _ c.in-Number.ensures c.number_in.ensures.told

pub returns-in_default : goal.returns-in_default
returns-in_default c =
    let m = c.misfit.ensures in
    record { placed = m.placed; told = number_other _ c.value_of.ensures c.in_default.not-Number m.told }
