-- `conversions::at_function` meets its contract. Assumes nothing.
use Rattle.conversions.proofs.Crossing.{function_brought, function_other}
use Rattle.conversions.proofs.at_function.Goals as goal

pub returns-in-Lambda-clause-told : goal.returns-in-Lambda-clause-told
returns-in-Lambda-clause-told c = function_brought _ c.in-Lambda.ensures c.split.ensures

pub returns-in_default : goal.returns-in_default
returns-in_default c =
    let m = c.misfit.ensures in
    record { placed = m.placed; told = function_other _ c.value_of.ensures c.in_default.not-Lambda m.told }
