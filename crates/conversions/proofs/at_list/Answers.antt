-- `conversions::at_list` meets its contract. Assumes nothing.
use Rattle.conversions.proofs.Crossing.{nil_ml, nil_scheme, cons_brought, list_other}
use Rattle.conversions.proofs.at_list.Goals as goal

pub returns-in-Ml-clause-told : goal.returns-in-Ml-clause-told
returns-in-Ml-clause-told c = rw c.in-Ml.is (nil_ml c.in-Nil.ensures)

pub returns-in-Scheme-clause-told : goal.returns-in-Scheme-clause-told
returns-in-Scheme-clause-told c = rw c.in-Scheme.is (nil_scheme c.in-Nil.ensures)

pub returns-in-Cons-clause-told : goal.returns-in-Cons-clause-told
returns-in-Cons-clause-told c = cons_brought _ c.in-Cons.ensures c.split.ensures

pub returns-in_default : goal.returns-in_default
returns-in_default c =
    let d = c.in_default in
    let m = c.misfit.ensures in
    record { placed = m.placed; told = list_other _ c.value_of.ensures d.not-Nil d.not-Cons m.told }
