-- `pricing::bill` meets its contract. Assumes nothing.
use mathlib.Core.Path.{sym, ap, ◌∙◌}
use native.Mathlib.Omega.{arith}
use lib.Seq.{length-take-le}
use Rattle.std.specs.Prelude.{Err}
use Rattle.std.proofs.lemmas.Result.{err_from_is_err_and}
use Rattle.pricing.proofs.Billing.{bill_other, bill_run, bill_costly, bill_refused, of_numbers, short}
use Rattle.pricing.proofs.bill.Goals as goal

pub returns-then-not-is_numbers : goal.returns-then-not-is_numbers
returns-then-not-is_numbers c = bill_other _ _ _ _ _ _ c.is_numbers.ensures c.if-not-is_numbers.true c.refused.ensures

pub returns-in_err-report : goal.returns-in_err-report
returns-in_err-report c =
    let p = err_from_is_err_and c.from_residual.result c.from_residual.ensures.1 in
    bill_refused _ _ _ _ _ _ c.is_numbers.ensures c.if-not-is_numbers.false (rw c.in_err-report.was at c.begin.ensures) (p.1 ∙ ap Err p.2)

pub slice_bounds-cost-end : goal.slice_bounds-cost-end
slice_bounds-cost-end c =
    let k = c.begin.auto in
    let s = short _ _ _ _ (rw c.in_ok-report.was at c.begin.ensures) k.first k.second
    (of_numbers c.requires c.is_numbers.ensures c.if-not-is_numbers.false) in
    s.1

pub slice_bounds-cost-end-2 : goal.slice_bounds-cost-end-2
slice_bounds-cost-end-2 c =
    let k = c.begin.auto in
    let s = short _ _ _ _ (rw c.in_ok-report.was at c.begin.ensures) k.first k.second
    (of_numbers c.requires c.is_numbers.ensures c.if-not-is_numbers.false) in
    sym (length-take-le _ _ s.1)

pub cost-requires : goal.cost-requires
cost-requires c =
    let k = c.begin.auto in
    let s = short _ _ _ _ (rw c.in_ok-report.was at c.begin.ensures) k.first k.second
    (of_numbers c.requires c.is_numbers.ensures c.if-not-is_numbers.false) in
    omega (arith, length-take-le _ c.begin.new.first s.1, s.0)

pub returns-in-Ok : goal.returns-in-Ok
returns-in-Ok c =
    let k = c.begin.auto in
    bill_run _ _ _ _ _ _ c.is_numbers.ensures c.if-not-is_numbers.false (rw c.in_ok-report.was at c.begin.ensures) k.first k.second
    c.in-Ok.ensures

pub returns-in-Err : goal.returns-in-Err
returns-in-Err c =
    let k = c.begin.auto in
    bill_costly _ _ _ _ _ _ c.is_numbers.ensures c.if-not-is_numbers.false (rw c.in_ok-report.was at c.begin.ensures) k.first k.second
    c.in-Err.ensures c.refused-in-Err.ensures
