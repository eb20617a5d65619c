-- `pricing::price` meets its contract, for every table, every file, every limit and every pair of buffers. Assumes nothing.
use mathlib.Core.Path.{sym, ◌∙◌}
use native.Mathlib.Omega.{arith}
use lib.Seq.{length-take-le}
use Rattle.checker.proofs.Admitting.{admits, not_admitted}
use Rattle.engine.specs.Lent.{lent}
use Rattle.engine.proofs.Answering.{term_within}
use Rattle.pricing.proofs.Billing.{recipes, priced_over, priced_refused, priced_billed}
use Rattle.pricing.proofs.price.Goals as goal

pub returns-then-not-within : goal.returns-then-not-within
returns-then-not-within c =
    let a = c.args in
    priced_over a.prices (lent a.file.now a.limit a.first.now a.second.now) (sym c.within.ensures ∙ c.if-not-within.true) c.refused.ensures

pub slice_bounds-all-end : goal.slice_bounds-all-end
slice_bounds-all-end c =
    let e = c.in-Ok.ensures in
    omega (arith, term_within (admits _ _ e.answer e.buffer))

pub slice_bounds-words-end : goal.slice_bounds-words-end
slice_bounds-words-end c =
    let e = c.in-Ok.ensures in
    sym (length-take-le c.in-Ok.recipe.count c.admit.new.all (omega (arith, term_within (admits _ _ e.answer e.buffer))))

pub overflow_add-start : goal.overflow_add-start
overflow_add-start c =
    let e = c.in-Ok.ensures in
    omega (arith, term_within (admits _ _ e.answer e.buffer))

pub slice_bounds-bill-end : goal.slice_bounds-bill-end
slice_bounds-bill-end c =
    let e = c.in-Ok.ensures in
    let w = term_within (admits _ _ e.answer e.buffer) in
    omega (arith, w, length-take-le c.in-Ok.recipe.count c.admit.new.all (omega (arith, w)))

pub offset_bounds-words-start : goal.offset_bounds-words-start
offset_bounds-words-start c =
    let e = c.in-Ok.ensures in
    omega (arith, term_within (admits _ _ e.answer e.buffer))

pub slice_bounds-bill-count-in-Ok : goal.slice_bounds-bill-count-in-Ok
slice_bounds-bill-count-in-Ok c =
    let e = c.in-Ok.ensures in
    let w = term_within (admits _ _ e.answer e.buffer) in
    omega (arith, w, length-take-le c.in-Ok.recipe.count c.admit.new.all (omega (arith, w)))

pub slice_bounds-bill-start-in-Ok : goal.slice_bounds-bill-start-in-Ok
slice_bounds-bill-start-in-Ok c =
    let e = c.in-Ok.ensures in
    let w = term_within (admits _ _ e.answer e.buffer) in
    omega (arith, w, length-take-le c.in-Ok.recipe.count c.admit.new.all (omega (arith, w)))

pub bill-requires : goal.bill-requires
bill-requires c =
    let e = c.in-Ok.ensures in
    recipes (admits _ _ e.answer e.buffer)

pub returns-in-Err : goal.returns-in-Err
returns-in-Err c =
    let a = c.args in
    priced_refused a.prices (lent a.file.now a.limit a.first.now a.second.now) _ (sym c.within.ensures ∙ c.if-not-within.false)
    (not_admitted a.file.now c.in-Err.ensures.answer) (rw c.into.ensures at c.refused-in-Err.ensures)

pub returns-in-Ok : goal.returns-in-Ok
returns-in-Ok c =
    let e = c.in-Ok.ensures in
    let a = c.args in
    priced_billed a.prices (lent a.file.now a.limit a.first.now a.second.now) (sym c.within.ensures ∙ c.if-not-within.false)
    (admits _ _ e.answer e.buffer) c.bill.ensures
