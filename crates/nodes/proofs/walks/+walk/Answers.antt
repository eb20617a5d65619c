-- `nodes::walks::walk` meets its contract: each way out is one law of Nested or of Ways. The measure is the number of words left. Assumes nothing.
use Rattle.std.proofs.Common.{◌+◌, ◌-◌, ◌∙◌, arith}
use native.Mathlib.Nat.{add-sub_cancel_left}
use borrow.Author.Rules.{part_to_end}
use Rattle.calculus.specs.Reading.{nested_due}
use Rattle.nodes.proofs.Ways.{part_length, as_err, ends}
use Rattle.nodes.proofs.Ways as ways
use Rattle.nodes.proofs.Nested.{nothing_due, undue, too_deep, refused_there, goes_on}
use Rattle.nodes.proofs.walks.+walk.Goals as goal

pub returns-in_default : goal.returns-in_default
returns-in_default t c = nothing_due c.args.due.now c.args.room c.args.at c.args.words.now c.in_default.ensures.cases

pub returns-in_default-split_first : goal.returns-in_default-split_first
returns-in_default-split_first t c =
    rw c.in-Some.ensures.cases.0 (ways.run_out nested_due c.args.words.now c.args.at _ _ c.in_default-split_first.ensures.cases)

pub returns-in_default-row_due : goal.returns-in_default-row_due
returns-in_default-row_due t c =
    rw (c.in-Some.ensures.cases.0, c.in-Some-split_first.ensures.cases.0) (undue _ _ c.args.room c.args.at _ _ c.in_default-row_due.ensures)

pub returns-then-room-eq0 : goal.returns-then-room-eq0
returns-then-room-eq0 t c =
    rw (c.in-Some.ensures.cases.0, c.in-Some-split_first.ensures.cases.0) (too_deep _ _ c.args.room c.args.at _ _ _ c.in-Some-row_due.ensures
    c.if-room-eq0.true)

-- The word's parts are none, and what is due next follows it.
pub returns-then-is_empty : goal.returns-then-is_empty
returns-then-is_empty t c =
    rw (c.in-Some.ensures.cases.0, c.in-Some-split_first.ensures.cases.0) (goes_on _ _ c.args.room c.args.at _ _ _ c.in-Some-row_due.ensures
    c.if-room-eq0.false (c.args.at + 1)
    (nothing_due c.in-Some-row_due.row.parts.now (c.args.room - 1) (c.args.at + 1) c.in-Some-split_first.rest.now (grind (
      arith,
      c.if-is_empty.ensures,
    ))) _
    (rw (add-sub_cancel_left c.args.at 1) c.walk.ensures))

pub returns-in_err-end : goal.returns-in_err-end
returns-in_err-end t c =
    rw (as_err _ _ c.from_residual.ensures.1) (rw (c.in-Some.ensures.cases.0, c.in-Some-split_first.ensures.cases.0) (refused_there _ _
    c.args.room c.args.at _ _ _ c.in-Some-row_due.ensures c.if-room-eq0.false _ c.in_err-end.ensures))

-- Nothing is due behind the parts.
pub returns-then-is_empty-2 : goal.returns-then-is_empty-2
returns-then-is_empty-2 t c =
    rw (c.in-Some.ensures.cases.0, c.in-Some-split_first.ensures.cases.0) (goes_on _ _ c.args.room c.args.at _ _ _ c.in-Some-row_due.ensures
    c.if-room-eq0.false c.in_ok-end.end c.in_ok-end.ensures _ (nothing_due c.in-Some.others.now c.args.room c.in_ok-end.end _ (grind (
      arith,
      c.if-is_empty-2.ensures,
    ))))

pub offset_bounds-words-end : goal.offset_bounds-words-end
offset_bounds-words-end t c =
    let e = ends nested_due _ _ _ _ c.in_ok-end.ensures in
    omega (arith, e.after, e.within, c.requires, c.in-Some-split_first.ensures.cases.1)

pub slice_bounds-walk-count : goal.slice_bounds-walk-count
slice_bounds-walk-count t c =
    let e = ends nested_due _ _ _ _ c.in_ok-end.ensures in
    omega (arith, e.after, e.within, c.in-Some-split_first.ensures.cases.1)

pub slice_bounds-walk-start : goal.slice_bounds-walk-start
slice_bounds-walk-start t c =
    let e = ends nested_due _ _ _ _ c.in_ok-end.ensures in
    omega (arith, e.after, e.within, c.requires, c.in-Some-split_first.ensures.cases.1)

pub walk-requires-3 : goal.walk-requires-3
walk-requires-3 t c =
    let a = c.args in
    let e = ends nested_due _ _ _ _ c.in_ok-end.ensures in
    let l = part_length a.words.now (c.in_ok-end.end - a.at) in (
      omega (arith, l, e.after, e.within, c.decreases, c.in-Some-split_first.ensures.cases.1),
      omega (arith, l, e.after, e.within, c.requires, c.in-Some-split_first.ensures.cases.1),
    )

pub returns : goal.returns
returns t c =
    rw (c.in-Some.ensures.cases.0, c.in-Some-split_first.ensures.cases.0) (goes_on _ _ c.args.room c.args.at _ _ _ c.in-Some-row_due.ensures
    c.if-room-eq0.false c.in_ok-end.end c.in_ok-end.ensures _ (c.walk-3.ensures ∙ rw (
      part_to_end c.args.words.now (c.in_ok-end.end - c.args.at),
      c.in-Some-split_first.ensures.cases.0,
    )))
