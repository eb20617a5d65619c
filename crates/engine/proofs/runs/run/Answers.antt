-- `engine::runs::run` meets its contract, for every file, every limit and every pair of buffers. Assumes nothing.
use Prim.Native.Nat.{◌+◌, ◌-◌}
use native.Mathlib.Omega.{arith}
use lib.ListN.{drop, length-drop}
use lib.Seq.{length-take-le}
use Rattle.checker.proofs.Admitting.{admits, not_admitted}
use Rattle.engine.proofs.Answering.{term_within, run_refused, run_begun}
use Rattle.engine.proofs.runs.run.Goals as goal

pub overflow_add-term : goal.overflow_add-term
overflow_add-term c = let e = c.in-Ok.ensures in omega (arith, term_within (admits _ _ e.answer e.buffer))

pub offset_bounds-all-recipe : goal.offset_bounds-all-recipe
offset_bounds-all-recipe c = let e = c.in-Ok.ensures in omega (arith, term_within (admits _ _ e.answer e.buffer))

pub slice_bounds-term-count : goal.slice_bounds-term-count
slice_bounds-term-count c = let e = c.in-Ok.ensures in omega (arith, term_within (admits _ _ e.answer e.buffer))

pub slice_bounds-term-start : goal.slice_bounds-term-start
slice_bounds-term-start c = let e = c.in-Ok.ensures in omega (arith, term_within (admits _ _ e.answer e.buffer))

pub slice_bounds-term-end : goal.slice_bounds-term-end
slice_bounds-term-end c = let e = c.in-Ok.ensures in omega (arith, term_within (admits _ _ e.answer e.buffer))

pub begin-requires : goal.begin-requires
begin-requires c =
    let e = c.in-Ok.ensures in
    let x = c.in-Ok.recipe in
    let from = 4 + x.type_count in
    let w = term_within (admits _ _ e.answer e.buffer) in
    omega (arith, w, length-take-le (x.count - from) (drop from c.admit.new.all) (omega (arith, w, length-drop from c.admit.new.all)))

pub returns-in-Err : goal.returns-in-Err
returns-in-Err c =
    run_refused c.args.file.now c.args.limit c.in-Err.refusal (not_admitted c.args.file.now c.in-Err.ensures.answer) c.refused.ensures

pub returns-in-Ok : goal.returns-in-Ok
returns-in-Ok c =
    let e = c.in-Ok.ensures in
    run_begun c.args.file.now c.args.limit (admits _ _ e.answer e.buffer) c.begin.ensures
