-- `nodes::scopes::variables` meets its contract: each way out is one law of Scoping. The measure is the number of words left. Assumes nothing.
use Rattle.std.proofs.Common.{◌-◌, ◌∙◌, arith}
use borrow.Author.Rules.{part_to_end}
use Rattle.calculus.specs.Scope.{scope_due}
use Rattle.nodes.specs.Languages.{lambdas}
use Rattle.nodes.proofs.Ways.{part_length, as_err, ends}
use Rattle.nodes.proofs.Scoping.{nothing_due, run_out, free, refused_there, goes_on, cut_back}
use Rattle.nodes.proofs.scopes.+variables.Goals as goal

pub returns-then-due-eq0-clause-value : goal.returns-then-due-eq0-clause-value
returns-then-due-eq0-clause-value t c =
    nothing_due c.args.words.now c.args.at c.args.due (lambdas c.args.scope.now.items) c.if-due-eq0.true

pub returns-in_default-clause-value : goal.returns-in_default-clause-value
returns-in_default-clause-value t c =
    run_out c.args.at c.args.due (lambdas c.args.scope.now.items) c.if-due-eq0.false c.args.words.now c.in_default.ensures.cases

pub returns-then-is_free-clause-value : goal.returns-then-is_free-clause-value
returns-then-is_free-clause-value t c =
    let bound = rw c.deref.ensures.0 at c.if-is_free.ensures in
    rw c.in-Some.ensures.cases.0 (free c.args.at c.args.due (lambdas c.args.scope.now.items) c.if-due-eq0.false _ _ bound)

pub returns-in_err-end-clause-value : goal.returns-in_err-end-clause-value
returns-in_err-end-clause-value t c =
    let bound = rw c.deref.ensures.0 at c.if-is_free.ensures in
    rw (as_err _ _ c.from_residual.ensures.1, c.in-Some.ensures.cases.0) (refused_there c.args.at c.args.due (lambdas c.args.scope.now.items)
    c.if-due-eq0.false _ _ bound _ _ c.part_count.ensures.value c.enter.ensures.inside _ c.in_err-end.ensures.value)

pub offset_bounds-words-end : goal.offset_bounds-words-end
offset_bounds-words-end t c =
    let e = ends scope_due _ _ _ _ c.in_ok-end.ensures.value in
    omega (arith, e.after, e.within, c.requires.fits, c.in-Some.ensures.cases.1)

pub slice_bounds-variables-count : goal.slice_bounds-variables-count
slice_bounds-variables-count t c =
    let e = ends scope_due _ _ _ _ c.in_ok-end.ensures.value in omega (arith, e.after, e.within, c.in-Some.ensures.cases.1)

pub slice_bounds-variables-start : goal.slice_bounds-variables-start
slice_bounds-variables-start t c =
    let e = ends scope_due _ _ _ _ c.in_ok-end.ensures.value in
    omega (arith, e.after, e.within, c.requires.fits, c.in-Some.ensures.cases.1)

pub variables-requires-2 : goal.variables-requires-2
variables-requires-2 t c =
    let a = c.args in
    let e = ends scope_due _ _ _ _ c.in_ok-end.ensures.value in
    let l = part_length a.words.now (c.in_ok-end.end - a.at) in
    let back =
    cut_back c.args.scope.now.items _ _ _ _ c.len-depth.ensures.value c.enter.ensures.kept c.in_ok-end.ensures.kept c.truncate.ensures.items in (
      omega (arith, l, e.after, e.within, c.decreases, c.in-Some.ensures.cases.1),
      (
        omega (arith, l, e.after, e.within, c.requires.fits, c.in-Some.ensures.cases.1),
        rw back (omega (arith, l, e.after, e.within, c.requires.room, c.in-Some.ensures.cases.1)),
      ),
    )

pub returns-clause-value : goal.returns-clause-value
returns-clause-value t c =
    let bound = rw c.deref.ensures.0 at c.if-is_free.ensures in
    let back =
    cut_back c.args.scope.now.items _ _ _ _ c.len-depth.ensures.value c.enter.ensures.kept c.in_ok-end.ensures.kept c.truncate.ensures.items in
    rw c.in-Some.ensures.cases.0 (goes_on c.args.at c.args.due (lambdas c.args.scope.now.items)
    c.if-due-eq0.false _ _ bound _ _ c.part_count.ensures.value c.enter.ensures.inside c.in_ok-end.end c.in_ok-end.ensures.value _
    (c.variables-2.ensures.value ∙ rw (back, part_to_end c.args.words.now (c.in_ok-end.end - c.args.at), c.in-Some.ensures.cases.0)))
