-- `types::compare_words` meets its contract: each way out is one law of Matching. The measure is the number of words left. Assumes nothing.
use Rattle.std.proofs.Common.{ℕ, Some, sym, ap, ◌∙◌, arith}
use borrow.Author.Tests.{eqb-true, eqb-false}
use Rattle.types.proofs.Pairs.{some_is, other_shape}
use Rattle.types.proofs.Matching.{OneWord, no_x, no_y, other_words, no_parts, first_differ, passed_on, lists, functions}
use Rattle.types.proofs.+compare_words.Goals as goal
use Rattle.types.proofs.+compare_words.Goals.{After-shape_of, then-is_empty-via-then-is_empty, then-is_empty-via-else-is_empty+then-is_empty-2}
use Rattle.types.proofs.+compare_words.Goals.{then-is_empty-via-else-is_empty+else-is_empty-2+then-x-y}

-- The first words are one, and its shape is looked up.
one_word : {t : ℕ} (c : After-shape_of t) → OneWord c.args.x.now c.args.y.now c.shape_of.result
one_word c =
    record {
      more_x = eqb-false _ _ (sym c.if-is_empty.ensures);
      more_y = eqb-false _ _ (sym c.if-is_empty-2.ensures);
      word = c.if-x-y.false;
      known = c.shape_of.ensures;
    }

pub returns-then-is_empty : goal.returns-then-is_empty
returns-then-is_empty t c =
    elim c.then-is_empty.branch [
      | then-is_empty-via-then-is_empty w ↦ no_x _ _ _ (eqb-true _ _ (sym c.is_empty.ensures ∙ w.if-is_empty.true))
      | then-is_empty-via-else-is_empty+then-is_empty-2 w ↦
          no_y _ _ _ (eqb-true _ _ (sym w.is_empty-else-is_empty.ensures ∙ w.if-is_empty-2.true))
      | then-is_empty-via-else-is_empty+else-is_empty-2+then-x-y w ↦ other_words _ _ _ w.if-x-y.true
    ]

pub returns-in_default : goal.returns-in_default
returns-in_default t c =
    no_parts _ _ _ (one_word (goal.at.returns-in_default t c).After-shape_of) (c.in_default.not-Some _) (c.in_default.not-Some _)

pub returns-in_default-shape : goal.returns-in_default-shape
returns-in_default-shape t c =
    let q = sym c.in-Some.is in
    no_parts _ _ _ (one_word (goal.at.returns-in_default-shape t c).After-shape_of) (λ e. c.in_default-shape.not-List (some_is (q ∙ e)))
    (λ e. c.in_default-shape.not-Function (some_is (q ∙ e)))

pub returns-in-List : goal.returns-in-List
returns-in-List t c =
    let h = c.in-Some.is ∙ ap Some c.in-List.is in
    lists _ _ _ (one_word (goal.at.returns-in-List t c).After-shape_of) (other_shape h (λ e. omega (arith, e)))
    (other_shape h (λ e. omega (arith, e)))
    c.compare_words.ensures (other_shape h (λ e. omega (arith, e)))

pub returns-in_err-end : goal.returns-in_err-end
returns-in_err-end t c =
    let h = c.in-Some.is ∙ ap Some c.in-Function.is in
    let k = one_word (goal.at.returns-in_err-end t c).After-shape_of in
    rw (passed_on _ c.from_residual.ensures.1)
    (first_differ _ _ _ k (other_shape h (λ e. omega (arith, e))) (other_shape h (λ e. omega (arith, e))) c.compare_words-2.ensures _
    c.in_err-end.was)

pub returns : goal.returns
returns t c =
    let h = c.in-Some.is ∙ ap Some c.in-Function.is in
    let k = one_word (goal.at.returns t c).After-shape_of in
    functions _ _ _ k (other_shape h (λ e. omega (arith, e))) (other_shape h (λ e. omega (arith, e))) c.compare_words-2.ensures _
    c.in_ok-end.was (other_shape h (λ e. omega (arith, e))) _ c.compare_words-3.ensures
