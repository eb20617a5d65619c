-- `pieces::values::value_of` meets its contract. Assumes nothing.
use mathlib.Core.Path.{refl, sym, ap, ◌∙◌}
use borrow.Author.Rules.{part_to_end}
use native.Mathlib.Omega.{arith}
use Rattle.std.proofs.Common.{Some}
use Rattle.pieces.proofs.Showing.{none_looks, number_looks, lambda_looks, nil_looks, paired_looks, none_some, the_same}
use Rattle.pieces.proofs.values.value_of.Goals as goal

pub returns-in_default : goal.returns-in_default
returns-in_default c = none_looks _ c.in_default.len_below

pub returns-in_default-shape_of : goal.returns-in_default-shape_of
returns-in_default-shape_of c =
    let n = c.in_default-shape_of.is in
    paired_looks _ c.shape_of.ensures (λ e. none_some (sym n ∙ e)) (λ e. none_some (sym n ∙ e)) (λ e. none_some (sym n ∙ e)) c.pair_of.ensures

pub returns-in-Number : goal.returns-in-Number
returns-in-Number c = number_looks _ c.shape_of.ensures (c.in-Some.is ∙ ap Some c.in-Number.is) (omega (arith, c.type_inv.words 0)) refl

pub returns-in-Lambda : goal.returns-in-Lambda
returns-in-Lambda c = lambda_looks _ c.shape_of.ensures _ (c.in-Some.is ∙ ap Some c.in-Lambda.is) (part_to_end c.args.words.now 1)

pub returns-in-Nil : goal.returns-in-Nil
returns-in-Nil c = nil_looks _ c.shape_of.ensures _ (c.in-Some.is ∙ ap Some c.in-Nil.is) (part_to_end c.args.words.now 1)

pub returns-in_default-shape : goal.returns-in_default-shape
returns-in_default-shape c =
    let d = c.in_default-shape in
    paired_looks _ c.shape_of.ensures (λ e. d.not-Number (the_same (sym c.in-Some.is ∙ e))) (λ e. d.not-Lambda (the_same (sym c.in-Some.is ∙ e)))
    (λ e. d.not-Nil (the_same (sym c.in-Some.is ∙ e))) c.pair_of-in_default-shape.ensures
