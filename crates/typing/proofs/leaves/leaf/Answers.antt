-- `typing::leaves::leaf` meets its contract: each way out is one law of LeafResults. Assumes nothing.
use Rattle.std.proofs.Common.{Some, refl, ap, ◌∙◌, arith}
use Rattle.calculus.specs.Trees.{ml}
use Rattle.nodes.specs.declared.kinds.Shape.TheVariants as s
use Rattle.types.proofs.Pairs.{other_shape}
use Rattle.types.proofs.Matching.{passed_on}
use Rattle.types.proofs.Meanings.{written_means}
use Rattle.typing.proofs.Telling.{leaf_told, no_leaf, leaf_of_none}
use Rattle.typing.proofs.LeafResults.{no_term_there, unbound, bound, a_number, a_nil, a_wrong}
use Rattle.typing.proofs.leaves.leaf.Goals as goal

pub returns-in_default-clause-infers : goal.returns-in_default-clause-infers
returns-in_default-clause-infers c = no_term_there _ _ _ _ (leaf_of_none c.requires c.in_default.is ml)

pub returns-in_err-lambda-in-Variable-clause-infers : goal.returns-in_err-lambda-in-Variable-clause-infers
returns-in_err-lambda-in-Variable-clause-infers c =
    rw (passed_on _ c.from_residual.ensures.1)
    (unbound _ _ _ _ c.requires.behind c.requires.within ml _ c.binder.ensures
    (leaf_told c.requires s.Variable (c.in-Some.is ∙ ap Some c.in-Variable.is) ml) _ c.in_err-lambda-in-Variable.was)

pub returns-in_err-lambda-in-Variable-clause-passes : goal.returns-in_err-lambda-in-Variable-clause-passes
returns-in_err-lambda-in-Variable-clause-passes c = rw (passed_on _ c.from_residual.ensures.1) (λ e. tt)

pub returns-in_ok-lambda-in-Variable-clause-passes : goal.returns-in_ok-lambda-in-Variable-clause-passes
returns-in_ok-lambda-in-Variable-clause-passes c e = refl

pub returns-in_ok-lambda-in-Variable-clause-infers : goal.returns-in_ok-lambda-in-Variable-clause-infers
returns-in_ok-lambda-in-Variable-clause-infers c =
    bound _ _ _ _ c.requires.behind c.requires.within ml _ c.binder.ensures
    (leaf_told c.requires s.Variable (c.in-Some.is ∙ ap Some c.in-Variable.is) ml) _ c.in_ok-lambda-in-Variable.was _
    (λ t lo hi x. written_means _ _ lo hi _ t (omega arith) x)

pub returns-in-Number-clause-infers : goal.returns-in-Number-clause-infers
returns-in-Number-clause-infers c =
    a_number _ _ _ _ c.requires.behind c.requires.within (leaf_told c.requires s.Number (c.in-Some.is ∙ ap Some c.in-Number.is) ml)

pub returns-in-Nil-clause-infers : goal.returns-in-Nil-clause-infers
returns-in-Nil-clause-infers c =
    a_nil _ _ _ _ c.requires.behind c.requires.within c.type_end.ensures (leaf_told c.requires s.Nil (c.in-Some.is ∙ ap Some c.in-Nil.is) ml)

pub returns-in-Nil-clause-passes : goal.returns-in-Nil-clause-passes
returns-in-Nil-clause-passes c e = absurd (other_shape (c.in-Some.is ∙ ap Some c.in-Nil.is) (λ z. omega (arith, z)) e)

pub returns-in-Wrong-clause-infers : goal.returns-in-Wrong-clause-infers
returns-in-Wrong-clause-infers c =
    a_wrong _ _ _ _ c.requires.behind c.requires.within c.type_end-in-Wrong.ensures
    (leaf_told c.requires s.Wrong (c.in-Some.is ∙ ap Some c.in-Wrong.is) ml)

pub returns-in-Wrong-clause-passes : goal.returns-in-Wrong-clause-passes
returns-in-Wrong-clause-passes c e = absurd (other_shape (c.in-Some.is ∙ ap Some c.in-Wrong.is) (λ z. omega (arith, z)) e)

pub returns-in_default-shape-clause-infers : goal.returns-in_default-shape-clause-infers
returns-in_default-shape-clause-infers c =
    let d = c.in_default-shape in
    no_term_there _ _ _ _ (no_leaf c.requires _ c.in-Some.is d.not-Variable d.not-Number d.not-Nil d.not-Wrong ml)
