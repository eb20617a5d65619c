-- `typing::leaves::scheme_leaf` meets its contract: each way out is one law of LeafResults. Assumes nothing.
use Rattle.std.proofs.Common.{Some, refl, ap, ◌∙◌}
use Rattle.calculus.specs.Trees.{sc}
use Rattle.nodes.specs.declared.kinds.Shape.TheVariants as s
use Rattle.types.proofs.Matching.{passed_on}
use Rattle.typing.proofs.Telling.{leaf_told, no_leaf, leaf_of_none}
use Rattle.typing.proofs.LeafResults.{no_term_there, unbound, bound, a_scheme_word}
use Rattle.typing.proofs.leaves.scheme_leaf.Goals as goal

pub returns-in_default-clause-infers : goal.returns-in_default-clause-infers
returns-in_default-clause-infers c = no_term_there _ _ _ _ (leaf_of_none c.requires c.in_default.is sc)

pub returns-in_err-binder-in-Variable-clause-infers : goal.returns-in_err-binder-in-Variable-clause-infers
returns-in_err-binder-in-Variable-clause-infers c =
    rw (passed_on _ c.from_residual.ensures.1)
    (unbound _ _ _ _ c.requires.behind c.requires.within sc _ c.binder.ensures
    (leaf_told c.requires s.Variable (c.in-Some.is ∙ ap Some c.in-Variable.is) sc) _ c.in_err-binder-in-Variable.was)

pub returns-in_err-binder-in-Variable-clause-passes : goal.returns-in_err-binder-in-Variable-clause-passes
returns-in_err-binder-in-Variable-clause-passes c = rw (passed_on _ c.from_residual.ensures.1) (λ e. tt)

pub returns-in_ok-binder-in-Variable-clause-passes : goal.returns-in_ok-binder-in-Variable-clause-passes
returns-in_ok-binder-in-Variable-clause-passes c e = refl

pub returns-in_ok-binder-in-Variable-clause-infers : goal.returns-in_ok-binder-in-Variable-clause-infers
returns-in_ok-binder-in-Variable-clause-infers c =
    bound _ _ _ _ c.requires.behind c.requires.within sc _ c.binder.ensures
    (leaf_told c.requires s.Variable (c.in-Some.is ∙ ap Some c.in-Variable.is) sc) _ c.in_ok-binder-in-Variable.was tt (λ t lo hi x. tt)

pub returns-in-Number-clause-infers : goal.returns-in-Number-clause-infers
returns-in-Number-clause-infers c = a_scheme_word _ _ _ _ c.requires _ c.in-Some.is c.in-Number.is

pub returns-in_default-shape-clause-infers : goal.returns-in_default-shape-clause-infers
returns-in_default-shape-clause-infers c =
    let d = c.in_default-shape in
    no_term_there _ _ _ _ (no_leaf c.requires _ c.in-Some.is d.not-Variable d.not-Number d.not-Nil d.not-Wrong sc)
