-- Refusals 6 and 7: what the inference and the comparison answer. Assumes nothing.
use Rattle.std.specs.Prelude.{Result, Ok, Err}
use Prim.Native.Nat.{ℕ, ◌<◌, ◌≤◌}
use mathlib.Core.List.{List, []}
use mathlib.Core.Option.{some}
use mathlib.Core.Path.{◌≡◌, refl, sym, ap, ◌∙◌}
use lib.ListN.{length, drop}
use native.Mathlib.Omega.{arith}
use Rattle.calculus.specs.Trees.{Ty, ml, Term}
use Rattle.calculus.specs.Words.{words}
use Rattle.calculus.specs.Comparison.{compare_types}
use Rattle.calculus.specs.Inference.{infer}
use Rattle.calculus.specs.Verdicts.{refused}
use Rattle.calculus.specs.Faults.{fault}
use Rattle.calculus.proofs.Comparison.{equal_iff}
use Rattle.calculus.proofs.Checks as checks
use Rattle.nodes.specs.declared.refusals.Refusal.TheVariants.{Untyped, Mistyped}
use Rattle.types.specs.References.{Written}
use Rattle.types.specs.Comparisons.{Says, Compared}
use Rattle.types.specs.declared.Difference.{Difference}
use Rattle.types.proofs.Comparing.{said_equal, said_at}
use Rattle.types.proofs.Meanings.{written_means}
use Rattle.typing.specs.Answers.{Answer, whole, bad}
use Rattle.typing.specs.Variables.{Scope}
use Rattle.typing.specs.Infers.{Told, Infers}
use Rattle.typing.proofs.Lasting.{no_part, good_part}
use Rattle.checker.specs.Checks.{accepting, Decides}

-- Nothing is around a recipe's term.
outermost : (w ls : List ℕ) (start : ℕ) → Scope w ls start 0 []
unfolding Scope
outermost w ls start = refl

module _ {w ls ls' : List ℕ} {start : ℕ} where
  -- What is told of a recipe's term, which is all that stands from its start on.
  told : {r : Answer ml} → Infers ml w start 0 ls ls' r → (e : Term ml) → drop start w ≡ words e → Told ml w ls' start [] e r
  told I e d = I.is e [] [] d (outermost w ls start)

  pub no_type : {f : ℕ} → Infers ml w start 0 ls ls' (bad f) → Decides w start (Err (Untyped f))
  no_type {f} I τ e x d =
      let u = no_part (told I e d) refl in
      let b : ◌≡◌ {A = Answer ml} (bad f) (bad (fault start [] e)) = u.1 in
      let z : f ≡ fault start [] e = cc in
      ap (refused 6) z ∙ sym (ap accepting (checks.no_type 4 start τ e u.0))

  -- The type found, and how the declared one compares with it.
  module _ {t n : ℕ} (I : Infers ml w start 0 ls ls' (whole t n)) where
    compared : (r : Result (Unit {0}) Difference) → Compared w ls' 4 t r → (τ : Ty) (e : Term ml) → Written w 4 τ → drop start w ≡ words e
        → (s : Ty) × (infer [] e ≡ some s) × Says w 4 τ (compare_types τ s) r
    compared r C τ e x d =
        let g = good_part (told I e d) refl in
        let i : (start < n) × (n ≤ length w) = I.advances in (
          g.static,
          g.typed,
          C τ g.static start n start n i.1 (written_means w ls' start n 4 τ (omega arith) x) g.refers,
        )

    pub declared_one : Compared w ls' 4 t (Ok tt) → Decides w start (Ok tt)
    declared_one C τ e x d =
        let y = compared (Ok tt) C τ e x d in
        let z = (equal_iff τ y.0).0 (said_equal w 4 τ (compare_types τ y.0) y.2) in
        sym (ap accepting (checks.own_type 4 start τ e (y.1 ∙ ap some (sym z))))

    pub other_one : {i : Difference} → Compared w ls' 4 t (Err i) → Decides w start (Err (Mistyped i.at))
    other_one {i} C τ e x d =
        let y = compared (Err i) C τ e x d in
        let z = said_at w 4 τ (compare_types τ y.0) i y.2 in
        ap (refused 7) (z.2 x) ∙ sym (ap accepting (checks.other_type 4 start τ e y.0 z.0 y.1 z.1))
