-- Refusal 6 carries the lowest faulty node, refusal 7 the first declared word that differs from the type found, and neither carries anything else.
-- Assumes nothing.
use Prim.Native.Nat.{ℕ, ◌+◌, ◌≤◌}
use mathlib.Core.List.{List, [], ◌∷◌}
use mathlib.Core.Logic.{◌↔◌}
use mathlib.Core.Path.{◌≡◌, sym, ap, ◌∙◌, subst}
use lib.ListN.{length, get_or, drop}
use native.Mathlib.Omega.{arith}
use Rattle.calculus.specs.Trees.{Ty, ml, Term}
use Rattle.calculus.specs.Words.{put, words, size_ty}
use Rattle.calculus.specs.Verdicts.{Verdict, refused}
use Rattle.calculus.specs.File.{words_of, type_count, Recipe, typed, judged, check}
use Rattle.calculus.specs.Faults.{Node, node, Among}
use Rattle.calculus.specs.Accepted.{Spelt, Filed}
use Rattle.calculus.specs.Mismatches.{FaultAt, MismatchAt, Points}
use Rattle.calculus.proofs.Verdicts.{not_both, refused_injective}
use Rattle.calculus.proofs.Comparison.{compares}
use Rattle.calculus.proofs.Inference.{infer_iff}
use Rattle.calculus.proofs.Faults.{fault_lowest, lowest_untyped, node_stands}
use Rattle.calculus.proofs.Checks.{judged_typed, judged_as, filed_judged, checked_as}
use Rattle.calculus.proofs.Checks.{no_type, other_type, Answer, untyped, as_declared, mistyped, answer}

-- Of a type that stands at p and a term that stands at q.
module _ (p q : ℕ) (τ : Ty) (e : Term ml) (r : ℕ) where
  six_iff : (typed p q τ e ≡ refused 6 r) ↔ FaultAt q e r
  six_iff = (
    λ z. by (answer p q τ e) z,
    λ f. let u = lowest_untyped q [] e r f in no_type p q τ e u.0 ∙ ap (refused 6) u.1,
  )
    where
      by : {v : Verdict Recipe} → Answer p q τ e v → v ≡ refused 6 r → FaultAt q e r
      by (untyped i) z = subst (FaultAt q e) (refused_injective z).1 (fault_lowest q [] e i)
      by (as_declared i) z = absurd (not_both 6 r (τ, e) (sym z))
      by (mistyped t d i c) z = absurd (omega (arith, (refused_injective z).0))

  seven_iff : (typed p q τ e ≡ refused 7 r) ↔ MismatchAt p τ e r
  seven_iff = (
    λ z. by (answer p q τ e) z,
    λ m.
        let i = (infer_iff [] e m.found).1 m.typed in
        other_type p q τ e m.found m.agreeing i ((compares.differ τ m.found m.agreeing).1 m.differ) ∙ ap (refused 7) (sym m.place),
  )
    where
      by : {v : Verdict Recipe} → Answer p q τ e v → v ≡ refused 7 r → MismatchAt p τ e r
      by (untyped i) z = absurd (omega (arith, (refused_injective z).0))
      by (as_declared i) z = absurd (not_both 7 r (τ, e) (sym z))
      by (mistyped t d i c) z =
          record {
            found = t;
            typed = (infer_iff [] e t).0 i;
            agreeing = d;
            place = sym (refused_injective z).1;
            differ = (compares.differ τ t d).0 c;
          }

-- A number over 5 is not one of those of the words' order.
past_five : {n r : ℕ} → 6 ≤ n → (m p : ℕ) → m ≤ 5 → ¬ (◌≡◌ {A = Verdict Recipe} (refused m p) (refused n r))
past_five h m p l q = omega (arith, h, l, (refused_injective q).0)

-- What is said of the typing's answer is said of the check's.
module _ (P : Ty → Term ml → ℕ → ℕ → Type 0) (n : ℕ) (late : 6 ≤ n) where
  abbrev Said : Type 0
  Said = (q : ℕ) (τ : Ty) (e : Term ml) (r : ℕ) → (typed 4 q τ e ≡ refused n r) ↔ P τ e q r

  of_words : Said → (types terms : List ℕ) (start r : ℕ)
      → (judged types terms start ≡ refused n r) ↔ ((τ : Ty) × (e : Term ml) × Spelt types terms τ e × P τ e start r)
  of_words said types terms start r = (
    λ z.
        let j = judged_as types terms start z (past_five late) in
        (j.0, j.1, j.2, (said start j.0 j.1 r).0 j.3),
    λ h. judged_typed types terms start h.2 ∙ (said start h.0 h.1 r).1 h.3,
  )

  of_files : Said → (bytes : List ℕ) (r : ℕ) → (check bytes ≡ refused n r) ↔ ((τ : Ty) × (e : Term ml) × Filed bytes τ e × P τ e (4 + size_ty τ) r)
  of_files said bytes r = (
    λ z.
        let j = checked_as bytes z (past_five late) in
        (j.0, j.1, j.2, (said _ j.0 j.1 r).0 j.3),
    λ h. (filed_judged bytes h.2).1 ∙ (said _ h.0 h.1 r).1 h.3,
  )

-- A node's words stand at its place.
stands : (bytes : List ℕ) (τ : Ty) (e : Term ml) → Filed bytes τ e → (z : Node) → Among z (node (4 + size_ty τ) [] e ∷ [])
    → (k : List ℕ) × (drop z.place (words_of bytes) ≡ put z.tree k)
stands bytes τ e f z d =
    let n : size_ty τ ≡ type_count (words_of bytes) = ap (λ (ws : List ℕ). get_or ws 0 0) (sym f.spelt) in
    let s : drop (4 + size_ty τ) (words_of bytes) ≡ words e = ap (λ (i : ℕ). drop (4 + i) (words_of bytes)) n ∙ (filed_judged bytes f).0.terms_are in
    node_stands (words_of bytes) [] (node (4 + size_ty τ) [] e) z s d

pub points : Points
points =
    record {
      stands = stands;
      six = of_files (λ τ e q r. FaultAt q e r) 6 (omega arith) (six_iff 4);
      seven = of_files (λ τ e q r. MismatchAt 4 τ e r) 7 (omega arith) (seven_iff 4);
      six_of_words = λ types terms. of_words (λ τ e q r. FaultAt q e r) 6 (omega arith) (six_iff 4) types terms (4 + length types);
      seven_of_words = λ types terms. of_words (λ τ e q r. MismatchAt 4 τ e r) 7 (omega arith) (seven_iff 4) types terms (4 + length types);
    }
