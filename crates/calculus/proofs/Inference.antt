-- Inference agrees with the typing exactly, so that a term has at most one type. Assumes nothing.
use Prim.Native.Nat.{ℕ, zero, suc}
use mathlib.Core.Bool.{Bool, true, false, cond, false≢true}
use mathlib.Core.List.{[], ◌∷◌}
use mathlib.Core.Logic.{◌↔◌}
use mathlib.Core.Option.{Option, none, some, some-injective, none-ne-some}
use mathlib.Core.Path.{◌≡◌, refl, sym, ap, ◌∙◌}
use Rattle.calculus.specs.Trees.{N, L, list, ◌to◌, Lang, ml, sc, Static, numbers, lists, functions, Op1, HD, TL, FIX, NULL?, TEST}
use Rattle.calculus.specs.Trees.{Op2, APP, ADD, SUB, CONS, Term, var, num, lam, op1, op2, if0, nil, wrong, ms, sm}
use Rattle.calculus.specs.Verdicts.{found}
use Rattle.calculus.specs.Typing.{Entry, of, Lambdas, At, Rule1, Rule2, Typed}
use Rattle.calculus.specs.Inference.{same_type, entry_type, type_at, element, sides, result1, sum_type, result2, infer}
use Rattle.calculus.proofs.Verdicts.{found_some}
use Rattle.calculus.proofs.Comparison.{types_same_iff}

-- The answer o is the one thing that P holds of, or there is none.
record Exactly {A : Type 0} (P : A → Type 0) (o : Option A) : Type 0 where
  right : (a : A) → o ≡ some a → P a
  whole : (a : A) → P a → o ≡ some a

module _ {A : Type 0} where
  some_exactly : {a : A} → Exactly (λ b. b ≡ a) (some a)
  some_exactly = record { right = λ b q. sym (some-injective _ b q); whole = λ b q. ap some (sym q) }

  none_exactly : {P : A → Type 0} → ((a : A) → P a → none ≡ some a) → Exactly P none
  none_exactly h = record { right = λ a q. absurd (none-ne-some a q); whole = h }

  iff_exactly : {P Q : A → Type 0} {o : Option A} → Exactly P o → ((a : A) → P a ↔ Q a) → Exactly Q o
  iff_exactly h k = record { right = λ a q. (k a).0 (h.right a q); whole = λ a q. h.whole a ((k a).1 q) }

  -- The whole's answer goes by that of a part.
  found_exactly : {B : Type 0} {P : A → Type 0} {Q : A → B → Type 0} {o : Option A} {f : A → Option B}
      → Exactly P o → ((a : A) → Exactly (Q a) (f a)) → Exactly (λ b. (a : A) × P a × Q a b) (found o none f)
  found_exactly {o = o} {f} h k =
      record {
        right = λ b q. let r = found_some o f b q in (r.0, h.right r.0 r.1, (k r.0).right b r.2);
        whole = λ b p. rw (h.whole p.0 p.1) ((k p.0).whole b p.2);
      }

  -- An answer on a condition.
  cond_exactly : {C : Type 0} {P : A → Type 0} (b : Bool) {o : Option A} → (b ≡ true) ↔ C → Exactly P o
      → Exactly (λ a. C × P a) (cond b o none)
  cond_exactly true c h = record { right = λ a q. (c.0 refl, h.right a q); whole = λ a p. h.whole a p.1 }
  cond_exactly false c h = record { right = λ a q. absurd (none-ne-some a q); whole = λ a p. absurd (false≢true (c.1 p.0)) }

-- Types are the same exactly if the comparison says so.
pub same_iff : (l : Lang) (t u : Static l) → (same_type l t u ≡ true) ↔ (t ≡ u)
same_iff ml t u = types_same_iff t u
same_iff sc t u = (λ q. refl, λ q. refl)

same_exactly : {A : Type 0} (l : Lang) (t u : Static l) {P : A → Type 0} {o : Option A} → Exactly P o
    → Exactly (λ a. (t ≡ u) × P a) (cond (same_type l t u) o none)
same_exactly l t u h = cond_exactly (same_type l t u) (same_iff l t u) h

-- The lambdas, and what a type is made of.
entry_own : (l : Lang) (τ : Static l) → entry_type l (of l τ) ≡ some τ
entry_own ml τ = refl
entry_own sc τ = refl

entry_some : (l : Lang) (x : Entry) (τ : Static l) → entry_type l x ≡ some τ → x ≡ of l τ
entry_some ml (of ml t) τ q = cc
entry_some ml (of sc t) τ q = absurd (none-ne-some τ q)
entry_some sc (of ml t) τ q = absurd (none-ne-some τ q)
entry_some sc (of sc t) τ q = refl

at_exactly : (l : Lang) (Γ : Lambdas) (i : ℕ) → Exactly (λ τ. At Γ i l τ) (type_at l Γ i)
at_exactly l [] i = none_exactly (λ τ h. absurd h)
at_exactly l (x ∷ Γ) zero = record { right = entry_some l x; whole = λ τ q. ap (entry_type l) q ∙ entry_own l τ }
at_exactly l (x ∷ Γ) (suc i) = at_exactly l Γ i

element_exactly : (l : Lang) (t : Static l) → Exactly (λ u. t ≡ lists l u) (element l t)
element_exactly ml N = none_exactly (λ u q. cc)
element_exactly ml (L o) = none_exactly (λ u q. cc)
element_exactly ml (list t) = record { right = λ u q. cc; whole = λ u q. cc }
element_exactly ml (t to s) = none_exactly (λ u q. cc)
element_exactly sc t = record { right = λ u q. refl; whole = λ u q. refl }

sides_exactly : (l : Lang) (t : Static l) → Exactly (λ x. t ≡ functions l x.0 x.1) (sides l t)
sides_exactly ml N = none_exactly (λ x q. cc)
sides_exactly ml (L o) = none_exactly (λ x q. cc)
sides_exactly ml (list t) = none_exactly (λ x q. cc)
sides_exactly ml (t to s) = record { right = λ x q. cc; whole = λ x q. let a : t ≡ x.0 = cc in let b : s ≡ x.1 = cc in rw (a, b) }
sides_exactly sc t = record { right = λ x q. refl; whole = λ x q. refl }

-- The operators, and if0.
result1_exactly : {l : Lang} (o : Op1 l) (t : Static l) → Exactly (Rule1 o t) (result1 o t)
result1_exactly (HD {l}) t = element_exactly l t
result1_exactly (TL {l}) t = found_exactly (element_exactly l t) (λ u. some_exactly)
result1_exactly FIX t =
    iff_exactly (found_exactly (sides_exactly ml t) (λ x. same_exactly ml x.0 x.1 some_exactly))
    (λ τ. (λ h. h.1 ∙ rw (h.2.1, h.2.0), λ q. ((τ, τ), q, (refl, refl))))
result1_exactly NULL? t = found_exactly (element_exactly ml t) (λ u. some_exactly)
result1_exactly (TEST k) t = record { right = λ τ q. tt; whole = λ τ q. refl }

sum_exactly : (l : Lang) (t u : Static l) → Exactly (λ τ. (t ≡ numbers l) × (u ≡ numbers l) × (τ ≡ numbers l)) (sum_type l t u)
sum_exactly l t u =
    iff_exactly (same_exactly l t (numbers l) (same_exactly l u (numbers l) some_exactly))
    (λ τ. (λ h. (h.0, h.1.0, h.1.1), λ h. (h.0, (h.1, h.2))))

result2_exactly : (l : Lang) (o : Op2) (t u : Static l) → Exactly (Rule2 l o t u) (result2 l o t u)
result2_exactly l APP t u =
    iff_exactly (found_exactly (sides_exactly l t) (λ x. same_exactly l x.0 u some_exactly))
    (λ τ. (λ h. h.1 ∙ rw (h.2.0, h.2.1), λ q. ((u, τ), q, (refl, refl))))
result2_exactly l ADD t u = sum_exactly l t u
result2_exactly l SUB t u = sum_exactly l t u
result2_exactly l CONS t u = same_exactly l u (lists l t) some_exactly

-- The answer is the type, exactly.
infer_exactly : {l : Lang} (Γ : Lambdas) (e : Term l) → Exactly (Typed Γ e) (infer Γ e)
unfolding infer
infer_exactly Γ (var {l} i) = at_exactly l Γ i
infer_exactly Γ (num {l} n) = some_exactly
infer_exactly Γ (lam {l} t b) = found_exactly (infer_exactly (of l t ∷ Γ) b) (λ u. some_exactly)
infer_exactly Γ (op1 o a) = found_exactly (infer_exactly Γ a) (λ t. result1_exactly o t)
infer_exactly Γ (op2 {l} o a b) =
    iff_exactly (found_exactly (infer_exactly Γ a) (λ t. found_exactly (infer_exactly Γ b) (λ u. result2_exactly l o t u)))
    (λ τ. (λ h. (h.0, h.2.0, h.1, h.2.1, h.2.2), λ h. (h.0, h.2, (h.1, h.3, h.4))))
infer_exactly Γ (if0 {l} a b c) =
    iff_exactly (found_exactly (infer_exactly Γ a) (λ t. found_exactly (infer_exactly Γ b) (λ u. found_exactly (infer_exactly Γ c)
    (λ v. same_exactly l t (numbers l) (same_exactly l u v some_exactly)))))
    (λ τ. (
      λ h. let q = h.2.2.2 in (rw (← q.0) h.1, rw q.1.1 h.2.1, rw (q.1.1, q.1.0) h.2.2.1),
      λ h. (numbers l, h.0, (τ, h.1, (τ, h.2, (refl, (refl, refl))))),
    ))
infer_exactly Γ (nil {l} t) = some_exactly
infer_exactly Γ (wrong c t) = some_exactly
infer_exactly Γ (ms t a) =
    iff_exactly (found_exactly (infer_exactly Γ a) (λ u. some_exactly)) (λ τ. (λ h. (h.1, h.2), λ h. (tt, h.0, h.1)))
infer_exactly Γ (sm t a) =
    iff_exactly (found_exactly (infer_exactly Γ a) (λ u. same_exactly ml u t some_exactly))
    (λ τ. (λ h. rw h.2.0 at h.1, λ h. (t, h, (refl, refl))))

-- Inference gives a type exactly if the typing does.
pub infer_iff : {l : Lang} (Γ : Lambdas) (e : Term l) (τ : Static l) → (infer Γ e ≡ some τ) ↔ Typed Γ e τ
infer_iff Γ e τ = ((infer_exactly Γ e).right τ, (infer_exactly Γ e).whole τ)

-- "Each ML term has at most one type".
pub one_type : {l : Lang} (Γ : Lambdas) (e : Term l) (τ σ : Static l) → Typed Γ e τ → Typed Γ e σ → τ ≡ σ
one_type Γ e τ σ h k = some-injective τ σ (sym ((infer_iff Γ e τ).1 h) ∙ (infer_iff Γ e σ).1 k)
