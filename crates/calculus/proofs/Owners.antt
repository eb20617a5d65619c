-- Document 02, "Lumps with owners". Assumes nothing.
use Prim.Native.Nat.{ℕ}
use mathlib.Core.Bool.{Bool, true, false, cond}
use mathlib.Core.List.{List, [], ◌++◌, append_assoc}
use mathlib.Core.Logic.{◌↔◌}
use mathlib.Core.Path.{◌≡◌, refl, sym, ap, ◌∙◌}
use lib.Dec.{eqb}
use borrow.Author.Tests.{eqb-true}
use native.Mathlib.Omega.{arith}
use Rattle.calculus.specs.Trees.{Ty, N, L, list, ◌to◌, ml, sc, Term, ms, sm, app}
use Rattle.calculus.specs.Words.{put_ty}
use Rattle.calculus.specs.Scope.{Scoped}
use Rattle.calculus.specs.Typing.{Lambdas, Typed}
use Rattle.calculus.specs.Reduction.{form, Became, becomes, raises, nothing, on_lump, to_scheme, contract}
use Rattle.calculus.specs.Rules.{Value, lam_v, num_v, nil_v, cons_v, lump_v, ◌⊢◌⇒◌, sm_lump, stay, then}
use Rattle.calculus.specs.Owners.{owners, ownerless, Owners}
use Rattle.calculus.proofs.Inference.{one_type}
use Rattle.calculus.proofs.Types.{kind_ty, by_pairs}
use Rattle.calculus.proofs.Contraction.{rule_iff}
use Rattle.calculus.proofs.Reaching.{into_ml_lem, rule}

kind_kept : (t : Ty) → kind_ty (ownerless t) ≡ kind_ty t
unfolding ownerless
kind_kept N = refl
kind_kept (L o) = refl
kind_kept (list t) = refl
kind_kept (t to u) = refl

-- The owners of one type, and then j, are those of another, and then k.
told_by_owners : (t u : Ty) (j k : List ℕ) → ownerless t ≡ ownerless u → owners t ++ j ≡ owners u ++ k → (t ≡ u) × (j ≡ k)
unfolding owners ownerless
told_by_owners =
    by_pairs (λ t u. (j k : List ℕ) → ownerless t ≡ ownerless u → owners t ++ j ≡ owners u ++ k → (t ≡ u) × (j ≡ k))
    (λ j k p q. (refl, q))
    (λ o u j k p q. (cc, cc))
    (λ t u h j k p q. let x = h j k (cc) q in (ap list x.0, x.1))
    (λ s t u v h g j k p q.
    let a = append_assoc (owners s) (owners t) j in
    let b = append_assoc (owners u) (owners v) k in
    let x = h (owners t ++ j) (owners v ++ k) (cc) (sym a ∙ q ∙ b) in
    let y = g j k (cc) x.1 in
    (rw (x.0, y.0), y.1))
    (λ t u n j k p q. absurd (n (sym (kind_kept t) ∙ ap kind_ty p ∙ kind_kept u)))

equal : (t u : Ty) → (t ≡ u) ↔ ((ownerless t ≡ ownerless u) × (owners t ≡ owners u))
equal t u = (λ e. (ap ownerless e, ap owners e), λ h. (told_by_owners t u [] [] h.0 (ap (λ (x : List ℕ). x ++ []) h.1)).0)

-- A value of an owner's L.
value_sealed : (o : ℕ) (v : Term ml) → Typed [] v (L o) → Value ml v → (w : Term sc) × Value sc w × (v ≡ ms (L o) w)
value_sealed o v h lam_v = absurd (omega (arith, ap kind_ty h.2))
value_sealed o v h num_v = absurd (omega (arith, ap kind_ty h))
value_sealed o v h nil_v = absurd (omega (arith, ap kind_ty h))
value_sealed o v h (cons_v a b) = absurd (omega (arith, ap kind_ty h.4.1))
value_sealed o v h (lump_v {v = w} a) = (w, a, ap (λ (t : Ty). ms t w) (sym h.1))

-- What sm at an owner's L takes.
abbrev is_made : Became sc → ℕ
is_made (becomes r) = 1
is_made (raises c) = 0
is_made nothing = 0

opened_own : (o : ℕ) (e : Term ml) (r : Term sc) → Value ml e → contract (sm (L o) e) ≡ becomes r → Value sc r × (e ≡ ms (L o) r)
unfolding contract to_scheme on_lump form
opened_own o e r lam_v q = absurd (omega (arith, ap is_made q))
opened_own o e r num_v q = absurd (omega (arith, ap is_made q))
opened_own o e r nil_v q = absurd (omega (arith, ap is_made q))
opened_own o e r (cons_v a b) q = absurd (omega (arith, ap is_made q))
opened_own o e r (lump_v {o = u} {v = w} a) q = by (eqb o u) refl q
  where
    by : (b : Bool) → eqb o u ≡ b → cond b (becomes w) nothing ≡ becomes r → Value sc r × (ms (L u) w ≡ ms (L o) r)
    by true p x = let y : w ≡ r = cc in (rw (← y) a, rw (eqb-true o u p, y))
    by false p x = absurd (omega (arith, ap is_made x))

own_made : (o : ℕ) (e : Term ml) (r : Term sc) → Scoped [] e → sc ⊢ sm (L o) e ⇒ r → Value sc r × (e ≡ ms (L o) r)
own_made o e r s h = let x = (rule_iff (sm (L o) e) r s).1 h in opened_own o e r x.0 x.1

-- What takes one owner's lump is not given another's.
module _ (o u : ℕ) (n : ¬ (o ≡ u)) (Γ : Lambdas) (e : Term ml) (h : Typed Γ e (L u)) where
  not_opened : ¬ Typed Γ (sm (L o) e) tt
  not_opened k = let q = one_type Γ e (L o) (L u) k h in n (cc)

  not_taken : (f : Term ml) (t : Ty) → Typed Γ f (L o to t) → (τ : Ty) → ¬ Typed Γ (app f e) τ
  not_taken f t k τ x =
      let p = one_type Γ f x.0 (L o to t) x.2 k in
      let q = one_type Γ e x.1 (L u) x.3 h in
      let r = x.4 in
      n (cc)

pub lumps_with_owners : Owners
unfolding put_ty
lumps_with_owners =
    record {
      so_far = refl;
      equal = equal;
      values = λ o v h. (value_sealed o v h, λ x. rw x.2 (lump_v x.1));
      own = λ o e r s. (own_made o e r s, λ x. rw x.1 (sm_lump x.0));
      resealed = λ o u v a h. (((h, refl), refl), then (into_ml_lem (L u) _ _ (rule (sm_lump a))) stay);
      not_given = λ o u n Γ e h. (not_opened o u n Γ e h, not_taken o u n Γ e h);
    }
