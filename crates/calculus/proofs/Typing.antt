-- Laws of the typing: what has a type is in scope, more lambdas outside change no type, and a closed term of the type written at the
-- outermost lambda may stand for its variable. Assumes nothing.
use Prim.Native.Nat.{ℕ, zero, suc}
use mathlib.Core.Bool.{Bool, true, false, cond}
use mathlib.Core.List.{List, [], ◌∷◌, ◌++◌}
use mathlib.Core.Path.{◌≡◌, refl, ap, subst}
use lib.Dec.{T, eqb}
use lib.ListN.{length}
use borrow.Author.Tests.{eqb-true, eqb-false}
use Rattle.calculus.specs.Trees.{Lang, ml, sc, Static, Term, var, num, lam, op1, op2, if0, nil, wrong, ms, sm}
use Rattle.calculus.specs.Scope.{same_lang, lambda_at, Scoped}
use Rattle.calculus.specs.Typing.{Entry, of, Lambdas, At, Typed}
use Rattle.calculus.specs.Reduction.{replaced, substitute}

-- The languages of the lambdas around a place.
abbrev pub language : Entry → Lang
language (of l t) = l

abbrev pub languages : Lambdas → List Lang
languages [] = []
languages (x ∷ Γ) = language x ∷ languages Γ

same_own : (l : Lang) → T (same_lang l l)
same_own ml = tt
same_own sc = tt

at_scoped : (Γ : Lambdas) (i : ℕ) (l : Lang) (τ : Static l) → At Γ i l τ → T (lambda_at (languages Γ) i l)
at_scoped [] i l τ h = absurd h
at_scoped (x ∷ Γ) zero l τ h = rw h (same_own l)
at_scoped (x ∷ Γ) (suc i) l τ h = at_scoped Γ i l τ h

-- What has a type is in scope.
pub typed_scoped : {l : Lang} (Γ : Lambdas) (e : Term l) (τ : Static l) → Typed Γ e τ → Scoped (languages Γ) e
typed_scoped Γ (var {l} i) τ h = at_scoped Γ i l τ h
typed_scoped Γ (num n) τ h = tt
typed_scoped Γ (lam {l} t b) τ h = typed_scoped (of l t ∷ Γ) b h.0 h.1
typed_scoped Γ (op1 o a) τ h = typed_scoped Γ a h.0 h.1
typed_scoped Γ (op2 o a b) τ h = (typed_scoped Γ a h.0 h.2, typed_scoped Γ b h.1 h.3)
typed_scoped Γ (if0 a b c) τ h = (typed_scoped Γ a _ h.0, typed_scoped Γ b τ h.1, typed_scoped Γ c τ h.2)
typed_scoped Γ (nil t) τ h = tt
typed_scoped Γ (wrong c t) τ h = tt
typed_scoped Γ (ms t a) τ h = typed_scoped Γ a tt h.0
typed_scoped Γ (sm t a) τ h = typed_scoped Γ a t h

at_outside : (Γ Δ : Lambdas) (i : ℕ) (l : Lang) (τ : Static l) → At Γ i l τ → At (Γ ++ Δ) i l τ
at_outside [] Δ i l τ h = absurd h
at_outside (x ∷ Γ) Δ zero l τ h = h
at_outside (x ∷ Γ) Δ (suc i) l τ h = at_outside Γ Δ i l τ h

-- More lambdas outside change no type.
pub weaken : (Γ Δ : Lambdas) {l : Lang} (e : Term l) (τ : Static l) → Typed Γ e τ → Typed (Γ ++ Δ) e τ
weaken Γ Δ (var {l} i) τ h = at_outside Γ Δ i l τ h
weaken Γ Δ (num n) τ h = h
weaken Γ Δ (lam {l} t b) τ h = (h.0, weaken (of l t ∷ Γ) Δ b h.0 h.1, h.2)
weaken Γ Δ (op1 o a) τ h = (h.0, weaken Γ Δ a h.0 h.1, h.2)
weaken Γ Δ (op2 o a b) τ h = (h.0, h.1, weaken Γ Δ a h.0 h.2, weaken Γ Δ b h.1 h.3, h.4)
weaken Γ Δ (if0 a b c) τ h = (weaken Γ Δ a _ h.0, weaken Γ Δ b τ h.1, weaken Γ Δ c τ h.2)
weaken Γ Δ (nil t) τ h = h
weaken Γ Δ (wrong c t) τ h = h
weaken Γ Δ (ms t a) τ h = (weaken Γ Δ a tt h.0, h.1)
weaken Γ Δ (sm t a) τ h = weaken Γ Δ a t h

-- A variable is of the outermost lambda, or of one of the others.
at_outermost : (Γ : Lambdas) (x : Entry) (l : Lang) (τ : Static l) → At (Γ ++ x ∷ []) (length Γ) l τ → x ≡ of l τ
at_outermost [] x l τ h = h
at_outermost (y ∷ Γ) x l τ h = at_outermost Γ x l τ h

at_others : (Γ : Lambdas) (x : Entry) (i : ℕ) (l : Lang) (τ : Static l) → (i ≡ length Γ → ⊥) → At (Γ ++ x ∷ []) i l τ → At Γ i l τ
at_others [] x zero l τ ne h = ne refl
at_others [] x (suc i) l τ ne h = h
at_others (y ∷ Γ) x zero l τ ne h = h
at_others (y ∷ Γ) x (suc i) l τ ne h = at_others Γ x i l τ (λ q. ne (ap suc q)) h

-- What stands for the variable of a lambda has the type written there, in the language of the lambda.
abbrev Replaces : (m : Lang) → Term m → ℕ → Entry → Type 0
Replaces m v i (of l τ) = Typed [] (replaced m l v i) τ

replaced_own : (m : Lang) (v : Term m) (i : ℕ) (σ : Static m) → Typed [] v σ → Replaces m v i (of m σ)
replaced_own ml v i σ h = h
replaced_own sc v i σ h = h

module _ {m : Lang} (v : Term m) (σ : Static m) (hv : Typed [] v σ) where
  substitute_var : (Γ : Lambdas) (l : Lang) (i : ℕ) (τ : Static l) (b : Bool) → eqb i (length Γ) ≡ b → At (Γ ++ of m σ ∷ []) i l τ
      → Typed Γ (cond b (replaced m l v i) (var i)) τ
  substitute_var Γ l i τ true q h =
      let own = at_outermost Γ (of m σ) l τ (rw (eqb-true i (length Γ) q) at h) in
      weaken [] Γ (replaced m l v i) τ (subst (Replaces m v i) own (replaced_own m v i σ hv))
  substitute_var Γ l i τ false q h = at_others Γ (of m σ) i l τ (eqb-false i (length Γ) q) h

  -- A closed term of the type written at the outermost lambda stands for its variable, at any depth.
  pub substitute_typed : (Γ : Lambdas) {l : Lang} (e : Term l) (τ : Static l) → Typed (Γ ++ of m σ ∷ []) e τ
      → Typed Γ (substitute v (length Γ) e) τ
  unfolding substitute
  substitute_typed Γ (var {l} i) τ h = substitute_var Γ l i τ _ refl h
  substitute_typed Γ (num n) τ h = h
  substitute_typed Γ (lam {l} t b) τ h = (h.0, substitute_typed (of l t ∷ Γ) b h.0 h.1, h.2)
  substitute_typed Γ (op1 o a) τ h = (h.0, substitute_typed Γ a h.0 h.1, h.2)
  substitute_typed Γ (op2 o a b) τ h = (h.0, h.1, substitute_typed Γ a h.0 h.2, substitute_typed Γ b h.1 h.3, h.4)
  substitute_typed Γ (if0 a b c) τ h = (substitute_typed Γ a _ h.0, substitute_typed Γ b τ h.1, substitute_typed Γ c τ h.2)
  substitute_typed Γ (nil t) τ h = h
  substitute_typed Γ (wrong c t) τ h = h
  substitute_typed Γ (ms t a) τ h = (substitute_typed Γ a tt h.0, h.1)
  substitute_typed Γ (sm t a) τ h = substitute_typed Γ a t h
