-- `substitute`, which moves no variable, is the ordinary substitution wherever the reduction of a closed term uses it, and it goes by the
-- variable's word. Assumes nothing.
use Prim.Native.Nat.{ℕ, zero, suc, ◌-◌, ◌≤◌, ◌<◌}
use mathlib.Core.Bool.{Bool, true, false, cond}
use mathlib.Core.List.{List, [], ◌∷◌}
use mathlib.Core.Path.{◌≡◌, refl, ap}
use lib.Dec.{T, eqb, leb}
use lib.ListN.{length}
use borrow.Author.Tests.{eqb-true, eqb-false, le-leb, lt-leb, eq-eqb, ne_eqb}
use native.Mathlib.Omega.{arith}
use Rattle.calculus.specs.Trees.{Lang, ml, sc, Term, var, num, lam, op1, op2, if0, nil, wrong, ms, sm}
use Rattle.calculus.specs.Words.{word, by, put}
use Rattle.calculus.specs.Scope.{lambda_at, Scoped}
use Rattle.calculus.specs.Reduction.{replaced, substitute, Frame, under, first, second, tested, into_ml, into_scheme, plug, Context, here, within}
use Rattle.calculus.specs.Reduction.{fill}
use Rattle.calculus.specs.Substitution.{shift, for_own, ordinary}

-- A variable that has its lambda among Γ counts fewer than Γ has.
below : (Γ : List Lang) (i : ℕ) (l : Lang) → T (lambda_at Γ i l) → i < length Γ
below [] i l h = absurd h
below (m ∷ Γ) zero l h = omega arith
below (m ∷ Γ) (suc i) l h = omega (arith, below Γ i l h)

-- A term in scope under Γ has no variable further out to shift.
shift_scoped : {l : Lang} (d : ℕ) (Γ : List Lang) (e : Term l) → Scoped Γ e → shift d (length Γ) e ≡ e
unfolding shift
shift_scoped d Γ (var {l} i) h = rw (lt-leb (length Γ) i (below Γ i l h))
shift_scoped d Γ (num n) h = refl
shift_scoped d Γ (lam {l} t b) h = ap (lam t) (shift_scoped d (l ∷ Γ) b h)
shift_scoped d Γ (op1 o a) h = ap (op1 o) (shift_scoped d Γ a h)
shift_scoped d Γ (op2 o a b) h = rw (shift_scoped d Γ a h.0, shift_scoped d Γ b h.1)
shift_scoped d Γ (if0 a b c) h = rw (shift_scoped d Γ a h.0, shift_scoped d Γ b h.1, shift_scoped d Γ c h.2)
shift_scoped d Γ (nil t) h = refl
shift_scoped d Γ (wrong c t) h = refl
shift_scoped d Γ (ms t a) h = ap (ms t) (shift_scoped d Γ a h)
shift_scoped d Γ (sm t a) h = ap (sm t) (shift_scoped d Γ a h)

-- A closed term is the same under more lambdas: the function that ms and sm wrap in a new lambda needs no shift.
pub closed_shift : {l : Lang} (d : ℕ) (e : Term l) → Scoped [] e → shift d 0 e ≡ e
closed_shift d e h = shift_scoped d [] e h

own_only : (m l : Lang) (u : Term m) (i : ℕ) → replaced m l u i ≡ for_own m l u (var i)
own_only ml ml u i = refl
own_only ml sc u i = refl
own_only sc ml u i = refl
own_only sc sc u i = refl

module _ {m : Lang} (u : Term m) (closed : Scoped [] u) where
  at_variable : {l : Lang} (i k : ℕ) (b : Bool) → i ≤ k
      → cond b (replaced m l u i) (var i) ≡ cond b (for_own m l (shift k 0 u) (var i)) (cond (leb i k) (var i) (var (i - 1)))
  at_variable {l} i k true h = rw (closed_shift k u closed) (own_only m l u i)
  at_variable i k false h = rw (le-leb i k h)

  -- k lambdas have been passed on the way in, and Γ are those and the one that goes.
  substitute_under : {l : Lang} (k : ℕ) (Γ : List Lang) (e : Term l) → length Γ ≡ suc k → Scoped Γ e → substitute u k e ≡ ordinary u k e
  unfolding substitute ordinary
  substitute_under k Γ (var {l} i) q h = at_variable i k (eqb i k) (omega (arith, below Γ i l h))
  substitute_under k Γ (num n) q h = refl
  substitute_under k Γ (lam {l} t b) q h = ap (lam t) (substitute_under (suc k) (l ∷ Γ) b (ap suc q) h)
  substitute_under k Γ (op1 o a) q h = ap (op1 o) (substitute_under k Γ a q h)
  substitute_under k Γ (op2 o a b) q h = rw (substitute_under k Γ a q h.0, substitute_under k Γ b q h.1)
  substitute_under k Γ (if0 a b c) q h = rw (substitute_under k Γ a q h.0, substitute_under k Γ b q h.1, substitute_under k Γ c q h.2)
  substitute_under k Γ (nil t) q h = refl
  substitute_under k Γ (wrong c t) q h = refl
  substitute_under k Γ (ms t a) q h = ap (ms t) (substitute_under k Γ a q h)
  substitute_under k Γ (sm t a) q h = ap (sm t) (substitute_under k Γ a q h)

-- A closed term for the one variable of a term in scope under its lambda.
pub substitute_ordinary : {m l : Lang} (u : Term m) (b : Term l) → Scoped [] u → Scoped (m ∷ []) b → substitute u 0 b ≡ ordinary u 0 b
substitute_ordinary {m} u b hu hb = substitute_under u hu 0 (m ∷ []) b refl hb

plug_closed : {m l : Lang} (f : Frame m l) (a : Term m) → Scoped [] (plug f a) → Scoped [] a
plug_closed (under o) a h = h
plug_closed (first o b) a h = h.0
plug_closed (second o b) a h = h.1
plug_closed (tested b c) a h = h.0
plug_closed (into_ml t) a h = h
plug_closed (into_scheme t) a h = h

-- What stands in a closed term where evaluation goes is closed: no frame is a lambda.
pub fill_closed : {m l : Lang} (F : Context m l) (n : Term m) → Scoped [] (fill F n) → Scoped [] n
unfolding fill
fill_closed here n h = h
fill_closed (within f F) n h = fill_closed F n (plug_closed f (fill F n) h)

-- A variable is replaced exactly if its word is that of the variable replaced: of the same language, and with as many lambdas between.
word_eqb : (n i k : ℕ) (b : Bool) → eqb i k ≡ b → eqb (word n i) (word n k) ≡ b
word_eqb n i k true q = eq-eqb (word n i) (word n k) (ap (word n) (eqb-true i k q))
word_eqb n i k false q = ne_eqb (word n i) (word n k) (λ e. eqb-false i k q (omega (arith, e)))

own_word : (l : Lang) (u : Term l) (k i : ℕ) (b : Bool) (ws : List ℕ) → eqb i k ≡ b
    → put (cond b u (var i)) ws ≡ cond (eqb (word (by l 16 32) i) (word (by l 16 32) k)) (put u ws) (word (by l 16 32) i ∷ ws)
unfolding put
own_word l u k i true ws q = rw (word_eqb (by l 16 32) i k true q)
own_word l u k i false ws q = rw (word_eqb (by l 16 32) i k false q)

other_word : (l : Lang) (i : ℕ) (b : Bool) (ws : List ℕ) → put {l = l} (cond b (var i) (var i)) ws ≡ word (by l 16 32) i ∷ ws
unfolding put
other_word l i true ws = refl
other_word l i false ws = refl

pub substitute_word : (m l : Lang) (u : Term m) (k i : ℕ) (ws : List ℕ)
    → put (substitute u k (var {l = l} i)) ws ≡ cond (eqb (word (by l 16 32) i) (word (by m 16 32) k)) (put u ws) (word (by l 16 32) i ∷ ws)
unfolding substitute
substitute_word ml ml u k i ws = own_word ml u k i (eqb i k) ws refl
substitute_word ml sc u k i ws = rw (ne_eqb (word 32 i) (word 16 k) (λ e. omega (arith, e))) (other_word sc i (eqb i k) ws)
substitute_word sc ml u k i ws = rw (ne_eqb (word 16 i) (word 32 k) (λ e. omega (arith, e))) (other_word ml i (eqb i k) ws)
substitute_word sc sc u k i ws = own_word sc u k i (eqb i k) ws refl
