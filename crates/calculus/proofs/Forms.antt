-- Cases on the form of a value, as the rules make them: what holds of the form asked for holds there, and elsewhere the form is another.
-- Assumes nothing.
use Prim.Native.Nat.{ℕ}
use mathlib.Core.Path.{◌≡◌}
use native.Mathlib.Omega.{arith}
use Rattle.calculus.specs.Trees.{Lang, ml, sc, Static, Term}
use Rattle.calculus.specs.Reduction.{Form, number, lambda, nil_form, cons_form, sealed, other, Became, on_number, on_lambda, on_list, on_lump}

-- The classes that the rules tell apart: numbers, functions, lists, lumps.
abbrev pub class : {l : Lang} → Form l → ℕ
class (number n) = 0
class (lambda t b) = 1
class (nil_form t) = 2
class (cons_form v w) = 2
class (sealed u v) = 3
class other = 4

module _ {m : Lang} (P : Became m → Type 0) (o : Became m) where
  -- P of what becomes of a value, by its form f; R is what is known of the form.
  pub on_number_lem : {l : Lang} (R : Form l → Type 0) (f : Form l) (k : ℕ → Became m) → R f → ((class f ≡ 0 → ⊥) → P o)
      → ((n : ℕ) → R (number n) → P (k n)) → P (on_number f o k)
  unfolding on_number
  on_number_lem R (number n) k h ne p = p n h
  on_number_lem R (lambda t b) k h ne p = ne (omega arith)
  on_number_lem R (nil_form t) k h ne p = ne (omega arith)
  on_number_lem R (cons_form v w) k h ne p = ne (omega arith)
  on_number_lem R (sealed u v) k h ne p = ne (omega arith)
  on_number_lem R other k h ne p = ne (omega arith)

  pub on_lambda_lem : {l : Lang} (R : Form l → Type 0) (f : Form l) (k : Static l → Term l → Became m) → R f → ((class f ≡ 1 → ⊥) → P o)
      → ((t : Static l) (b : Term l) → R (lambda t b) → P (k t b)) → P (on_lambda f o k)
  unfolding on_lambda
  on_lambda_lem R (number n) k h ne p = ne (omega arith)
  on_lambda_lem R (lambda t b) k h ne p = p t b h
  on_lambda_lem R (nil_form t) k h ne p = ne (omega arith)
  on_lambda_lem R (cons_form v w) k h ne p = ne (omega arith)
  on_lambda_lem R (sealed u v) k h ne p = ne (omega arith)
  on_lambda_lem R other k h ne p = ne (omega arith)

  pub on_list_lem : {l : Lang} (R : Form l → Type 0) (f : Form l) (e : Static l → Became m) (k : Term l → Term l → Became m) → R f
      → ((class f ≡ 2 → ⊥) → P o) → ((t : Static l) → R (nil_form t) → P (e t)) → ((v w : Term l) → R (cons_form v w) → P (k v w)) → P
      (on_list f o e k)
  unfolding on_list
  on_list_lem R (number n) e k h ne p q = ne (omega arith)
  on_list_lem R (lambda t b) e k h ne p q = ne (omega arith)
  on_list_lem R (nil_form t) e k h ne p q = p t h
  on_list_lem R (cons_form v w) e k h ne p q = q v w h
  on_list_lem R (sealed u v) e k h ne p q = ne (omega arith)
  on_list_lem R other e k h ne p q = ne (omega arith)

  pub on_lump_lem : (R : Form ml → Type 0) (f : Form ml) (k : ℕ → Term sc → Became m) → R f → ((class f ≡ 3 → ⊥) → P o)
      → ((u : ℕ) (v : Term sc) → R (sealed u v) → P (k u v)) → P (on_lump f o k)
  unfolding on_lump
  on_lump_lem R (number n) k h ne p = ne (omega arith)
  on_lump_lem R (lambda t b) k h ne p = ne (omega arith)
  on_lump_lem R (nil_form t) k h ne p = ne (omega arith)
  on_lump_lem R (cons_form v w) k h ne p = ne (omega arith)
  on_lump_lem R (sealed u v) k h ne p = p u v h
  on_lump_lem R other k h ne p = ne (omega arith)
