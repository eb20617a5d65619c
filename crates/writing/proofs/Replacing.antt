-- Substitution at a node, by its first word: a variable's word that is the one replaced, or a word that stays. Assumes nothing.
use Prim.Native.Nat.{ℕ, suc, ◌%◌}
use mathlib.Core.List.{List, ◌∷◌}
use mathlib.Core.Path.{◌≡◌, refl, sym, ap, ◌∙◌}
use borrow.Author.Tests.{eq-eqb, ne_eqb}
use native.Mathlib.Omega.{arith}
use Rattle.calculus.specs.Trees.{N, L, list, ◌to◌, Lang, ml, sc, is_fun, is_list, is_null, is_num, HD, TL, FIX, NULL?, TEST, APP, ADD}
use Rattle.calculus.specs.Trees.{SUB, CONS, Term, var, num, lam, op1, op2, if0, nil, wrong, ms, sm}
use Rattle.calculus.specs.Words.{word, by, put, put_ty, size}
use Rattle.calculus.specs.Kinds.{Sort, type, term, Tree, put_tree, put_trees, size_tree}
use Rattle.calculus.specs.Reduction.{substitute}
use Rattle.calculus.proofs.Views.{seen, view_type, view_ml, view_sc, view}
use Rattle.calculus.proofs.Substitution.{substitute_word}
use Rattle.std.proofs.Common.{Option, None, Some}
use Rattle.nodes.specs.declared.kinds.Shape.{Shape}
use Rattle.nodes.specs.declared.kinds.Shape.TheVariants as s
use Rattle.nodes.specs.Table.{shape, shape_of, row_of}
use Rattle.nodes.proofs.Lambdas.{at_shape}
use Rattle.writing.specs.Substituted.{in_tree, in_trees}
use Rattle.writing.proofs.Trees.{head_of, shape_is}

-- How many lambdas are between inside a node, where d are outside.
abbrev pub inside : (s : Sort) → Tree s → ℕ → ℕ
inside s t d = at_shape d (suc d) d (shape s t)

-- 1 of a variable, and 0 of any other shape.
abbrev variable_or : Option Shape → ℕ
variable_or None = 0
variable_or (Some x) = at_shape 1 0 0 x

variable_shape : (m : Lang) (d : ℕ) → shape_of (word (by m 16 32) d % 256) ≡ Some s.Variable
unfolding row_of
variable_shape ml d = let e : word 16 d % 256 ≡ 16 = omega arith in ap shape_of e
variable_shape sc d = let e : word 32 d % 256 ≡ 32 = omega arith in ap shape_of e

module _ {m : Lang} (v : Term m) (d : ℕ) where
  at_variable : (l : Lang) (i : ℕ) (k : List ℕ) → word (by l 16 32) i ≡ word (by m 16 32) d → put (substitute v d (var {l = l} i)) k ≡ put v k
  at_variable l i k e = substitute_word m l v d i k ∙ rw (eq-eqb _ _ e)

  hit_shape : (s : Sort) (t : Tree s) → variable_or (Some (shape s t)) ≡ 1 → head_of s t ≡ word (by m 16 32) d → (k : List ℕ)
      → (put_tree s (in_tree v d s t) k ≡ put v k) × (size_tree s t ≡ 1)
  unfolding size view view_ml view_sc seen
  hit_shape type N h e k = absurd (omega (arith, h))
  hit_shape type (L o) h e k = absurd (omega (arith, h))
  hit_shape type (list t) h e k = absurd (omega (arith, h))
  hit_shape type (t to u) h e k = absurd (omega (arith, h))
  hit_shape (term ml) (var i) h e k = (at_variable ml i k e, refl)
  hit_shape (term sc) (var i) h e k = (at_variable sc i k e, refl)
  hit_shape (term l) (num n) h e k = absurd (omega (arith, h))
  hit_shape (term l) (lam t b) h e k = absurd (omega (arith, h))
  hit_shape (term l) (op1 o a) h e k = absurd (omega (arith, h))
  hit_shape (term l) (op2 o a b) h e k = absurd (omega (arith, h))
  hit_shape (term l) (if0 a b c) h e k = absurd (omega (arith, h))
  hit_shape (term l) (nil t) h e k = absurd (omega (arith, h))
  hit_shape (term l) (wrong c t) h e k = absurd (omega (arith, h))
  hit_shape (term l) (ms t a) h e k = absurd (omega (arith, h))
  hit_shape (term l) (sm t a) h e k = absurd (omega (arith, h))

  -- The word replaced: the node is that variable.
  pub hit : (s : Sort) (t : Tree s) → head_of s t ≡ word (by m 16 32) d → (k : List ℕ)
      → (put_tree s (in_tree v d s t) k ≡ put v k) × (size_tree s t ≡ 1)
  hit s t e k =
      let is = sym (shape_is s t) ∙ ap (λ (w : ℕ). shape_of (w % 256)) e ∙ variable_shape m d in
      hit_shape s t (ap variable_or is) e k

  other_variable : (l : Lang) (i : ℕ) (k : List ℕ) → (word (by l 16 32) i ≡ word (by m 16 32) d → ⊥)
      → put (substitute v d (var {l = l} i)) k ≡ word (by l 16 32) i ∷ k
  other_variable l i k h = substitute_word m l v d i k ∙ rw (ne_eqb _ _ h)

  -- Any other word stays, and the variable is replaced in the parts.
  pub miss : (s : Sort) (t : Tree s) → (head_of s t ≡ word (by m 16 32) d → ⊥) → (k : List ℕ)
      → put_tree s (in_tree v d s t) k
      ≡ head_of s t ∷ put_trees (view s t).row.parts (in_trees v (inside s t d) (view s t).row.parts (view s t).parts) k
  unfolding put put_ty substitute view view_type view_ml view_sc seen
  miss type N h k = refl
  miss type (L o) h k = refl
  miss type (list t) h k = refl
  miss type (t to u) h k = refl
  miss (term ml) (var i) h k = other_variable ml i k h
  miss (term ml) (num n) h k = refl
  miss (term ml) (lam t b) h k = refl
  miss (term ml) (op2 APP a b) h k = refl
  miss (term ml) (op1 FIX a) h k = refl
  miss (term ml) (op2 ADD a b) h k = refl
  miss (term ml) (op2 SUB a b) h k = refl
  miss (term ml) (if0 a b c) h k = refl
  miss (term ml) (nil t) h k = refl
  miss (term ml) (op2 CONS a b) h k = refl
  miss (term ml) (op1 HD a) h k = refl
  miss (term ml) (op1 TL a) h k = refl
  miss (term ml) (op1 NULL? a) h k = refl
  miss (term ml) (wrong c t) h k = refl
  miss (term ml) (ms t a) h k = refl
  miss (term sc) (var i) h k = other_variable sc i k h
  miss (term sc) (num n) h k = refl
  miss (term sc) (lam t b) h k = refl
  miss (term sc) (op2 APP a b) h k = refl
  miss (term sc) (op2 ADD a b) h k = refl
  miss (term sc) (op2 SUB a b) h k = refl
  miss (term sc) (if0 a b c) h k = refl
  miss (term sc) (nil t) h k = refl
  miss (term sc) (op2 CONS a b) h k = refl
  miss (term sc) (op1 HD a) h k = refl
  miss (term sc) (op1 TL a) h k = refl
  miss (term sc) (op1 (TEST is_fun) a) h k = refl
  miss (term sc) (op1 (TEST is_list) a) h k = refl
  miss (term sc) (op1 (TEST is_null) a) h k = refl
  miss (term sc) (op1 (TEST is_num) a) h k = refl
  miss (term sc) (wrong c t) h k = refl
  miss (term sc) (sm t a) h k = refl
