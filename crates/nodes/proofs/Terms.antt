-- Terms by their shape: a match at a shape leaves the clauses of that shape alone. Assumes nothing.
use Prim.Native.Nat.{ℕ, ◌%◌}
use mathlib.Core.List.{List}
use mathlib.Core.Path.{◌≡◌, sym, ap, ◌∙◌, subst}
use lib.ListN.{get_or}
use Rattle.std.proofs.Common.{Option, Some, unwrap_or}
use Rattle.calculus.specs.Trees.{Ty, Lang, ml, sc, Static, Op1, Op2, Term, var, num, lam, op1, op2, if0, nil, wrong, ms, sm}
use Rattle.calculus.specs.Words.{put}
use Rattle.calculus.specs.Kinds.{term}
use Rattle.nodes.specs.declared.kinds.Shape.{Shape}
use Rattle.nodes.specs.declared.kinds.Shape.TheVariants as s
use Rattle.nodes.specs.Table.{operator1, operator2, shape, shape_of}
use Rattle.nodes.proofs.Shapes.{shape_first}

-- A term by its shape.
pub data Shaped : (l : Lang) → Shape → Term l → Type 0 where
  a_variable : {l : Lang} {i : ℕ} → Shaped l s.Variable (var i)
  a_number : {l : Lang} {n : ℕ} → Shaped l s.Number (num n)
  a_lambda : {l : Lang} {t : Static l} {b : Term l} → Shaped l s.Lambda (lam t b)
  one_part : {l : Lang} (o : Op1 l) (a : Term l) → Shaped l (s.Operator1 (operator1 o)) (op1 o a)
  two_parts : {l : Lang} (o : Op2) (a b : Term l) → Shaped l (s.Operator2 (operator2 o)) (op2 o a b)
  an_if0 : {l : Lang} (a b c : Term l) → Shaped l s.If0 (if0 a b c)
  a_nil : {l : Lang} {t : Static l} → Shaped l s.Nil (nil t)
  a_wrong : {l : Lang} (c : ℕ) (t : Static l) → Shaped l s.Wrong (wrong c t)
  an_ms : (t : Ty) (a : Term sc) → Shaped ml s.Boundary (ms t a)
  an_sm : (t : Ty) (a : Term ml) → Shaped sc s.Boundary (sm t a)

shaped : (l : Lang) (e : Term l) → Shaped l (shape (term l) e) e
shaped l (var i) = a_variable
shaped l (num n) = a_number
shaped l (lam t b) = a_lambda
shaped l (op1 o a) = one_part o a
shaped l (op2 o a b) = two_parts o a b
shaped l (if0 a b c) = an_if0 a b c
shaped l (nil t) = a_nil
shaped l (wrong c t) = a_wrong c t
shaped ml (ms t a) = an_ms t a
shaped sc (sm t a) = an_sm t a

-- The term that stands at the start of the words, by the shape of their first word.
pub by_shape : (l : Lang) (e : Term l) (k ws : List ℕ) → ws ≡ put e k → (x : Shape) → shape_of (get_or ws 0 0 % 256) ≡ Some x → Shaped l x e
by_shape l e k ws q x h =
    subst (λ (y : Shape). Shaped l y e) (ap (λ (o : Option Shape). unwrap_or o x)
    (sym (shape_first (term l) e k) ∙ ap (λ (v : List ℕ). shape_of (get_or v 0 0 % 256)) (sym q) ∙ h)) (shaped l e)
