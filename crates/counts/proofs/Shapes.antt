-- The class of a word is that of its kind's shape. Assumes nothing.
use Rattle.std.proofs.Common.{ℕ, ◌%◌, ◌≤◌, Option, Some, ◌≡◌, refl, sym, ap, ◌∙◌, arith}
use borrow.Author.Tests.{ne_eqb}
use Rattle.calculus.specs.Classes.{Class, call, conversion, other, kind_class, word_class}
use Rattle.nodes.specs.declared.kinds.Operator1.TheVariants.{Fix}
use Rattle.nodes.specs.declared.kinds.Operator2.TheVariants.{Apply}
use Rattle.nodes.specs.declared.kinds.Shape.{Shape}
use Rattle.nodes.specs.declared.kinds.Shape.TheVariants as s
use Rattle.nodes.specs.Table.{row_of, rows, shape_of}
use Rattle.nodes.proofs.Table.{every_kind, past}

-- The class by the shape.
abbrev pub shape_class : Option Shape → Class
shape_class (Some (s.Operator1 Fix)) = call
shape_class (Some (s.Operator2 Apply)) = call
shape_class (Some s.Boundary) = conversion
shape_class o = other

-- A word is of the class of its kind's shape.
class_is : (w : ℕ) → shape_class (shape_of (w % 256)) ≡ word_class w
unfolding row_of
class_is w = every_kind (λ k. shape_class (shape_of k)) kind_class refl far (w % 256)
  where
    far : (k : ℕ) → rows ≤ k → shape_class (shape_of k) ≡ kind_class k
    far k h =
        rw (
          past k h,
          ne_eqb k 19 (λ e. omega arith),
          ne_eqb k 20 (λ e. omega arith),
          ne_eqb k 35 (λ e. omega arith),
          ne_eqb k 30 (λ e. omega arith),
          ne_eqb k 45 (λ e. omega arith),
        )

-- The same, of a shape that is found, by its class.
pub class_found : (w : ℕ) (o : Option Shape) (x : Class) → o ≡ shape_of (w % 256) → shape_class o ≡ x → x ≡ word_class w
class_found w o x found e = sym e ∙ ap shape_class found ∙ class_is w
