-- The type by its first word: what is told at that type is told of the boundary. Assumes nothing.
use Prim.Native.Nat.{ℕ, ◌%◌, ◌<◌}
use mathlib.Core.List.{List, []}
use mathlib.Core.Path.{◌≡◌, sym, ap, ◌∙◌}
use lib.ListN.{length, get_or, drop}
use native.Mathlib.Omega.{arith}
use Rattle.std.proofs.Common.{Option, None, Some, unwrap_or}
use Rattle.calculus.specs.Trees.{Ty, N, L, list, ◌to◌}
use Rattle.calculus.specs.Words.{put_ty, words_ty}
use Rattle.calculus.specs.Kinds.{type}
use Rattle.nodes.specs.declared.kinds.Language.{Language}
use Rattle.nodes.specs.declared.kinds.Shape.{Shape}
use Rattle.nodes.specs.declared.kinds.Shape.TheVariants as s
use Rattle.nodes.specs.Table.{shape, shape_of}
use Rattle.nodes.proofs.Shapes.{shape_first}
use Rattle.pieces.specs.declared.became.Became.{Became}
use Rattle.pieces.specs.declared.became.Became.TheVariants.{Nothing}
use Rattle.conversions.specs.Chosen.{AtType, AtLump, AtList, AtFunction, OfBoundary}

-- The shape of a type's first word.
first : (ts : List ℕ) (t : Ty) → ts ≡ words_ty t → shape_of (get_or ts 0 0 % 256) ≡ Some (shape type t)
first ts t p = ap (λ (x : List ℕ). shape_of (get_or x 0 0 % 256)) p ∙ shape_first type t []

module _ {i : Language} {ts vs : List ℕ} {r : Became} where
  -- What is told at each type that has the shape.
  at_shape : {o : Option Shape} {x : Shape} → o ≡ shape_of (get_or ts 0 0 % 256) → o ≡ Some x
      → ((t : Ty) → x ≡ shape type t → ts ≡ words_ty t → AtType i ts vs r t) → OfBoundary i ts vs r
  at_shape {o} {x} h g f =
      record {
        of = λ t. record {
          of = λ v p q. (f t (ap (λ (y : Option Shape). unwrap_or y x) (sym g ∙ h ∙ first ts t p)) p).of v p q;
        };
      }

  by_N : AtType i ts vs r N → (t : Ty) → s.Numbers ≡ shape type t → AtType i ts vs r t
  by_N g N e = g
  by_N g (L o) e = cc
  by_N g (list t) e = cc
  by_N g (t to u) e = cc

  by_L : AtLump i (get_or ts 0 0) vs r → (t : Ty) → s.Lump ≡ shape type t → ts ≡ words_ty t → AtType i ts vs r t
  unfolding put_ty
  by_L g N e p = cc
  by_L g (L o) e p = record { of = λ v p q. g.of o (ap (λ (x : List ℕ). get_or x 0 0) p) v q }
  by_L g (list t) e p = cc
  by_L g (t to u) e p = cc

  by_list : {ps : List ℕ} → ps ≡ drop 1 ts → AtList i ts ps vs r → (t : Ty) → s.List ≡ shape type t → ts ≡ words_ty t → AtType i ts vs r t
  unfolding put_ty
  by_list h g N e p = cc
  by_list h g (L o) e p = cc
  by_list h g (list t) e p = g.of t (h ∙ ap (drop 1) p)
  by_list h g (t to u) e p = cc

  by_to : {ps : List ℕ} → ps ≡ drop 1 ts → AtFunction i ts ps vs r → (t : Ty) → s.Function ≡ shape type t → ts ≡ words_ty t → AtType i ts vs r t
  unfolding put_ty
  by_to h g N e p = cc
  by_to h g (L o) e p = cc
  by_to h g (list t) e p = cc
  by_to h g (t to u) e p = g.of t u (h ∙ ap (drop 1) p)

  module _ {o : Option Shape} (o_is : o ≡ shape_of (get_or ts 0 0 % 256)) where
    pub at_N : o ≡ Some s.Numbers → AtType i ts vs r N → OfBoundary i ts vs r
    at_N e g = at_shape o_is e (λ t k p. by_N g t k)

    pub at_L : o ≡ Some s.Lump → AtLump i (get_or ts 0 0) vs r → OfBoundary i ts vs r
    at_L e g = at_shape o_is e (by_L g)

    module _ {ps : List ℕ} (ps_is : ps ≡ drop 1 ts) where
      pub at_list_lem : o ≡ Some s.List → AtList i ts ps vs r → OfBoundary i ts vs r
      at_list_lem e g = at_shape o_is e (by_list ps_is g)

      pub at_to : o ≡ Some s.Function → AtFunction i ts ps vs r → OfBoundary i ts vs r
      at_to e g = at_shape o_is e (by_to ps_is g)

no_type : (x : Shape) → (x ≡ s.Numbers → ⊥) → (x ≡ s.Lump → ⊥) → (x ≡ s.List → ⊥) → (x ≡ s.Function → ⊥) → (t : Ty) → x ≡ shape type t → ⊥
no_type x a b c d N e = a e
no_type x a b c d (L o) e = b e
no_type x a b c d (list t) e = c e
no_type x a b c d (t to u) e = d e

module _ {i : Language} {ts vs : List ℕ} {o : Option Shape} (o_is : o ≡ shape_of (get_or ts 0 0 % 256)) where
  -- No kind's word, or one of no type.
  pub at_unknown : o ≡ None → OfBoundary i ts vs Nothing
  at_unknown e =
      record { of = λ t. record { of = λ v p q. let z : None ≡ Some (shape type t) = sym e ∙ o_is ∙ first ts t p in cc } }

  pub at_other : {x : Shape} → o ≡ Some x → (x ≡ s.Numbers → ⊥) → (x ≡ s.Lump → ⊥) → (x ≡ s.List → ⊥) → (x ≡ s.Function → ⊥)
      → OfBoundary i ts vs Nothing
  at_other {x} e a b c d = at_shape o_is e (λ t k p. absurd (no_type x a b c d t k))

-- No type at all.
no_words : (ts : List ℕ) → length ts < 1 → (t : Ty) → ts ≡ words_ty t → ⊥
unfolding put_ty
no_words ts h N p = omega (arith, h, ap length p)
no_words ts h (L o) p = omega (arith, h, ap length p)
no_words ts h (list t) p = omega (arith, h, ap length p)
no_words ts h (t to u) p = omega (arith, h, ap length p)

pub at_none : {i : Language} {ts vs : List ℕ} → length ts < 1 → OfBoundary i ts vs Nothing
at_none {i} {ts} h = record { of = λ t. record { of = λ v p q. absurd (no_words ts h t p) } }
