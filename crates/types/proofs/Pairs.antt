-- Two types: of one shape, or different in their first words; and two lumps. Assumes nothing.
use Prim.Native.Nat.{ℕ, zero, suc, ◌%◌}
use mathlib.Core.Bool.{Bool, true, false}
use mathlib.Core.List.{[]}
use mathlib.Core.Logic.{◌↔◌}
use mathlib.Core.Option.{some}
use mathlib.Core.Path.{◌≡◌, refl, sym, ap, ◌∙◌}
use lib.ListN.{get_or}
use native.Mathlib.Omega.{arith}
use Rattle.std.proofs.Common.{Option as Found, None, Some, unwrap_or}
use Rattle.calculus.specs.Trees.{Ty, N, L, list, ◌to◌, ml}
use Rattle.calculus.specs.Words.{words_ty}
use Rattle.calculus.specs.Kinds.{type}
use Rattle.calculus.specs.Comparison.{compare_types}
use Rattle.calculus.specs.Inference.{same_type}
use Rattle.calculus.proofs.Comparison.{at_first}
use Rattle.calculus.proofs.Inference.{same_iff}
use Rattle.calculus.proofs.Types.{kind_ty, kind_first, by_pairs}
use Rattle.nodes.specs.declared.kinds.Shape.{Shape}
use Rattle.nodes.specs.declared.kinds.Shape.TheVariants as s
use Rattle.nodes.specs.Table.{shape}
use Rattle.types.specs.declared.Former.{Former}
use Rattle.types.specs.declared.Former.TheVariants as f

-- Two tests that hold on one condition are equal.
one_test : (a b : Bool) → (a ≡ true) ↔ (b ≡ true) → a ≡ b
one_test true b h = sym (h.0 refl)
one_test false true h = h.1 refl
one_test false false h = refl

pub same_sym : (t u : Ty) → same_type ml t u ≡ same_type ml u t
same_sym t u = one_test _ _ (λ q. (same_iff ml u t).1 (sym ((same_iff ml t u).0 q)), λ q. (same_iff ml t u).1 (sym ((same_iff ml u t).0 q)))

pub same_lists : (t u : Ty) → same_type ml (list t) (list u) ≡ same_type ml t u
same_lists t u =
    one_test _ _ (
      λ q. let e = (same_iff ml (list t) (list u)).0 q in (same_iff ml t u).1 cc,
      λ q. (same_iff ml (list t) (list u)).1 (ap list ((same_iff ml t u).0 q)),
    )

-- Shapes by numbers: those of types by the types' kinds. An operator's is that of its shape.
abbrev pub number : Shape → ℕ
number s.Numbers = 1
number s.Lump = 2
number s.List = 3
number s.Function = 4
number s.Variable = 5
number s.Number = 6
number s.Lambda = 7
number (s.Operator1 o) = 8
number (s.Operator2 o) = 9
number s.If0 = 10
number s.Nil = 11
number s.Wrong = 12
number s.Boundary = 13

pub some_is : {A : Type 0} {x y : A} → Some x ≡ Some y → x ≡ y
some_is {A} {x} q = ap (λ (o : Found A). unwrap_or o x) q

pub none_some : {A : Type 0} {x : A} → None ≡ Some x → ⊥
none_some {A} q = let y : ◌≡◌ {A = ℕ} 0 1 = cc in omega (arith, y)

pub other_shape : {h : Found Shape} {x y : Shape} → h ≡ Some x → (number x ≡ number y → ⊥) → h ≡ Some y → ⊥
other_shape p n q = n (ap number (some_is (sym p ∙ q)))

-- How a type is formed, by code's name for it.
abbrev pub former_ty : Ty → Former
former_ty N = f.Numbers
former_ty (L o) = f.Lump
former_ty (list t) = f.List
former_ty (t to u) = f.Function

abbrev pub former_number : Former → ℕ
former_number f.Numbers = 1
former_number f.Lump = 2
former_number f.List = 3
former_number f.Function = 4
former_number f.Variable = 5
former_number f.Operation = 6
former_number f.If0 = 7
former_number f.Wrong = 8
former_number f.Boundary = 9

pub other_former : {h : Found Former} {x y : Former} → h ≡ Some x → (former_number x ≡ former_number y → ⊥) → h ≡ Some y → ⊥
other_former p n q = n (ap former_number (some_is (sym p ∙ q)))

-- Types of two kinds have two shapes, and are formed in two ways.
pub other_kinds : (t u : Ty) → ¬ (kind_ty t ≡ kind_ty u) → ¬ (shape type t ≡ shape type u)
other_kinds t u n e = n (sym (shape_kind t) ∙ ap number e ∙ shape_kind u)
  where
    shape_kind : (t : Ty) → number (shape type t) ≡ kind_ty t
    shape_kind N = refl
    shape_kind (L o) = refl
    shape_kind (list t) = refl
    shape_kind (t to u) = refl

other_formed : (t u : Ty) → ¬ (kind_ty t ≡ kind_ty u) → ¬ (former_ty t ≡ former_ty u)
other_formed t u n e = n (sym (formed t) ∙ ap former_number e ∙ formed u)
  where
    formed : (t : Ty) → former_number (former_ty t) ≡ kind_ty t
    formed N = refl
    formed (L o) = refl
    formed (list t) = refl
    formed (t to u) = refl

-- Types that differ in their first words; and types of two kinds do.
pub other_firsts : (t u : Ty) → ¬ (get_or (words_ty t) 0 0 ≡ get_or (words_ty u) 0 0) → compare_types t u ≡ some 0
other_firsts t u d = at_first (words_ty t) (words_ty u) d

pub other_types : (t u : Ty) → ¬ (kind_ty t ≡ kind_ty u) → compare_types t u ≡ some 0
other_types t u d = other_firsts t u (λ e. d (sym (kind_first t []) ∙ ap (λ (j : ℕ). j % 256) e ∙ kind_first u []))

pub other_formers : (t u : Ty) → ¬ (former_ty t ≡ former_ty u) → compare_types t u ≡ some 0
other_formers t u d = other_types t u (λ e. d (sym (formed t) ∙ ap of_kind e ∙ formed u))
  where
    of_kind : ℕ → Former
    of_kind (suc (suc zero)) = f.Lump
    of_kind (suc (suc (suc zero))) = f.List
    of_kind (suc (suc (suc (suc n)))) = f.Function
    of_kind other = f.Numbers

    formed : (t : Ty) → of_kind (kind_ty t) ≡ former_ty t
    formed N = refl
    formed (L o) = refl
    formed (list t) = refl
    formed (t to u) = refl

pub not_same : (t u : Ty) → ¬ (kind_ty t ≡ kind_ty u) → same_type ml t u ≡ false
not_same t u d = rw (other_types t u d)

-- Two types of one kind, by what tells the kind.
module _ {X : Type 0} (g : Ty → X) (tells : (t u : Ty) → ¬ (kind_ty t ≡ kind_ty u) → ¬ (g t ≡ g u)) where
  by_kind : (P : Ty → Ty → Type 0) (h : Found X) → (h ≡ Some (g N) → P N N) → ((o u : ℕ) → h ≡ Some (g (L o)) → P (L o) (L u))
      → ((t u : Ty) → h ≡ Some (g (list t)) → P (list t) (list u)) → ((s t u v : Ty) → h ≡ Some (g (s to t)) → P (s to t) (u to v)) → (t u : Ty)
      → h ≡ Some (g t) → h ≡ Some (g u) → P t u
  by_kind P h a b c d =
      by_pairs (λ t u. h ≡ Some (g t) → h ≡ Some (g u) → P t u)
      (λ p q. a p)
      (λ o u p q. b o u p)
      (λ t u x p q. c t u p)
      (λ s t u v x y p q. d s t u v p)
      (λ t u n p q. absurd (tells t u n (some_is (sym p ∙ q))))

-- By the shape, and by how it is formed.
pub one_shape : (P : Ty → Ty → Type 0) (h : Found Shape) → (h ≡ Some s.Numbers → P N N) → (h ≡ Some s.Lump → (o u : ℕ) → P (L o) (L u))
    → (h ≡ Some s.List → (t u : Ty) → P (list t) (list u)) → (h ≡ Some s.Function → (s t u v : Ty) → P (s to t) (u to v)) → (t u : Ty)
    → h ≡ Some (shape type t) → h ≡ Some (shape type u) → P t u
one_shape P h a b c d = by_kind (shape type) other_kinds P h a (λ o u p. b p o u) (λ t u p. c p t u) (λ s t u v p. d p s t u v)

pub one_former : (P : Ty → Ty → Type 0) (h : Found Former) → (h ≡ Some f.Numbers → P N N) → (h ≡ Some f.Lump → (o u : ℕ) → P (L o) (L u))
    → (h ≡ Some f.List → (t u : Ty) → P (list t) (list u)) → (h ≡ Some f.Function → (s t u v : Ty) → P (s to t) (u to v)) → (t u : Ty)
    → h ≡ Some (former_ty t) → h ≡ Some (former_ty u) → P t u
one_former P h a b c d = by_kind former_ty other_formed P h a (λ o u p. b p o u) (λ t u p. c p t u) (λ s t u v p. d p s t u v)
