-- What the shape of a node's word tells of the term that is written there. Assumes nothing.
use Prim.Native.Nat.{ℕ, ◌%◌, ◌<◌, ◌≤◌}
use mathlib.Core.List.{List}
use mathlib.Core.Path.{◌≡◌, refl, sym, ap, ◌∙◌}
use lib.ListN.{length, get_or, drop}
use lib.Seq.{get_or-drop}
use native.Mathlib.Nat.{add-zero}
use Rattle.std.proofs.Common.{Option as Found, None, Some}
use Rattle.calculus.specs.Trees.{Lang, Static, Op1, Op2, Term, var, num, lam, op1, op2, if0, nil, wrong, ms, sm}
use Rattle.calculus.specs.Words.{put}
use Rattle.calculus.specs.Kinds.{term}
use Rattle.nodes.specs.declared.kinds.Operator1.{Operator1}
use Rattle.nodes.specs.declared.kinds.Operator2.{Operator2}
use Rattle.nodes.specs.declared.kinds.Shape.{Shape}
use Rattle.nodes.specs.declared.kinds.Shape.TheVariants as s
use Rattle.nodes.specs.Table.{operator1, operator2, shape, row_of, told as told_of}
use Rattle.nodes.proofs.Shapes.{sort_first, shape_first}
use Rattle.nodes.proofs.Terms as node
use Rattle.nodes.proofs.Terms.{Shaped, by_shape}
use Rattle.types.specs.References.{shape_at}
use Rattle.types.proofs.Pairs.{some_is, none_some}
use Rattle.types.proofs.Meanings.{tree_shape}
use Rattle.typing.specs.Variables.{sort_at}
use Rattle.typing.specs.Infers.{Begins, Leaf}

-- A node that is an operator or an if0; of these, one with several parts.
pub data Several : (l : Lang) → Term l → Type 0 where
  several_two : {l : Lang} (o : Op2) (a b : Term l) → Several l (op2 o a b)
  several_three : {l : Lang} (a b c : Term l) → Several l (if0 a b c)

pub data Parted : (l : Lang) → Term l → Type 0 where
  parted_one : {l : Lang} (o : Op1 l) (a : Term l) → Parted l (op1 o a)
  parted_more : {l : Lang} {e : Term l} → Several l e → Parted l e

-- A term of one of these shapes, in either language.
pub as_variable : {l : Lang} (P : Term l → Type 0) → ((i : ℕ) → P (var i)) → (e : Term l) → Shaped l s.Variable e → P e
as_variable P f e (node.a_variable {i = i}) = f i

pub as_lambda : {l : Lang} (P : Term l → Type 0) → ((t : Static l) (b : Term l) → P (lam t b)) → (e : Term l) → Shaped l s.Lambda e → P e
as_lambda P f e (node.a_lambda {t = t} {b = b}) = f t b

pub as_one_part : {l : Lang} (P : Term l → Type 0) → (x : Operator1) → ((o : Op1 l) (a : Term l) → x ≡ operator1 o → P (op1 o a)) → (e : Term l)
    → Shaped l (s.Operator1 x) e → P e
as_one_part P x f e (node.one_part o a) = f o a refl

pub as_two_parts : {l : Lang} (P : Term l → Type 0) → (x : Operator2) → ((o : Op2) (a b : Term l) → x ≡ operator2 o → P (op2 o a b)) → (e : Term l)
    → Shaped l (s.Operator2 x) e → P e
as_two_parts P x f e (node.two_parts o a b) = f o a b refl

pub as_if0 : {l : Lang} (P : Term l → Type 0) → ((a b c : Term l) → P (if0 a b c)) → (e : Term l) → Shaped l s.If0 e → P e
as_if0 P f e (node.an_if0 a b c) = f a b c

-- What holds of each term of the language that may be written at a place.
abbrev pub Of : (l : Lang) → List ℕ → ℕ → (Term l → Type 0) → Type 0
Of l w at P = (e : Term l) (k : List ℕ) → drop at w ≡ put e k → P e

-- A place of the words, behind the first.
pub record AtNode (w : List ℕ) (at : ℕ) : Type 0 where
  pub behind : 0 < at
  pub within : at < length w
  pub few : length w ≤ 4096

pub node_at_lem : {w ls : List ℕ} {at : ℕ} → Begins w at ls → at < length w → AtNode w at
node_at_lem B h = record { behind = B.behind; within = h; few = B.few }

module _ (w : List ℕ) (at : ℕ) where
  -- The word of a node is the first one from its place on.
  pub word_told : {l : Lang} (e : Term l) (k : List ℕ) → drop at w ≡ put e k → get_or w at 0 ≡ get_or (put e k) 0 0
  word_told e k d =
      sym (get_or-drop at w 0 0 ∙ ap (λ (n : ℕ). get_or w n 0) (add-zero at)) ∙ ap (λ (ws : List ℕ). get_or ws 0 0) d

  pub sort_told : {l : Lang} (e : Term l) (k : List ℕ) → drop at w ≡ put e k → sort_at w at ≡ Some (term l)
  sort_told {l} e k d = ap (λ (j : ℕ). told_of (row_of (j % 256)) None (λ r. Some r.sort)) (word_told e k d) ∙ sort_first (term l) e k

  module _ (behind : 0 < at) (h : Found Shape) (known : h ≡ shape_at w at) where
    pub shape_told : (l : Lang) (e : Term l) (k : List ℕ) → drop at w ≡ put e k → h ≡ Some (shape (term l) e)
    shape_told l e k d = known ∙ tree_shape (term l) w at e k behind d

    -- By the shape that the word has, whichever term is written there.
    pub told : (x : Shape) → h ≡ Some x → (l : Lang) → Of l w at (Shaped l x)
    told x q l e k d = by_shape l e k (put e k) refl x (shape_first (term l) e k ∙ sym (shape_told l e k d) ∙ q)

    pub no_shape : h ≡ None → (l : Lang) → Of l w at (λ e. ⊥)
    no_shape z l e k d = none_some (sym z ∙ shape_told l e k d)

-- A leaf of a shape; one that is none of these; and one of none.
pub leaf_told : {w : List ℕ} {at : ℕ} {h : Found Shape} → Leaf w at h → (x : Shape) → h ≡ Some x → (l : Lang) → Of l w at (Shaped l x)
leaf_told {w} {at} {h} L x q l = told w at L.behind h (sym L.known) x q l

pub no_leaf : {w : List ℕ} {at : ℕ} {h : Found Shape} → Leaf w at h → (x : Shape) → h ≡ Some x → (x ≡ s.Variable → ⊥) → (x ≡ s.Number → ⊥)
    → (x ≡ s.Nil → ⊥) → (x ≡ s.Wrong → ⊥) → (l : Lang) → Of l w at (λ e. ⊥)
no_leaf {w} {at} {h} L x j n1 n2 n7 n8 l e k d = by e (shape_told w at L.behind h (sym L.known) l e k d)
  where
    by : {l : Lang} (e : Term l) → h ≡ Some (shape (term l) e) → ⊥
    by (var i) q = n1 (some_is (sym j ∙ q))
    by (num n) q = n2 (some_is (sym j ∙ q))
    by (lam t b) q = L.no_lambda q
    by (op1 o a) q = L.no_operator_1 (operator1 o) q
    by (op2 o a b) q = L.no_operator_2 (operator2 o) q
    by (if0 a b c) q = L.no_if0 q
    by (nil t) q = n7 (some_is (sym j ∙ q))
    by (wrong c t) q = n8 (some_is (sym j ∙ q))
    by (ms t a) q = L.no_boundary q
    by (sm t a) q = L.no_boundary q

pub leaf_of_none : {w : List ℕ} {at : ℕ} {h : Found Shape} → Leaf w at h → h ≡ None → (l : Lang) → Of l w at (λ e. ⊥)
leaf_of_none {w} {at} {h} L z l = no_shape w at L.behind h (sym L.known) z l

pub parted_1 : (l : Lang) (w : List ℕ) (at : ℕ) (x : Operator1) → Of l w at (Shaped l (s.Operator1 x)) → Of l w at (Parted l)
parted_1 l w at x seen e k d = as_one_part (Parted l) x (λ o a q. parted_one o a) e (seen e k d)

pub several_2 : (l : Lang) (w : List ℕ) (at : ℕ) (x : Operator2) → Of l w at (Shaped l (s.Operator2 x)) → Of l w at (Several l)
several_2 l w at x seen e k d = as_two_parts (Several l) x (λ o a b q. several_two o a b) e (seen e k d)

pub several_3 : (l : Lang) (w : List ℕ) (at : ℕ) → Of l w at (Shaped l s.If0) → Of l w at (Several l)
several_3 l w at seen e k d = as_if0 (Several l) several_three e (seen e k d)

pub parted_2 : (l : Lang) (w : List ℕ) (at : ℕ) → Of l w at (Several l) → Of l w at (Parted l)
parted_2 l w at seen e k d = parted_more (seen e k d)
