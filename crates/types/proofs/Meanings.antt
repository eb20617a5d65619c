-- What a reference means is told by the shape of the word there; a type that is written is meant. Assumes nothing.
use Prim.Native.Nat.{ℕ, ◌+◌, ◌%◌, ◌≤◌, ◌<◌}
use mathlib.Core.Bool.{Bool, true, false, cond}
use mathlib.Core.List.{List}
use mathlib.Core.Logic.{◌⊎◌, inl, inr}
use mathlib.Core.Path.{◌≡◌, refl, sym, ap, ◌∙◌}
use borrow.Author.Tests.{eq-eqb, ne_eqb}
use lib.Dec.{eqb}
use lib.ListN.{length, get_or, drop, length-drop, get_or-eq_default}
use lib.Seq.{get_or-drop}
use native.Mathlib.Decide.{dec_lt}
use native.Mathlib.Nat.{add-zero}
use native.Mathlib.Omega.{arith}
use Rattle.std.proofs.Common.{Option, None, Some}
use Rattle.std.specs.Option.{option_map}
use Rattle.calculus.specs.Trees.{Ty, N, L, list, ◌to◌}
use Rattle.calculus.specs.Words.{put_ty, size_ty}
use Rattle.calculus.specs.Kinds.{Sort, type, Tree, put_tree}
use Rattle.calculus.proofs.Sizes.{tree_length, past_word, past_tree}
use Rattle.calculus.proofs.Views.{view, sized}
use Rattle.nodes.specs.declared.kinds.Shape.{Shape}
use Rattle.nodes.specs.declared.kinds.Shape.TheVariants as s
use Rattle.nodes.specs.Table.{row_of, shape, shape_of}
use Rattle.nodes.proofs.Shapes.{shape_first}
use Rattle.types.specs.declared.Former.{Former}
use Rattle.types.specs.declared.Former.TheVariants as f
use Rattle.types.proofs.Pairs.{former_ty}
use Rattle.types.specs.References.{shape_at, former_of, former_at, Written, Means}

module _ (w : List ℕ) (p : ℕ) where
  -- The shape at a place: none at 0 and past the words.
  pub shape_zero : p ≡ 0 → None ≡ shape_at w p
  unfolding shape_at
  shape_zero z = rw (eq-eqb p 0 z)

  pub shape_here : (p ≡ 0 → ⊥) → shape_at w p ≡ shape_of (get_or w p 0 % 256)
  unfolding shape_at
  shape_here n = rw (ne_eqb p 0 n)

  pub shape_past : length w ≤ p → None ≡ shape_at w p
  unfolding shape_at row_of
  shape_past h = by (eqb p 0)
    where
      by : (b : Bool) → None ≡ cond b None (shape_of (get_or w p 0 % 256))
      by true = refl
      by false = ap (λ (j : ℕ). shape_of (j % 256)) (sym (get_or-eq_default w 0 {n = p} h))

  -- A word that has a shape is there.
  pub shape_in : (x : Shape) → shape_at w p ≡ Some x → (0 < p) × (p < length w)
  shape_in x e = (by_zero (dec_lt 0 p), by_end (dec_lt p (length w)))
    where
      none : None ≡ shape_at w p → ⊥
      none n = let q : ◌≡◌ {A = Option Shape} None (Some x) = n ∙ e in let y : ◌≡◌ {A = ℕ} 0 1 = cc in omega (arith, y)

      by_zero : Dec (0 < p) → 0 < p
      by_zero (yes h) = h
      by_zero (no n) = absurd (none (shape_zero (omega arith)))

      by_end : Dec (p < length w) → p < length w
      by_end (yes h) = h
      by_end (no n) = absurd (none (shape_past (omega arith)))

-- The word of a reference that means a type is there.
pub former_in : (w : List ℕ) (p : ℕ) (x : Former) → former_at w p ≡ Some x → (0 < p) × (p < length w)
former_in w p x e = by (shape_at w p) refl e
  where
    by : (o : Option Shape) → shape_at w p ≡ o → option_map former_of o ≡ Some x → (0 < p) × (p < length w)
    by None q e = let y : ◌≡◌ {A = ℕ} 0 1 = cc in absurd (omega arith)
    by (Some z) q e = shape_in w p z q

-- A function's result type: what the lambda's link refers to, or written.
abbrev pub Codomain : List ℕ → List ℕ → ℕ → ℕ → ℕ → ℕ → Ty → Type 0
Codomain w ls lo hi p n u =
    ((shape_at w p ≡ Some s.Lambda) × (lo ≤ p) × (p < hi) × Means w ls (p + 1) hi (get_or ls p 0) u)
    ⊎ ((shape_at w p ≡ Some s.Function) × Written w (p + 1 + n) u)

pub means_former : (w ls : List ℕ) (lo hi p : ℕ) (t : Ty) → Means w ls lo hi p t → former_at w p ≡ Some (former_ty t)
unfolding Means
means_former w ls lo hi p N m = m
means_former w ls lo hi p (L o) m = m.0
means_former w ls lo hi p (list t) m = m.0
means_former w ls lo hi p (t to u) m = by m.1
  where
    by : Codomain w ls lo hi p (size_ty t) u → former_at w p ≡ Some f.Function
    by (inl x) = ap (option_map former_of) x.0
    by (inr x) = ap (option_map former_of) x.0

pub means_in : (w ls : List ℕ) (lo hi p : ℕ) (t : Ty) → Means w ls lo hi p t → (0 < p) × (p < length w)
means_in w ls lo hi p t m = former_in w p (former_ty t) (means_former w ls lo hi p t m)

-- The word at a place, by the words from there on; and the shape of a tree there.
first_word : (w : List ℕ) (p : ℕ) (k : List ℕ) → drop p w ≡ k → get_or w p 0 ≡ get_or k 0 0
first_word w p k d = sym (get_or-drop p w 0 0 ∙ ap (λ (n : ℕ). get_or w n 0) (add-zero p)) ∙ ap (λ (l : List ℕ). get_or l 0 0) d

pub tree_shape : (sort : Sort) (w : List ℕ) (p : ℕ) (t : Tree sort) (k : List ℕ) → 0 < p → drop p w ≡ put_tree sort t k
    → shape_at w p ≡ Some (shape sort t)
tree_shape sort w p t k h d =
    shape_here w p (λ z. omega arith) ∙ ap (λ (j : ℕ). shape_of (j % 256)) (first_word w p (put_tree sort t k) d) ∙ shape_first sort t k

pub written_means : (w ls : List ℕ) (lo hi p : ℕ) (t : Ty) → 0 < p → Written w p t → Means w ls lo hi p t
unfolding Means put_ty
written_means w ls lo hi p N h x = ap (option_map former_of) (tree_shape type w p N x.0 h x.1)
written_means w ls lo hi p (L o) h x = (ap (option_map former_of) (tree_shape type w p (L o) x.0 h x.1), first_word w p _ x.1)
written_means w ls lo hi p (list t) h x = (ap (option_map former_of) (tree_shape type w p (list t) x.0 h x.1), (x.0, past_word p 3 w _ x.1))
written_means w ls lo hi p (t to u) h x =
    let d = past_word p 4 w _ x.1 in
    ((put_ty u x.0, d), inr (tree_shape type w p (t to u) x.0 h x.1, (x.0, past_tree type t (p + 1) w _ d)))

-- A type that is written ends within the words.
pub written_in : (w : List ℕ) (p : ℕ) (t : Ty) → Written w p t → p + size_ty t ≤ length w
written_in w p t x = omega (arith, length-drop p w, ap length x.1, tree_length type t x.0, sized (view type t))

-- The argument type of a function type, and the element type of a list type.
pub argument_written : (w ls : List ℕ) (lo hi p : ℕ) (t u : Ty) → Means w ls lo hi p (t to u) → Written w (p + 1) t
unfolding Means
argument_written w ls lo hi p t u m = m.0

pub element_written : (w ls : List ℕ) (lo hi p : ℕ) (t : Ty) → Means w ls lo hi p (list t) → Written w (p + 1) t
unfolding Means
element_written w ls lo hi p t m = m.1
