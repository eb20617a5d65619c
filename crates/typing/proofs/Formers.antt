-- A type is told by how it is formed: whether it is N, a list type or a function type. Assumes nothing.
use Prim.Native.Nat.{ℕ, ◌+◌}
use mathlib.Core.Bool.{false}
use mathlib.Core.List.{List}
use mathlib.Core.Option.{none}
use mathlib.Core.Path.{◌≡◌, refl, sym, ap, ◌∙◌}
use native.Mathlib.Omega.{arith}
use Rattle.std.proofs.Common.{Option as Found, None, Some}
use Rattle.calculus.specs.Trees.{Ty, N, L, list, ◌to◌, ml}
use Rattle.calculus.specs.Inference.{same_type, element as elementType}
use Rattle.types.specs.declared.Former.{Former}
use Rattle.types.specs.declared.Former.TheVariants as f
use Rattle.types.specs.References.{former_at, Means}
use Rattle.types.specs.Comparisons.{TypeEnd}
use Rattle.types.proofs.Pairs.{some_is, none_some, other_former, not_same}
use Rattle.types.proofs.Meanings.{former_in, means_former, argument_written}
use Rattle.typing.specs.Operators.{argument_end, ArgumentEnd, if_list, element_of, if_numbers, number_of}

-- By cases on how the type is formed.
module _ (w : List ℕ) (t : ℕ) (h : Found Former) (e : h ≡ former_at w t) (ls : List ℕ) (lo hi : ℕ) (P : Ty → Type 0) where
  pub by_former : (h ≡ Some f.Numbers → P N) → (h ≡ Some f.Lump → (o : ℕ) → P (L o)) → (h ≡ Some f.List → (x : Ty) → P (list x))
      → (h ≡ Some f.Function → (x y : Ty) → P (x to y)) → (s : Ty) → Means w ls lo hi t s → P s
  by_former a b c d N m = a (e ∙ means_former w ls lo hi t N m)
  by_former a b c d (L o) m = b (e ∙ means_former w ls lo hi t (L o) m) o
  by_former a b c d (list x) m = c (e ∙ means_former w ls lo hi t (list x) m) x
  by_former a b c d (x to y) m = d (e ∙ means_former w ls lo hi t (x to y) m) x y

-- Function types.
module _ (w : List ℕ) (t : ℕ) (h : Found Former) (e : h ≡ former_at w t) where
  pub no_function : (h ≡ Some f.Function → ⊥) → ArgumentEnd w t None
  no_function n =
      record {
        there = λ end z. absurd (none_some z);
        is = λ s ls lo hi m.
            by_former w t h e ls lo hi (λ s. None ≡ argument_end t s) (λ k. refl) (λ k o. refl) (λ k x. refl) (λ k x y. absurd (n k)) s m;
      }

  pub function_end : h ≡ Some f.Function → (r : ℕ) → TypeEnd w (t + 1) r → ArgumentEnd w t (Some r)
  function_end k r g =
      record {
        there = λ end z. omega (arith, former_in w t f.Function (sym e ∙ k));
        is = λ s ls lo hi m.
            by_former w t h e ls lo hi (λ s. Means w ls lo hi t s → Some r ≡ argument_end t s)
            (λ q. absurd (other_former k (λ z. omega (arith, z)) q)) (λ q. absurd (other_former k (λ z. omega (arith, z)) q))
            (λ q. absurd (other_former k (λ z. omega (arith, z)) q))
            (λ q x y m. ap Some (g.is x (argument_written w ls lo hi t x y m))) s m m;
      }

-- What is said of a list type or of N alone.
if_list_is : (h : Found Former) (p q : ℕ) → if_list h p ≡ Some q → (h ≡ Some f.List) × (p ≡ q)
if_list_is None p q e = absurd (none_some e)
if_list_is (Some f.Numbers) p q e = absurd (none_some e)
if_list_is (Some f.Lump) p q e = absurd (none_some e)
if_list_is (Some f.List) p q e = (refl, some_is e)
if_list_is (Some f.Function) p q e = absurd (none_some e)
if_list_is (Some f.Variable) p q e = absurd (none_some e)
if_list_is (Some f.Operation) p q e = absurd (none_some e)
if_list_is (Some f.If0) p q e = absurd (none_some e)
if_list_is (Some f.Wrong) p q e = absurd (none_some e)
if_list_is (Some f.Boundary) p q e = absurd (none_some e)

if_numbers_is : (h : Found Former) (p q : ℕ) → if_numbers h p ≡ Some q → (h ≡ Some f.Numbers) × (p ≡ q)
if_numbers_is None p q e = absurd (none_some e)
if_numbers_is (Some f.Numbers) p q e = (refl, some_is e)
if_numbers_is (Some f.Lump) p q e = absurd (none_some e)
if_numbers_is (Some f.List) p q e = absurd (none_some e)
if_numbers_is (Some f.Function) p q e = absurd (none_some e)
if_numbers_is (Some f.Variable) p q e = absurd (none_some e)
if_numbers_is (Some f.Operation) p q e = absurd (none_some e)
if_numbers_is (Some f.If0) p q e = absurd (none_some e)
if_numbers_is (Some f.Wrong) p q e = absurd (none_some e)
if_numbers_is (Some f.Boundary) p q e = absurd (none_some e)

-- The type is a list type, with its element type behind; or it is none.
module _ (w : List ℕ) (t : ℕ) (r : Found ℕ) (e : r ≡ element_of w t) where
  pub is_list_lem : (p : ℕ) → r ≡ Some p → (ls : List ℕ) (lo hi : ℕ) (s : Ty) → Means w ls lo hi t s → (x : Ty) × (s ≡ list x) × (p ≡ t + 1)
  is_list_lem p n ls lo hi s m =
      let k = if_list_is (former_at w t) (t + 1) p (sym e ∙ n) in
      by_former w t (former_at w t) refl ls lo hi (λ s. (x : Ty) × (s ≡ list x) × (p ≡ t + 1))
      (λ q. absurd (other_former k.0 (λ z. omega (arith, z)) q)) (λ q. absurd (other_former k.0 (λ z. omega (arith, z)) q))
      (λ q x. (x, refl, sym k.1)) (λ q. absurd (other_former k.0 (λ z. omega (arith, z)) q)) s m

  pub no_list : r ≡ None → (ls : List ℕ) (lo hi : ℕ) (s : Ty) → Means w ls lo hi t s → elementType ml s ≡ none
  no_list z ls lo hi s m =
      by_former w t (former_at w t) refl ls lo hi (λ s. elementType ml s ≡ none) (λ k. refl) (λ k o. refl)
      (λ k. absurd (none_some (sym z ∙ e ∙ ap (λ (h : Found Former). if_list h (t + 1)) k))) (λ k x y. refl) s m

-- The type is N, or it is another.
module _ (w : List ℕ) (t : ℕ) (r : Found ℕ) (e : r ≡ number_of w t) (ls : List ℕ) (lo hi : ℕ) where
  pub is_number : (p : ℕ) → r ≡ Some p → (p ≡ t) × ((s : Ty) → Means w ls lo hi t s → s ≡ N)
  is_number p n =
      let k = if_numbers_is (former_at w t) t p (sym e ∙ n) in (
        sym k.1,
        by_former w t (former_at w t) refl ls lo hi (λ s. s ≡ N) (λ q. refl) (λ q. absurd (other_former k.0 (λ z. omega (arith, z)) q))
            (λ q. absurd (other_former k.0 (λ z. omega (arith, z)) q)) (λ q. absurd (other_former k.0 (λ z. omega (arith, z)) q)),
      )

  pub other_type : r ≡ None → (s : Ty) → Means w ls lo hi t s → same_type ml s N ≡ false
  other_type z =
      by_former w t (former_at w t) refl ls lo hi (λ s. same_type ml s N ≡ false)
      (λ k. absurd (none_some (sym z ∙ e ∙ ap (λ (h : Found Former). if_numbers h t) k)))
      (λ k o. not_same (L o) N (λ e. omega (arith, e)))
      (λ k x. not_same (list x) N (λ e. omega (arith, e))) (λ k x y. not_same (x to y) N (λ e. omega (arith, e)))
