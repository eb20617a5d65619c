-- The ways out of comparing the types that the references p and q mean. Assumes nothing.
use Prim.Native.Nat.{ℕ, suc, ◌+◌, ◌-◌, ◌≤◌, ◌<◌}
use mathlib.Core.Bool.{Bool, true, false, cond}
use mathlib.Core.List.{List}
use mathlib.Core.Option.{Option, none, some}
use mathlib.Core.Path.{◌≡◌, refl, sym, ap, ◌∙◌, subst}
use borrow.Author.Tests.{eqb-true, eqb-false}
use lib.Dec.{eqb}
use lib.ListN.{length, get_or, drop, length-drop}
use native.Mathlib.Omega.{arith}
use Rattle.std.proofs.Common.{Option as Found, Some, Result, Ok, Err, is_ok}
use Rattle.calculus.specs.Trees.{Ty, N, L, list, ◌to◌}
use Rattle.calculus.specs.Words.{put_ty, size_ty}
use Rattle.calculus.specs.Kinds.{type}
use Rattle.calculus.specs.Comparison.{further_on, compare_types}
use Rattle.calculus.proofs.Comparison.{equal_iff, compare_lists, compare_arguments, compare_results}
use Rattle.calculus.proofs.Sizes.{past_word, past_tree}
use Rattle.types.specs.declared.Former.{Former}
use Rattle.types.specs.declared.Former.TheVariants as f
use Rattle.types.specs.References.{former_at, Written, Means, codomain, arrows}
use Rattle.types.specs.Comparisons.{differ_at, Matched, lumps_compared, Says, Compares, Compared, Equality}
use Rattle.types.specs.declared.Difference.{Difference}
use Rattle.types.proofs.Pairs.{former_ty, other_former, other_firsts, other_formers as formed_differently, one_former}
use Rattle.types.proofs.Matching.{if_differ, if_same_lem, same_in}
use Rattle.types.proofs.Meanings.{means_former, means_in, tree_shape, argument_written, element_written}
use Rattle.types.proofs.Frames.{means_codomain, means_arrows}

-- The result type of a function type that is written.
codomain_written : (w ls : List ℕ) (p end : ℕ) (t u : Ty) → 0 < p → end ≡ p + 1 + size_ty t → Written w p (t to u)
    → (codomain w ls p end ≡ end) × Written w end u
unfolding codomain put_ty
codomain_written w ls p end t u h e x = (
  rw (tree_shape type w p (t to u) x.0 h x.1),
  (x.0, rw e (past_tree type t (p + 1) w (put_ty u x.0) (past_word p 4 w _ x.1))),
)

abbrev ok_unit : Result (Unit {0}) Difference
ok_unit = Ok tt

abbrev err_unit : Difference → Result (Unit {0}) Difference
err_unit d = Err d

-- What is said of two result types is said of the function types.
lift : (w : List ℕ) (p end : ℕ) (s t : Ty) (o : Option ℕ) (r : Result (Unit {0}) Difference) → end ≡ p + 1 + size_ty s → (p' : ℕ)
    → (Written w p (s to t) → (p' ≡ end) × Written w end t) → Says w p' t o r → Says w p (s to t) (further_on (suc (size_ty s)) o) r
unfolding Says
lift w p end s t none r e p' f x = x
lift w p end s t (some n) r e p' f x = (
  x.0,
  x.1,
  λ y.
      let i = f y in
      let d : x.0 ≡ p' + n = x.2 (rw i.0 i.1) in
      omega (arith, d, e, i.0),
)

-- The types that p and q mean are formed in one way, with a part, and those written behind p and q are compared.
pub record OneFormer (w : List ℕ) (p q : ℕ) (h i : Found Former) (m : Result ℕ Difference) : Type 0 where
  pub first : h ≡ former_at w p
  pub second : i ≡ former_at w q
  pub same : h ≡ i
  pub no_number : h ≡ Some f.Numbers → ⊥
  pub no_lump : h ≡ Some f.Lump → ⊥
  pub matched : Matched (drop (p + 1) w) (drop (q + 1) w) (p + 1) m

module _ (w ls : List ℕ) (p q room : ℕ) where
  -- The answer is right where p and q mean these types.
  abbrev Right : Result (Unit {0}) Difference → Ty → Ty → Type 0
  Right r t u = (lo hi lo' hi' : ℕ) → Means w ls lo hi p t → Means w ls lo' hi' q u → arrows t < room → Says w p t (compare_types t u) r

  module _ (h : Found Former) (eh : h ≡ former_at w p) (i : Found Former) (ei : i ≡ former_at w q) where
    pub other_formers : (h ≡ i → ⊥) → Compares w ls p q room (differ_at p)
    unfolding Says
    other_formers d t u lo hi lo' hi' mp mq less =
        let n : former_ty t ≡ former_ty u → ⊥ =
        λ e. d (eh ∙ means_former w ls lo hi p t mp ∙ ap Some e ∙ sym (means_former w ls lo' hi' q u mq) ∙ sym ei) in
        rw (formed_differently t u n) (p, refl, λ x. omega arith)

    -- The first reference means no type, since no type is formed as its word says.
    pub no_type : ((t : Ty) → h ≡ Some (former_ty t) → ⊥) → (r : Result (Unit {0}) Difference) → Compares w ls p q room r
    no_type z r t u lo hi lo' hi' mp mq less = absurd (z t (eh ∙ means_former w ls lo hi p t mp))

    module _ (same : h ≡ i) where
      -- By cases on the shape, which both have.
      by_former : (r : Result (Unit {0}) Difference) → (h ≡ Some f.Numbers → Right r N N) → (h ≡ Some f.Lump → (o u : ℕ) → Right r (L o) (L u))
          → (h ≡ Some f.List → (t u : Ty) → Right r (list t) (list u))
          → (h ≡ Some f.Function → (s t u v : Ty) → Right r (s to t) (u to v)) → Compares w ls p q room r
      by_former r a b c d t u lo hi lo' hi' mp mq less =
          one_former (Right r) h a b c d t u (eh ∙ means_former w ls lo hi p t mp) (same ∙ ei ∙ means_former w ls lo' hi' q u mq)
          lo hi lo' hi' mp mq less

      -- Lumps whose words are two.
      other_lumps : h ≡ Some f.Lump → (get_or w p 0 ≡ get_or w q 0 → ⊥) → Compares w ls p q room (differ_at p)
      unfolding Says Means put_ty
      other_lumps lump n =
          by_former (differ_at p) (λ e. absurd (other_former lump (λ z. omega (arith, z)) e))
          (λ _ o u lo hi lo' hi' mp mq less. rw (other_firsts (L o) (L u) (λ e. n (mp.1 ∙ e ∙ sym mq.1))) (p, refl, λ x. omega arith))
          (λ e. absurd (other_former lump (λ z. omega (arith, z)) e)) (λ e. absurd (other_former lump (λ z. omega (arith, z)) e))

      pub no_parts : (h ≡ Some f.Lump → get_or w p 0 ≡ get_or w q 0) → (h ≡ Some f.List → ⊥) → (h ≡ Some f.Function → ⊥)
          → Compares w ls p q room (Ok tt)
      unfolding Says Means
      no_parts one n12 n13 =
          by_former (Ok tt) (λ e lo hi lo' hi' mp mq less. rw ((equal_iff N N).1 refl) refl)
          (λ e o u lo hi lo' hi' mp mq less. rw ((equal_iff (L o) (L u)).1 (ap L (omega (arith, one e, mp.1, mq.1)))) refl)
          (λ e. absurd (n12 e)) (λ e. absurd (n13 e))

      -- Lumps are equal if their words are.
      pub lumps : h ≡ Some f.Lump → (r : Result (Unit {0}) Difference) → r ≡ lumps_compared w p q → Compares w ls p q room r
      lumps lump r e = rw e (by (eqb (get_or w p 0) (get_or w q 0)) refl)
        where
          by : (b : Bool) → eqb (get_or w p 0) (get_or w q 0) ≡ b → Compares w ls p q room (cond b (Ok tt) (differ_at p))
          by true z =
              no_parts (λ k. eqb-true (get_or w p 0) (get_or w q 0) z) (other_former lump (λ k. omega (arith, k)))
              (other_former lump (λ k. omega (arith, k)))
          by false z = other_lumps lump (eqb-false (get_or w p 0) (get_or w q 0) z)

  module _ {h i : Found Former} {m : Result ℕ Difference} (B : OneFormer w p q h i m) where
    by_parts : (r : Result (Unit {0}) Difference) → (h ≡ Some f.List → (t u : Ty) → Right r (list t) (list u))
        → (h ≡ Some f.Function → (s t u v : Ty) → Right r (s to t) (u to v))
        → Compares w ls p q room r
    by_parts r =
        by_former h B.first i B.second B.same r (λ e. absurd (B.no_number e)) (λ e. absurd (B.no_lump e))

    -- The types written behind differ.
    behind_differ : (d : Difference) → m ≡ Err d → (t u : Ty) → Written w (p + 1) t → Written w (q + 1) u
        → (n : ℕ) × (compare_types t u ≡ some n) × (d.at ≡ p + 1 + n)
    behind_differ d e t u x y = if_differ t u _ d m e (B.matched.is t u x.0 y.0 x.1 y.1)

    pub differ : (d : Difference) → m ≡ Err d → Compares w ls p q room (Err d)
    unfolding Says
    differ d e =
        by_parts (Err d)
        (λ _ t u lo hi lo' hi' mp mq less.
        let i = behind_differ d e t u (element_written w ls lo hi p t mp) (element_written w ls lo' hi' q u mq) in
        rw (compare_lists t u, i.1) (d.at, refl, λ x. omega (arith, i.2)))
        (λ _ s t u v lo hi lo' hi' mp mq less.
        let i = behind_differ d e s u (argument_written w ls lo hi p s t mp) (argument_written w ls lo' hi' q u v mq) in
        rw (compare_arguments s t u v i.0 i.1) (d.at, refl, λ x. omega (arith, i.2)))

    module _ (end : ℕ) (e : m ≡ Ok end) where
      pub ends : p + 1 ≤ length w → q + 1 ≤ length w → (p + 1 < end) × (end ≤ length w) × (q + (end - p) ≤ length w)
      ends hp hq =
          let b = same_in _ _ _ end m B.matched.within e in
          (b.0, omega (arith, b.1, length-drop (p + 1) w), omega (arith, b.0, b.2, length-drop (q + 1) w))

      behind_same : (t u : Ty) → Written w (p + 1) t → Written w (q + 1) u → (compare_types t u ≡ none) × (end ≡ p + 1 + size_ty t) × (t ≡ u)
      behind_same t u x y = if_same_lem t u _ end m e (B.matched.is t u x.0 y.0 x.1 y.1)

      pub lists : (h ≡ Some f.Function → ⊥) → Compares w ls p q room (Ok tt)
      unfolding Says
      lists n13 =
          by_parts (Ok tt)
          (λ _ t u lo hi lo' hi' mp mq less.
          let i = behind_same t u (element_written w ls lo hi p t mp) (element_written w ls lo' hi' q u mq) in
          rw (compare_lists t u, i.0) refl)
          (λ e. absurd (n13 e))

      -- The result types are compared next.
      pub functions : (h ≡ Some f.List → ⊥) → (p' q' : ℕ) (r : Result (Unit {0}) Difference) → p' ≡ codomain w ls p end
          → q' ≡ codomain w ls q (q + (end - p))
          → Compares w ls p' q' (room - 1) r → Compares w ls p q room r
      unfolding arrows
      functions other p' q' r ep eq rest =
          by_parts r (λ e. absurd (other e))
          (λ _ s t u v lo hi lo' hi' mp mq less.
          let i = behind_same s u (argument_written w ls lo hi p s t mp) (argument_written w ls lo' hi' q u v mq) in
          let j : q + (end - p) ≡ q + 1 + size_ty u = omega (arith, i.1, ap size_ty i.2) in
          let mt : Means w ls lo hi p' t = rw ep (means_codomain w ls lo hi p end s t mp i.1) in
          let mv : Means w ls lo' hi' q' v = rw eq (means_codomain w ls lo' hi' q (q + (end - p)) u v mq j) in
          let x : Says w p (s to t) (further_on (suc (size_ty s)) (compare_types t v)) r =
          lift w p end s t (compare_types t v) r i.1 p'
          (λ z. let c = codomain_written w ls p end s t (means_in w ls lo hi p (s to t) mp).0 i.1 z in (ep ∙ c.0, c.1))
          (rest t v lo hi lo' hi' mt mv (omega arith)) in
          subst (λ (z : Ty). Says w p (s to t) (compare_types (s to t) (z to v)) r) i.2 (rw (compare_results s t v) x))

-- As much room as every type needs.
pub enough : (w ls : List ℕ) (p q room : ℕ) (r : Result (Unit {0}) Difference) → room ≡ length w + length w + 1 → Compares w ls p q room r
    → Compared w ls p q r
enough w ls p q room r e h t u lo hi lo' hi' few mp mq = h t u lo hi lo' hi' mp mq (omega (arith, means_arrows w ls lo hi p t few mp))

-- The comparison's own answer, of a type that p refers to: equal; or, where it is written there, the place at which its words differ.
pub said_equal : (w : List ℕ) (p : ℕ) (t : Ty) (o : Option ℕ) → Says w p t o (Ok tt) → o ≡ none
unfolding Says
said_equal w p t none x = refl
said_equal w p t (some n) x = let y : ok_unit ≡ differ_at x.0 = x.1 in let z : ◌≡◌ {A = ℕ} 0 1 = cc in absurd (omega arith)

pub said_at : (w : List ℕ) (p : ℕ) (t : Ty) (o : Option ℕ) (d : Difference) → Says w p t o (Err d)
    → (n : ℕ) × (o ≡ some n) × (Written w p t → d.at ≡ p + n)
unfolding Says
said_at w p t none d x = let v : err_unit d ≡ Ok tt = x in let z : ◌≡◌ {A = ℕ} 0 1 = cc in absurd (omega arith)
said_at w p t (some n) d x =
    let v : err_unit d ≡ differ_at x.0 = x.1 in
    let z : d ≡ record { at = x.0 } = cc in (n, refl, λ y. ap (λ (a : Difference). a.at) z ∙ x.2 y)

-- Whether the types are equal.
pub equality : (w ls : List ℕ) (p q : ℕ) (r : Result (Unit {0}) Difference) → Compared w ls p q r → Equality w ls p q (is_ok r)
equality w ls p q (Ok x) h t u lo hi lo' hi' few mp mq = rw (said_equal w p t _ (h t u lo hi lo' hi' few mp mq))
equality w ls p q (Err d) h t u lo hi lo' hi' few mp mq = rw (said_at w p t _ d (h t u lo hi lo' hi' few mp mq)).1
