-- What the functions over the walk answer: words in order, and the node at the start of words. Assumes nothing.
use Rattle.std.proofs.Common.{ℕ, ◌+◌, ◌-◌, ◌%◌, ◌≤◌, ◌<◌, true, List, [], ◌∷◌, Option, None, Some, Result, Ok, Err}
use Rattle.std.proofs.Common.{◌≡◌, refl, sym, ap, ◌∙◌, length, take}
use Rattle.std.proofs.Common.{drop, arith, length-drop, slice_get, unwrap_or}
use Rattle.std.specs.Result.{result_ok}
use Rattle.std.proofs.Math.Option.{none, some}
use Rattle.std.proofs.Math.Option as math
use Rattle.std.proofs.lemmas.Option.{none-some}
use lib.ListN.{drop_of_length-le}
use lib.Seq.{take-nil}
use borrow.Author.Tests.{eq-eqb, ne_eqb, eqb-true}
use borrow.Author.Rules.{part_to_end}
use native.Mathlib.Nat.{add-sub_cancel_left}
use Rattle.calculus.specs.Verdicts.{found, Verdict, refused, passed, and_then}
use Rattle.calculus.specs.Trees.{ml}
use Rattle.calculus.specs.Kinds.{Sort, type, term, table, row_in, row_for, sort_of, sort_of_kind}
use Rattle.calculus.specs.Kinds as calculus
use Rattle.calculus.specs.Reading.{later, walk, kind_due, nested_due, none_left, in_order, taken, node_size, node_at}
use Rattle.calculus.specs.Nodes.{is_one_word}
use Rattle.calculus.proofs.Verdicts.{not_both, passed_injective}
use Rattle.calculus.proofs.Walks.{walk_step, later_zero, later_passed}
use Rattle.calculus.proofs.Nesting.{passes_all}
use Rattle.calculus.proofs.Nodes.{no_nesting, size_fits, node_length}
use Rattle.nodes.specs.declared.refusals.Refusal.{Refusal}
use Rattle.nodes.specs.Refusals.{number_of, place_of, refusal}
use Rattle.nodes.specs.Table.{Row, entry, row_of}
use Rattle.nodes.specs.Walks.{walked, both_ordered}
use Rattle.nodes.proofs.Ways.{part_length}
use Rattle.nodes.proofs.Dues.{sort_told}

-- Words in order: the walk over one node of a sort, and what is left.
module _ (s : Sort) (ws : List ℕ) (at : ℕ) where
  pub order_refused : (r : Refusal) → refusal r ≡ later at (walk nested_due ws ((s, 256) ∷ [])) → refusal r ≡ later at (in_order s ws)
  unfolding in_order
  order_refused r e = by (walk nested_due ws ((s, 256) ∷ [])) e
    where
      by : (v : Verdict ℕ) → refusal r ≡ later at v → refusal r ≡ later at (none_left (length ws) v)
      by (refused m p) g = g
      by (passed m) g = absurd (not_both (number_of r) (place_of r) (at + m) g)

  module _ (n : ℕ) (e : passed n ≡ later at (walk nested_due ws ((s, 256) ∷ []))) where
    pub order_took : n - at ≡ length ws → passed n ≡ later at (in_order s ws)
    unfolding in_order
    order_took l = by (walk nested_due ws ((s, 256) ∷ [])) e
      where
        by : (v : Verdict ℕ) → passed n ≡ later at v → passed n ≡ later at (none_left (length ws) v)
        by (refused m p) g = g
        by (passed m) g = let i : n ≡ at + m = passed_injective n (at + m) g in rw (eq-eqb m (length ws) (omega arith)) g

    pub order_more : (n - at ≡ length ws → ⊥) → refused 3 n ≡ later at (in_order s ws)
    unfolding in_order
    order_more l = by (walk nested_due ws ((s, 256) ∷ [])) e
      where
        by : (v : Verdict ℕ) → passed n ≡ later at v → refused 3 n ≡ later at (none_left (length ws) v)
        by (refused m p) g = absurd (not_both m (at + p) n (sym g))
        by (passed m) g =
            let i : n ≡ at + m = passed_injective n (at + m) g in
            let j : n - at ≡ m = omega arith in
            rw (ne_eqb m (length ws) (λ k. l (j ∙ k))) (ap (refused 3) i)

-- The declared type's words, and then the term's.
module _ (ts ws : List ℕ) where
  pub types_refused : (r : Refusal) → refusal r ≡ later 4 (in_order type ts) → refusal r ≡ both_ordered ts ws
  unfolding both_ordered
  types_refused r e = by (later 4 (in_order type ts)) e
    where
      by : (v : Verdict ℕ) → refusal r ≡ v → refusal r ≡ and_then v (λ n. later (4 + length ts) (in_order (term ml) ws))
      by (refused m p) g = g
      by (passed m) g = absurd (not_both (number_of r) (place_of r) m g)

  module _ (n : ℕ) (e : passed n ≡ later 4 (in_order type ts)) where
    pub types_end : n ≡ 4 + length ts
    types_end =
        let i = later_passed 4 (in_order type ts) n (sym e) in
        let j = passes_all type ts i.0 i.1 in
        let k : 4 + i.0 ≡ n = passed_injective _ _ (sym (ap (later 4) i.1) ∙ sym e) in
        omega arith

    pub terms_follow : (v : Verdict ℕ) → v ≡ later n (in_order (term ml) ws) → v ≡ both_ordered ts ws
    unfolding both_ordered
    terms_follow v g =
        g ∙ ap (λ (m : ℕ). later m (in_order (term ml) ws)) types_end
        ∙ ap (λ (x : Verdict ℕ). and_then x (λ n. later (4 + length ts) (in_order (term ml) ws))) e

-- The node at the start of the words.
pub no_node : (ws : List ℕ) → length ws ≡ 0 → 0 ≡ node_size ws
unfolding node_size walk
no_node [] h = refl
no_node (w ∷ ws) h = absurd (omega (arith, h))

module _ (w : ℕ) (rest : List ℕ) where
  some_word : length (w ∷ rest) ≡ 0 → ⊥
  some_word h = omega (arith, h)

  pub no_kind_there : None ≡ row_of (w % 256) → 0 ≡ node_size (w ∷ rest)
  unfolding node_size row_of row_for
  no_kind_there e = by (row_in (table (sort_of w)) (w % 256)) refl e
    where
      by : (o : math.Option (calculus.Row (sort_of w))) → row_in (table (sort_of w)) (w % 256) ≡ o → None ≡ found o None (λ r. Some (entry r))
          → 0 ≡ taken (walk kind_due (w ∷ rest) (sort_of w ∷ []))
      by none i g = sym (ap taken (walk_step kind_due (w ∷ rest) (sort_of w) [] some_word) ∙ rw i)
      by (some r) i g = absurd (none-some (entry r) g)

  pub node_is : (x : Row) → Some x ≡ row_of (w % 256) → (v : Verdict ℕ)
      → v ≡ later 0 (walk nested_due (w ∷ rest) ((x.sort, length (w ∷ rest)) ∷ [])) → taken v ≡ node_size (w ∷ rest)
  unfolding node_size
  node_is x e v q =
      ap taken (q ∙ later_zero (walk nested_due (w ∷ rest) ((x.sort, length (w ∷ rest)) ∷ []))
      ∙ ap (λ (s : Sort). walk nested_due (w ∷ rest) ((s, length (w ∷ rest)) ∷ [])) (sort_told (w % 256) x e)
      ∙ no_nesting (w ∷ rest) ((sort_of w, length (w ∷ rest)) ∷ []) (omega arith, tt))

-- A first word; and what a walk took.
pub first_there : (ws : List ℕ) (w : ℕ) → Some w ≡ slice_get ws 0 → ws ≡ w ∷ drop 1 ws
first_there [] w e = absurd (none-some w (sym e))
first_there (x ∷ ws) w e = ap (λ (y : ℕ). y ∷ ws) (sym (ap (λ (o : Option ℕ). unwrap_or o w) e))

pub first_none : (ws : List ℕ) → None ≡ slice_get ws 0 → length ws ≡ 0
first_none [] e = refl
first_none (x ∷ ws) e = absurd (none-some x e)

pub took : (x : Result ℕ Refusal) → unwrap_or (result_ok x) 0 ≡ taken (walked x)
took (Ok n) = refl
took (Err r) = refl

-- A node's words are there.
pub node_fits : (ws : List ℕ) (at n : ℕ) → n ≡ node_size (take (length ws - at) (drop at ws)) → n ≤ length ws - at
node_fits ws at n e = omega (arith, size_fits (take (length ws - at) (drop at ws)), part_length ws at)

-- The reader's answers.
pub past_end : (ws : List ℕ) (at : ℕ) → length ws ≤ at → [] ≡ node_at ws at
past_end ws at h = rw (drop_of_length-le ws h) (sym (take-nil (node_size [])))

pub node_part : (ws : List ℕ) (at n : ℕ) → n ≡ node_size (take (length ws - at) (drop at ws)) → take (at + n - at) (drop at ws) ≡ node_at ws at
node_part ws at n e = rw (add-sub_cancel_left at n, e, part_to_end ws at)

-- Where the node is one word: the place is within the words, and the part is that word.
module _ (ws : List ℕ) (at : ℕ) (one : is_one_word ws at ≡ true) where
  one_size : node_size (drop at ws) ≡ 1
  one_size = sym (node_length ws at) ∙ eqb-true (length (node_at ws at)) 1 one

  pub inside : at < length ws
  inside = omega (arith, one_size, size_fits (drop at ws), length-drop at ws)

  pub one_part : take (at + 1 - at) (drop at ws) ≡ node_at ws at
  one_part = rw (add-sub_cancel_left at 1) (ap (λ (n : ℕ). take n (drop at ws)) (sym one_size))
