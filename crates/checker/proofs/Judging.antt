-- Refusals 3 to 7 in their order. Assumes nothing.
use Rattle.std.specs.Prelude.{Result, Err}
use Prim.Native.Nat.{ℕ, ◌+◌, ◌-◌, ◌≤◌}
use mathlib.Core.List.{List, [], ◌∷◌, ◌++◌}
use mathlib.Core.Path.{◌≡◌, refl, sym, ap, ◌∙◌}
use lib.ListN.{length, take, drop, length-drop}
use lib.Seq.{length-take-le}
use borrow.Author.Rules.{part_to_end}
use lib.ListN.{take-append-drop}
use native.Mathlib.Omega.{arith}
use Rattle.calculus.specs.Trees.{ml}
use Rattle.calculus.specs.Kinds.{type, term}
use Rattle.calculus.proofs.Sizes.{tree_append}
use Rattle.calculus.specs.Verdicts.{Verdict, refused, passed, and_then}
use Rattle.calculus.specs.Reading.{later, walk, in_order}
use Rattle.calculus.specs.Scope.{scope_due}
use Rattle.calculus.specs.File.{Recipe, typed, with_tree}
use Rattle.calculus.proofs.Nesting.{Ordered, passes_ordered}
use Rattle.calculus.proofs.Walks.{later_passed}
use Rattle.calculus.proofs.Verdicts.{then_passed}
use Rattle.calculus.proofs.Checks.{spelt_by, judged_typed}
use Rattle.nodes.specs.declared.refusals.Refusal.{Refusal}
use Rattle.nodes.specs.Refusals.{refusal}
use Rattle.nodes.specs.Walks.{both_ordered}
use Rattle.types.specs.References.{Written}
use Rattle.checker.specs.Checks.{checked, accepting, judging, Decides}

in_one : {A B : Type 0} (v w : Verdict A) (k : A → Verdict B) → and_then v (λ n. and_then w k) ≡ and_then (and_then v (λ n. w)) k
in_one (refused n p) w k = refl
in_one (passed a) w k = refl

module _ (ws : List ℕ) (n : ℕ) (b : 4 + n ≤ length ws) where
  abbrev types : List ℕ
  types = take n (drop 4 ws)

  abbrev terms : List ℕ
  terms = drop (4 + n) ws

  -- Refusal 5, and then the trees.
  abbrev closing : Verdict ℕ
  closing = later (4 + n) (walk scope_due terms ([] ∷ []))

  abbrev trees : Verdict Recipe
  trees = with_tree type types 4 (λ τ. with_tree (term ml) terms (4 + n) (λ e. typed 4 (4 + n) τ e))

  types_count : length types ≡ n
  types_count = length-take-le n (drop 4 ws) (omega (arith, length-drop 4 ws, b))

  in_turn : accepting (judging ws n) ≡ accepting (and_then (both_ordered types terms) (λ i. and_then closing (λ m. trees)))
  unfolding both_ordered
  in_turn =
      rw types_count
      (ap (λ (v : Verdict Recipe). accepting v)
      (in_one (later 4 (in_order type types)) (later (4 + n) (in_order (term ml) terms)) (λ i. and_then closing (λ m. trees))))

  pub not_ordered : (r : Refusal) → refusal r ≡ both_ordered types terms → checked (Err r) ≡ accepting (judging ws n)
  not_ordered r q = sym (in_turn ∙ ap (λ (v : Verdict ℕ). accepting (and_then v (λ i. and_then closing (λ m. trees)))) (sym q))

  past_order : (i : ℕ) → passed i ≡ both_ordered types terms → accepting (judging ws n) ≡ accepting (and_then closing (λ m. trees))
  past_order i q = in_turn ∙ ap (λ (v : Verdict ℕ). accepting (and_then v (λ i. and_then closing (λ m. trees)))) (sym q)

  pub not_closed : (i : ℕ) (r : Refusal) → passed i ≡ both_ordered types terms → refusal r ≡ closing → checked (Err r) ≡ accepting (judging ws n)
  not_closed i r q c = sym (past_order i q ∙ ap (λ (v : Verdict ℕ). accepting (and_then v (λ m. trees))) (sym c))

  -- The trees are there.
  both : (i : ℕ) → passed i ≡ both_ordered types terms → Ordered type types × Ordered (term ml) terms
  unfolding both_ordered
  both i q =
      let t = then_passed (later 4 (in_order type types)) _ i (sym q) in
      let j = later_passed 4 (in_order type types) t.0 t.1 in
      let k = later_passed (4 + length types) (in_order (term ml) terms) i t.2 in
      (passes_ordered type types j.0 j.1, passes_ordered (term ml) terms k.0 k.1)

  written : (t : Ordered type types) → Written ws 4 t.tree
  written t =
      let r = drop 4 ws in (
        drop n r,
        sym (take-append-drop n r) ∙ ap (λ (l : List ℕ). l ++ drop n r) t.spelt ∙ sym (tree_append type t.tree [] (drop n r)),
      )

  pub decided : (i m : ℕ) (r : Result (Unit {0}) Refusal) → passed i ≡ both_ordered types terms → passed m ≡ closing → Decides ws (4 + n) r
      → checked r ≡ accepting (judging ws n)
  decided i m r q c d =
      let o = both i q in
      let t = o.0 in
      let e = o.1 in
      let k = later_passed (4 + n) (walk scope_due terms ([] ∷ [])) m (sym c) in
      d t.tree e.tree (written t) e.spelt
      ∙ sym (ap accepting (judged_typed types terms (4 + n) (spelt_by types terms t e k.0 k.1)))

  -- The words as the code takes them.
  pub ordered_is : (v : Verdict ℕ) → v ≡ both_ordered (take (4 + n - 4) (drop 4 ws)) (take (length ws - (4 + n)) (drop (4 + n) ws))
      → v ≡ both_ordered types terms
  ordered_is v q =
      let k : 4 + n - 4 ≡ n = omega arith in
      q ∙ ap (λ (a : List ℕ). both_ordered a (take (length ws - (4 + n)) (drop (4 + n) ws))) (ap (λ (j : ℕ). take j (drop 4 ws)) k)
      ∙ ap (λ (a : List ℕ). both_ordered types a) (part_to_end ws (4 + n))

  pub closing_is : (v : Verdict ℕ) → v ≡ later (4 + n) (walk scope_due (take (length ws - (4 + n)) (drop (4 + n) ws)) ([] ∷ [])) → v ≡ closing
  closing_is v q = q ∙ ap (λ (a : List ℕ). later (4 + n) (walk scope_due a ([] ∷ []))) (part_to_end ws (4 + n))
