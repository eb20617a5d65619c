-- The words that are due nodes' are those of the trees that stand there. Assumes nothing.
use Prim.Native.Nat.{ℕ, zero, suc, ◌+◌, ◌-◌, ◌≤◌, ◌<◌}
use mathlib.Core.List.{List, [], ◌∷◌}
use mathlib.Core.Path.{◌≡◌, refl, sym, ap, ◌∙◌}
use lib.ListN.{length, get_or, drop}
use native.Mathlib.Omega.{arith}
use native.Mathlib.Numerals.{add-one}
use Rattle.calculus.specs.Scope.{part_count}
use Rattle.calculus.specs.Kinds.{Sort, Tree, Trees, put_tree, put_trees, size_tree, size_trees}
use Rattle.calculus.proofs.Views.{view, Holds, induction, sized}
use Rattle.writing.specs.Spans.{span}
use Rattle.writing.proofs.Trees.{head_of, count_is}

pub span_none : (ws : List ℕ) → span ws 0 ≡ 0
unfolding span
span_none [] = refl
span_none (w ∷ ws) = refl

-- Past a tree, what is due is what was due after it.
abbrev Past : (s : Sort) → Tree s → Type 0
Past s t = (k : List ℕ) (due : ℕ) → span (put_tree s t k) (suc due) ≡ size_tree s t + span k due

past_all : (ss : List Sort) (ts : Trees ss) → Holds Past ss ts → (k : List ℕ) (due : ℕ)
    → span (put_trees ss ts k) (length ss + due) ≡ size_trees ss ts + span k due
past_all [] ts h k due = let e : 0 + due ≡ due = omega arith in ap (span k) e ∙ sym (omega arith)
past_all (s ∷ ss) ts h k due =
    let e : length (s ∷ ss) + due ≡ suc (length ss + due) = omega arith in
    ap (span (put_tree s ts.0 (put_trees ss ts.1 k))) e ∙ h.0 (put_trees ss ts.1 k) (length ss + due)
    ∙ omega (arith, past_all ss ts.1 h.1 k due)

past_node : (s : Sort) (t : Tree s) → Holds Past (view s t).row.parts (view s t).parts → Past s t
unfolding span
past_node s t h k due =
    let v = view s t in
    let e : due + part_count (head_of s t) ≡ length v.row.parts + due = omega (arith, count_is s t) in
    ap (λ (l : List ℕ). span l (suc due)) (v.spelt k)
    ∙ ap (λ (j : ℕ). suc (span (put_trees v.row.parts v.parts k) j)) e
    ∙ omega (arith, past_all v.row.parts v.parts h k due, sized v)

past : (s : Sort) (t : Tree s) → Past s t
past s t = induction Past past_node s t

-- One node that is due is the tree that stands there.
pub span_tree : (s : Sort) (t : Tree s) (k ws : List ℕ) → ws ≡ put_tree s t k → span ws 1 ≡ size_tree s t
span_tree s t k ws e = ap (λ (l : List ℕ). span l 1) e ∙ past s t k 0 ∙ omega (arith, span_none k)

span_more : (ws : List ℕ) (left i n : ℕ) → (left ≡ 0 → ⊥) → i < length ws → n ≡ part_count (get_or ws i 0)
    → suc (span (drop (suc i) ws) (left - 1 + n)) ≡ span (drop i ws) left
unfolding span
span_more ws zero i n g h e = absurd (g refl)
span_more ws (suc left) i n g h e =
    let z : suc left - 1 + n ≡ left + part_count (get_or ws i 0) = omega arith in
    rw (lib.Seq.drop-cons ws i 0 h, z)

-- The loop that counts, i words being gone by: a turn, and its two ends.
pub span_turn : (ws : List ℕ) (left i n t : ℕ) → (left ≡ 0 → ⊥) → i < length ws → n ≡ part_count (get_or ws i 0) → i + span (drop i ws) left ≡ t
    → i + 1 + span (drop (i + 1) ws) (left - 1 + n) ≡ t
span_turn ws left i n t g h e q = rw (add-one i) (omega (arith, q, span_more ws left i n g h e))

pub span_end : (ws : List ℕ) (left i : ℕ) → length ws ≤ i → span (drop i ws) left ≡ 0
unfolding span
span_end ws left i h = rw (lib.ListN.drop_of_length-le ws h)

pub span_over : (ws : List ℕ) (left i : ℕ) → left ≡ 0 → span (drop i ws) left ≡ 0
span_over ws left i e = ap (span (drop i ws)) e ∙ span_none (drop i ws)
