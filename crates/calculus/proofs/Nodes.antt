-- The reader of nodes: its walk knows no nesting, and is the walk with as many levels as there are words. It gives the words of the tree
-- that stands at a place, and nothing where none stands. Assumes nothing.
use Prim.Native.Nat.{ℕ, zero, suc, ◌+◌, ◌-◌, ◌≤◌, ◌<◌}
use mathlib.Core.Bool.{Bool, true, false}
use mathlib.Core.Logic.{◌↔◌}
use mathlib.Core.List.{List, [], ◌∷◌, ◌++◌}
use mathlib.Core.Option.{Option, none, some}
use mathlib.Core.Path.{◌≡◌, refl, sym, ap, ◌∙◌}
use lib.ListN.{length, get_or, take, drop, length-take}
use lib.Dec.{eqb}
use borrow.Author.Tests.{ne_eqb, eq-eqb, eqb-true}
use native.Mathlib.Omega.{arith}
use Rattle.calculus.specs.Verdicts.{found, Verdict, refused, passed}
use Rattle.calculus.specs.Kinds.{Sort, Tree, put_tree, Row, row_for, sort_of, size_tree}
use Rattle.calculus.specs.Reading.{Act, opens, refuses, later, acted, walk, kind_due, levelled, nested_due, taken, node_size, node_at}
use Rattle.calculus.specs.Nodes.{TreeInRange, Whole, GivenBack, OneWord, is_one_word, alone, ShortWay}
use Rattle.calculus.proofs.Verdicts.{not_both, passed_injective}
use Rattle.calculus.proofs.Walks.{reach, walk_done, walk_reach, later_passed}
use Rattle.calculus.proofs.Sizes.{tree_length, take_tree}
use Rattle.calculus.proofs.Rows.{nesting_tree}
use Rattle.calculus.proofs.Views.{view, sort_of_lem}
use Rattle.calculus.proofs.Nesting.{nested_by, tree_taken, walk_stands}

-- What is due, without its levels; and that there are at least n levels for each.
abbrev pub sorts : List (Sort × ℕ) → List Sort
sorts [] = []
sorts (d ∷ ds) = d.0 ∷ sorts ds

abbrev pub Roomy : ℕ → List (Sort × ℕ) → Type 0
Roomy n [] = Unit {0}
Roomy n (d ∷ ds) = (n ≤ d.1) × Roomy n ds

sorts_levelled : (n : ℕ) (ss : List Sort) (ds : List (Sort × ℕ)) → sorts (levelled n ss ++ ds) ≡ ss ++ sorts ds
sorts_levelled n [] ds = refl
sorts_levelled n (s ∷ ss) ds = ap (λ (l : List Sort). s ∷ l) (sorts_levelled n ss ds)

roomy_levelled : (m n : ℕ) (ss : List Sort) (ds : List (Sort × ℕ)) → m ≤ n → Roomy m ds → Roomy m (levelled n ss ++ ds)
roomy_levelled m n [] ds h g = g
roomy_levelled m n (s ∷ ss) ds h g = (h, roomy_levelled m n ss ds h g)

roomy_less : (m n : ℕ) (ds : List (Sort × ℕ)) → m ≤ n → Roomy n ds → Roomy m ds
roomy_less m n [] h g = tt
roomy_less m n (d ∷ ds) h g = (omega arith, roomy_less m n ds h g.1)

-- Where there are as many levels as words, no level is missed.
pub no_nesting : (ws : List ℕ) (ds : List (Sort × ℕ)) → Roomy (length ws) ds → walk nested_due ws ds ≡ walk kind_due ws (sorts ds)
unfolding walk
no_nesting [] [] h = refl
no_nesting [] (d ∷ ds) h = refl
no_nesting (w ∷ ws) [] h = refl
no_nesting (w ∷ ws) (d ∷ ds) h = by_row_lem (λ es g. no_nesting ws es g) d.1 h.0 (row_for d.0 w)
  where
    by_row_lem : ((es : List (Sort × ℕ)) → Roomy (length ws) es → walk nested_due ws es ≡ walk kind_due ws (sorts es)) → (room : ℕ) → suc
        (length ws) ≤ room
        → (o : Option (Row d.0)) → acted (nested_by room o) (λ ps. walk nested_due ws (ps ++ ds))
        ≡ acted (found o (refuses 3) (λ r. opens r.parts)) (λ ps. walk kind_due ws (ps ++ sorts ds))
    by_row_lem more room g none = refl
    by_row_lem more room g (some r) =
        let others = roomy_less (length ws) (suc (length ws)) ds (omega arith) h.1 in
        let next = more (levelled (room - 1) r.parts ++ ds) (roomy_levelled (length ws) (room - 1) r.parts ds (omega arith) others) in
        rw (ne_eqb room 0 (λ z. omega (arith, z))) (ap (later 1) (next ∙ ap (walk kind_due ws) (sorts_levelled (room - 1) r.parts ds)))

-- The words of a tree are a whole node, whatever stands behind them.
pub node_size_lem : (s : Sort) (t : Tree s) → TreeInRange s t → (k : List ℕ) → node_size (put_tree s t k) ≡ size_tree s t
unfolding node_size
node_size_lem s t h k =
    let ws = put_tree s t k in
    let v = view s t in
    let room = nesting_tree s t + length ws in
    let first : sort_of (get_or ws 0 0) ≡ s = ap (λ (l : List ℕ). sort_of (get_or l 0 0)) (v.spelt k) ∙ sort_of_lem v in
    let n : size_tree s t + 0 ≡ size_tree s t = omega arith in
    ap (λ (x : Sort). taken (walk kind_due ws (x ∷ []))) first
    ∙ ap taken (sym (no_nesting ws ((s, room) ∷ []) (omega arith, tt)) ∙ tree_taken s t h room (omega arith) k []
    ∙ ap (later (size_tree s t)) (walk_done nested_due k)) ∙ n

-- So the reader gives back a tree's own words where they stand.
pub node_given : (ws : List ℕ) (at : ℕ) (s : Sort) (t : Tree s) (k : List ℕ) → TreeInRange s t → drop at ws ≡ put_tree s t k
    → node_at ws at ≡ put_tree s t []
node_given ws at s t k h q =
    ap (λ (l : List ℕ). take (node_size l) l) q ∙ ap (λ (n : ℕ). take n (put_tree s t k)) (node_size_lem s t h k) ∙ take_tree s t k

-- And where it gives back any words, they are those of a tree in range.
node_sound : (ws : List ℕ) (at : ℕ) → (node_size (drop at ws) ≡ 0 → ⊥) → Whole ws at
unfolding node_size
node_sound ws at h = by_walk (walk kind_due (drop at ws) (sort_of (get_or (drop at ws) 0 0) ∷ [])) refl h
  where
    by_walk : (v : Verdict ℕ) → walk kind_due (drop at ws) (sort_of (get_or (drop at ws) 0 0) ∷ []) ≡ v → (taken v ≡ 0 → ⊥) → Whole ws at
    by_walk (refused r p) q g = absurd (g refl)
    by_walk (passed n) q g =
        let part = drop at ws in
        let s = sort_of (get_or part 0 0) in
        let t = walk_stands part ((s, length part) ∷ []) n (no_nesting part ((s, length part) ∷ []) (omega arith, tt) ∙ q) in
        record { sort = s; tree = t.trees.0; ranged = t.fit.0; rest = t.rest; spelt = t.spelt }

-- A node's words are there.
taken_reach : (v : Verdict ℕ) → taken v ≤ reach v
taken_reach (refused r p) = omega arith
taken_reach (passed n) = omega arith

pub size_fits : (ws : List ℕ) → node_size ws ≤ length ws
unfolding node_size
size_fits ws =
    let ds = sort_of (get_or ws 0 0) ∷ [] in
    omega (arith, taken_reach (walk kind_due ws ds), walk_reach kind_due ws ds)

pub node_length : (ws : List ℕ) (at : ℕ) → length (node_at ws at) ≡ node_size (drop at ws)
node_length ws at = omega (arith, length-take (node_size (drop at ws)) (drop at ws), size_fits (drop at ws))

-- The reader of nodes, said of trees.
pub given_back : (ws : List ℕ) (at : ℕ) → GivenBack ws at (node_at ws at)
given_back ws at =
    record {
      whole = λ n. node_given ws at n.sort n.tree n.rest n.ranged n.spelt;
      empty = λ h. by (node_size (drop at ws)) refl h;
    }
  where
    by : (n : ℕ) → node_size (drop at ws) ≡ n → ¬ Whole ws at → node_at ws at ≡ []
    by zero e h = rw e
    by (suc n) e h = absurd (h (node_sound ws at (λ z. omega (arith, e, z))))

-- "the places whose whole node is one word", as an answer t and by trees.
pub one_word : (ws : List ℕ) (at : ℕ) (t : Bool) → t ≡ is_one_word ws at → (t ≡ true) ↔ OneWord ws at
one_word ws at t e = ((λ y. there (sym e ∙ y)), (λ n. e ∙ back n))
  where
    words : (n : Whole ws at) → length (node_at ws at) ≡ size_tree n.sort n.tree
    words n =
        let g = (given_back ws at).whole n in
        omega (arith, ap length g, tree_length n.sort n.tree [])

    there : is_one_word ws at ≡ true → OneWord ws at
    there y =
        let one = eqb-true (length (node_at ws at)) 1 y in
        let n = node_sound ws at (λ z. omega (arith, one, ap (λ (m : ℕ). length (take m (drop at ws))) z)) in
        (n, sym (words n) ∙ one)

    back : OneWord ws at → is_one_word ws at ≡ true
    back p = eq-eqb (length (node_at ws at)) 1 (words p.0 ∙ p.1)

-- Behind a part that is due stands at least one word.
some_taken : {D : Type 0} (f : D → ℕ → Act D) (ws : List ℕ) (d : D) (ds : List D) (n : ℕ) → walk f ws (d ∷ ds) ≡ passed n → 1 ≤ n
unfolding walk
some_taken f [] d ds n q = absurd (not_both 3 0 n q)
some_taken f (w ∷ ws) d ds n q = by (f d w) q
  where
    by : (a : Act _) → acted a (λ ps. walk f ws (ps ++ ds)) ≡ passed n → 1 ≤ n
    by (opens ps) p = let i = later_passed 1 (walk f ws (ps ++ ds)) n p in omega (arith, passed_injective _ _ (sym (ap (later 1) i.1) ∙ p))
    by (refuses r) p = absurd (not_both r 0 n p)

-- "it answers at exactly the places whose whole node is one word": a word's row tells, whatever stands behind it.
alone_is : (w : ℕ) (ws : List ℕ) → alone w ≡ eqb (node_size (w ∷ ws)) 1
unfolding alone node_size walk
alone_is w ws = by (row_for (sort_of w) w)
  where
    more : (v : Verdict ℕ) → ((n : ℕ) → v ≡ passed n → 1 ≤ n) → false ≡ eqb (taken (later 1 v)) 1
    more (refused r p) h = refl
    more (passed n) h = sym (ne_eqb (1 + n) 1 (λ z. let i = h n refl in omega arith))

    by_parts : (ps : List Sort) → eqb (length ps) 0 ≡ eqb (taken (later 1 (walk kind_due ws (ps ++ [])))) 1
    by_parts [] = rw (walk_done kind_due ws)
    by_parts (p ∷ ps) =
        ne_eqb (length (p ∷ ps)) 0 (λ z. omega (arith, z))
        ∙ more (walk kind_due ws (p ∷ ps ++ [])) (λ n q. some_taken kind_due ws p (ps ++ []) n q)

    by : (o : Option (Row (sort_of w)))
        → found o false (λ r. eqb (length r.parts) 0)
        ≡ eqb (taken (acted (found o (refuses 3) (λ r. opens r.parts)) (λ ps. walk kind_due ws (ps ++ [])))) 1
    by none = refl
    by (some r) = by_parts r.parts

pub alone_at : (ws : List ℕ) (at : ℕ) → at < length ws → alone (get_or ws at 0) ≡ is_one_word ws at
alone_at [] at h = absurd (omega (arith, h))
alone_at (w ∷ ws) zero h = alone_is w ws ∙ ap (λ (n : ℕ). eqb n 1) (sym (node_length (w ∷ ws) 0))
alone_at (w ∷ ws) (suc at) h = alone_at ws at (omega (arith, h))

pub short_way : ShortWay
short_way ws at h = one_word ws at (alone (get_or ws at 0)) (alone_at ws at h)
