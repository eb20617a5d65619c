-- Refusals 3 and 4: the walk with levels takes exactly the words of a tree in range that is nested within the levels; those of one nested deeper
-- it refuses by 4. Assumes nothing.
use Prim.Native.Nat.{ℕ, zero, suc, ◌+◌, ◌-◌, ◌/◌, ◌≤◌, ◌<◌}
use mathlib.Core.Bool.{Bool, true, false, cond}
use mathlib.Core.List.{List, [], ◌∷◌, ◌++◌}
use mathlib.Core.Option.{Option, none, some}
use mathlib.Core.Path.{◌≡◌, refl, sym, ap, ◌∙◌}
use lib.Dec.{eqb, leb}
use lib.ListN.{length}
use borrow.Author.Tests.{eqb-true, eq-eqb, ne_eqb, leb-true, leb-false}
use native.Mathlib.Omega.{arith}
use Rattle.calculus.specs.Verdicts.{found, Verdict, refused, passed}
use Rattle.calculus.specs.Words.{word}
use Rattle.calculus.specs.Kinds.{Sort, Tree, Trees, put_tree, put_trees, Row, row_for, size_tree, size_trees}
use Rattle.calculus.specs.Reading.{Act, opens, refuses, later, acted, walk, levels, levelled, nested_due, none_left, in_order}
use Rattle.calculus.proofs.Verdicts.{not_both, passed_injective}
use Rattle.calculus.proofs.Walks.{later_zero, later_later, later_passed, walk_done}
use Rattle.calculus.proofs.Sizes.{tree_length}
use Rattle.calculus.specs.Nodes.{TreeInRange}
use Rattle.calculus.proofs.Rows.{TreesInRange, nesting_tree, deepest, word_due, due_word, due_made, law_at}
use Rattle.calculus.proofs.Views.{View, view, Holds, OfParts, induction, sized}

-- The first part of what nests within a number of levels, and the others.
deepest_first : (s : Sort) (ss : List Sort) (ts : Trees (s ∷ ss)) (n : ℕ) → deepest (s ∷ ss) ts ≤ n
    → (nesting_tree s ts.0 ≤ n) × (deepest ss ts.1 ≤ n)
deepest_first s [] ts n h = (h, omega arith)
deepest_first s (t ∷ ss) ts n h = (omega arith, omega arith)

-- A tree nests one deeper than its parts.
nests : (s : Sort) (t : Tree s) (v : View s t) → TreeInRange s t → nesting_tree s t ≡ suc (deepest v.row.parts v.parts)
nests s t v h =
    let f = v.fits h in
    ap (nesting_tree s) (sym v.makes) ∙ ((law_at s v.row.kind v.row v.listed).0.made v.operand f.0 f.1 v.parts).nested

-- A tree's words are taken whole.
abbrev Takes : (s : Sort) → Tree s → Type 0
Takes s t = TreeInRange s t → (n : ℕ) → nesting_tree s t ≤ n → (k : List ℕ) (ds : List (Sort × ℕ))
    → walk nested_due (put_tree s t k) ((s, n) ∷ ds) ≡ later (size_tree s t) (walk nested_due k ds)

parts_take : (ss : List Sort) (ts : Trees ss) → Holds Takes ss ts → TreesInRange ss ts → (n : ℕ) → deepest ss ts ≤ n
    → (k : List ℕ) (ds : List (Sort × ℕ)) → walk nested_due (put_trees ss ts k) (levelled n ss ++ ds) ≡ later (size_trees ss ts)
    (walk nested_due k ds)
parts_take [] ts hs rs n h k ds = sym (later_zero (walk nested_due k ds))
parts_take (s ∷ ss) ts hs rs n h k ds =
    let d = deepest_first s ss ts n h in
    hs.0 rs.0 n d.0 (put_trees ss ts.1 k) (levelled n ss ++ ds)
    ∙ ap (later (size_tree s ts.0)) (parts_take ss ts.1 hs.1 rs.1 n d.1 k ds)
    ∙ later_later (size_tree s ts.0) (size_trees ss ts.1) (walk nested_due k ds)

-- What a word means by its row, where there is room for so many levels.
abbrev pub nested_by : {s : Sort} → ℕ → Option (Row s) → Act (Sort × ℕ)
nested_by room o = found o (refuses 3) (λ r. cond (eqb room 0) (refuses 4) (opens (levelled (room - 1) r.parts)))

-- A due word with a level to spare.
walk_due : (s : Sort) (n w : ℕ) (ws : List ℕ) (ds : List (Sort × ℕ)) (r : Row s) → row_for s w ≡ some r
    → walk nested_due (w ∷ ws) ((s, suc n) ∷ ds) ≡ later 1 (walk nested_due ws (levelled n r.parts ++ ds))
unfolding walk
walk_due s n w ws ds r q =
    let e : suc n - 1 ≡ n = omega arith in
    rw (q, ne_eqb (suc n) 0 (λ z. omega (arith, z)), e)

node_takes : (s : Sort) (t : Tree s) → OfParts Takes s t
node_takes s t hs h zero small k ds = absurd (omega (arith, nests s t (view s t) h))
node_takes s t hs h (suc n) small k ds =
    let v = view s t in
    let r = v.row in
    let f = v.fits h in
    ap (λ (ws : List ℕ). walk nested_due ws ((s, suc n) ∷ ds)) (v.spelt k)
    ∙ walk_due s n (word r.kind v.operand) _ ds r (word_due s r.kind v.operand r v.small v.listed f.0 f.1)
    ∙ ap (later 1) (parts_take r.parts v.parts hs f.2 n (omega (arith, nests s t v h)) k ds)
    ∙ later_later 1 (size_trees r.parts v.parts) (walk nested_due k ds)
    ∙ ap (λ (m : ℕ). later m (walk nested_due k ds)) (omega (arith, sized v))

pub tree_taken : (s : Sort) (t : Tree s) → TreeInRange s t → (n : ℕ) → nesting_tree s t ≤ n → (k : List ℕ) (ds : List (Sort × ℕ))
    → walk nested_due (put_tree s t k) ((s, n) ∷ ds) ≡ later (size_tree s t) (walk nested_due k ds)
tree_taken s t h n d k ds = induction Takes node_takes s t h n d k ds

-- What is taken is trees: one for each that is due.
abbrev pub TreesFor : List (Sort × ℕ) → Type 0
TreesFor [] = Unit {0}
TreesFor (d ∷ ds) = Tree d.0 × TreesFor ds

abbrev pub put_for : (ds : List (Sort × ℕ)) → TreesFor ds → List ℕ → List ℕ
put_for [] ts k = k
put_for (d ∷ ds) ts k = put_tree d.0 ts.0 (put_for ds ts.1 k)

-- In range, and nested within their levels.
abbrev pub Fit : (ds : List (Sort × ℕ)) → TreesFor ds → Type 0
Fit [] ts = Unit {0}
Fit (d ∷ ds) ts = TreeInRange d.0 ts.0 × (nesting_tree d.0 ts.0 ≤ d.1) × Fit ds ts.1

pub record Stands (ws : List ℕ) (ds : List (Sort × ℕ)) : Type 0 where
  pub trees : TreesFor ds
  pub rest : List ℕ
  pub spelt : ws ≡ put_for ds trees rest
  pub fit : Fit ds trees

-- The parts of a word, and what was due behind it.
module _ (n : ℕ) (ds : List (Sort × ℕ)) where
  abbrev firsts : (ss : List Sort) → TreesFor (levelled n ss ++ ds) → Trees ss
  firsts [] ts = tt
  firsts (s ∷ ss) ts = (ts.0, firsts ss ts.1)

  abbrev others : (ss : List Sort) → TreesFor (levelled n ss ++ ds) → TreesFor ds
  others [] ts = ts
  others (s ∷ ss) ts = others ss ts.1

  put_split : (ss : List Sort) (ts : TreesFor (levelled n ss ++ ds)) (k : List ℕ)
      → put_for (levelled n ss ++ ds) ts k ≡ put_trees ss (firsts ss ts) (put_for ds (others ss ts) k)
  put_split [] ts k = refl
  put_split (s ∷ ss) ts k = ap (put_tree s ts.0) (put_split ss ts.1 k)

  deepest_more : (s : Sort) (ss : List Sort) (ts : Trees (s ∷ ss)) → nesting_tree s ts.0 ≤ n → deepest ss ts.1 ≤ n → deepest (s ∷ ss) ts ≤ n
  deepest_more s [] ts h g = h
  deepest_more s (t ∷ ss) ts h g = omega arith

  fit_split : (ss : List Sort) (ts : TreesFor (levelled n ss ++ ds)) → Fit (levelled n ss ++ ds) ts
      → TreesInRange ss (firsts ss ts) × (deepest ss (firsts ss ts) ≤ n) × Fit ds (others ss ts)
  fit_split [] ts h = (tt, omega arith, h)
  fit_split (s ∷ ss) ts h =
      let i = fit_split ss ts.1 h.2 in
      ((h.0, i.0), deepest_more s ss (ts.0, firsts ss ts.1) h.1 i.1, i.2)

pub word_stands : (s : Sort) (n w : ℕ) (ws : List ℕ) (ds : List (Sort × ℕ)) (r : Row s) → row_for s w ≡ some r
    → Stands ws (levelled n r.parts ++ ds) → Stands (w ∷ ws) ((s, suc n) ∷ ds)
word_stands s n w ws ds r q t =
    let ps = firsts n ds r.parts t.trees in
    let us = others n ds r.parts t.trees in
    let m = due_made s w r q ps in
    let f = fit_split n ds r.parts t.trees t.fit in
    record {
      trees = (r.make (w / 256) ps, us);
      rest = t.rest;
      spelt =
          ap (λ (l : List ℕ). w ∷ l) (t.spelt ∙ put_split n ds r.parts t.trees t.rest)
          ∙ ap (λ (j : ℕ). j ∷ put_trees r.parts ps (put_for ds us t.rest)) (sym (due_word s w r q).spells)
          ∙ sym (m.spelt (put_for ds us t.rest));
      fit = (m.ranged f.0, omega (arith, m.nested, f.1), f.2);
    }

pub word_rest : (s : Sort) (n w : ℕ) (ws : List ℕ) (ds : List (Sort × ℕ)) (r : Row s) (q : row_for s w ≡ some r)
    (t : Stands ws (levelled n r.parts ++ ds)) → (word_stands s n w ws ds r q t).rest ≡ t.rest
unfolding word_stands
word_rest s n w ws ds r q t = refl

-- "3 before 4 at a word".
pub kind_first : (d : Sort × ℕ) (w : ℕ) → row_for d.0 w ≡ none → nested_due d w ≡ refuses 3
kind_first d w q = rw q

pub walk_stands : (ws : List ℕ) (ds : List (Sort × ℕ)) (n : ℕ) → walk nested_due ws ds ≡ passed n → Stands ws ds
unfolding walk
walk_stands [] [] n q = record { trees = tt; rest = []; spelt = refl; fit = tt }
walk_stands [] (d ∷ ds) n q = absurd (not_both 3 0 n q)
walk_stands (w ∷ ws) [] n q = record { trees = tt; rest = w ∷ ws; spelt = refl; fit = tt }
walk_stands (w ∷ ws) (d ∷ ds) n q = by_row_lem (λ us m p. walk_stands ws us m p) d.1 (row_for d.0 w) refl q
  where
    by_row_lem : ((us : List (Sort × ℕ)) (m : ℕ) → walk nested_due ws us ≡ passed m → Stands ws us) → (room : ℕ) (o : Option (Row d.0))
        → row_for d.0 w ≡ o → acted (nested_by room o) (λ ps. walk nested_due ws (ps ++ ds)) ≡ passed n → Stands (w ∷ ws) ((d.0, room) ∷ ds)
    by_row_lem more room none e p = absurd (not_both 3 0 n p)
    by_row_lem more zero (some r) e p = absurd (not_both 4 0 n p)
    by_row_lem more (suc room) (some r) e p =
        let z : suc room - 1 ≡ room = omega arith in
        let g : later 1 (walk nested_due ws (levelled room r.parts ++ ds)) ≡ passed n =
        rw (ne_eqb (suc room) 0 (λ y. omega (arith, y)), z) at p in
        let i = later_passed 1 (walk nested_due ws (levelled room r.parts ++ ds)) n g in
        word_stands d.0 room w ws ds r e (more (levelled room r.parts ++ ds) i.0 i.1)

no_words : (l : List ℕ) → length l ≡ 0 → l ≡ []
no_words [] h = refl
no_words (w ∷ l) h = absurd (omega (arith, h))

-- Words that are one node of a sort, in range and nested within the levels of a file.
pub record Ordered (s : Sort) (ws : List ℕ) : Type 0 where
  pub tree : Tree s
  pub spelt : ws ≡ put_tree s tree []
  pub ranged : TreeInRange s tree
  pub nests : nesting_tree s tree ≤ levels

abbrev walked : Sort → List ℕ → Verdict ℕ
walked s ws = walk nested_due ws ((s, levels) ∷ [])

-- Refusals 3 and 4 are given to no other words.
pub ordered_passes : (s : Sort) (ws : List ℕ) → Ordered s ws → in_order s ws ≡ passed (length ws)
unfolding in_order walk
ordered_passes s ws o =
    let n : size_tree s o.tree + 0 ≡ length ws = omega (arith, tree_length s o.tree [], ap length o.spelt) in
    let w : walked s ws ≡ passed (length ws) = ap (walked s) o.spelt ∙ tree_taken s o.tree o.ranged levels o.nests [] [] ∙ ap passed n in
    rw (w, eq-eqb (length ws) (length ws) refl)

-- Words of which none are left are all taken.
none_left_lem : (k n : ℕ) (v : Verdict ℕ) → none_left k v ≡ passed n → (v ≡ passed n) × (n ≡ k)
none_left_lem k n (refused r p) q = absurd (not_both r p n q)
none_left_lem k n (passed m) q = equal (eqb m k) refl q
  where
    equal : (b : Bool) → eqb m k ≡ b → cond b (passed m) (refused 3 m) ≡ passed n → (◌≡◌ {A = Verdict ℕ} (passed m) (passed n)) × (n ≡ k)
    equal true e p = (p, sym (passed_injective m n p) ∙ eqb-true m k e)
    equal false e p = absurd (not_both 3 m n p)

-- Words that pass are taken to the last.
pub passes_all : (s : Sort) (ws : List ℕ) (n : ℕ) → in_order s ws ≡ passed n → n ≡ length ws
unfolding in_order
passes_all s ws n q = (none_left_lem (length ws) n (walked s ws) q).1

-- Words that pass are such a node.
pub passes_ordered : (s : Sort) (ws : List ℕ) (n : ℕ) → in_order s ws ≡ passed n → Ordered s ws
unfolding in_order
passes_ordered s ws n q =
    let e = none_left_lem (length ws) n (walked s ws) q in
    let t = walk_stands ws ((s, levels) ∷ []) n e.0 in
    let tree = t.trees.0 in
    let w : walked s ws ≡ passed (size_tree s tree + 0) =
    ap (walked s) t.spelt ∙ tree_taken s tree t.fit.0 levels t.fit.1 t.rest []
    ∙ ap (later (size_tree s tree)) (walk_done nested_due t.rest) in
    let i : n ≡ size_tree s tree + 0 = passed_injective _ _ (sym e.0 ∙ w) in
    let k : length t.rest ≡ 0 = omega (arith, e.1, ap length t.spelt, tree_length s tree t.rest) in
    record { tree = tree; spelt = t.spelt ∙ ap (put_tree s tree) (no_words t.rest k); ranged = t.fit.0; nests = t.fit.1 }

-- The words of a tree in range that nests deeper than its levels are refused by 4.
abbrev Deeper : (s : Sort) → Tree s → Type 0
Deeper s t = TreeInRange s t → (n : ℕ) → n < nesting_tree s t → (k : List ℕ) (ds : List (Sort × ℕ))
    → (p : ℕ) × (walk nested_due (put_tree s t k) ((s, n) ∷ ds) ≡ refused 4 p)

others_deeper : (s : Sort) (ss : List Sort) (ts : Trees (s ∷ ss)) (n : ℕ) → n < deepest (s ∷ ss) ts → nesting_tree s ts.0 ≤ n
    → n < deepest ss ts.1
others_deeper s [] ts n g f = absurd (omega arith)
others_deeper s (u ∷ us) ts n g f = omega arith

abbrev TooDeep : ℕ → List ℕ → (ss : List Sort) → Trees ss → List (Sort × ℕ) → Type 0
TooDeep n k ss ts ds = (p : ℕ) × (walk nested_due (put_trees ss ts k) (levelled n ss ++ ds) ≡ refused 4 p)

parts_deeper : (ss : List Sort) (ts : Trees ss) → Holds Deeper ss ts → TreesInRange ss ts → (n : ℕ) → n < deepest ss ts
    → (k : List ℕ) (ds : List (Sort × ℕ)) → TooDeep n k ss ts ds
parts_deeper [] ts hs rs n h k ds = absurd (omega arith)
parts_deeper (s ∷ ss) ts hs rs n h k ds = by (λ g. parts_deeper ss ts.1 hs.1 rs.1 n g k ds) (leb (nesting_tree s ts.0) n) refl
  where
    by : (n < deepest ss ts.1 → TooDeep n k ss ts.1 ds) → (b : Bool) → leb (nesting_tree s ts.0) n ≡ b → TooDeep n k (s ∷ ss) ts ds
    by rest true e =
        let f = leb-true (nesting_tree s ts.0) n e in
        let i = rest (others_deeper s ss ts n h f) in (
          size_tree s ts.0 + i.0,
          tree_taken s ts.0 rs.0 n f (put_trees ss ts.1 k) (levelled n ss ++ ds) ∙ ap (later (size_tree s ts.0)) i.1,
        )
    by rest false e = hs.0 rs.0 n (leb-false (nesting_tree s ts.0) n e) (put_trees ss ts.1 k) (levelled n ss ++ ds)

node_deeper : (s : Sort) (t : Tree s) → OfParts Deeper s t
unfolding walk
node_deeper s t hs h n deep k ds = by n deep
  where
    v : View s t
    v = view s t

    due : row_for s (word v.row.kind v.operand) ≡ some v.row
    due = let f = v.fits h in word_due s v.row.kind v.operand v.row v.small v.listed f.0 f.1

    by : (n : ℕ) → n < nesting_tree s t → (p : ℕ) × (walk nested_due (put_tree s t k) ((s, n) ∷ ds) ≡ refused 4 p)
    by zero d = (0, ap (λ (ws : List ℕ). walk nested_due ws ((s, 0) ∷ ds)) (v.spelt k) ∙ rw due)
    by (suc n) d =
        let i = parts_deeper v.row.parts v.parts hs (v.fits h).2 n (omega (arith, nests s t v h)) k ds in (
          1 + i.0,
          ap (λ (ws : List ℕ). walk nested_due ws ((s, suc n) ∷ ds)) (v.spelt k)
              ∙ walk_due s n (word v.row.kind v.operand) (put_trees v.row.parts v.parts k) ds v.row due
              ∙ ap (later 1) i.1,
        )

pub deeper_refused : (s : Sort) (t : Tree s) → TreeInRange s t → levels < nesting_tree s t → (p : ℕ) × (in_order s (put_tree s t []) ≡ refused 4 p)
unfolding in_order
deeper_refused s t h deep =
    let i = induction Deeper node_deeper s t h levels deep [] [] in (i.0, ap (none_left (length (put_tree s t []))) i.1)
