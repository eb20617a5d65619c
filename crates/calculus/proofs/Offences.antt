-- Refusals 3 to 5 are given where words and trees offend, and nowhere else. Assumes nothing.
use Prim.Native.Nat.{ℕ, zero, suc, ◌+◌, ◌-◌, ◌/◌, ◌≤◌, ◌<◌}
use mathlib.Core.Bool.{Bool, true, false, cond, true≢false}
use mathlib.Core.List.{List, [], ◌∷◌, ◌++◌, append-nil}
use mathlib.Core.Logic.{◌↔◌, ◌⊎◌, inl, inr}
use mathlib.Core.Option.{Option, none, some}
use mathlib.Core.Path.{◌≡◌, refl, sym, ap, ◌∙◌, subst}
use lib.Dec.{eqb, leb}
use lib.ListN.{length, get_or, take, drop, take-append-drop, length-drop, length-append}
use lib.Seq.{drop-cons, length-take-le}
use borrow.Author.Tests.{eq-eqb, ne_eqb, leb-true, leb-false}
use native.Mathlib.Omega.{arith}
use Rattle.calculus.specs.Trees.{ml}
use Rattle.calculus.specs.Words.{put_ty, put, size}
use Rattle.calculus.specs.Limits.{nesting_ty, nesting}
use Rattle.calculus.specs.Kinds.{Sort, type, term, Tree, Trees, put_tree, put_trees, Row, row_for, size_tree}
use Rattle.calculus.specs.Verdicts.{Verdict, refused, passed}
use Rattle.calculus.specs.Reading.{Act, opens, refuses, later, acted, walk, levels, levelled, nested_due, none_left, in_order, front, back}
use Rattle.calculus.specs.Scope.{Scoped, scope_due}
use Rattle.calculus.specs.File.{Recipe, judged}
use Rattle.calculus.specs.Offences.{Spells, Nested, Begins, Due, NotDue, TooDeep, In, in_type, in_term}
use Rattle.calculus.specs.Offences.{InScope, Unbound, UnboundOf}
use Rattle.calculus.specs.Accepted.{Spelt}
use Rattle.calculus.proofs.Verdicts.{not_both, passed_injective, refused_injective}
use Rattle.calculus.proofs.Walks.{reach, walk_done, walk_reach}
use Rattle.calculus.proofs.Sizes.{tree_length, tree_append, take_tree}
use Rattle.calculus.proofs.Rows.{TreesInRange, nesting_tree, due_word, due_made}
use Rattle.calculus.proofs.Reading.{one_tree}
use Rattle.calculus.proofs.Nodes.{sorts}
use Rattle.calculus.proofs.Nesting.{nested_by, Stands, word_stands, walk_stands, Ordered, ordered_passes, deeper_refused}
use Rattle.calculus.proofs.Nesting.{tree_taken, passes_ordered, word_rest}
use Rattle.calculus.proofs.Scopes.{leaf, leaf_ranged, scoped_passes, ScopeRefused, scope_refused}
use Rattle.calculus.proofs.Checks.{spelt_by, judged_typed, Answer, untyped, as_declared, mistyped, answer}

-- The least tree of each sort is one word.
leaf_nests : (s : Sort) → nesting_tree s (leaf s) ≡ 1
unfolding nesting_ty nesting
leaf_nests type = refl
leaf_nests (term l) = refl

leaf_word : (s : Sort) → (w : ℕ) × ((k : List ℕ) → put_tree s (leaf s) k ≡ w ∷ k)
unfolding put_ty put
leaf_word type = (1, λ k. refl)
leaf_word (term l) = (_, λ k. refl)

-- What is due is trees of these sorts.
record Filled (ss : List Sort) (ws : List ℕ) : Type 0 where
  trees : Trees ss
  ranged : TreesInRange ss trees
  spelt : ws ≡ put_trees ss trees []

leaves : (ss : List Sort) → (ws : List ℕ) × Filled ss ws
leaves [] = ([], record { trees = tt; ranged = tt; spelt = refl })
leaves (s ∷ ss) =
    let f = (leaves ss).1 in (
      put_tree s (leaf s) (leaves ss).0,
      record { trees = (leaf s, f.trees); ranged = (leaf_ranged s, f.ranged); spelt = ap (put_tree s (leaf s)) f.spelt },
    )

put_split : (ps ss : List Sort) (ts : Trees (ps ++ ss)) (k : List ℕ)
    → put_trees (ps ++ ss) ts k ≡ put_trees ps (front ps ss ts) (put_trees ss (back ps ss ts) k)
put_split [] ss ts k = refl
put_split (p ∷ ps) ss ts k = ap (put_tree p ts.0) (put_split ps ss ts.1 k)

range_split : (ps ss : List Sort) (ts : Trees (ps ++ ss)) → TreesInRange (ps ++ ss) ts
    → TreesInRange ps (front ps ss ts) × TreesInRange ss (back ps ss ts)
range_split [] ss ts h = (tt, h)
range_split (p ∷ ps) ss ts h = let i = range_split ps ss ts.1 h.1 in ((h.0, i.0), i.1)

word_filled : (s : Sort) (w : ℕ) (ss : List Sort) (ws : List ℕ) (r : Row s) → row_for s w ≡ some r → Filled (r.parts ++ ss) ws
    → Filled (s ∷ ss) (w ∷ ws)
word_filled s w ss ws r q f =
    let ps = front r.parts ss f.trees in
    let us = back r.parts ss f.trees in
    let m = due_made s w r q ps in
    let i = range_split r.parts ss f.trees f.ranged in
    record {
      trees = (r.make (w / 256) ps, us);
      ranged = (m.ranged i.0, i.1);
      spelt =
          ap (λ (l : List ℕ). w ∷ l) (f.spelt ∙ put_split r.parts ss f.trees [])
          ∙ ap (λ (j : ℕ). j ∷ put_trees r.parts ps (put_trees ss us [])) (sym (due_word s w r q).spells)
          ∙ sym (m.spelt (put_trees ss us []));
    }

sorts_levelled : (n : ℕ) (ss : List Sort) (ds : List (Sort × ℕ)) → sorts (levelled n ss ++ ds) ≡ ss ++ sorts ds
sorts_levelled n [] ds = refl
sorts_levelled n (s ∷ ss) ds = ap (λ (l : List Sort). s ∷ l) (sorts_levelled n ss ds)

-- A refusal one word further on.
later_refused : (v : Verdict ℕ) (r p : ℕ) → later 1 v ≡ refused r p → (q : ℕ) × (v ≡ refused r q) × (p ≡ suc q)
later_refused (refused m q) r p e = let i = refused_injective e in (q, ap (λ (x : ℕ). refused x q) i.0, omega (arith, i.1))
later_refused (passed m) r p e = absurd (not_both r p (1 + m) (sym e))

-- How many words are in order at a refusal of this number and place: those before it; by 4 the word itself has a due kind.
abbrev past : ℕ → ℕ → ℕ
past r p = cond (eqb r 4) (suc p) p

past_later : (r p : ℕ) → past r (suc p) ≡ suc (past r p)
past_later r p = by (eqb r 4)
  where
    by : (b : Bool) → cond b (suc (suc p)) (suc p) ≡ suc (cond b (suc p) p)
    by true = refl
    by false = refl

-- They begin trees of what is due.
begun : (ws : List ℕ) (ds : List (Sort × ℕ)) (r p : ℕ) → walk nested_due ws ds ≡ refused r p
    → (k : List ℕ) × Filled (sorts ds) (take (past r p) ws ++ k)
unfolding walk
begun [] [] r p q = absurd (not_both r p 0 (sym q))
begun [] (d ∷ ds) r p q =
    let i = refused_injective q in
    let z : past r p ≡ 0 = rw (← i.0, ← i.1) refl in
    let l = leaves (sorts (d ∷ ds)) in
    (l.0, rw z l.1)
begun (w ∷ ws) [] r p q = absurd (not_both r p 0 (sym q))
begun (w ∷ ws) (d ∷ ds) r p q = by_row_lem (λ us m e. begun ws us r m e) d.1 (row_for d.0 w) refl q
  where
    by_row_lem : ((us : List (Sort × ℕ)) (m : ℕ) → walk nested_due ws us ≡ refused r m → (k : List ℕ) × Filled (sorts us) (take (past r m) ws ++ k))
        → (room : ℕ) (o : Option (Row d.0)) → row_for d.0 w ≡ o
        → acted (nested_by room o) (λ ps. walk nested_due ws (ps ++ ds)) ≡ refused r p
        → (k : List ℕ) × Filled (d.0 ∷ sorts ds) (take (past r p) (w ∷ ws) ++ k)
    by_row_lem more room none e g =
        let i = refused_injective g in
        let z : past r p ≡ 0 = rw (← i.0, ← i.1) refl in
        let l = leaves (d.0 ∷ sorts ds) in
        (l.0, rw z l.1)
    by_row_lem more zero (some x) e g =
        let i = refused_injective g in
        let z : past r p ≡ 1 = rw (← i.0, ← i.1) refl in
        let l = leaves (x.parts ++ sorts ds) in
        (l.0, rw z (word_filled d.0 w (sorts ds) l.0 x e l.1))
    by_row_lem more (suc room) (some x) e g =
        let y : suc room - 1 ≡ room = omega arith in
        let h : later 1 (walk nested_due ws (levelled room x.parts ++ ds)) ≡ refused r p =
        rw (ne_eqb (suc room) 0 (λ z. omega (arith, z)), y) at g in
        let i = later_refused (walk nested_due ws (levelled room x.parts ++ ds)) r p h in
        let m = more (levelled room x.parts ++ ds) i.0 i.1 in
        let f = subst (λ (ss : List Sort). Filled ss (take (past r i.0) ws ++ m.0)) (sorts_levelled room x.parts ds) m.1 in
        let z : past r p ≡ suc (past r i.0) = ap (past r) i.2 ∙ past_later r i.0 in
        let c = word_filled d.0 w (sorts ds) (take (past r i.0) ws ++ m.0) x e f in
        (m.0, subst (λ (j : ℕ). Filled (d.0 ∷ sorts ds) (take j (w ∷ ws) ++ m.0)) (sym z) c)

-- Each of what is due has at least so many levels.
abbrev Rising : ℕ → List (Sort × ℕ) → Type 0
Rising n [] = Unit {0}
Rising n (d ∷ ds) = (n ≤ d.1) × Rising d.1 ds

rising_less : (m n : ℕ) (ds : List (Sort × ℕ)) → m ≤ n → Rising n ds → Rising m ds
rising_less m n [] h g = tt
rising_less m n (d ∷ ds) h g = (omega arith, g.1)

rising_levelled : (n : ℕ) (ss : List Sort) (ds : List (Sort × ℕ)) → Rising n ds → Rising n (levelled n ss ++ ds)
rising_levelled n [] ds g = g
rising_levelled n (s ∷ ss) ds g = (omega arith, rising_levelled n ss ds g)

-- Trees nested within their levels.
record Placed (ds : List (Sort × ℕ)) (ws : List ℕ) : Type 0 where
  stands : Stands ws ds
  ends : stands.rest ≡ []

low_more : (d : Sort × ℕ) (ds : List (Sort × ℕ)) (ws : List ℕ) → 1 ≤ d.1 → Placed ds ws → Placed (d ∷ ds) (put_tree d.0 (leaf d.0) ws)
low_more d ds ws h l =
    let t = l.stands in
    record {
      stands =
          record {
            trees = (leaf d.0, t.trees);
            rest = t.rest;
            spelt = ap (put_tree d.0 (leaf d.0)) t.spelt;
            fit = (leaf_ranged d.0, omega (arith, leaf_nests d.0, h), t.fit);
          };
      ends = l.ends;
    }

low : (n : ℕ) (ds : List (Sort × ℕ)) → 1 ≤ n → Rising n ds → (ws : List ℕ) × Placed ds ws
low n [] h g = ([], record { stands = record { trees = tt; rest = []; spelt = refl; fit = tt }; ends = refl })
low n (d ∷ ds) h g =
    let i : 1 ≤ d.1 = omega (arith, h, g.0) in
    let l = low d.1 ds i g.1 in
    (put_tree d.0 (leaf d.0) l.0, low_more d ds l.0 i l.1)

-- A word is due at each place before a refusal.
due_before : (ws : List ℕ) (ds : List (Sort × ℕ)) (n r p : ℕ) → Rising n ds → walk nested_due ws ds ≡ refused r p → (q : ℕ) → q < p
    → (w : ℕ) × (k : List ℕ) × Placed ds (take q ws ++ w ∷ k)
unfolding walk
due_before [] [] n r p g q j i = absurd (not_both r p 0 (sym q))
due_before [] (d ∷ ds) n r p g q j i = absurd (omega (arith, i, (refused_injective q).1))
due_before (w ∷ ws) [] n r p g q j i = absurd (not_both r p 0 (sym q))
due_before (w ∷ ws) (d ∷ ds) n r p g q j i = by_row_lem (λ us m l e j i. due_before ws us m r l e j i) d.1 g.1 (row_for d.0 w) refl q j i
  where
    by_row_lem : ((us : List (Sort × ℕ)) (m l : ℕ) → Rising m us → walk nested_due ws us ≡ refused r l → (j : ℕ) → j < l
        → (w : ℕ) × (k : List ℕ) × Placed us (take j ws ++ w ∷ k))
        → (room : ℕ) → Rising room ds → (o : Option (Row d.0)) → row_for d.0 w ≡ o
        → acted (nested_by room o) (λ ps. walk nested_due ws (ps ++ ds)) ≡ refused r p → (j : ℕ) → j < p
        → (v : ℕ) × (k : List ℕ) × Placed ((d.0, room) ∷ ds) (take j (w ∷ ws) ++ v ∷ k)
    by_row_lem more room c none e h j i = absurd (omega (arith, i, (refused_injective h).1))
    by_row_lem more zero c (some x) e h j i = absurd (omega (arith, i, (refused_injective h).1))
    by_row_lem more (suc room) c (some x) e h zero i =
        let f = leaf_word d.0 in
        let b = low (suc room) ds (omega arith) c in
        let l = low_more (d.0, suc room) ds b.0 (omega arith) b.1 in
        (f.0, b.0, subst (λ (z : List ℕ). Placed ((d.0, suc room) ∷ ds) z) (f.1 b.0) l)
    by_row_lem more (suc room) c (some x) e h (suc j) i =
        let y : suc room - 1 ≡ room = omega arith in
        let g : later 1 (walk nested_due ws (levelled room x.parts ++ ds)) ≡ refused r p =
        rw (ne_eqb (suc room) 0 (λ z. omega (arith, z)), y) at h in
        let a = later_refused (walk nested_due ws (levelled room x.parts ++ ds)) r p g in
        let b = rising_levelled room x.parts ds (rising_less room (suc room) ds (omega arith) c) in
        let m = more (levelled room x.parts ++ ds) room a.0 b a.1 j (omega (arith, i, a.2)) in
        let t = m.2.stands in
        let l = take j ws ++ m.0 ∷ m.1 in
        (m.0, m.1, record { stands = word_stands d.0 room w l ds x e t; ends = word_rest d.0 room w l ds x e t ∙ m.2.ends })

-- A walk is refused by 3 or 4, by 4 at a word.
by_which : (ws : List ℕ) (ds : List (Sort × ℕ)) (r p : ℕ) → walk nested_due ws ds ≡ refused r p → (r ≡ 3) ⊎ ((r ≡ 4) × (p < length ws))
unfolding walk
by_which [] [] r p q = absurd (not_both r p 0 (sym q))
by_which [] (d ∷ ds) r p q = inl (sym (refused_injective q).0)
by_which (w ∷ ws) [] r p q = absurd (not_both r p 0 (sym q))
by_which (w ∷ ws) (d ∷ ds) r p q = by_row_lem (λ us m e. by_which ws us r m e) d.1 (row_for d.0 w) q
  where
    further : (m : ℕ) → p ≡ suc m → (r ≡ 3) ⊎ ((r ≡ 4) × (m < length ws)) → (r ≡ 3) ⊎ ((r ≡ 4) × (p < suc (length ws)))
    further m e (inl x) = inl x
    further m e (inr x) = inr (x.0, omega (arith, e, x.1))

    by_row_lem : ((us : List (Sort × ℕ)) (m : ℕ) → walk nested_due ws us ≡ refused r m → (r ≡ 3) ⊎ ((r ≡ 4) × (m < length ws))) → (room : ℕ)
        → (o : Option (Row d.0)) → acted (nested_by room o) (λ ps. walk nested_due ws (ps ++ ds)) ≡ refused r p
        → (r ≡ 3) ⊎ ((r ≡ 4) × (p < suc (length ws)))
    by_row_lem more room none h = inl (sym (refused_injective h).0)
    by_row_lem more zero (some x) h = let i = refused_injective h in inr (sym i.0, omega (arith, i.1))
    by_row_lem more (suc room) (some x) h =
        let y : suc room - 1 ≡ room = omega arith in
        let g : later 1 (walk nested_due ws (levelled room x.parts ++ ds)) ≡ refused r p =
        rw (ne_eqb (suc room) 0 (λ z. omega (arith, z)), y) at h in
        let a = later_refused (walk nested_due ws (levelled room x.parts ++ ds)) r p g in
        further a.0 a.2 (more (levelled room x.parts ++ ds) a.0 a.1)

cons_parts : {w v : ℕ} {a b : List ℕ} → w ∷ a ≡ v ∷ b → (w ≡ v) × (a ≡ b)
cons_parts e = (ap (λ (l : List ℕ). get_or l 0 0) e, ap (drop 1) e)

-- A refusal at a word depends on the words up to that one.
same_refusal : {D : Type 0} (f : D → ℕ → Act D) (ws vs : List ℕ) (ds : List D) (r p : ℕ) → walk f ws ds ≡ refused r p → p < length ws
    → take (suc p) ws ≡ take (suc p) vs → walk f vs ds ≡ refused r p
unfolding walk
same_refusal f [] vs ds r p q i e = absurd (omega (arith, i))
same_refusal f (w ∷ ws) vs [] r p q i e = absurd (not_both r p 0 (sym q))
same_refusal f (w ∷ ws) [] (d ∷ ds) r p q i e = absurd (omega (arith, ap length e))
same_refusal f (w ∷ ws) (v ∷ vs) (d ∷ ds) r p q i e =
    let c = cons_parts e in
    subst (λ (x : ℕ). acted (f d x) (λ ps. walk f vs (ps ++ ds)) ≡ refused r p) c.0
    (by (f d w) q (λ ps m a b g. same_refusal f ws vs (ps ++ ds) r m a b g) c.1)
  where
    by : (a : Act _) → acted a (λ ps. walk f ws (ps ++ ds)) ≡ refused r p
        → ((ps : List _) (m : ℕ) → walk f ws (ps ++ ds) ≡ refused r m → m < length ws → take (suc m) ws ≡ take (suc m) vs
        → walk f vs (ps ++ ds) ≡ refused r m)
        → take p ws ≡ take p vs → acted a (λ ps. walk f vs (ps ++ ds)) ≡ refused r p
    by (refuses m) h more g = h
    by (opens ps) h more g =
        let a = later_refused (walk f ws (ps ++ ds)) r p h in
        let m = a.0 in
        let k : walk f vs (ps ++ ds) ≡ refused r m =
        more ps m a.1 (omega (arith, i, a.2)) (subst (λ (x : ℕ). take x ws ≡ take x vs) a.2 g) in
        let z : 1 + m ≡ p = omega (arith, a.2) in
        ap (later 1) k ∙ ap (λ (x : ℕ). refused r x) z

-- A due word with a level to spare.
opened : (s : Sort) (room : ℕ) (o : Option (Row s)) (x : Row s) → o ≡ some x → (vs : List ℕ) (ds : List (Sort × ℕ)) (u : Verdict ℕ)
    → later 1 (walk nested_due vs (levelled room x.parts ++ ds)) ≡ u → acted (nested_by (suc room) o) (λ ps. walk nested_due vs (ps ++ ds)) ≡ u
opened s room o x z vs ds u h =
    let y : suc room - 1 ≡ room = omega arith in
    rw (z, ne_eqb (suc room) 0 (λ z. omega (arith, z)), y) h

-- Where a word is too deep, so is any other in its place.
still_refused : (ws vs : List ℕ) (ds : List (Sort × ℕ)) (p : ℕ) → walk nested_due ws ds ≡ refused 4 p → p < length vs → take p ws ≡ take p vs
    → (r : ℕ) × (walk nested_due vs ds ≡ refused r p)
unfolding walk
still_refused [] vs [] p q i e = absurd (not_both 4 p 0 (sym q))
still_refused [] vs (d ∷ ds) p q i e = absurd (omega (arith, (refused_injective q).0))
still_refused (w ∷ ws) vs [] p q i e = absurd (not_both 4 p 0 (sym q))
still_refused (w ∷ ws) [] (d ∷ ds) p q i e = absurd (omega (arith, i))
still_refused (w ∷ ws) (v ∷ vs) (d ∷ ds) p q i e =
    by_row_lem (λ us m a b g. still_refused ws vs us m a b g) d.1 (row_for d.0 w) refl q
  where
    any : (o : Option (Row d.0)) → (r : ℕ) × (acted (nested_by 0 o) (λ ps. walk nested_due vs (ps ++ ds)) ≡ refused r 0)
    any none = (3, refl)
    any (some x) = (4, refl)

    by_row_lem : ((us : List (Sort × ℕ)) (m : ℕ) → walk nested_due ws us ≡ refused 4 m → m < length vs → take m ws ≡ take m vs
        → (r : ℕ) × (walk nested_due vs us ≡ refused r m))
        → (room : ℕ) (o : Option (Row d.0)) → row_for d.0 w ≡ o
        → acted (nested_by room o) (λ ps. walk nested_due ws (ps ++ ds)) ≡ refused 4 p
        → (r : ℕ) × (acted (nested_by room (row_for d.0 v)) (λ ps. walk nested_due vs (ps ++ ds)) ≡ refused r p)
    by_row_lem more room none o h = absurd (omega (arith, (refused_injective h).0))
    by_row_lem more zero (some x) o h =
        let a = any (row_for d.0 v) in
        (a.0, a.1 ∙ ap (λ (y : ℕ). refused a.0 y) (refused_injective h).1)
    by_row_lem more (suc room) (some x) o h =
        let y : suc room - 1 ≡ room = omega arith in
        let g : later 1 (walk nested_due ws (levelled room x.parts ++ ds)) ≡ refused 4 p =
        rw (ne_eqb (suc room) 0 (λ z. omega (arith, z)), y) at h in
        let a = later_refused (walk nested_due ws (levelled room x.parts ++ ds)) 4 p g in
        let c = cons_parts (subst (λ (z : ℕ). take z (w ∷ ws) ≡ take z (v ∷ vs)) a.2 e) in
        let k = more (levelled room x.parts ++ ds) a.0 a.1 (omega (arith, i, a.2)) c.1 in
        let z : row_for d.0 v ≡ some x = ap (row_for d.0) (sym c.0) ∙ o in
        let n : 1 + a.0 ≡ p = omega (arith, a.2) in
        (k.0, opened d.0 room (row_for d.0 v) x z vs ds (refused k.0 p) (ap (later 1) k.1 ∙ ap (λ (x : ℕ). refused k.0 x) n))

take_within : (q n : ℕ) (ws k : List ℕ) → q ≤ n → n ≤ length ws → take q (take n ws ++ k) ≡ take q ws
take_within zero n ws k i j = refl
take_within (suc q) zero ws k i j = absurd (omega (arith, i))
take_within (suc q) (suc n) [] k i j = absurd (omega (arith, j))
take_within (suc q) (suc n) (w ∷ ws) k i j = ap (λ (l : List ℕ). w ∷ l) (take_within q n ws k (omega (arith, i)) (omega (arith, j)))

-- Words of one node of a sort.
module _ (s : Sort) (ws : List ℕ) where
  abbrev walked : List ℕ → Verdict ℕ
  walked l = walk nested_due l ((s, levels) ∷ [])

  order_refused : (l : List ℕ) (r p : ℕ) → walked l ≡ refused r p → in_order s l ≡ refused r p
  unfolding in_order
  order_refused l r p q = ap (none_left (length l)) q

  -- 3 is given to no node's words.
  spells_not_3 : (l : List ℕ) (p : ℕ) → Spells s l → in_order s l ≡ refused 3 p → ⊥
  spells_not_3 l p t q = by (leb (nesting_tree s t.tree) levels) refl
    where
      by : (b : Bool) → leb (nesting_tree s t.tree) levels ≡ b → ⊥
      by true e =
          not_both 3 p (length l)
          (sym q ∙ ordered_passes s l (record { tree = t.tree; spelt = t.spelt; ranged = t.ranged; nests = leb-true _ levels e }))
      by false e =
          let d = deeper_refused s t.tree t.ranged (leb-false _ levels e) in
          omega (arith, (refused_injective (sym q ∙ ap (in_order s) t.spelt ∙ d.1)).0)

  nested_passes : (l : List ℕ) → Nested s l → in_order s l ≡ passed (length l)
  nested_passes l t = ordered_passes s l (record { tree = t.node.tree; spelt = t.node.spelt; ranged = t.node.ranged; nests = t.nests })

  -- What stands is nested within.
  placed_nested : (l : List ℕ) → Placed ((s, levels) ∷ []) l → Nested s l
  placed_nested l t =
      let x = t.stands in
      record {
        node = record { tree = x.trees.0; ranged = x.fit.0; spelt = x.spelt ∙ ap (put_tree s x.trees.0) t.ends };
        nests = x.fit.1;
      }

  due_at : (r p : ℕ) → walked ws ≡ refused r p → (q : ℕ) → q < p → Due s ws q
  due_at r p e q i =
      let d = due_before ws ((s, levels) ∷ []) 0 r p (omega arith, tt) e q i in
      (d.0, d.1, placed_nested (take q ws ++ d.0 ∷ d.1) d.2)

  begins_at : (r p : ℕ) → walked ws ≡ refused r p → Begins s ws (past r p)
  begins_at r p e =
      let b = begun ws ((s, levels) ∷ []) r p e in
      (b.0, record { tree = b.1.trees.0; ranged = b.1.ranged.0; spelt = b.1.spelt })

  reaches : (r p : ℕ) → walked ws ≡ refused r p → p ≤ length ws
  reaches r p e = omega (arith, walk_reach nested_due ws ((s, levels) ∷ []), ap reach e)

  -- Refused in the walk.
  not_due_walked : (p : ℕ) → walked ws ≡ refused 3 p → NotDue s ws p
  not_due_walked p e =
      record {
        before = due_at 3 p e;
        begun = begins_at 3 p e;
        within = reaches 3 p e;
        offends = λ i b.
            let l = take (suc p) ws ++ b.0 in
            spells_not_3 l p b.1 (order_refused l 3 p
            (same_refusal nested_due ws l ((s, levels) ∷ []) 3 p e i (sym (take_within (suc p) (suc p) ws b.0 (omega arith) (omega (arith, i))))));
        short = λ i t. spells_not_3 ws p t (order_refused ws 3 p e);
      }

  -- Words that remain.
  module _ (m : ℕ) (e : walked ws ≡ passed m) (i : m < length ws) where
    abbrev t : Stands ws ((s, levels) ∷ [])
    t = walk_stands ws ((s, levels) ∷ []) m e

    abbrev tree : Tree s
    tree = t.trees.0

    sized_so : m ≡ size_tree s tree
    sized_so =
        let w : walked ws ≡ passed (size_tree s tree + 0) =
        ap walked t.spelt ∙ tree_taken s tree t.fit.0 levels t.fit.1 t.rest []
        ∙ ap (later (size_tree s tree)) (walk_done nested_due t.rest) in
        let j : m ≡ size_tree s tree + 0 = passed_injective _ _ (sym e ∙ w) in
        omega (arith, j)

    front_is : take m ws ≡ put_tree s tree []
    front_is = ap (λ (k : ℕ). take k ws) sized_so ∙ ap (take (size_tree s tree)) t.spelt ∙ take_tree s tree t.rest

    long : length (put_tree s tree []) ≡ m
    long = omega (arith, tree_length s tree [], sized_so)

    remains : in_order s ws ≡ refused 3 m → NotDue s ws m
    remains z =
        record {
          before = λ q j.
              let l = put_tree s tree [] in
              let h : take q l ≡ take q ws =
              ap (take q) (sym front_is ∙ sym (append-nil (take m ws))) ∙ take_within q m ws [] (omega (arith, j)) (omega (arith, i)) in
              let c = drop-cons l q 0 (omega (arith, j, long)) in (
                get_or l q 0,
                drop (suc q) l,
                record {
                  node =
                      record {
                        tree = tree;
                        ranged = t.fit.0;
                        spelt = rw (← h) (ap (λ (x : List ℕ). take q l ++ x) (sym c) ∙ take-append-drop q l);
                      };
                  nests = t.fit.1;
                },
              );
          begun = ([], record { tree = tree; ranged = t.fit.0; spelt = append-nil (take m ws) ∙ front_is });
          within = omega (arith, i);
          offends = λ j b.
              let l = take (suc m) ws ++ b.0 in
              let h : take m l ≡ put_tree s tree [] = take_within m (suc m) ws b.0 (omega arith) (omega (arith, i)) ∙ front_is in
              let g : l ≡ put_tree s tree (drop m l) =
              sym (take-append-drop m l) ∙ ap (λ (x : List ℕ). x ++ drop m l) h ∙ sym (tree_append s tree [] (drop m l)) in
              let o = (one_tree s tree b.1.tree (drop m l) [] t.fit.0 b.1.ranged (sym g ∙ b.1.spelt)).1 in
              omega (arith, ap length o, length-drop m l, length-append (take (suc m) ws) b.0, length-take-le (suc m) ws (omega (arith, i)));
          short = λ j x. spells_not_3 ws m x z;
        }

  pub not_due : (p : ℕ) → in_order s ws ≡ refused 3 p → NotDue s ws p
  unfolding in_order
  not_due p q = by (walked ws) refl q
    where
      left : (m : ℕ) → walked ws ≡ passed m → (b : Bool) → eqb m (length ws) ≡ b → cond b (passed m) (refused 3 m) ≡ refused 3 p → NotDue s ws p
      left m e true b h = absurd (not_both 3 p m (sym h))
      left m e false b h =
          let i = (refused_injective h).1 in
          let r : m ≤ length ws = omega (arith, walk_reach nested_due ws ((s, levels) ∷ []), ap reach e) in
          let n : ¬ (m ≡ length ws) = λ z. true≢false (sym (eq-eqb m (length ws) z) ∙ b) in
          subst (λ (k : ℕ). NotDue s ws k) i (remains m e (omega (arith, r, n)) (rw (e, b) refl))

      by : (v : Verdict ℕ) → walked ws ≡ v → none_left (length ws) v ≡ refused 3 p → NotDue s ws p
      by (refused r m) e h =
          let i = refused_injective h in not_due_walked p (e ∙ rw (i.0, i.1) refl)
      by (passed m) e h = left m e (eqb m (length ws)) refl h

  too_deep_walked : (p : ℕ) → walked ws ≡ refused 4 p → p < length ws → TooDeep s ws p
  too_deep_walked p e i =
      record {
        before = due_at 4 p e;
        within = i;
        begun = begins_at 4 p e;
        deep = λ d.
            let l = take p ws ++ d.0 ∷ d.1 in
            let n : p < length l =
            omega (arith, length-append (take p ws) (d.0 ∷ d.1), length-take-le p ws (omega (arith, i))) in
            let r = still_refused ws l ((s, levels) ∷ []) p e n (sym (take_within p p ws (d.0 ∷ d.1) (omega arith) (omega (arith, i)))) in
            not_both r.0 p (length l) (sym (order_refused l r.0 p r.1) ∙ nested_passes l d.2);
      }

  -- What the walk gives.
  pub data Judged : Verdict ℕ → Type 0 where
    all_in_order : (n : ℕ) → Ordered s ws → Judged (passed n)
    not_due_at : (p : ℕ) → NotDue s ws p → Judged (refused 3 p)
    too_deep_at : (p : ℕ) → TooDeep s ws p → Judged (refused 4 p)

  -- A refusal is the walk's, or 3 for words that remain.
  from_walk : (r p : ℕ) → in_order s ws ≡ refused r p → (r ≡ 3) ⊎ (walked ws ≡ refused r p)
  unfolding in_order
  from_walk r p q = out (walked ws) refl q
    where
      left : (m : ℕ) (b : Bool) → cond b (passed m) (refused 3 m) ≡ refused r p → r ≡ 3
      left m true h = absurd (not_both r p m (sym h))
      left m false h = sym (refused_injective h).0

      out : (v : Verdict ℕ) → walked ws ≡ v → none_left (length ws) v ≡ refused r p → (r ≡ 3) ⊎ (walked ws ≡ refused r p)
      out (refused a b) e h = inr (e ∙ h)
      out (passed m) e h = inl (left m (eqb m (length ws)) h)

  pub judged_so : Judged (in_order s ws)
  judged_so = by (in_order s ws) refl
    where
      numbered : (r p : ℕ) → in_order s ws ≡ refused r p → walked ws ≡ refused r p → Judged (refused r p)
      numbered r p q e = which (by_which ws ((s, levels) ∷ []) r p e)
        where
          which : (r ≡ 3) ⊎ ((r ≡ 4) × (p < length ws)) → Judged (refused r p)
          which (inl z) =
              subst (λ (n : ℕ). Judged (refused n p)) (sym z) (not_due_at p (not_due_walked p (e ∙ ap (λ (n : ℕ). refused n p) z)))
          which (inr z) =
              subst (λ (n : ℕ). Judged (refused n p)) (sym z.0) (too_deep_at p (too_deep_walked p (e ∙ ap (λ (n : ℕ). refused n p) z.0) z.1))

      choose : (r p : ℕ) → in_order s ws ≡ refused r p → (r ≡ 3) ⊎ (walked ws ≡ refused r p) → Judged (refused r p)
      choose r p q (inl z) =
          subst (λ (n : ℕ). Judged (refused n p)) (sym z) (not_due_at p (not_due p (q ∙ ap (λ (n : ℕ). refused n p) z)))
      choose r p q (inr e) = numbered r p q e

      by : (v : Verdict ℕ) → in_order s ws ≡ v → Judged v
      by (passed n) q = all_in_order n (passes_ordered s ws n q)
      by (refused r p) q = choose r p q (from_walk r p q)

  -- There is one offence at most, and none where words are in order.
  begins_less : (p q : ℕ) → p ≤ q → q ≤ length ws → Begins s ws q → Begins s ws p
  begins_less p q i j b =
      let l = take q ws ++ b.0 in
      let h : take p l ≡ take p ws = take_within p q ws b.0 i j in
      (drop p l, record { tree = b.1.tree; ranged = b.1.ranged; spelt = rw (← h) (take-append-drop p l ∙ b.1.spelt) })

  ordered_begins : (p : ℕ) → Ordered s ws → Begins s ws p
  ordered_begins p o = (drop p ws, record { tree = o.tree; ranged = o.ranged; spelt = take-append-drop p ws ∙ o.spelt })

  ordered_due : (p : ℕ) → p < length ws → Ordered s ws → Due s ws p
  ordered_due p i o = (
    get_or ws p 0,
    drop (suc p) ws,
    record {
      node =
          record {
            tree = o.tree;
            ranged = o.ranged;
            spelt = ap (λ (x : List ℕ). take p ws ++ x) (sym (drop-cons ws p 0 i)) ∙ take-append-drop p ws ∙ o.spelt;
          };
      nests = o.nests;
    },
  )

  not_both_ways : (p : ℕ) → Ordered s ws → NotDue s ws p → ⊥
  not_both_ways p o n = by (leb (length ws) p) refl
    where
      by : (b : Bool) → leb (length ws) p ≡ b → ⊥
      by true e =
          n.short (omega (arith, leb-true (length ws) p e, n.within)) (record { tree = o.tree; ranged = o.ranged; spelt = o.spelt })
      by false e = n.offends (leb-false (length ws) p e) (ordered_begins (suc p) o)

  one_place : (p q : ℕ) → NotDue s ws p → NotDue s ws q → p < q → ⊥
  one_place p q m n i = m.offends (omega (arith, i, n.within)) (begins_less (suc p) q (omega (arith, i)) n.within n.begun)

  deep_once : (p q : ℕ) → TooDeep s ws p → TooDeep s ws q → p < q → ⊥
  deep_once p q m n i = m.deep (n.before p i)

  not_both_kinds : (p q : ℕ) → NotDue s ws p → TooDeep s ws q → ⊥
  not_both_kinds p q m n = by (leb p q) refl
    where
      by : (b : Bool) → leb p q ≡ b → ⊥
      by true e =
          let i = leb-true p q e in
          let w = n.within in
          m.offends (omega (arith, i, w)) (begins_less (suc p) (suc q) (omega (arith, i)) (omega (arith, w)) n.begun)
      by false e = n.deep (m.before q (leb-false p q e))

  same_place : (p q : ℕ) → (p < q → ⊥) → (q < p → ⊥) → p ≡ q
  same_place p q f g = omega (arith, f, g)

  pub three_iff : (p : ℕ) → (in_order s ws ≡ refused 3 p) ↔ NotDue s ws p
  three_iff p = (not_due p, λ n. by n (in_order s ws) refl judged_so)
    where
      by : NotDue s ws p → (v : Verdict ℕ) → in_order s ws ≡ v → Judged v → in_order s ws ≡ refused 3 p
      by n v q (all_in_order m o) = absurd (not_both_ways p o n)
      by n v q (not_due_at m x) = q ∙ ap (λ (k : ℕ). refused 3 k) (same_place m p (one_place m p x n) (one_place p m n x))
      by n v q (too_deep_at m x) = absurd (not_both_kinds p m n x)

  pub four_iff : (p : ℕ) → (in_order s ws ≡ refused 4 p) ↔ TooDeep s ws p
  four_iff p = (λ q. to q (in_order s ws) refl judged_so, λ n. by n (in_order s ws) refl judged_so)
    where
      to : in_order s ws ≡ refused 4 p → (v : Verdict ℕ) → in_order s ws ≡ v → Judged v → TooDeep s ws p
      to q v e (all_in_order m o) = absurd (not_both 4 p m (sym q ∙ e))
      to q v e (not_due_at m x) = absurd (omega (arith, (refused_injective (sym q ∙ e)).0))
      to q v e (too_deep_at m x) = subst (λ (k : ℕ). TooDeep s ws k) (sym (refused_injective (sym q ∙ e)).1) x

      by : TooDeep s ws p → (v : Verdict ℕ) → in_order s ws ≡ v → Judged v → in_order s ws ≡ refused 4 p
      by n v q (all_in_order m o) = absurd (n.deep (ordered_due p n.within o))
      by n v q (not_due_at m x) = absurd (not_both_kinds m p x n)
      by n v q (too_deep_at m x) = q ∙ ap (λ (k : ℕ). refused 4 k) (same_place m p (deep_once m p x n) (deep_once p m n x))

-- A type and a term, one after the other.
module _ (types terms : List ℕ) (start : ℕ) where
  ordered_nested : (s : Sort) (ws : List ℕ) → Ordered s ws → Nested s ws
  ordered_nested s ws o = record { node = record { tree = o.tree; ranged = o.ranged; spelt = o.spelt }; nests = o.nests }

  nested_ordered : (s : Sort) (ws : List ℕ) → Nested s ws → Ordered s ws
  nested_ordered s ws t = record { tree = t.node.tree; spelt = t.node.spelt; ranged = t.node.ranged; nests = t.nests }

  in_types : (r p : ℕ) → in_order type types ≡ refused r p → judged types terms start ≡ refused r (4 + p)
  in_types r p q = rw q

  in_terms : (r p : ℕ) → Ordered type types → in_order (term ml) terms ≡ refused r p → judged types terms start ≡ refused r (start + p)
  in_terms r p o q = rw (ordered_passes type types o, q)

  -- What is judged: an offence in the type, or in the term; a variable without its lambda; or one of 6 and 7, or nothing.
  data Judging : Verdict Recipe → Type 0 where
    of_type : (r p : ℕ) → in_order type types ≡ refused r p → Judging (refused r (4 + p))
    of_term : (r p : ℕ) → Ordered type types → in_order (term ml) terms ≡ refused r p → Judging (refused r (start + p))
    of_scope : (p : ℕ) → Ordered type types → (e : Ordered (term ml) terms) → ScopeRefused [] e.tree p → Judging (refused 5 (start + p))
    no_offence : (v : Verdict Recipe) → Ordered type types → (e : Ordered (term ml) terms) → Scoped [] e.tree
        → ((r p : ℕ) → v ≡ refused r p → 6 ≤ r) → Judging v

  in_scope : (p : ℕ) → Ordered type types → (e : Ordered (term ml) terms) → ScopeRefused [] e.tree p
      → judged types terms start ≡ refused 5 (start + p)
  in_scope p t e x =
      rw (ordered_passes type types t, ordered_passes (term ml) terms e, ap (λ (l : List ℕ). walk scope_due l ([] ∷ [])) e.spelt ∙ x.refuses)

  judging : Judging (judged types terms start)
  judging = by_type (in_order type types) refl
    where
      behind : (t : Ordered type types) (e : Ordered (term ml) terms) → Scoped [] e.tree → (r p : ℕ)
          → judged types terms start ≡ refused r p → 6 ≤ r
      behind t e c r p q = typing (answer 4 start t.tree e.tree) (sym (judged_typed types terms start s) ∙ q)
        where
          s : Spelt types terms t.tree e.tree
          s = spelt_by types terms t e (size e.tree)
              (ap (λ (l : List ℕ). walk scope_due l ([] ∷ [])) e.spelt ∙ scoped_passes [] e.tree c)

          typing : {v : Verdict Recipe} → Answer 4 start t.tree e.tree v → v ≡ refused r p → 6 ≤ r
          typing (untyped i) z = omega (arith, (refused_injective z).0)
          typing (as_declared i) z = absurd (not_both r p _ (sym z))
          typing (mistyped u d i c) z = omega (arith, (refused_injective z).0)

      by_scope : (t : Ordered type types) (e : Ordered (term ml) terms) → Scoped [] e.tree ⊎ ((p : ℕ) × ScopeRefused [] e.tree p)
          → Judging (judged types terms start)
      by_scope t e (inl c) = no_offence (judged types terms start) t e c (λ r p z. behind t e c r p z)
      by_scope t e (inr (p, x)) = subst Judging (sym (in_scope p t e x)) (of_scope p t e x)

      by_term : Ordered type types → (v : Verdict ℕ) → in_order (term ml) terms ≡ v → Judging (judged types terms start)
      by_term t (refused r p) q = subst Judging (sym (in_terms r p t q)) (of_term r p t q)
      by_term t (passed n) q = let e = passes_ordered (term ml) terms n q in by_scope t e (scope_refused [] e.tree e.ranged)

      by_type : (v : Verdict ℕ) → in_order type types ≡ v → Judging (judged types terms start)
      by_type (refused r p) q = subst Judging (sym (in_types r p q)) (of_type r p q)
      by_type (passed n) q = by_term (passes_ordered type types n q) (in_order (term ml) terms) refl

  -- A number under 5 whose offence is known in words of each sort.
  module _ (F : Sort → List ℕ → ℕ → Type 0) (r : ℕ) (few : r < 5)
      (iff : (s : Sort) (ws : List ℕ) (p : ℕ) → (in_order s ws ≡ refused r p) ↔ F s ws p) where
    pub judged_iff : (p : ℕ) → (judged types terms start ≡ refused r p) ↔ In F types terms start p
    judged_iff p = (λ q. to (judged types terms start) q judging, from p)
      where
        to : (v : Verdict Recipe) → v ≡ refused r p → Judging v → In F types terms start p
        to v q (of_type m o e) =
            let i = refused_injective q in
            subst (λ (k : ℕ). In F types terms start k) i.1 (in_type o ((iff type types o).0 (e ∙ ap (λ (k : ℕ). refused k o) i.0)))
        to v q (of_term m o t e) =
            let i = refused_injective q in
            subst (λ (k : ℕ). In F types terms start k) i.1
            (in_term o (ordered_nested type types t) ((iff (term ml) terms o).0 (e ∙ ap (λ (k : ℕ). refused k o) i.0)))
        to v q (of_scope o t e x) = absurd (omega (arith, few, (refused_injective q).0))
        to v q (no_offence x t e c n) = absurd (omega (arith, few, n r p q))

        from : (k : ℕ) → In F types terms start k → judged types terms start ≡ refused r k
        from k (in_type o f) = in_types r o ((iff type types o).1 f)
        from k (in_term o t f) = in_terms r o (nested_ordered type types t) ((iff (term ml) terms o).1 f)

  -- The word of a variable without its lambda.
  unbound_at : (e : Ordered (term ml) terms) (p : ℕ) → ScopeRefused [] e.tree p → Unbound terms p
  unbound_at e p x =
      let n : length terms ≡ size e.tree = ap length e.spelt ∙ omega (arith, tree_length (term ml) e.tree []) in
      record {
        within = omega (arith, x.within, n);
        begun = (x.more, x.begun, x.ranged, x.scoped, ap (λ (l : List ℕ). take p l ++ x.more) e.spelt ∙ sym x.spelt);
        offends = λ (k, u, r, c, h).
            let l = take (suc p) terms ++ k in
            let i : suc p ≤ length terms = omega (arith, x.within, n) in
            let w : walk scope_due terms ([] ∷ []) ≡ refused 5 p = ap (λ (l : List ℕ). walk scope_due l ([] ∷ [])) e.spelt ∙ x.refuses in
            let z = same_refusal scope_due terms l ([] ∷ []) 5 p w i (sym (take_within (suc p) (suc p) terms k (omega arith) i)) in
            not_both 5 p (size u) (sym z ∙ ap (λ (l : List ℕ). walk scope_due l ([] ∷ [])) h ∙ scoped_passes [] u c);
      }

  scope_less : (p q : ℕ) → p ≤ q → q ≤ length terms → InScope terms q → InScope terms p
  scope_less p q i j (k, e, r, c, h) =
      let l = take q terms ++ k in
      let f : take p l ≡ take p terms = take_within p q terms k i j in
      (drop p l, e, r, c, rw (← f) (take-append-drop p l ∙ h))

  unbound_once : (p q : ℕ) → Unbound terms p → Unbound terms q → p < q → ⊥
  unbound_once p q x y i = x.offends (scope_less (suc p) q (omega (arith, i)) (omega (arith, y.within)) y.begun)

  closed_bound : (e : Ordered (term ml) terms) (p : ℕ) → Scoped [] e.tree → Unbound terms p → ⊥
  closed_bound e p c x =
      x.offends (drop (suc p) terms, e.tree, e.ranged, c, take-append-drop (suc p) terms ∙ e.spelt)

  pub five_iff : (p : ℕ) → (judged types terms start ≡ refused 5 p) ↔ UnboundOf types terms start p
  five_iff p = (λ q. to (judged types terms start) q judging, λ u. from u (judged types terms start) refl judging)
    where
      no_five : (s : Sort) (ws : List ℕ) (o : ℕ) → in_order s ws ≡ refused 5 o → ⊥
      no_five s ws o e = by (in_order s ws) e (judged_so s ws)
        where
          by : (v : Verdict ℕ) → v ≡ refused 5 o → Judged s ws v → ⊥
          by v q (all_in_order m x) = not_both 5 o m (sym q)
          by v q (not_due_at m x) = omega (arith, (refused_injective q).0)
          by v q (too_deep_at m x) = omega (arith, (refused_injective q).0)

      to : (v : Verdict Recipe) → v ≡ refused 5 p → Judging v → UnboundOf types terms start p
      to v q (of_type m o e) = absurd (no_five type types o (e ∙ ap (λ (k : ℕ). refused k o) (refused_injective q).0))
      to v q (of_term m o t e) = absurd (no_five (term ml) terms o (e ∙ ap (λ (k : ℕ). refused k o) (refused_injective q).0))
      to v q (of_scope o t e x) =
          record {
            types_in_order = ordered_nested type types t;
            terms_in_order = ordered_nested (term ml) terms e;
            at = o;
            place = sym (refused_injective q).1;
            unbound = unbound_at e o x;
          }
      to v q (no_offence x t e c n) = absurd (omega (arith, n 5 p q))

      from : UnboundOf types terms start p → (v : Verdict Recipe) → judged types terms start ≡ v → Judging v → judged types terms start ≡ refused 5 p
      from u v q (of_type m o e) =
          absurd (not_both m o (length types) (sym e ∙ ordered_passes type types (nested_ordered type types u.types_in_order)))
      from u v q (of_term m o t e) =
          absurd (not_both m o (length terms) (sym e ∙ ordered_passes (term ml) terms (nested_ordered (term ml) terms u.terms_in_order)))
      from u v q (of_scope o t e x) =
          let y = unbound_at e o x in
          let z = same_place type [] o u.at (unbound_once o u.at y u.unbound) (unbound_once u.at o u.unbound y) in
          q ∙ ap (λ (k : ℕ). refused 5 k) (ap (λ (k : ℕ). start + k) z ∙ sym u.place)
      from u v q (no_offence x t e c n) = absurd (closed_bound e u.at c u.unbound)
