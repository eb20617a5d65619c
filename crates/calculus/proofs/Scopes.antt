-- Refusal 5: the scope walk takes exactly the words of a closed term. Assumes nothing.
use Prim.Native.Nat.{ℕ, zero, suc, ◌+◌, ◌%◌, ◌≤◌, ◌<◌}
use mathlib.Core.Bool.{Bool, true, false, cond}
use mathlib.Core.List.{List, [], ◌∷◌, ◌++◌, append_assoc}
use mathlib.Core.Logic.{◌⊎◌, inl, inr}
use mathlib.Core.Path.{◌≡◌, refl, sym, ap, ◌∙◌}
use lib.ListN.{length, replicate, take}
use native.Mathlib.Omega.{arith}
use Rattle.calculus.specs.Verdicts.{found, refused, passed}
use Rattle.calculus.specs.Trees.{N, Lang, Term, num}
use Rattle.calculus.specs.Limits.{InRangeTy, InRange}
use Rattle.calculus.specs.Nodes.{TreeInRange}
use Rattle.calculus.specs.Words.{word, put, size}
use Rattle.calculus.specs.Kinds.{Sort, type, term, Tree, Trees, put_tree, put_trees, table, row_in, size_tree, size_trees}
use Rattle.calculus.specs.Reading.{opens, refuses, later, acted, walk}
use Rattle.calculus.specs.Scope.{Scoped, part_count, scope_due}
use Rattle.calculus.proofs.Verdicts.{not_both}
use Rattle.calculus.proofs.Sizes.{tree_append, tree_length}
use Rattle.calculus.proofs.Rows.{TreesInRange, law_at}
use Rattle.calculus.proofs.Walks.{later_zero, later_later, later_passed}
use Rattle.calculus.proofs.Views.{TreeScoped, TreesScoped, free_at, inside_at, View, view, kind_of, operand_of, sort_of_lem, sized, Holds, OfParts}
use Rattle.calculus.proofs.Views.{remade, induction}

-- What the scope walk does at a tree's first word.
module _ (s : Sort) (t : Tree s) (Γ : List Lang) where
  abbrev v : View s t
  v = view s t

  abbrev w : ℕ
  w = word v.row.kind v.operand

  abbrev Δ : List Lang
  Δ = inside_at Γ v.row.kind

  part_count_lem : part_count w ≡ length v.row.parts
  part_count_lem =
      ap (λ (x : Sort). found (row_in (table x) (w % 256)) 0 (λ r. length r.parts)) (sort_of_lem v)
      ∙ ap (λ (k : ℕ). found (row_in (table s) k) 0 (λ r. length r.parts)) (kind_of v)
      ∙ rw v.listed

  due_is : scope_due Γ w ≡ cond (free_at Γ v.row.kind v.operand) (refuses 5) (opens (replicate (length v.row.parts) Δ))
  due_is = rw (part_count_lem, kind_of v, operand_of v)

  -- the walk over a tree is that over its word and its parts
  walk_is : (k : List ℕ) (ds : List (List Lang))
      → walk scope_due (put_tree s t k) (Γ ∷ ds)
      ≡ acted (cond (free_at Γ v.row.kind v.operand) (refuses 5) (opens (replicate (length v.row.parts) Δ)))
      (λ ps. walk scope_due (put_trees v.row.parts v.parts k) (ps ++ ds))
  unfolding walk
  walk_is k ds = ap (λ (l : List ℕ). walk scope_due l (Γ ∷ ds)) (v.spelt k) ∙ rw due_is

-- A tree in scope is taken whole.
abbrev Taken : (s : Sort) → Tree s → Type 0
Taken s t = (Γ : List Lang) (k : List ℕ) (ds : List (List Lang)) → TreeScoped Γ s t
    → walk scope_due (put_tree s t k) (Γ ∷ ds) ≡ later (size_tree s t) (walk scope_due k ds)

parts_taken : (ss : List Sort) (ts : Trees ss) → Holds Taken ss ts → (Γ : List Lang) (k : List ℕ) (ds : List (List Lang)) → TreesScoped Γ ss ts
    → walk scope_due (put_trees ss ts k) (replicate (length ss) Γ ++ ds) ≡ later (size_trees ss ts) (walk scope_due k ds)
parts_taken [] ts hs Γ k ds h = sym (later_zero (walk scope_due k ds))
parts_taken (s ∷ ss) ts hs Γ k ds h =
    hs.0 Γ (put_trees ss ts.1 k) (replicate (length ss) Γ ++ ds) h.0
    ∙ ap (later (size_tree s ts.0)) (parts_taken ss ts.1 hs.1 Γ k ds h.1)
    ∙ later_later (size_tree s ts.0) (size_trees ss ts.1) (walk scope_due k ds)

node_taken : (s : Sort) (t : Tree s) → OfParts Taken s t
node_taken s t hs Γ k ds h =
    let v = view s t in
    let a = (v.scope Γ).0 h in
    let n : 1 + size_trees v.row.parts v.parts ≡ size_tree s t = omega (arith, sized v) in
    walk_is s t Γ k ds
    ∙ rw a.0 (ap (later 1) (parts_taken v.row.parts v.parts hs (inside_at Γ v.row.kind) k ds a.1))
    ∙ later_later 1 (size_trees v.row.parts v.parts) (walk scope_due k ds)
    ∙ ap (λ (m : ℕ). later m (walk scope_due k ds)) n

-- What is taken is a tree in scope.
abbrev Passes : List ℕ → List (List Lang) → Type 0
Passes k ds = (n : ℕ) × (walk scope_due k ds ≡ passed n)

abbrev Told : (s : Sort) → Tree s → Type 0
Told s t = (Γ : List Lang) (k : List ℕ) (ds : List (List Lang)) → Passes (put_tree s t k) (Γ ∷ ds) → TreeScoped Γ s t × Passes k ds

parts_told : (ss : List Sort) (ts : Trees ss) → Holds Told ss ts → (Γ : List Lang) (k : List ℕ) (ds : List (List Lang))
    → Passes (put_trees ss ts k) (replicate (length ss) Γ ++ ds) → TreesScoped Γ ss ts × Passes k ds
parts_told [] ts hs Γ k ds p = (tt, p)
parts_told (s ∷ ss) ts hs Γ k ds p =
    let i = hs.0 Γ (put_trees ss ts.1 k) (replicate (length ss) Γ ++ ds) p in
    let j = parts_told ss ts.1 hs.1 Γ k ds i.1 in
    ((i.0, j.0), j.1)

node_told : (s : Sort) (t : Tree s) → OfParts Told s t
node_told s t hs Γ k ds p = by_free (free_at Γ (v s t Γ).row.kind (v s t Γ).operand) refl (sym (walk_is s t Γ k ds) ∙ p.1)
  where
    by_free : (b : Bool) → free_at Γ (v s t Γ).row.kind (v s t Γ).operand ≡ b
        → acted (cond b (refuses 5) (opens (replicate (length (v s t Γ).row.parts) (Δ s t Γ))))
        (λ ps. walk scope_due (put_trees (v s t Γ).row.parts (v s t Γ).parts k) (ps ++ ds)) ≡ passed p.0
        → TreeScoped Γ s t × Passes k ds
    by_free true e q = absurd (not_both 5 0 p.0 q)
    by_free false e q =
        let i = parts_told (v s t Γ).row.parts (v s t Γ).parts hs (Δ s t Γ) k ds (later_passed 1 _ p.0 q) in
        (((v s t Γ).scope Γ).1 (e, i.0), i.1)

-- Refusal 5 is given to no closed term, and every term that passes is closed.
pub scoped_passes : {l : Lang} (Γ : List Lang) (e : Term l) → Scoped Γ e → walk scope_due (put e []) (Γ ∷ []) ≡ passed (size e)
unfolding walk
scoped_passes {l} Γ e h =
    let n : size e + 0 ≡ size e = omega arith in
    induction Taken node_taken (term l) e Γ [] [] h ∙ ap passed n

pub passes_scoped : {l : Lang} (Γ : List Lang) (e : Term l) (n : ℕ) → walk scope_due (put e []) (Γ ∷ []) ≡ passed n → Scoped Γ e
passes_scoped {l} Γ e n q = (induction Told node_told (term l) e Γ [] [] (n, q)).0

-- The least trees, which have no variables.
abbrev pub leaf : (s : Sort) → Tree s
leaf type = N
leaf (term l) = num 0

abbrev leaves : (ss : List Sort) → Trees ss
leaves [] = tt
leaves (s ∷ ss) = (leaf s, leaves ss)

pub leaf_ranged : (s : Sort) → TreeInRange s (leaf s)
unfolding InRangeTy InRange
leaf_ranged type = tt
leaf_ranged (term l) = omega arith

leaves_ranged : (ss : List Sort) → TreesInRange ss (leaves ss)
leaves_ranged [] = tt
leaves_ranged (s ∷ ss) = (leaf_ranged s, leaves_ranged ss)

leaf_scoped : (Γ : List Lang) (s : Sort) → TreeScoped Γ s (leaf s)
leaf_scoped Γ type = tt
leaf_scoped Γ (term l) = tt

leaves_scoped : (Γ : List Lang) (ss : List Sort) → TreesScoped Γ ss (leaves ss)
leaves_scoped Γ [] = tt
leaves_scoped Γ (s ∷ ss) = (leaf_scoped Γ s, leaves_scoped Γ ss)

take_first : (p : ℕ) (a b : List ℕ) → p ≤ length a → take p (a ++ b) ≡ take p a
take_first zero a b h = refl
take_first (suc p) [] b h = absurd (omega (arith, h))
take_first (suc p) (x ∷ a) b h = ap (λ (l : List ℕ). x ∷ l) (take_first p a b (omega (arith, h)))

take_past : (a b : List ℕ) (n p : ℕ) → n ≡ length a + p → take n (a ++ b) ≡ a ++ take p b
take_past [] b n p h = let e : n ≡ p = omega (arith, h) in ap (λ (k : ℕ). take k b) e
take_past (x ∷ a) b zero p h = absurd (omega (arith, h))
take_past (x ∷ a) b (suc n) p h = ap (λ (l : List ℕ). x ∷ l) (take_past a b n p (omega (arith, h)))

-- The words of trees are in scope, or refused by 5, at a word of theirs; and the words before it begin such trees in scope.
record Mended (Γ : List Lang) (ss : List Sort) (ts : Trees ss) (p : ℕ) : Type 0 where
  trees : Trees ss
  ranged : TreesInRange ss trees
  scoped : TreesScoped Γ ss trees
  more : List ℕ
  spelt : put_trees ss trees [] ≡ take p (put_trees ss ts []) ++ more
  within : p < size_trees ss ts

abbrev Refused : (s : Sort) → Tree s → List Lang → List ℕ → List (List Lang) → Type 0
Refused s t Γ k ds = (p : ℕ) × (walk scope_due (put_tree s t k) (Γ ∷ ds) ≡ refused 5 p) × Mended Γ (s ∷ []) (t, tt) p

abbrev Decided : (s : Sort) → Tree s → Type 0
Decided s t = TreeInRange s t → (Γ : List Lang) (k : List ℕ) (ds : List (List Lang)) → TreeScoped Γ s t ⊎ Refused s t Γ k ds

abbrev PartsRefused : (ss : List Sort) → Trees ss → List Lang → List ℕ → List (List Lang) → Type 0
PartsRefused ss ts Γ k ds = (p : ℕ) × (walk scope_due (put_trees ss ts k) (replicate (length ss) Γ ++ ds) ≡ refused 5 p) × Mended Γ ss ts p

parts_decided : (ss : List Sort) (ts : Trees ss) → Holds Decided ss ts → TreesInRange ss ts → (Γ : List Lang) (k : List ℕ) (ds : List (List Lang))
    → TreesScoped Γ ss ts ⊎ PartsRefused ss ts Γ k ds
parts_decided [] ts hs rs Γ k ds = inl tt
parts_decided (s ∷ ss) ts hs rs Γ k ds =
    by (hs.0 rs.0 Γ (put_trees ss ts.1 k) (replicate (length ss) Γ ++ ds)) (parts_decided ss ts.1 hs.1 rs.1 Γ k ds)
  where
    t : Tree s
    t = ts.0

    long : length (put_tree s t []) ≡ size_tree s t
    long = omega (arith, tree_length s t [])

    by : TreeScoped Γ s t ⊎ Refused s t Γ (put_trees ss ts.1 k) (replicate (length ss) Γ ++ ds)
        → TreesScoped Γ ss ts.1 ⊎ PartsRefused ss ts.1 Γ k ds
        → TreesScoped Γ (s ∷ ss) ts ⊎ PartsRefused (s ∷ ss) ts Γ k ds
    by (inr (p, e, m)) y =
        let u = m.trees.0 in
        let rest = put_trees ss (leaves ss) [] in
        let h : p ≤ length (put_tree s t []) = omega (arith, m.within, long) in
        let w : take p (put_tree s t (put_trees ss ts.1 [])) ≡ take p (put_tree s t []) =
        ap (take p) (tree_append s t [] (put_trees ss ts.1 [])) ∙ take_first p (put_tree s t []) (put_trees ss ts.1 []) h in
        inr (
          p,
          e,
          record {
            trees = (u, leaves ss);
            ranged = (m.ranged.0, leaves_ranged ss);
            scoped = (m.scoped.0, leaves_scoped Γ ss);
            more = m.more ++ rest;
            spelt =
                tree_append s u [] rest ∙ ap (λ (l : List ℕ). l ++ rest) m.spelt ∙ append_assoc (take p (put_tree s t [])) m.more rest
                ∙ ap (λ (l : List ℕ). l ++ (m.more ++ rest)) (sym w);
            within = omega (arith, m.within);
          },
        )
    by (inl h) (inl g) = inl (h, g)
    by (inl h) (inr (p, e, m)) =
        let n = size_tree s t + p in
        let j = put_trees ss ts.1 [] in
        inr (
          n,
          induction Taken node_taken s t Γ (put_trees ss ts.1 k) (replicate (length ss) Γ ++ ds) h ∙ ap (later (size_tree s t)) e,
          record {
            trees = (t, m.trees);
            ranged = (rs.0, m.ranged);
            scoped = (h, m.scoped);
            more = m.more;
            spelt =
                ap (put_tree s t) m.spelt ∙ tree_append s t [] (take p j ++ m.more)
                ∙ sym (append_assoc (put_tree s t []) (take p j) m.more)
                ∙ ap (λ (l : List ℕ). l ++ m.more)
                (sym (ap (take n) (tree_append s t [] j) ∙ take_past (put_tree s t []) j n p (omega (arith, long))));
            within = omega (arith, m.within);
          },
        )

node_decided : (s : Sort) (t : Tree s) → OfParts Decided s t
node_decided s t hs h Γ k ds =
    by (free_at Γ w.row.kind w.operand) refl (parts_decided w.row.parts w.parts hs (w.fits h).2 (Δ s t Γ) k ds)
  where
    w : View s t
    w = view s t

    by : (b : Bool) → free_at Γ w.row.kind w.operand ≡ b
        → TreesScoped (Δ s t Γ) w.row.parts w.parts ⊎ PartsRefused w.row.parts w.parts (Δ s t Γ) k ds
        → TreeScoped Γ s t ⊎ Refused s t Γ k ds
    by true e x =
        inr (
          0,
          walk_is s t Γ k ds ∙ rw e refl,
          record {
            trees = (leaf s, tt);
            ranged = (leaf_ranged s, tt);
            scoped = (leaf_scoped Γ s, tt);
            more = put_tree s (leaf s) [];
            spelt = refl;
            within = omega (arith, sized w);
          },
        )
    by false e (inl g) = inl ((w.scope Γ).1 (e, g))
    by false e (inr (p, q, m)) =
        let f = w.fits h in
        let r = w.row in
        let made = (law_at s r.kind r w.listed).0.made w.operand f.0 f.1 m.trees in
        inr (
          1 + p,
          walk_is s t Γ k ds ∙ rw e (ap (later 1) q),
          record {
            trees = (r.make w.operand m.trees, tt);
            ranged = (made.ranged m.ranged, tt);
            scoped = ((remade s t m.trees Γ).1 (e, m.scoped), tt);
            more = m.more;
            spelt =
                made.spelt [] ∙ ap (λ (l : List ℕ). word r.kind w.operand ∷ l) m.spelt
                ∙ ap (λ (l : List ℕ). l ++ m.more)
                (sym (take_past (word r.kind w.operand ∷ []) (put_trees r.parts w.parts []) (1 + p) p (omega arith)))
                ∙ ap (λ (l : List ℕ). take (1 + p) l ++ m.more) (sym (w.spelt []));
            within = omega (arith, sized w, m.within);
          },
        )

pub record ScopeRefused {l : Lang} (Γ : List Lang) (e : Term l) (p : ℕ) : Type 0 where
  pub refuses : walk scope_due (put e []) (Γ ∷ []) ≡ refused 5 p
  pub within : p < size e
  pub begun : Term l
  pub ranged : InRange begun
  pub scoped : Scoped Γ begun
  pub more : List ℕ
  pub spelt : put begun [] ≡ take p (put e []) ++ more

pub scope_refused : {l : Lang} (Γ : List Lang) (e : Term l) → InRange e → Scoped Γ e ⊎ ((p : ℕ) × ScopeRefused Γ e p)
scope_refused {l} Γ e h = by (induction Decided node_decided (term l) e h Γ [] [])
  where
    by : Scoped Γ e ⊎ Refused (term l) e Γ [] [] → Scoped Γ e ⊎ ((p : ℕ) × ScopeRefused Γ e p)
    by (inl g) = inl g
    by (inr (p, q, m)) =
        inr (
          p,
          record {
            refuses = q;
            within = omega (arith, m.within);
            begun = m.trees.0;
            ranged = m.ranged.0;
            scoped = m.scoped.0;
            more = m.more;
            spelt = m.spelt;
          },
        )
