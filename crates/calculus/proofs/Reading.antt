-- Reading words as trees inverts writing them: a tree's words and anything after them read back as that tree. Assumes nothing.
use Prim.Native.Nat.{ℕ, ◌/◌}
use mathlib.Core.List.{List, [], ◌∷◌, ◌++◌}
use mathlib.Core.Option.{Option, none, some, some-injective}
use mathlib.Core.Path.{◌≡◌, refl, sym, ap, ◌∙◌}
use Rattle.calculus.specs.Verdicts.{found}
use Rattle.calculus.specs.Words.{word}
use Rattle.calculus.specs.Kinds.{Sort, Tree, Trees, put_tree, put_trees, Row, row_for}
use Rattle.calculus.specs.Reading.{front, back, read, read_tree}
use Rattle.calculus.specs.Nodes.{TreeInRange}
use Rattle.calculus.proofs.Rows.{TreesInRange, word_due}
use Rattle.calculus.proofs.Views.{View, view, Holds, OfParts, induction, operand_of}

-- Trees in a row and others behind them.
abbrev joined : (ss us : List Sort) → Trees ss → Trees us → Trees (ss ++ us)
joined [] us ts vs = vs
joined (s ∷ ss) us ts vs = (ts.0, joined ss us ts.1 vs)

front_joined : (ss us : List Sort) (ts : Trees ss) (vs : Trees us) → front ss us (joined ss us ts vs) ≡ ts
front_joined [] us ts vs = refl
front_joined (s ∷ ss) us ts vs = ap (λ (x : Trees ss). (ts.0, x)) (front_joined ss us ts.1 vs)

back_joined : (ss us : List Sort) (ts : Trees ss) (vs : Trees us) → back ss us (joined ss us ts vs) ≡ vs
back_joined [] us ts vs = refl
back_joined (s ∷ ss) us ts vs = back_joined ss us ts.1 vs

abbrev headed : (s : Sort) (ss : List Sort) → Tree s → Trees ss → Trees (s ∷ ss)
headed s ss t ts = (t, ts)

-- The tree that a row makes of the first of the trees read, and the others.
abbrev made : (s : Sort) (r : Row s) → ℕ → (ss : List Sort) → Trees (r.parts ++ ss) → Trees (s ∷ ss)
made s r o ss us = (r.make o (front r.parts ss us), back r.parts ss us)

-- What was read of k, with more in front.
abbrev with_front : {A B : Type 0} → (A → B) → Option (A × List ℕ) → Option (B × List ℕ)
with_front f o = found o none (λ x. some (f x.0, x.1))

with_both : {A B C : Type 0} (f : A → B) (g : B → C) (o : Option (A × List ℕ)) → with_front g (with_front f o) ≡ with_front (λ a. g (f a)) o
with_both f g none = refl
with_both f g (some x) = refl

abbrev Reads : (s : Sort) → Tree s → Type 0
Reads s t = TreeInRange s t → (k : List ℕ) (ss : List Sort) → read (put_tree s t k) (s ∷ ss) ≡ with_front (headed s ss t) (read k ss)

parts_read : (ps : List Sort) (ts : Trees ps) → Holds Reads ps ts → TreesInRange ps ts → (k : List ℕ) (ss : List Sort)
    → read (put_trees ps ts k) (ps ++ ss) ≡ with_front (joined ps ss ts) (read k ss)
parts_read [] ts hs rs k ss = unchanged (read k ss)
  where
    unchanged : (o : Option (Trees ss × List ℕ)) → o ≡ with_front (λ vs. vs) o
    unchanged none = refl
    unchanged (some x) = refl
parts_read (p ∷ ps) ts hs rs k ss =
    hs.0 rs.0 (put_trees ps ts.1 k) (ps ++ ss)
    ∙ ap (with_front (headed p (ps ++ ss) ts.0)) (parts_read ps ts.1 hs.1 rs.1 k ss)
    ∙ with_both (joined ps ss ts.1) (headed p (ps ++ ss) ts.0) (read k ss)

-- A word that is due makes a tree of what is read behind it.
read_due : (s : Sort) (w : ℕ) (ws : List ℕ) (ss : List Sort) (r : Row s) → row_for s w ≡ some r
    → read (w ∷ ws) (s ∷ ss) ≡ with_front (made s r (w / 256) ss) (read ws (r.parts ++ ss))
unfolding read
read_due s w ws ss r q = rw q

node_reads : (s : Sort) (t : Tree s) → OfParts Reads s t
node_reads s t hs h k ss =
    let v = view s t in
    let r = v.row in
    let f = v.fits h in
    ap (λ (ws : List ℕ). read ws (s ∷ ss)) (v.spelt k)
    ∙ read_due s (word r.kind v.operand) _ ss r (word_due s r.kind v.operand r v.small v.listed f.0 f.1)
    ∙ ap (with_front (made s r (word r.kind v.operand / 256) ss)) (parts_read r.parts v.parts hs f.2 k ss)
    ∙ with_both (joined r.parts ss v.parts) (made s r (word r.kind v.operand / 256) ss) (read k ss)
    ∙ again (view s t) (read k ss)
  where
    again : (v : View s t) (o : Option (Trees ss × List ℕ))
        → with_front (λ us. made s v.row (word v.row.kind v.operand / 256) ss (joined v.row.parts ss v.parts us)) o
        ≡ with_front (headed s ss t) o
    again v none = refl
    again v (some x) =
        rw (operand_of v, front_joined v.row.parts ss v.parts x.0, back_joined v.row.parts ss v.parts x.0, v.makes)

-- The words of a tree in range and anything behind them read back as that tree, and the rest.
pub read_tree_lem : (s : Sort) (t : Tree s) → TreeInRange s t → (k : List ℕ) → read (put_tree s t k) (s ∷ []) ≡ some ((t, tt), k)
unfolding read
read_tree_lem s t h k = induction Reads node_reads s t h k [] ∙ ended k
  where
    ended : (k : List ℕ) → with_front (headed s [] t) (read k []) ≡ some ((t, tt), k)
    ended [] = refl
    ended (w ∷ ws) = refl

pub whole_tree : (s : Sort) (t : Tree s) → TreeInRange s t → read_tree s (put_tree s t []) ≡ some t
unfolding read_tree
whole_tree s t h = rw (read_tree_lem s t h [])

-- No words start with those of two trees.
pub one_tree : (s : Sort) (t u : Tree s) (j k : List ℕ) → TreeInRange s t → TreeInRange s u → put_tree s t j ≡ put_tree s u k → (t ≡ u) × (j ≡ k)
one_tree s t u j k ht hu q =
    let e = some-injective _ _ (sym (read_tree_lem s t ht j) ∙ ap (λ (ws : List ℕ). read ws (s ∷ [])) q ∙ read_tree_lem s u hu k) in
    (ap (λ (x : Trees (s ∷ []) × List ℕ). x.0.0) e, ap (λ (x : Trees (s ∷ []) × List ℕ). x.1) e)
