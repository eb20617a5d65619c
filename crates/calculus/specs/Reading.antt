-- Document 01, "Words and file": walking over words in prefix order, the node at a place, and the tree that words are.
use Rattle.std.specs.Prelude.{ℕ, ◌+◌, ◌-◌, ◌/◌, cond, List, [], ◌∷◌, ◌++◌, eqb, length, get_or, take, drop}
use Rattle.std.proofs.Math.Option.{Option, none, some}
use Rattle.calculus.specs.Kinds.{Sort, Tree, Trees, row_for, sort_of}
use Rattle.calculus.specs.Verdicts.{found, Verdict, refused, passed}

-- What a word means where something is due: the parts that are due next, in order, or the number of a refusal.
pub data Act (D : Type 0) : Type 0 where
  opens : List D → Act D
  refuses : ℕ → Act D

-- What is found n words further on.
abbrev pub later : ℕ → Verdict ℕ → Verdict ℕ
later n (refused r p) = refused r (n + p)
later n (passed m) = passed (n + m)

abbrev pub acted : {D : Type 0} → Act D → (List D → Verdict ℕ) → Verdict ℕ
acted (opens ps) rest = later 1 (rest ps)
acted (refuses r) rest = refused r 0

-- How many words the nodes that are due take, one after the other, or the first refusal and its place. A word takes the first of
-- what is due, and its parts are due next. Words that run out are refusal 3, one past the last.
unfoldable pub walk : {D : Type 0} → (D → ℕ → Act D) → List ℕ → List D → Verdict ℕ
walk f [] [] = passed 0
walk f [] (d ∷ ds) = refused 3 0
walk f (w ∷ ws) [] = passed 0
walk f (w ∷ ws) (d ∷ ds) = acted (f d w) (λ ps. walk f ws (ps ++ ds))

-- "A whole node starts with a word of any tree kind and has due kinds and operands throughout; scope, type and nesting don't matter".
abbrev pub kind_due : Sort → ℕ → Act Sort
kind_due s w = found (row_for s w) (refuses 3) (λ r. opens r.parts)

abbrev pub taken : Verdict ℕ → ℕ
taken (refused r p) = 0
taken (passed n) = n

-- How many words the node at the start of the words has; 0 where no whole node starts there.
unfoldable pub node_size : List ℕ → ℕ
node_size ws = taken (walk kind_due ws (sort_of (get_or ws 0 0) ∷ []))

-- "Asking for the node at a place gives back that very part of the caller's words, from its first word to its last, or the empty
-- part where no whole node starts there".
abbrev pub node_at : List ℕ → ℕ → List ℕ
node_at ws at = take (node_size (drop at ws)) (drop at ws)

-- "Nesting is at most 256, a root being at 1 and a part one deeper": what is due is a sort, with the levels that are left for it.
abbrev pub levels : ℕ
levels = 256

abbrev pub levelled : ℕ → List Sort → List (Sort × ℕ)
levelled n [] = []
levelled n (s ∷ ss) = (s, n) ∷ levelled n ss

-- "3 before 4 at a word".
abbrev pub nested_due : Sort × ℕ → ℕ → Act (Sort × ℕ)
nested_due d w = found (row_for d.0 w) (refuses 3) (λ r. cond (eqb d.1 0) (refuses 4) (opens (levelled (d.1 - 1) r.parts)))

-- "or some remain".
abbrev pub none_left : ℕ → Verdict ℕ → Verdict ℕ
none_left n (refused r p) = refused r p
none_left n (passed m) = cond (eqb m n) (passed m) (refused 3 m)

-- Refusals 3 and 4 of words that are to be one node of a sort.
unfoldable pub in_order : Sort → List ℕ → Verdict ℕ
in_order s ws = none_left (length ws) (walk nested_due ws ((s, levels) ∷ []))

-- The first trees of a list of trees, and the others.
abbrev pub front : (ss us : List Sort) → Trees (ss ++ us) → Trees ss
front [] us ts = tt
front (s ∷ ss) us ts = (ts.0, front ss us ts.1)

abbrev pub back : (ss us : List Sort) → Trees (ss ++ us) → Trees us
back [] us ts = ts
back (s ∷ ss) us ts = back ss us ts.1

-- The trees that are due at the start of the words, and the words after them.
unfoldable pub read : List ℕ → (ss : List Sort) → Option (Trees ss × List ℕ)
read [] [] = some (tt, [])
read [] (s ∷ ss) = none
read (w ∷ ws) [] = some (tt, w ∷ ws)
read (w ∷ ws) (s ∷ ss) =
    found (row_for s w) none (λ r.
    found (read ws (r.parts ++ ss)) none (λ x.
    some ((r.make (w / 256) (front r.parts ss x.0), back r.parts ss x.0), x.1)))

unfoldable pub read_tree : (s : Sort) → List ℕ → Option (Tree s)
read_tree s ws = found (read ws (s ∷ [])) none (λ x. some x.0.0)
