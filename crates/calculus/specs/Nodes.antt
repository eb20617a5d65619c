-- Document 01, the reader of nodes, said of trees; and of document 02 its short way. proofs/Nodes.antt proves it of `nodeAt` and `alone`; of the code
-- it is the contracts of `node_once` and `alone_once` in crates/demands/src/lib.rt.
use Rattle.std.specs.Prelude.{ℕ, ◌<◌, Bool, true, false, List, [], ◌↔◌, ◌≡◌, eqb, length, get_or, drop}
use Rattle.calculus.specs.Limits.{InRangeTy, InRange}
use Rattle.calculus.specs.Kinds.{Sort, type, term, Tree, put_tree, size_tree, row_for, sort_of}
use Rattle.calculus.specs.Verdicts.{found}
use Rattle.calculus.specs.Reading.{node_at}

-- The operands of a tree of any sort are in their ranges.
abbrev pub TreeInRange : (s : Sort) → Tree s → Type 0
TreeInRange type t = InRangeTy t
TreeInRange (term l) e = InRange e

-- "A whole node starts with a word of any tree kind and has due kinds and operands throughout; scope, type and nesting don't matter to it, and a
-- place past the end holds none": at the place stand the words of a tree of some sort, and then any words.
pub record Whole (ws : List ℕ) (at : ℕ) : Type 0 where
  pub sort : Sort
  pub tree : Tree sort
  pub ranged : TreeInRange sort tree
  pub rest : List ℕ
  pub spelt : drop at ws ≡ put_tree sort tree rest

-- "Asking for the node at a place gives back that very part of the caller's words, from its first word to its last, or the empty part where no whole
-- node starts there."
pub record GivenBack (ws : List ℕ) (at : ℕ) (given : List ℕ) : Type 0 where
  pub whole : (n : Whole ws at) → given ≡ put_tree n.sort n.tree []
  pub empty : ¬ Whole ws at → given ≡ []

-- Document 02, "the places whose whole node is one word": by trees, and as a test.
abbrev pub OneWord : List ℕ → ℕ → Type 0
OneWord ws at = (n : Whole ws at) × (size_tree n.sort n.tree ≡ 1)

abbrev pub is_one_word : List ℕ → ℕ → Bool
is_one_word ws at = eqb (length (node_at ws at)) 1

-- "Many words there have no parts. The reader of nodes is to give such a word back straight from the constant table": the word's row there, and
-- nothing else, tells that it stands alone.
unfoldable pub alone : ℕ → Bool
alone w = found (row_for (sort_of w) w) false (λ r. eqb (length r.parts) 0)

-- "This short way is proved by itself: it answers at exactly the places whose whole node is one word."
abbrev pub ShortWay : Type 0
ShortWay = (ws : List ℕ) (at : ℕ) → at < length ws → (alone (get_or ws at 0) ≡ true) ↔ OneWord ws at
