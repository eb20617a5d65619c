-- Document 01, the table of refusals: when 1 to 5 are given and at which place, "the first offending word", said of bytes, words and trees and not of
-- the walk that finds them. RefusalTable.antt has them by their numbers.
use Rattle.std.specs.Prelude.{ℕ, suc, ◌+◌, ◌%◌, ◌≤◌, ◌<◌, List, [], ◌∷◌, ◌++◌, ◌⊎◌, ◌≡◌, length, get_or, take}
use Rattle.calculus.specs.Limits.{InRange, nesting_ty, nesting}
use Rattle.calculus.specs.Kinds.{Sort, type, term, Tree, put_tree}
use Rattle.calculus.specs.Trees.{ml, Term}
use Rattle.calculus.specs.Words.{words}
use Rattle.calculus.specs.Scope.{Scoped}
use Rattle.calculus.specs.Nodes.{TreeInRange}

-- "1 | bytes not a multiple of 4, under 24 or over 16,384".
abbrev pub SizeFault : List ℕ → Type 0
SizeFault bytes = (¬ (length bytes % 4 ≡ 0)) ⊎ (length bytes < 24) ⊎ (16384 < length bytes)

-- "2 | a count is 0, an offset is not as above, or term offset plus term count is not the file's length in words": type count, type offset, term
-- count and term offset are the first four words.
abbrev pub HeaderFault : List ℕ → Type 0
HeaderFault ws =
    (get_or ws 0 0 ≡ 0) ⊎ (get_or ws 2 0 ≡ 0) ⊎ (¬ (get_or ws 1 0 ≡ 4)) ⊎ (¬ (get_or ws 3 0 ≡ 4 + get_or ws 0 0))
    ⊎ (¬ (get_or ws 3 0 + get_or ws 2 0 ≡ length ws))

abbrev pub nesting_of : (s : Sort) → Tree s → ℕ
nesting_of type t = nesting_ty t
nesting_of (term l) e = nesting e

-- The words of one node of a sort, of due kinds and operands throughout; and of one that is nested at most 256 deep.
pub record Spells (s : Sort) (ws : List ℕ) : Type 0 where
  pub tree : Tree s
  pub ranged : TreeInRange s tree
  pub spelt : ws ≡ put_tree s tree []

pub record Nested (s : Sort) (ws : List ℕ) : Type 0 where
  pub node : Spells s ws
  pub nests : nesting_of s node.tree ≤ 256

-- The first p words begin a node: with some words behind them they are one.
abbrev pub Begins : Sort → List ℕ → ℕ → Type 0
Begins s ws p = (k : List ℕ) × Spells s (take p ws ++ k)

-- Behind the first p words a word is due, at most 256 deep: some node that is nested within begins with them and has more words.
abbrev pub Due : Sort → List ℕ → ℕ → Type 0
Due s ws p = (w : ℕ) × (k : List ℕ) × Nested s (take p ws ++ w ∷ k)

-- "3 | a word has no due kind or operand, the words of the declared type or of the term run out, or some remain", at p: the words before begin a
-- node, and each was due and not too deep; with the word at p they begin none, or there is no word at p and they are none.
pub record NotDue (s : Sort) (ws : List ℕ) (p : ℕ) : Type 0 where
  pub before : (q : ℕ) → q < p → Due s ws q
  pub begun : Begins s ws p
  pub within : p ≤ length ws
  pub offends : p < length ws → ¬ Begins s ws (suc p)
  pub short : p ≡ length ws → ¬ Spells s ws

-- "4 | nesting over 256", at p: each word before was due and not too deep, the word at p has a kind and operand that is due, but is too deep.
pub record TooDeep (s : Sort) (ws : List ℕ) (p : ℕ) : Type 0 where
  pub before : (q : ℕ) → q < p → Due s ws q
  pub within : p < length ws
  pub begun : Begins s ws (suc p)
  pub deep : ¬ Due s ws p

-- The first p words begin a term in scope, of due kinds and operands: each variable in it has its own lambda.
abbrev pub InScope : List ℕ → ℕ → Type 0
InScope ws p = (k : List ℕ) × (e : Term ml) × InRange e × Scoped [] e × (take p ws ++ k ≡ words e)

-- "5 | a variable without a lambda of its language there", at p of the words of a term in order: the words before begin a term in scope, and with
-- the word at p they begin none.
pub record Unbound (ws : List ℕ) (p : ℕ) : Type 0 where
  pub within : p < length ws
  pub begun : InScope ws p
  pub offends : ¬ InScope ws (suc p)

-- "then 3 and 4 in one walk, type before term": an offence in the declared type, which stands at 4, or, if that is in order, in the term, which
-- stands behind it.
pub data In (F : Sort → List ℕ → ℕ → Type 0) (types terms : List ℕ) (start : ℕ) : ℕ → Type 0 where
  in_type : (p : ℕ) → F type types p → In F types terms start (4 + p)
  in_term : (p : ℕ) → Nested type types → F (term ml) terms p → In F types terms start (start + p)

-- "then 5 over the whole term": of a type and a term in order.
pub record UnboundOf (types terms : List ℕ) (start p : ℕ) : Type 0 where
  pub types_in_order : Nested type types
  pub terms_in_order : Nested (term ml) terms
  pub at : ℕ
  pub place : p ≡ start + at
  pub unbound : Unbound terms at
