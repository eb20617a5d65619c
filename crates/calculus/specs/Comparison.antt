-- Document 02, U9: "Comparing two types now gives the first word in which they differ, or equality." Types are compared by their words.
use Rattle.std.specs.Prelude.{ℕ, ◌+◌, ◌<◌, cond, List, [], ◌∷◌, ◌++◌, ◌↔◌, ◌≡◌, eqb, length, get_or, take}
use Rattle.std.proofs.Math.Option.{Option, none, some}
use Rattle.calculus.specs.Trees.{Ty}
use Rattle.calculus.specs.Words.{words_ty}

-- A difference n words further on.
abbrev pub further_on : ℕ → Option ℕ → Option ℕ
further_on n none = none
further_on n (some d) = some (n + d)

-- How many words are equal before the first in which two lists differ; none where the lists are equal.
unfoldable pub first_difference : List ℕ → List ℕ → Option ℕ
first_difference [] [] = none
first_difference [] (y ∷ ys) = some 0
first_difference (x ∷ xs) [] = some 0
first_difference (x ∷ xs) (y ∷ ys) = cond (eqb x y) (further_on 1 (first_difference xs ys)) (some 0)

-- The comparison of two types: none where they are equal, or the first word in which they differ, counted from 0.
abbrev pub compare_types : Ty → Ty → Option ℕ
compare_types t u = first_difference (words_ty t) (words_ty u)

-- Both lists have a word at n, these two differ, and the words before them agree.
pub record DifferAt (xs ys : List ℕ) (n : ℕ) : Type 0 where
  pub in_first : n < length xs
  pub in_second : n < length ys
  pub agree : take n xs ≡ take n ys
  pub differ : ¬ (get_or xs n 0 ≡ get_or ys n 0)

-- What the comparison says, both ways; proofs/Comparison.antt proves it. The difference lies within both types, because neither type's words are
-- the start of the other's.
pub record ComparesExactly : Type 0 where
  pub equal : (t u : Ty) → (compare_types t u ≡ none) ↔ (t ≡ u)
  pub differ : (t u : Ty) (n : ℕ) → (compare_types t u ≡ some n) ↔ DifferAt (words_ty t) (words_ty u) n
  pub no_start : (t u : Ty) (k : List ℕ) → words_ty t ++ k ≡ words_ty u → k ≡ []
