-- What substitution on words leaves.
use Rattle.std.specs.Prelude.{ℕ, ◌+◌, ◌*◌, ◌<◌, ◌≤◌, List, [], ◌∷◌, ◌≡◌, length}
use Rattle.calculus.specs.Trees.{Lang, Term}
use Rattle.calculus.specs.Words.{word, by, words}
use Rattle.calculus.specs.Kinds.{Sort, type, term, Tree, Trees, put_trees, size_trees}
use Rattle.calculus.specs.Reduction.{substitute}
use Rattle.writing.specs.declared.Writer.{Writer}
use Rattle.writing.specs.Given.{most_words, half_count, most_variable}
use Rattle.writing.specs.Puts.{Puts}

-- What substitution takes as given: neither the value, nor the variable's word inside lambdas, nor the place after what is written, is too large.
pub record SubstitutionFits (words : List ℕ) (x : ℕ) (value : List ℕ) (n : ℕ) : Type 0 where
  pub value_few : length value ≤ most_words
  pub variable : x + 256 * length words < most_variable
  pub room : n + most_words * length words < half_count

-- Trees with v for the variable that has d lambdas between.
abbrev pub in_tree : {m : Lang} → Term m → ℕ → (s : Sort) → Tree s → Tree s
in_tree v d type t = t
in_tree v d (term l) e = substitute v d e

abbrev pub in_trees : {m : Lang} → Term m → ℕ → (ss : List Sort) → Trees ss → Trees ss
in_trees v d [] ts = tt
in_trees v d (s ∷ ss) ts = (in_tree v d s ts.0, in_trees v d ss ts.1)

-- Where the words ws start with so many trees as are due, and x is a variable's word: so many words as are read are theirs, and from w to r their
-- words are put with the value for the variable.
pub record Substituted (ws : List ℕ) (due x : ℕ) (value : List ℕ) (w : Writer ℕ) (read : ℕ) (r : Writer ℕ) : Type 0 where
  pub of : {m : Lang} (v : Term m) (d : ℕ) (ss : List Sort) (ts : Trees ss) (more : List ℕ) → ws ≡ put_trees ss ts more → due ≡ length ss
      → x ≡ word (by m 16 32) d → value ≡ words v → (read ≡ size_trees ss ts) × Puts w (put_trees ss (in_trees v d ss ts) []) r
