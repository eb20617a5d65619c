-- The next term, stretch by stretch.
use Rattle.std.specs.Prelude.{ℕ, ◌-◌, ◌≤◌, List, length, take, drop}
use Rattle.writing.specs.Given.{most_words, most_place}
use Rattle.writing.specs.Wrote.{Wrote}

-- The words from a place to another.
abbrev pub stretch : ℕ → ℕ → List ℕ → List ℕ
stretch a e ws = take (e - a) (drop a ws)

-- What is told of the next term: the node's words stand in src from p to e, and what it becomes is there from p up to a.
pub record Gap (src : List ℕ) (p a e : ℕ) : Type 0 where
  pub few : length src ≤ most_words
  pub first : p ≤ length src
  pub last : e ≤ length src
  pub near : a ≤ most_place

-- Into b the words of src before p, and from the place a on those from e on.
pub record Next (src : List ℕ) (p a e : ℕ) (b : List ℕ) (k : ℕ) (b' : List ℕ) : Type 0 where
  pub k₁ : ℕ
  pub b₁ : List ℕ
  pub front : Wrote b 0 (stretch 0 p src) k₁ b₁
  pub back : Wrote b₁ a (stretch e (length src) src) k b'
