-- The two buffers of a run: which holds the term, and what is left in both.
use Rattle.std.specs.Prelude.{ℕ, ◌≤◌, Bool, true, false, List, [], ◌≡◌, length}
use Rattle.calculus.specs.File.{padded}

-- Both buffers have room for n words, of at most 16,384.
pub record Room (first second : List ℕ) (n : ℕ) : Type 0 where
  pub in_first : n ≤ length first
  pub in_second : n ≤ length second
  pub few : n ≤ 16384

-- The buffer that holds the term: the first, or the second.
abbrev pub held : Bool → List ℕ → List ℕ → List ℕ
held true first second = first
held false first second = second

-- "the term stands first in the first buffer", "Every other word of both buffers is zero."
pub record Settled (ws first second first' second' : List ℕ) : Type 0 where
  pub first_is : first' ≡ padded (length first) ws
  pub second_is : second' ≡ padded (length second) []
