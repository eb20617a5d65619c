-- `file::put_words` meets its contract: before each turn the words so far stand in the buffer, and the others are still to be read. Assumes nothing.
use Rattle.std.proofs.Common.{◌≡◌, ℕ, ◌<◌, List, get_or, drop, map, w32}
use Rattle.std.specs.Int.{from_le_bytes}
use Rattle.file.proofs.put_words.Given as goal

-- The loop's invariant.
pub record Filled (fours : List (List ℕ)) (out : List ℕ) (rest : List (List ℕ)) (i : ℕ) : Type 0 where
  pub left : map (from_le_bytes w32) rest ≡ drop i (map (from_le_bytes w32) fours)
  pub stands : (k : ℕ) → k < i → get_or out k 0 ≡ get_or (map (from_le_bytes w32) fours) k 0

abbrev pub invariant-loop-place : goal.invariant-loop-place
invariant-loop-place l = Filled l.fours l.out l.words.rest.now l.place-index
