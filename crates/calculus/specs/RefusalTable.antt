-- Document 01, the table of refusals as far as the check goes: number, place and "Given if", with document 02's places of 6 and 7. It computes
-- nothing; proofs/RefusalTable.antt says that the check gives these and no others.
use Rattle.std.specs.Prelude.{ℕ, ◌+◌, List, ◌↔◌, ◌≡◌, length}
use Rattle.calculus.specs.Verdicts.{refused}
use Rattle.calculus.specs.File.{words_of, type_words, term_words, judged, check}
use Rattle.calculus.specs.Offences.{SizeFault, HeaderFault, NotDue, TooDeep, In, UnboundOf}
use Rattle.calculus.specs.Mismatches.{NoTypeOf, OtherTypeOf}

-- The words of a declared type, which stand at 4, and of a term behind them are refused by this number at this place. "Order: .. then 3 and 4 in one
-- walk, type before term, 3 before 4 at a word; then 5 over the whole term; 6; 7": each asks that none of the earlier ones is due.
pub data RefusedWords (types terms : List ℕ) : ℕ → ℕ → Type 0 where
  three : (p : ℕ) → In NotDue types terms (4 + length types) p → RefusedWords types terms 3 p
  four : (p : ℕ) → In TooDeep types terms (4 + length types) p → RefusedWords types terms 4 p
  five : (p : ℕ) → UnboundOf types terms (4 + length types) p → RefusedWords types terms 5 p
  six : (p : ℕ) → NoTypeOf types terms p → RefusedWords types terms 6 p
  seven : (p : ℕ) → OtherTypeOf types terms p → RefusedWords types terms 7 p

-- A file is refused by this number at this place: "Order: 1, 2; then" its words.
pub data RefusedFile (bytes : List ℕ) : ℕ → ℕ → Type 0 where
  one : SizeFault bytes → RefusedFile bytes 1 0
  two : ¬ SizeFault bytes → HeaderFault (words_of bytes) → RefusedFile bytes 2 0
  words : (n p : ℕ) → ¬ SizeFault bytes → ¬ HeaderFault (words_of bytes)
      → RefusedWords (type_words (words_of bytes)) (term_words (words_of bytes)) n p → RefusedFile bytes n p

-- What the check says of a file, and of words handed in.
pub record Tabled : Type 0 where
  pub file : (bytes : List ℕ) (n p : ℕ) → (check bytes ≡ refused n p) ↔ RefusedFile bytes n p
  pub words : (types terms : List ℕ) (n p : ℕ) → (judged types terms (4 + length types) ≡ refused n p) ↔ RefusedWords types terms n p
