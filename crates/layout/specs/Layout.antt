-- Document 02, U7, "The batch card": the card's bytes, from the items, the charges and the total.
use Rattle.std.specs.Prelude.{ℕ, suc, ◌-◌, List, [], ◌∷◌, ◌++◌, length, get_or, replicate}
use Rattle.text.specs.Decimal.{decimal}
use Rattle.text.specs.Characters.{blank, line_feed, characters}

-- "blanks elsewhere": a line filled with them up to a column.
abbrev pub up_to : ℕ → List ℕ → List ℕ
up_to column line = line ++ replicate (column - length line) blank

-- "right-aligned to column ..": blanks behind the line so far, then the text, which ends in that column.
abbrev pub right_to : ℕ → List ℕ → List ℕ → List ℕ
right_to column text line = up_to (column - length text) line ++ text

-- "lines of exactly 40 columns and a line feed".
abbrev pub ended : List ℕ → List ℕ
ended line = up_to 40 line ++ line_feed ∷ []

-- "A pump's line has its number right-aligned to column 2, pulses to column 16, charge to column 32".
unfoldable pub pump_line : ℕ → ℕ → ℕ → List ℕ
pump_line pump pulses charge = ended (right_to 32 (decimal charge) (right_to 16 (decimal pulses) (right_to 2 (decimal pump) [])))

-- "The last line has TOTAL in columns 1 to 5 and the total right-aligned to column 32."
unfoldable pub last_line : ℕ → List ℕ
last_line total = ended (right_to 32 (decimal total) (characters "TOTAL"))

-- A line for each item, from pump i on, counted from 0: "pulses for pumps 1 to 9 in order".
unfoldable pub pump_lines : List ℕ → ℕ → List ℕ → List ℕ
pump_lines charges i [] = []
pump_lines charges i (n ∷ ns) = pump_line (suc i) n (get_or charges i 0) ++ pump_lines charges (suc i) ns

-- The card of these items, these charges and this total. "An empty list has the last line alone."
unfoldable pub card : List ℕ → List ℕ → ℕ → List ℕ
card ns charges total = pump_lines charges 0 ns ++ last_line total
