-- Laws of the card's layout, the statements alone; proofs/Laws.antt proves them.
use Rattle.std.specs.Prelude.{ℕ, ◌+◌, ◌*◌, ◌-◌, ◌≤◌, ◌<◌, cond, List, [], ◌∷◌, ◌++◌, ◌≡◌, eqb, length, take, drop, get_or, replicate}
use Rattle.text.specs.Decimal.{InDecimal}
use Rattle.text.specs.Characters.{blank, line_feed, characters}
use Rattle.layout.specs.Layout.{card, last_line}

-- The widest numbers, for counts of up to 4,294,967,295 pulses: 10 digits of pulses, 13 of a charge, 14 of the total.
pub record Fits (ns charges : List ℕ) (total : ℕ) : Type 0 where
  pub few : length ns ≤ 9
  pub pulses_fit : (i : ℕ) → get_or ns i 0 ≤ 4294967295
  pub charges_fit : (i : ℕ) → get_or charges i 0 ≤ 4294967295000
  pub total_fits : total ≤ 38654705655000

-- The k-th line of a card, counted from 0; and what stands in the columns a to b of a line, counted from 1.
abbrev pub line_at : ℕ → List ℕ → List ℕ
line_at k text = take 41 (drop (41 * k) text)

abbrev pub columns : ℕ → ℕ → List ℕ → List ℕ
columns a b line = take (b + 1 - a) (drop (a - 1) line)

-- Bytes that are printed: each is a blank or a character behind it, and no line feed.
abbrev pub Printed : List ℕ → Type 0
Printed [] = Unit {0}
Printed (c ∷ cs) = (32 ≤ c) × (c ≤ 126) × Printed cs

-- "lines of exactly 40 columns and a line feed".
pub record Line (line : List ℕ) : Type 0 where
  pub forty : length (columns 1 40 line) ≡ 40
  pub printed : Printed (columns 1 40 line)
  pub ends : line ≡ columns 1 40 line ++ line_feed ∷ []

-- A text without the blanks before it.
abbrev pub unblanked : List ℕ → List ℕ
unblanked [] = []
unblanked (c ∷ cs) = cond (eqb c blank) (unblanked cs) (c ∷ cs)

-- The number n stands in the columns a to b, right-aligned: blanks, then its digits, no 0 in front, and "reading a column's digits gives the number
-- back".
abbrev pub Shows : ℕ → ℕ → ℕ → List ℕ → Type 0
Shows a b n line = InDecimal n (unblanked (columns a b line))

-- A pump's line, and the last.
pub record PumpLine (pump pulses charge : ℕ) (line : List ℕ) : Type 0 where
  pub is_line : Line line
  pub number : Shows 1 2 pump line
  pub gives : Shows 3 16 pulses line
  pub costs : Shows 17 32 charge line
  pub blanks : columns 33 40 line ≡ replicate 8 blank

pub record LastLine (total : ℕ) (line : List ℕ) : Type 0 where
  pub is_line : Line line
  pub name : columns 1 5 line ≡ characters "TOTAL"
  pub sum : Shows 6 32 total line
  pub blanks : columns 33 40 line ≡ replicate 8 blank

-- A text is a card by its columns: a line for each item, with the pump's number, its pulses and its charge, and the last line with the total.
pub record ByColumns (ns charges : List ℕ) (total : ℕ) (text : List ℕ) : Type 0 where
  pub long : length text ≡ 41 * (length ns + 1)
  pub pumps : (k : ℕ) → k < length ns → PumpLine (k + 1) (get_or ns k 0) (get_or charges k 0) (line_at k text)
  pub last : LastLine total (line_at (length ns) text)

-- The card is such a text, and no other is; and the card of an empty list.
pub record Card : Type 0 where
  pub reads : (ns charges : List ℕ) (total : ℕ) → Fits ns charges total → ByColumns ns charges total (card ns charges total)
  pub only : (ns charges : List ℕ) (total : ℕ) (text : List ℕ) → Fits ns charges total → ByColumns ns charges total text
      → text ≡ card ns charges total
  pub empty : (charges : List ℕ) (total : ℕ) → card [] charges total ≡ last_line total
