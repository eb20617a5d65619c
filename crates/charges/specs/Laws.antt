-- Laws of prices and charges, the statements alone; proofs/Laws.antt proves them.
use Rattle.std.specs.Prelude.{ℕ, ◌*◌, ◌≤◌, ◌<◌, true, false, List, ◌↔◌, ◌≡◌, length, get_or}
use Rattle.charges.specs.Prices.{Prices, price, charge, charges, total, most_cents, all_within}

-- "rounded up to a cent": the least number of cents that is no less than the thousandth part of pulses × price.
pub record RoundedUp : Type 0 where
  pub enough : (pulses cents : ℕ) → pulses * cents ≤ 1000 * charge pulses cents
  pub least : (pulses cents c : ℕ) → pulses * cents ≤ 1000 * c → charge pulses cents ≤ c

-- There is a charge for each pump, and that of a pump without an item is 0.
pub record ForEach : Type 0 where
  pub each : (prices : Prices) (ns : List ℕ) → length (charges prices ns) ≡ length prices
  pub without : (prices : Prices) (ns : List ℕ) (pump : ℕ) → length ns ≤ pump → get_or (charges prices ns) pump 0 ≡ 0

-- No price is over 1,000,000, whatever the pump and the band.
abbrev pub Within : Prices → Type 0
Within prices = (pump band : ℕ) → price prices pump band ≤ most_cents

-- Some price is.
pub record Overpriced (prices : Prices) : Type 0 where
  pub pump : ℕ
  pub band : ℕ
  pub over : most_cents < price prices pump band

pub record Tested : Type 0 where
  pub all_within_lem : (prices : Prices) → (all_within prices ≡ true) ↔ Within prices
  pub one_over : (prices : Prices) → (all_within prices ≡ false) ↔ Overpriced prices

-- The widest numbers, for counts of up to 4,294,967,295 pulses: 13 digits for a charge, 14 for a total of nine prices or of nine items.
pub record Widths : Type 0 where
  pub charges_fit : (prices : Prices) (ns : List ℕ) (pump : ℕ) → Within prices → ((i : ℕ) → get_or ns i 0 ≤ 4294967295)
      → get_or (charges prices ns) pump 0 ≤ 4294967295000
  pub total_fits : (prices : Prices) (ns : List ℕ) → length prices ≤ 9 → Within prices → ((i : ℕ) → get_or ns i 0 ≤ 4294967295)
      → total (charges prices ns) ≤ 38654705655000
  pub items_fit : (prices : Prices) (ns : List ℕ) → length ns ≤ 9 → Within prices → ((i : ℕ) → get_or ns i 0 ≤ 4294967295)
      → total (charges prices ns) ≤ 38654705655000
