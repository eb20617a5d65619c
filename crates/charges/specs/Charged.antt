-- What the code makes of prices and pulses, and the bound that keeps a total within 64 bits.
use Rattle.std.specs.Prelude.{ℕ, ◌≤◌, List, All}
use Rattle.charges.specs.Prices.{Prices, charges, total}
use Rattle.charges.specs.declared.Charges.{Charges}

-- Each charge and the total of a priced can.
abbrev pub charged : Prices → List ℕ → Charges
charged prices pulses = record { charge = charges prices pulses; total = total (charges prices pulses) }

-- No charge of a count and a price of 32 bits is more; nine of them are far from 2^64.
abbrev pub most_charge : ℕ
most_charge = 18446744065119618

abbrev pub Small : List ℕ → Type 0
Small charge = All (λ c. c ≤ most_charge) charge
