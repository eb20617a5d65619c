-- Document 02, U2, "Price of a can": the shop's prices, each charge, and the total.
use Rattle.std.specs.Prelude.{ℕ, ◌+◌, ◌*◌, ◌/◌, Bool, cond, List, [], ◌∷◌, ltb, leb, get_or, sum}
use Rattle.std.specs.List.{list_all}

-- "The shop's price table has nine rows of three bands, in cents per 1,000 pulses": a row for each pump.
abbrev pub Prices : Type 0
Prices = List (List ℕ)

-- The price of a pump in a band, both counted from 0.
abbrev pub price : Prices → ℕ → ℕ → ℕ
price prices pump band = get_or (get_or prices pump []) band 0

-- "Band 0 is under 10,000 pulses, band 1 under 100,000, band 2 the rest."
abbrev pub band : ℕ → ℕ
band pulses = cond (ltb pulses 10000) 0 (cond (ltb pulses 100000) 1 2)

-- "A pump's charge is pulses × price ÷ 1,000, rounded up to a cent."
abbrev pub charge : ℕ → ℕ → ℕ
charge pulses cents = (pulses * cents + 999) / 1000

-- "pulses for pumps 1 to 9 in order": the charge of each row's pump, in the one band of its whole count; 0 for a pump without an item.
unfoldable pub charges : Prices → List ℕ → List ℕ
charges [] pulses = []
charges (row ∷ rows) [] = 0 ∷ charges rows []
charges (row ∷ rows) (n ∷ ns) = charge n (get_or row (band n) 0) ∷ charges rows ns

-- "The total is the sum of the charges."
unfoldable pub total : List ℕ → ℕ
total charge = sum charge

-- "11, a price over 1,000,000": no price of a row is, and none of any row, whether its pump has an item or not.
abbrev pub most_cents : ℕ
most_cents = 1000000

unfoldable pub within : List ℕ → Bool
within row = list_all (λ cents. leb cents most_cents) row

unfoldable pub all_within : Prices → Bool
all_within prices = list_all within prices
