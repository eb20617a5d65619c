-- Numbers in decimal.
use Rattle.std.specs.Prelude.{ℕ, zero, suc, ◌+◌, ◌-◌, ◌*◌, ◌/◌, ◌%◌, ◌≤◌, ◌<◌, true, false, List, [], ◌∷◌, ◌++◌, ◌⊎◌, ◌≡◌, ltb, get_or}

-- The digit of a number below 10.
abbrev pub digit : ℕ → ℕ
digit d = 48 + d

-- The digits of n, the greatest first, if there are no more than k + 1: one, or those of its tenth and its last one.
abbrev pub spelt : ℕ → ℕ → List ℕ
spelt zero n = digit (n % 10) ∷ []
spelt (suc k) n = elim (ltb n 10) [ true ↦ digit n ∷ [] | false ↦ spelt k (n / 10) ++ digit (n % 10) ∷ [] ]

-- A number in decimal: n has no more than n + 1 digits.
unfoldable pub decimal : ℕ → List ℕ
decimal n = spelt n n

-- The same said without computing: `decimal n` is the one text that is n `InDecimal` (decimal_iff, proofs/Decimals.antt). Each is one of the ten
-- digits:
abbrev pub Digits : List ℕ → Type 0
Digits [] = Unit {0}
Digits (d ∷ ds) = (48 ≤ d) × (d ≤ 57) × Digits ds

-- the number that they stand for, where v stands before them:
abbrev pub value_after : ℕ → List ℕ → ℕ
value_after v [] = v
value_after v (d ∷ ds) = value_after (10 * v + (d - 48)) ds

-- and no 0 stands in front, but for the number 0.
pub record InDecimal (n : ℕ) (ds : List ℕ) : Type 0 where
  pub digits : Digits ds
  pub value : value_after 0 ds ≡ n
  pub first : (ds ≡ 48 ∷ []) ⊎ (48 < get_or ds 0 0)
