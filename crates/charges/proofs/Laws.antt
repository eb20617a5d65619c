-- The laws of prices and charges. Assumes nothing.
use Prim.Native.Nat.{ℕ, zero, suc, ◌*◌, ◌≤◌, ◌<◌}
use mathlib.Core.Bool.{Bool, true, false, ◌&&◌, false≢true}
use mathlib.Core.List.{List, [], ◌∷◌}
use mathlib.Core.Path.{◌≡◌, refl, sym}
use native.Mathlib.Nat.{mul-le-mul_right, mul-le-mul_left, le_trans}
use native.Mathlib.Omega.{arith}
use lib.Dec.{leb}
use lib.ListN.{length, get_or}
use Rattle.std.proofs.lemmas.List.Sums.{sum_by-cons}
use borrow.Author.Tests.{le-leb, leb-true, leb-false}
use Rattle.charges.specs.Prices.{Prices, band, charge, charges, total, most_cents, within, all_within}
use Rattle.charges.specs.Laws.{RoundedUp, ForEach, Within, Overpriced, Tested, Widths}
use Rattle.charges.proofs.Pricing.{charges_length}

pub rounded_up : RoundedUp
rounded_up = record { enough = λ p q. omega arith; least = λ p q c h. omega (arith, h) }

without : (prices : Prices) (ns : List ℕ) (pump : ℕ) → length ns ≤ pump → get_or (charges prices ns) pump 0 ≡ 0
unfolding charges
without [] ns pump h = refl
without (row ∷ rows) [] zero h = refl
without (row ∷ rows) [] (suc pump) h = without rows [] pump (omega arith)
without (row ∷ rows) (n ∷ ns) zero h = absurd (omega arith)
without (row ∷ rows) (n ∷ ns) (suc pump) h = without rows ns pump (omega arith)

pub for_each : ForEach
for_each = record { each = charges_length; without = without }

halves : (a b : Bool) → a && b ≡ true → (a ≡ true) × (b ≡ true)
halves true b h = (refl, h)
halves false b h = absurd (false≢true h)

-- The test of a row and of all rows, one way and the other.
row_yes : (row : List ℕ) → within row ≡ true → (band : ℕ) → get_or row band 0 ≤ most_cents
unfolding within
row_yes [] h band = omega arith
row_yes (cents ∷ more) h zero = leb-true cents most_cents (halves (leb cents most_cents) (within more) h).0
row_yes (cents ∷ more) h (suc band) = row_yes more (halves (leb cents most_cents) (within more) h).1 band

row_all : (row : List ℕ) → ((band : ℕ) → get_or row band 0 ≤ most_cents) → within row ≡ true
unfolding within
row_all [] h = refl
row_all (cents ∷ more) h = rw (le-leb cents most_cents (h 0), row_all more (λ b. h (suc b)))

all_yes : (prices : Prices) → all_within prices ≡ true → Within prices
unfolding all_within
all_yes [] h pump band = omega arith
all_yes (row ∷ rows) h zero band = row_yes row (halves (within row) (all_within rows) h).0 band
all_yes (row ∷ rows) h (suc pump) band = all_yes rows (halves (within row) (all_within rows) h).1 pump band

all_all : (prices : Prices) → Within prices → all_within prices ≡ true
unfolding all_within
all_all [] h = refl
all_all (row ∷ rows) h = rw (row_all row (h 0), all_all rows (λ p. h (suc p)))

-- The first price that is over, where the test fails.
row_over : (row : List ℕ) → within row ≡ false → (band : ℕ) × (most_cents < get_or row band 0)
unfolding within
row_over [] h = absurd (false≢true (sym h))
row_over (cents ∷ more) h = by (leb cents most_cents) refl h (λ q. row_over more q)
  where
    by : (b : Bool) → leb cents most_cents ≡ b → b && within more ≡ false → (within more ≡ false → (band : ℕ) × (most_cents < get_or more band 0))
        → (band : ℕ) × (most_cents < get_or (cents ∷ more) band 0)
    by true q e rest = let r = rest e in (suc r.0, r.1)
    by false q e rest = (0, leb-false cents most_cents q)

all_over : (prices : Prices) → all_within prices ≡ false → Overpriced prices
unfolding all_within
all_over [] h = absurd (false≢true (sym h))
all_over (row ∷ rows) h = by (within row) refl h (λ q. all_over rows q)
  where
    by : (b : Bool) → within row ≡ b → b && all_within rows ≡ false → (all_within rows ≡ false → Overpriced rows) → Overpriced (row ∷ rows)
    by true q e rest = let r = rest e in record { pump = suc r.pump; band = r.band; over = r.over }
    by false q e rest = let r = row_over row q in record { pump = 0; band = r.0; over = r.1 }

not_within : (prices : Prices) (b : Bool) → all_within prices ≡ b → Overpriced prices → all_within prices ≡ false
not_within prices true q o = absurd (omega (arith, all_yes prices q o.pump o.band, o.over))
not_within prices false q o = q

pub tested : Tested
tested =
    record {
      all_within_lem = λ prices. (all_yes prices, all_all prices);
      one_over = λ prices. (all_over prices, not_within prices (all_within prices) refl);
    }

-- The widest charge.
charge_fits : (p q : ℕ) → p ≤ 4294967295 → q ≤ most_cents → charge p q ≤ 4294967295000
charge_fits p q h k = omega (arith, le_trans (mul-le-mul_right q h) (mul-le-mul_left 4294967295 k))

charges_fit : (prices : Prices) (ns : List ℕ) (pump : ℕ) → Within prices → ((i : ℕ) → get_or ns i 0 ≤ 4294967295)
    → get_or (charges prices ns) pump 0 ≤ 4294967295000
unfolding charges
charges_fit [] ns pump w h = omega arith
charges_fit (row ∷ rows) [] zero w h = omega arith
charges_fit (row ∷ rows) [] (suc pump) w h = charges_fit rows [] pump (λ p. w (suc p)) h
charges_fit (row ∷ rows) (n ∷ ns) zero w h = charge_fits n (get_or row (band n) 0) (h 0) (w 0 (band n))
charges_fit (row ∷ rows) (n ∷ ns) (suc pump) w h = charges_fit rows ns pump (λ p. w (suc p)) (λ i. h (suc i))

total_fits : (cs : List ℕ) → ((i : ℕ) → get_or cs i 0 ≤ 4294967295000) → total cs ≤ length cs * 4294967295000
unfolding total
total_fits [] h = omega arith
total_fits (c ∷ cs) h = omega (arith, h 0, sum_by-cons (λ x. x) c cs, total_fits cs (λ i. h (suc i)))

-- Of as many items, and no charge behind them.
items_fit : (prices : Prices) (ns : List ℕ) → Within prices → ((i : ℕ) → get_or ns i 0 ≤ 4294967295)
    → total (charges prices ns) ≤ length ns * 4294967295000
unfolding charges total
items_fit [] ns w h = omega arith
items_fit (row ∷ rows) [] w h =
    omega (arith, sum_by-cons (λ x. x) 0 (charges rows []), items_fit rows [] (λ p. w (suc p)) h)
items_fit (row ∷ rows) (n ∷ ns) w h =
    omega (
      arith,
      sum_by-cons (λ x. x) (charge n (get_or row (band n) 0)) (charges rows ns),
      charge_fits n (get_or row (band n) 0) (h 0) (w 0 (band n)),
      items_fit rows ns (λ p. w (suc p)) (λ i. h (suc i)),
    )

pub widths : Widths
widths =
    record {
      charges_fit = charges_fit;
      total_fits = λ prices ns n w h.
          omega (arith, n, charges_length prices ns, total_fits (charges prices ns) (λ i. charges_fit prices ns i w h));
      items_fit = λ prices ns n w h. omega (arith, n, items_fit prices ns w h);
    }
