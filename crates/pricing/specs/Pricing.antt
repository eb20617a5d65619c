-- Document 02, U2: pricing, "an operation of its own: a run whose result gains, at a value, each charge and the total".
use Rattle.std.specs.Prelude.{ℕ, List, leb, length, replicate}
use Rattle.calculus.specs.Trees.{N, list, ml}
use Rattle.calculus.specs.Verdicts.{Verdict, passed, and_then, unless}
use Rattle.calculus.specs.Inference.{same_type}
use Rattle.calculus.specs.Run.{End, valued, spent, error, full, Result, capacity}
use Rattle.calculus.specs.File.{Recipe, check, run_in}
use Rattle.charges.specs.Prices.{Prices, charges, total, all_within}
use Rattle.pricing.specs.Items.{items_in}

-- A run's result with each charge and the total.
pub record Bill : Type 0 where
  pub run : Result
  pub charges : List ℕ
  pub total : ℕ

-- "at a value, each charge and the total": of its items.
abbrev pub charged_for : Prices → Result → List ℕ → Bill
charged_for prices r ns = record { run = r; charges = charges prices ns; total = total (charges prices ns) }

-- "A run that ends otherwise than in a value has no charge."
abbrev pub uncharged : Result → Bill
uncharged r = record { run = r; charges = replicate 9 0; total = 0 }

-- What a run's end costs: "10, more than nine items, at the value".
abbrev pub bill : Prices → Result → End → Verdict Bill
bill prices r valued = unless (leb (length (items_in r.left)) 9) 10 0 (passed (charged_for prices r (items_in r.left)))
bill prices r spent = passed (uncharged r)
bill prices r error = passed (uncharged r)
bill prices r full = passed (uncharged r)

-- Of an accepted recipe: "9, declared type not {N}, between 7 and 8".
unfoldable pub billed : Prices → ℕ → ℕ → Recipe → Verdict Bill
billed prices limit cap x = unless (same_type ml x.0 (list N)) 9 0 (and_then (run_in limit cap x) (λ r. bill prices r r.end))

-- The whole operation, by the buffers' lengths: "11, a price over 1,000,000, before the file is read".
unfoldable pub pricing : Prices → List ℕ → ℕ → ℕ → ℕ → Verdict Bill
pricing prices bytes limit first second =
    unless (all_within prices) 11 0 (and_then (check bytes) (λ x. billed prices limit (capacity first second) x))
