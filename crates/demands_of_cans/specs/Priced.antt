-- Document 02, U2: the demands of pricing, of one call, or of one pair of calls: what the contracts of `price_once` and `price_twice` in
-- src/lib.rt say.
use Rattle.std.specs.Prelude.{ℕ, ◌≤◌, ◌<◌, List, ◌↔◌, ◌≡◌, length, take, replicate, Result, Ok, Err}
use Rattle.calculus.specs.Trees.{Ty, N, list, ml, Term}
use Rattle.calculus.specs.Words.{size}
use Rattle.calculus.specs.Accepted.{Accepted}
use Rattle.calculus.specs.Run.{valued, Final}
use Rattle.calculus.specs.Endings.{Ending}
use Rattle.nodes.specs.declared.refusals.Refusal.TheVariants.{Capacity}
use Rattle.ends.specs.declared.Report.{Report}
use Rattle.ends.specs.Results.{end_of, told}
use Rattle.engine.specs.Lent.{Lent, room}
use Rattle.engine.specs.Lent as engine
use Rattle.charges.specs.Prices.{Prices}
use Rattle.charges.specs.Charged.{charged}
use Rattle.charges.specs.Laws.{Within, Overpriced}
use Rattle.pricing.specs.Refusals.{number_of, place_of}
use Rattle.pricing.specs.Laws.{Way, overpriced, unaccepted, of_another_type, too_large, run_of, ValueOf}
use Rattle.pricing.specs.Answered as pricing
use Rattle.pricing.specs.Answered.{no_charges, charges_in, Returned}
use Rattle.pricing.specs.declared.Unpriced.{Unpriced}
use Rattle.pricing.specs.declared.Unpriced.TheVariants as unpriced
use Rattle.demands.specs.Demanded.{Reduces}

-- How a pricing came out.
abbrev pub outcome : Returned → Result Report Unpriced
outcome g = pricing.outcome g.answer

-- Demand 1: "Demand 1 counts the refusals and ends that requests add": one of the eleven refusals, with no charge and both buffers all zero, or one
-- of the four ends.
pub data Finishes (l : Lent) (g : Returned) : Type 0 where
  refuses : (u : Unpriced) → outcome g ≡ Err u → 1 ≤ number_of u → number_of u ≤ 11 → charges_in g.answer ≡ no_charges
      → g.first ≡ replicate (length l.first) 0 → g.second ≡ replicate (length l.second) 0 → Finishes l g
  ends : (x : Report) → outcome g ≡ Ok x → Finishes l g

-- Refused with this number and place.
pub record RefusedBy (g : Returned) (n p : ℕ) : Type 0 where
  pub refusal : Unpriced
  pub refused : outcome g ≡ Err refusal
  pub number : number_of refusal ≡ n
  pub place : place_of refusal ≡ p

-- Demand 2: end, code, steps, counts and words are the run's own, which are "exactly those of the published reductions".
pub record OwnRun (l : Lent) (g : Returned) (e : Term ml) : Type 0 where
  pub report : Report
  pub ended : outcome g ≡ Ok report
  pub reduces : Reduces l (engine.returned (Ok report) g.first g.second) e

-- What the run of a recipe of type {N} costs, by its one ending: "A run that ends otherwise than in a value has no charge." A value is a list of
-- numbers: "10, more than nine items", or "each charge and the total".
pub data Costs (prices : Prices) (l : Lent) (g : Returned) (e : Term ml) : Type 0 where
  nothing : (own : OwnRun l g e) → ¬ (own.reduces.by_rules.result.end ≡ valued) → charges_in g.answer ≡ no_charges → Costs prices l g e
  too_many : (x : Ending l.limit (room l) e) (ns : List ℕ) → ValueOf x.result ns → 9 < length ns → outcome g ≡ Err unpriced.Items
      → Costs prices l g e
  charges : (own : OwnRun l g e) (ns : List ℕ) → ValueOf own.reduces.by_rules.result ns → length ns ≤ 9
      → charges_in g.answer ≡ charged prices ns → Costs prices l g e

-- The answer in each way. There is no other way, and each has an answer of its own.
abbrev pub Answers : (prices : Prices) (l : Lent) → Way prices l.bytes (room l) → Returned → Type 0
Answers prices l (overpriced h) g = outcome g ≡ Err unpriced.Prices
Answers prices l (unaccepted w n p q) g = RefusedBy g n p
Answers prices l (of_another_type w τ e a h) g = outcome g ≡ Err unpriced.Declared
Answers prices l (too_large w e a h) g = outcome g ≡ Err (unpriced.Recipe Capacity)
Answers prices l (run_of w e a h) g = Costs prices l g e

-- A file of a recipe of another type than {N}; and of one whose run ends in a value of more than nine items.
abbrev pub OtherType : Lent → Type 0
OtherType l = (τ : Ty) × (e : Term ml) × Accepted l.bytes τ e × ¬ (τ ≡ list N)

abbrev pub TooMany : Lent → Type 0
TooMany l =
    (e : Term ml) × Accepted l.bytes (list N) e × (size e ≤ room l)
    × (x : Ending l.limit (room l) e) × (ns : List ℕ) × ValueOf x.result ns × (9 < length ns)

-- Demands 1 and 2 of one pricing: it finishes, as the way says that its prices and its file go, and by 11, 9 and 10 exactly where they are due.
pub record PricedOnce (prices : Prices) (l : Lent) (g : Returned) : Type 0 where
  pub finishes : Finishes l g
  pub way : Way prices l.bytes (room l)
  pub answers : (w : Way prices l.bytes (room l)) → Answers prices l w g
  pub eleven : (outcome g ≡ Err unpriced.Prices) ↔ Overpriced prices
  pub nine : (outcome g ≡ Err unpriced.Declared) ↔ (Within prices × OtherType l)
  pub ten : (outcome g ≡ Err unpriced.Items) ↔ (Within prices × TooMany l)

-- "the second gives the same": as the first, which reports x, and the same charges.
pub record SamePrice (x : Report) (g h : Returned) : Type 0 where
  pub report : Report
  pub ended : outcome h ≡ Ok report
  pub numbers : told report ≡ told x
  pub charges : charges_in h.answer ≡ charges_in g.answer
  pub words : take x.left h.first ≡ take x.left g.first

-- Demand 3's growth, for pricing: the same file at the same prices, the second lent at least as many steps and at least the capacity of the first.
-- More than nine items are more than nine then, too. Each meets demands 1 and 2, so that no program meets this by answering without looking.
pub record PricedTwice (prices : Prices) (l : Lent) (g : Returned) (m : Lent) (h : Returned) : Type 0 where
  pub earlier : PricedOnce prices l g
  pub later : PricedOnce prices m h
  pub grows : (x : Report) → l.limit ≤ m.limit → room l ≤ room m → outcome g ≡ Ok x → Final (end_of x.end) → SamePrice x g h
  pub stays : l.limit ≤ m.limit → room l ≤ room m → outcome g ≡ Err unpriced.Items → outcome h ≡ Err unpriced.Items
