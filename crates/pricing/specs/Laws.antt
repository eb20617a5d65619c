-- Laws of pricing, the statements alone; proofs/Laws.antt proves them.
use Rattle.std.specs.Prelude.{ℕ, ◌≤◌, ◌<◌, List, ◌≡◌, length}
use Rattle.calculus.specs.Trees.{Ty, N, list, ml, Term}
use Rattle.calculus.specs.Words.{words, size}
use Rattle.calculus.specs.Verdicts.{Verdict, refused, passed}
use Rattle.calculus.specs.Run.{valued, Final, uncounted, Result, run, capacity}
use Rattle.calculus.specs.File.{check, operate}
use Rattle.calculus.specs.Accepted.{Accepted}
use Rattle.charges.specs.Prices.{Prices}
use Rattle.charges.specs.Laws.{Within, Overpriced}
use Rattle.pricing.specs.Items.{list_of}
use Rattle.pricing.specs.Pricing.{Bill, charged_for, uncharged, pricing}

-- What comes of prices and a file in a capacity: "11, a price over 1,000,000, before the file is read"; 1 to 7, where the check gives them; "9,
-- declared type not {N}, between 7 and 8"; 8, term words over capacity; or the run of a recipe of type {N}.
pub data Way (prices : Prices) (bytes : List ℕ) (cap : ℕ) : Type 0 where
  overpriced : Overpriced prices → Way prices bytes cap
  unaccepted : Within prices → (n p : ℕ) → check bytes ≡ refused n p → Way prices bytes cap
  of_another_type : Within prices → (τ : Ty) (e : Term ml) → Accepted bytes τ e → ¬ (τ ≡ list N) → Way prices bytes cap
  too_large : Within prices → (e : Term ml) → Accepted bytes (list N) e → cap < size e → Way prices bytes cap
  run_of : Within prices → (e : Term ml) → Accepted bytes (list N) e → size e ≤ cap → Way prices bytes cap

-- A run's result is a value, the list of these numbers.
pub record ValueOf (r : Result) (ns : List ℕ) : Type 0 where
  pub ends : r.end ≡ valued
  pub is : r.left ≡ words (list_of ns)

-- What a run's result costs: nothing unless it is a value; "10, more than nine items, at the value"; or "each charge and the total".
pub data Costs (prices : Prices) (r : Result) : Verdict Bill → Type 0 where
  nothing : ¬ (r.end ≡ valued) → Costs prices r (passed (uncharged r))
  refused_10 : (ns : List ℕ) → ValueOf r ns → 9 < length ns → Costs prices r (refused 10 0)
  charges_of_lem : (ns : List ℕ) → ValueOf r ns → length ns ≤ 9 → Costs prices r (passed (charged_for prices r ns))

-- What pricing gives in each way.
abbrev pub Gives : {prices : Prices} {bytes : List ℕ} {cap : ℕ} → ℕ → Way prices bytes cap → Verdict Bill → Type 0
Gives limit (overpriced h) v = v ≡ refused 11 0
Gives limit (unaccepted w n p q) v = v ≡ refused n p
Gives limit (of_another_type w τ e a h) v = v ≡ refused 9 0
Gives limit (too_large w e a h) v = v ≡ refused 8 0
Gives {prices} {bytes} {cap} limit (run_of w e a h) v = Costs prices (run limit cap uncounted e) v

-- There is a way for all prices, files and capacities, and pricing gives what it says.
pub record Exactly : Type 0 where
  pub way : (prices : Prices) (bytes : List ℕ) (cap : ℕ) → Way prices bytes cap
  pub gives : (prices : Prices) (bytes : List ℕ) (limit first second : ℕ) (w : Way prices bytes (capacity first second))
      → Gives limit w (pricing prices bytes limit first second)

-- "a run whose result gains ..": what a bill tells of the run is the run's own.
pub record OwnRun : Type 0 where
  pub own : (prices : Prices) (bytes : List ℕ) (limit first second : ℕ) (b : Bill) → pricing prices bytes limit first second ≡ passed b
      → operate bytes limit first second ≡ passed b.run

-- Demand 3's growth: under larger limits a value and an error have the same bill, and more than nine items are more than nine.
pub record Grows : Type 0 where
  pub bill : (prices : Prices) (bytes : List ℕ) (limit first second limit' first' second' : ℕ)
      → limit ≤ limit'
      → capacity first second ≤ capacity first' second'
      → (b : Bill)
      → pricing prices bytes limit first second ≡ passed b
      → Final b.run.end
      → pricing prices bytes limit' first' second' ≡ passed b
  pub items : (prices : Prices) (bytes : List ℕ) (limit first second limit' first' second' : ℕ)
      → limit ≤ limit'
      → capacity first second ≤ capacity first' second'
      → pricing prices bytes limit first second ≡ refused 10 0
      → pricing prices bytes limit' first' second' ≡ refused 10 0
