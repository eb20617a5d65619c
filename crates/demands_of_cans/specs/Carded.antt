-- Document 02, U7: the demands of the card, of one call, or of one pair of calls: what the contracts of `card_once` and `card_twice` in src/lib.rt
-- say.
use Rattle.std.specs.Prelude.{ℕ, ◌≤◌, ◌<◌, List, ◌⊎◌, ◌↔◌, ◌≡◌, length, take, replicate, Result, Ok, Err}
use Rattle.calculus.specs.Trees.{N, list, ml, Term}
use Rattle.calculus.specs.Words.{words, size}
use Rattle.calculus.specs.Accepted.{Accepted}
use Rattle.calculus.specs.Run.{valued, Final}
use Rattle.calculus.specs.Endings.{Ending}
use Rattle.calculus.specs.File.{padded}
use Rattle.ends.specs.declared.Report.{Report}
use Rattle.ends.specs.Results.{end_of, told}
use Rattle.engine.specs.Lent.{room}
use Rattle.charges.specs.Prices.{Prices}
use Rattle.charges.specs.Laws.{Within}
use Rattle.pricing.specs.Items.{list_of}
use Rattle.pricing.specs.Laws.{ValueOf}
use Rattle.pricing.specs.Answered.{no_charges, returned}
use Rattle.pricing.specs.declared.Unpriced.TheVariants.{Items}
use Rattle.pricing.specs.declared.Unpriced.{Unpriced}
use Rattle.pricing.specs.declared.Priced.{Priced}
use Rattle.layout.specs.Layout.{card}
use Rattle.layout.specs.Laws.{ByColumns}
use Rattle.card.specs.Laws.{card_bytes}
use Rattle.card.specs.Refusals.{number_of}
use Rattle.card.specs.Answered as card_answered
use Rattle.card.specs.Answered.{charges_in, bytes_in, CardLent, CardReturned}
use Rattle.card.specs.declared.Uncarded.{Uncarded}
use Rattle.card.specs.declared.Uncarded.TheVariants.{Price, Short}
use Rattle.card.specs.declared.Carded.{Carded}
use Rattle.demands_of_cans.specs.Priced.{PricedOnce}

-- How a card came out.
abbrev pub outcome : CardReturned → Result Report Uncarded
outcome g = card_answered.outcome g.answer

-- Demand 1: "Demand 1 counts the refusals and ends that requests add": one of the eleven refusals of pricing or 14, with no charge, no card and all
-- three buffers all zero, or one of the four ends.
pub data Finishes (l : CardLent) (g : CardReturned) : Type 0 where
  refuses : (u : Uncarded) → outcome g ≡ Err u → 1 ≤ number_of u → (number_of u ≤ 11) ⊎ (number_of u ≡ 14) → charges_in g.answer ≡ no_charges
      → bytes_in g.answer ≡ 0 → g.first ≡ replicate (length l.run.first) 0 → g.second ≡ replicate (length l.run.second) 0
      → g.card ≡ replicate (length l.card) 0 → Finishes l g
  ends : (x : Report) → outcome g ≡ Ok x → Finishes l g

-- "a priced run with one buffer more": how a pricing is answered, with a card of so many bytes where it is not refused.
abbrev pub as_card : Result Priced Unpriced → ℕ → Result Carded Uncarded
as_card (Err u) n = Err (Price u)
as_card (Ok p) n = Ok (record { priced = p; bytes = n })

-- A file of a recipe of type {N} whose run ends in a value of at most nine items, and a buffer shorter than their card.
abbrev pub TooShort : CardLent → Type 0
TooShort l =
    (e : Term ml) × Accepted l.run.bytes (list N) e × (size e ≤ room l.run)
    × (x : Ending l.run.limit (room l.run) e) × (ns : List ℕ) × ValueOf x.result ns × (length ns ≤ 9) × (length l.card < card_bytes ns)

-- What stands in the card's buffer at an end: "An end without a charge writes no card"; at a value the card of the items that are left, also as its
-- columns are read. "The bytes past the card are zero."
pub data Written (l : CardLent) (g : CardReturned) (x : Report) : Type 0 where
  nothing : ¬ (end_of x.end ≡ valued) → bytes_in g.answer ≡ 0 → g.card ≡ replicate (length l.card) 0 → Written l g x
  card_of_lem : (ns : List ℕ) → end_of x.end ≡ valued → take x.left g.first ≡ words (list_of ns) → bytes_in g.answer ≡ card_bytes ns
      → g.card ≡ padded (length l.card) (card ns (charges_in g.answer).charge (charges_in g.answer).total)
      → ByColumns ns (charges_in g.answer).charge (charges_in g.answer).total (take (bytes_in g.answer) g.card) → Written l g x

-- Demands 1 and 2 of one card: it finishes; by 14 exactly where it is due; else as pricing does; and its buffer holds the card.
pub record CardedOnce (prices : Prices) (l : CardLent) (g : CardReturned) : Type 0 where
  pub finishes : Finishes l g
  pub fourteen : (outcome g ≡ Err Short) ↔ (Within prices × TooShort l)
  pub prices_as : (p : Result Priced Unpriced) (n : ℕ) → g.answer ≡ as_card p n → PricedOnce prices l.run (returned p g.first g.second)
  pub written : (x : Report) → outcome g ≡ Ok x → Written l g x

-- "the second gives the same": as the first, which reports x, the same charges and the same card.
pub record SameCard (x : Report) (g h : CardReturned) : Type 0 where
  pub report : Report
  pub ended : outcome h ≡ Ok report
  pub numbers : told report ≡ told x
  pub charges : charges_in h.answer ≡ charges_in g.answer
  pub bytes : bytes_in h.answer ≡ bytes_in g.answer
  pub words : take x.left h.first ≡ take x.left g.first
  pub text : take (bytes_in g.answer) h.card ≡ take (bytes_in g.answer) g.card

-- Demand 3's growth, for the card: the same file at the same prices, the second lent at least as many steps, at least the capacity and at least the
-- card's buffer of the first. More than nine items are more than nine then, too; and a buffer that is too short is, where the second's is no longer.
-- Each meets demands 1 and 2, so that no program meets this by answering without looking.
pub record CardedTwice (prices : Prices) (l : CardLent) (g : CardReturned) (m : CardLent) (h : CardReturned) : Type 0 where
  pub earlier : CardedOnce prices l g
  pub later : CardedOnce prices m h
  pub grows : (x : Report) → l.run.limit ≤ m.run.limit → room l.run ≤ room m.run → length l.card ≤ length m.card
      → outcome g ≡ Ok x → Final (end_of x.end) → SameCard x g h
  pub stays : l.run.limit ≤ m.run.limit → room l.run ≤ room m.run → outcome g ≡ Err (Price Items) → outcome h ≡ Err (Price Items)
  pub still_short : l.run.limit ≤ m.run.limit → room l.run ≤ room m.run → length m.card ≤ length l.card
      → outcome g ≡ Err Short → outcome h ≡ Err Short
