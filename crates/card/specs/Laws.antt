-- Laws of the card, the statements alone; proofs/Laws.antt proves them. `layout/specs/Laws.antt` says how a card with numbers that fit is to be read.
use Rattle.std.specs.Prelude.{ℕ, ◌+◌, ◌*◌, ◌≤◌, ◌<◌, List, [], ◌≡◌, length}
use Rattle.calculus.specs.Verdicts.{Verdict, refused, passed}
use Rattle.calculus.specs.Run.{valued, Final, capacity}
use Rattle.charges.specs.Prices.{Prices}
use Rattle.pricing.specs.Laws.{ValueOf}
use Rattle.pricing.specs.Pricing.{Bill, pricing}
use Rattle.layout.specs.Layout.{card}
use Rattle.layout.specs.Laws.{Fits}
use Rattle.card.specs.Carding.{Card, carding}

-- 41 × (items + 1) bytes.
abbrev pub card_bytes : List ℕ → ℕ
card_bytes ns = 41 * (length ns + 1)

-- What comes of a bill in a card's buffer of so many bytes. "An end without a charge writes no card", and is no 14 in a buffer of any length. A value
-- is a list of at most nine numbers, which fit their columns: the card of them, or "14, buffer shorter than the card".
pub data Lays (b : Bill) (room : ℕ) : Verdict Card → Type 0 where
  no_card : ¬ (b.run.end ≡ valued) → Lays b room (passed (record { bill = b; text = [] }))
  card_of_lem : (ns : List ℕ) → ValueOf b.run ns → Fits ns b.charges b.total → card_bytes ns ≤ room
      → Lays b room (passed (record { bill = b; text = card ns b.charges b.total }))
  refused_14 : (ns : List ℕ) → ValueOf b.run ns → Fits ns b.charges b.total → room < card_bytes ns → Lays b room (refused 14 0)

-- 14 comes "after 10", and after every refusal of pricing; what pricing says is kept; and the card is laid out.
pub record Exactly : Type 0 where
  pub refuses : (prices : Prices) (bytes : List ℕ) (limit first second room n p : ℕ) → pricing prices bytes limit first second ≡ refused n p
      → carding prices bytes limit first second room ≡ refused n p
  pub lays : (prices : Prices) (bytes : List ℕ) (limit first second room : ℕ) (b : Bill) → pricing prices bytes limit first second ≡ passed b
      → Lays b room (carding prices bytes limit first second room)

-- "at most 410" bytes.
pub record FewBytes : Type 0 where
  pub most : (prices : Prices) (bytes : List ℕ) (limit first second room : ℕ) (c : Card) → carding prices bytes limit first second room ≡ passed c
      → length c.text ≤ 410

-- Demand 3's growth: under larger limits, and with a card's buffer no shorter, a value and an error have the same card; and 14 stays 14 in a buffer
-- no longer.
pub record Grows : Type 0 where
  pub same : (prices : Prices) (bytes : List ℕ) (limit first second room limit' first' second' room' : ℕ)
      → limit ≤ limit'
      → capacity first second ≤ capacity first' second'
      → room ≤ room'
      → (c : Card)
      → carding prices bytes limit first second room ≡ passed c
      → Final c.bill.run.end
      → carding prices bytes limit' first' second' room' ≡ passed c
  pub short : (prices : Prices) (bytes : List ℕ) (limit first second room limit' first' second' room' : ℕ)
      → limit ≤ limit'
      → capacity first second ≤ capacity first' second'
      → room' ≤ room
      → carding prices bytes limit first second room ≡ refused 14 0
      → carding prices bytes limit' first' second' room' ≡ refused 14 0
