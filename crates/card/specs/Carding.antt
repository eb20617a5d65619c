-- Document 02, U7: the batch card, "its own operation: a priced run with one buffer more".
use Rattle.std.specs.Prelude.{ℕ, List, [], leb, length}
use Rattle.calculus.specs.Verdicts.{Verdict, passed, and_then, unless}
use Rattle.calculus.specs.Run.{End, valued, spent, error, full}
use Rattle.charges.specs.Prices.{Prices}
use Rattle.pricing.specs.Items.{items_in}
use Rattle.pricing.specs.Pricing.{Bill, pricing}
use Rattle.layout.specs.Layout.{card}

-- A bill with its card.
pub record Card : Type 0 where
  pub bill : Bill
  pub text : List ℕ

-- "Lay out a priced {N} value": its items, each charge and the total. "An end without a charge writes no card."
abbrev pub card_at : Bill → End → List ℕ
card_at b valued = card (items_in b.run.left) b.charges b.total
card_at b spent = []
card_at b error = []
card_at b full = []

-- The card of a bill.
abbrev pub card_of : Bill → List ℕ
card_of b = card_at b b.run.end

-- In a buffer of so many bytes: "14, buffer shorter than the card".
abbrev pub laid_in : ℕ → Bill → Verdict Card
laid_in room b = unless (leb (length (card_of b)) room) 14 0 (passed (record { bill = b; text = card_of b }))

-- The whole operation, by the buffers' lengths: 14 "after 10", and after all other refusals.
unfoldable pub carding : Prices → List ℕ → ℕ → ℕ → ℕ → ℕ → Verdict Card
carding prices bytes limit first second room = and_then (pricing prices bytes limit first second) (laid_in room)
