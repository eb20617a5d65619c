-- What the operation answers and leaves, as an equation with `carding`.
use Rattle.std.specs.Prelude.{ℕ, List, [], ◌≡◌, length, Result, Ok, Err}
use Rattle.calculus.specs.Verdicts.{Verdict, refused, passed, and_then}
use Rattle.calculus.specs.File.{padded, first_after, second_after}
use Rattle.engine.specs.Lent.{Lent}
use Rattle.ends.specs.declared.Report.{Report}
use Rattle.ends.specs.Results.{Line, line_of, told}
use Rattle.charges.specs.Prices.{Prices}
use Rattle.charges.specs.declared.Charges.{Charges}
use Rattle.pricing.specs.Pricing.{Bill}
use Rattle.pricing.specs.Answered.{no_charges, charges_of, ran}
use Rattle.card.specs.Carding.{Card, carding}
use Rattle.card.specs.Refusals.{refusal}
use Rattle.card.specs.declared.Uncarded.{Uncarded}
use Rattle.card.specs.declared.Carded.{Carded}

-- How a card came out: the report of the run, or why there is no card.
abbrev pub outcome : Result Carded Uncarded → Result Report Uncarded
outcome (Ok c) = Ok c.priced.report
outcome (Err u) = Err u

-- The number and place of a refusal, or the numbers of a result, that an outcome stands for.
abbrev pub spoken : Result Report Uncarded → Verdict Line
spoken (Err u) = refusal u
spoken (Ok x) = passed (told x)

-- The charges of an answer, and how many bytes its card has: none where it is a refusal.
abbrev pub charges_in : Result Carded Uncarded → Charges
charges_in (Ok c) = c.priced.charges
charges_in (Err u) = no_charges

abbrev pub bytes_in : Result Carded Uncarded → ℕ
bytes_in (Ok c) = c.bytes
bytes_in (Err u) = 0

-- The bill of a verdict, and the bytes that stand first in the card's buffer: none after a refusal.
abbrev pub bill_of : Verdict Card → Verdict Bill
bill_of v = and_then v (λ c. passed c.bill)

abbrev pub text_of : Verdict Card → List ℕ
text_of (refused n p) = []
text_of (passed c) = c.text

-- What is lent: what a run is lent, and the card's buffer. What comes back: the answer, and what the three buffers hold then.
pub record CardLent : Type 0 where
  pub run : Lent
  pub card : List ℕ

abbrev pub card_lent : Lent → List ℕ → CardLent
card_lent l card = record { run = l; card = card }

pub record CardReturned : Type 0 where
  pub answer : Result Carded Uncarded
  pub first : List ℕ
  pub second : List ℕ
  pub card : List ℕ

abbrev pub card_returned : Result Carded Uncarded → List ℕ → List ℕ → List ℕ → CardReturned
card_returned x first second card = record { answer = x; first = first; second = second; card = card }

-- "Read each public operation as an equation: result and .. buffers, for all inputs, follow from the definitions". "The bytes past the card are
-- zero."
pub record Answered (v : Verdict Card) (l : CardLent) (g : CardReturned) : Type 0 where
  pub answer_is : spoken (outcome g.answer) ≡ and_then (ran (bill_of v)) (λ r. passed (line_of r))
  pub charges_are : charges_in g.answer ≡ charges_of (bill_of v)
  pub bytes_are : bytes_in g.answer ≡ length (text_of v)
  pub first_is : g.first ≡ first_after (length l.run.first) (ran (bill_of v))
  pub second_is : g.second ≡ second_after (length l.run.second) (ran (bill_of v))
  pub card_is : g.card ≡ padded (length l.card) (text_of v)

-- The whole operation on what is lent.
abbrev pub carded : Prices → CardLent → Verdict Card
carded prices l =
    let r = l.run in carding prices r.bytes r.limit (length r.first) (length r.second) (length l.card)

abbrev pub Carding : Prices → CardLent → CardReturned → Type 0
Carding prices l g = Answered (carded prices l) l g
