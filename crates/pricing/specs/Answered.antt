-- What pricing answers and leaves, as an equation with `pricing`.
use Rattle.std.specs.Prelude.{ℕ, List, ◌≡◌, length, replicate, Result, Ok, Err}
use Rattle.calculus.specs.Verdicts.{Verdict, refused, passed, and_then}
use Rattle.calculus.specs.Run as runs
use Rattle.calculus.specs.File.{first_after, second_after}
use Rattle.engine.specs.Lent.{Lent}
use Rattle.ends.specs.declared.Report.{Report}
use Rattle.ends.specs.Results.{Line, line_of, told}
use Rattle.charges.specs.Prices.{Prices}
use Rattle.charges.specs.declared.Charges.{Charges}
use Rattle.pricing.specs.Pricing.{Bill, pricing}
use Rattle.pricing.specs.Refusals.{refusal}
use Rattle.pricing.specs.declared.Unpriced.{Unpriced}
use Rattle.pricing.specs.declared.Priced.{Priced}

-- How a pricing came out: the report of the run, or why there is no price.
abbrev pub outcome : Result Priced Unpriced → Result Report Unpriced
outcome (Ok p) = Ok p.report
outcome (Err u) = Err u

-- The number and place of a refusal, or the numbers of a result, that an outcome stands for.
abbrev pub spoken : Result Report Unpriced → Verdict Line
spoken (Err u) = refusal u
spoken (Ok x) = passed (told x)

-- No charge; and the charges of an answer: none where it is a refusal.
abbrev pub no_charges : Charges
no_charges = record { charge = replicate 9 0; total = 0 }

abbrev pub charges_in : Result Priced Unpriced → Charges
charges_in (Ok p) = p.charges
charges_in (Err u) = no_charges

-- The charges of a verdict: none after a refusal.
abbrev pub charges_of : Verdict Bill → Charges
charges_of (refused n p) = no_charges
charges_of (passed b) = record { charge = b.charges; total = b.total }

-- The run of a verdict.
abbrev pub ran : Verdict Bill → Verdict runs.Result
ran v = and_then v (λ b. passed b.run)

-- "Read each public operation as an equation: result and both buffers, for all inputs, follow from the definitions".
pub record Answered (v : Verdict Bill) (x : Result Priced Unpriced) (first second first' second' : List ℕ) : Type 0 where
  pub answer_is : spoken (outcome x) ≡ and_then (ran v) (λ r. passed (line_of r))
  pub charges_are : charges_in x ≡ charges_of v
  pub first_is : first' ≡ first_after (length first) (ran v)
  pub second_is : second' ≡ second_after (length second) (ran v)

-- What pricing gives back: its answer, and what both buffers hold then.
pub record Returned : Type 0 where
  pub answer : Result Priced Unpriced
  pub first : List ℕ
  pub second : List ℕ

abbrev pub returned : Result Priced Unpriced → List ℕ → List ℕ → Returned
returned x first second = record { answer = x; first = first; second = second }

-- The whole operation on what is lent.
abbrev pub priced : Prices → Lent → Verdict Bill
priced prices l = pricing prices l.bytes l.limit (length l.first) (length l.second)

abbrev pub Pricing : Prices → Lent → Returned → Type 0
Pricing prices l g = Answered (priced prices l) g.answer l.first l.second g.first g.second
