-- What a C program gets.
use Rattle.std.specs.Prelude.{ℕ, ◌+◌, ◌*◌, List, length}
use Rattle.calculus.specs.Verdicts.{Verdict, refused, passed, and_then}
use Rattle.calculus.specs.File.{first_after, second_after, padded}
use Rattle.ends.specs.Results.{number_of_end, Line, line_of, told}
use Rattle.engine.specs.Lent.{Lent, operated}
use Rattle.ends.specs.declared.Report.{Report}
use Rattle.charges.specs.Prices.{Prices}
use Rattle.charges.specs.declared.Charges.{Charges}
use Rattle.pricing.specs.Pricing.{Bill}
use Rattle.pricing.specs.Answered.{charges_of, ran, priced}
use Rattle.card.specs.Carding.{Card}
use Rattle.card.specs.Answered.{bill_of, text_of, CardLent, carded}
use Rattle.saving.specs.Saving.{saving}
use Rattle.saving.specs.Answered.{length_of, written_by}
use Rattle.exports.specs.declared.runs.RecipeRun.{RecipeRun}
use Rattle.exports.specs.declared.prices.RecipePriced.{RecipePriced}
use Rattle.exports.specs.declared.cards.RecipeCard.{RecipeCard}
use Rattle.exports.specs.declared.saves.RecipeSaved.{RecipeSaved}

-- 0 for accepted, else the refusal's number + 256 × its place.
abbrev pub check_number : Verdict (Unit {0}) → ℕ
check_number (refused n p) = n + 256 * p
check_number (passed x) = 0

-- After a refusal every other number is 0.
abbrev pub refused_numbers : ℕ → ℕ → RecipeRun
refused_numbers n p =
    record { refusal = n; place = p; end = 0; code = 0; steps = 0; left = 0; wanted = 0; calls = 0; conversions = 0; others = 0 }

abbrev pub line_numbers : Line → RecipeRun
line_numbers x =
    record {
      refusal = 0;
      place = 0;
      end = number_of_end x.end;
      code = x.code;
      steps = x.made.steps;
      left = x.left;
      wanted = x.wanted;
      calls = x.made.calls;
      conversions = x.made.conversions;
      others = x.made.others;
    }

abbrev pub ended_numbers : Report → RecipeRun
ended_numbers x = line_numbers (told x)

abbrev pub run_numbers : Verdict Line → RecipeRun
run_numbers (refused n p) = refused_numbers n p
run_numbers (passed x) = line_numbers x

-- The numbers of a run of what is lent, and what it leaves in both buffers.
abbrev pub numbers_of : Lent → RecipeRun
numbers_of l = run_numbers (and_then (operated l) (λ x. passed (line_of x)))

abbrev pub first_of : Lent → List ℕ
first_of l = first_after (length l.first) (operated l)

abbrev pub second_of : Lent → List ℕ
second_of l = second_after (length l.second) (operated l)

-- The numbers of a pricing of what is lent: the run's, the total and each charge; and what it leaves in both buffers.
abbrev pub packed_numbers : RecipeRun → Charges → RecipePriced
packed_numbers run charges = record { run = run; total = charges.total; charge = charges.charge }

abbrev pub priced_numbers : Verdict Bill → RecipePriced
priced_numbers v = packed_numbers (run_numbers (and_then (ran v) (λ x. passed (line_of x)))) (charges_of v)

abbrev pub priced_numbers_of : Prices → Lent → RecipePriced
priced_numbers_of prices l = priced_numbers (priced prices l)

abbrev pub priced_first_of : Prices → Lent → List ℕ
priced_first_of prices l = first_after (length l.first) (ran (priced prices l))

abbrev pub priced_second_of : Prices → Lent → List ℕ
priced_second_of prices l = second_after (length l.second) (ran (priced prices l))

-- The numbers of a card of what is lent: the pricing's, and how many bytes the card has; and what it leaves in the three buffers.
abbrev pub carried_numbers : RecipeRun → Charges → ℕ → RecipeCard
carried_numbers run charges bytes = record { priced = packed_numbers run charges; bytes = bytes }

abbrev pub card_numbers : Verdict Card → RecipeCard
card_numbers v = record { priced = priced_numbers (bill_of v); bytes = length (text_of v) }

abbrev pub card_numbers_of : Prices → CardLent → RecipeCard
card_numbers_of prices l = card_numbers (carded prices l)

abbrev pub card_first_of : Prices → CardLent → List ℕ
card_first_of prices l = first_after (length l.run.first) (ran (bill_of (carded prices l)))

abbrev pub card_second_of : Prices → CardLent → List ℕ
card_second_of prices l = second_after (length l.run.second) (ran (bill_of (carded prices l)))

abbrev pub card_bytes_of : Prices → CardLent → List ℕ
card_bytes_of prices l = padded (length l.card) (text_of (carded prices l))

-- The numbers of a save: those of a refusal, or how many bytes the file has; and what it leaves in a buffer of so many bytes.
abbrev pub saved_numbers : Verdict ℕ → RecipeSaved
saved_numbers (refused n p) = record { refusal = n; place = p; bytes = 0 }
saved_numbers (passed n) = record { refusal = 0; place = 0; bytes = n }

abbrev pub saved_numbers_of : List ℕ → List ℕ → ℕ → RecipeSaved
saved_numbers_of types terms room = saved_numbers (length_of (saving types terms room))

abbrev pub saved_bytes_of : List ℕ → List ℕ → ℕ → List ℕ
saved_bytes_of types terms room = padded room (written_by (saving types terms room))
