-- What the parts of pricing promise one another. Nothing here has to be believed: `price` promises what specs/Answered.antt says.
use Rattle.std.specs.Prelude.{ℕ, ◌≤◌, Bool, List, [], ◌≡◌, length, Result}
use Rattle.calculus.specs.Trees.{Ty, N, list, ml, Term}
use Rattle.calculus.specs.Words.{words, words_ty}
use Rattle.calculus.specs.Limits.{InRange}
use Rattle.calculus.specs.Typing.{Typed}
use Rattle.calculus.specs.Verdicts.{Verdict, passed, and_then}
use Rattle.calculus.specs.Inference.{same_type}
use Rattle.calculus.specs.Run as runs
use Rattle.calculus.specs.Run.{valued, capacity}
use Rattle.calculus.specs.File.{padded}
use Rattle.ends.specs.declared.Report.{Report}
use Rattle.ends.specs.Results.{line_of, told}
use Rattle.charges.specs.Prices.{Prices}
use Rattle.pricing.specs.Items.{list_of}
use Rattle.pricing.specs.Pricing.{Bill, bill, billed}
use Rattle.pricing.specs.Answered.{outcome, spoken, charges_in, charges_of, ran, Answered}
use Rattle.pricing.specs.declared.items.Items.{Items}
use Rattle.pricing.specs.declared.Unpriced.{Unpriced}
use Rattle.pricing.specs.declared.Priced.{Priced}

-- The items of words which are those of a list of numbers: how many they are, and the pulses of pumps 1 to 9, 0 where there is no item.
pub record Reads (ws : List ℕ) (x : Items) : Type 0 where
  pub of : (ns : List ℕ) → ws ≡ words (list_of ns) → (x.count ≡ length ns) × (x.pulses ≡ padded 9 ns)

-- Whether the words of a type are those of {N}.
pub record Declares (ws : List ℕ) (r : Bool) : Type 0 where
  pub of : (τ : Ty) → ws ≡ words_ty τ → r ≡ same_type ml τ (list N)

-- An answer is a verdict's, whatever the buffers hold.
pub record Says (v : Verdict Bill) (x : Result Priced Unpriced) : Type 0 where
  pub answer_is : spoken (outcome x) ≡ and_then (ran v) (λ r. passed (line_of r))
  pub charges_are : charges_in x ≡ charges_of v

-- The report and the words left are those of a run with the result r; at a value the words are a list of numbers.
pub record Left (x : Report) (left : List ℕ) (r : runs.Result) : Type 0 where
  pub told_is : told x ≡ line_of r
  pub left_is : left ≡ r.left
  pub value_is : r.end ≡ valued → (ns : List ℕ) × (r.left ≡ words (list_of ns)) × InRange (list_of ns)

-- What a run costs that ended.
pub record Costs (prices : Prices) (x : Report) (left : List ℕ) (p : Result Priced Unpriced) : Type 0 where
  pub of : (r : runs.Result) → Left x left r → Says (bill prices r r.end) p

-- The words are those of a term of a type, as the check accepts it.
pub record TermOf (τ : Ty) (ws : List ℕ) (e : Term ml) : Type 0 where
  pub words_are : ws ≡ words e
  pub ranged : InRange e
  pub typed : Typed [] e τ

-- The words of a declared type and of a term of that type, as the check accepts them.
pub record RecipeOf (types terms : List ℕ) (τ : Ty) (e : Term ml) : Type 0 where
  pub types_are : types ≡ words_ty τ
  pub term_is : TermOf τ terms e

pub record Recipes (types terms : List ℕ) : Type 0 where
  pub few : length terms ≤ 4096
  pub declared : Ty
  pub term : Term ml
  pub is : RecipeOf types terms declared term

-- Refusal 9 or 8, or a run of such a term with what it costs.
pub record Bills (prices : Prices) (limit : ℕ) (types terms first second : List ℕ) (p : Result Priced Unpriced) (first' second' : List ℕ)
    : Type 0 where
  pub of : (τ : Ty) (e : Term ml) → RecipeOf types terms τ e
      → Answered (billed prices limit (capacity (length first) (length second)) (τ, e)) p first second first' second'
