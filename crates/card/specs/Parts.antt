-- What the parts of the operation promise one another. Nothing here has to be believed: `card` promises what specs/Answered.antt says.
use Rattle.std.specs.Prelude.{ℕ, ◌≤◌, ◌<◌, List, [], ◌≡◌, length, Result, Ok, Err}
use Rattle.calculus.specs.Words.{words}
use Rattle.calculus.specs.File.{padded}
use Rattle.ends.specs.declared.End.TheVariants.{Value}
use Rattle.ends.specs.declared.Report.{Report}
use Rattle.charges.specs.declared.Charges.{Charges}
use Rattle.pricing.specs.Items.{list_of}
use Rattle.pricing.specs.declared.Priced.{Priced}
use Rattle.layout.specs.Layout as layout
use Rattle.card.specs.declared.Carded.{Carded}
use Rattle.card.specs.declared.Uncarded.{Uncarded}
use Rattle.card.specs.declared.Uncarded.TheVariants.{Short}

-- These words are a list of at most nine numbers.
pub record FewItems (left : List ℕ) : Type 0 where
  pub items : List ℕ
  pub nine : length items ≤ 9
  pub is : left ≡ words (list_of items)

-- So are the words that a run left, if it ended as a value.
pub record AtEnd (x : Report) (left : List ℕ) : Type 0 where
  pub few : length left ≤ 16384
  pub value_left : x.end ≡ Value → FewItems left

-- The card of a can with these items.
abbrev pub card_by : Charges → List ℕ → List ℕ
card_by charges ns = layout.card ns charges.charge charges.total

-- This text stands in the card's buffer, zeros behind it; or the buffer is too short for it, and all zero.
pub data Laid (p : Priced) (text card : List ℕ) (r : Result Carded Uncarded) (card' : List ℕ) : Type 0 where
  fits : length text ≤ length card → r ≡ Ok (record { priced = p; bytes = length text }) → card' ≡ padded (length card) text
      → Laid p text card r card'
  short : length card < length text → r ≡ Err Short → card' ≡ padded (length card) [] → Laid p text card r card'

-- At a value the card is that of its items; at another end there is none.
pub record Lays (p : Priced) (left card : List ℕ) (r : Result Carded Uncarded) (card' : List ℕ) : Type 0 where
  pub valued : p.report.end ≡ Value → (ns : List ℕ) → left ≡ words (list_of ns) → Laid p (card_by p.charges ns) card r card'
  pub others : ¬ (p.report.end ≡ Value) → Laid p [] card r card'
