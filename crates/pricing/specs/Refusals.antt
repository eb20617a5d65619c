-- The refusals of pricing: "each with place 0", but for those of the check and the run, which keep their numbers and places.
use Rattle.std.specs.Prelude.{ℕ}
use Rattle.calculus.specs.Verdicts.{Verdict, refused}
use Rattle.nodes.specs.declared.refusals.Numbers.{Numbers}
use Rattle.nodes.specs.Refusals as nodes
use Rattle.nodes.specs.Refusals.{plain}
use Rattle.pricing.specs.declared.Unpriced.{Unpriced}
use Rattle.pricing.specs.declared.Unpriced.TheVariants.{Prices, Recipe, Declared, Items}

abbrev pub numbered : Unpriced → Numbers
numbered Prices = plain 11
numbered (Recipe r) = nodes.numbered r
numbered Declared = plain 9
numbered Items = plain 10

abbrev pub number_of : Unpriced → ℕ
number_of u = (numbered u).number

abbrev pub place_of : Unpriced → ℕ
place_of u = (numbered u).place

abbrev pub refusal : {A : Type 0} → Unpriced → Verdict A
refusal u = refused (number_of u) (place_of u)
