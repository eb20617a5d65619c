-- The refusals of the card: those of pricing, which keep their numbers and places, and "14, buffer shorter than the card", which points at nothing.
use Rattle.std.specs.Prelude.{ℕ}
use Rattle.calculus.specs.Verdicts.{Verdict, refused}
use Rattle.nodes.specs.declared.refusals.Numbers.{Numbers}
use Rattle.nodes.specs.Refusals.{plain}
use Rattle.pricing.specs.Refusals as pricing
use Rattle.card.specs.declared.Uncarded.{Uncarded}
use Rattle.card.specs.declared.Uncarded.TheVariants.{Price, Short}

abbrev pub numbered : Uncarded → Numbers
numbered (Price u) = pricing.numbered u
numbered Short = plain 14

abbrev pub number_of : Uncarded → ℕ
number_of u = (numbered u).number

abbrev pub place_of : Uncarded → ℕ
place_of u = (numbered u).place

abbrev pub refusal : {A : Type 0} → Uncarded → Verdict A
refusal u = refused (number_of u) (place_of u)
