-- The refusals of saving: 12 and 13 with place 0; those of the words handed in keep their numbers and places.
use Rattle.std.specs.Prelude.{ℕ}
use Rattle.calculus.specs.Verdicts.{Verdict, refused}
use Rattle.nodes.specs.declared.refusals.Numbers.{Numbers}
use Rattle.nodes.specs.Refusals as nodes
use Rattle.nodes.specs.Refusals.{plain}
use Rattle.saving.specs.declared.Unsaved.{Unsaved}
use Rattle.saving.specs.declared.Unsaved.TheVariants.{Long, Recipe, Short}

abbrev pub numbered : Unsaved → Numbers
numbered Long = plain 12
numbered (Recipe r) = nodes.numbered r
numbered Short = plain 13

abbrev pub number_of : Unsaved → ℕ
number_of u = (numbered u).number

abbrev pub place_of : Unsaved → ℕ
place_of u = (numbered u).place

abbrev pub refusal : {A : Type 0} → Unsaved → Verdict A
refusal u = refused (number_of u) (place_of u)
