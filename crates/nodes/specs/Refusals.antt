-- Document 01, "A refusal carries its number and a place": the number and the place of each case.
use Rattle.std.specs.Prelude.{ℕ}
use Rattle.calculus.specs.Verdicts.{Verdict, refused}
use Rattle.nodes.specs.declared.refusals.Numbers.{Numbers}
use Rattle.nodes.specs.declared.refusals.Refusal.{Refusal}
use Rattle.nodes.specs.declared.refusals.Refusal.TheVariants.{Bytes, Header, Word, Nesting, Variable, Untyped, Mistyped, Capacity}

abbrev pub at : ℕ → ℕ → Numbers
at n p = record { number = n; place = p }

-- Without a place.
abbrev pub plain : ℕ → Numbers
plain n = at n 0

abbrev pub numbered : Refusal → Numbers
numbered Bytes = plain 1
numbered Header = plain 2
numbered (Word p) = at 3 p
numbered (Nesting p) = at 4 p
numbered (Variable p) = at 5 p
numbered (Untyped p) = at 6 p
numbered (Mistyped p) = at 7 p
numbered Capacity = plain 8

abbrev pub number_of : Refusal → ℕ
number_of r = (numbered r).number

abbrev pub place_of : Refusal → ℕ
place_of r = (numbered r).place

abbrev pub refusal : {A : Type 0} → Refusal → Verdict A
refusal r = refused (number_of r) (place_of r)
