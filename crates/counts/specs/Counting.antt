-- What a run counts, as the code has it: its classes and counts are those of the calculus.
use Rattle.std.specs.Prelude.{ℕ, ◌≤◌}
use Rattle.calculus.specs.Classes as spec
use Rattle.calculus.specs.Run as run
use Rattle.calculus.specs.Counting.{AddsUp}
use Rattle.counts.specs.declared.Class.{Class}
use Rattle.counts.specs.declared.Class.TheVariants.{Call, Conversion, Other}
use Rattle.counts.specs.declared.Counts.{Counts}

-- The calculus's class that a class of the code stands for, and so the counts.
abbrev pub class_of : Class → spec.Class
class_of Call = spec.call
class_of Conversion = spec.conversion
class_of Other = spec.other

abbrev pub counts_of : Counts → run.Counts
counts_of made = record { steps = made.steps; calls = made.calls; conversions = made.conversions; others = made.others }

-- One step more, of a class, as the calculus counts it.
abbrev pub counted : spec.Class → Counts → Counts
counted x made =
    let more = run.counted x (counts_of made) in
    record { steps = more.steps; calls = more.calls; conversions = more.conversions; others = more.others }

-- Not more steps are made than the limit, and the three add up to them.
pub record UpTo (limit : ℕ) (made : Counts) : Type 0 where
  pub most : made.steps ≤ limit
  pub adds_up : AddsUp (counts_of made)
