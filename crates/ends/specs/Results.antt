-- The numbers of a run's result, and those that a report of the code stands for.
use Rattle.std.specs.Prelude.{ℕ, length}
use Rattle.calculus.specs.Run as spec
use Rattle.ends.specs.declared.End.{End}
use Rattle.ends.specs.declared.End.TheVariants.{Value, Spent, Error, Full}
use Rattle.ends.specs.declared.Report.{Report}
use Rattle.counts.specs.Counting.{counts_of}

-- "The result: end, code, steps made, words left, words wanted", as numbers; "The result gains three counts: calls, conversions, others".
pub record Line : Type 0 where
  pub end : spec.End
  pub code : ℕ
  pub made : spec.Counts
  pub left : ℕ
  pub wanted : ℕ

-- The numbers of a result, and those that a report stands for.
abbrev pub line_of : spec.Result → Line
line_of r = record { end = r.end; code = r.code; made = r.made; left = length r.left; wanted = r.wanted }

abbrev pub end_of : End → spec.End
end_of Value = spec.valued
end_of Spent = spec.spent
end_of Error = spec.error
end_of Full = spec.full

abbrev pub told : Report → Line
told x = record { end = end_of x.end; code = x.code; made = counts_of x.made; left = x.left; wanted = x.wanted }

-- "end 0 value, 1 spent, 2 error, 3 full".
abbrev pub number_of_end : spec.End → ℕ
number_of_end spec.valued = 0
number_of_end spec.spent = 1
number_of_end spec.error = 2
number_of_end spec.full = 3

abbrev pub end_number : End → ℕ
end_number e = number_of_end (end_of e)
