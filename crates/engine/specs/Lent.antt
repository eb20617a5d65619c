-- What a run is lent and what it gives back.
use Rattle.std.specs.Prelude.{ℕ, List, length, Result}
use Rattle.calculus.specs.Verdicts.{Verdict}
use Rattle.calculus.specs.Run as spec
use Rattle.calculus.specs.File.{operate}
use Rattle.nodes.specs.declared.refusals.Refusal.{Refusal}
use Rattle.ends.specs.declared.Report.{Report}

-- "Lent: the file, a step limit, two word buffers": the bytes, the limit, and what both buffers hold.
pub record Lent : Type 0 where
  pub bytes : List ℕ
  pub limit : ℕ
  pub first : List ℕ
  pub second : List ℕ

abbrev pub lent : List ℕ → ℕ → List ℕ → List ℕ → Lent
lent bytes limit first second = record { bytes = bytes; limit = limit; first = first; second = second }

-- What a run gives back: its answer, and what both buffers hold then.
pub record Returned : Type 0 where
  pub answer : Result Report Refusal
  pub first : List ℕ
  pub second : List ℕ

abbrev pub returned : Result Report Refusal → List ℕ → List ℕ → Returned
returned x first second = record { answer = x; first = first; second = second }

-- "Capacity is the shorter length, at most 16,384": of what is lent.
abbrev pub room : Lent → ℕ
room l = spec.capacity (length l.first) (length l.second)

-- The whole operation on what is lent.
abbrev pub operated : Lent → Verdict spec.Result
operated l = operate l.bytes l.limit (length l.first) (length l.second)
