-- What saving answers and leaves, as an equation with `saving`.
use Rattle.std.specs.Prelude.{ℕ, List, [], ◌≡◌, length, Result, Ok, Err}
use Rattle.calculus.specs.Verdicts.{Verdict, refused, passed, and_then}
use Rattle.calculus.specs.File.{padded}
use Rattle.saving.specs.Saving.{saving}
use Rattle.saving.specs.Refusals.{refusal}
use Rattle.saving.specs.declared.Unsaved.{Unsaved}

-- The number and place of a refusal, or how many bytes the file has, that an answer stands for.
abbrev pub spoken : Result ℕ Unsaved → Verdict ℕ
spoken (Err u) = refusal u
spoken (Ok n) = passed n

-- How many bytes the file of a verdict has.
abbrev pub length_of : Verdict (List ℕ) → Verdict ℕ
length_of v = and_then v (λ file. passed (length file))

-- The bytes that stand first in the buffer: "A refused save leaves that buffer all zero."
abbrev pub written_by : Verdict (List ℕ) → List ℕ
written_by (refused n p) = []
written_by (passed file) = file

-- "Read each public operation as an equation: result and .. buffers, for all inputs, follow from the definitions".
pub record Answered (v : Verdict (List ℕ)) (x : Result ℕ Unsaved) (out out' : List ℕ) : Type 0 where
  pub answer_is : spoken x ≡ length_of v
  pub out_is : out' ≡ padded (length out) (written_by v)

-- The whole operation on the words handed in and the buffer lent.
abbrev pub Saves : List ℕ → List ℕ → List ℕ → Result ℕ Unsaved → List ℕ → Type 0
Saves types terms out x out' = Answered (saving types terms (length out)) x out out'
