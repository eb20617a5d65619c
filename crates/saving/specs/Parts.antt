-- What the parts of saving promise one another. Nothing here has to be believed: `save` promises what specs/Answered.antt says.
use Rattle.std.specs.Prelude.{ℕ, ◌+◌, ◌*◌, ◌≤◌, List, ◌≡◌, leb, length, take, Result, Ok}
use Rattle.calculus.specs.Verdicts.{Verdict, passed, unless}
use Rattle.calculus.specs.File.{bytes_of}
use Rattle.saving.specs.Saving.{saving}
use Rattle.saving.specs.Answered.{spoken, length_of, written_by}
use Rattle.saving.specs.declared.Unsaved.{Unsaved}

-- The words of a type and of a term that fit a file.
abbrev pub FewWords : List ℕ → List ℕ → Type 0
FewWords types terms = 4 + length types + length terms ≤ 4096

-- What is still to be said of a file's words that were judged: "13, the buffer is shorter than the file", or its bytes.
abbrev pub written : List ℕ → ℕ → Verdict (List ℕ)
written ws room = unless (leb (4 * length ws) room) 13 0 (passed (bytes_of ws))

-- An answer is a verdict's; and where it is no refusal the file stands first in the buffer.
pub record Answers (v : Verdict (List ℕ)) (x : Result ℕ Unsaved) (out' : List ℕ) : Type 0 where
  pub answer_is : spoken x ≡ length_of v
  pub out_is : (n : ℕ) → x ≡ Ok n → take n out' ≡ written_by v

-- The whole operation, but for the zeros in the buffer.
abbrev pub Writes : List ℕ → List ℕ → List ℕ → Result ℕ Unsaved → List ℕ → Type 0
Writes types terms out x out' = Answers (saving types terms (length out)) x out'
