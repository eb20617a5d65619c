-- Document 02, U3: "The term left by a spent or full run, with its declared type, is saved as a recipe file in a lent buffer."
use Rattle.std.specs.Prelude.{ℕ, ◌+◌, ◌*◌, List, leb, length}
use Rattle.calculus.specs.Verdicts.{Verdict, passed, and_then, unless}
use Rattle.calculus.specs.File.{bytes_of, file_of, judged}

-- How many bytes the file of a type and a term of so many words has.
abbrev pub file_bytes : ℕ → ℕ → ℕ
file_bytes types terms = 4 * (4 + types + terms)

-- The whole operation on the words handed in, by the buffer's length in bytes: "12, the file would pass 16,384 bytes, before all others"; "every
-- recipe condition from 3 to 7 .., with places in the file to be written"; "13, the buffer is shorter than the file, after all others"; or the
-- bytes of the file.
unfoldable pub saving : List ℕ → List ℕ → ℕ → Verdict (List ℕ)
saving types terms room =
    unless (leb (file_bytes (length types) (length terms)) 16384) 12 0
    (and_then (judged types terms (4 + length types)) (λ x.
    unless (leb (file_bytes (length types) (length terms)) room) 13 0
    (passed (bytes_of (file_of types terms)))))
