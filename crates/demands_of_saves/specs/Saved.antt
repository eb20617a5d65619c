-- Document 02, U3: the demands of saving, of one call; and of running, saving and running again, beside one run: what the contracts of `save_once`
-- and `run_save_run` in src/lib.rt say.
use Rattle.std.specs.Prelude.{ℕ, ◌+◌, ◌-◌, ◌≤◌, ◌<◌, List, ◌↔◌, ◌⊎◌, ◌≡◌, length, take, drop, replicate, Result, Ok, Err}
use Rattle.std.specs.Result.{result_unwrap_or}
use Rattle.calculus.specs.Trees.{Ty, ml, Term}
use Rattle.calculus.specs.Words.{words_ty, words}
use Rattle.calculus.specs.Verdicts.{refused}
use Rattle.calculus.specs.Run.{Open, Counts}
use Rattle.calculus.specs.Counting.{together}
use Rattle.calculus.specs.Endings.{Ending}
use Rattle.calculus.specs.File.{bytes_of, file_of, judged}
use Rattle.calculus.specs.Accepted.{Accepted}
use Rattle.calculus.specs.Mismatches.{NoTypeOf, OtherTypeOf}
use Rattle.counts.specs.Counting.{counts_of}
use Rattle.ends.specs.declared.Report.{Report}
use Rattle.nodes.specs.declared.refusals.Refusal.{Refusal}
use Rattle.ends.specs.Results.{Line, end_of, told}
use Rattle.engine.specs.Lent.{Lent, Returned, room}
use Rattle.saving.specs.Saving.{file_bytes}
use Rattle.saving.specs.Refusals.{number_of, place_of}
use Rattle.saving.specs.Laws.{FileOf, Numbered}
use Rattle.saving.specs.declared.Unsaved.{Unsaved}
use Rattle.saving.specs.declared.Unsaved.TheVariants.{Long, Short}

-- The words handed in, and what the lent buffer holds.
pub record Handed : Type 0 where
  pub types : List ℕ
  pub terms : List ℕ
  pub out : List ℕ

abbrev pub handed : List ℕ → List ℕ → List ℕ → Handed
handed types terms out = record { types = types; terms = terms; out = out }

-- How many bytes the file to be written has.
abbrev pub bytes_due : Handed → ℕ
bytes_due h = file_bytes (length h.types) (length h.terms)

-- Demand 1: one of 3 to 7, 12 and 13, "A refused save leaves that buffer all zero"; or the file stands first, and zeros after it.
pub data Finishes (h : Handed) (x : Result ℕ Unsaved) (out' : List ℕ) : Type 0 where
  refuses : (u : Unsaved) → x ≡ Err u → Numbered h.types h.terms (number_of u) (place_of u)
      → out' ≡ replicate (length h.out) 0 → Finishes h x out'
  writes : (n : ℕ) → x ≡ Ok n → n ≤ length h.out → FileOf h.types h.terms (take n out')
      → drop n out' ≡ replicate (length h.out - n) 0 → Finishes h x out'

-- Refused with this number and place.
pub record RefusedBy (x : Result ℕ Unsaved) (n p : ℕ) : Type 0 where
  pub refusal : Unsaved
  pub refused : x ≡ Err refusal
  pub number : number_of refusal ≡ n
  pub place : place_of refusal ≡ p

-- Words that are a recipe's, in a file of at most 16,384 bytes.
abbrev pub Savable : Handed → Type 0
Savable h = FileOf h.types h.terms (bytes_of (file_of h.types h.terms))

-- Demands 1 and 2 of one save: it finishes, and a file is written, or 12, 3 to 7 with their places, or 13 given, exactly where they are due. 6 points
-- at the lowest node that is at fault, 7 at the first declared word that differs from the type found, in the file to be written.
pub record SavedOnce (h : Handed) (x : Result ℕ Unsaved) (out' : List ℕ) : Type 0 where
  pub finishes : Finishes h x out'
  pub writes : ((n : ℕ) × (x ≡ Ok n)) ↔ (Savable h × (bytes_due h ≤ length h.out))
  pub twelve : (x ≡ Err Long) ↔ (16384 < bytes_due h)
  pub others : (n p : ℕ) → n ≤ 7
      → RefusedBy x n p ↔ ((bytes_due h ≤ 16384) × (judged h.types h.terms (4 + length h.types) ≡ refused n p))
  pub six : (p : ℕ) → RefusedBy x 6 p ↔ ((bytes_due h ≤ 16384) × NoTypeOf h.types h.terms p)
  pub seven : (p : ℕ) → RefusedBy x 7 p ↔ ((bytes_due h ≤ 16384) × OtherTypeOf h.types h.terms p)
  pub thirteen : (x ≡ Err Short) ↔ (Savable h × (length h.out < bytes_due h))

-- A run of an accepted file that ended as spent or full, with the words of its declared type: "The term left by a spent or full run, with its
-- declared type".
pub record Paused (l : Lent) (types : List ℕ) (a : Result Report Refusal) : Type 0 where
  pub declared : Ty
  pub term : Term ml
  pub accepted : Accepted l.bytes declared term
  pub types_are : types ≡ words_ty declared
  pub report : Report
  pub ended : a ≡ Ok report
  pub goes : Open (end_of report.end)

-- The words that an answer says are left, and the bytes that were saved, counted.
abbrev pub left_of : Result Report Refusal → ℕ
left_of (Err r) = 0
left_of (Ok x) = x.left

abbrev pub written_of : Result ℕ Unsaved → ℕ
written_of x = result_unwrap_or x 0

-- Reading inverts saving: the check accepts what was saved, with that type, and the term is the one that the reduction had come to.
pub record ReadBack (l : Lent) (τ : Ty) (e : Term ml) (file : List ℕ) : Type 0 where
  pub by_rules : Ending l.limit (room l) e
  pub term : Term ml
  pub left : by_rules.result.left ≡ words term
  pub accepted : Accepted file τ term

-- "end, code, words, and steps and U1's counts added up": numbers that come after what was counted before.
abbrev pub after : Counts → Line → Line
after m y = record { end = y.end; code = y.code; made = together m y.made; left = y.left; wanted = y.wanted }

-- "ends .. as one run under the summed limit does": the second run, g, and the one run, h, where the first one reported x.
pub record AsOne (x : Report) (g h : Returned) : Type 0 where
  pub later : Report
  pub later_ended : g.answer ≡ Ok later
  pub whole : Report
  pub whole_ended : h.answer ≡ Ok whole
  pub numbers : told whole ≡ after (counts_of x.made) (told later)
  pub words : take whole.left h.first ≡ take later.left g.first

-- The law of saving. What l lends is run, which answers a; what is left is saved, which answers x and leaves out'; the file saved is run for `again`
-- steps in the same buffers, which gives g back; and what m lends is run, which gives h back. "For every accepted recipe and every two limits, the
-- second at least 1, whose sum is at most 4,294,967,295", which is a limit again, "running, saving and running again in the same capacity ends, after
-- an accepted save and reading, as one run under the summed limit does". "The save of such a run is refused only by 4, 12 or 13."
pub record SaveRuns (l : Lent) (types : List ℕ) (a : Result Report Refusal) (x : Result ℕ Unsaved) (out' : List ℕ) (again : ℕ) (g : Returned)
    (m : Lent) (h : Returned)
    : Type 0 where
  pub only_by : Paused l types a → (u : Unsaved) → x ≡ Err u → (number_of u ≡ 4) ⊎ (number_of u ≡ 12) ⊎ (number_of u ≡ 13)
  pub reads : (p : Paused l types a) (n : ℕ) → x ≡ Ok n → ReadBack l p.declared p.term (take n out')
  pub as_one : (p : Paused l types a) (n : ℕ) → x ≡ Ok n → 1 ≤ again → l.bytes ≡ m.bytes → l.limit + again ≡ m.limit → room l ≡ room m
      → AsOne p.report g h
