-- Laws of saving, the statements alone; proofs/Laws.antt and proofs/Going.antt prove them.
use Rattle.std.specs.Prelude.{ℕ, ◌+◌, ◌≤◌, ◌<◌, List, [], ◌∷◌, ◌↔◌, ◌⊎◌, ◌≡◌, length}
use Rattle.calculus.specs.Trees.{Ty, ml, Term}
use Rattle.calculus.specs.Words.{words_ty, words}
use Rattle.calculus.specs.Limits.{InRangeTy, nesting_ty}
use Rattle.calculus.specs.Verdicts.{refused, passed}
use Rattle.calculus.specs.Run.{Open, Result}
use Rattle.calculus.specs.Counting.{later}
use Rattle.calculus.specs.File.{bytes_of, file_of, judged, check, operate}
use Rattle.calculus.specs.Accepted.{Accepted}
use Rattle.calculus.specs.Mismatches.{NoTypeOf, OtherTypeOf}
use Rattle.saving.specs.Saving.{file_bytes, saving}

-- A recipe file of the words handed in: the check accepts it, with the type and the term that they are.
pub record FileOf (types terms file : List ℕ) : Type 0 where
  pub bytes_are : file ≡ bytes_of (file_of types terms)
  pub declared : Ty
  pub term : Term ml
  pub types_are : types ≡ words_ty declared
  pub terms_are : terms ≡ words term
  pub accepted : Accepted file declared term

-- The numbers and places of a save's refusals: 3 to 7, in the file to be written or one past it; 12 and 13, with place 0.
abbrev pub Numbered : List ℕ → List ℕ → ℕ → ℕ → Type 0
Numbered types terms n p = ((3 ≤ n) × (n ≤ 7) × (p ≤ 4 + length types + length terms)) ⊎ (((n ≡ 12) ⊎ (n ≡ 13)) × (p ≡ 0))

-- Of which words a file is made, and by what the others are refused: 12 by their lengths alone; 3 to 7 as the check refuses that file, with places in
-- it, those of 6 and 7 said of trees; 13 only if the check accepts it.
pub record Exactly (types terms : List ℕ) (room : ℕ) : Type 0 where
  pub saves : (file : List ℕ) → (saving types terms room ≡ passed file) ↔ (FileOf types terms file × (length file ≤ room))
  pub twelve : (saving types terms room ≡ refused 12 0) ↔ (16384 < file_bytes (length types) (length terms))
  pub others : (n p : ℕ) → n ≤ 7
      → (saving types terms room ≡ refused n p)
      ↔ ((file_bytes (length types) (length terms) ≤ 16384) × (judged types terms (4 + length types) ≡ refused n p))
  pub six : (p : ℕ) → (saving types terms room ≡ refused 6 p) ↔ ((file_bytes (length types) (length terms) ≤ 16384) × NoTypeOf types terms p)
  pub seven : (p : ℕ) → (saving types terms room ≡ refused 7 p) ↔ ((file_bytes (length types) (length terms) ≤ 16384) × OtherTypeOf types terms p)
  pub thirteen : (saving types terms room ≡ refused 13 0)
      ↔ (FileOf types terms (bytes_of (file_of types terms)) × (room < file_bytes (length types) (length terms)))
  pub no_other : (n p : ℕ) → saving types terms room ≡ refused n p
      → Numbered types terms n p

-- "with places in the file to be written": what is judged is what the check says of that file, where neither type nor term is empty. An empty type
-- runs out at 4, an empty term behind the type.
pub record Judges : Type 0 where
  pub as_checked : (types terms : List ℕ) → 1 ≤ length types → 1 ≤ length terms → file_bytes (length types) (length terms) ≤ 16384
      → check (bytes_of (file_of types terms)) ≡ judged types terms (4 + length types)
  pub no_type : (terms : List ℕ) (start : ℕ) → judged [] terms start ≡ refused 3 4
  pub no_term : (τ : Ty) (start : ℕ) → InRangeTy τ → nesting_ty τ ≤ 256 → judged (words_ty τ) [] start ≡ refused 3 start

-- Bytes are numbers under 256.
abbrev pub Bytes : List ℕ → Type 0
Bytes [] = Unit {0}
Bytes (b ∷ bs) = (b < 256) × Bytes bs

-- Saving inverts reading, too: the type and the term of an accepted file are saved as that file, byte for byte.
pub record Resaves : Type 0 where
  pub same : (bytes : List ℕ) (τ : Ty) (e : Term ml) (room : ℕ) → Bytes bytes → Accepted bytes τ e → length bytes ≤ room
      → saving (words_ty τ) (words e) room ≡ passed bytes

-- A run of a file that ended as spent or full, and its declared type.
pub record Paused (bytes : List ℕ) (limit first second : ℕ) (τ : Ty) (r : Result) : Type 0 where
  pub term : Term ml
  pub accepted : Accepted bytes τ term
  pub ran : operate bytes limit first second ≡ passed r
  pub goes : Open r.end

-- "For every accepted recipe and every two limits, the second at least 1, .. running, saving and running again in the same capacity ends, after an
-- accepted save and reading, as one run under the summed limit does: end, code, words, and steps and U1's counts added up." Words wanted, too.
-- "The save of such a run is refused only by 4, 12 or 13."
pub record GoesOn : Type 0 where
  pub as_one : (bytes : List ℕ) (k first second : ℕ) (τ : Ty) (r : Result) → Paused bytes k first second τ r
      → (room : ℕ) (file : List ℕ) → saving (words_ty τ) r.left room ≡ passed file
      → (j : ℕ) → 1 ≤ j
      → (s : Result) × (operate file j first second ≡ passed s) × (operate bytes (k + j) first second ≡ passed (later r.made s))
  pub only_by : (bytes : List ℕ) (k first second : ℕ) (τ : Ty) (r : Result) → Paused bytes k first second τ r
      → (room n p : ℕ) → saving (words_ty τ) r.left room ≡ refused n p
      → (n ≡ 4) ⊎ (n ≡ 12) ⊎ (n ≡ 13)
