-- Document 02, U9, "Point at the mismatch": the places of refusals 6 and 7, said of trees. proofs/Mismatches.antt says that the check gives these and
-- no others.
use Rattle.std.specs.Prelude.{ℕ, ◌+◌, List, [], ◌∷◌, ◌↔◌, ◌≡◌, length, drop}
use Rattle.calculus.specs.Trees.{Ty, ml, Term}
use Rattle.calculus.specs.Words.{put, words_ty, size_ty}
use Rattle.calculus.specs.Verdicts.{refused}
use Rattle.calculus.specs.Typing.{Typed}
use Rattle.calculus.specs.Comparison.{DifferAt}
use Rattle.calculus.specs.Faults.{Node, node, Among, LowestFault}
use Rattle.calculus.specs.File.{words_of, judged, check}
use Rattle.calculus.specs.Accepted.{Spelt, Filed}

-- "Refusal 6 carries the lowest-numbered node that has no type, or is not well formed, while all its own parts are in order": r is its place, where
-- the term e stands at q. A term that has a type has no such node.
abbrev pub FaultAt : ℕ → Term ml → ℕ → Type 0
FaultAt q e r = LowestFault (node q [] e) r

-- "Refusal 7 carries the first declared word that differs from the type found": r is its place, where the declared type τ stands at p. So many
-- words agree before it, and it lies within both types.
pub record MismatchAt (p : ℕ) (τ : Ty) (e : Term ml) (r : ℕ) : Type 0 where
  pub found : Ty
  pub typed : Typed [] e found
  pub agreeing : ℕ
  pub place : r ≡ p + agreeing
  pub differ : DifferAt (words_ty τ) (words_ty found) agreeing

-- A file refused 6 at r: its words are a type and a term in order and in scope, and r is the place of the lowest faulty node.
abbrev pub NoTypeAt : List ℕ → ℕ → Type 0
NoTypeAt bytes r = (τ : Ty) × (e : Term ml) × Filed bytes τ e × FaultAt (4 + size_ty τ) e r

-- A file refused 7 at r: the term has a type that is not the declared one, the declared words before r agree with it and the word at r differs.
abbrev pub OtherTypeAt : List ℕ → ℕ → Type 0
OtherTypeAt bytes r = (τ : Ty) × (e : Term ml) × Filed bytes τ e × MismatchAt 4 τ e r

-- The same of the words that are handed in, of a file that is still to be written.
abbrev pub NoTypeOf : List ℕ → List ℕ → ℕ → Type 0
NoTypeOf types terms r = (τ : Ty) × (e : Term ml) × Spelt types terms τ e × FaultAt (4 + length types) e r

abbrev pub OtherTypeOf : List ℕ → List ℕ → ℕ → Type 0
OtherTypeOf types terms r = (τ : Ty) × (e : Term ml) × Spelt types terms τ e × MismatchAt 4 τ e r

-- What the check points at, of a file and of words handed in. The place of a node is where its words stand in the file.
pub record Points : Type 0 where
  pub stands : (bytes : List ℕ) (τ : Ty) (e : Term ml) → Filed bytes τ e → (z : Node) → Among z (node (4 + size_ty τ) [] e ∷ [])
      → (k : List ℕ) × (drop z.place (words_of bytes) ≡ put z.tree k)
  pub six : (bytes : List ℕ) (r : ℕ) → (check bytes ≡ refused 6 r) ↔ NoTypeAt bytes r
  pub seven : (bytes : List ℕ) (r : ℕ) → (check bytes ≡ refused 7 r) ↔ OtherTypeAt bytes r
  pub six_of_words : (types terms : List ℕ) (r : ℕ) → (judged types terms (4 + length types) ≡ refused 6 r) ↔ NoTypeOf types terms r
  pub seven_of_words : (types terms : List ℕ) (r : ℕ) → (judged types terms (4 + length types) ≡ refused 7 r) ↔ OtherTypeOf types terms r
