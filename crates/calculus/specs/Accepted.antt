-- Document 01: the files that the check accepts, said of trees. proofs/Checks.antt says that `check` accepts exactly these.
use Rattle.std.specs.Prelude.{ℕ, ◌+◌, ◌%◌, ◌≤◌, List, [], ◌∷◌, ◌≡◌, length}
use Rattle.calculus.specs.Trees.{Ty, ml, Term}
use Rattle.calculus.specs.Words.{put_ty, words_ty, words, size, size_ty}
use Rattle.calculus.specs.Limits.{InRangeTy, InRange, nesting_ty, nesting}
use Rattle.calculus.specs.Scope.{Scoped}
use Rattle.calculus.specs.Typing.{Typed}
use Rattle.calculus.specs.File.{words_of}

-- "type count, type offset (4), term count, term offset (4 + type count), the declared type, an ML term. Offsets and counts are in words;
-- both counts are at least 1; the file ends with the term."
abbrev pub file_words : Ty → Term ml → List ℕ
file_words τ e = size_ty τ ∷ 4 ∷ size e ∷ (4 + size_ty τ) ∷ put_ty τ (words e)

-- A declared type and a term in order and in scope: they keep the rules for words, and each variable has its lambda.
pub record InOrder (τ : Ty) (e : Term ml) : Type 0 where
  -- "Nesting is at most 256"
  pub nests_ty : nesting_ty τ ≤ 256
  pub nests : nesting e ≤ 256
  -- the owners, numbers, codes and variables
  pub ranged_ty : InRangeTy τ
  pub ranged : InRange e
  pub closed : Scoped [] e

-- The words of a declared type and those of a term are the words of τ and e, which are in order.
pub record Spelt (types terms : List ℕ) (τ : Ty) (e : Term ml) : Type 0 where
  pub types_are : types ≡ words_ty τ
  pub terms_are : terms ≡ words e
  pub order : InOrder τ e

-- The bytes are a file of the declared type τ and the term e, which are in order: none of refusals 1 to 5 fits.
pub record Filed (bytes : List ℕ) (τ : Ty) (e : Term ml) : Type 0 where
  -- "A file has 24 to 16,384 bytes", a multiple of 4
  pub least : 24 ≤ length bytes
  pub most : length bytes ≤ 16384
  pub whole : length bytes % 4 ≡ 0
  pub spelt : words_of bytes ≡ file_words τ e
  pub order : InOrder τ e

-- And e has the type τ.
pub record Accepted (bytes : List ℕ) (τ : Ty) (e : Term ml) : Type 0 where
  pub filed : Filed bytes τ e
  pub typed : Typed [] e τ
