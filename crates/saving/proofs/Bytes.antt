-- A file's words and their bytes: how many they are, where type and term stand, and that they are read back. Assumes nothing.
use Prim.Native.Nat.{ℕ, ◌+◌, ◌*◌, ◌/◌, ◌%◌}
use mathlib.Core.List.{List, [], ◌∷◌, ◌++◌}
use mathlib.Core.Path.{◌≡◌, refl, sym, ◌∙◌}
use native.Mathlib.Omega.{arith}
use lib.ListN.{length, take, drop, length-append}
use lib.Seq.{take_at, drop_at, drop-drop}
use Rattle.calculus.specs.File.{words_of, bytes_of, file_of}
use Rattle.saving.specs.Saving.{file_bytes}

pub bytes_length : (ws : List ℕ) → length (bytes_of ws) ≡ 4 * length ws
bytes_length [] = refl
bytes_length (w ∷ ws) = omega (arith, bytes_length ws)

pub bytes_append : (xs ys : List ℕ) → bytes_of (xs ++ ys) ≡ bytes_of xs ++ bytes_of ys
bytes_append [] ys = refl
bytes_append (x ∷ xs) ys = rw (bytes_append xs ys)

-- The bytes of words, read back.
pub words_back : (ws : List ℕ) → words_of (bytes_of ws) ≡ ws
unfolding words_of
words_back [] = refl
words_back (w ∷ ws) =
    let e : w % 256 + 256 * (w / 256 % 256) + 65536 * (w / 65536 % 256) + 16777216 * (w / 16777216) ≡ w = omega arith in
    rw (e, words_back ws)

pub file_length : (types terms : List ℕ) → length (file_of types terms) ≡ 4 + length types + length terms
file_length types terms = omega (arith, length-append types terms)

pub file_bytes_lem : (types terms : List ℕ) → length (bytes_of (file_of types terms)) ≡ file_bytes (length types) (length terms)
file_bytes_lem types terms = omega (arith, bytes_length (file_of types terms), file_length types terms)

-- Type and term in the file.
pub types_part : (types terms : List ℕ) → take (length types) (drop 4 (file_of types terms)) ≡ types
types_part types terms = take_at types terms (length types) refl

pub terms_part : (types terms : List ℕ) → drop (4 + length types) (file_of types terms) ≡ terms
terms_part types terms = sym (drop-drop (length types) 4 (file_of types terms)) ∙ drop_at types terms (length types) refl
