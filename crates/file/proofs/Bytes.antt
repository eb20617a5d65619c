-- A file's words: how many they are, and which stands at a place. Assumes nothing.
use mathlib.Core.Path.{◌≡◌, refl, sym, ap, ◌∙◌}
use mathlib.Core.List.{List, [], ◌∷◌, ◌++◌, map, append-nil}
use native.Mathlib.Decide.{dec_le}
use native.Mathlib.Nat.{zero-add}
use lib.Seq.{take_all}
use mir.Syntax.{w32}
use Prim.Native.Nat.{ℕ, suc, zero, ◌+◌, ◌-◌, ◌/◌, ◌<◌, ◌≤◌, min}
use native.Mathlib.Omega.{arith}
use lib.ListN.{length, get_or, take, drop, replicate, length-drop, get_or-eq_default, drop_of_length-le}
use denote.Ref.{Bor}
use Rattle.std.specs.Prelude.{Option, None, Some, MatchOption}
use Rattle.std.proofs.Common.{Iter}
use Rattle.std.proofs.lemmas.List.{at_drop_more, get_or-replicate, length-map}
use Rattle.std.specs.Int.{from_le_bytes}
use Rattle.std.specs.Simd.{first_chunks}
use Rattle.calculus.specs.File.{word_of, words_of, padded}

-- As many words as whole fours of bytes.
pub words_length : (bs : List ℕ) → length (words_of bs) ≡ length bs / 4
unfolding words_of
words_length [] = refl
words_length (a ∷ []) = refl
words_length (a ∷ b ∷ []) = refl
words_length (a ∷ b ∷ c ∷ []) = refl
words_length (a ∷ b ∷ c ∷ d ∷ more) = omega (arith, words_length more)

-- They are read from those fours.
pub words_read : (bs : List ℕ) → map (from_le_bytes w32) (first_chunks 4 (length bs / 4) bs) ≡ words_of bs
unfolding words_of
words_read [] = refl
words_read (a ∷ []) = refl
words_read (a ∷ b ∷ []) = refl
words_read (a ∷ b ∷ c ∷ []) = refl
words_read (a ∷ b ∷ c ∷ d ∷ more) =
    let count : length (a ∷ b ∷ c ∷ d ∷ more) / 4 ≡ suc (length more / 4) = omega arith in
    let first : from_le_bytes w32 (a ∷ b ∷ c ∷ d ∷ []) ≡ word_of a b c d = omega arith in
    rw count (cc (first, words_read more))

-- What a reader gives that has the words from the place i on left: the word there, or 0 behind the last; it then has those from the next place on.
pub next_word : {X : Type 0} (f : X → ℕ) (ws : List ℕ) (i : ℕ) (s t : Iter X) (o : Option (Bor X)) (v : ℕ) → map f s.rest.now ≡ drop i ws
    → MatchOption o ((length s.rest.now ≡ 0) × (t ≡ s)) (λ x. s.rest.now ≡ x.now ∷ t.rest.now) → MatchOption o (v ≡ 0) (λ x. v ≡ f x.now)
    → (v ≡ get_or ws i 0) × (map f t.rest.now ≡ drop (i + 1) ws)
next_word f ws i s t None v left step said =
    let none : 0 ≡ length ws - i = sym step.0 ∙ sym (length-map s.rest.now f) ∙ ap length left ∙ length-drop i ws in
    let over : length ws ≤ i = omega arith in (
      said ∙ sym (get_or-eq_default ws 0 over),
      ap (λ u. map f u.rest.now) step.1 ∙ left ∙ drop_of_length-le ws {i = i} over ∙ sym (drop_of_length-le ws {i = i + 1} (omega arith)),
    )
next_word f ws i s t (Some x) v left step said =
    let read : f x.now ∷ map f t.rest.now ≡ drop i ws = sym (ap (map f) step) ∙ left in
    let more : i < length ws = omega (arith, ap length read, length-drop i ws) in
    let here : f x.now ∷ map f t.rest.now ≡ get_or ws i 0 ∷ drop (i + 1) ws = read ∙ at_drop_more (λ l. l) ws i 0 more in
    (cc, cc)

-- The word at a place of words with zeros after them.
pub get_or-padded : (n : ℕ) (ws : List ℕ) (k : ℕ) → k < n → get_or (padded n ws) k 0 ≡ get_or ws k 0
unfolding padded
get_or-padded zero ws k h = absurd (omega arith)
get_or-padded (suc n) [] k h = get_or-replicate (suc n - 0) k 0 0 (omega arith)
get_or-padded (suc n) (w ∷ ws) zero h = refl
get_or-padded (suc n) (w ∷ ws) (suc k) h =
    let e : suc n - suc (length ws) ≡ n - length ws = omega arith in
    rw e (get_or-padded n ws k (omega arith))

-- As many words as fit, and zeros in what is left of a buffer.
pub padded_front : (a b : ℕ) (ws : List ℕ) → a ≡ min (length ws) (b + a) → padded a ws ++ replicate b 0 ≡ padded (b + a) ws
unfolding padded
padded_front a b ws e = cut (dec_le (length ws) (b + a))
  where
    none : a - length ws ≡ 0
    none = omega (arith, e)

    cut : Dec (length ws ≤ b + a) → (take a ws ++ replicate (a - length ws) 0) ++ replicate b 0 ≡ take (b + a) ws ++ replicate (b + a - length ws) 0
    cut (yes h) =
        let all : length ws ≤ a = omega (arith, e) in
        let left : b + a - length ws ≡ b = omega (arith, e) in
        rw (none, take_all a ws all, take_all (b + a) ws h, left, append-nil ws)
    cut (no h) =
        let no_more : b ≡ 0 = omega (arith, e) in
        let over : b + a - length ws ≡ 0 = omega (arith, e) in
        let same : b + a ≡ a = omega (arith, no_more) in
        rw (none, over, no_more, zero-add a, append-nil (take a ws), append-nil (take a ws))
