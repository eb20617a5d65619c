-- What opening a file says of its words, and of the check of its bytes. Assumes nothing.
use mathlib.Core.Path.{◌≡◌, refl, sym, ap, ◌∙◌}
use mathlib.Core.Bool.{Bool, true, false}
use mathlib.Core.List.{List}
use Prim.Native.Nat.{ℕ, ◌/◌, ◌≤◌}
use native.Mathlib.Omega.{arith}
use lib.ListN.{length, take}
use Rattle.calculus.specs.Verdicts.{refused, passed, and_then}
use Rattle.calculus.specs.File.{words_of, is_size, is_header, type_count, Recipe, check_words, check, padded}
use Rattle.calculus.proofs.Verdicts.{not_both}
use Rattle.file.specs.Opening.{opening, kept}
use Rattle.file.proofs.Bytes.{words_length}
use Rattle.calculus.proofs.Padding.{padded_take, padded_length}
use Rattle.file.proofs.Tests.{HeaderFits, header_fits, size_fits}

module _ (bs : List ℕ) (s : is_size (length bs) ≡ true) where
  -- A file of a fit size has 6 to 4,096 words.
  pub words_bounds : (6 ≤ length (words_of bs)) × (length (words_of bs) ≤ 4096)
  words_bounds = omega (arith, size_fits (length bs) s, words_length bs)

  -- They stand first in the array.
  pub front_is : take (length bs / 4) (padded 4096 (words_of bs)) ≡ words_of bs
  front_is = padded_take 4096 (length bs / 4) (words_of bs) words_bounds.1 (sym (words_length bs))

-- The check of a file begins with opening it.
check_opens : (bs : List ℕ) → check bs ≡ and_then (opening bs) (λ x. check_words (words_of bs))
unfolding check check_words
check_opens bs = tested (is_size (length bs)) refl (is_header (words_of bs)) refl
  where
    tested : (s : Bool) → is_size (length bs) ≡ s → (h : Bool) → is_header (words_of bs) ≡ h
        → check bs ≡ and_then (opening bs) (λ x. check_words (words_of bs))
    tested true p true q = rw (p, q)
    tested true p false q = rw (p, q)
    tested false p h q = rw p

-- A refusal at the opening is the check's.
pub check_refused : (bs : List ℕ) {n p : ℕ} → refused n p ≡ opening bs → check bs ≡ refused n p
check_refused bs e = rw (check_opens bs, ← e)

-- What is known of a file that is opened, whose words were left in the array `all`.
pub record Opens (bs all : List ℕ) (types n : ℕ) : Type 0 where
  pub words_are : take n all ≡ words_of bs
  pub count_is : n ≡ length (words_of bs)
  pub types_are : types ≡ type_count (words_of bs)
  pub fits : HeaderFits (words_of bs)
  pub check_is : check bs ≡ check_words (words_of bs)
  pub few : n ≤ 4096
  pub array_is : length all ≡ 4096

-- It follows from both equations of the contract of `open`.
pub opens : (bs all : List ℕ) {types n : ℕ} → passed (types, n) ≡ opening bs → all ≡ padded 4096 (kept bs) → Opens bs all types n
opens bs all {types} {n} e a = sized (is_size (length bs)) refl (is_header (words_of bs)) refl
  where
    sized : (s : Bool) → is_size (length bs) ≡ s → (h : Bool) → is_header (words_of bs) ≡ h → Opens bs all types n
    sized true p true q =
        let x : ◌≡◌ {A = ℕ × ℕ} (types, n) (type_count (words_of bs), length (words_of bs)) = cc in
        let c : n ≡ length (words_of bs) = ap (λ y. y.1) x in
        let k : all ≡ padded 4096 (words_of bs) = rw p at a in
        record {
          words_are = rw (k, c ∙ words_length bs) (front_is bs p);
          count_is = c;
          types_are = ap (λ y. y.0) x;
          fits = header_fits (words_of bs) q;
          check_is = rw (check_opens bs, ← e);
          few = omega (arith, words_bounds bs p);
          array_is = rw k (padded_length 4096 (words_of bs));
        }
    sized true p false q = let z : ◌≡◌ {A = ℕ} 0 1 = cc in absurd (omega arith)
    sized false p h q = let z : ◌≡◌ {A = ℕ} 0 1 = cc in absurd (omega arith)

-- A file that passes the check is opened.
pub check_opened : (bs : List ℕ) (x : Recipe) → check bs ≡ passed x → passed (type_count (words_of bs), length (words_of bs)) ≡ opening bs
check_opened bs x e = tested (is_size (length bs)) refl (is_header (words_of bs)) refl
  where
    tested : (s : Bool) → is_size (length bs) ≡ s → (h : Bool) → is_header (words_of bs) ≡ h
        → passed (type_count (words_of bs), length (words_of bs)) ≡ opening bs
    tested true p true q = rw (p, q)
    tested true p false q = absurd (not_both 2 0 x (sym (check_refused bs (rw (p, q))) ∙ e))
    tested false p h q = absurd (not_both 1 0 x (sym (check_refused bs (rw p)) ∙ e))
