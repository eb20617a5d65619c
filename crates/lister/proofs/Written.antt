-- Fields, one after the other, and how many bytes they have. Assumes nothing.
use Prim.Native.Nat.{ℕ, zero, suc, ◌+◌, ◌≤◌, ◌<◌}
use mathlib.Core.List.{List, [], ◌∷◌, ◌++◌, append_assoc, append-nil}
use mathlib.Core.Path.{◌≡◌, sym, ap, ◌∙◌}
use native.Mathlib.Omega.{arith}
use native.Mathlib.Numerals.{add-one}
use lib.ListN.{length, take, get_or}
use lib.Seq.{take-suc}
use Rattle.text.specs.Decimal.{decimal}
use Rattle.text.proofs.Decimals.{decimal_length}
use Rattle.lister.specs.Listing.{field, fields}
use Rattle.lister.specs.Numbered.{Short}

-- A number of 32 bits has at most ten digits.
pub digits_few : (n : ℕ) → n < 4294967296 → length (decimal n) ≤ 10
digits_few n h = decimal_length 9 n (omega arith)

-- Each of such numbers is one.
pub short_at : (ns : List ℕ) → Short ns → (i : ℕ) → i < length ns → get_or ns i 0 < 4294967296
short_at [] s i h = absurd (omega (arith, h))
short_at (n ∷ ns) s zero h = s.0
short_at (n ∷ ns) s (suc i) h = short_at ns s.1 i (omega (arith, h))

-- One field more.
fields_append : (ns : List ℕ) (n : ℕ) → fields ns ++ field n ≡ fields (ns ++ n ∷ [])
fields_append [] n = sym (append-nil (field n))
fields_append (m ∷ ns) n = append_assoc (field m) (fields ns) (field n) ∙ ap (λ (l : List ℕ). field m ++ l) (fields_append ns n)

pub fields_more : (ns : List ℕ) (i : ℕ) → i < length ns → fields (take i ns) ++ field (get_or ns i 0) ≡ fields (take (i + 1) ns)
fields_more ns i h = fields_append (take i ns) (get_or ns i 0) ∙ rw (add-one i) (ap fields (sym (take-suc ns i 0 h)))
