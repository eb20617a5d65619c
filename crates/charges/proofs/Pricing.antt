-- Laws of bands, charges and prices. Assumes nothing.
use Prim.Native.Nat.{ℕ, zero, suc, ◌<◌, ◌≤◌, ◌+◌}
use mathlib.Core.List.{List, [], ◌∷◌, ◌++◌}
use mathlib.Core.Path.{◌≡◌, refl, sym, ap, subst, ◌∙◌}
use native.Mathlib.Decide.{dec_le}
use native.Mathlib.Nat.{zero-mul}
use native.Mathlib.Omega.{arith}
use lib.ListN.{length, get_or, replicate}
use denote.Param.Members.{Mut, Called}
use Rattle.std.specs.Array.{IsFromFnResult, IsFromFnResultFrom}
use Rattle.std.proofs.lemmas.List.{ext_get_or}
use Rattle.charges.specs.Prices.{Prices, price, band, charge, charges}

-- No pulses cost nothing.
charge_none : (cents : ℕ) → 0 ≡ charge 0 cents
charge_none cents = rw (zero-mul cents)

pub charges_length : (prices : Prices) (ns : List ℕ) → length (charges prices ns) ≡ length prices
unfolding charges
charges_length [] ns = refl
charges_length (row ∷ rows) [] = ap suc (charges_length rows [])
charges_length (row ∷ rows) (n ∷ ns) = ap suc (charges_length rows ns)

-- The charge of one pump; a pump without an item is one that gives 0 pulses.
pub charge_at : (prices : Prices) (ns : List ℕ) (i : ℕ) → i < length prices
    → charge (get_or ns i 0) (price prices i (band (get_or ns i 0))) ≡ get_or (charges prices ns) i 0
unfolding charges
charge_at [] ns i h = absurd (omega arith)
charge_at (row ∷ rows) [] zero h = sym (charge_none (get_or row 0 0))
charge_at (row ∷ rows) [] (suc i) h = charge_at rows [] i (omega arith)
charge_at (row ∷ rows) (n ∷ ns) zero h = refl
charge_at (row ∷ rows) (n ∷ ns) (suc i) h = charge_at rows ns i (omega arith)

-- Pumps that give 0 pulses are as those without an item.
pub charges_zeros : (prices : Prices) (ns : List ℕ) (k : ℕ) → charges prices (ns ++ replicate k 0) ≡ charges prices ns
unfolding charges
charges_zeros [] ns k = refl
charges_zeros (row ∷ rows) [] zero = refl
charges_zeros (row ∷ rows) [] (suc k) = rw (← (charge_none (get_or row 0 0)), charges_zeros rows [] k)
charges_zeros (row ∷ rows) (n ∷ ns) k = ap (λ (cs : List ℕ). charge n (get_or row (band n) 0) ∷ cs) (charges_zeros rows ns k)

-- What a table holds that is made by calls, one for each index, of a closure that computes a function of the index.
module _ {F : Type 0} (g : Mut F (ℕ × Unit {0}) ℕ) (ys : List ℕ) (f : F) (h : ℕ → ℕ)
    (computes : (i y : ℕ) (q : F) → Called g f (i, tt) y q → (q ≡ f) × (y ≡ h i)) where
  made_from : (n i : ℕ) → IsFromFnResultFrom g f ys i n → (k : ℕ) → i ≤ k → k < i + n → get_or ys k 0 ≡ h k
  made_from zero i r k l u = absurd (omega arith)
  made_from (suc n) i r k l u =
      let call : (r.0 ≡ f) × (r.1 ≡ h i) = computes i r.1 r.0 r.3 in
      let rest = subst (λ q. IsFromFnResultFrom g q ys (i + 1) n) call.0 r.4 in
      first (dec_le k i) (r.2.1 0 ∙ call.1) (λ d. made_from n (i + 1) rest k (omega arith) (omega arith))
    where
      first : Dec (k ≤ i) → get_or ys i 0 ≡ h i → ((k ≤ i → ⊥) → get_or ys k 0 ≡ h k) → get_or ys k 0 ≡ h k
      first (yes d) here later = let e : k ≡ i = omega arith in rw e here
      first (no d) here later = later d

  pub made_by_index : {n : ℕ} → IsFromFnResult g f ys n → (k : ℕ) → k < length ys → get_or ys k 0 ≡ h k
  made_by_index r k u = made_from _ 0 r.each k (omega arith) (omega (arith, r.long))

-- Charges that are each the one of their pump are the charges.
pub charges_by_pump : (prices : Prices) (ns cs : List ℕ) → length cs ≡ length prices
    → ((i : ℕ) → i < length cs → get_or cs i 0 ≡ charge (get_or ns i 0) (price prices i (band (get_or ns i 0)))) → cs ≡ charges prices ns
charges_by_pump prices ns cs l of_pump =
    ext_get_or 0 cs (charges prices ns) (l ∙ sym (charges_length prices ns)) (λ i h. of_pump i h ∙ charge_at prices ns i (rw (← l) h))
