-- Laws of numbers in decimal: they are spelt digit by digit, as the library does, with so many digits, and a reader has them back. Assumes nothing.
use Prim.Native.Nat.{ℕ, zero, suc, ◌+◌, ◌-◌, ◌*◌, ◌/◌, ◌%◌, ◌^◌, ◌≤◌, ◌<◌}
use mathlib.Core.List.{List, [], ◌∷◌, ◌++◌}
use mathlib.Core.Logic.{◌⊎◌, inl, inr, ◌↔◌}
use mathlib.Core.Path.{◌≡◌, refl, sym, ap, ◌∙◌, subst}
use native.Mathlib.Decide.{dec_lt}
use native.Mathlib.Nat.{pow-suc}
use native.Mathlib.Omega.{arith}
use lib.ListN.{length, length-append, get_or}
use borrow.Author.Tests.{lt-ltb, le-ltb}
use Rattle.std.specs.Fmt.{decimal as std_decimal}
use Rattle.std.proofs.lemmas.Fmt.{AppendsLastDigit, decimal_from_appends, length-decimal-le_succ}
use Rattle.text.specs.Decimal.{digit, spelt, decimal, Digits, value_after, InDecimal}

-- One digit, or the digits of the tenth and one more.
small : (k n : ℕ) → n < 10 → spelt k n ≡ digit n ∷ []
small zero n h = let e : n % 10 ≡ n = omega arith in rw e
small (suc k) n h = rw (lt-ltb n 10 h, spelt)

more : (k n : ℕ) → 10 ≤ n → spelt (suc k) n ≡ spelt k (n / 10) ++ digit (n % 10) ∷ []
more k n h = rw (le-ltb n 10 h, spelt)

-- More digits may be asked for than there are.
enough : (j k n : ℕ) → n ≤ j → n ≤ k → spelt j n ≡ spelt k n
enough zero k n h i = small 0 n (omega arith) ∙ sym (small k n (omega arith))
enough (suc j) zero n h i = small (suc j) n (omega arith) ∙ sym (small 0 n (omega arith))
enough (suc j) (suc k) n h i = by (dec_lt n 10) (λ a b. enough j k (n / 10) a b)
  where
    by : Dec (n < 10) → (n / 10 ≤ j → n / 10 ≤ k → spelt j (n / 10) ≡ spelt k (n / 10)) → spelt (suc j) n ≡ spelt (suc k) n
    by (yes g) same = small (suc j) n g ∙ sym (small (suc k) n g)
    by (no g) same =
        let le : 10 ≤ n = omega arith in
        more j n le ∙ ap (λ (ds : List ℕ). ds ++ digit (n % 10) ∷ []) (same (omega arith) (omega arith)) ∙ sym (more k n le)

decimal_few : (n : ℕ) → n < 10 → decimal n ≡ digit n ∷ []
unfolding decimal
decimal_few n h = small n n h

pub decimal_small : (n : ℕ) → n < 10 → decimal n ≡ digit (n % 10) ∷ []
decimal_small n h = let e : n % 10 ≡ n = omega arith in decimal_few n h ∙ rw e

pub decimal_more : (n : ℕ) → 10 ≤ n → decimal n ≡ decimal (n / 10) ++ digit (n % 10) ∷ []
unfolding decimal
decimal_more zero h = absurd (omega (arith, h))
decimal_more (suc n) h =
    let same = enough n (suc n / 10) (suc n / 10) (omega arith) (omega arith) in
    more n (suc n) h ∙ ap (λ (ds : List ℕ). ds ++ digit (suc n % 10) ∷ []) same

-- A number below a power of ten has no more digits than the power says.
pub decimal_length : (k n : ℕ) → n < 10 ^ suc k → length (decimal n) ≤ suc k
decimal_length zero n h = rw (decimal_small n h) (omega arith)
decimal_length (suc k) n h = by (dec_lt n 10) (λ g. decimal_length k (n / 10) g)
  where
    by : Dec (n < 10) → (n / 10 < 10 ^ suc k → length (decimal (n / 10)) ≤ suc k) → length (decimal n) ≤ suc (suc k)
    by (yes g) fewer = rw (decimal_small n g) (omega arith)
    by (no g) fewer =
        let le : 10 ≤ n = omega arith in
        omega (
          arith,
          ap length (decimal_more n le),
          length-append (decimal (n / 10)) (digit (n % 10) ∷ []),
          fewer (omega (arith, pow-suc 10 (suc k), h)),
        )

-- A number of 64 bits is spelt as the library spells it.
steps : AppendsLastDigit spelt
steps = record { one = λ k n h. small (suc k) n h; more = λ k n h. more k n h }

pub decimal_is : (n : ℕ) → n < 2 ^ 64 → std_decimal n ≡ decimal n
unfolding decimal
decimal_is n h =
    sym (decimal_from_appends spelt steps (n + 1) n h (length-decimal-le_succ n h)) ∙ enough (n + 1) n n (omega arith) (omega arith)

-- What a reader must know of it.
digits_append : (xs ys : List ℕ) → Digits xs → Digits ys → Digits (xs ++ ys)
digits_append [] ys h i = i
digits_append (x ∷ xs) ys h i = (h.0, h.1, digits_append xs ys h.2 i)

value_append : (v : ℕ) (xs ys : List ℕ) → value_after v (xs ++ ys) ≡ value_after (value_after v xs) ys
value_append v [] ys = refl
value_append v (x ∷ xs) ys = value_append (10 * v + (x - 48)) xs ys

one_digit : (n : ℕ) → n < 10 → InDecimal n (digit n ∷ [])
one_digit zero h = record { digits = (omega arith, omega arith, tt); value = refl; first = inl refl }
one_digit (suc n) h = record { digits = (omega arith, omega arith, tt); value = omega arith; first = inr (omega arith) }

first_append : (n : ℕ) (ds : List ℕ) (d : ℕ) → 10 ≤ n → InDecimal (n / 10) ds → (ds ++ d ∷ [] ≡ 48 ∷ []) ⊎ (48 < get_or (ds ++ d ∷ []) 0 0)
first_append n [] d h i = absurd (omega (arith, i.value))
first_append n (x ∷ xs) d h i = by i.first
  where
    by : (x ∷ xs ≡ 48 ∷ []) ⊎ (48 < x) → (x ∷ xs ++ d ∷ [] ≡ 48 ∷ []) ⊎ (48 < x)
    by (inl e) = absurd (omega (arith, ap (value_after 0) e, i.value))
    by (inr g) = inr g

one_more : (n : ℕ) (ds : List ℕ) → 10 ≤ n → InDecimal (n / 10) ds → InDecimal n (ds ++ digit (n % 10) ∷ [])
one_more n ds h i =
    record {
      digits = digits_append ds (digit (n % 10) ∷ []) i.digits (omega arith, omega arith, tt);
      value = value_append 0 ds (digit (n % 10) ∷ []) ∙ omega (arith, i.value);
      first = first_append n ds (digit (n % 10)) h i;
    }

in_decimal_to : (k n : ℕ) → n ≤ k → InDecimal n (decimal n)
in_decimal_to zero n h = let s : n < 10 = omega arith in rw (decimal_few n s) (one_digit n s)
in_decimal_to (suc k) n h = by (dec_lt n 10) (λ g. in_decimal_to k (n / 10) g)
  where
    by : Dec (n < 10) → (n / 10 ≤ k → InDecimal (n / 10) (decimal (n / 10))) → InDecimal n (decimal n)
    by (yes g) tenth = rw (decimal_few n g) (one_digit n g)
    by (no g) tenth = let le : 10 ≤ n = omega arith in rw (decimal_more n le) (one_more n (decimal (n / 10)) le (tenth (omega arith)))

in_decimal : (n : ℕ) → InDecimal n (decimal n)
in_decimal n = in_decimal_to n n (omega arith)

-- No other digits are.
digits_split : (xs ys : List ℕ) → Digits (xs ++ ys) → Digits xs × Digits ys
digits_split [] ys h = (tt, h)
digits_split (x ∷ xs) ys h = let i = digits_split xs ys h.2 in ((h.0, h.1, i.0), i.1)

value_more : (v : ℕ) (ds : List ℕ) → v ≤ value_after v ds
value_more v [] = omega arith
value_more v (d ∷ ds) = omega (arith, value_more (10 * v + (d - 48)) ds)

last_digit_lem : (x : ℕ) (xs : List ℕ) → (ys : List ℕ) × (d : ℕ) × (x ∷ xs ≡ ys ++ d ∷ [])
last_digit_lem x [] = ([], x, refl)
last_digit_lem x (y ∷ ys) = let i = last_digit_lem y ys in (x ∷ i.0, i.1, ap (λ (l : List ℕ). x ∷ l) i.2)

-- One digit; or some, which are those of the tenth, and one more.
only_one : (n d : ℕ) → InDecimal n (d ∷ []) → d ∷ [] ≡ decimal n
only_one n d h =
    let e : d ≡ digit n = omega (arith, h.digits.0, h.value) in
    ap (λ (x : ℕ). x ∷ []) e ∙ sym (decimal_few n (omega (arith, h.digits.0, h.digits.1, h.value)))

tenth_of : (n y : ℕ) (zs : List ℕ) (d : ℕ) → InDecimal n ((y ∷ zs) ++ d ∷ []) → InDecimal (n / 10) (y ∷ zs) × (10 ≤ n) × (d ≡ digit (n % 10))
tenth_of n y zs d h =
    let s = digits_split (y ∷ zs) (d ∷ []) h.digits in
    let v = value_append 0 (y ∷ zs) (d ∷ []) in
    let first : 48 < y = not_alone h.first in
    let some = value_more (10 * 0 + (y - 48)) zs in (
      record { digits = s.0; value = omega (arith, h.value, v, s.1.0, s.1.1); first = inr first },
      omega (arith, h.value, v, some, first),
      omega (arith, h.value, v, s.1.0, s.1.1),
    )
  where
    not_alone : ((y ∷ zs) ++ d ∷ [] ≡ 48 ∷ []) ⊎ (48 < y) → 48 < y
    not_alone (inl e) = absurd (omega (arith, ap length e, length-append zs (d ∷ [])))
    not_alone (inr g) = g

not_empty : (n : ℕ) → InDecimal n [] → ⊥
not_empty n i = by i.first
  where
    by : (◌≡◌ {A = List ℕ} [] (48 ∷ [])) ⊎ (48 < 0) → ⊥
    by (inl e) = omega (arith, ap length e)
    by (inr g) = omega (arith, g)

only_to : (k n : ℕ) (ds : List ℕ) → length ds ≤ k → InDecimal n ds → ds ≡ decimal n
only_to zero n ds h i = absurd (by ds h i)
  where
    by : (ds : List ℕ) → length ds ≤ 0 → InDecimal n ds → ⊥
    by [] h i = not_empty n i
    by (x ∷ xs) h i = omega (arith, h)
only_to (suc k) n ds h i = split ds h i (λ m zs. only_to k m zs)
  where
    Fewer : Type 0
    Fewer = (m : ℕ) (zs : List ℕ) → length zs ≤ k → InDecimal m zs → zs ≡ decimal m

    by : (ys : List ℕ) (d : ℕ) → length (ys ++ d ∷ []) ≤ suc k → InDecimal n (ys ++ d ∷ []) → Fewer → ys ++ d ∷ [] ≡ decimal n
    by [] d h i fewer = only_one n d i
    by (y ∷ ys) d h i fewer =
        let t = tenth_of n y ys d i in
        let q = fewer (n / 10) (y ∷ ys) (omega (arith, h, length-append (y ∷ ys) (d ∷ []))) t.0 in
        ap (λ (l : List ℕ). l ++ d ∷ []) q ∙ ap (λ (z : ℕ). decimal (n / 10) ++ z ∷ []) t.2 ∙ sym (decimal_more n t.1)

    split : (ds : List ℕ) → length ds ≤ suc k → InDecimal n ds → Fewer → ds ≡ decimal n
    split [] h i fewer = absurd (not_empty n i)
    split (x ∷ xs) h i fewer =
        let l = last_digit_lem x xs in
        l.2 ∙ by l.0 l.1 (subst (λ (z : List ℕ). length z ≤ suc k) l.2 h) (subst (InDecimal n) l.2 i) fewer

-- So `decimal n` is n in decimal, and nothing else is.
pub decimal_iff : (n : ℕ) (ds : List ℕ) → InDecimal n ds ↔ (ds ≡ decimal n)
decimal_iff n ds = (only_to (length ds) n ds (omega arith), λ e. subst (InDecimal n) (sym e) (in_decimal n))
