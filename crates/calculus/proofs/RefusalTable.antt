-- The check refuses as the table says, and no otherwise. Assumes nothing.
use Prim.Native.Nat.{ℕ, zero, suc, ◌+◌, ◌%◌, ◌≤◌}
use mathlib.Core.Bool.{Bool, true, false, true≢false}
use mathlib.Core.List.{List}
use mathlib.Core.Logic.{◌↔◌, ◌⊎◌, inl, inr}
use mathlib.Core.Path.{◌≡◌, refl, sym, ◌∙◌, subst}
use lib.Dec.{eqb, leb}
use lib.ListN.{length, get_or, drop, length-drop}
use lib.Seq.{length-take-le}
use borrow.Author.Tests.{eqb-true, eqb-false, leb-true, leb-false}
use native.Mathlib.Omega.{arith}
use Rattle.calculus.specs.Verdicts.{Verdict, refused, unless}
use Rattle.calculus.specs.File.{words_of, is_size, is_header, type_count, type_words, term_words, Recipe, judged, check_words, check}
use Rattle.calculus.specs.Offences.{SizeFault, HeaderFault, NotDue, TooDeep}
use Rattle.calculus.specs.RefusalTable.{RefusedWords, three, four, five, six, seven, RefusedFile, one, two, words, Tabled}
use Rattle.calculus.proofs.Verdicts.{refused_injective}
use Rattle.calculus.proofs.Files.{size_iff, header_iff}
use Rattle.calculus.proofs.Refusing.{judged_refused}
use Rattle.calculus.proofs.Offences.{three_iff, four_iff, judged_iff, five_iff}
use Rattle.calculus.proofs.Mismatches.{points}

-- Words handed in: 3 to 7, and no other number.
module _ (types terms : List ℕ) where
  abbrev start : ℕ
  start = 4 + length types

  by_number : (n p : ℕ) → 3 ≤ n → n ≤ 7 → judged types terms start ≡ refused n p → RefusedWords types terms n p
  by_number zero p i j q = absurd (omega (arith, i))
  by_number (suc zero) p i j q = absurd (omega (arith, i))
  by_number (suc (suc zero)) p i j q = absurd (omega (arith, i))
  by_number (suc (suc (suc zero))) p i j q = three p ((judged_iff types terms start NotDue 3 (omega arith) three_iff p).0 q)
  by_number (suc (suc (suc (suc zero)))) p i j q = four p ((judged_iff types terms start TooDeep 4 (omega arith) four_iff p).0 q)
  by_number (suc (suc (suc (suc (suc zero))))) p i j q = five p ((five_iff types terms start p).0 q)
  by_number (suc (suc (suc (suc (suc (suc zero)))))) p i j q = six p ((points.six_of_words types terms p).0 q)
  by_number (suc (suc (suc (suc (suc (suc (suc zero))))))) p i j q = seven p ((points.seven_of_words types terms p).0 q)
  by_number (suc (suc (suc (suc (suc (suc (suc (suc n)))))))) p i j q = absurd (omega (arith, j))

  by_table : {n p : ℕ} → RefusedWords types terms n p → judged types terms start ≡ refused n p
  by_table (three p h) = (judged_iff types terms start NotDue 3 (omega arith) three_iff p).1 h
  by_table (four p h) = (judged_iff types terms start TooDeep 4 (omega arith) four_iff p).1 h
  by_table (five p h) = (five_iff types terms start p).1 h
  by_table (six p h) = (points.six_of_words types terms p).1 h
  by_table (seven p h) = (points.seven_of_words types terms p).1 h

  words_iff : (n p : ℕ) → (judged types terms start ≡ refused n p) ↔ RefusedWords types terms n p
  words_iff n p = (
    λ q. let b = judged_refused types terms start (start + length terms) n p (omega arith) (omega arith) q in by_number n p b.0 b.1 q,
    by_table,
  )

-- A file's size and header.
size_fault : (bytes : List ℕ) → (is_size (length bytes) ≡ false) ↔ SizeFault bytes
size_fault bytes = (to, from)
  where
    n : ℕ
    n = length bytes

    to : is_size n ≡ false → SizeFault bytes
    to z = by (leb 24 n) refl (leb n 16384) refl
      where
        sized : 24 ≤ n → n ≤ 16384 → ¬ (n % 4 ≡ 0)
        sized i j k = true≢false (sym ((size_iff n).1 ((i, j), k)) ∙ z)

        by : (a : Bool) → leb 24 n ≡ a → (b : Bool) → leb n 16384 ≡ b → SizeFault bytes
        by false p b q = inr (inl (leb-false 24 n p))
        by true p false q = inr (inr (leb-false n 16384 q))
        by true p true q = inl (sized (leb-true 24 n p) (leb-true n 16384 q))

    from : SizeFault bytes → is_size n ≡ false
    from f = by (is_size n) refl
      where
        none : ((24 ≤ n) × (n ≤ 16384)) × (n % 4 ≡ 0) → SizeFault bytes → ⊥
        none i (inl g) = g i.1
        none i (inr (inl g)) = omega (arith, i.0.0, g)
        none i (inr (inr g)) = omega (arith, i.0.1, g)

        by : (b : Bool) → is_size n ≡ b → b ≡ false
        by false z = refl
        by true z = absurd (none ((size_iff n).0 z) f)

header_fault : (ws : List ℕ) → (is_header ws ≡ false) ↔ HeaderFault ws
header_fault ws = (to, from)
  where
    a : ℕ
    a = get_or ws 0 0

    b : ℕ
    b = get_or ws 1 0

    c : ℕ
    c = get_or ws 2 0

    d : ℕ
    d = get_or ws 3 0

    to : is_header ws ≡ false → HeaderFault ws
    to z = by (eqb a 0) refl (eqb c 0) refl (eqb b 4) refl (eqb d (4 + a)) refl
      where
        by : (t : Bool) → eqb a 0 ≡ t → (u : Bool) → eqb c 0 ≡ u → (v : Bool) → eqb b 4 ≡ v → (w : Bool) → eqb d (4 + a) ≡ w → HeaderFault ws
        by true p u q v r w s = inl (eqb-true a 0 p)
        by false p true q v r w s = inr (inl (eqb-true c 0 q))
        by false p false q false r w s = inr (inr (inl (eqb-false b 4 r)))
        by false p false q true r false s = inr (inr (inr (inl (eqb-false d (4 + a) s))))
        by false p false q true r true s =
            let i : 1 ≤ a = omega (arith, eqb-false a 0 p) in
            let j : 1 ≤ c = omega (arith, eqb-false c 0 q) in
            inr (inr (inr (inr (λ k.
            true≢false (sym ((header_iff ws).1 ((((i, eqb-true b 4 r), j), eqb-true d (4 + a) s), k)) ∙ z)))))

    from : HeaderFault ws → is_header ws ≡ false
    from f = by (is_header ws) refl
      where
        none : is_header ws ≡ true → HeaderFault ws → ⊥
        none z (inl g) = omega (arith, ((header_iff ws).0 z).0.0.0.0, g)
        none z (inr (inl g)) = omega (arith, ((header_iff ws).0 z).0.0.1, g)
        none z (inr (inr (inl g))) = g ((header_iff ws).0 z).0.0.0.1
        none z (inr (inr (inr (inl g)))) = g ((header_iff ws).0 z).0.1
        none z (inr (inr (inr (inr g)))) = g ((header_iff ws).0 z).1

        by : (t : Bool) → is_header ws ≡ t → t ≡ false
        by false z = refl
        by true z = absurd (none z f)

-- The check, by its size, its header and its words.
module _ (bytes : List ℕ) where
  abbrev ws : List ℕ
  ws = words_of bytes

  abbrev inside : Verdict Recipe
  inside = judged (type_words ws) (term_words ws) (4 + type_count ws)

  -- The three ways of a refusal.
  abbrev Way : ℕ → ℕ → Type 0
  Way n p =
      ((is_size (length bytes) ≡ false) × (n ≡ 1) × (p ≡ 0)) ⊎ ((is_size (length bytes) ≡ true) × (is_header ws ≡ false) × (n ≡ 2) × (p ≡ 0))
      ⊎ ((is_size (length bytes) ≡ true) × (is_header ws ≡ true) × (inside ≡ refused n p))

  by_size : (n p : ℕ) → (check bytes ≡ refused n p) ↔ Way n p
  unfolding check check_words
  by_size n p = (λ q. to (is_size (length bytes)) refl (is_header ws) refl q, from)
    where
      to : (a : Bool) → is_size (length bytes) ≡ a → (b : Bool) → is_header ws ≡ b → unless a 1 0 (unless b 2 0 inside) ≡ refused n p → Way n p
      to false e b f q = let i = refused_injective q in inl (e, sym i.0, sym i.1)
      to true e false f q = let i = refused_injective q in inr (inl (e, f, sym i.0, sym i.1))
      to true e true f q = inr (inr (e, f, q))

      from : Way n p → unless (is_size (length bytes)) 1 0 (unless (is_header ws) 2 0 inside) ≡ refused n p
      from (inl (e, i, j)) = rw (e, i, j)
      from (inr (inl (e, f, i, j))) = rw (e, f, i, j)
      from (inr (inr (e, f, q))) = rw (e, f) q

  no_size_fault : is_size (length bytes) ≡ true → ¬ SizeFault bytes
  no_size_fault e f = true≢false (sym e ∙ (size_fault bytes).1 f)

  size_fits : ¬ SizeFault bytes → is_size (length bytes) ≡ true
  size_fits f = by (is_size (length bytes)) refl
    where
      by : (b : Bool) → is_size (length bytes) ≡ b → b ≡ true
      by true e = refl
      by false e = absurd (f ((size_fault bytes).0 e))

  no_header_fault : is_header ws ≡ true → ¬ HeaderFault ws
  no_header_fault e f = true≢false (sym e ∙ (header_fault ws).1 f)

  header_fits : ¬ HeaderFault ws → is_header ws ≡ true
  header_fits f = by (is_header ws) refl
    where
      by : (b : Bool) → is_header ws ≡ b → b ≡ true
      by true e = refl
      by false e = absurd (f ((header_fault ws).0 e))

  -- Behind a header in order the term starts where the type ends.
  begins : is_header ws ≡ true → 4 + type_count ws ≡ 4 + length (type_words ws)
  begins e =
      let i = (header_iff ws).0 e in
      omega (arith, i.0.1, i.1, length-drop 4 ws, length-take-le (type_count ws) (drop 4 ws) (omega (arith, i.0.1, i.1, length-drop 4 ws)))

  inside_is : is_header ws ≡ true → (n p : ℕ) → (inside ≡ refused n p) ↔ RefusedWords (type_words ws) (term_words ws) n p
  inside_is e n p =
      let types = type_words ws in
      let terms = term_words ws in
      subst (λ (k : ℕ). (judged types terms k ≡ refused n p) ↔ RefusedWords types terms n p) (sym (begins e)) (words_iff types terms n p)

  file_iff : (n p : ℕ) → (check bytes ≡ refused n p) ↔ RefusedFile bytes n p
  file_iff n p = (λ q. to ((by_size n p).0 q), from)
    where
      to : Way n p → RefusedFile bytes n p
      to (inl (e, i, j)) = rw (i, j) (one ((size_fault bytes).0 e))
      to (inr (inl (e, f, i, j))) = rw (i, j) (two (no_size_fault e) ((header_fault ws).0 f))
      to (inr (inr (e, f, q))) = words n p (no_size_fault e) (no_header_fault f) ((inside_is f n p).0 q)

      from : {n p : ℕ} → RefusedFile bytes n p → check bytes ≡ refused n p
      from (one f) = (by_size 1 0).1 (inl ((size_fault bytes).1 f, refl, refl))
      from (two e f) = (by_size 2 0).1 (inr (inl (size_fits e, (header_fault ws).1 f, refl, refl)))
      from (words n p e f h) = let g = header_fits f in (by_size n p).1 (inr (inr (size_fits e, g, (inside_is g n p).1 h)))

-- The numbers in the table.
words_number : {types terms : List ℕ} {n p : ℕ} → RefusedWords types terms n p → (3 ≤ n) × (n ≤ 7)
words_number (three p h) = (omega arith, omega arith)
words_number (four p h) = (omega arith, omega arith)
words_number (five p h) = (omega arith, omega arith)
words_number (six p h) = (omega arith, omega arith)
words_number (seven p h) = (omega arith, omega arith)

pub table_number : {bytes : List ℕ} {n p : ℕ} → RefusedFile bytes n p → (1 ≤ n) × (n ≤ 7)
table_number (one f) = (omega arith, omega arith)
table_number (two e f) = (omega arith, omega arith)
table_number (words n p e f h) = let i = words_number h in (omega (arith, i), i.1)

pub tabled : Tabled
tabled = record { file = file_iff; words = words_iff }
