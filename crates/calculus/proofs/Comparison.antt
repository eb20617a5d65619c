-- The comparison of two types: none where they are equal; else the first word in which they differ, which lies within both. Assumes nothing.
use Prim.Native.Nat.{ℕ, zero, suc, ◌+◌, ◌%◌, ◌<◌}
use mathlib.Core.Bool.{Bool, true, false, cond, false≢true}
use mathlib.Core.List.{List, [], ◌∷◌}
use mathlib.Core.Logic.{◌↔◌, ◌⊎◌, inl, inr}
use mathlib.Core.Option.{Option, none, some, none-ne-some, some-injective}
use mathlib.Core.Path.{◌≡◌, refl, sym, ap, ◌∙◌, subst}
use borrow.Author.Tests.{eqb-true, eq-eqb, eqb-false, ne_eqb}
use lib.Dec.{eqb}
use lib.ListN.{length, get_or, take}
use native.Mathlib.Omega.{arith}
use Rattle.calculus.specs.Trees.{Ty, N, L, list, ◌to◌, ml}
use Rattle.calculus.specs.Words.{word, put_ty, words_ty, size_ty}
use Rattle.calculus.specs.Kinds.{type}
use Rattle.calculus.specs.Verdicts.{found}
use Rattle.calculus.specs.Comparison.{further_on, first_difference, compare_types, DifferAt, ComparesExactly}
use Rattle.calculus.specs.Inference.{same_type, EqualByWords}
use Rattle.calculus.proofs.Sizes.{tree_append, tree_length}
use Rattle.calculus.proofs.Views.{view, sized}
use Rattle.calculus.proofs.Types.{kind_first, by_pairs, words_tell}

-- Further on, and further on again.
pub further_twice : (n m k : ℕ) (o : Option ℕ) → k ≡ n + m → further_on n (further_on m o) ≡ further_on k o
further_twice n m k none e = refl
further_twice n m k (some d) e = ap some (omega (arith, e))

none_further : (n : ℕ) (o : Option ℕ) → further_on n o ≡ none → o ≡ none
none_further n none q = refl
none_further n (some d) q = absurd (none-ne-some (n + d) (sym q))

some_further : (m : ℕ) (o : Option ℕ) → further_on 1 o ≡ some m → (d : ℕ) × (o ≡ some d) × (m ≡ suc d)
some_further m none q = absurd (none-ne-some m q)
some_further m (some d) q = (d, refl, omega (arith, some-injective (1 + d) m q))

-- Lists that begin with one word, and lists that begin with two.
pub past_first : (x : ℕ) (xs ys : List ℕ) → first_difference (x ∷ xs) (x ∷ ys) ≡ further_on 1 (first_difference xs ys)
unfolding first_difference
past_first x xs ys = rw (eq-eqb x x refl)

pub at_first : (xs ys : List ℕ) → ¬ (get_or xs 0 0 ≡ get_or ys 0 0) → first_difference xs ys ≡ some 0
unfolding first_difference
at_first [] [] d = absurd (d refl)
at_first [] (y ∷ ys) d = refl
at_first (x ∷ xs) [] d = refl
at_first (x ∷ xs) (y ∷ ys) d = rw (ne_eqb x y d)

-- There is no difference exactly between equal lists.
no_difference : (xs ys : List ℕ) → first_difference xs ys ≡ none → xs ≡ ys
unfolding first_difference
no_difference [] [] q = refl
no_difference [] (y ∷ ys) q = absurd (none-ne-some 0 (sym q))
no_difference (x ∷ xs) [] q = absurd (none-ne-some 0 (sym q))
no_difference (x ∷ xs) (y ∷ ys) q = by (eqb x y) refl (no_difference xs ys) q
  where
    by : (b : Bool) → eqb x y ≡ b → (first_difference xs ys ≡ none → xs ≡ ys) → cond b (further_on 1 (first_difference xs ys)) (some 0) ≡ none
        → x ∷ xs ≡ y ∷ ys
    by true e h r = rw (eqb-true x y e, h (none_further 1 (first_difference xs ys) r))
    by false e h r = absurd (none-ne-some 0 (sym r))

with_itself : (xs : List ℕ) → first_difference xs xs ≡ none
unfolding first_difference
with_itself [] = refl
with_itself (x ∷ xs) = past_first x xs xs ∙ rw (with_itself xs)

-- Behind equal words, lists differ as they do there.
behind_equal : {x y : ℕ} {xs ys : List ℕ} {n : ℕ} → x ≡ y → DifferAt xs ys n → DifferAt (x ∷ xs) (y ∷ ys) (suc n)
behind_equal e d =
    record {
      in_first = omega (arith, d.in_first);
      in_second = omega (arith, d.in_second);
      agree = rw (e, d.agree);
      differ = d.differ;
    }

behind_first : {x y : ℕ} {xs ys : List ℕ} {n : ℕ} → DifferAt (x ∷ xs) (y ∷ ys) (suc n) → (x ≡ y) × DifferAt xs ys n
behind_first {x} {y} {xs} {ys} {n} d =
    let q : x ∷ take n xs ≡ y ∷ take n ys = d.agree in (
      cc,
      record { in_first = omega (arith, d.in_first); in_second = omega (arith, d.in_second); agree = cc; differ = d.differ },
    )

-- A difference within both lists is one word that differs, behind words that agree; and there is one at most.
within_both : (xs ys : List ℕ) (n : ℕ) → first_difference xs ys ≡ some n → n < length xs → n < length ys → DifferAt xs ys n
unfolding first_difference
within_both [] ys n q h g = absurd (omega (arith, h))
within_both (x ∷ xs) [] n q h g = absurd (omega (arith, g))
within_both (x ∷ xs) (y ∷ ys) n q h g = by (eqb x y) refl (within_both xs ys) q
  where
    by : (b : Bool) → eqb x y ≡ b → ((m : ℕ) → first_difference xs ys ≡ some m → m < length xs → m < length ys → DifferAt xs ys m)
        → cond b (further_on 1 (first_difference xs ys)) (some 0) ≡ some n → DifferAt (x ∷ xs) (y ∷ ys) n
    by true e f r =
        let k = some_further n (first_difference xs ys) r in
        let d = f k.0 k.1 (omega (arith, k.2, h)) (omega (arith, k.2, g)) in
        subst (λ (m : ℕ). DifferAt (x ∷ xs) (y ∷ ys) m) (sym k.2) (behind_equal (eqb-true x y e) d)
    by false e f r =
        subst (λ (m : ℕ). DifferAt (x ∷ xs) (y ∷ ys) m) (some-injective 0 n r)
        (record { in_first = omega arith; in_second = omega arith; agree = refl; differ = eqb-false x y e })

differ_found : (xs ys : List ℕ) (n : ℕ) → DifferAt xs ys n → first_difference xs ys ≡ some n
unfolding first_difference
differ_found [] ys n d = absurd (omega (arith, d.in_first))
differ_found (x ∷ xs) [] n d = absurd (omega (arith, d.in_second))
differ_found (x ∷ xs) (y ∷ ys) zero d = rw (ne_eqb x y d.differ)
differ_found (x ∷ xs) (y ∷ ys) (suc n) d = let k = behind_first d in rw (eq-eqb x y k.0, differ_found xs ys n k.1) (ap some (omega arith))

-- Past an equal type.
pub past_type : (t : Ty) (a b : List ℕ) → first_difference (put_ty t a) (put_ty t b) ≡ further_on (size_ty t) (first_difference a b)
unfolding put_ty size_ty
past_type N a b = past_first 1 a b
past_type (L o) a b = past_first (word 2 o) a b
past_type (list t) a b = past_first 3 _ _ ∙ ap (further_on 1) (past_type t a b) ∙ further_twice 1 (size_ty t) _ (first_difference a b) (omega arith)
past_type (t to u) a b =
    past_first 4 _ _ ∙ ap (further_on 1) (past_type t (put_ty u a) (put_ty u b) ∙ ap (further_on (size_ty t)) (past_type u a b)
    ∙ further_twice (size_ty t) (size_ty u) (size_ty t + size_ty u) (first_difference a b) refl)
    ∙ further_twice 1 (size_ty t + size_ty u) _ (first_difference a b) (omega arith)

-- Two types are equal, or differ in a word that both have, whatever stands behind them.
record Apart (t u : Ty) : Type 0 where
  at : ℕ
  in_first : at < size_ty t
  in_second : at < size_ty u
  is : (a b : List ℕ) → first_difference (put_ty t a) (put_ty u b) ≡ some at

-- Types whose first words differ.
at_once : (t u : Ty) → ((a b : List ℕ) → ¬ (get_or (put_ty t a) 0 0 ≡ get_or (put_ty u b) 0 0)) → Apart t u
at_once t u d =
    record {
      at = 0;
      in_first = omega (arith, sized (view type t));
      in_second = omega (arith, sized (view type u));
      is = λ a b. at_first _ _ (d a b);
    }

one_or_apart : (t u : Ty) → (t ≡ u) ⊎ Apart t u
unfolding put_ty size_ty
one_or_apart =
    by_pairs (λ t u. (t ≡ u) ⊎ Apart t u) (inl refl) (λ o u. of_lumps o u (eqb o u) refl) of_lists of_functions
    (λ t u n. inr (at_once t u (λ a b e. n (sym (kind_first t a) ∙ ap (λ (w : ℕ). w % 256) e ∙ kind_first u b))))
  where
    of_lumps : (o u : ℕ) (b : Bool) → eqb o u ≡ b → (L o ≡ L u) ⊎ Apart (L o) (L u)
    of_lumps o u true q = inl (ap L (eqb-true o u q))
    of_lumps o u false q = inr (at_once (L o) (L u) (λ a b e. eqb-false o u q (omega (arith, e))))

    of_lists : (t u : Ty) → (t ≡ u) ⊎ Apart t u → (list t ≡ list u) ⊎ Apart (list t) (list u)
    of_lists t u (inl q) = inl (ap list q)
    of_lists t u (inr d) =
        inr (record {
          at = suc d.at;
          in_first = omega (arith, d.in_first);
          in_second = omega (arith, d.in_second);
          is = λ a b. past_first 3 _ _ ∙ rw (d.is a b) (ap some (omega arith));
        })

    of_functions : (s t u v : Ty) → (s ≡ u) ⊎ Apart s u → (t ≡ v) ⊎ Apart t v → (s to t ≡ u to v) ⊎ Apart (s to t) (u to v)
    of_functions s t u v (inr d) x =
        inr (record {
          at = suc d.at;
          in_first = omega (arith, d.in_first);
          in_second = omega (arith, d.in_second);
          is = λ a b. past_first 4 _ _ ∙ rw (d.is (put_ty t a) (put_ty v b)) (ap some (omega arith));
        })
    of_functions s t u v (inl q) (inl r) = inl (rw (q, r))
    of_functions s t u v (inl q) (inr d) =
        inr (subst (λ (z : Ty). Apart (s to t) (z to v)) q
        (record {
          at = suc (size_ty s + d.at);
          in_first = omega (arith, d.in_first);
          in_second = omega (arith, d.in_second);
          is = λ a b. past_first 4 _ _ ∙ rw (past_type s (put_ty t a) (put_ty v b), d.is a b) (ap some (omega arith));
        }))

-- Two types are equal exactly if their words are, and so the comparison finds no difference.
types_iff : (t u : Ty) → (t ≡ u) ↔ (words_ty t ≡ words_ty u)
types_iff t u = (ap words_ty, λ q. (words_tell t u [] [] q).0)

pub equal_iff : (t u : Ty) → (compare_types t u ≡ none) ↔ (t ≡ u)
equal_iff t u = (
  λ q. (types_iff t u).1 (no_difference (words_ty t) (words_ty u) q),
  λ q. ap (λ (z : Ty). compare_types t z) (sym q) ∙ with_itself (words_ty t),
)

pub types_same_iff : (t u : Ty) → (same_type ml t u ≡ true) ↔ (t ≡ u)
types_same_iff t u = let i = equal_iff t u in (λ q. i.0 (by (compare_types t u) q), λ q. rw (i.1 q))
  where
    by : (o : Option ℕ) → found o true (λ d. false) ≡ true → o ≡ none
    by none q = refl
    by (some d) q = absurd (false≢true q)

-- Where the comparison finds a difference, the words differ there, whatever stands behind them.
pub differ_apart : (t u : Ty) (n : ℕ) → compare_types t u ≡ some n
    → (n < size_ty t) × (n < size_ty u) × ((a b : List ℕ) → first_difference (put_ty t a) (put_ty u b) ≡ some n)
differ_apart t u n q = by (one_or_apart t u)
  where
    by : (t ≡ u) ⊎ Apart t u → (n < size_ty t) × (n < size_ty u) × ((a b : List ℕ) → first_difference (put_ty t a) (put_ty u b) ≡ some n)
    by (inl e) = absurd (none-ne-some n (sym ((equal_iff t u).1 e) ∙ q))
    by (inr d) =
        let e : d.at ≡ n = some-injective d.at n (sym (d.is [] []) ∙ q) in
        (omega (arith, e, d.in_first), omega (arith, e, d.in_second), λ a b. d.is a b ∙ ap some e)

differ_iff : (t u : Ty) (n : ℕ) → (compare_types t u ≡ some n) ↔ DifferAt (words_ty t) (words_ty u) n
differ_iff t u n = (
  λ q.
      let d = differ_apart t u n q in
      within_both (words_ty t) (words_ty u) n q (omega (arith, d.0, tree_length type t [])) (omega (arith, d.1, tree_length type u [])),
  differ_found (words_ty t) (words_ty u) n,
)

pub compares : ComparesExactly
compares =
    record {
      equal = equal_iff;
      differ = differ_iff;
      no_start = λ t u k q. (words_tell t u k [] (tree_append type t [] k ∙ q)).1;
    }

-- "Types are equal when their words are": so the comparison of the typing is one of words.
pub equal_by_words : EqualByWords
equal_by_words =
    record {
      equal = types_iff;
      same = λ t u.
          let i = types_same_iff t u in
          let j = types_iff t u in
          (λ q. j.0 (i.0 q), λ q. i.1 (j.1 q));
    }

-- The comparison by the types' parts.
pub compare_lists : (t u : Ty) → compare_types (list t) (list u) ≡ further_on 1 (compare_types t u)
unfolding put_ty
compare_lists t u = past_first 3 (words_ty t) (words_ty u)

pub compare_arguments : (s t u v : Ty) (n : ℕ) → compare_types s u ≡ some n → compare_types (s to t) (u to v) ≡ some (suc n)
unfolding put_ty
compare_arguments s t u v n q = past_first 4 _ _ ∙ rw ((differ_apart s u n q).2 (words_ty t) (words_ty v)) (ap some (omega arith))

pub compare_results : (s t v : Ty) → compare_types (s to t) (s to v) ≡ further_on (suc (size_ty s)) (compare_types t v)
unfolding put_ty
compare_results s t v =
    past_first 4 _ _ ∙ ap (further_on 1) (past_type s (words_ty t) (words_ty v)) ∙ further_twice 1 (size_ty s) _ (compare_types t v) (omega arith)
