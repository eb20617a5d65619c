-- A list of numbers read in words, one item after the other. Assumes nothing.
use Prim.Native.Nat.{ℕ, zero, suc, ◌+◌, ◌*◌, ◌/◌, ◌≤◌}
use mathlib.Core.List.{List, [], ◌∷◌, ◌++◌}
use mathlib.Core.Path.{◌≡◌, refl, sym, ap, ◌∙◌, subst}
use native.Mathlib.Nat.{sub-zero, zero-sub, suc-sub-suc}
use native.Mathlib.Omega.{arith}
use lib.ListN.{length, get_or, drop, set, replicate}
use lib.Seq.{sets, drop-cons}
use Rattle.std.proofs.Common.{append_assoc, append-nil}
use Rattle.calculus.specs.Trees.{ml, num}
use Rattle.calculus.specs.Words.{put, put_ty, words, size}
use Rattle.calculus.specs.Kinds.{term}
use Rattle.calculus.specs.File.{padded}
use Rattle.writing.specs.declared.Writer.{Writer}
use Rattle.writing.specs.Puts.{Puts}
use Rattle.writing.specs.Spans.{span}
use Rattle.writing.proofs.Measures.{span_tree}
use Rattle.writing.proofs.Stores.{puts_none, puts_then, puts_as}
use Rattle.pricing.specs.Items.{list_of}
use Rattle.pricing.specs.Parts.{Reads}

-- The items done are put, and the list goes on with those left.
pub record Parted (ns rest : List ℕ) (w₀ w : Writer ℕ) : Type 0 where
  pub done : List ℕ
  pub left : List ℕ
  pub all : ns ≡ done ++ left
  pub rest_is : rest ≡ words (list_of left)
  pub put : Puts w₀ done w

pub record Reading (ws rest : List ℕ) (w₀ w : Writer ℕ) : Type 0 where
  pub of : (ns : List ℕ) → ws ≡ words (list_of ns) → Parted ns rest w₀ w

pub starts : (ws : List ℕ) (w : Writer ℕ) → Reading ws ws w w
starts ws w = record { of = λ ns e. record { done = []; left = ns; all = refl; rest_is = e; put = puts_none w } }

-- The list goes on with a cons where an item is left, and else with nil.
no_cons : {item : List ℕ} → 25 ∷ item ≡ words (list_of []) → ⊥
unfolding put put_ty list_of
no_cons e = let z : 25 ≡ 24 = ap (λ (l : List ℕ). get_or l 0 0) e in omega (arith, z)

a_cons : (n : ℕ) (ns : List ℕ) → words (list_of (n ∷ ns)) ≡ 25 ∷ put {l = ml} (num n) (words (list_of ns))
unfolding put list_of
a_cons n ns = refl

a_number : (n : ℕ) (k : List ℕ) → get_or (put {l = ml} (num n) k) 0 0 ≡ 17 + 256 * n
unfolding put
a_number n k = refl

past_number : (n : ℕ) (k : List ℕ) → drop (size {l = ml} (num n)) (put {l = ml} (num n) k) ≡ k
unfolding put size
past_number n k = refl

-- A turn of the loop.
pub turn : {ws item : List ℕ} {w₀ w w' : Writer ℕ} {number n : ℕ} → Reading ws (25 ∷ item) w₀ w → number ≡ get_or item 0 0 / 256
    → Puts w (number ∷ []) w' → n ≡ span item 1 → Reading ws (drop n item) w₀ w'
turn {item = item} {w₀} {w} {w'} {number} {n} r m p s = record { of = λ ns e. let y = r.of ns e in by ns y.done y.left y.all y.rest_is y.put }
  where
    by : (ns done left : List ℕ) → ns ≡ done ++ left → 25 ∷ item ≡ words (list_of left) → Puts w₀ done w → Parted ns (drop n item) w₀ w'
    by ns done [] a e q = absurd (no_cons e)
    by ns done (x ∷ left) a e q =
        let next : item ≡ put {l = ml} (num x) (words (list_of left)) = ap (drop 1) (e ∙ a_cons x left) in
        let is : number ≡ x = m ∙ ap (λ (l : List ℕ). get_or l 0 0 / 256) next ∙ ap (λ (i : ℕ). i / 256) (a_number x _) ∙ omega arith in
        let past : n ≡ size {l = ml} (num x) = s ∙ span_tree (term ml) (num x) (words (list_of left)) item next in
        record {
          done = done ++ x ∷ [];
          left = left;
          all = a ∙ rw append_assoc;
          rest_is =
              ap (drop n) next ∙ ap (λ (i : ℕ). drop i (put {l = ml} (num x) (words (list_of left)))) past ∙ past_number x (words (list_of left));
          put = puts_then q (puts_as (ap (λ (i : ℕ). i ∷ []) is) p);
        }

-- The same of words that begin with a cons.
pub next : {ws rest : List ℕ} {w₀ w w' : Writer ℕ} {number n : ℕ} → Reading ws rest w₀ w → 1 ≤ length rest → get_or rest 0 0 ≡ 25
    → number ≡ get_or (drop 1 rest) 0 0 / 256 → Puts w (number ∷ []) w' → n ≡ span (drop 1 rest) 1
    → Reading ws (drop n (drop 1 rest)) w₀ w'
next {ws} {rest} {w₀} {w} r h c m p s =
    let is : rest ≡ 25 ∷ drop 1 rest = drop-cons rest 0 0 h ∙ ap (λ (i : ℕ). i ∷ drop 1 rest) c in
    turn (subst (λ (l : List ℕ). Reading ws l w₀ w) is r) m p s

-- Items put into zeros.
sets_suc : (x : ℕ) (l : List ℕ) (i : ℕ) (vs : List ℕ) → sets (x ∷ l) (suc i) vs ≡ x ∷ sets l i vs
sets_suc x l i [] = refl
sets_suc x l i (v ∷ vs) = sets_suc x (set l i v) (suc i) vs

sets_nowhere : (i : ℕ) (vs : List ℕ) → sets {A = ℕ} [] i vs ≡ []
sets_nowhere i [] = refl
sets_nowhere i (v ∷ vs) = sets_nowhere (suc i) vs

sets_zeros : (n : ℕ) (ns : List ℕ) → sets (replicate n 0) 0 ns ≡ padded n ns
unfolding padded
sets_zeros zero ns = sets_nowhere 0 ns ∙ rw (zero-sub (length ns))
sets_zeros (suc n) [] = rw (sub-zero (suc n))
sets_zeros (suc n) (x ∷ xs) = sets_suc x (replicate n 0) 0 xs ∙ rw (sets_zeros n xs, suc-sub-suc n (length xs))

-- Where no cons follows all items are read.
pub ends : {ws rest : List ℕ} {w₀ w : Writer ℕ} → Reading ws rest w₀ w → (1 ≤ length rest → get_or rest 0 0 ≡ 25 → ⊥) → w₀.at ≡ 0
    → w₀.buffer.now ≡ replicate 9 0 → Reads ws (record { pulses = w.buffer.now; count = w.at })
ends {rest = rest} {w₀} {w} r n z b = record { of = λ ns e. let y = r.of ns e in by ns y.done y.left y.all y.rest_is y.put }
  where
    by : (ns done left : List ℕ) → ns ≡ done ++ left → rest ≡ words (list_of left) → Puts w₀ done w
        → (w.at ≡ length ns) × (w.buffer.now ≡ padded 9 ns)
    by ns done (x ∷ left) a e q = let is = e ∙ a_cons x left in absurd (n (omega (arith, ap length is)) (ap (λ (l : List ℕ). get_or l 0 0) is))
    by ns done [] a e q =
        let all : done ≡ ns = sym (append-nil done) ∙ sym a in
        let v = q.wrote in (
          omega (arith, v.place, z, ap length all),
          v.stored ∙ ap (λ (l : List ℕ). sets l w₀.at done) b ∙ ap (λ (i : ℕ). sets (replicate 9 0) i done) z
              ∙ ap (sets (replicate 9 0) 0) all ∙ sets_zeros 9 ns,
        )
