-- Laws of items put into a buffer: one after the other, and none past the end. Assumes nothing.
use Prim.Native.Nat.{ℕ, suc, ◌+◌, ◌-◌, ◌≤◌, ◌<◌, min}
use mathlib.Core.List.{List, [], ◌∷◌, ◌++◌, append_assoc, append-nil}
use mathlib.Core.Path.{◌≡◌, refl, sym, ap, ◌∙◌, subst}
use native.Mathlib.Numerals.{add-one}
use native.Mathlib.Omega.{arith}
use native.Mathlib.Decide.{dec_le, dec_lt}
use lib.ListN.{length, take, drop, get_or, set, replicate, length-append, length-replicate, replicate-append-replicate, take-append-drop}
use lib.ListN.{drop_of_length-le}
use lib.Seq.{sets, sets-eq, length-sets, take_all, take_at, set_out, set_comm, length-take-le, drop-drop, drop-cons, take-suc, set-append_seam}
use borrow.Rule.Slice.PartMut.{put_mid}
use Rattle.calculus.specs.File.{padded}
use Rattle.writing.specs.declared.Writer.{Writer}
use Rattle.writing.specs.Wrote.{Wrote, filled_to}
use Rattle.writing.specs.Puts.{Puts, Filled}

module _ {A : Type 0} where
  -- Two runs of stores, one after the other, are one.
  sets_append : (b : List A) (n : ℕ) (xs ys : List A) → sets (sets b n xs) (n + length xs) ys ≡ sets b n (xs ++ ys)
  sets_append b n [] ys = ap (λ (k : ℕ). sets b k ys) (omega arith)
  sets_append b n (x ∷ xs) ys = ap (λ (k : ℕ). sets (sets (set b n x) (suc n) xs) k ys) (omega arith) ∙ sets_append (set b n x) (suc n) xs ys

  sets_then : (b : List A) (n m : ℕ) (xs ys : List A) → m ≡ n + length xs → sets (sets b n xs) m ys ≡ sets b n (xs ++ ys)
  sets_then b n m xs ys e = ap (λ (k : ℕ). sets (sets b n xs) k ys) e ∙ sets_append b n xs ys

  -- No store is past the end.
  sets_out : (b : List A) (n : ℕ) (xs : List A) → length b ≤ n → sets b n xs ≡ b
  sets_out b n [] h = refl
  sets_out b n (x ∷ xs) h = rw (set_out b n x h) (sets_out b (suc n) xs (omega arith))

  sets_cut : (b : List A) (n m : ℕ) (xs : List A) → m ≡ min (length xs) (length b - n) → sets b n (take m xs) ≡ sets b n xs
  sets_cut b n m xs e = by (dec_lt m (length xs))
    where
      by : Dec (m < length xs) → sets b n (take m xs) ≡ sets b n xs
      by (yes h) =
          let out = sets_out (sets b n (take m xs)) (n + m) (drop m xs) (omega (arith, length-sets b n (take m xs), e)) in
          sym out ∙ sets_then b n (n + m) (take m xs) (drop m xs) (omega (arith, length-take-le m xs (omega arith)))
          ∙ ap (sets b n) (take-append-drop m xs)
      by (no h) = ap (sets b n) (take_all m xs (omega arith))

  -- Stores at places apart come to the same in either order.
  sets_set : (b : List A) (m : ℕ) (ys : List A) (n : ℕ) (x : A) → n < m → set (sets b m ys) n x ≡ sets (set b n x) m ys
  sets_set b m [] n x h = refl
  sets_set b m (y ∷ ys) n x h =
      sets_set (set b m y) (suc m) ys n x (omega arith) ∙ ap (λ (l : List A). sets l (suc m) ys) (set_comm b m n y x (λ e. omega (arith, e, h)))

  sets_swap : (b : List A) (m : ℕ) (ys : List A) (n : ℕ) (xs : List A) → n + length xs ≤ m → sets (sets b m ys) n xs ≡ sets (sets b n xs) m ys
  sets_swap b m ys n [] h = refl
  sets_swap b m ys n (x ∷ xs) h =
      ap (λ (l : List A). sets l (suc n) xs) (sets_set b m ys n x (omega arith)) ∙ sets_swap (set b n x) m ys (suc n) xs (omega arith)

  -- What is written one after the other.
  pub then : {b b₁ b₂ xs ys : List A} {n k₁ k₂ : ℕ} → Wrote b n xs k₁ b₁ → Wrote b₁ k₁ ys k₂ b₂ → Wrote b n (xs ++ ys) k₂ b₂
  then {b} {b₁} {b₂} {xs} {ys} {n} {k₁} {k₂} p q =
      record {
        place = omega (arith, p.place, q.place, length-append xs ys);
        stored = q.stored ∙ ap (λ (l : List A). sets l k₁ ys) p.stored ∙ sets_then b n k₁ xs ys p.place;
      }

  -- The same words, said in another way.
  pub wrote_as : {b b₁ xs ys : List A} {n k : ℕ} → xs ≡ ys → Wrote b n xs k b₁ → Wrote b n ys k b₁
  wrote_as {b} {b₁} {xs} {ys} {n} {k} e p = subst (λ (l : List A). Wrote b n l k b₁) e p

  wrote_none : (b : List A) (n : ℕ) → Wrote b n [] n b
  wrote_none b n = record { place = omega arith; stored = refl }

  -- What is written before what is there already.
  pub before : {b b₁ b₂ xs ys : List A} {n m k : ℕ} → Wrote b m ys k b₁ → Wrote b₁ n xs m b₂ → Wrote b n (xs ++ ys) k b₂
  before {b} {b₁} {b₂} {xs} {ys} {n} {m} {k} p q =
      record {
        place = omega (arith, p.place, q.place, length-append xs ys);
        stored =
            q.stored ∙ ap (λ (l : List A). sets l n xs) p.stored ∙ sets_swap b m ys n xs (omega (arith, q.place))
            ∙ sets_then b n m xs ys q.place;
      }

  -- As many of the items xs as fit from the place n on, written at once.
  put_within : (b xs : List A) (n m : ℕ) → m ≡ min (length xs) (length b - n) → n ≤ length b → put_mid n m b (take m xs) ≡ sets b n xs
  put_within b xs n m e h =
      let l : length (take m xs) ≡ m = length-take-le m xs (omega arith) in
      ap (λ (r : List A). take n b ++ (take m xs ++ r)) (drop-drop m n b ∙ ap (λ (k : ℕ). drop k b) (omega arith))
      ∙ sym (append_assoc (take n b) (take m xs) (drop (n + length (take m xs)) b)) ∙ sym (sets-eq (take m xs) b n (omega arith))
      ∙ sets_cut b n m xs e

  pub put_part : (b xs ys : List A) (n start end : ℕ) → start ≡ min n (length b) → end ≡ min (n + length xs) (length b)
      → ys ≡ take (end - start) xs → put_mid start (end - start) b ys ≡ sets b n xs
  put_part b xs ys n start end s e y = by (dec_le n (length b))
    where
      by : Dec (n ≤ length b) → put_mid start (end - start) b ys ≡ sets b n xs
      by (yes h) = let s' : start ≡ n = omega arith in rw (y, s') (put_within b xs n (end - n) (omega arith) h)
      by (no h) =
          let z : end - start ≡ 0 = omega arith in
          let past : length b ≤ start = omega arith in
          rw (y, z, take_all start b (omega arith), drop_of_length-le b past) (append-nil b ∙ sym (sets_out b n xs (omega arith)))

  -- One item more becomes x.
  pub fill_more : (b : List A) (i : ℕ) (x : A) → i < length b → set (replicate i x ++ drop i b) i x ≡ replicate (i + 1) x ++ drop (i + 1) b
  fill_more b i x h =
      let one : replicate i x ++ x ∷ [] ≡ replicate (i + 1) x = replicate-append-replicate i 1 x in
      let more : List A = drop (suc i) b in
      ap (λ (l : List A). set (replicate i x ++ l) i x) (drop-cons b i x h)
      ∙ ap (λ (n : ℕ). set (replicate i x ++ get_or b i x ∷ more) n x) (sym (length-replicate {A = A} i x))
      ∙ set-append_seam (replicate i x) (get_or b i x) more x
      ∙ sym (append_assoc (replicate i x) (x ∷ []) more) ∙ rw (one, add-one i)

  -- One item more is copied; and when all are.
  pub copy_more : (xs b : List A) (i : ℕ) (d : A) → i < length xs → length b ≡ length xs
      → set (take i xs ++ drop i b) i (get_or xs i d) ≡ take (i + 1) xs ++ drop (i + 1) b
  copy_more xs b i d h e =
      let size : length (take i xs) ≡ i = length-take-le i xs (omega arith) in
      let more : List A = drop (suc i) b in
      ap (λ (l : List A). set (take i xs ++ l) i (get_or xs i d)) (drop-cons b i d (omega arith))
      ∙ ap (λ (n : ℕ). set (take i xs ++ get_or b i d ∷ more) n (get_or xs i d)) (sym size)
      ∙ set-append_seam (take i xs) (get_or b i d) more (get_or xs i d)
      ∙ sym (append_assoc (take i xs) (get_or xs i d ∷ []) more) ∙ rw (sym (take-suc xs i d h), add-one i)

  pub copied : (xs b : List A) (i : ℕ) → length xs ≤ i → length b ≡ length xs → take i xs ++ drop i b ≡ xs
  copied xs b i h e =
      let past : length b ≤ i = omega (arith, h, e) in
      rw (take_all i xs h, drop_of_length-le b past) (append-nil xs)

  -- Items put from a buffer's start, and x after them: those items, and x after them.
  filled_after : (b b' xs : List A) (k : ℕ) (x : A) → Wrote b 0 xs k b' → filled_to (length b') x (take k b') ≡ filled_to (length b) x xs
  filled_after b b' xs k x w = by (dec_le (length xs) (length b))
    where
      same : length b' ≡ length b
      same = ap length w.stored ∙ length-sets b 0 xs

      by : Dec (length xs ≤ length b) → filled_to (length b') x (take k b') ≡ filled_to (length b) x xs
      by (yes h) =
          let first : take k b' ≡ xs =
          ap (take k) (w.stored ∙ sets-eq xs b 0 (omega arith)) ∙ take_at xs (drop (0 + length xs) b) k (omega (arith, w.place)) in
          rw (first, same)
      by (no h) =
          let size : length (take (length b) xs) ≡ length b = length-take-le (length b) xs (omega arith) in
          let past : length b ≤ 0 + length (take (length b) xs) = omega (arith, size) in
          let none : length b - length xs ≡ 0 = omega arith in
          let left : length b' - length b' ≡ 0 = omega arith in
          let all : b' ≡ take (length b) xs =
          w.stored ∙ sym (sets_cut b 0 (length b) xs (omega arith)) ∙ sets-eq (take (length b) xs) b 0 (omega (arith, size))
          ∙ ap (λ (l : List A). take (length b) xs ++ l) (drop_of_length-le b past) ∙ append-nil _ in
          rw (take_all k b' (omega (arith, w.place, same)), take_all (length b') b' (omega arith), left, none, all)

  -- The same of a writer.
  pub filled : {w r q : Writer A} {xs : List A} {x : A} → w.at ≡ 0 → Puts w xs r → Filled r x q
      → q.buffer.now ≡ filled_to (length w.buffer.now) x xs
  filled {w} {r} {q} {xs} {x} z p f = f.rest ∙ filled_after w.buffer.now r.buffer.now xs r.at x (rw z at p.wrote)

  -- What a writer puts, one after the other; and the same items, said in another way.
  pub puts_then : {w r q : Writer A} {xs ys : List A} → Puts w xs r → Puts r ys q → Puts w (xs ++ ys) q
  puts_then p q = record { same = q.same ∙ p.same; wrote = then p.wrote q.wrote }

  pub puts_as : {w r : Writer A} {xs ys : List A} → xs ≡ ys → Puts w xs r → Puts w ys r
  puts_as e p = record { same = p.same; wrote = wrote_as e p.wrote }

  pub puts_none : (w : Writer A) → Puts w [] w
  puts_none w = record { same = refl; wrote = wrote_none w.buffer.now w.at }

-- With zeros behind, a buffer is padded.
pub padded_is : (n : ℕ) (ws : List ℕ) → padded n ws ≡ filled_to n 0 ws
unfolding padded
padded_is n ws = refl

pub padded_by : {w r q : Writer ℕ} {ws : List ℕ} → w.at ≡ 0 → Puts w ws r → Filled r 0 q → q.buffer.now ≡ padded (length w.buffer.now) ws
padded_by {w} {r} {q} {ws} z p f = filled z p f ∙ sym (padded_is (length w.buffer.now) ws)
