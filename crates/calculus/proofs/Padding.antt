-- Words with zeros after them. Assumes nothing.
use mathlib.Core.Path.{◌≡◌, refl, sym, ap, ◌∙◌}
use mathlib.Core.List.{List, [], append_assoc}
use native.Mathlib.Nat.{sub-zero}
use Prim.Native.Nat.{ℕ, suc, ◌+◌, ◌-◌, ◌≤◌, ◌<◌, min}
use native.Mathlib.Decide.{dec_le}
use native.Mathlib.Numerals.{add-one}
use native.Mathlib.Omega.{arith}
use lib.ListN.{length, take, drop, get_or, set, replicate, length-append, length-take, length-replicate}
use lib.Seq.{take-suc, take_all, take-nil, take_at, drop_at, length-take-le, set_at}
use Rattle.calculus.specs.File.{padded}

-- No words: only zeros.
pub padded_none : (n : ℕ) → replicate n 0 ≡ padded n []
unfolding padded
padded_none n = rw (take-nil {A = ℕ} n, sub-zero n)

-- One more word stored in front of the zeros.
pub padded_more : (n i : ℕ) (ws : List ℕ) → i < length ws → i < n
    → set (padded n (take i ws)) i (get_or ws i 0) ≡ padded n (take (i + 1) ws)
unfolding padded
padded_more n i ws h l =
    let e : n - i ≡ suc (n - (i + 1)) = omega arith in
    let a : length (take i ws) ≡ i = length-take-le i ws (omega arith) in
    let b : length (take (i + 1) ws) ≡ i + 1 = length-take-le (i + 1) ws (omega arith) in
    rw (
      take_all n (take i ws) (omega arith),
      take_all n (take (i + 1) ws) (omega arith),
      a,
      b,
      e,
      set_at (take i ws) 0 (replicate (n - (i + 1)) 0) (get_or ws i 0) i a,
      add-one i,
      take-suc ws i 0 h,
      append_assoc,
    )

-- The words themselves, without the zeros.
pub padded_take : (n k : ℕ) (ws : List ℕ) → length ws ≤ n → k ≡ length ws → take k (padded n ws) ≡ ws
unfolding padded
padded_take n k ws h e = rw (take_all n ws h) (take_at ws (replicate (n - length ws) 0) k (sym e))

-- The zeros, without the words.
pub padded_drop : (n k : ℕ) (ws : List ℕ) → length ws ≤ n → k ≡ length ws → drop k (padded n ws) ≡ replicate (n - k) 0
unfolding padded
padded_drop n k ws h e = rw (take_all n ws h, e) (drop_at ws (replicate (n - length ws) 0) (length ws) refl)

-- Words that the padding cuts off anyway may be left out before.
pub padded_cut : (n k : ℕ) (ws : List ℕ) → k ≡ min (length ws) n → padded n (take k ws) ≡ padded n ws
unfolding padded
padded_cut n k ws e = cut (dec_le (length ws) n)
  where
    cut : Dec (length ws ≤ n) → padded n (take k ws) ≡ padded n ws
    cut (yes h) = ap (padded n) (take_all k ws (omega arith))
    cut (no h) =
        let d : k ≡ n = omega arith in
        let l : length (take n ws) ≡ n = length-take-le n ws (omega arith) in
        let z : n - n ≡ n - length ws = omega arith in
        rw (d, take_all n (take n ws) (omega arith), l, z)

-- Words and zeros together.
pub padded_length : (n : ℕ) (ws : List ℕ) → length (padded n ws) ≡ n
unfolding padded
padded_length n ws = simp (length-append, length-take, length-replicate) (omega arith)

-- Words that fill all places have no zeros after them.
pub padded_all : (n : ℕ) (ws : List ℕ) → length ws ≡ n → padded n (take n ws) ≡ ws
padded_all n ws h =
    ap (padded n) (take_all n ws (omega arith)) ∙ sym (take_all n (padded n ws) (omega (arith, padded_length n ws)))
    ∙ padded_take n n ws (omega arith) (sym h)
