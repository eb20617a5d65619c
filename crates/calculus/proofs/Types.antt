-- Two types: induction over both; and the words that a list begins with are those of one type at most, of all owners, in range or not. Assumes
-- nothing.
use Prim.Native.Nat.{ℕ, ◌%◌}
use mathlib.Core.List.{List, ◌∷◌}
use mathlib.Core.Path.{◌≡◌, refl, sym, ap, ◌∙◌}
use lib.ListN.{get_or}
use native.Mathlib.Omega.{arith}
use Rattle.calculus.specs.Trees.{Ty, N, L, list, ◌to◌}
use Rattle.calculus.specs.Words.{put_ty}

-- The kind of a type's first word.
abbrev pub kind_ty : Ty → ℕ
kind_ty N = 1
kind_ty (L o) = 2
kind_ty (list t) = 3
kind_ty (t to u) = 4

-- Induction over two types: two of one kind, by their parts; and two of two kinds.
module _
    (P : Ty → Ty → Type 0)
    (of_numbers : P N N)
    (of_lumps : (o u : ℕ) → P (L o) (L u))
    (of_lists : (t u : Ty) → P t u → P (list t) (list u))
    (of_functions : (s t u v : Ty) → P s u → P t v → P (s to t) (u to v))
    (apart : (t u : Ty) → ¬ (kind_ty t ≡ kind_ty u) → P t u)
  where
    pub by_pairs : (t u : Ty) → P t u
    by_pairs N N = of_numbers
    by_pairs N (L o) = apart N (L o) (λ e. omega (arith, e))
    by_pairs N (list u) = apart N (list u) (λ e. omega (arith, e))
    by_pairs N (u to v) = apart N (u to v) (λ e. omega (arith, e))
    by_pairs (L o) N = apart (L o) N (λ e. omega (arith, e))
    by_pairs (L o) (L u) = of_lumps o u
    by_pairs (L o) (list u) = apart (L o) (list u) (λ e. omega (arith, e))
    by_pairs (L o) (u to v) = apart (L o) (u to v) (λ e. omega (arith, e))
    by_pairs (list t) N = apart (list t) N (λ e. omega (arith, e))
    by_pairs (list t) (L u) = apart (list t) (L u) (λ e. omega (arith, e))
    by_pairs (list t) (list u) = of_lists t u (by_pairs t u)
    by_pairs (list t) (u to v) = apart (list t) (u to v) (λ e. omega (arith, e))
    by_pairs (s to t) N = apart (s to t) N (λ e. omega (arith, e))
    by_pairs (s to t) (L u) = apart (s to t) (L u) (λ e. omega (arith, e))
    by_pairs (s to t) (list u) = apart (s to t) (list u) (λ e. omega (arith, e))
    by_pairs (s to t) (u to v) = of_functions s t u v (by_pairs s u) (by_pairs t v)

pub kind_first : (t : Ty) (k : List ℕ) → get_or (put_ty t k) 0 0 % 256 ≡ kind_ty t
unfolding put_ty
kind_first N k = refl
kind_first (L o) k = omega arith
kind_first (list t) k = refl
kind_first (t to u) k = refl

-- Equal lists have equal first words, and equal rests.
parted : {a b : ℕ} {j k : List ℕ} → a ∷ j ≡ b ∷ k → (a ≡ b) × (j ≡ k)
parted q = (cc, cc)

-- The words that a list begins with are those of one type at most.
pub words_tell : (t u : Ty) (j k : List ℕ) → put_ty t j ≡ put_ty u k → (t ≡ u) × (j ≡ k)
unfolding put_ty
words_tell =
    by_pairs (λ t u. (j k : List ℕ) → put_ty t j ≡ put_ty u k → (t ≡ u) × (j ≡ k))
    (λ j k q. (refl, (parted q).1))
    (λ o u j k q. let e : o ≡ u = omega (arith, (parted q).0) in (ap L e, (parted q).1))
    (λ t u h j k q. let x = h j k (parted q).1 in (ap list x.0, x.1))
    (λ s t u v h g j k q.
    let x = h (put_ty t j) (put_ty v k) (parted q).1 in
    let y = g j k x.1 in
    (rw (x.0, y.0), y.1))
    (λ t u n j k q. absurd (n (sym (kind_first t j) ∙ ap (λ (ws : List ℕ). get_or ws 0 0 % 256) q ∙ kind_first u k)))
