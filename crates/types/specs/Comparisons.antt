-- What comparing two types answers.
use Rattle.std.specs.Prelude.{ℕ, ◌+◌, ◌<◌, ◌≤◌, Bool, cond, List, ◌≡◌, Result, Ok, Err, IfOk, eqb, length, get_or}
use Rattle.std.proofs.Math.Option.{Option, none, some}
use Rattle.calculus.specs.Trees.{Ty, ml}
use Rattle.calculus.specs.Words.{put_ty, size_ty}
use Rattle.calculus.specs.Comparison.{compare_types}
use Rattle.calculus.specs.Inference.{same_type}
use Rattle.types.specs.References.{Written, Means, arrows}
use Rattle.types.specs.declared.Difference.{Difference}

-- The first difference stands at a place.
abbrev pub differ_at : {A : Type 0} → ℕ → Result A Difference
differ_at d = Err (record { at = d })

-- The place past a type lies within both.
abbrev pub InBoth : ℕ → ℕ → ℕ → Result ℕ Difference → Type 0
InBoth at a b r = IfOk r (λ n. (at < n) × (n ≤ at + a) × (n ≤ at + b))

-- What is answered of a type t, which stands at a place, and another, by their comparison: the place past t, or that of the first difference.
abbrev pub matching : ℕ → Ty → Option ℕ → Result ℕ Difference
matching at t none = Ok (at + size_ty t)
matching at t (some n) = differ_at (at + n)

-- The words x, which stand at a place, and y begin with two types.
pub record Matched (x y : List ℕ) (at : ℕ) (r : Result ℕ Difference) : Type 0 where
  pub within : InBoth at (length x) (length y) r
  pub is : (t u : Ty) (k l : List ℕ) → x ≡ put_ty t k → y ≡ put_ty u l → r ≡ matching at t (compare_types t u)

-- A type is written at the place, and the answer is the place past it.
pub record TypeEnd (w : List ℕ) (at r : ℕ) : Type 0 where
  pub least : at ≤ r
  pub most : r ≤ length w
  pub is : (t : Ty) → Written w at t → r ≡ at + size_ty t

-- What is answered of a type t, which p refers to, and another, by their comparison: equal; or, where t is written at p, the place of the first of
-- its words that differs.
unfoldable pub Says : List ℕ → ℕ → Ty → Option ℕ → Result (Unit {0}) Difference → Type 0
Says w p t none r = r ≡ Ok tt
Says w p t (some n) r = (d : ℕ) × (r ≡ differ_at d) × (Written w p t → d ≡ p + n)

-- Two lumps, written at p and at q: equal if their words are.
abbrev pub lumps_compared : List ℕ → ℕ → ℕ → Result (Unit {0}) Difference
lumps_compared w p q = cond (eqb (get_or w p 0) (get_or w q 0)) (Ok tt) (differ_at p)

-- The references p and q mean two types, the first with fewer arrows in a row than `room`.
abbrev pub Compares : List ℕ → List ℕ → ℕ → ℕ → ℕ → Result (Unit {0}) Difference → Type 0
Compares w ls p q room r =
    (t u : Ty) (lo hi lo' hi' : ℕ) → Means w ls lo hi p t → Means w ls lo' hi' q u → arrows t < room → Says w p t (compare_types t u) r

-- The same of any two types that references mean.
abbrev pub Compared : List ℕ → List ℕ → ℕ → ℕ → Result (Unit {0}) Difference → Type 0
Compared w ls p q r =
    (t u : Ty) (lo hi lo' hi' : ℕ) → hi ≤ length w → Means w ls lo hi p t → Means w ls lo' hi' q u → Says w p t (compare_types t u) r

abbrev pub Equality : List ℕ → List ℕ → ℕ → ℕ → Bool → Type 0
Equality w ls p q b =
    (t u : Ty) (lo hi lo' hi' : ℕ) → hi ≤ length w → Means w ls lo hi p t → Means w ls lo' hi' q u → b ≡ same_type ml t u
