-- What a passed verdict, or something found, came from. Assumes nothing.
use Prim.Native.Nat.{ℕ}
use mathlib.Core.Bool.{Bool, true, false, false≢true}
use mathlib.Core.Logic.{◌↔◌}
use mathlib.Core.Option.{Option, none, some, none-ne-some, some-injective}
use mathlib.Core.Path.{◌≡◌, refl, ap}
use native.Mathlib.Omega.{arith}
use Rattle.calculus.specs.Verdicts.{found, Verdict, refused, passed, and_then, unless, or_refuse}

pub found_some : {A B : Type 0} (o : Option A) (f : A → Option B) (b : B) → found o none f ≡ some b → (a : A) × (o ≡ some a) × (f a ≡ some b)
found_some none f b q = absurd (none-ne-some b q)
found_some (some a) f b q = (a, refl, q)

pub not_both : {A : Type 0} (n p : ℕ) (a : A) → ◌≡◌ {A = Verdict A} (refused n p) (passed a) → ⊥
not_both n p a q = let z : ◌≡◌ {A = ℕ} 0 1 = cc in omega arith

pub passed_injective : {A : Type 0} (a b : A) → ◌≡◌ {A = Verdict A} (passed a) (passed b) → a ≡ b
passed_injective a b q = cc

-- A refusal is its number and place.
pub refused_injective : {A : Type 0} {n p m q : ℕ} → ◌≡◌ {A = Verdict A} (refused n p) (refused m q) → (n ≡ m) × (p ≡ q)
refused_injective e = (cc, cc)

pub then_passed : {A B : Type 0} (v : Verdict A) (f : A → Verdict B) (b : B) → and_then v f ≡ passed b → (a : A) × (v ≡ passed a) × (f a ≡ passed b)
then_passed (refused n p) f b q = absurd (not_both n p b q)
then_passed (passed a) f b q = (a, refl, q)

-- A test that is passed, and something that is found.
pub unless_iff : {A : Type 0} (b : Bool) (n p : ℕ) (v : Verdict A) (a : A) → (unless b n p v ≡ passed a) ↔ ((b ≡ true) × (v ≡ passed a))
unless_iff true n p v a = (λ q. (refl, q), λ h. h.1)
unless_iff false n p v a = (λ q. absurd (not_both n p a q), λ h. absurd (false≢true h.0))

pub refuse_iff : {A : Type 0} (o : Option A) (n p : ℕ) (a : A) → (or_refuse o n p ≡ passed a) ↔ (o ≡ some a)
refuse_iff none n p a = (λ q. absurd (not_both n p a q), λ q. absurd (none-ne-some a q))
refuse_iff (some b) n p a = (λ q. ap some (passed_injective b a q), λ q. ap passed (some-injective b a q))
