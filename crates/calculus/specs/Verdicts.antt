-- Document 01, "A refusal carries its number and a place".
use Rattle.std.specs.Prelude.{ℕ, Bool, true, false}
use Rattle.std.proofs.Math.Option.{Option, none, some}

-- What is made of something, if there is something; else b.
abbrev pub found {ℓ} : {A : Type 0} {B : Type ℓ} → Option A → B → (A → B) → B
found none b f = b
found (some a) b f = f a

-- Refused, with a number and a place, or passed with what was found.
pub data Verdict (A : Type 0) : Type 0 where
  refused : ℕ → ℕ → Verdict A
  passed : A → Verdict A

-- The first refusal stands; what passed goes on.
abbrev pub and_then : {A B : Type 0} → Verdict A → (A → Verdict B) → Verdict B
and_then (refused n p) k = refused n p
and_then (passed a) k = k a

-- Refused unless the test holds; refused unless there is something.
abbrev pub unless : {A : Type 0} → Bool → ℕ → ℕ → Verdict A → Verdict A
unless true n p v = v
unless false n p v = refused n p

abbrev pub or_refuse : {A : Type 0} → Option A → ℕ → ℕ → Verdict A
or_refuse none n p = refused n p
or_refuse (some a) n p = passed a
