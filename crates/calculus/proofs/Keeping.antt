-- A term that has a type keeps it over the steps of the published reduction, in both languages. Assumes nothing.
use Prim.Native.Nat.{ℕ}
use mathlib.Core.List.{[]}
use mathlib.Core.Path.{◌≡◌}
use Rattle.calculus.specs.Trees.{Lang, Static, Term}
use Rattle.calculus.specs.Typing.{Typed}
use Rattle.calculus.specs.Reduction.{next, step}
use Rattle.calculus.specs.Rules.{◌⟶◌, Steps, stay, then}
use Rattle.calculus.proofs.Typing.{typed_scoped}
use Rattle.calculus.proofs.Soundness.{sound}
use Rattle.calculus.proofs.Agreement.{next_iff}

pub next_typed : {l : Lang} (τ : Static l) {e r : Term l} → Typed [] e τ → e ⟶ r → (step e ≡ next r) × Typed [] r τ
next_typed τ {e} {r} h a = let q = (next_iff e r (typed_scoped [] e τ h)).1 a in (q, rw q at (sound e τ h))

pub steps_typed : {l : Lang} (τ : Static l) {n : ℕ} {e r : Term l} → Typed [] e τ → Steps n e r → Typed [] r τ
steps_typed τ h stay = h
steps_typed τ h (then a p) = steps_typed τ (next_typed τ h a).1 p
