-- Demand 3 of every file, and its first half of every term that has a type. Assumes nothing.
use Prim.Native.Nat.{ℕ, ◌≤◌}
use mathlib.Core.List.{List, []}
use mathlib.Core.Path.{◌≡◌, refl, sym, ◌∙◌, subst}
use native.Mathlib.Omega.{arith}
use Rattle.calculus.specs.Trees.{Lang, Static, Term}
use Rattle.calculus.specs.Scope.{Scoped}
use Rattle.calculus.specs.Typing.{Typed}
use Rattle.calculus.specs.Reduction.{Outcome, value, raised, next, stuck, step}
use Rattle.calculus.specs.Rules.{Value}
use Rattle.calculus.specs.Verdicts.{passed}
use Rattle.calculus.specs.Run.{uncounted, Final, Result, capacity}
use Rattle.calculus.specs.File.{operate}
use Rattle.calculus.specs.Demands.{ExactlyOne, the_first, the_second, the_third, RaisedError, Reducible, Sound, Safe, FromEveryTerm, Demand3}
use Rattle.calculus.proofs.Typing.{typed_scoped}
use Rattle.calculus.proofs.Inference.{one_type}
use Rattle.calculus.proofs.Soundness.{Kept, sound}
use Rattle.calculus.proofs.Keeping.{steps_typed}
use Rattle.calculus.proofs.Agreement.{next_iff, raised_iff, value_step_iff, value_no_step, value_no_error, error_no_step}
use Rattle.calculus.proofs.Growth.{run_more}
use Rattle.calculus.proofs.Checks.{check_iff, operate_iff}

exactly_one : {l : Lang} (r : Term l) (τ : Static l) (o : Outcome l) → Scoped [] r → step r ≡ o → Kept τ o
    → ExactlyOne (Value l r) (RaisedError r) (Reducible r)
exactly_one r τ value c q k = let v = (value_step_iff r).0 q in the_first v (λ x. value_no_error v x.1) (λ x. value_no_step c v x.1)
exactly_one r τ (raised n) c q k =
    let a = (raised_iff r n c).0 q in the_second (λ v. value_no_error v a) (n, a) (λ x. error_no_step c a x.1)
exactly_one r τ (next s) c q k = let a = (next_iff r s c).0 q in the_third (λ v. value_no_step c v a) (λ x. error_no_step c x.1 a) (s, a)
exactly_one r τ stuck c q k = absurd k

typed_sound : {l : Lang} (r : Term l) (τ : Static l) → Typed [] r τ → Sound τ r
typed_sound r τ h = let c = typed_scoped [] r τ h in record { typed = h; scoped = c; one = exactly_one r τ (step r) c refl (sound r τ h) }

-- The first half, from every term that has a type.
pub typed_safe : {l : Lang} (e : Term l) (τ : Static l) → Typed [] e τ → Safe τ e
typed_safe e τ h = record { reached = λ n r p. typed_sound r τ (steps_typed τ h p) }

pub from_every_term : FromEveryTerm
from_every_term =
    record { safe = λ l τ e h. typed_safe e τ h; one = λ l τ σ e h k. one_type [] e τ σ h k; lambdas = λ l τ e h. typed_scoped [] e τ h }

-- The second half.
operate_more : (bytes : List ℕ) (limit first second limit' first' second' : ℕ) (r : Result) → limit ≤ limit'
    → capacity first second ≤ capacity first' second' → operate bytes limit first second ≡ passed r → Final r.end
    → operate bytes limit' first' second' ≡ passed r
operate_more bytes limit first second limit' first' second' r hl hc q f =
    let cap = capacity first second in
    let cap' = capacity first' second' in
    let x = (operate_iff bytes limit first second r).0 q in
    let same = run_more limit limit' cap cap' uncounted x.1 hl hc (subst (λ (y : Result). Final y.end) x.4 f) in
    (operate_iff bytes limit' first' second' r).1 (x.0, x.1, x.2, omega (arith, x.3, hc), x.4 ∙ sym same)

-- Demand 3.
pub demand_3 : (bytes : List ℕ) → Demand3 bytes
demand_3 bytes = record { accepted = λ τ e q. typed_safe e τ ((check_iff bytes τ e).0 q).typed; runs = operate_more bytes }
