-- The published evaluation contexts are the places to which the computed reduction goes. Assumes nothing.
use Prim.Native.Nat.{ℕ}
use mathlib.Core.Path.{◌≡◌, refl, ap, ◌∙◌}
use Rattle.calculus.specs.Trees.{Lang, Static, Term, op1, op2, wrong, ms, sm}
use Rattle.calculus.specs.Reduction.{Frame, under, first, second, tested, into_ml, into_scheme, plug, Context, here, within, fill}
use Rattle.calculus.specs.Rules.{Around, hole, in_unary, in_first, in_second, in_test, in_ms, in_sm, around, ◌⊢◌⇒◌, ◌⟶◌, by_rule, Raises}
use Rattle.calculus.specs.Rules.{by_wrong}
use Rattle.calculus.specs.Evaluation.{Taken, Evaluated}

-- The place of a published context: evaluation goes there, and what stands in the one stands in the other.
pub record Placed {m l : Lang} (E : Around m l) : Type 0 where
  pub place : Context m l
  pub evaluated : Evaluated place
  pub fills : (e : Term m) → fill place e ≡ around E e

in_frame : {m k l : Lang} {E : Around m k} {G : Around m l} (f : Frame k l) → Taken f → Placed E
    → ((e : Term m) → plug f (around E e) ≡ around G e) → Placed G
unfolding fill
in_frame f t p q = record { place = within f p.place; evaluated = (t, p.evaluated); fills = λ e. ap (plug f) (p.fills e) ∙ q e }

pub placed : {m l : Lang} (E : Around m l) → Placed E
unfolding fill around
placed hole = record { place = here; evaluated = tt; fills = λ e. refl }
placed (in_unary o E) = in_frame (under o) tt (placed E) (λ e. refl)
placed (in_first o E b) = in_frame (first o b) tt (placed E) (λ e. refl)
placed (in_second o v h E) = in_frame (second o v) h (placed E) (λ e. refl)
placed (in_test E b c) = in_frame (tested b c) tt (placed E) (λ e. refl)
placed (in_ms t E) = in_frame (into_ml t) tt (placed E) (λ e. refl)
placed (in_sm t E) = in_frame (into_scheme t) tt (placed E) (λ e. refl)

-- The published context of a place to which evaluation goes.
published : {m l : Lang} (F : Context m l) → Evaluated F → (E : Around m l) × ((e : Term m) → around E e ≡ fill F e)
unfolding fill around
published here ev = (hole, λ e. refl)
published (within (under o) F) ev = let x = published F ev.1 in (in_unary o x.0, λ e. ap (op1 o) (x.1 e))
published (within (first o b) F) ev = let x = published F ev.1 in (in_first o x.0 b, λ e. ap (plug (first o b)) (x.1 e))
published (within (second o v) F) ev = let x = published F ev.1 in (in_second o v ev.0 x.0, λ e. ap (op2 o v) (x.1 e))
published (within (tested b c) F) ev = let x = published F ev.1 in (in_test x.0 b c, λ e. ap (plug (tested b c)) (x.1 e))
published (within (into_ml t) F) ev = let x = published F ev.1 in (in_ms t x.0, λ e. ap (ms t) (x.1 e))
published (within (into_scheme t) F) ev = let x = published F ev.1 in (in_sm t x.0, λ e. ap (sm t) (x.1 e))

-- A rule, and a wrong, at a place to which evaluation goes.
pub rule_at : {m l : Lang} {e r : Term m} (F : Context m l) → Evaluated F → m ⊢ e ⇒ r → fill F e ⟶ fill F r
rule_at {e = e} {r} F ev h = let x = published F ev in rw (← (x.1 e), ← (x.1 r)) (by_rule x.0 h)

pub wrong_at : {m l : Lang} {c : ℕ} (F : Context m l) → Evaluated F → (t : Static m) → Raises c (fill F (wrong c t))
wrong_at {c = c} F ev t = let x = published F ev in rw (← (x.1 (wrong c t))) (by_wrong x.0 t)
