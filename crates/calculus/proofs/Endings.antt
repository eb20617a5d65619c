-- The ends of a run by the published reduction are those that `run` computes: one for each term that has a type. Assumes nothing.
use Prim.Native.Nat.{ℕ, zero, suc, ◌+◌, ◌-◌, ◌≤◌}
use mathlib.Core.List.{[]}
use mathlib.Core.Logic.{◌↔◌}
use mathlib.Core.Path.{◌≡◌, refl, sym, ap, subst, ◌∙◌}
use native.Mathlib.Omega.{arith}
use Rattle.calculus.specs.Trees.{Ty, ml, Term}
use Rattle.calculus.specs.Words.{words, size}
use Rattle.calculus.specs.Typing.{Typed}
use Rattle.calculus.specs.Reduction.{Outcome, value, raised, next, stuck, step}
use Rattle.calculus.specs.Rules.{Value, ◌⟶◌, Steps, stay, then}
use Rattle.calculus.specs.Classes.{Class, call, conversion, other, next_class, step_class, indicator, among}
use Rattle.calculus.specs.Run.{valued, spent, error, full, Counts, uncounted, counted, Result, ended, at_limit, run}
use Rattle.calculus.specs.Counting.{counts, together, Counted}
use Rattle.calculus.specs.Endings.{InCapacity, Ends, by_value, by_limit, by_error, by_full, Ending}
use Rattle.calculus.proofs.Typing.{typed_scoped}
use Rattle.calculus.proofs.Agreement.{next_iff, raised_iff, value_step_iff}
use Rattle.calculus.proofs.Soundness.{sound}
use Rattle.calculus.proofs.Keeping.{next_typed, steps_typed}
use Rattle.calculus.proofs.Classes.{step_class_lem}
use Rattle.calculus.proofs.Counting.{same_counts, none_together, together_none, counted_together, then_together, counted_over}
use Rattle.calculus.proofs.Runs.{Ran, at_value, at_limit_lem, at_error, at_full, at_stuck, by_step, run_ran, run_value, run_next, run_full}

-- One step more at the end.
abbrev steps_more : {n : ℕ} {e t r : Term ml} → Steps n e t → t ⟶ r → Steps (suc n) e r
steps_more stay a = then a stay
steps_more (then b p) a = then b (steps_more p a)

capacity_more : (cap : ℕ) {n : ℕ} {e t r : Term ml} (p : Steps n e t) (a : t ⟶ r) → size r ≤ cap → InCapacity cap p → InCapacity cap (steps_more p a)
capacity_more cap stay a c h = (c, tt)
capacity_more cap (then b p) a c h = (h.0, capacity_more cap p a c h.1)

among_more : {n : ℕ} {e t r : Term ml} (x : Class) (p : Steps n e t) (a : t ⟶ r) → among x (steps_more p a) ≡ among x p + indicator x (step_class a)
among_more x stay a = omega arith
among_more x (then b p) a = omega (arith, among_more x p a)

counts_more : {n : ℕ} {e t r : Term ml} (p : Steps n e t) (a : t ⟶ r) → counts (steps_more p a) ≡ counted (step_class a) (counts p)
counts_more p a = same_counts (omega arith) (among_more call p a) (among_more conversion p a) (among_more other p a)

-- The run of a term is the run of each term that it comes to, with the steps made counted.
steps_run : (τ : Ty) (cap : ℕ) {n : ℕ} {e t : Term ml} → Typed [] e τ → (p : Steps n e t) → InCapacity cap p → (limit k : ℕ) (m : Counts)
    → limit ≡ n + k → run limit cap m e ≡ run k cap (together m (counts p)) t
steps_run τ cap h stay c limit k m q =
    let i : limit ≡ k = omega (arith, q) in
    rw (i, together_none m)
steps_run τ cap h (then a p) c zero k m q = absurd (omega (arith, q))
steps_run τ cap h (then {e = e} {f} {r = t} a p) c (suc limit) k m q =
    let i = next_typed τ h a in
    let j = step_class_lem (typed_scoped [] e τ h) a in
    run_next limit cap m e f i.0 c.0 ∙ ap (λ (x : Class). run limit cap (counted x m) f) (sym j)
    ∙ steps_run τ cap i.1 p c.1 limit k (counted (step_class a) m) (omega (arith, q))
    ∙ ap (λ (y : Counts). run k cap y t) (then_together m a p)

from_start : (τ : Ty) (cap : ℕ) {limit n : ℕ} {e t : Term ml} → Typed [] e τ → (p : Steps n e t) → InCapacity cap p → (k : ℕ) → limit ≡ n + k
    → run limit cap uncounted e ≡ run k cap (counts p) t
from_start τ cap {limit} {t = t} h p c k q =
    steps_run τ cap h p c limit k uncounted q ∙ ap (λ (m : Counts). run k cap m t) (none_together (counts p))

-- The last run, where no step is made.
at_limit_run : (cap : ℕ) (made : Counts) (e : Term ml) → ¬ Value ml e → run 0 cap made e ≡ ended spent 0 made (words e) 0
unfolding run
at_limit_run cap made e v = by (step e) refl
  where
    by : (o : Outcome ml) → step e ≡ o → ended (at_limit o) 0 made (words e) 0 ≡ ended spent 0 made (words e) 0
    by value q = absurd (v ((value_step_iff e).0 q))
    by (raised c) q = refl
    by (next r) q = refl
    by stuck q = refl

error_run : (k cap c : ℕ) (made : Counts) (e : Term ml) → step e ≡ raised c → run (suc k) cap made e ≡ ended error c (counted other made) [] 0
unfolding run
error_run k cap c made e q = rw q

-- Published, so computed.
ends_run : (τ : Ty) {limit cap : ℕ} {e : Term ml} {x : Result} → Typed [] e τ → Ends limit cap e x → run limit cap uncounted e ≡ x
ends_run τ {limit} {cap} s (by_value {n} {t} p i h v) =
    from_start τ cap s p i (limit - n) (omega (arith, h)) ∙ run_value (limit - n) cap (counts p) t ((value_step_iff t).1 v)
ends_run τ {limit} {cap} s (by_limit {t} p i v) = from_start τ cap s p i 0 (omega arith) ∙ at_limit_run cap (counts p) t v
ends_run τ {limit} {cap} s (by_error {n} {c} {t} p i h a) =
    from_start τ cap s p i (suc (limit - suc n)) (omega (arith, h))
    ∙ error_run (limit - suc n) cap c (counts p) t ((raised_iff t c (typed_scoped [] t τ (steps_typed τ s p))).1 a)
ends_run τ {limit} {cap} s (by_full {n} {t} {r} p i h a c) =
    from_start τ cap s p i (suc (limit - suc n)) (omega (arith, h))
    ∙ run_full (limit - suc n) cap (counts p) t r (next_typed τ (steps_typed τ s p) a).0 c

-- Computed, so published: a term that has a type comes to none that is stuck.
module _ (τ : Ty) (limit cap : ℕ) (f : Term ml) where
  at_limit_ends : (n : ℕ) (e : Term ml) → n ≡ limit → (p : Steps n f e) → InCapacity cap p → ¬ Value ml e
      → Ends limit cap f (ended spent 0 (counts p) (words e) 0)
  at_limit_ends n e i p c v =
      subst (λ (k : ℕ). (q : Steps k f e) → InCapacity cap q → Ends limit cap f (ended spent 0 (counts q) (words e) 0)) (sym i)
      (λ q d. by_limit q d v) p c

  ran_ends : {k : ℕ} {made : Counts} {e t : Term ml} {x : Result} → Ran cap k made e x t → {n : ℕ} → n + k ≡ limit → Typed [] e τ
      → (p : Steps n f e) → InCapacity cap p → counts p ≡ made → Ends limit cap f x
  ran_ends (at_value {e = e} q) i h p c m =
      subst (λ (y : Counts). Ends limit cap f (ended valued 0 y (words e) 0)) m (by_value p c (omega (arith, i)) ((value_step_iff e).0 q))
  ran_ends (at_limit_lem {e = e} q) {n} i h p c m =
      subst (λ (y : Counts). Ends limit cap f (ended spent 0 y (words e) 0)) m
      (at_limit_ends n e (omega (arith, i)) p c (λ v. let z : ◌≡◌ {A = ℕ} 0 1 = cc (q, (value_step_iff e).1 v) in omega arith))
  ran_ends (at_error {c = d} {e = e} q) i h p c m =
      subst (λ (y : Counts). Ends limit cap f (ended error d (counted other y) [] 0)) m
      (by_error p c (omega (arith, i)) ((raised_iff e d (typed_scoped [] e τ h)).0 q))
  ran_ends (at_full {e = e} {r} q d) i h p c m =
      subst (λ (y : Counts). Ends limit cap f (ended full 0 y (words e) (size r))) m
      (by_full p c (omega (arith, i)) ((next_iff e r (typed_scoped [] e τ h)).0 q) d)
  ran_ends (at_stuck {e = e} q) i h p c m = absurd (rw q at (sound e τ h))
  ran_ends (by_step {e = e} {r} q d s) i h p c m =
      let a = (next_iff e r (typed_scoped [] e τ h)).0 q in
      ran_ends s (omega (arith, i)) (rw q at (sound e τ h)) (steps_more p a) (capacity_more cap p a d c)
      (counts_more p a ∙ rw (step_class_lem (typed_scoped [] e τ h) a) (ap (counted (next_class e)) m))

-- "The end of a run, its code, its count of steps and the words it leaves are exactly those of the published reductions".
pub ends_iff : (limit cap : ℕ) (e : Term ml) (τ : Ty) → Typed [] e τ → (x : Result) → Ends limit cap e x ↔ (run limit cap uncounted e ≡ x)
ends_iff limit cap e τ h x = (
  ends_run τ h,
  λ q. subst (Ends limit cap e) q (ran_ends τ limit cap e (run_ran limit cap uncounted e) (omega arith) h stay tt refl),
)

-- Exactly one exists.
pub ending : (limit cap : ℕ) (e : Term ml) (τ : Ty) → Typed [] e τ → Ending limit cap e
ending limit cap e τ h =
    record { result = run limit cap uncounted e; ends = (ends_iff limit cap e τ h _).1 refl; only = λ r p. sym (ends_run τ h p) }

-- "For every run the three add up to the steps made, each equal to a count over the reduction."
pub ends_counted : (τ : Ty) {limit cap : ℕ} {e : Term ml} {x : Result} → Typed [] e τ → Ends limit cap e x → Counted e x.end x.made
ends_counted τ {e = e} h (by_value p i n v) = subst (Counted e valued) (together_none (counts p)) (counted_over τ h p valued)
ends_counted τ {e = e} h (by_limit p i v) = subst (Counted e spent) (together_none (counts p)) (counted_over τ h p spent)
ends_counted τ {e = e} h (by_error p i n a) =
    subst (Counted e error) (sym (counted_together other (counts p) uncounted) ∙ ap (counted other) (together_none (counts p)))
    (counted_over τ h p error)
ends_counted τ {e = e} h (by_full p i n a c) = subst (Counted e full) (together_none (counts p)) (counted_over τ h p full)
