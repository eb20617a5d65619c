-- A run, step by step: the term at which it ends, and a case for each way in which a run goes. Assumes nothing.
use Prim.Native.Nat.{ℕ, zero, suc, ◌≤◌, ◌<◌}
use mathlib.Core.Bool.{Bool, true, false, cond}
use mathlib.Core.List.{[]}
use mathlib.Core.Path.{◌≡◌, refl, ap}
use lib.Dec.{leb}
use borrow.Author.Tests.{leb-true, leb-false, le-leb, lt-leb}
use Rattle.calculus.specs.Trees.{ml, Term}
use Rattle.calculus.specs.Words.{words, size}
use Rattle.calculus.specs.Reduction.{Outcome, value, raised, next, stuck, step}
use Rattle.calculus.specs.Classes.{other, next_class}
use Rattle.calculus.specs.Run.{valued, spent, error, full, Counts, counted, Result, ended, at_limit, if_fits, decide, run}

-- The last term of the run of e, with k steps left.
abbrev last_of : Outcome ml → ℕ → Term ml → (Term ml → Term ml) → Term ml
last_of value cap e go = e
last_of (raised c) cap e go = e
last_of (next r) cap e go = cond (leb (size r) cap) (go r) e
last_of stuck cap e go = e

unfoldable pub last_term : ℕ → ℕ → Term ml → Term ml
last_term zero cap e = e
last_term (suc k) cap e = last_of (step e) cap e (λ r. last_term k cap r)

-- The run of e, with k steps left, gives the result x, and t is its last term.
pub data Ran (cap : ℕ) : ℕ → Counts → Term ml → Result → Term ml → Type 0 where
  at_value : {k : ℕ} {made : Counts} {e : Term ml} → step e ≡ value → Ran cap k made e (ended valued 0 made (words e) 0) e
  at_limit_lem : {made : Counts} {e : Term ml} → at_limit (step e) ≡ spent → Ran cap 0 made e (ended spent 0 made (words e) 0) e
  at_error : {k c : ℕ} {made : Counts} {e : Term ml} → step e ≡ raised c → Ran cap (suc k) made e (ended error c (counted other made) [] 0) e
  at_full : {k : ℕ} {made : Counts} {e r : Term ml} → step e ≡ next r → cap < size r
      → Ran cap (suc k) made e (ended full 0 made (words e) (size r)) e
  at_stuck : {k : ℕ} {made : Counts} {e : Term ml} → step e ≡ stuck → Ran cap (suc k) made e (ended spent 0 made (words e) 0) e
  by_step : {k : ℕ} {made : Counts} {e r t : Term ml} {x : Result} → step e ≡ next r → size r ≤ cap
      → Ran cap k (counted (next_class e) made) r x t → Ran cap (suc k) made e x t

module _ (cap : ℕ) (made : Counts) (e : Term ml) where
  limit_ran : (o : Outcome ml) → step e ≡ o → Ran cap 0 made e (ended (at_limit o) 0 made (words e) 0) e
  limit_ran value q = at_value q
  limit_ran (raised c) q = at_limit_lem (ap at_limit q)
  limit_ran (next r) q = at_limit_lem (ap at_limit q)
  limit_ran stuck q = at_limit_lem (ap at_limit q)

  module _ (k : ℕ) (go : Term ml → Result) (last : Term ml → Term ml)
      (ran : (r : Term ml) → Ran cap k (counted (next_class e) made) r (go r) (last r)) where
    fits_ran : (r : Term ml) (b : Bool) → step e ≡ next r → leb (size r) cap ≡ b
        → Ran cap (suc k) made e (if_fits b made e r go) (cond b (last r) e)
    fits_ran r true q c = by_step q (leb-true (size r) cap c) (ran r)
    fits_ran r false q c = at_full q (leb-false (size r) cap c)

    decide_ran : (o : Outcome ml) → step e ≡ o → Ran cap (suc k) made e (decide o made cap e go) (last_of o cap e last)
    decide_ran value q = at_value q
    decide_ran (raised c) q = at_error q
    decide_ran (next r) q = fits_ran r _ q refl
    decide_ran stuck q = at_stuck q

-- Every run goes in one of these ways.
pub run_ran : (k cap : ℕ) (made : Counts) (e : Term ml) → Ran cap k made e (run k cap made e) (last_term k cap e)
unfolding run last_term
run_ran zero cap made e = limit_ran cap made e (step e) refl
run_ran (suc k) cap made e = decide_ran cap made e k _ _ (λ r. run_ran k cap (counted (next_class e) made) r) (step e) refl

-- A value ends the run whatever steps are left.
pub run_value : (k cap : ℕ) (made : Counts) (e : Term ml) → step e ≡ value → run k cap made e ≡ ended valued 0 made (words e) 0
unfolding run
run_value zero cap made e q = rw q
run_value (suc k) cap made e q = rw q

-- A step that fits is made: what the run's loop keeps.
pub run_next : (k cap : ℕ) (made : Counts) (e r : Term ml) → step e ≡ next r → size r ≤ cap
    → run (suc k) cap made e ≡ run k cap (counted (next_class e) made) r
unfolding run
run_next k cap made e r q c = rw (q, le-leb (size r) cap c)

-- A step that does not fit is not made.
pub run_full : (k cap : ℕ) (made : Counts) (e r : Term ml) → step e ≡ next r → cap < size r
    → run (suc k) cap made e ≡ ended full 0 made (words e) (size r)
unfolding run
run_full k cap made e r q c = rw (q, lt-leb (size r) cap c)
