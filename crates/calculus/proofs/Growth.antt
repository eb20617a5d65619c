-- A run that ends as a value or an error ends the same under a larger limit and a larger capacity. Assumes nothing.
use Prim.Native.Nat.{ℕ, zero, suc, ◌≤◌}
use mathlib.Core.Path.{◌≡◌, ◌∙◌}
use native.Mathlib.Omega.{arith}
use Rattle.calculus.specs.Trees.{ml, Term}
use Rattle.calculus.specs.Run.{Counts, Result, run, Final}
use Rattle.calculus.proofs.Runs.{Ran, at_value, at_limit_lem, at_error, at_full, at_stuck, by_step, run_ran, run_value, run_next}

ran_more : {cap k : ℕ} {made : Counts} {e t : Term ml} {x : Result} → Ran cap k made e x t → (k' cap' : ℕ) → k ≤ k' → cap ≤ cap' → Final x.end
    → run k' cap' made e ≡ x
unfolding run
ran_more (at_value q) k' cap' h i f = run_value k' cap' _ _ q
ran_more (at_limit_lem q) k' cap' h i f = absurd f
ran_more (at_error q) zero cap' h i f = absurd (omega arith)
ran_more (at_error q) (suc k') cap' h i f = rw q
ran_more (at_full q c) k' cap' h i f = absurd f
ran_more (at_stuck q) k' cap' h i f = absurd f
ran_more (by_step q c p) zero cap' h i f = absurd (omega arith)
ran_more (by_step {r = r} q c p) (suc k') cap' h i f = run_next k' cap' _ _ r q (omega arith) ∙ ran_more p k' cap' (omega arith) i f

-- More steps and more words never change a value or an error, nor what is counted.
pub run_more : (k k' cap cap' : ℕ) (made : Counts) (e : Term ml) → k ≤ k' → cap ≤ cap' → Final (run k cap made e).end
    → run k' cap' made e ≡ run k cap made e
run_more k k' cap cap' made e h i f = ran_more (run_ran k cap made e) k' cap' h i f
