-- `demands::run_save_run` meets its contract, by what `run` and `save` promise. Assumes nothing.
use Prim.Native.Nat.{ℕ, ◌≤◌}
use mathlib.Core.Path.{sym, subst}
use native.Mathlib.Omega.{arith}
use lib.ListN.{length, take}
use lib.Seq.{length-take-le}
use Rattle.engine.specs.Lent.{lent, returned}
use Rattle.saving.specs.Answered.{Saves}
use Rattle.demands.proofs.Running.{Promised}
use Rattle.demands_of_saves.proofs.Saving.{save_runs, left_within, written_within}
use Rattle.demands_of_saves.proofs.run_save_run.Goals as goal

pub slice_bounds-save-end : goal.slice_bounds-save-end
slice_bounds-save-end c = omega (arith, c.left-count.ensures, left_within _ _ c.run-earlier.ensures)

pub slice_bounds-save-end-2 : goal.slice_bounds-save-end-2
slice_bounds-save-end-2 c =
    let left_few : c.left-count.result ≤ length c.run-earlier.new.first =
    omega (arith, c.left-count.ensures, left_within _ _ c.run-earlier.ensures) in
    sym (length-take-le _ _ left_few)

pub slice_bounds-run-end : goal.slice_bounds-run-end
slice_bounds-run-end c = omega (arith, c.unwrap_or-written.ensures, written_within _ _ _ _ _ c.save-saved.ensures)

pub slice_bounds-run-end-2 : goal.slice_bounds-run-end-2
slice_bounds-run-end-2 c =
    let written-few : c.unwrap_or-written.result ≤ length c.save-saved.new.out =
    omega (arith, c.unwrap_or-written.ensures, written_within _ _ _ _ _ c.save-saved.ensures) in
    sym (length-take-le _ _ written-few)

pub returns : goal.returns
returns c =
    let a = c.args in
    let first = c.run-earlier.new.first in
    let second = c.run-earlier.new.second in
    let x = c.save-saved.result in
    let out = c.save-saved.new.out in
    let g = returned c.run-earlier.result first second in
    let again = returned c.run-later.result c.run-later.new.first c.run-later.new.second in
    let saves = subst (λ (n : ℕ). Saves a.types.now (take n first) a.out.now x out) c.left-count.ensures c.save-saved.ensures in
    let runs = subst (λ (n : ℕ). Promised (lent (take n out) a.again first second) again) c.unwrap_or-written.ensures c.run-later.ensures in
    let m = lent a.file.now a.limit_2 a.first_2.now a.second_2.now in
    let once = returned c.run-whole.result c.run-whole.new.first c.run-whole.new.second in
    save_runs (lent a.file.now a.limit a.first.now a.second.now) g c.run-earlier.ensures a.types.now a.out.now x out saves
    a.again again runs m once c.run-whole.ensures
