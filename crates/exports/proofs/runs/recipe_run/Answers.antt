-- `exports::runs::recipe_run` meets its contract, for every file, every limit and every pair of buffers. Assumes nothing.
use mathlib.Core.Path.{ap}
use native.Mathlib.Omega.{arith}
use Rattle.nodes.specs.declared.refusals.Numbers.{Numbers}
use Rattle.exports.proofs.Packing.{run_place, run_words}
use Rattle.exports.proofs.runs.recipe_run.Goals as goal

pub refused-requires : goal.refused-requires
refused-requires c =
    let r = c.run in
    omega
    (arith, ap (λ (n : Numbers). n.place) c.into.ensures, run_place _ _ _ _ r.result r.ensures.answer_is c.in-Err.r c.in-Err.is)

pub ended-requires : goal.ended-requires
ended-requires c = let r = c.run in run_words _ _ _ _ r.result r.ensures.answer_is c.in-Ok.x c.in-Ok.is
