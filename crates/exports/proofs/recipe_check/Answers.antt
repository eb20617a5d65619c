-- `exports::recipe_check` meets its contract, for every file. Assumes nothing.
use mathlib.Core.Path.{ap}
use native.Mathlib.Omega.{arith}
use Rattle.nodes.specs.declared.refusals.Numbers.{Numbers}
use Rattle.exports.proofs.Packing.{refused_place}
use Rattle.exports.proofs.recipe_check.Goals as goal

pub packed-requires : goal.packed-requires
packed-requires c =
    omega
    (arith, ap (λ (n : Numbers). n.place) c.into.ensures, refused_place c.args.file.now c.in-Err.r c.check.result c.in-Err.is c.check.ensures)
