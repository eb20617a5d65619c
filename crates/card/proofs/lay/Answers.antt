-- `card::lay` meets its contract. Assumes nothing.
use native.Mathlib.Omega.{arith}
use Rattle.card.proofs.Laying.{too_long, laid_out}
use Rattle.card.proofs.lay.Goals as goal

pub returns-then-card-bytes : goal.returns-then-card-bytes
returns-then-card-bytes c =
    let y = c.lay_out-bytes.ensures in
    let v = c.in-Value.is in
    too_long c.args.priced _ _ _ v (c.requires.value_left v) c.read-found.ensures y.count y.text (omega (arith, c.if-card-bytes.true)) c.clear.ensures

pub returns-else-card-bytes : goal.returns-else-card-bytes
returns-else-card-bytes c =
    let y = c.lay_out-bytes.ensures in
    let v = c.in-Value.is in
    laid_out c.args.priced _ _ _ v (c.requires.value_left v) c.read-found.ensures y.count y.text (omega (arith, c.if-card-bytes.false))
