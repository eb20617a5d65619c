-- `nodes::walks::ordered` meets its contract: the type's words, and the term's behind them. Assumes nothing.
use Rattle.std.proofs.Common.{arith}
use Rattle.nodes.proofs.Ways.{as_err}
use Rattle.nodes.proofs.Readers.{types_refused, types_end, terms_follow}
use Rattle.nodes.proofs.walks.ordered.Goals as goal

pub returns-in_err-end : goal.returns-in_err-end
returns-in_err-end c =
    rw (as_err _ _ c.from_residual.ensures.1) (types_refused c.args.types.now c.args.terms.now _ c.in_err-end.ensures)

pub in_order-requires-2 : goal.in_order-requires-2
in_order-requires-2 c =
    omega (arith, types_end c.args.types.now c.args.terms.now _ c.in_ok-end.ensures, c.well_formed.0.1, c.well_formed.1.0.1)

pub returns : goal.returns
returns c = terms_follow c.args.types.now c.args.terms.now _ c.in_ok-end.ensures _ c.in_order-2.ensures
