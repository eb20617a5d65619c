-- `nodes::walks::in_order` meets its contract. Assumes nothing.
use Rattle.nodes.specs.Table.{as_sort}
use Rattle.nodes.proofs.Ways.{as_err}
use Rattle.nodes.proofs.Readers.{order_refused, order_took, order_more}
use Rattle.nodes.proofs.walks.in_order.Goals as goal

pub returns-in_err-end : goal.returns-in_err-end
returns-in_err-end c =
    rw (as_err _ _ c.from_residual.ensures.1) (order_refused (as_sort c.args.sort) c.args.words.now c.args.at _ c.in_err-end.ensures)

pub returns-then-end-at : goal.returns-then-end-at
returns-then-end-at c =
    let a = c.args in order_more (as_sort a.sort) a.words.now a.at _ c.in_ok-end.ensures c.if-end-at.true

pub returns : goal.returns
returns c = let a = c.args in order_took (as_sort a.sort) a.words.now a.at _ c.in_ok-end.ensures c.if-end-at.false
