-- `nodes::walks::row_due` meets its contract. Assumes nothing.
use Rattle.nodes.specs.Table.{as_sort}
use Rattle.nodes.proofs.Dues.{no_kind, of_another, out_of_range, is_due}
use Rattle.nodes.proofs.walks.row_due.Goals as goal
use Rattle.nodes.proofs.walks.row_due.Goals.{else-is_of-via-then-is_of+else-takes, else-is_of-via-else-is_of}

pub returns-in_err-row : goal.returns-in_err-row
returns-in_err-row c = rw c.from_residual.ensures (no_kind (as_sort c.args.sort) c.args.w c.in_err-row.ensures)

pub returns-then-takes : goal.returns-then-takes
returns-then-takes c = is_due (as_sort c.args.sort) c.args.w _ c.in_ok-row.ensures c.if-is_of.ensures c.if-takes.ensures

pub returns-else-is_of : goal.returns-else-is_of
returns-else-is_of c =
    let a = c.args in
    elim c.else-is_of.branch [
      | else-is_of-via-then-is_of+else-takes w ↦ out_of_range (as_sort a.sort) a.w _ c.in_ok-row.ensures w.if-takes.ensures
      | else-is_of-via-else-is_of w ↦ of_another (as_sort a.sort) a.w _ c.in_ok-row.ensures w.if-is_of.ensures
    ]
