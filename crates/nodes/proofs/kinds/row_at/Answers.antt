-- `nodes::kinds::row_at` meets its contract. Assumes nothing.
use Rattle.std.proofs.Common.{rules, ◌%◌, sym, ◌∙◌}
use Rattle.nodes.specs.Table.{row_of}
use Rattle.nodes.proofs.Table.{entry_at, past}
use Rattle.nodes.proofs.kinds.row_at.Goals as goal

pub returns-then-kind-lt64 : goal.returns-then-kind-lt64
unfolding row_of
returns-then-kind-lt64 c = c.row.ensures ∙ search (rules, entry_at, c.if-kind-lt64.true)

pub returns-else-kind-lt64 : goal.returns-else-kind-lt64
returns-else-kind-lt64 c = sym (past (c.args.w % 256) c.if-kind-lt64.false)
