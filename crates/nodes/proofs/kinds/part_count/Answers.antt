-- `nodes::kinds::part_count` meets its contract. Assumes nothing.
use Rattle.std.proofs.Common.{rules}
use Rattle.nodes.specs.Table.{row_of}
use Rattle.nodes.proofs.Table.{parts_listed, parts_few, parts_past}
use Rattle.nodes.proofs.kinds.part_count.Goals as goal

pub returns-then-kind-lt64-clause-value : goal.returns-then-kind-lt64-clause-value
unfolding row_of
returns-then-kind-lt64-clause-value c = search (rules, parts_listed, c.if-kind-lt64.true)

pub returns-then-kind-lt64-clause-most : goal.returns-then-kind-lt64-clause-most
unfolding row_of
returns-then-kind-lt64-clause-most c = search (rules, parts_few, c.if-kind-lt64.true)

pub returns-else-kind-lt64-clause-value : goal.returns-else-kind-lt64-clause-value
returns-else-kind-lt64-clause-value c = parts_past c.args.w c.if-kind-lt64.false
