-- `layout::last_line` meets its contract: TOTAL, the total, the line's end. Assumes nothing.
use Rattle.text.specs.Decimal.{decimal}
use Rattle.layout.specs.Layout.{last_line}
use Rattle.layout.proofs.Aligning.{aligned, ends}
use Rattle.layout.proofs.last_line.Goals as goal

pub returns-clause-put : goal.returns-clause-put
unfolding last_line
returns-clause-put c = ends _ (aligned _ c.extend.ensures 32 (decimal c.args.total) c.right_to.ensures.put) c.end_line.ensures.put
