-- `layout::end_line` meets its contract: the blanks, and the line feed. Assumes nothing.
use Rattle.writing.proofs.Stores.{puts_then}
use Rattle.layout.proofs.end_line.Goals as goal

pub returns-clause-put : goal.returns-clause-put
returns-clause-put c = puts_then c.up_to.ensures.put c.put.ensures
