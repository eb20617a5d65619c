-- `lister::lines` meets its contract: the two lines of a result. Assumes nothing.
use native.Mathlib.Omega.{arith}
use Rattle.writing.proofs.Stores.{puts_then}
use Rattle.lister.proofs.lines.Goals as goal

pub ended_line-requires : goal.ended_line-requires
ended_line-requires c = (omega arith, omega (arith, rw c.in-Ok.is at c.requires.0), rw c.in-Ok.is at c.requires.1)

pub returns-in-Ok-clause-put : goal.returns-in-Ok-clause-put
returns-in-Ok-clause-put c = rw c.in-Ok.is (puts_then (puts_then c.ended_line.ensures.put c.words_line.ensures.put) c.put.ensures)
