-- `layout::lay_out` meets its contract: the lines, one after the other, and the rest of the buffer is zero. Assumes nothing.
use borrow.Author.Rules.{rules}
use native.Mathlib.Omega.{arith}
use Rattle.writing.proofs.Stores.{puts_then, padded_by}
use Rattle.layout.specs.Layout.{card}
use Rattle.layout.proofs.lay_out.Goals as goal

pub returns-clause-count : goal.returns-clause-count
unfolding card
returns-clause-count c =
    let lines = puts_then c.pump_lines.ensures.put c.last_line.ensures.put in
    omega (arith, lines.wrote.place)

pub returns-clause-text : goal.returns-clause-text
unfolding card
returns-clause-text c =
    let lines = puts_then c.pump_lines.ensures.put c.last_line.ensures.put in
    let all = padded_by c.new-card.ensures.1 lines c.fill_rest.ensures in
    search rules
