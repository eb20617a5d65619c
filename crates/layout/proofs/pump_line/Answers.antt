-- `layout::pump_line` meets its contract: three numbers, each right-aligned to its column, and the line's end. Assumes nothing.
use mathlib.Core.List.{[]}
use Rattle.writing.proofs.Stores.{puts_none}
use Rattle.text.specs.Decimal.{decimal}
use Rattle.layout.specs.Layout.{pump_line}
use Rattle.layout.proofs.Aligning.{aligned, ends}
use Rattle.layout.proofs.pump_line.Goals as goal

pub returns-clause-put : goal.returns-clause-put
unfolding pump_line
returns-clause-put c =
    let a = c.args in
    let pump = aligned [] (puts_none a.text.now) 2 (decimal a.pump) c.right_to.ensures.put in
    let pulses = aligned _ pump 16 (decimal a.pulses) (rw c.from.ensures at c.right_to-2.ensures.put) in
    let charge = aligned _ pulses 32 (decimal a.charge) c.right_to-3.ensures.put in
    ends _ charge c.end_line.ensures.put
