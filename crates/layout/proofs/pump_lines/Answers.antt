-- `layout::pump_lines` meets its contract: before each turn the lines of the first items are put. Assumes nothing.
use native.Mathlib.Omega.{arith}
use Rattle.writing.proofs.Stores.{puts_then, puts_as, puts_none}
use Rattle.layout.specs.Layout.{pump_lines}
use Rattle.layout.proofs.Aligning.{lines_more}
use Rattle.layout.proofs.pump_lines.Goals as goal

pub loop-i-init : goal.loop-i-init
unfolding pump_lines
loop-i-init c = record { bound = omega arith; put = puts_none c.args.text.now }

pub loop-i-preserved : goal.loop-i-preserved
loop-i-preserved c =
    let l = c.loop-i in
    let put = puts_then l.invariant.put c.pump_line.ensures.put in
    record {
      bound = omega (arith, l.invariant.bound, c.pump_line.ensures.bound);
      put = puts_as (lines_more c.args.charge.now c.args.pulses.now l.i (omega arith)) put;
    }
