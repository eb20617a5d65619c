-- `layout::pump_lines` meets its contract: before each turn the lines of the first items are put. Assumes nothing.
use Prim.Native.Nat.{◌*◌, ◌≤◌}
use lib.ListN.{take}
use Rattle.writing.specs.Puts.{Puts}
use Rattle.layout.specs.Layout.{pump_lines}
use Rattle.layout.proofs.pump_lines.Given as goal

abbrev pub invariant-loop-i : goal.invariant-loop-i
invariant-loop-i l =
    record { bound : l.text.at ≤ 61 * l.i; put : Puts l.initial.text (pump_lines l.charge 0 (take l.i l.pulses)) l.text }
