-- `layout::up_to` meets its contract: before each turn the blanks up to the writer's place are put. Assumes nothing.
use Prim.Native.Nat.{◌-◌, ◌≤◌, max}
use mathlib.Core.Path.{◌≡◌}
use lib.ListN.{replicate}
use Rattle.writing.specs.Puts.{Puts}
use Rattle.text.specs.Characters.{blank}
use Rattle.layout.proofs.up_to.Given as goal

abbrev pub invariant-loop : goal.invariant-loop
invariant-loop l =
    record {
      place : l.text.at ≡ l.counter;
      within : l.counter ≤ max l.end l.initial.text.at;
      put : Puts l.initial.text (replicate (l.counter - l.initial.text.at) blank) l.text;
    }
