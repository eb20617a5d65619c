-- `pricing::items::read` meets its contract: before each turn the items so far are read. Assumes nothing.
use Prim.Native.Nat.{◌+◌, ◌≤◌}
use mathlib.Core.Path.{◌≡◌}
use lib.ListN.{length}
use Rattle.pricing.proofs.Reading.{Reading}
use Rattle.pricing.proofs.items.read.Given as goal

abbrev pub invariant-loop-rest : goal.invariant-loop-rest
invariant-loop-rest l =
    record {
      same : l.items.buffer.ghost_name ≡ l.initial.items.buffer.ghost_name;
      bound : l.items.at + length l.rest ≤ length l.words;
      reads : Reading l.words l.rest l.initial.items l.items;
    }

abbrev pub decreases-loop-rest : goal.decreases-loop-rest
decreases-loop-rest l = length l.rest
