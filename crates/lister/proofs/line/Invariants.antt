-- `lister::line` meets its contract: before each turn the name and the fields of the first numbers are put. Assumes nothing.
use Prim.Native.Nat.{◌+◌, ◌*◌, ◌≤◌}
use lib.ListN.{length, take}
use Rattle.writing.specs.Puts.{Puts}
use Rattle.lister.specs.Listing.{fields}
use Rattle.lister.specs.Numbered.{Short}
use Rattle.lister.proofs.line.Given as goal

abbrev pub invariant-loop-number : goal.invariant-loop-number
invariant-loop-number l =
    record {
      bound : l.text.at ≤ length l.name + 21 * l.number-index;
      short : Short l.numbers → l.text.at ≤ length l.name + 11 * l.number-index;
      put : Puts l.initial.text (fields (take l.number-index l.numbers)) l.text;
    }
