-- `lister::words_line` meets its contract: before each turn the fields of the first words are put. Assumes nothing.
use Prim.Native.Nat.{◌+◌, ◌*◌, ◌≤◌}
use lib.ListN.{take}
use Rattle.writing.specs.Puts.{Puts}
use Rattle.lister.specs.Listing.{fields}
use Rattle.lister.proofs.words_line.Given as goal

abbrev pub invariant-loop-word : goal.invariant-loop-word
invariant-loop-word l =
    record {
      bound : l.text.at ≤ l.fn.text.at + 10 + 11 * l.word-index;
      put : Puts l.initial.text (fields (take l.word-index l.others)) l.text;
    }
