-- `saving::put_words` meets its contract: before each turn the bytes of the words so far are put. Assumes nothing.
use mathlib.Core.Path.{◌≡◌}
use Prim.Native.Nat.{◌*◌}
use lib.ListN.{take}
use Rattle.calculus.specs.File.{bytes_of}
use Rattle.writing.specs.Puts.{Puts}
use Rattle.saving.proofs.put_words.Given as goal

abbrev pub invariant-loop-word : goal.invariant-loop-word
invariant-loop-word l =
    record { place : l.bytes.at ≡ 4 * l.word-index; put : Puts l.initial.bytes (bytes_of (take l.word-index l.words)) l.bytes }
