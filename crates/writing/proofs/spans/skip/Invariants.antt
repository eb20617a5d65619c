-- `writing::spans::skip` meets its contract: before each turn i words are gone by and `left` nodes are due. Assumes nothing.
use mathlib.Core.Path.{◌≡◌}
use Prim.Native.Nat.{◌+◌, ◌*◌, ◌≤◌}
use lib.ListN.{drop}
use Rattle.writing.specs.Spans.{span}
use Rattle.writing.proofs.spans.skip.Given as goal

abbrev pub invariant-loop-i : goal.invariant-loop-i
invariant-loop-i l = record { most : l.left ≤ l.due + 3 * l.i; is : l.i + span (drop l.i l.words) l.left ≡ span l.words l.due }
