-- `writing::Writer::fill_rest` meets its contract: before each turn the first places of the rest have the item. Assumes nothing.
use mathlib.Core.List.{◌++◌}
use mathlib.Core.Path.{◌≡◌}
use lib.ListN.{drop, replicate}
use Rattle.writing.proofs.Writer.fill_rest.Given as goal

abbrev pub invariant-loop-place : goal.invariant-loop-place
invariant-loop-place g l = l.place-items ≡ replicate l.place-index l.item ++ drop l.place-index l.initial.place-items
