-- The cards laid out by hand: each computes. Assumes nothing.
use mathlib.Core.Path.{refl}
use Rattle.text.specs.Decimal.{decimal}
use Rattle.layout.specs.Layout.{pump_line, last_line, pump_lines, card}
use Rattle.layout.specs.Examples.{Examples}

pub examples : Examples
unfolding card pump_lines pump_line last_line decimal
examples = record { empty = refl; three = refl; widest = refl }
