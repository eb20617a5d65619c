-- `exports::cards::recipe_card` meets its contract, for every table, every file, every limit and all three buffers. Assumes nothing.
use mathlib.Core.Path.{ap}
use native.Mathlib.Omega.{arith}
use Rattle.nodes.specs.declared.refusals.Numbers.{Numbers}
use Rattle.exports.proofs.Carrying.{card_place, card_words, card_bytes_lem}
use Rattle.exports.proofs.cards.recipe_card.Goals as goal

pub priced-requires : goal.priced-requires
priced-requires c = card_words _ _ _ c.card.ensures c.in-Ok.x c.in-Ok.is

pub overflow_cast-result : goal.overflow_cast-result
overflow_cast-result c = record { fits = omega (arith, card_bytes_lem _ _ _ c.card.ensures c.in-Ok.x c.in-Ok.is) }

pub unpriced-requires : goal.unpriced-requires
unpriced-requires c =
    omega (arith, ap (λ (n : Numbers). n.place) c.into.ensures, card_place _ _ _ c.card.ensures c.in-Err.why c.in-Err.is)
