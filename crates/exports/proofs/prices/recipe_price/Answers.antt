-- `exports::prices::recipe_price` meets its contract, for every table, every file, every limit and every pair of buffers. Assumes nothing.
use mathlib.Core.Path.{ap}
use native.Mathlib.Omega.{arith}
use Rattle.nodes.specs.declared.refusals.Numbers.{Numbers}
use Rattle.exports.proofs.Billing.{price_place, price_words}
use Rattle.exports.proofs.prices.recipe_price.Goals as goal

pub priced-requires : goal.priced-requires
priced-requires c = let p = c.price in price_words _ _ _ _ _ p.result p.ensures.answer_is c.in-Ok.x c.in-Ok.is

pub unpriced-requires : goal.unpriced-requires
unpriced-requires c =
    let p = c.price in
    omega (arith, ap (λ (n : Numbers). n.place) c.into.ensures, price_place _ _ _ _ _ p.result p.ensures.answer_is c.in-Err.why c.in-Err.is)
