-- `charges::each_charge` meets its contract. Assumes nothing.
use Rattle.std.proofs.Common.{ℕ, get_or, rules, tests}
use Rattle.charges.specs.Prices.{price, band, charge}
use Rattle.charges.proofs.Pricing.{charges_by_pump, made_by_index}
use Rattle.charges.proofs.each_charge.Goals as goal

pub returns-clause-value : goal.returns-clause-value
returns-clause-value c =
    let a = c.args in
    let charge_of : ℕ → ℕ = λ i. charge (get_or a.pulses i 0) (price a.prices i (band (get_or a.pulses i 0))) in
    charges_by_pump a.prices a.pulses c.from_fn.result (search rules)
    (made_by_index _ c.from_fn.result _ charge_of (λ i y q k. search (rules, tests)) c.from_fn.ensures.items)
