-- `exports::prices::unpriced` meets its contract: the default charges are no charges. Assumes nothing.
use mathlib.Core.Path.{refl, ◌∙◌}
use Rattle.pricing.proofs.Billing.{default_charges}
use Rattle.exports.proofs.prices.unpriced.Goals as goal

pub returns : goal.returns
returns c = c.packed.ensures ∙ rw (c.refused.ensures, default_charges _ c.default.ensures) refl
