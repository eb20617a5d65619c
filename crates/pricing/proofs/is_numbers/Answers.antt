-- `pricing::is_numbers` meets its contract. Assumes nothing.
use mathlib.Core.List.{[], ◌∷◌}
use mathlib.Core.Path.{sym, ap, ◌∙◌}
use lib.Dec.{eqb}
use lib.Pointwise.{pointwise}
use Rattle.std.specs.Cmp.Lexicographic.{same_text}
use Rattle.std.proofs.Common.{ℕ, List}
use Rattle.pricing.proofs.Billing.{declares}
use Rattle.pricing.proofs.is_numbers.Goals as goal

pub returns : goal.returns
returns c =
    let is = c.as_slice.ensures in
    declares (λ e. same_text _ _ (sym e ∙ c.eq.ensures) ∙ is)
    (λ e. c.eq.ensures ∙ ap (pointwise eqb c.args.types.now) is ∙ ap (λ (l : List ℕ). pointwise eqb l (3 ∷ 1 ∷ [])) e)
