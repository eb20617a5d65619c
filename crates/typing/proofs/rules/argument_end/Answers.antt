-- `typing::rules::argument_end` meets its contract: each way out is one law of Formers. Assumes nothing.
use Rattle.std.proofs.Common.{Some, sym, ap, ◌∙◌}
use Rattle.types.proofs.Pairs.{some_is, none_some}
use Rattle.typing.proofs.Formers.{no_function, function_end}
use Rattle.typing.proofs.rules.argument_end.Goals as goal

pub returns-in_err-former_at : goal.returns-in_err-former_at
returns-in_err-former_at c =
    rw c.from_residual.ensures (no_function _ _ _ c.former_at.ensures.value (λ e. none_some (sym c.in_err-former_at.was ∙ e)))

pub returns-in_default : goal.returns-in_default
returns-in_default c =
    no_function _ _ _ c.former_at.ensures.value (λ e. c.in_default.not-Function (some_is (sym c.in_ok-former_at.was ∙ e)))

pub returns : goal.returns
returns c = function_end _ _ _ c.former_at.ensures.value (c.in_ok-former_at.was ∙ ap Some c.in-Function.is) _ c.type_end.ensures
