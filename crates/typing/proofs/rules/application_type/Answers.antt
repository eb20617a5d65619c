-- `typing::rules::application_type` meets its contract: each way out is one law of Operations. Assumes nothing.
use Rattle.typing.proofs.Operations.{apply_other, apply_rule}
use Rattle.typing.proofs.rules.application_type.Goals as goal

pub returns-in_err-end : goal.returns-in_err-end
returns-in_err-end c = rw c.from_residual.ensures (apply_other _ _ _ _ c.argument_end.ensures _ c.in_err-end.was)

pub returns : goal.returns
returns c = apply_rule _ _ _ _ c.argument_end.ensures _ c.in_ok-end.was _ c.codomain-result.ensures _ _ c.if_same.ensures
