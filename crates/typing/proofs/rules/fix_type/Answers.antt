-- `typing::rules::fix_type` meets its contract: each way out is one law of Operations. Assumes nothing.
use Rattle.typing.proofs.Operations.{fix_other, fix_rule}
use Rattle.typing.proofs.rules.fix_type.Goals as goal

pub returns-in_err-end : goal.returns-in_err-end
returns-in_err-end c = rw c.from_residual.ensures (fix_other _ _ _ _ c.argument_end.ensures c.in_err-end.was)

pub returns : goal.returns
returns c = fix_rule _ _ _ _ c.argument_end.ensures _ c.in_ok-end.was _ c.codomain-result.ensures _ c.if_same.ensures
