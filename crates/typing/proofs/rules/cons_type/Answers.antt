-- `typing::rules::cons_type` meets its contract: each way out is one law of Operations. Assumes nothing.
use Rattle.typing.proofs.Operations.{cons_other, cons_rule}
use Rattle.typing.proofs.rules.cons_type.Goals as goal

pub returns-in_err-e : goal.returns-in_err-e
returns-in_err-e c = rw c.from_residual.ensures (cons_other _ _ _ _ _ c.element.ensures c.in_err-e.was)

pub returns : goal.returns
returns c = cons_rule _ _ _ _ _ c.element.ensures _ c.in_ok-e.was _ c.if_same.ensures
