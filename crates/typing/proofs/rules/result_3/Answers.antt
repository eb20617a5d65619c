-- `typing::rules::result_3` meets its contract: each way out is one law of RuleResults. Assumes nothing.
use Rattle.typing.proofs.RuleResults.{three_test, three_rule}
use Rattle.typing.proofs.rules.result_3.Goals as goal

pub returns-in_err-number : goal.returns-in_err-number
returns-in_err-number c = rw c.from_residual.ensures (three_test _ _ _ _ _ _ c.number.ensures c.in_err-number.was)

pub returns : goal.returns
returns c = three_rule _ _ _ _ _ _ c.number.ensures _ c.in_ok-number.was _ c.if_same.ensures
