-- `typing::rules::result_2` meets its contract: add and subtract are one law of RuleResults. Assumes nothing.
use Rattle.typing.proofs.RuleResults.{added, subtracted}
use Rattle.typing.proofs.rules.result_2.Goals as goal

pub returns-in-Add : goal.returns-in-Add
returns-in-Add c = rw c.in-Add.is (added _ _ _ _ _ c.sum_type.ensures)

pub returns-in-Subtract : goal.returns-in-Subtract
returns-in-Subtract c = rw c.in-Subtract.is (subtracted _ _ _ _ _ c.sum_type-in-Subtract.ensures)
