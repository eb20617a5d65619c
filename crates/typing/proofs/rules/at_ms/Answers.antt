-- `typing::rules::at_ms` meets its contract: the answer by cases. Assumes nothing.
use Rattle.calculus.specs.Trees.{ml}
use Rattle.types.proofs.Matching.{passed_on}
use Rattle.typing.proofs.RuleResults.{crossed_bad, ms_whole}
use Rattle.typing.proofs.rules.at_ms.Goals as goal

pub returns-in_err-end : goal.returns-in_err-end
returns-in_err-end c w ls = rw (c.in_err-end.was, passed_on _ c.from_residual.ensures.1) (crossed_bad ml w ls _ _)

pub returns : goal.returns
returns c w ls = rw c.in_ok-end.was (ms_whole w ls _ _)
