-- `typing::rules::at_sm` meets its contract: each way out is one law of RuleResults. Assumes nothing.
use Rattle.calculus.specs.Trees.{sc}
use Rattle.types.proofs.Matching.{passed_on}
use Rattle.typing.proofs.RuleResults.{crossed_bad, sm_same, sm_differ}
use Rattle.typing.proofs.rules.at_sm.Goals as goal

pub returns-in_err-typed : goal.returns-in_err-typed
returns-in_err-typed c = rw (c.in_err-typed.was, passed_on _ c.from_residual.ensures.1) (crossed_bad sc _ _ _ _)

pub returns-then-not-same : goal.returns-then-not-same
returns-then-not-same c = rw c.in_ok-typed.was (sm_differ _ _ _ _ _ _ c.same.ensures c.if-not-same.true)

pub returns : goal.returns
returns c = rw c.in_ok-typed.was (sm_same _ _ _ _ _ _ c.same.ensures c.if-not-same.false)
