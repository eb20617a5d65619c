-- `reducer::steps::step` meets its contract: each way out is one law of Stepping. Assumes nothing.
use Rattle.reducer.proofs.Stepping.{step_value, step_stuck, step_raised, step_next}
use Rattle.reducer.proofs.steps.step.Goals as goal

pub returns-in_default-clause-is : goal.returns-in_default-clause-is
returns-in_default-clause-is c =
    step_value _ _ _ _ c.whose.ensures.is c.in_default.is

pub returns-in-Nothing-clause-is : goal.returns-in-Nothing-clause-is
returns-in-Nothing-clause-is c =
    step_stuck _ _ _ _ c.whose.ensures.is _ c.in-Some.is c.in-Some.ensures.spanned _ c.contract.ensures.told c.in-Nothing.is

pub returns-in-Raises-clause-is : goal.returns-in-Raises-clause-is
returns-in-Raises-clause-is c =
    step_raised _ _ _ _ c.whose.ensures.is _ c.in-Some.is c.in-Some.ensures.spanned _ c.contract.ensures.told _ c.in-Raises.is

pub returns-in-Becomes-clause-is : goal.returns-in-Becomes-clause-is
returns-in-Becomes-clause-is c =
    step_next _ _ _ _ c.whose.ensures.is _ c.in-Some.is c.in-Some.ensures.spanned _ c.contract.ensures.told _ _ c.splice.ensures _ c.in-Becomes.is
