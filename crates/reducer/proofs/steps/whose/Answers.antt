-- `reducer::steps::whose` meets its contract. Assumes nothing.
use Rattle.reducer.proofs.Stepping.{turns_whole}
use Rattle.reducer.proofs.steps.whose.Goals as goal
use Rattle.std.proofs.Common.{of_calls}

pub returns-clause-is : goal.returns-clause-is
returns-clause-is c = turns_whole _ c.turn_from.ensures.is (λ p. search of_calls) c.or_else.ensures
