-- `conversions::misfit` meets its contract. Assumes nothing.
use Rattle.conversions.proofs.Crossing.{misfit_ml, misfit_scheme}
use Rattle.conversions.proofs.misfit.Goals as goal

pub returns-in-Ml-clause-told : goal.returns-in-Ml-clause-told
returns-in-Ml-clause-told c = rw (c.word.ensures, c.in-Ml.is) (misfit_ml _)

pub returns-in-Scheme-clause-told : goal.returns-in-Scheme-clause-told
returns-in-Scheme-clause-told c = rw c.in-Scheme.is misfit_scheme
