-- `pieces::became::amiss` meets its contract. Assumes nothing.
use mathlib.Core.Path.{refl}
use Rattle.calculus.specs.Words.{put}
use Rattle.calculus.specs.Reduction.{amiss}
use Rattle.pieces.proofs.became.amiss.Goals as goal

pub returns-in-Ml : goal.returns-in-Ml
unfolding amiss
returns-in-Ml c = rw c.in-Ml.is record { placed = tt; told = refl }

pub returns-in-Scheme : goal.returns-in-Scheme
unfolding amiss put
returns-in-Scheme c = rw (c.wrong.ensures, c.in-Scheme.is) record { placed = tt; told = (_, refl, refl) }
