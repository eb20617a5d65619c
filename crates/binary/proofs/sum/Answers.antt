-- `binary::sum` meets its contract. Assumes nothing.
use mathlib.Core.Path.{refl}
use Rattle.binary.proofs.Told.{sum_within, over_in_ml, over_in_scheme}
use Rattle.binary.proofs.sum.Goals as goal

pub returns-then-a-b-le-LARGEST-clause-told : goal.returns-then-a-b-le-LARGEST-clause-told
returns-then-a-b-le-LARGEST-clause-told c = sum_within c.if-a-b-le-LARGEST.true c.number_in.ensures.told

pub returns-in-Ml-clause-told : goal.returns-in-Ml-clause-told
returns-in-Ml-clause-told c = rw (c.word.ensures, c.in-Ml.is) (over_in_ml _ refl c.if-a-b-le-LARGEST.false)

pub returns-in-Scheme-clause-told : goal.returns-in-Scheme-clause-told
returns-in-Scheme-clause-told c =
    rw c.in-Scheme.is (over_in_scheme (rw (c.in-Scheme.is, c.code.ensures.value) at c.amiss.ensures.told) c.if-a-b-le-LARGEST.false)
