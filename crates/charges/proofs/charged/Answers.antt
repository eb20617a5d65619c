-- `charges::charged` meets its contract. Assumes nothing.
use Rattle.std.proofs.Common.{arith}
use Rattle.std.proofs.lemmas.Iterator.{YieldsList-from_slice}
use Rattle.std.proofs.lemmas.Iterator.Consumers.{fits_from_yields_list}
use Rattle.std.proofs.lemmas.List.Sums.{sum_by-le}
use Rattle.charges.specs.Charged.{most_charge}
use Rattle.charges.proofs.charged.Goals as goal

pub sum-requires-clause-fits : goal.sum-requires-clause-fits
sum-requires-clause-fits c =
    let cs = c.each_charge-charge.result in
    let small = sum_by-le (λ x. x) most_charge cs c.each_charge-charge.ensures.small in
    fits_from_yields_list c.iter.result _ (YieldsList-from_slice cs cc) (omega (arith, small))
