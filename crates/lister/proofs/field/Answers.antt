-- `lister::field` meets its contract: a blank, and at most twenty digits, or ten of a number of 32 bits. Assumes nothing.
use native.Mathlib.Omega.{arith}
use Rattle.writing.proofs.Stores.{puts_then}
use Rattle.text.proofs.Decimals.{decimal_length}
use Rattle.lister.specs.Listing.{field}
use Rattle.lister.proofs.Written.{digits_few}
use Rattle.lister.proofs.field.Goals as goal

pub returns : goal.returns
unfolding field
returns c =
    let n = c.args.number in
    let b = c.put.ensures.wrote.place in
    let d = c.put_decimal.ensures.wrote.place in
    record {
      put = puts_then c.put.ensures c.put_decimal.ensures;
      bound = omega (arith, b, d, decimal_length 19 n (omega arith));
      short = λ h. omega (arith, b, d, digits_few n h);
    }
