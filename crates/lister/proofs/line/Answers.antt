-- `lister::line` meets its contract: the name, the fields, the line's end. Assumes nothing.
use mathlib.Core.Path.{ap}
use native.Mathlib.Omega.{arith}
use lib.Seq.{take_all}
use Rattle.writing.proofs.Stores.{puts_then, puts_as}
use Rattle.lister.specs.Listing.{fields}
use Rattle.lister.proofs.Written.{short_at, fields_more}
use Rattle.lister.proofs.line.Goals as goal

pub loop-number-preserved : goal.loop-number-preserved
loop-number-preserved c =
    let l = c.loop-number in
    record {
      bound = omega (arith, l.invariant.bound, c.field.ensures.bound);
      short = λ s. omega (arith, l.invariant.short s, c.field.ensures.short (short_at c.args.numbers.now s l.number-index (omega arith)));
      put = puts_as (fields_more c.args.numbers.now l.number-index (omega arith)) (puts_then l.invariant.put c.field.ensures.put);
    }

pub returns-clause-put : goal.returns-clause-put
returns-clause-put c =
    let l = c.loop-number in
    let all = take_all l.number-index c.args.numbers.now (omega arith) in
    puts_then (puts_then c.extend.ensures (puts_as (ap fields all) l.invariant.put)) c.put.ensures

pub returns-clause-short : goal.returns-clause-short
returns-clause-short c = λ s. omega (arith, c.loop-number.invariant.short s, c.put.ensures.wrote.place)
