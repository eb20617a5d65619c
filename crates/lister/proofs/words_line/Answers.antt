-- `lister::words_line` meets its contract: the first word, and the others with a blank before each. Assumes nothing.
use Prim.Native.Nat.{ℕ, suc, ◌<◌}
use mathlib.Core.List.{List}
use mathlib.Core.Path.{ap}
use native.Mathlib.Omega.{arith}
use lib.ListN.{get_or}
use lib.Seq.{take_all}
use Rattle.writing.proofs.Stores.{puts_then, puts_as, puts_none}
use Rattle.lister.specs.Listing.{fields}
use Rattle.lister.proofs.Written.{digits_few, fields_more}
use Rattle.lister.proofs.words_line.Goals as goal

pub loop-word-init : goal.loop-word-init
loop-word-init c =
    let first = ap (λ (ws : List ℕ). get_or ws 0 0) c.in-Some.ensures.cases.0 in
    let few = digits_few c.from.result (omega (arith, c.from.ensures, first, c.type_inv.words 0)) in
    record { bound = omega (arith, c.put_decimal.ensures.wrote.place, few); put = puts_none c.put_decimal.new.text }

pub loop-word-preserved : goal.loop-word-preserved
loop-word-preserved c =
    let l = c.loop-word in
    let i = l.word-index in
    let word = ap (λ (ws : List ℕ). get_or ws (suc i) 0) c.in-Some.ensures.cases.0 in
    let few : c.from-in-loop-word.result < 4294967296 = omega (arith, c.from-in-loop-word.ensures, word, c.type_inv.words (suc i)) in
    record {
      bound = omega (arith, l.invariant.bound, c.field.ensures.short few);
      put =
          puts_as (fields_more c.in-Some.others.now i (omega arith))
          (puts_then l.invariant.put (rw c.from-in-loop-word.ensures at c.field.ensures.put));
    }

pub returns-after-loop-word-clause-put : goal.returns-after-loop-word-clause-put
returns-after-loop-word-clause-put c =
    let l = c.loop-word in
    let all = take_all l.word-index c.in-Some.others.now (omega arith) in
    puts_as (rw (c.in-Some.ensures.cases.0, c.from.ensures)) (puts_then c.put_decimal.ensures (puts_as (ap fields all) l.invariant.put))
