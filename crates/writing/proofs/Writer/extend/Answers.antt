-- `writing::Writer::extend` meets its contract: a few items, and then the others. Assumes nothing.
use lib.ListN.{take-append-drop}
use borrow.Author.Rules.{part_to_end}
use Rattle.writing.proofs.Stores.{puts_then, puts_as}
use Rattle.writing.proofs.Writer.extend.Goals as goal

pub returns : goal.returns
returns g c =
    let k = c.uneven-first.result in
    puts_as (take-append-drop k c.args.items.now) (puts_then c.put_all-2.ensures (puts_as (part_to_end c.args.items.now k) c.put_all-3.ensures))
