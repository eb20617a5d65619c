-- `layout::right_to` meets its contract: the blanks, and the digits. Assumes nothing.
use mathlib.Core.Path.{◌∙◌}
use native.Mathlib.Omega.{arith}
use Rattle.writing.proofs.Stores.{puts_then, puts_as}
use Rattle.text.proofs.Decimals.{decimal_is}
use Rattle.layout.proofs.right_to.Goals as goal

pub returns-clause-put : goal.returns-clause-put
returns-clause-put c =
    let digits = c.as_bytes-digits.ensures.value ∙ c.format.ensures.text ∙ decimal_is c.args.number (omega arith) in
    puts_as (rw (c.saturating_sub.ensures, digits)) (puts_then c.up_to.ensures.put c.extend.ensures)
