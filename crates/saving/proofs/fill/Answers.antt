-- `saving::fill` meets its contract: the header, the type, the term, one after the other. Assumes nothing.
use borrow.Author.Rules.{rules}
use Rattle.writing.proofs.Stores.{puts_then}
use Rattle.saving.proofs.fill.Goals as goal

pub returns : goal.returns
returns c = let all = puts_then c.extend.ensures (puts_then c.extend-2.ensures c.extend-3.ensures) in search rules
