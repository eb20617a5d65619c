-- `lister::list` meets its contract: the lines of the run, and the rest of the buffer is zero. Assumes nothing.
use borrow.Author.Rules.{rules}
use native.Mathlib.Omega.{arith}
use mathlib.Core.Path.{ap}
use lib.ListN.{length}
use Rattle.writing.proofs.Stores.{puts_as, padded_by}
use Rattle.lister.proofs.Texts.{first_long, left_within, wanted_few, text_is}
use Rattle.lister.proofs.list.Goals as goal

pub lines-requires : goal.lines-requires
lines-requires c =
    let r = c.run-answer.ensures in (
      left_within _ _ _ r.answer_is r.first_is,
      wanted_few _ _ _ r.answer_is r.first_is,
      omega (arith, first_long _ _ _ r.answer_is r.first_is),
      omega (arith, c.new-listing.ensures),
    )

pub returns-clause-count : goal.returns-clause-count
returns-clause-count c =
    let r = c.run-answer.ensures in
    omega (arith, c.fill_rest.ensures.place, c.lines.ensures.put.wrote.place, ap length (text_is _ _ _ r.answer_is r.first_is))

pub returns-clause-text : goal.returns-clause-text
returns-clause-text c =
    let r = c.run-answer.ensures in
    let lines = puts_as (text_is _ _ _ r.answer_is r.first_is) c.lines.ensures.put in
    let all = padded_by c.new-listing.ensures.1 lines c.fill_rest.ensures in
    search rules
