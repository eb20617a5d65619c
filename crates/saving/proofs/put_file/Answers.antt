-- `saving::put_file` meets its contract: 13, or the file. Assumes nothing.
use native.Mathlib.Omega.{arith}
use Rattle.saving.proofs.Saving.{too_short, bytes_written}
use Rattle.saving.proofs.put_file.Goals as goal

pub returns-then-out-words : goal.returns-then-out-words
returns-then-out-words c = too_short c.args.words.now c.args.out.now (omega (arith, c.if-out-words.true))

pub returns : goal.returns
returns c = bytes_written c.args.words.now c.args.out.now (omega (arith, c.if-out-words.false)) c.put_words.ensures
