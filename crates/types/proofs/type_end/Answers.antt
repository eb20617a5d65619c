-- `types::type_end` meets its contract: comparing a type with itself finds its end. Assumes nothing.
use Rattle.types.proofs.Matching.{type_end_lem}
use Rattle.types.proofs.type_end.Goals as goal

pub returns : goal.returns
returns c = rw c.unwrap_or.ensures (type_end_lem _ _ c.requires _ c.compare_words.ensures)
