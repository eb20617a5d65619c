-- `pieces::values::split` meets its contract. Assumes nothing.
use Rattle.pieces.proofs.Parts.{split_lem}
use Rattle.pieces.proofs.values.split.Goals as goal

pub returns : goal.returns
returns c = let s = c.split_at.ensures in rw (s.front, s.back) (split_lem _ _ c.skip.ensures.is c.skip.ensures.within)
