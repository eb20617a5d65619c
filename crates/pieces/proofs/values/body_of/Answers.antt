-- `pieces::values::body_of` meets its contract. Assumes nothing.
use Rattle.pieces.proofs.Parts.{body_ml}
use Rattle.pieces.proofs.values.body_of.Goals as goal

pub returns-in-Ml : goal.returns-in-Ml
returns-in-Ml c = rw c.in-Ml.is (body_ml c.split.ensures)
