-- `types::shape_at` meets its contract. Assumes nothing.
use Rattle.types.proofs.Meanings.{shape_zero, shape_past}
use Rattle.types.proofs.shape_at.Goals as goal
use Rattle.types.proofs.shape_at.Goals.{then-p-eq0-via-then-p-eq0, then-p-eq0-via-else-p-eq0+then-words-p}

pub returns-then-p-eq0-clause-value : goal.returns-then-p-eq0-clause-value
returns-then-p-eq0-clause-value c =
    elim c.then-p-eq0.branch [
      | then-p-eq0-via-then-p-eq0 w ↦ shape_zero _ _ w.if-p-eq0.true
      | then-p-eq0-via-else-p-eq0+then-words-p w ↦ shape_past _ _ w.if-words-p.true
    ]
