-- `conversions::at_lump` meets its contract. Assumes nothing.
use Rattle.conversions.proofs.Crossing.{lump_ml, lump_other, lump_kept, lump_opened}
use Rattle.conversions.proofs.at_lump.Goals as goal
use Rattle.conversions.proofs.at_lump.Goals.{in_default-via-in-Lump+else-sealed-owner, in_default-via-in_default}

pub returns-in-Ml-clause-told : goal.returns-in-Ml-clause-told
returns-in-Ml-clause-told c = rw c.in-Ml.is lump_ml

pub returns-in-Lump-clause-told : goal.returns-in-Lump-clause-told
returns-in-Lump-clause-told c = rw c.in-Scheme.is (lump_opened c.in-Lump.ensures c.if-sealed-owner.true)

pub returns-in_default-clause-told : goal.returns-in_default-clause-told
returns-in_default-clause-told c =
    rw c.in-Scheme.is
    (elim c.in_default.branch [
      | in_default-via-in-Lump+else-sealed-owner w ↦ lump_kept w.in-Lump.ensures w.if-sealed-owner.false
      | in_default-via-in_default w ↦ lump_other c.value_of.ensures w.in_default.not-Lump
    ])
