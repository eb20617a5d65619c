-- `pieces::substituted` meets its contract. Assumes nothing.
use Rattle.pieces.proofs.Written.{substituted_writes}
use Rattle.pieces.proofs.substituted.Goals as goal

pub returns-clause-writes : goal.returns-clause-writes
returns-clause-writes c = substituted_writes _ _ _ c.variable.ensures c.substitute.ensures.same c.substitute.ensures.is
