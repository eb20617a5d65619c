-- `lister::ended_line` meets its contract: each of its numbers has 32 bits. Assumes nothing.
use native.Mathlib.Omega.{arith}
use Rattle.std.proofs.Common.{rules}
use Rattle.lister.proofs.ended_line.Goals as goal

pub returns-clause-bound : goal.returns-clause-bound
returns-clause-bound c = omega (arith, c.end_name.ensures.bound, c.line.ensures.short (search rules))
