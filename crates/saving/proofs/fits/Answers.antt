-- `saving::fits` meets its contract: by the type alone, or by what it leaves for the term. Assumes nothing.
use mathlib.Core.Path.{sym}
use native.Mathlib.Omega.{arith}
use borrow.Author.Tests.{lt-leb}
use Rattle.saving.specs.Saving.{file_bytes}
use Rattle.saving.proofs.fits.Goals as goal

pub returns-then-types-gt4092 : goal.returns-then-types-gt4092
returns-then-types-gt4092 c = let a = c.args in sym (lt-leb (file_bytes a.types a.terms) 16384 (omega arith))
