-- The codes of the wrongs that the rules make.
use Rattle.std.specs.Prelude.{ℕ}
use Rattle.pieces.specs.declared.codes.Wrong.{Wrong}
use Rattle.pieces.specs.declared.codes.Wrong.TheVariants.{NoNumber, NoFunction, NoList, OfNil, Over}

abbrev pub code : Wrong → ℕ
code NoNumber = 1
code NoFunction = 2
code NoList = 3
code OfNil = 4
code Over = 5
