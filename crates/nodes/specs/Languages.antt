-- The lambdas around a word as code keeps them: their languages in a list, the innermost last.
use Rattle.std.specs.Prelude.{List, map, reverse}
use Rattle.calculus.specs.Trees.{Lang}
use Rattle.nodes.specs.declared.kinds.Language.{Language}
use Rattle.nodes.specs.Table.{as_lang}

abbrev pub lambdas : List Language → List Lang
lambdas ls = reverse (map as_lang ls)
