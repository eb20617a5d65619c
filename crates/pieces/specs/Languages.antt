-- The language that is not this one.
use Rattle.nodes.specs.declared.kinds.Language.{Language}
use Rattle.nodes.specs.declared.kinds.Language.TheVariants.{Ml, Scheme}

abbrev pub other : Language → Language
other Ml = Scheme
other Scheme = Ml
