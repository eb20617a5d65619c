-- What a node becomes.
use Rattle.std.specs.Prelude.{ℕ, List, ◌≡◌}
use Rattle.calculus.specs.Trees.{Lang, Term}
use Rattle.calculus.specs.Words.{words}
use Rattle.calculus.specs.Reduction.{contract}
use Rattle.pieces.specs.declared.became.Became.{Became}
use Rattle.pieces.specs.Pieces.{Tells}

-- Whichever node it is.
pub record OfNode (ws : List ℕ) (r : Became) : Type 0 where
  pub of : (l : Lang) (e : Term l) → ws ≡ words e → Tells r (contract e)
