-- `demands::node_once` meets its contract, by what `node` promises. Assumes nothing.
use Prim.Native.Nat.{ℕ}
use mathlib.Core.List.{List}
use mathlib.Core.Path.{sym, subst}
use Rattle.calculus.specs.Nodes.{GivenBack}
use Rattle.calculus.proofs.Nodes.{given_back}
use Rattle.demands.proofs.node_once.Goals as goal

pub returns : goal.returns
returns c =
    let a = c.args in
    subst (λ (l : List ℕ). GivenBack a.words.now a.at l) (sym c.node.ensures) (given_back a.words.now a.at)
