-- `demands::alone_once` meets its contract, by what `alone` promises. Assumes nothing.
use Rattle.calculus.proofs.Nodes.{one_word}
use Rattle.demands.proofs.alone_once.Goals as goal

pub returns : goal.returns
returns c = let a = c.args in one_word a.words.now a.at c.alone.result c.alone.ensures
