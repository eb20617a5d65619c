-- `nodes::walks::node`, the reader of nodes, meets its contract, for every slice and every place. Assumes nothing.
use mathlib.Core.Path.{sym, ◌∙◌}
use native.Mathlib.Omega.{arith}
use Rattle.nodes.proofs.Readers.{inside, one_part}
use Rattle.nodes.proofs.walks.node.Goals as goal

pub overflow_add-result : goal.overflow_add-result
overflow_add-result c = omega (arith, (inside c.args.words.now c.args.at (sym c.alone.ensures ∙ c.if-alone.true)))

pub offset_bounds-words-at : goal.offset_bounds-words-at
offset_bounds-words-at c = omega (arith, (inside c.args.words.now c.args.at (sym c.alone.ensures ∙ c.if-alone.true)))

pub slice_bounds-result-end : goal.slice_bounds-result-end
slice_bounds-result-end c = omega (arith, (inside c.args.words.now c.args.at (sym c.alone.ensures ∙ c.if-alone.true)))

pub returns-then-alone : goal.returns-then-alone
returns-then-alone c = let a = c.args in one_part a.words.now a.at (sym c.alone.ensures ∙ c.if-alone.true)

pub returns : goal.returns
returns c = c.node_walked.ensures
