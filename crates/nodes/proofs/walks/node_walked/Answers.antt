-- `nodes::walks::node_walked` meets its contract, for every slice and every place. Assumes nothing.
use Rattle.std.proofs.Common.{◌∙◌, arith}
use Rattle.nodes.proofs.Readers.{node_fits, past_end, node_part}
use Rattle.nodes.proofs.walks.node_walked.Goals as goal

pub returns-then-words-at : goal.returns-then-words-at
returns-then-words-at c = let a = c.args in past_end a.words.now a.at c.if-words-at.true

pub overflow_add-result : goal.overflow_add-result
overflow_add-result c = omega (arith, (node_fits c.args.words.now c.args.at _ (c.unwrap_or-n.ensures ∙ c.node_size.ensures)))

pub slice_bounds-result-end-2 : goal.slice_bounds-result-end-2
slice_bounds-result-end-2 c = omega (arith, (node_fits c.args.words.now c.args.at _ (c.unwrap_or-n.ensures ∙ c.node_size.ensures)))

pub returns : goal.returns
returns c = let a = c.args in node_part a.words.now a.at _ (c.unwrap_or-n.ensures ∙ c.node_size.ensures)
