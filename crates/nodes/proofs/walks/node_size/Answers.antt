-- `nodes::walks::node_size` meets its contract: with as many levels as words no level is missed. Assumes nothing.
use Rattle.std.proofs.Common.{◌∙◌}
use Rattle.nodes.specs.Walks.{walked}
use Rattle.nodes.proofs.Readers.{first_there, first_none, took, no_node, no_kind_there, node_is}
use Rattle.nodes.proofs.walks.node_size.Goals as goal

pub returns-in_err-w : goal.returns-in_err-w
returns-in_err-w c = rw c.from_residual.ensures (no_node c.args.words.now (first_none c.args.words.now c.in_err-w.ensures.value))

pub returns-in_err-row : goal.returns-in_err-row
returns-in_err-row c =
    rw (c.from_residual-in_err-row.ensures, first_there c.args.words.now _ c.in_ok-w.ensures.value) (no_kind_there _ _ c.in_err-row.ensures)

pub returns : goal.returns
returns c =
    let cut = first_there c.args.words.now _ c.in_ok-w.ensures.value in
    rw (c.ok.ensures.value, cut) (took c.walk.result ∙ node_is _ _ _ c.in_ok-row.ensures (walked c.walk.result) (rw cut at c.walk.ensures))
