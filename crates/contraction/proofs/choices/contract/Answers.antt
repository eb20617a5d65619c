-- `contraction::choices::contract` meets its contract. Assumes nothing.
use mathlib.Core.Path.{ap}
use borrow.Author.Rules.{part_to_end}
use Rattle.nodes.specs.Table.{as_sort}
use Rattle.contraction.proofs.Dispatch.{node_none, node_unknown, node_type, node_wrong, node_one, node_two, node_if, node_boundary, node_other}
use Rattle.contraction.proofs.choices.contract.Goals as goal

pub returns-in_default-clause-told : goal.returns-in_default-clause-told
returns-in_default-clause-told c = node_none c.in_default.len_below

pub returns-in_default-row_at-clause-told : goal.returns-in_default-row_at-clause-told
returns-in_default-row_at-clause-told c = node_unknown (rw c.in_default-row_at.is at c.row_at.ensures)

pub returns-in_default-sort-clause-told : goal.returns-in_default-sort-clause-told
returns-in_default-sort-clause-told c = node_type _ c.in-Some.ensures (ap as_sort c.in_default-sort.is)

pub returns-in-Wrong-clause-told : goal.returns-in-Wrong-clause-told
returns-in-Wrong-clause-told c = node_wrong _ c.in-Some.ensures c.in-Term.language (ap as_sort c.in-Term.is) c.in-Wrong.is

pub returns-in-Operator1-clause-told : goal.returns-in-Operator1-clause-told
returns-in-Operator1-clause-told c =
    node_one _ c.in-Some.ensures c.in-Term.language (ap as_sort c.in-Term.is) c.in-Operator1.is c.contract_1.ensures.told

pub returns-in-Operator2-clause-told : goal.returns-in-Operator2-clause-told
returns-in-Operator2-clause-told c =
    node_two _ c.in-Some.ensures c.in-Term.language (ap as_sort c.in-Term.is) (part_to_end c.args.node.now 1) c.in-Operator2.is c.split.ensures
    c.contract_2.ensures.told

pub returns-in-If0-clause-told : goal.returns-in-If0-clause-told
returns-in-If0-clause-told c =
    node_if _ c.in-Some.ensures c.in-Term.language (ap as_sort c.in-Term.is) (part_to_end c.args.node.now 1) c.in-If0.is c.split-in-If0.ensures
    c.split-in-If0-2.ensures c.of_if.ensures.told

pub returns-in-Boundary-clause-told : goal.returns-in-Boundary-clause-told
returns-in-Boundary-clause-told c =
    node_boundary _ c.in-Some.ensures c.in-Term.language (ap as_sort c.in-Term.is) (part_to_end c.args.node.now 1) c.in-Boundary.is
    c.split-in-Boundary.ensures c.converted.ensures.told

pub returns-in_default-shape : goal.returns-in_default-shape
returns-in_default-shape c =
    let d = c.in_default-shape in
    record {
      placed = tt;
      told =
          node_other _ c.in-Some.ensures c.in-Term.language (ap as_sort c.in-Term.is) d.not-Operator1 d.not-Operator2 d.not-If0
          d.not-Wrong d.not-Boundary;
    }
