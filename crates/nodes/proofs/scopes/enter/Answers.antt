-- `nodes::scopes::enter` meets its contract. Assumes nothing.
use Rattle.std.proofs.Common.{ap}
use Rattle.nodes.specs.Table.{as_lang, as_sort}
use Rattle.nodes.proofs.Lambdas.{no_kind_noted, none_noted, of_a_type, noted, pushed}
use Rattle.nodes.proofs.scopes.enter.Goals as goal

pub returns-in_default-clause-inside : goal.returns-in_default-clause-inside
returns-in_default-clause-inside c = no_kind_noted c.args.scope.now.items c.args.w c.in_default.ensures

pub returns-in_default-shape-clause-inside : goal.returns-in_default-shape-clause-inside
returns-in_default-shape-clause-inside c = none_noted c.args.scope.now.items c.args.w _ c.in-Some.ensures c.in_default-shape.not-Lambda

pub returns-in_default-sort-clause-inside : goal.returns-in_default-sort-clause-inside
returns-in_default-sort-clause-inside c =
    of_a_type c.args.scope.now.items c.args.w _ c.in-Some.ensures c.in-Lambda.is (ap as_sort c.in_default-sort.is)

pub returns-clause-inside : goal.returns-clause-inside
returns-clause-inside c =
    rw (c.push.ensures.items, pushed c.args.scope.now.items c.in-Term.language) (noted c.args.scope.now.items c.args.w _ c.in-Some.ensures
    c.in-Lambda.is (as_lang c.in-Term.language) (ap as_sort c.in-Term.is))
