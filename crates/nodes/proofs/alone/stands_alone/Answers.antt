-- `nodes::alone::stands_alone` meets its contract. Assumes nothing.
use Rattle.std.proofs.Common.{◌∙◌}
use Rattle.nodes.proofs.Lone.{not_alone, in_its_range, has_parts}
use Rattle.nodes.proofs.alone.stands_alone.Goals as goal

pub returns-then-is_empty : goal.returns-then-is_empty
returns-then-is_empty c = c.takes.ensures ∙ in_its_range c.args.w c.in-Some.row c.in-Some.ensures c.if-is_empty.ensures

pub returns-else-is_empty : goal.returns-else-is_empty
returns-else-is_empty c = c.if-is_empty.false ∙ has_parts c.args.w c.in-Some.row c.in-Some.ensures c.if-is_empty.ensures

pub returns-in-None : goal.returns-in-None
returns-in-None c = not_alone c.args.w c.in-None.ensures
