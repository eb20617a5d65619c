-- `conversions::converted` meets its contract. Assumes nothing.
use mathlib.Core.Path.{ap, ◌∙◌}
use borrow.Author.Rules.{part_to_end}
use Rattle.std.proofs.Common.{Some}
use Rattle.conversions.proofs.ByType.{at_N, at_L, at_list_lem, at_to, at_unknown, at_other, at_none}
use Rattle.conversions.proofs.converted.Goals as goal

pub returns-in_default-clause-told : goal.returns-in_default-clause-told
returns-in_default-clause-told c = at_none c.in_default.len_below

pub returns-in_default-shape_of-clause-told : goal.returns-in_default-shape_of-clause-told
returns-in_default-shape_of-clause-told c = at_unknown c.shape_of.ensures c.in_default-shape_of.is

pub returns-in-Numbers-clause-told : goal.returns-in-Numbers-clause-told
returns-in-Numbers-clause-told c = at_N c.shape_of.ensures (c.in-Some.is ∙ ap Some c.in-Numbers.is) c.at_number.ensures.told

pub returns-in-Lump-clause-told : goal.returns-in-Lump-clause-told
returns-in-Lump-clause-told c = at_L c.shape_of.ensures (c.in-Some.is ∙ ap Some c.in-Lump.is) c.at_lump.ensures.told

pub returns-in-List-clause-told : goal.returns-in-List-clause-told
returns-in-List-clause-told c =
    at_list_lem c.shape_of.ensures (part_to_end c.args.at.now 1) (c.in-Some.is ∙ ap Some c.in-List.is) c.at_list.ensures.told

pub returns-in-Function-clause-told : goal.returns-in-Function-clause-told
returns-in-Function-clause-told c =
    at_to c.shape_of.ensures (part_to_end c.args.at.now 1) (c.in-Some.is ∙ ap Some c.in-Function.is) c.at_function.ensures.told

pub returns-in_default-shape : goal.returns-in_default-shape
returns-in_default-shape c =
    let d = c.in_default-shape in
    record { placed = tt; told = at_other c.shape_of.ensures c.in-Some.is d.not-Numbers d.not-Lump d.not-List d.not-Function }
