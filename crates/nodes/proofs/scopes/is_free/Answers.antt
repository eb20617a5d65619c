-- `nodes::scopes::is_free` meets its contract. Assumes nothing.
use Rattle.std.proofs.Common.{◌/◌, ◌∙◌, length}
use borrow.Author.Tests.{le-leb}
use Rattle.nodes.proofs.Lambdas.{no_kind_free, another_shape, too_far, of_lambda}
use Rattle.nodes.proofs.scopes.is_free.Goals as goal

pub returns-in_default : goal.returns-in_default
returns-in_default c = no_kind_free c.args.around.now c.args.w c.in_default.ensures

pub returns-in_default-shape : goal.returns-in_default-shape
returns-in_default-shape c = another_shape c.args.around.now c.args.w _ c.in-Some.ensures c.in_default-shape.not-Variable

pub returns-then-around-n : goal.returns-then-around-n
returns-then-around-n c =
    let a = c.args in
    le-leb (length a.around.now) (a.w / 256) c.if-around-n.true
    ∙ too_far a.around.now a.w _ c.in-Some.ensures c.in-Variable.is c.if-around-n.true

pub returns-else-around-n : goal.returns-else-around-n
returns-else-around-n c =
    let a = c.args in of_lambda a.around.now a.w _ c.in-Some.ensures c.in-Variable.is c.if-around-n.false c.is_of.result c.is_of.ensures
