-- `reducer::turns::Look::at` meets its contract: each way out is one law of Turning. Assumes nothing.
use mathlib.Core.Bool.{true, false, not}
use mathlib.Core.List.{List}
use mathlib.Core.Path.{◌≡◌, refl, ap, ◌∙◌}
use Prim.Native.Nat.{ℕ, ◌+◌}
use borrow.Author.Rules.{part_to_end}
use native.Mathlib.Omega.{arith}
use Rattle.std.proofs.Common.{rules, tests}
use Rattle.nodes.specs.declared.kinds.Operator2.TheVariants.{Cons}
use Rattle.nodes.proofs.Ways.{part_length}
use Rattle.writing.specs.Spans.{span}
use Rattle.reducer.proofs.Turning.{look_none, look_number, look_variable, look_one, look_two, look_if0, look_boundary, look_wrong, look_value}
use Rattle.reducer.proofs.turns.Look.at.Goals as goal

pub returns-in_default : goal.returns-in_default
returns-in_default c = rw c.new.ensures (look_none _ c.requires.1 c.shape_of.ensures c.in_default.is)

pub returns-in-Number : goal.returns-in-Number
returns-in-Number c = rw c.new-in-Number.ensures (look_number _ c.requires.1 c.shape_of.ensures c.in-Some.is c.in-Number.is)

pub returns-in-Variable : goal.returns-in-Variable
returns-in-Variable c = rw c.new-in-Variable.ensures (look_variable _ c.requires.1 c.shape_of.ensures c.in-Some.is c.in-Variable.is)

pub returns-in-Operator1 : goal.returns-in-Operator1
returns-in-Operator1 c = rw c.new-in-Operator1.ensures (look_one _ c.requires.1 c.shape_of.ensures c.in-Some.is c.in-Operator1.is)

pub returns-in-Operator2-Cons : goal.returns-in-Operator2-Cons
returns-in-Operator2-Cons c =
    let cons : c.in-Operator2-Cons.field-0 ≡ Cons = search (rules, tests) in
    rw c.new-in-Operator2-Cons.ensures
    (look_two _ c.requires.1 c.shape_of.ensures c.in-Some.is {own = false} c.in-Operator2-Cons.is (rw cons refl))

pub returns-in-Operator2 : goal.returns-in-Operator2
returns-in-Operator2 c =
    rw c.new-in-Operator2.ensures
    (look_two _ c.requires.1 c.shape_of.ensures c.in-Some.is {own = true} c.in-Operator2.is (search (rules, tests)))

pub returns-in-If0 : goal.returns-in-If0
returns-in-If0 c = rw c.new-in-If0.ensures (look_if0 _ c.requires.1 c.shape_of.ensures c.in-Some.is c.in-If0.is)

pub returns-in-Boundary : goal.returns-in-Boundary
returns-in-Boundary c =
    let start_is = ap (λ (n : ℕ). 1 + n) (c.skip.ensures.is ∙ ap (λ (v : List ℕ). span v 1) (part_to_end c.args.words.now 1)) in
    rw (c.new-in-Boundary.ensures, c.then_some-leaves.ensures)
    (look_boundary _ c.requires.1 c.shape_of.ensures c.in-Some.is _ start_is (ap not c.is_lump.ensures)
    (omega (arith, c.skip.ensures.within, part_length c.args.words.now 1, c.requires.1)) c.in-Boundary.is)

pub returns-in-Wrong : goal.returns-in-Wrong
returns-in-Wrong c =
    let s = c.skip-in-Wrong.ensures in
    rw c.new-in-Wrong.ensures (look_wrong _ c.requires.1 c.shape_of.ensures c.in-Some.is _ s.is s.within c.in-Wrong.is)

pub returns-in_default-shape : goal.returns-in_default-shape
returns-in_default-shape c =
    let s = c.skip-in_default-shape.ensures in
    let d = c.in_default-shape in
    rw c.new-in_default-shape.ensures
    (look_value _ c.requires.1 c.shape_of.ensures c.in-Some.is _ s.is s.within
    d.not-Number d.not-Variable d.not-Operator1 d.not-Operator2 d.not-If0 d.not-Boundary d.not-Wrong)
