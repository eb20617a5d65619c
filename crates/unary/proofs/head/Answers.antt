-- `unary::head` meets its contract. Assumes nothing.
use Rattle.unary.proofs.Told.{head_cons, head_nil, head_other}
use Rattle.unary.proofs.head.Goals as goal

pub returns-in-Cons-clause-told : goal.returns-in-Cons-clause-told
returns-in-Cons-clause-told c = rw c.in-Cons.is (head_cons c.split.ensures)

pub returns-in-Nil-clause-told : goal.returns-in-Nil-clause-told
returns-in-Nil-clause-told c = rw (c.in-Nil.is, c.word.ensures) head_nil

pub returns-in_default : goal.returns-in_default
returns-in_default c =
    let a = rw c.code.ensures.value at c.amiss.ensures in
    record { placed = a.placed; told = head_other c.in_default.not-Nil c.in_default.not-Cons a.told }
