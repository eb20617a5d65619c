-- `unary::tail` meets its contract. Assumes nothing.
use Rattle.unary.proofs.Told.{tail_cons, tail_nil_ml, tail_nil_scheme, tail_other}
use Rattle.unary.proofs.tail.Goals as goal

pub returns-in-Cons-clause-told : goal.returns-in-Cons-clause-told
returns-in-Cons-clause-told c = rw c.in-Cons.is (tail_cons c.split.ensures)

pub returns-in-Ml-clause-told : goal.returns-in-Ml-clause-told
returns-in-Ml-clause-told c = rw (c.in-Nil.is, c.word.ensures, c.in-Ml.is) tail_nil_ml

pub returns-in-Scheme-clause-told : goal.returns-in-Scheme-clause-told
returns-in-Scheme-clause-told c =
    rw (c.in-Nil.is, c.in-Scheme.is) (tail_nil_scheme (rw (c.in-Scheme.is, c.code.ensures.value) at c.amiss.ensures.told))

pub returns-in_default : goal.returns-in_default
returns-in_default c =
    let a = rw c.code-in_default.ensures.value at c.amiss-in_default.ensures in
    record { placed = a.placed; told = tail_other c.in_default.not-Nil c.in_default.not-Cons a.told }
