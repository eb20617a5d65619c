-- `checker::judge` meets its contract: each way out is one law of Judging. Assumes nothing.
use Rattle.std.proofs.lemmas.Result.{err_from_is_err_and}
use Rattle.checker.proofs.Judging.{not_ordered, not_closed, decided, ordered_is, closing_is}
use Rattle.checker.proofs.judge.Goals as goal

pub returns-in_err-ordered : goal.returns-in_err-ordered
returns-in_err-ordered c =
    let a = c.args in
    let b = c.requires.within in
    let p = err_from_is_err_and c.from_residual.result c.from_residual.ensures.1 in
    rw (p.1, p.2) (not_ordered a.words.now a.n b _ (ordered_is a.words.now a.n b _ c.in_err-ordered.ensures))

pub returns-in_err-scoped : goal.returns-in_err-scoped
returns-in_err-scoped c =
    let a = c.args in
    let b = c.requires.within in
    let p = err_from_is_err_and c.from_residual-in_err-scoped.result c.from_residual-in_err-scoped.ensures.1 in
    rw (p.1, p.2) (not_closed a.words.now a.n b _ _
    (ordered_is a.words.now a.n b _ c.in_ok-ordered.ensures) (closing_is a.words.now a.n b _ c.in_err-scoped.ensures))

pub returns : goal.returns
returns c =
    let a = c.args in
    let b = c.requires.within in
    decided a.words.now a.n b _ _ c.typed.result (ordered_is a.words.now a.n b _ c.in_ok-ordered.ensures)
    (closing_is a.words.now a.n b _ c.in_ok-scoped.ensures) c.typed.ensures
