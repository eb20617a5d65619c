-- `checker::typed` meets its contract: each way out is one law of Deciding. Assumes nothing.
use Rattle.std.proofs.lemmas.Result.{err_from_is_err_and}
use Rattle.checker.proofs.Deciding.{no_type, declared_one, other_one}
use Rattle.checker.proofs.typed.Goals as goal

pub returns-in_err-found : goal.returns-in_err-found
returns-in_err-found c =
    let p = err_from_is_err_and c.from_residual.result c.from_residual.ensures.1 in
    rw (p.1, p.2) (no_type c.in_err-found.ensures)

pub returns-in_err-compare : goal.returns-in_err-compare
returns-in_err-compare c =
    let p = err_from_is_err_and c.from_residual-in_err-compare.result c.from_residual-in_err-compare.ensures.1 in
    rw (p.1, p.2) (other_one c.in_ok-found.ensures c.in_err-compare.ensures)

pub returns : goal.returns
returns c = declared_one c.in_ok-found.ensures c.in_ok-compare.ensures
