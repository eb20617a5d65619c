-- `typing::rules::lambda_of` meets its contract: each way out is one law of Variables. The measure is the number of lambdas between. Assumes
-- nothing.
use Rattle.std.proofs.Common.{arith}
use Rattle.typing.proofs.Variables.{no_scope, scope_past_end, row_sort, no_kind, by_sort, outer}
use Rattle.typing.proofs.rules.+lambda_of.Goals as goal
use Rattle.typing.proofs.rules.+lambda_of.Goals.{then-scope-eq0-via-then-scope-eq0, then-scope-eq0-via-else-scope-eq0+then-types-scope}

pub returns-then-scope-eq0 : goal.returns-then-scope-eq0
returns-then-scope-eq0 t c =
    elim c.then-scope-eq0.branch [
      | then-scope-eq0-via-then-scope-eq0 w ↦ no_scope _ _ _ _ _ w.if-scope-eq0.true
      | then-scope-eq0-via-else-scope-eq0+then-types-scope w ↦ scope_past_end _ _ _ _ _ w.if-scope-eq0.false w.if-types-scope.true
    ]

pub returns-then-between-gt0 : goal.returns-then-between-gt0
returns-then-between-gt0 t c =
    outer _ _ _ _ _ c.if-scope-eq0.false (λ e. omega (arith, e)) _ _ c.from-out.ensures c.lambda_of.ensures

pub returns-in_err-row : goal.returns-in_err-row
returns-in_err-row t c =
    rw c.from_residual.ensures
    (no_kind _ _ _ _ _ c.if-scope-eq0.false (row_sort c.args.types.words.now c.args.scope _ c.in_err-row.ensures) (omega arith))

pub returns : goal.returns
returns t c =
    let h =
    by_sort _ _ _ _ _ c.if-scope-eq0.false c.if-types-scope.false _ (row_sort c.args.types.words.now c.args.scope _ c.in_ok-row.ensures)
    (omega arith) in
    rw c.then_some.ensures (rw c.is_of.ensures h)
