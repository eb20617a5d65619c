-- `typing::rules::result_1` meets its contract: each way out is one law of RuleResults. Assumes nothing.
use Rattle.typing.proofs.RuleResults.{tl_other, null_other, one_hd, one_tl, one_null}
use Rattle.typing.proofs.rules.result_1.Goals as goal

pub returns-in-Hd : goal.returns-in-Hd
returns-in-Hd c = rw c.in-Hd.is (one_hd _ _ c.args.at _ _ c.element.ensures)

pub returns-in_err-element-in-Tl : goal.returns-in_err-element-in-Tl
returns-in_err-element-in-Tl c =
    rw (c.in-Tl.is, c.from_residual.ensures) (tl_other _ _ c.args.at _ _ c.element-in-Tl.ensures c.in_err-element-in-Tl.was)

pub returns-in_ok-element-in-Tl : goal.returns-in_ok-element-in-Tl
returns-in_ok-element-in-Tl c = rw c.in-Tl.is (one_tl _ _ c.args.at _ _ c.element-in-Tl.ensures _ c.in_ok-element-in-Tl.was)

pub returns-in_err-element-in-Null : goal.returns-in_err-element-in-Null
returns-in_err-element-in-Null c =
    rw (c.in-Null.is, c.from_residual-in_err-element-in-Null.ensures)
    (λ o h. null_other _ _ c.args.at _ _ c.element-in-Null.ensures c.in_err-element-in-Null.was)

pub returns-in_ok-element-in-Null : goal.returns-in_ok-element-in-Null
returns-in_ok-element-in-Null c =
    rw c.in-Null.is (λ o h. one_null _ _ c.args.at _ _ c.element-in-Null.ensures _ c.in_ok-element-in-Null.was o h)
