-- `unary::holds` meets its contract. Assumes nothing.
use mathlib.Core.Logic.{inl, inr}
use native.Mathlib.Omega.{arith}
use Rattle.unary.proofs.Told.{is_function, is_no_function, nil_is_list, cons_is_list, is_no_list, is_nil, is_not_nil, is_number, is_no_number}
use Rattle.unary.proofs.holds.Goals as goal

pub returns-in-Lambda : goal.returns-in-Lambda
returns-in-Lambda c = rw (c.in-0.is, c.in-Lambda.is) is_function

pub returns-in_default-matches : goal.returns-in_default-matches
returns-in_default-matches c = rw c.in-0.is (is_no_function c.in_default-matches.not-Lambda)

pub returns-in-Nil : goal.returns-in-Nil
returns-in-Nil c =
    rw c.in-1.is
    (elim c.in-Nil.is [ inl z ↦ rw z.1 nil_is_list | inr z ↦ rw z.1 cons_is_list ])

pub returns-in_default-matches-2 : goal.returns-in_default-matches-2
returns-in_default-matches-2 c = rw c.in-1.is (is_no_list c.in_default-matches-2.not-Nil c.in_default-matches-2.not-Cons)

pub returns-in-Nil-matches : goal.returns-in-Nil-matches
returns-in-Nil-matches c = rw (c.in-2.is, c.in-Nil-matches.is) is_nil

pub returns-in_default-matches-3 : goal.returns-in_default-matches-3
returns-in_default-matches-3 c = rw c.in-2.is (is_not_nil c.in_default-matches-3.not-Nil)

pub returns-in-Number : goal.returns-in-Number
returns-in-Number c = rw c.in-Number.is (is_number (λ e. omega (arith, e), λ e. omega (arith, e), λ e. omega (arith, e)))

pub returns-in_default-matches-4 : goal.returns-in_default-matches-4
returns-in_default-matches-4 c =
    is_no_number (λ e. omega (arith, e), λ e. omega (arith, e), λ e. omega (arith, e)) c.in_default-matches-4.not-Number
