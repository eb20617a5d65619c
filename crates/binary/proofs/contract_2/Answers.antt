-- `binary::contract_2` meets its contract. Assumes nothing.
use mathlib.Core.Logic.{inl, inr}
use Rattle.binary.proofs.Told.{two_apply, two_cons, two_sum, two_difference, add_amiss, subtract_amiss}
use Rattle.binary.proofs.contract_2.Goals as goal

pub returns-in-Apply-clause-told : goal.returns-in-Apply-clause-told
returns-in-Apply-clause-told c = rw c.in-Apply.is (two_apply c.of_apply.ensures.told)

pub returns-in-Cons-clause-told : goal.returns-in-Cons-clause-told
returns-in-Cons-clause-told c = rw c.in-Cons.is two_cons

pub returns-in_default-clause-told : goal.returns-in_default-clause-told
returns-in_default-clause-told c =
    elim c.in-Add.is [
      | inl z ↦ rw z (add_amiss c.in_default.ensures (rw c.code.ensures.value at c.amiss.ensures.told))
      | inr z ↦ rw z (subtract_amiss c.in_default.ensures (rw c.code.ensures.value at c.amiss.ensures.told))
    ]

pub returns-in-Add-operator-clause-told : goal.returns-in-Add-operator-clause-told
returns-in-Add-operator-clause-told c = rw c.in-Add-operator.is (two_sum c.in-Some.ensures c.sum.ensures.told)

pub returns-in_default-operator-clause-told : goal.returns-in_default-operator-clause-told
returns-in_default-operator-clause-told c =
    elim c.in-Add.is [
      | inl z ↦ absurd (c.in_default-operator.not-Add z)
      | inr z ↦ rw z (two_difference c.in-Some.ensures c.saturating_sub.ensures c.number_in.ensures.told)
    ]
