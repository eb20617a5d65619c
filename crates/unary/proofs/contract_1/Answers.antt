-- `unary::contract_1` meets its contract. Assumes nothing.
use borrow.Author.Rules.{part_to_end}
use Rattle.unary.proofs.Told.{one_head, one_tail, one_fix, one_null, one_test, one_none}
use Rattle.unary.proofs.contract_1.Goals as goal

pub returns-in_default-clause-told : goal.returns-in_default-clause-told
returns-in_default-clause-told c = one_none c.in_default.len_below

pub returns-in-Hd-clause-told : goal.returns-in-Hd-clause-told
returns-in-Hd-clause-told c = rw c.in-Hd.is (one_head _ c.value_of-value.ensures (part_to_end c.args.node.now 1) c.head.ensures.told)

pub returns-in-Tl-clause-told : goal.returns-in-Tl-clause-told
returns-in-Tl-clause-told c = rw c.in-Tl.is (one_tail _ c.value_of-value.ensures (part_to_end c.args.node.now 1) c.tail.ensures.told)

pub returns-in-Fix-clause-told : goal.returns-in-Fix-clause-told
returns-in-Fix-clause-told c = rw c.in-Fix.is (one_fix _ c.value_of-value.ensures (part_to_end c.args.node.now 1) c.of_fix.ensures.told)

pub returns-in-Null-clause-told : goal.returns-in-Null-clause-told
returns-in-Null-clause-told c = rw c.in-Null.is (one_null _ c.value_of-value.ensures (part_to_end c.args.node.now 1) c.of_null.ensures.told)

pub returns-in-Test-clause-told : goal.returns-in-Test-clause-told
returns-in-Test-clause-told c =
    rw c.in-Test.is
    (one_test _ c.value_of-value.ensures (part_to_end c.args.node.now 1) c.of_test.ensures.told)
