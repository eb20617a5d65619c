-- `writing::substitution::substitute` meets its contract: each turn of the loop, and each way out, is one law of Rounds. The measure is the number of
-- words left. Assumes nothing.
use mathlib.Core.Path.{sym, ◌∙◌}
use native.Mathlib.Omega.{arith}
use borrow.Author.Rules.{part_to_end}
use Rattle.std.proofs.lemmas.Slice.{first_rest}
use Rattle.writing.proofs.Rounds.{begins, ends, breaks, replaces, passes, enters, descends}
use Rattle.writing.proofs.substitution.+substitute.Goals.{then-loop-left-test+else-left-rest, else-loop-left-test}
use Rattle.writing.proofs.substitution.+substitute.Goals as goal

pub loop-left-init : goal.loop-left-init
loop-left-init t c = begins _ _ _ _ _

pub loop-left-preserved-then-w-y : goal.loop-left-preserved-then-w-y
loop-left-preserved-then-w-y t c =
    let l = c.loop-left in
    let split = first_rest l.rest.now 0 (omega arith) in
    replaces l.invariant _ _ split (λ z. omega (arith, z, c.loop-left-test.true)) _ c.requires.value_few c.if-w-y.true c.extend.ensures

pub loop-left-preserved-then-not-is_lambda : goal.loop-left-preserved-then-not-is_lambda
loop-left-preserved-then-not-is_lambda t c =
    let l = c.loop-left in
    let split = first_rest l.rest.now 0 (omega arith) in
    passes l.invariant _ _ split (λ z. omega (arith, z, c.loop-left-test.true)) _ _ c.if-w-y.false c.put.ensures c.part_count-parts.ensures.value
    (λ h. let both = sym c.if-not-is_lambda.true ∙ c.is_lambda.ensures.1 h in cc)

pub loop-left-preserved-then-left-eq0 : goal.loop-left-preserved-then-left-eq0
loop-left-preserved-then-left-eq0 t c =
    let l = c.loop-left in
    let split = first_rest l.rest.now 0 (omega arith) in
    descends l.invariant _ _ split (λ z. omega (arith, z, c.loop-left-test.true)) _ _ c.if-w-y.false c.put.ensures c.part_count-parts.ensures.value
    (c.is_lambda.ensures.0 c.if-not-is_lambda.false) c.if-left-eq0.true

pub loop-left-preserved : goal.loop-left-preserved
loop-left-preserved t c =
    let l = c.loop-left in
    let inner = c.substitute-read.ensures in
    let split = first_rest l.rest.now 0 (omega arith) in
    enters l.invariant _ _ split (λ z. omega (arith, z, c.loop-left-test.true)) _ _ c.if-w-y.false c.put.ensures c.part_count-parts.ensures.value
    _ _ _ (part_to_end _ c.substitute-read.result) (c.is_lambda.ensures.0 c.if-not-is_lambda.false) inner.within inner.bound inner.same inner.is

pub returns-clause-is : goal.returns-clause-is
returns-clause-is t c =
    let i = c.loop-left.invariant in
    elim c.loop-left-test.branch [
      | then-loop-left-test+else-left-rest w ↦ breaks i w.if-left-rest.false
      | else-loop-left-test w ↦ ends i (omega (arith, w.loop-left-test.false))
    ]
