-- `writing::spans::skip` meets its contract: before each turn i words are gone by and `left` nodes are due. Assumes nothing.
use native.Mathlib.Omega.{arith}
use Rattle.writing.proofs.Measures.{span_turn, span_end, span_over}
use Rattle.writing.proofs.spans.skip.Goals as goal

pub returns-then-left-eq0-clause-is : goal.returns-then-left-eq0-clause-is
returns-then-left-eq0-clause-is c =
    let l = c.loop-i in
    omega (arith, l.invariant.is, span_over c.args.words.now l.left l.i c.if-left-eq0.true)

pub loop-i-preserved : goal.loop-i-preserved
loop-i-preserved c =
    let l = c.loop-i in
    let n = c.part_count in
    record {
      most = omega (arith, l.invariant.most, n.ensures.most);
      is = span_turn c.args.words.now l.left l.i n.result _ c.if-left-eq0.false c.loop-i-test.true n.ensures.value l.invariant.is;
    }

pub returns-clause-is : goal.returns-clause-is
returns-clause-is c =
    let l = c.loop-i in
    omega (arith, l.invariant.is, span_end c.args.words.now l.left l.i c.loop-i-test.false)
