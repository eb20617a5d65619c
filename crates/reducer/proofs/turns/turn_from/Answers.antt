-- `reducer::turns::turn_from` meets its contract: the loop's invariant is Walking. Assumes nothing.
use Prim.Native.Nat.{ℕ, ◌+◌, ◌≤◌}
use mathlib.Core.List.{List}
use mathlib.Core.Logic.{◌⊎◌, inl, inr}
use mathlib.Core.Path.{◌≡◌, ap, ◌∙◌, subst}
use lib.ListN.{length}
use borrow.Author.Rules.{part_to_end}
use native.Mathlib.Omega.{arith}
use Rattle.writing.specs.Spans.{span}
use Rattle.reducer.specs.Placed.{Looked}
use Rattle.reducer.proofs.Walking.{walking_start, walking_own, walking_value, nothing_found, turn_spanned, turn_found}
use Rattle.reducer.proofs.turns.turn_from.Goals as goal
use Rattle.reducer.proofs.turns.turn_from.Goals.{in-Some, in_default, then-loop-due-test+else-i-words, else-loop-due-test}

pub loop-due-init : goal.loop-due-init
loop-due-init c = walking_start _ _ c.requires.1

pub loop-due-preserved : goal.loop-due-preserved
loop-due-preserved c =
    let i = c.loop-due in
    let seen = subst (λ (v : List ℕ). Looked v c.at-seen.result) (part_to_end c.args.words.now i.i) c.at-seen.ensures in
    elim c.match-seen.branch [
      | in-Some w ↦ rw (w.due-is, w.waiting-is, w.around.ensures)
          (walking_own i.invariant c.loop-due-test.true c.if-i-words.true _ seen _ w.in-Some.is)
      | in_default w ↦ rw (w.due-is, w.waiting-is) (walking_value i.invariant c.loop-due-test.true c.if-i-words.true _ seen w.in_default.is)
    ]

pub returns-in_err-node-clause-is : goal.returns-in_err-node-clause-is
returns-in_err-node-clause-is c =
    let over : (c.loop-due.due ≡ 0) ⊎ (length c.args.words.now ≤ c.loop-due.i) =
    elim c.loop-due-test.branch [
      | then-loop-due-test+else-i-words w ↦ inr w.if-i-words.false
      | else-loop-due-test w ↦ inl (omega (arith, w.loop-due-test.false))
    ] in
    rw c.from_residual.ensures (nothing_found c.loop-due.invariant over c.in_err-node.was)

pub returns : goal.returns
returns c =
    let l = c.loop-due in
    let over : (l.due ≡ 0) ⊎ (length c.args.words.now ≤ l.i) =
    elim c.loop-due-test.branch [
      | then-loop-due-test+else-i-words w ↦ inr w.if-i-words.false
      | else-loop-due-test w ↦ inl (omega (arith, w.loop-due-test.false))
    ] in
    let e = ap (λ (n : ℕ). l.i + n)
    (c.skip.ensures.is ∙ ap (λ (v : List ℕ). span v c.in_ok-node.field-0.leaves) (part_to_end c.args.words.now l.i)) in
    record { spanned = turn_spanned l.invariant over _ c.in_ok-node.was _ e; is = turn_found l.invariant over _ c.in_ok-node.was _ }
