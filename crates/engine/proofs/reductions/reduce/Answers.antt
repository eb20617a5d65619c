-- `engine::reductions::reduce` meets its contract: the loop's invariant is Looping.Running. Assumes nothing.
use Rattle.std.proofs.Common.{rules}
use mathlib.Core.Path.{◌≡◌, sym, ap, ◌∙◌}
use native.Mathlib.Omega.{arith}
use Rattle.counts.specs.declared.Counts.{Counts}
use Rattle.engine.proofs.Moving.{go_fits}
use Rattle.engine.proofs.Looping.{room_of, running_start, running_next, running_end, end_room}
use Rattle.engine.proofs.reductions.reduce.Goals as goal

pub loop-report-init : goal.loop-report-init
loop-report-init c =
    let s = c.args in
    let h : c.default-made.result ≡ record { steps = 0; calls = 0; conversions = 0; others = 0 } = search rules in
    rw h (running_start s.first.now s.second.now s.count _ s.limit (omega (arith, c.requires, c.capacity-cap.ensures)))

pub advance-moved-requires : goal.advance-moved-requires
advance-moved-requires c =
    let i = c.loop-report.invariant in
    let r = room_of c.args.first.now c.args.second.now c.capacity-cap.ensures in (
      record {
        in_first = omega (arith, i.room, i.first_length, r.in_first);
        in_second = omega (arith, i.room, i.second_length, r.in_second);
        few = omega (arith, i.room, r.few);
      },
      i.few,
    )

pub settle-requires : goal.settle-requires
settle-requires c =
    let a = c.advance-moved in
    end_room c.loop-report.invariant a.ensures (room_of c.args.first.now c.args.second.now c.capacity-cap.ensures) _
    (sym c.decide.ensures ∙ c.in-Break.is) a.auto.first a.auto.second

pub returns : goal.returns
returns c =
    let a = c.advance-moved in
    rw (sym c.capacity-cap.ensures)
    (running_end c.loop-report.invariant a.ensures (room_of c.args.first.now c.args.second.now c.capacity-cap.ensures) _
    (sym c.decide.ensures ∙ c.in-Break.is) a.auto.first a.auto.second c.settle.ensures)

pub loop-report-smaller : goal.loop-report-smaller
loop-report-smaller c =
    let l = c.loop-report in
    let f = go_fits l.n _ c.args.limit l.made l.invariant.counted_so.most c.advance-moved.result _ _ (sym c.decide.ensures ∙ c.in-Continue.is) in
    omega (arith, f.2, ap (λ (m : Counts). m.steps) f.3)

pub loop-report-preserved : goal.loop-report-preserved
loop-report-preserved c =
    let a = c.advance-moved in
    running_next c.loop-report.invariant a.ensures (room_of c.args.first.now c.args.second.now c.capacity-cap.ensures) _ _
    (sym c.decide.ensures ∙ c.in-Continue.is) a.auto.first a.auto.second
