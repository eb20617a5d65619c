-- `card::card` meets its contract, for every table, every file, every limit and all three buffers. Assumes nothing.
use mathlib.Core.Path.{refl, sym}
use lib.Seq.{length-take-le}
use Rattle.engine.specs.Lent.{lent}
use Rattle.card.proofs.Carding.{no_card_is, within, at_end, refused_as, ended_as}
use Rattle.card.proofs.card.Goals as goal

pub slice_bounds-lay-end : goal.slice_bounds-lay-end
slice_bounds-lay-end c =
    let a = c.args in
    within a.prices (lent a.file.now a.limit a.first.now a.second.now) a.card.now c.price.ensures _ c.in-Ok.is

pub slice_bounds-lay-end-in-Ok : goal.slice_bounds-lay-end-in-Ok
slice_bounds-lay-end-in-Ok c =
    let a = c.args in
    sym
    (length-take-le _ _
    (within a.prices (lent a.file.now a.limit a.first.now a.second.now) a.card.now c.price.ensures _ c.in-Ok.is))

pub lay-requires : goal.lay-requires
lay-requires c =
    let a = c.args in
    at_end a.prices (lent a.file.now a.limit a.first.now a.second.now) a.card.now c.price.ensures _ c.in-Ok.is

pub returns-in-Ok-lay : goal.returns-in-Ok-lay
returns-in-Ok-lay c =
    let a = c.args in
    ended_as a.prices (lent a.file.now a.limit a.first.now a.second.now) a.card.now c.price.ensures _ c.in-Ok.is c.in-Ok-lay.ensures
    (λ y q. (refl, refl)) (λ u q. absurd (no_card_is _ (sym q)))

pub returns-in-Err-lay : goal.returns-in-Err-lay
returns-in-Err-lay c =
    let a = c.args in
    ended_as a.prices (lent a.file.now a.limit a.first.now a.second.now) a.card.now c.price.ensures _ c.in-Ok.is c.in-Err-lay.ensures
    (λ y q. absurd (no_card_is y q)) (λ u q. c.keep.ensures)

pub returns-in-Err : goal.returns-in-Err
returns-in-Err c =
    let a = c.args in
    rw c.into.ensures
    (refused_as a.prices (lent a.file.now a.limit a.first.now a.second.now) a.card.now c.price.ensures _ c.in-Err.is c.clear.ensures)
