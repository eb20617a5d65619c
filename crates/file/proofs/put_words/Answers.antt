-- `file::put_words` meets its contract. Assumes nothing.
use Rattle.std.proofs.Common.{get_or, rules, arith, w32, ap, sym, ◌∙◌, length, map}
use Rattle.std.specs.Int.{from_le_bytes}
use Rattle.std.proofs.lemmas.List.Edits.{fill_by_more}
use Rattle.calculus.specs.File.{padded}
use Rattle.calculus.proofs.Padding.{padded_length}
use Rattle.std.proofs.lemmas.List.{ext_get_or}
use Rattle.file.proofs.Bytes.{next_word, get_or-padded}
use Rattle.file.proofs.put_words.Goals as goal

pub loop-place-init : goal.loop-place-init
loop-place-init c = record { left = ap (map (from_le_bytes w32)) c.iter-words.ensures.rest; stands = search rules }

pub loop-place-preserved : goal.loop-place-preserved
loop-place-preserved c =
    let l = c.loop-place in
    let ws = map (from_le_bytes w32) c.args.fours.now in
    let turn = next_word (from_le_bytes w32) ws l.place-index l.words c.next.new.self c.next.result c.map_or.result l.invariant.left
    c.next.ensures.steps (search rules) in
    record { left = turn.1; stands = rw turn.0 (fill_by_more (λ k. get_or ws k 0) l.out l.place-index 0 (omega arith) l.invariant.stands) }

pub returns : goal.returns
returns c =
    let l = c.loop-place in
    let n = length c.args.out.now in
    let ws = map (from_le_bytes w32) c.args.fours.now in
    ext_get_or 0 l.out (padded n ws) (omega (arith, padded_length n ws))
    (λ k h. l.invariant.stands k (omega arith) ∙ sym (get_or-padded n ws k (omega arith)))
