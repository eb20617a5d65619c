-- `file::words` meets its contract: the words that fit, and what is left of the buffer. Assumes nothing.
use Rattle.std.proofs.Common.{◌≡◌, ◌∙◌, sym, ap, length, map, w32, arith}
use Rattle.std.specs.Int.{from_le_bytes}
use Rattle.std.proofs.lemmas.List.{length-map}
use Rattle.calculus.specs.File.{words_of, padded}
use Rattle.file.proofs.Bytes.{words_read, padded_front}
use Rattle.file.proofs.words.Goals as goal

pub returns : goal.returns
returns c =
    let s = c.split_at_mut-front.ensures in
    let ws = words_of c.args.file.now in
    let read : map (from_le_bytes w32) c.as_chunks.result.0.now ≡ ws =
    ap (map (from_le_bytes w32)) c.as_chunks.ensures.front ∙ words_read c.args.file.now in
    let many : length c.as_chunks.result.0.now ≡ length ws = sym (length-map c.as_chunks.result.0.now (from_le_bytes w32)) ∙ ap length read in
    let front : c.put_words.new.out ≡ padded c.min-n.result ws = rw (s.front_len, read) at c.put_words.ensures in
    rw (front, c.fill.ensures.after (λ y e. e), sym s.back_len) (padded_front c.min-n.result (length c.split_at_mut-front.result.1.now) ws
    (c.min-n.ensures ∙ rw (many, s.back_len)))
