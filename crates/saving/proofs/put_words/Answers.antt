-- `saving::put_words` meets its contract. Assumes nothing.
use Prim.Native.Nat.{ℕ, ◌+◌, ◌/◌, ◌%◌}
use mathlib.Core.List.{List, [], ◌∷◌, ◌++◌}
use mathlib.Core.Path.{◌≡◌, sym, ap, ◌∙◌}
use native.Mathlib.Omega.{arith}
use native.Mathlib.Numerals.{add-one}
use lib.ListN.{get_or, take}
use lib.Seq.{take-suc}
use Rattle.calculus.specs.File.{bytes_of}
use Rattle.writing.proofs.Stores.{puts_then, puts_as}
use Rattle.saving.proofs.Bytes.{bytes_append}
use Rattle.saving.proofs.put_words.Goals as goal

pub loop-word-preserved : goal.loop-word-preserved
loop-word-preserved c =
    let l = c.loop-word in
    let ws = c.args.words.now in
    let w = get_or ws l.word-index 0 in
    let most : w / 16777216 % 256 ≡ w / 16777216 = omega (arith, c.type_inv.words l.word-index) in
    let four : c.to_le_bytes.result ≡ bytes_of (w ∷ []) = rw (← most) c.to_le_bytes.ensures in
    let one : take l.word-index ws ++ w ∷ [] ≡ take (l.word-index + 1) ws =
    rw (add-one l.word-index) (sym (take-suc ws l.word-index 0 (omega arith))) in
    let more : bytes_of (take l.word-index ws) ++ c.to_le_bytes.result ≡ bytes_of (take (l.word-index + 1) ws) =
    ap (λ (b : List ℕ). bytes_of (take l.word-index ws) ++ b) four ∙ sym (bytes_append (take l.word-index ws) (w ∷ [])) ∙ ap bytes_of one in
    let put = puts_then l.invariant.put c.extend.ensures in
    record { place = omega (arith, l.invariant.place, put.wrote.place); put = puts_as more put }
