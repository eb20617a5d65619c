-- Lines put one text after the other, each right-aligned to its column. Assumes nothing.
use Prim.Native.Nat.{ℕ, suc, ◌+◌, ◌-◌, ◌≤◌, ◌<◌}
use mathlib.Core.List.{List, [], ◌∷◌, ◌++◌, append_assoc, append-nil}
use mathlib.Core.Path.{◌≡◌, sym, ap, ◌∙◌, subst}
use native.Mathlib.Omega.{arith}
use native.Mathlib.Numerals.{add-one}
use lib.ListN.{length, take, get_or, replicate, replicate-append-replicate}
use lib.Seq.{take-suc, length-take-le}
use Rattle.writing.specs.declared.Writer.{Writer}
use Rattle.writing.specs.Puts.{Puts}
use Rattle.writing.proofs.Stores.{puts_then, puts_as}
use Rattle.text.specs.Characters.{blank, line_feed}
use Rattle.layout.specs.Layout.{right_to, ended, pump_line, pump_lines}

-- One blank more.
pub blanks_more : (n k : ℕ) → n ≤ k → replicate (k - n) blank ++ blank ∷ [] ≡ replicate (k + 1 - n) blank
blanks_more n k h =
    let e : k - n + 1 ≡ k + 1 - n = omega arith in
    replicate-append-replicate (k - n) 1 blank ∙ ap (λ (i : ℕ). replicate i blank) e

-- Behind the line so far: a text right-aligned to a column, and the line's end.
module _ {w r q : Writer ℕ} (line : List ℕ) (so_far : Puts w line r) where
  pub aligned : (column : ℕ) (text : List ℕ) → Puts r (replicate (w.at + column - length text - r.at) blank ++ text) q
      → Puts w (right_to column text line) q
  aligned column text p =
      let e : w.at + column - length text - r.at ≡ column - length text - length line = omega (arith, so_far.wrote.place) in
      puts_as
      (sym (append_assoc line (replicate (w.at + column - length text - r.at) blank) text) ∙ ap (λ (i : ℕ). (line ++ replicate i blank) ++ text) e)
      (puts_then so_far p)

  pub ends : Puts r (replicate (w.at + 40 - r.at) blank ++ line_feed ∷ []) q → Puts w (ended line) q
  ends p =
      let e : w.at + 40 - r.at ≡ 40 - length line = omega (arith, so_far.wrote.place) in
      puts_as
      (sym (append_assoc line (replicate (w.at + 40 - r.at) blank) (line_feed ∷ []))
      ∙ ap (λ (i : ℕ). (line ++ replicate i blank) ++ line_feed ∷ []) e)
      (puts_then so_far p)

-- One pump's line more.
lines_append : (charges : List ℕ) (i : ℕ) (ns : List ℕ) (n : ℕ)
    → pump_lines charges i ns ++ pump_line (suc (i + length ns)) n (get_or charges (i + length ns) 0) ≡ pump_lines charges i (ns ++ n ∷ [])
unfolding pump_lines
lines_append charges i [] n = let e : i + 0 ≡ i = omega arith in rw e (sym (append-nil (pump_line (suc i) n (get_or charges i 0))))
lines_append charges i (m ∷ ns) n =
    let e : i + suc (length ns) ≡ suc i + length ns = omega arith in
    append_assoc (pump_line (suc i) m (get_or charges i 0)) (pump_lines charges (suc i) ns) _
    ∙ ap (λ (l : List ℕ). pump_line (suc i) m (get_or charges i 0) ++ l) (rw e (lines_append charges (suc i) ns n))

pub lines_more : (charges ns : List ℕ) (i : ℕ) → i < length ns
    → pump_lines charges 0 (take i ns) ++ pump_line (i + 1) (get_or ns i 0) (get_or charges i 0) ≡ pump_lines charges 0 (take (i + 1) ns)
lines_more charges ns i h =
    let l : 0 + length (take i ns) ≡ i = omega (arith, length-take-le i ns (omega arith)) in
    rw (add-one i, take-suc ns i 0 h)
    (subst
    (λ (j : ℕ).
    pump_lines charges 0 (take i ns) ++ pump_line (suc j) (get_or ns i 0) (get_or charges j 0)
    ≡ pump_lines charges 0 (take i ns ++ get_or ns i 0 ∷ []))
    l
    (lines_append charges 0 (take i ns) (get_or ns i 0)))
