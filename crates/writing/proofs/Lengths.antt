-- Laws of spans of any words: what is due may be walked in parts, and a node's parts stand behind its word. Assumes nothing.
use Prim.Native.Nat.{ℕ, zero, suc, ◌+◌, ◌≤◌}
use mathlib.Core.List.{List, [], ◌∷◌}
use mathlib.Core.Path.{◌≡◌, refl, sym, ap, ◌∙◌}
use lib.ListN.{length, get_or, drop}
use lib.Seq.{drop-drop}
use native.Mathlib.Omega.{arith}
use Rattle.calculus.specs.Scope.{part_count}
use Rattle.writing.specs.Spans.{span}

pub span_within : (ws : List ℕ) (due : ℕ) → span ws due ≤ length ws
unfolding span
span_within [] due = omega arith
span_within (w ∷ ws) zero = omega arith
span_within (w ∷ ws) (suc due) = omega (arith, span_within ws (due + part_count w))

-- Some nodes, and then some more.
span_split : (ws : List ℕ) (a b : ℕ) → span ws (a + b) ≡ span ws a + span (drop (span ws a) ws) b
unfolding span
span_split [] a b = refl
span_split (w ∷ ws) zero b = let e : 0 + b ≡ b = omega arith in ap (span (w ∷ ws)) e ∙ sym (omega arith)
span_split (w ∷ ws) (suc a) b =
    let e : suc a + b ≡ suc (a + b) = omega arith in
    let f : a + b + part_count w ≡ a + part_count w + b = omega arith in
    ap (span (w ∷ ws)) e ∙ ap (λ (n : ℕ). suc (span ws n)) f ∙ ap suc (span_split ws (a + part_count w) b) ∙ sym (omega arith)

-- From the place a on k nodes end at m, and n more stand from m on.
module _ (ws : List ℕ) (a m k n : ℕ) (h : m ≡ a + span (drop a ws) k) where
  span_parted : a + span (drop a ws) (k + n) ≡ m + span (drop m ws) n
  span_parted =
      let d : drop (span (drop a ws) k) (drop a ws) ≡ drop m ws = drop-drop (span (drop a ws) k) a ws ∙ ap (λ (j : ℕ). drop j ws) (sym h) in
      omega (arith, h, span_split (drop a ws) k n, ap (λ (v : List ℕ). span v n) d)

  pub span_next : (e : ℕ) → e ≡ a + span (drop a ws) (k + n) → e ≡ m + span (drop m ws) n
  span_next e g = g ∙ span_parted

  pub span_join : (e : ℕ) → e ≡ m + span (drop m ws) n → e ≡ a + span (drop a ws) (k + n)
  span_join e g = g ∙ sym span_parted

-- A node's parts stand behind its word.
pub span_parts : (ws : List ℕ) (n : ℕ) → 1 ≤ length ws → part_count (get_or ws 0 0) ≡ n → span ws 1 ≡ 1 + span (drop 1 ws) n
unfolding span
span_parts [] n h e = absurd (omega (arith, h))
span_parts (w ∷ ws) n h e = let z : 0 + part_count w ≡ n = omega (arith, e) in omega (arith, ap (span ws) z)
