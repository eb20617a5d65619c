-- The card at an end: laid out, too long for its buffer, or none. Assumes nothing.
use Prim.Native.Nat.{ℕ, ◌≤◌, ◌<◌}
use mathlib.Core.List.{List, []}
use mathlib.Core.Path.{◌≡◌, refl, ap, ◌∙◌}
use native.Mathlib.Omega.{arith}
use lib.ListN.{length, take}
use Rattle.std.specs.Prelude.{Ok, Err}
use Rattle.calculus.specs.Words.{words}
use Rattle.calculus.specs.File.{padded}
use Rattle.calculus.proofs.Padding.{padded_take, padded_length}
use Rattle.ends.specs.declared.End.TheVariants.{Value}
use Rattle.pricing.specs.Items.{list_of}
use Rattle.pricing.specs.Parts.{Reads}
use Rattle.pricing.specs.declared.Priced.{Priced}
use Rattle.pricing.specs.declared.items.Items.{Items}
use Rattle.card.specs.Parts.{FewItems, card_by, Laid, fits, short, Lays}
use Rattle.card.specs.declared.Uncarded.TheVariants.{Short}

-- The items that were read are those of the list.
module _ {left : List ℕ} {found : Items} (pre : FewItems left) (reads : Reads left found) where
  pub few : found.count ≤ 9
  few = omega (arith, (reads.of pre.items pre.is).0, pre.nine)

  pub nine_long : length found.pulses ≡ 9
  nine_long = ap length (reads.of pre.items pre.is).1 ∙ padded_length 9 pre.items

  pub read_are : (ns : List ℕ) → left ≡ words (list_of ns) → take found.count found.pulses ≡ ns
  read_are ns e =
      let r = reads.of ns e in
      ap (take found.count) r.1 ∙ padded_take 9 found.count ns (omega (arith, few, r.0)) r.0

-- The card of what was read: count is its length, and card₁ what its buffer holds when it was laid out.
module _ (p : Priced) (left card card₁ : List ℕ) {found : Items} {count : ℕ} (v : p.report.end ≡ Value) (pre : FewItems left)
    (reads : Reads left found) (long : count ≡ length (card_by p.charges (take found.count found.pulses)))
    (laid : card₁ ≡ padded (length card) (card_by p.charges (take found.count found.pulses))) where
  same : length card₁ ≡ length card
  same = ap length laid ∙ padded_length (length card) (card_by p.charges (take found.count found.pulses))

  pub too_long : {card₂ : List ℕ} → length card₁ < count → card₂ ≡ padded (length card₁) [] → Lays p left card (Err Short) card₂
  too_long l c =
      record {
        valued = λ q ns e. short (omega (arith, l, same, long, items_are ns e)) refl (c ∙ rw same);
        others = λ h. absurd (h v);
      }
    where
      items_are : (ns : List ℕ) → left ≡ words (list_of ns)
          → length (card_by p.charges (take found.count found.pulses)) ≡ length (card_by p.charges ns)
      items_are ns e = ap (λ (y : List ℕ). length (card_by p.charges y)) (read_are pre reads ns e)

  pub laid_out : count ≤ length card₁ → Lays p left card (Ok (record { priced = p; bytes = count })) card₁
  laid_out l = record { valued = λ q ns e. by (card_by p.charges ns) (ap (card_by p.charges) (read_are pre reads ns e)); others = λ h. absurd (h v) }
    where
      by : (text : List ℕ) → card_by p.charges (take found.count found.pulses) ≡ text
          → Laid p text card (Ok (record { priced = p; bytes = count })) card₁
      by text e =
          let n : count ≡ length text = long ∙ ap length e in
          fits (omega (arith, l, n, same)) (ap (λ (k : ℕ). Ok (record { priced = p; bytes = k })) n) (laid ∙ ap (padded (length card)) e)
