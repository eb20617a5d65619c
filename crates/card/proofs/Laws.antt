-- The laws of the card. Assumes nothing.
use Prim.Native.Nat.{ℕ, zero, suc, ◌≤◌, ◌<◌}
use mathlib.Core.List.{List, [], ◌∷◌}
use mathlib.Core.Path.{◌≡◌, refl, sym, ap, ◌∙◌, subst}
use native.Mathlib.Decide.{dec_le}
use native.Mathlib.Omega.{arith}
use lib.Dec.{leb}
use lib.ListN.{length, get_or}
use borrow.Author.Tests.{le-leb, lt-leb, leb-true}
use Rattle.calculus.specs.Words.{words}
use Rattle.calculus.specs.Limits.{InRange}
use Rattle.calculus.specs.Verdicts.{Verdict, refused, passed, and_then}
use Rattle.calculus.specs.Run.{End, valued, spent, error, full, Final, capacity}
use Rattle.calculus.proofs.Verdicts.{not_both, passed_injective, refused_injective, unless_iff}
use Rattle.ends.specs.Results.{number_of_end}
use Rattle.charges.specs.Prices.{Prices}
use Rattle.charges.proofs.Laws.{widths}
use Rattle.pricing.specs.Items.{list_of, items_in}
use Rattle.pricing.specs.Laws.{ValueOf}
use Rattle.pricing.specs.Pricing.{Bill, charged_for, pricing}
use Rattle.pricing.proofs.Laws.{billed_run, billed_items, pricing_number, grows}
use Rattle.layout.specs.Layout.{card}
use Rattle.layout.specs.Laws.{Fits}
use Rattle.layout.proofs.Laws as layout
use Rattle.card.specs.Carding.{Card, card_at, card_of, laid_in, carding}
use Rattle.card.specs.Laws.{card_bytes, Lays, no_card, card_of_lem, refused_14, Exactly, FewBytes, Grows}

-- The numbers of a list in range fit.
pulses_fit : (ns : List ℕ) → InRange (list_of ns) → (i : ℕ) → get_or ns i 0 ≤ 4294967295
unfolding list_of InRange
pulses_fit [] h i = omega arith
pulses_fit (n ∷ ns) h zero = omega (arith, h.0)
pulses_fit (n ∷ ns) h (suc i) = pulses_fit ns h.1 i

module _ (prices : Prices) (bytes : List ℕ) (limit first second : ℕ) where
  abbrev priced : Verdict Bill
  priced = pricing prices bytes limit first second

  pub carding_is : (room : ℕ) (v : Verdict Bill) → priced ≡ v → carding prices bytes limit first second room ≡ and_then v (laid_in room)
  unfolding carding
  carding_is room v q = rw q

  -- Of a bill.
  module _ (b : Bill) (q : priced ≡ passed b) where
    no_text : (e : End) → b.run.end ≡ e → ¬ (b.run.end ≡ valued) → card_at b e ≡ []
    no_text valued h n = absurd (n h)
    no_text spent h n = refl
    no_text error h n = refl
    no_text full h n = refl

    unpriced : (room : ℕ) → ¬ (b.run.end ≡ valued) → Lays b room (laid_in room b)
    unpriced room n = rw (no_text b.run.end refl n, le-leb 0 room (omega arith)) (no_card n)

    -- At a value: the card of its items.
    module _ (v : b.run.end ≡ valued) where
      listed : (ns : List ℕ) × (b.run.left ≡ words (list_of ns)) × InRange (list_of ns) × (items_in b.run.left ≡ ns) × (length ns ≤ 9)
          × (b ≡ charged_for prices b.run ns)
      listed = billed_items prices bytes limit first second b q v

      abbrev ns : List ℕ
      ns = listed.0

      fitting : Fits ns b.charges b.total
      fitting =
          let w = (billed_run prices bytes limit first second b q).1 in
          let pulses = pulses_fit ns listed.2 in
          record {
            few = listed.4;
            pulses_fit = pulses;
            charges_fit = λ i.
                omega (arith, widths.charges_fit prices ns i w pulses, ap (λ (y : Bill). get_or y.charges i 0) listed.5);
            total_fits = omega (arith, widths.items_fit prices ns listed.4 w pulses, ap (λ (y : Bill). y.total) listed.5);
          }

      text_is : card_of b ≡ card ns b.charges b.total
      text_is = ap (card_at b) v ∙ ap (λ (l : List ℕ). card l b.charges b.total) listed.3

      long : length (card ns b.charges b.total) ≡ card_bytes ns
      long = ((layout.laws).reads ns b.charges b.total fitting).long

      value_of : ValueOf b.run ns
      value_of = record { ends = v; is = listed.1 }

      by_length : (room : ℕ) → Dec (card_bytes ns ≤ room) → Lays b room (laid_in room b)
      by_length room (yes k) =
          rw (text_is, le-leb (length (card ns b.charges b.total)) room (omega (arith, long, k)))
          (card_of_lem ns value_of fitting k)
      by_length room (no k) =
          rw (text_is, lt-leb (length (card ns b.charges b.total)) room (omega (arith, long, k)))
          (refused_14 ns value_of fitting (omega (arith, k)))

    lays_by : (room : ℕ) (e : End) → b.run.end ≡ e → Lays b room (laid_in room b)
    lays_by room valued h = by_length h room (dec_le (card_bytes (ns h)) room)
    lays_by room spent h = unpriced room (λ v. omega (arith, ap number_of_end (sym h ∙ v)))
    lays_by room error h = unpriced room (λ v. omega (arith, ap number_of_end (sym h ∙ v)))
    lays_by room full h = unpriced room (λ v. omega (arith, ap number_of_end (sym h ∙ v)))

    pub laid : (room : ℕ) → Lays b room (carding prices bytes limit first second room)
    laid room = subst (Lays b room) (sym (carding_is room (passed b) q)) (lays_by room b.run.end refl)

pub exactly : Exactly
exactly =
    record {
      refuses = λ prices bytes limit first second room n p q. carding_is prices bytes limit first second room (refused n p) q;
      lays = λ prices bytes limit first second room b q. laid prices bytes limit first second b q room;
    }

-- What a card's verdict says of the bill.
module _ (prices : Prices) (bytes : List ℕ) (limit first second room : ℕ) where
  abbrev verdict : Verdict Card
  verdict = carding prices bytes limit first second room

  pub billed_card : (c : Card) → verdict ≡ passed c → (priced prices bytes limit first second ≡ passed c.bill) × (length (card_of c.bill) ≤ room)
      × (c.text ≡ card_of c.bill)
  billed_card c q = by (priced prices bytes limit first second) refl
    where
      by : (v : Verdict Bill) → priced prices bytes limit first second ≡ v
          → (priced prices bytes limit first second ≡ passed c.bill) × (length (card_of c.bill) ≤ room) × (c.text ≡ card_of c.bill)
      by (refused n p) e = absurd (not_both n p c (sym (carding_is prices bytes limit first second room (refused n p) e) ∙ q))
      by (passed b) e =
          let u = (unless_iff (leb (length (card_of b)) room) 14 0 (passed (record { bill = b; text = card_of b })) c).0
          (sym (carding_is prices bytes limit first second room (passed b) e) ∙ q) in
          let is : record { bill = b; text = card_of b } ≡ c = passed_injective (record { bill = b; text = card_of b }) c u.1 in
          subst
          (λ (y : Card).
          (priced prices bytes limit first second ≡ passed y.bill) × (length (card_of y.bill) ≤ room) × (y.text ≡ card_of y.bill))
          is
          (e, leb-true (length (card_of b)) room u.0, refl)

  pub short_card : verdict ≡ refused 14 0 → (b : Bill) × (priced prices bytes limit first second ≡ passed b) × (room < length (card_of b))
  short_card q = by (priced prices bytes limit first second) refl
    where
      by : (v : Verdict Bill) → priced prices bytes limit first second ≡ v
          → (b : Bill) × (priced prices bytes limit first second ≡ passed b) × (room < length (card_of b))
      by (refused n p) e =
          let i = refused_injective (sym (carding_is prices bytes limit first second room (refused n p) e) ∙ q) in
          absurd (omega (arith, i.0, pricing_number prices bytes limit first second n p e))
      by (passed b) e = (b, e, over (dec_le (length (card_of b)) room))
        where
          over : Dec (length (card_of b) ≤ room) → room < length (card_of b)
          over (no k) = omega (arith, k)
          over (yes k) =
              absurd (not_both 14 0 (record { bill = b; text = card_of b })
              (sym q ∙ carding_is prices bytes limit first second room (passed b) e ∙ rw (le-leb (length (card_of b)) room k)))

-- A card has few bytes.
few_bytes : (b : Bill) (room : ℕ) (v : Verdict Card) (c : Card) → Lays b room v → v ≡ passed c → length c.text ≤ 410
few_bytes b room v c (no_card n) q = omega (arith, ap (λ (y : Card). length y.text) (passed_injective _ c q))
few_bytes b room v c (card_of_lem ns y f k) q =
    omega (
      arith,
      ap (λ (z : Card). length z.text) (passed_injective _ c q),
      ((layout.laws).reads ns b.charges b.total f).long,
      f.few,
    )
few_bytes b room v c (refused_14 ns y f k) q = absurd (not_both 14 0 c q)

pub at_most : FewBytes
at_most =
    record {
      most = λ prices bytes limit first second room c q.
          let y = billed_card prices bytes limit first second room c q in
          few_bytes c.bill room _ c (laid prices bytes limit first second c.bill y.0 room) q;
    }

-- Under larger limits.
module _ (prices : Prices) (bytes : List ℕ) (limit first second room limit' first' second' room' : ℕ) (k : limit ≤ limit')
    (m : capacity first second ≤ capacity first' second') where
  abbrev later : Verdict Card
  later = carding prices bytes limit' first' second' room'

  bill_later : (b : Bill) → priced prices bytes limit first second ≡ passed b → Final b.run.end → later ≡ laid_in room' b
  bill_later b q f =
      carding_is prices bytes limit' first' second' room' (passed b) (grows.bill prices bytes limit first second limit' first' second' k m b q f)

  same_card : room ≤ room' → (c : Card) → carding prices bytes limit first second room ≡ passed c → Final c.bill.run.end → later ≡ passed c
  same_card r c q f =
      let y = billed_card prices bytes limit first second room c q in
      bill_later c.bill y.0 f ∙ rw (le-leb (length (card_of c.bill)) room' (omega (arith, r, y.1)), ← y.2)

  final_by : (b : Bill) (e : End) → b.run.end ≡ e → room < length (card_at b e) → Final e
  final_by b valued q h = tt
  final_by b spent q h = absurd (omega (arith, h))
  final_by b error q h = tt
  final_by b full q h = absurd (omega (arith, h))

  still_short : room' ≤ room → carding prices bytes limit first second room ≡ refused 14 0 → later ≡ refused 14 0
  still_short r q =
      let y = short_card prices bytes limit first second room q in
      bill_later y.0 y.1 (final_by y.0 y.0.run.end refl y.2)
      ∙ rw (lt-leb (length (card_of y.0)) room' (omega (arith, r, y.2)))

pub card_grows : Grows
card_grows =
    record {
      same = λ prices bytes limit first second room limit' first' second' room' k m r c q f.
          same_card prices bytes limit first second room limit' first' second' room' k m r c q f;
      short = λ prices bytes limit first second room limit' first' second' room' k m r q.
          still_short prices bytes limit first second room limit' first' second' room' k m r q;
    }
