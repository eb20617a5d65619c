-- The card of what pricing answers: refused as it was, without a card, with one, or by 14. Assumes nothing.
use Prim.Native.Nat.{ℕ, ◌≤◌}
use mathlib.Core.Bool.{false≢true}
use mathlib.Core.List.{List, []}
use mathlib.Core.Path.{◌≡◌, refl, sym, ap, ◌∙◌, subst}
use native.Mathlib.Omega.{arith}
use lib.ListN.{length, take}
use lib.Seq.{length-take-le}
use borrow.Author.Tests.{le-leb, lt-leb}
use Rattle.std.specs.Prelude.{Result, Ok, Err}
use Rattle.std.specs.Result.{is_err}
use Rattle.calculus.specs.Verdicts.{Verdict, refused, passed, and_then}
use Rattle.calculus.specs.Run as run
use Rattle.calculus.specs.Run.{valued}
use Rattle.calculus.specs.File.{padded, first_after}
use Rattle.calculus.proofs.Bounds.{operate_bounded}
use Rattle.calculus.proofs.Padding.{padded_take, padded_length}
use Rattle.calculus.proofs.Verdicts.{not_both}
use Rattle.engine.specs.Buffered.{Settled}
use Rattle.engine.specs.Lent.{Lent}
use Rattle.ends.specs.Results.{Line, line_of, end_of, told, end_number}
use Rattle.ends.specs.declared.End.{End}
use Rattle.ends.specs.declared.End.TheVariants.{Value, Spent, Error, Full}
use Rattle.charges.specs.Prices.{Prices}
use Rattle.charges.specs.declared.Charges.{Charges}
use Rattle.pricing.specs.Items.{items_in}
use Rattle.pricing.specs.Pricing.{Bill}
use Rattle.pricing.specs.Answered as pricing
use Rattle.pricing.specs.Answered.{charges_of, ran, Pricing, priced}
use Rattle.pricing.specs.declared.Unpriced.{Unpriced}
use Rattle.pricing.specs.declared.Priced.{Priced}
use Rattle.pricing.proofs.Billing.{billed_by}
use Rattle.pricing.proofs.Laws.{own_run, billed_items}
use Rattle.card.proofs.Laws.{carding_is}
use Rattle.card.specs.Carding.{Card, card_of, card_at, laid_in}
use Rattle.card.specs.Answered.{outcome, spoken, charges_in, bytes_in, card_lent, CardReturned, card_returned, Answered, Carding}
use Rattle.card.specs.Parts.{AtEnd, card_by, Laid, fits, short, Lays}
use Rattle.card.specs.declared.Uncarded.{Uncarded}
use Rattle.card.specs.declared.Uncarded.TheVariants.{Price}
use Rattle.card.specs.declared.Carded.{Carded}

pub no_card_is : {why : Uncarded} (c : Carded) → ◌≡◌ {A = Result Carded Uncarded} (Err why) (Ok c) → ⊥
no_card_is c q = false≢true (sym (ap is_err q))

-- By what pricing says.
module _ (prices : Prices) (l : Lent) (card : List ℕ) where
  carded_by : (v : Verdict Bill) (w : Verdict Card) (g : CardReturned) → priced prices l ≡ v → and_then v (laid_in (length card)) ≡ w
      → Answered w (card_lent l card) g → Carding prices (card_lent l card) g
  carded_by v w g q e h =
      let is = carding_is prices l.bytes l.limit (length l.first) (length l.second) (length card) v q in
      subst (λ (y : Verdict Card). Answered y (card_lent l card) g) (sym (is ∙ e)) h

  -- What pricing answered, and what it left in both buffers.
  module _ {p : Result Priced Unpriced} {first₁ second₁ : List ℕ} (h : Pricing prices l (pricing.returned p first₁ second₁)) where
    tells : {q : Result Priced Unpriced} → p ≡ q → pricing.spoken (pricing.outcome q) ≡ and_then (ran (priced prices l)) (λ x. passed (line_of x))
    tells o = sym (ap (λ (y : Result Priced Unpriced). pricing.spoken (pricing.outcome y)) o) ∙ h.answer_is

    -- Refused as pricing refuses it.
    pub refused_as : {card' : List ℕ} (u : Unpriced) → p ≡ Err u → card' ≡ padded (length card) []
        → Carding prices (card_lent l card) (card_returned (Err (Price u)) first₁ second₁ card')
    refused_as {card'} u o z = by (priced prices l) refl (tells o)
      where
        by : (v : Verdict Bill) → priced prices l ≡ v → pricing.spoken (Err u) ≡ and_then (ran (priced prices l)) (λ x. passed (line_of x))
            → Carding prices (card_lent l card) (card_returned (Err (Price u)) first₁ second₁ card')
        by (passed b) q t =
            absurd (not_both _ _ (line_of b.run) (t ∙ ap (λ (v : Verdict Bill). and_then (ran v) (λ x. passed (line_of x))) q))
        by (refused n k) q t =
            carded_by (refused n k) (refused n k) _ q refl
            record {
              answer_is = t ∙ ap (λ (v : Verdict Bill). and_then (ran v) (λ x. passed (line_of x))) q;
              charges_are = refl;
              bytes_are = refl;
              first_is = h.first_is ∙ ap (λ (v : Verdict Bill). first_after (length l.first) (ran v)) q;
              second_is = h.second_is;
              card_is = z;
            }

    -- A run that ended.
    module _ (x : Priced) (o : p ≡ Ok x) where
      billed : (b : Bill) × (priced prices l ≡ passed b) × (told x.report ≡ line_of b.run)
      billed = billed_by (priced prices l) x.report (tells o)

      abbrev b : Bill
      b = billed.0

      ends_as : end_of x.report.end ≡ b.run.end
      ends_as = ap (λ (z : Line). z.end) billed.2

      left_as : x.report.left ≡ length b.run.left
      left_as = ap (λ (z : Line). z.left) billed.2

      bounded : length b.run.left ≤ run.capacity (length l.first) (length l.second)
      bounded =
          (operate_bounded l.bytes l.limit (length l.first) (length l.second) b.run
          (own_run.own prices l.bytes l.limit (length l.first) (length l.second) b billed.1)).0

      first_is : first₁ ≡ padded (length l.first) b.run.left
      first_is = h.first_is ∙ ap (λ (v : Verdict Bill). first_after (length l.first) (ran v)) billed.1

      pub within : x.report.left ≤ length first₁
      within = omega (arith, left_as, bounded, ap length first_is, padded_length (length l.first) b.run.left)

      words_left : take x.report.left first₁ ≡ b.run.left
      words_left =
          ap (take x.report.left) first_is ∙ padded_take (length l.first) x.report.left b.run.left (omega (arith, bounded)) left_as

      valued_by : x.report.end ≡ Value → b.run.end ≡ valued
      valued_by q = sym ends_as ∙ ap end_of q

      pub at_end : AtEnd x.report (take x.report.left first₁)
      at_end =
          record {
            few = omega (arith, left_as, bounded, length-take-le x.report.left first₁ within);
            value_left = λ q.
                let i = billed_items prices l.bytes l.limit (length l.first) (length l.second) b billed.1 (valued_by q) in
                record { items = i.0; nine = i.4; is = words_left ∙ i.1 };
          }

      -- Both buffers stay as they are, or are all zero after refusal 14.
      module _ {r : Result Carded Uncarded} {first₂ second₂ card' : List ℕ} (e : Lays x (take x.report.left first₁) card r card')
          (kept : (c : Carded) → r ≡ Ok c → (first₂ ≡ first₁) × (second₂ ≡ second₁))
          (cleared : (u : Uncarded) → r ≡ Err u → Settled [] first₁ second₁ first₂ second₂) where
        abbrev Done : Type 0
        Done = Carding prices (card_lent l card) (card_returned r first₂ second₂ card')

        charged_by : x.charges ≡ charges_of (passed b)
        charged_by = sym (ap pricing.charges_in o) ∙ h.charges_are ∙ ap charges_of billed.1

        -- At a value the card is that of the items.
        text_of_lem : (q : b.run.end ≡ valued) (ns : List ℕ) → items_in b.run.left ≡ ns → card_by x.charges ns ≡ card_of b
        text_of_lem q ns i = ap (λ (y : Charges). card_by y ns) charged_by ∙ rw (q, i)

        -- With a card that fits its buffer, one of no byte where there is none; or refusal 14.
        laid : (text : List ℕ) → text ≡ card_of b → Laid x text card r card' → Done
        laid text t (fits k a f) =
            let room : length (card_of b) ≤ length card = omega (arith, k, ap length t) in
            carded_by (passed b) (passed (record { bill = b; text = card_of b })) _ billed.1 (rw (le-leb (length (card_of b)) (length card) room))
            record {
              answer_is = ap (λ (y : Result Carded Uncarded). spoken (outcome y)) a ∙ ap passed billed.2;
              charges_are = ap charges_in a ∙ charged_by;
              bytes_are = ap bytes_in a ∙ ap length t;
              first_is = (kept _ a).0 ∙ first_is;
              second_is = (kept _ a).1 ∙ h.second_is;
              card_is = f ∙ ap (padded (length card)) t;
            }
        laid text t (short k a z) =
            let s = cleared _ a in
            carded_by (passed b) (refused 14 0) _ billed.1 (rw (lt-leb (length (card_of b)) (length card) (omega (arith, k, ap length t))))
            record {
              answer_is = ap (λ (y : Result Carded Uncarded). spoken (outcome y)) a;
              charges_are = ap charges_in a;
              bytes_are = ap bytes_in a;
              first_is = s.first_is ∙ rw (ap length first_is, padded_length (length l.first) b.run.left);
              second_is = s.second_is ∙ rw (ap length h.second_is, padded_length (length l.second) []);
              card_is = z;
            }

        at_value : x.report.end ≡ Value → Done
        at_value q =
            let i = billed_items prices l.bytes l.limit (length l.first) (length l.second) b billed.1 (valued_by q) in
            laid (card_by x.charges i.0) (text_of_lem (valued_by q) i.0 i.3) (e.valued q i.0 (words_left ∙ i.1))

        -- At another end there is none.
        no_card : (y : End) → x.report.end ≡ y → card_at b (end_of y) ≡ [] → ¬ (x.report.end ≡ Value) → Done
        no_card y q t n = laid [] (sym (ap (card_at b) (sym ends_as ∙ ap end_of q) ∙ t)) (e.others n)

        pub ended_as : Done
        ended_as = by x.report.end refl
          where
            by : (y : End) → x.report.end ≡ y → Done
            by Value q = at_value q
            by Spent q = no_card Spent q refl (λ z. omega (arith, ap end_number (sym q ∙ z)))
            by Error q = no_card Error q refl (λ z. omega (arith, ap end_number (sym q ∙ z)))
            by Full q = no_card Full q refl (λ z. omega (arith, ap end_number (sym q ∙ z)))
