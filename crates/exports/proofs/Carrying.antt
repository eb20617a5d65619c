-- The numbers of a card fit 32 bits, as those of its pricing do. Assumes nothing.
use Prim.Native.Nat.{ℕ, ◌≤◌}
use mathlib.Core.Bool.{Bool, true, false}
use mathlib.Core.Path.{◌≡◌, refl, sym, ap, ◌∙◌, subst}
use native.Mathlib.Omega.{arith}
use lib.Dec.{leb}
use lib.ListN.{length}
use Rattle.calculus.specs.Verdicts.{Verdict, refused, passed, and_then, unless}
use Rattle.calculus.proofs.Refusing.{PlaceWithin}
use Rattle.std.specs.Prelude.{Result, Ok, Err}
use Rattle.ends.specs.Results.{line_of}
use Rattle.pricing.specs.Answered.{ran}
use Rattle.charges.specs.Prices.{Prices}
use Rattle.pricing.specs.Pricing.{Bill, pricing}
use Rattle.card.specs.Carding.{Card, card_of, laid_in}
use Rattle.card.specs.Answered.{outcome, spoken, bytes_in, bill_of, text_of, CardLent, CardReturned, carded, Carding}
use Rattle.card.specs.Refusals.{place_of}
use Rattle.card.specs.declared.Uncarded.{Uncarded}
use Rattle.card.specs.declared.Carded.{Carded}
use Rattle.card.proofs.Laws.{carding_is, billed_card, at_most}
use Rattle.card.proofs.Answering.{ended_by}
use Rattle.exports.proofs.Billing.{price_within, lines_within, bill_words}

laid_within : (room : ℕ) (v : Verdict Bill) → PlaceWithin 4096 v → PlaceWithin 4096 (bill_of (and_then v (laid_in room)))
laid_within room (refused n p) h = h
laid_within room (passed b) h = by (leb (length (card_of b)) room)
  where
    by : (t : Bool) → PlaceWithin 4096 (bill_of (unless t 14 0 (passed (record { bill = b; text = card_of b }))))
    by true = tt
    by false = omega arith

module _ (prices : Prices) (l : CardLent) (g : CardReturned) (h : Carding prices l g) where
  abbrev verdict : Verdict Card
  verdict = carded prices l

  said : {a : Result Carded Uncarded} → g.answer ≡ a → spoken (outcome a) ≡ and_then (ran (bill_of verdict)) (λ r. passed (line_of r))
  said e = sym (ap (λ (y : Result Carded Uncarded). spoken (outcome y)) e) ∙ h.answer_is

  within : PlaceWithin 4096 (bill_of verdict)
  within =
      let r = l.run in
      let v = pricing prices r.bytes r.limit (length r.first) (length r.second) in
      let is = carding_is prices r.bytes r.limit (length r.first) (length r.second) (length l.card) v refl in
      subst (λ (y : Verdict Card). PlaceWithin 4096 (bill_of y)) (sym is)
      (laid_within (length l.card) v (price_within prices r.bytes r.limit (length r.first) (length r.second)))

  -- The place of a refusal.
  pub card_place : (u : Uncarded) → g.answer ≡ Err u → place_of u ≤ 4096
  card_place u q = subst (PlaceWithin 4096) (sym (said q)) (lines_within (bill_of verdict) within)

  -- The words left and the words wanted.
  pub card_words : (x : Carded) → g.answer ≡ Ok x → (x.priced.report.left ≤ 16384) × (x.priced.report.wanted ≤ 268435456)
  card_words x q =
      let r = l.run in
      let e = ended_by prices l g h x.priced.report (ap outcome q) in
      let y = billed_card prices r.bytes r.limit (length r.first) (length r.second) (length l.card) e.0 e.1 in
      bill_words prices r.bytes r.limit (length r.first) (length r.second) e.0.bill y.0 x.priced.report e.2

  -- The bytes of the card.
  pub card_bytes_lem : (x : Carded) → g.answer ≡ Ok x → x.bytes ≤ 268435456
  card_bytes_lem x q = by verdict refl
    where
      is : x.bytes ≡ length (text_of verdict)
      is = sym (ap bytes_in q) ∙ h.bytes_are

      by : (v : Verdict Card) → verdict ≡ v → x.bytes ≤ 268435456
      by (refused n p) e = omega (arith, is, ap (λ (v : Verdict Card). length (text_of v)) e)
      by (passed c) e =
          let r = l.run in
          let few = at_most.most prices r.bytes r.limit (length r.first) (length r.second) (length l.card) c e in
          omega (arith, is, ap (λ (v : Verdict Card). length (text_of v)) e, few)
