-- What an answer tells of the verdict: a refusal is the verdict's, and an end is that of a card that was made. Assumes nothing.
use mathlib.Core.Path.{◌≡◌, refl, sym, ap, ◌∙◌}
use Rattle.calculus.specs.Verdicts.{Verdict, refused, passed, and_then}
use Rattle.calculus.proofs.Verdicts.{not_both, passed_injective, refused_injective}
use Rattle.std.specs.Prelude.{Ok, Err}
use Rattle.ends.specs.declared.Report.{Report}
use Rattle.ends.specs.Results.{line_of, told}
use Rattle.charges.specs.Prices.{Prices}
use Rattle.pricing.specs.Answered.{ran}
use Rattle.card.specs.Carding.{Card}
use Rattle.card.specs.Refusals.{number_of, refusal}
use Rattle.card.specs.Answered.{outcome, spoken, bill_of, CardLent, CardReturned, carded, Carding}
use Rattle.card.specs.declared.Uncarded.{Uncarded}

module _ (prices : Prices) (l : CardLent) (g : CardReturned) (h : Carding prices l g) where
  pub tells : (v : Verdict Card) → carded prices l ≡ v
      → spoken (outcome g.answer) ≡ and_then (ran (bill_of v)) (λ r. passed (line_of r))
  tells v e = h.answer_is ∙ ap (λ (y : Verdict Card). and_then (ran (bill_of y)) (λ r. passed (line_of r))) e

  pub refused_by_lem : (u : Uncarded) → outcome g.answer ≡ Err u → carded prices l ≡ refusal u
  refused_by_lem u q = by (carded prices l) refl
    where
      by : (v : Verdict Card) → carded prices l ≡ v → v ≡ refusal u
      by (refused n p) e = let i = refused_injective (sym (ap spoken q) ∙ tells (refused n p) e) in rw (i.0, i.1)
      by (passed c) e = absurd (not_both (number_of u) _ (line_of c.bill.run) (sym (ap spoken q) ∙ tells (passed c) e))

  pub ended_by : (x : Report) → outcome g.answer ≡ Ok x → (c : Card) × (carded prices l ≡ passed c) × (told x ≡ line_of c.bill.run)
  ended_by x q = by (carded prices l) refl
    where
      by : (v : Verdict Card) → carded prices l ≡ v → (c : Card) × (carded prices l ≡ passed c) × (told x ≡ line_of c.bill.run)
      by (refused n p) e = absurd (not_both n p (told x) (sym (tells (refused n p) e) ∙ ap spoken q))
      by (passed c) e = (c, e, passed_injective (told x) (line_of c.bill.run) (sym (ap spoken q) ∙ tells (passed c) e))
