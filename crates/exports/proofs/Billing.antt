-- The numbers of a pricing fit 32 bits, as those of its run do. Assumes nothing.
use Prim.Native.Nat.{ℕ, ◌≤◌}
use mathlib.Core.List.{List}
use mathlib.Core.Path.{◌≡◌, sym, ap, ◌∙◌, subst}
use native.Mathlib.Omega.{arith}
use lib.ListN.{length}
use Rattle.calculus.specs.Verdicts.{Verdict, refused, passed, and_then}
use Rattle.std.specs.Prelude.{Result, Ok, Err}
use Rattle.calculus.specs.Run as run
use Rattle.calculus.specs.Run.{capacity}
use Rattle.calculus.specs.File.{Recipe}
use Rattle.calculus.proofs.Bounds.{operate_bounded}
use Rattle.calculus.proofs.Refusing.{PlaceWithin}
use Rattle.ends.specs.declared.Report.{Report}
use Rattle.ends.specs.Results.{Line, line_of, told}
use Rattle.charges.specs.Prices.{Prices}
use Rattle.pricing.specs.Pricing.{Bill, pricing}
use Rattle.pricing.specs.Refusals.{place_of}
use Rattle.pricing.specs.Laws.{Way, overpriced, unaccepted, of_another_type, too_large, run_of, Costs, nothing, refused_10, charges_of_lem, Gives}
use Rattle.pricing.specs.Answered.{outcome, spoken, ran}
use Rattle.pricing.specs.declared.Unpriced.{Unpriced}
use Rattle.pricing.specs.declared.Priced.{Priced}
use Rattle.pricing.proofs.Billing.{billed_by}
use Rattle.pricing.proofs.Laws.{exactly, own_run}
use Rattle.exports.proofs.Packing.{check_within}

pub lines_within : (v : Verdict Bill) → PlaceWithin 4096 v → PlaceWithin 4096 (and_then (ran v) (λ y. passed (line_of y)))
lines_within (refused r p) h = h
lines_within (passed y) h = tt

module _ (prices : Prices) (bytes : List ℕ) (limit n m : ℕ) where
  abbrev verdict : Verdict Bill
  verdict = pricing prices bytes limit n m

  costs_within : (r : run.Result) (v : Verdict Bill) → Costs prices r v → PlaceWithin 4096 v
  costs_within r v (nothing h) = tt
  costs_within r v (refused_10 ns y h) = omega arith
  costs_within r v (charges_of_lem ns y h) = tt

  gives_within : (w : Way prices bytes (capacity n m)) → Gives limit w verdict → PlaceWithin 4096 verdict
  gives_within (overpriced h) g = subst (PlaceWithin 4096) (sym g) (omega arith)
  gives_within (unaccepted w i p c) g =
      subst (PlaceWithin 4096) (sym g) (subst (PlaceWithin {A = Recipe} 4096) c (check_within bytes))
  gives_within (of_another_type w τ e a h) g = subst (PlaceWithin 4096) (sym g) (omega arith)
  gives_within (too_large w e a h) g = subst (PlaceWithin 4096) (sym g) (omega arith)
  gives_within (run_of w e a h) g = costs_within _ verdict g

  pub price_within : PlaceWithin 4096 verdict
  price_within = let w = exactly.way prices bytes (capacity n m) in gives_within w (exactly.gives prices bytes limit n m w)

  -- The words left and wanted that a report of a bill's run tells.
  pub bill_words : (b : Bill) → verdict ≡ passed b → (x : Report) → told x ≡ line_of b.run → (x.left ≤ 16384) × (x.wanted ≤ 268435456)
  bill_words b q x e =
      let l : x.left ≡ length b.run.left = ap (λ (z : Line). z.left) e in
      let w : x.wanted ≡ b.run.wanted = ap (λ (z : Line). z.wanted) e in
      let k = operate_bounded bytes limit n m b.run (own_run.own prices bytes limit n m b q) in
      (omega (arith, l, k.0), omega (arith, w, k.1))

  module _ (p : Result Priced Unpriced) (h : spoken (outcome p) ≡ and_then (ran verdict) (λ y. passed (line_of y))) where
    tells : {q : Result Priced Unpriced} → p ≡ q → spoken (outcome q) ≡ and_then (ran verdict) (λ y. passed (line_of y))
    tells e = sym (ap (λ (y : Result Priced Unpriced). spoken (outcome y)) e) ∙ h

    -- The place of a refusal.
    pub price_place : (u : Unpriced) → p ≡ Err u → place_of u ≤ 4096
    price_place u q = subst (PlaceWithin 4096) (sym (tells q)) (lines_within verdict price_within)

    -- The words left and the words wanted.
    pub price_words : (x : Priced) → p ≡ Ok x → (x.report.left ≤ 16384) × (x.report.wanted ≤ 268435456)
    price_words x q = let y = billed_by verdict x.report (tells q) in bill_words y.0 y.1 x.report y.2
