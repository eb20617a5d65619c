-- The laws of pricing. Assumes nothing.
use Prim.Native.Nat.{ℕ, ◌≤◌}
use mathlib.Core.Bool.{Bool, true, false, false≢true}
use mathlib.Core.List.{List, []}
use mathlib.Core.Path.{◌≡◌, refl, sym, ap, ◌∙◌, subst}
use native.Mathlib.Decide.{dec_le}
use native.Mathlib.Omega.{arith}
use lib.ListN.{length}
use borrow.Author.Tests.{le-leb, lt-leb}
use Rattle.calculus.specs.Trees.{Ty, N, list, ml, Term}
use Rattle.calculus.specs.Words.{words, size}
use Rattle.calculus.specs.Verdicts.{Verdict, refused, passed}
use Rattle.calculus.specs.Limits.{InRange}
use Rattle.calculus.specs.Typing.{Typed}
use Rattle.calculus.specs.Inference.{same_type}
use Rattle.calculus.specs.Run.{End, valued, spent, error, full, Final, uncounted, Result, run, capacity}
use Rattle.calculus.specs.File.{Recipe, check, run_in}
use Rattle.calculus.specs.Accepted.{Accepted}
use Rattle.calculus.proofs.Checks.{check_iff, operate_iff}
use Rattle.calculus.proofs.Growth.{run_more}
use Rattle.calculus.proofs.Refusing.{Numbered, number_in_table}
use Rattle.calculus.proofs.Inference.{same_iff}
use Rattle.calculus.proofs.Verdicts.{not_both, passed_injective, refused_injective}
use Rattle.ends.specs.Results.{number_of_end}
use Rattle.charges.specs.Prices.{Prices, all_within}
use Rattle.charges.specs.Laws.{Within}
use Rattle.charges.proofs.Laws.{tested}
use Rattle.pricing.specs.Items.{list_of, items_in}
use Rattle.pricing.specs.Pricing.{Bill, charged_for, bill, billed, pricing}
use Rattle.pricing.specs.Laws.{Way, overpriced, unaccepted, of_another_type, too_large, run_of, ValueOf, Gives}
use Rattle.pricing.specs.Laws.{Costs, nothing, refused_10, charges_of_lem}
use Rattle.pricing.specs.Laws.{Exactly, OwnRun, Grows}
use Rattle.pricing.proofs.Listing.{items_in_lem}
use Rattle.pricing.proofs.Valued.{run_listed}

-- Another type is told apart.
not_same : (τ : Ty) → ¬ (τ ≡ list N) → same_type ml τ (list N) ≡ false
not_same τ h = by (same_type ml τ (list N)) refl
  where
    by : (b : Bool) → same_type ml τ (list N) ≡ b → b ≡ false
    by true q = absurd (h ((same_iff ml τ (list N)).0 q))
    by false q = refl

-- The way of prices and a file in a capacity.
module _ (prices : Prices) (bytes : List ℕ) (cap : ℕ) where
  sized : Within prices → (e : Term ml) → Accepted bytes (list N) e → Dec (size e ≤ cap) → Way prices bytes cap
  sized w e a (yes h) = run_of w e a h
  sized w e a (no h) = too_large w e a (omega (arith, h))

  typed : Within prices → (τ : Ty) (e : Term ml) → Accepted bytes τ e → (b : Bool) → same_type ml τ (list N) ≡ b → Way prices bytes cap
  typed w τ e a true q = sized w e (subst (λ (σ : Ty). Accepted bytes σ e) ((same_iff ml τ (list N)).0 q) a) (dec_le (size e) cap)
  typed w τ e a false q = of_another_type w τ e a (λ h. false≢true (sym q ∙ (same_iff ml τ (list N)).1 h))

  checked : Within prices → (v : Verdict Recipe) → check bytes ≡ v → Way prices bytes cap
  checked w (refused n p) q = unaccepted w n p q
  checked w (passed x) q = typed w x.0 x.1 ((check_iff bytes x.0 x.1).0 q) (same_type ml x.0 (list N)) refl

  tested_way : (b : Bool) → all_within prices ≡ b → Way prices bytes cap
  tested_way true q = checked ((tested.all_within_lem prices).0 q) (check bytes) refl
  tested_way false q = overpriced ((tested.one_over prices).0 q)

  way : Way prices bytes cap
  way = tested_way (all_within prices) refl

-- What a run costs.
module _ (prices : Prices) (limit cap : ℕ) (e : Term ml) (i : InRange e) (t : Typed [] e (list N)) where
  abbrev result : Result
  result = run limit cap uncounted e

  counted : (ns : List ℕ) → ValueOf result ns → items_in result.left ≡ ns → Dec (length ns ≤ 9) → Costs prices result (bill prices result valued)
  counted ns v q (yes h) = rw (q, le-leb (length ns) 9 h) (charges_of_lem ns v h)
  counted ns v q (no h) = rw (q, lt-leb (length ns) 9 (omega (arith, h))) (refused_10 ns v (omega (arith, h)))

  costs_at : (x : End) → result.end ≡ x → Costs prices result (bill prices result x)
  costs_at valued q =
      let l = run_listed limit cap e i t q in
      counted l.0 (record { ends = q; is = l.1 }) (ap items_in l.1 ∙ items_in_lem l.0 l.2) (dec_le (length l.0) 9)
  costs_at spent q = nothing (λ h. omega (arith, ap number_of_end (sym q ∙ h)))
  costs_at error q = nothing (λ h. omega (arith, ap number_of_end (sym q ∙ h)))
  costs_at full q = nothing (λ h. omega (arith, ap number_of_end (sym q ∙ h)))

  costs : Costs prices result (bill prices result result.end)
  costs = costs_at result.end refl

-- What pricing gives, in each way.
module _ (prices : Prices) (bytes : List ℕ) (limit first second : ℕ) where
  abbrev cap : ℕ
  cap = capacity first second

  accepted_is : (τ : Ty) (e : Term ml) → Within prices → Accepted bytes τ e → pricing prices bytes limit first second ≡ billed prices limit cap (τ, e)
  unfolding pricing
  accepted_is τ e w a = rw ((tested.all_within_lem prices).1 w, (check_iff bytes τ e).1 a)

  run_is : (e : Term ml) → Within prices → Accepted bytes (list N) e → size e ≤ cap
      → pricing prices bytes limit first second ≡ bill prices (run limit cap uncounted e) (run limit cap uncounted e).end
  unfolding billed run_in
  run_is e w a h = accepted_is (list N) e w a ∙ rw ((same_iff ml (list N) (list N)).1 refl, le-leb (size e) cap h)

  gives : (w : Way prices bytes cap) → Gives limit w (pricing prices bytes limit first second)
  unfolding pricing billed run_in
  gives (overpriced h) = rw ((tested.one_over prices).1 h)
  gives (unaccepted w n p q) = rw ((tested.all_within_lem prices).1 w, q)
  gives (of_another_type w τ e a h) = accepted_is τ e w a ∙ rw (not_same τ h)
  gives (too_large w e a h) = accepted_is (list N) e w a ∙ rw ((same_iff ml (list N) (list N)).1 refl, lt-leb (size e) cap h)
  gives (run_of w e a h) =
      subst (Costs prices (run limit cap uncounted e)) (sym (run_is e w a h)) (costs prices limit cap e a.filed.order.ranged a.typed)

pub exactly : Exactly
exactly = record { way = way; gives = gives }

-- A run that has a bill, or more than nine items, is the run of a recipe.
module _ (prices : Prices) (bytes : List ℕ) (limit first second : ℕ) where
  abbrev verdict : Verdict Bill
  verdict = pricing prices bytes limit first second

  pub billed_run : (b : Bill) → verdict ≡ passed b → (e : Term ml) × Within prices × Accepted bytes (list N) e × (size e ≤ capacity first second)
      × (b.run ≡ run limit (capacity first second) uncounted e)
  billed_run b q = by (way prices bytes (capacity first second)) (gives prices bytes limit first second (way prices bytes (capacity first second)))
    where
      run_of_costs : (r : Result) (v : Verdict Bill) → v ≡ passed b → Costs prices r v → b.run ≡ r
      run_of_costs r v h (nothing n) = sym (ap (λ (y : Bill). y.run) (passed_injective _ b h))
      run_of_costs r v h (refused_10 ns y n) = absurd (not_both 10 0 b h)
      run_of_costs r v h (charges_of_lem ns y n) = sym (ap (λ (y : Bill). y.run) (passed_injective _ b h))

      by : (w : Way prices bytes (capacity first second)) → Gives limit w verdict → (e : Term ml) × Within prices × Accepted bytes (list N) e
          × (size e ≤ capacity first second) × (b.run ≡ run limit (capacity first second) uncounted e)
      by (overpriced h) g = absurd (not_both 11 0 b (sym g ∙ q))
      by (unaccepted w n p c) g = absurd (not_both n p b (sym g ∙ q))
      by (of_another_type w τ e a h) g = absurd (not_both 9 0 b (sym g ∙ q))
      by (too_large w e a h) g = absurd (not_both 8 0 b (sym g ∙ q))
      by (run_of w e a h) g = (e, w, a, h, run_of_costs (run limit (capacity first second) uncounted e) verdict q g)

  -- At a value it leaves a list of at most nine numbers, each in range, and the bill is theirs.
  pub billed_items : (b : Bill) → verdict ≡ passed b → b.run.end ≡ valued
      → (ns : List ℕ) × (b.run.left ≡ words (list_of ns)) × InRange (list_of ns) × (items_in b.run.left ≡ ns) × (length ns ≤ 9)
      × (b ≡ charged_for prices b.run ns)
  billed_items b q v =
      let y = billed_run b q in
      let a = y.2 in
      let l = run_listed limit (capacity first second) y.0 a.filed.order.ranged a.typed (ap (λ (r : Result). r.end) (sym y.4) ∙ v) in
      let left : b.run.left ≡ words (list_of l.0) = ap (λ (r : Result). r.left) y.4 ∙ l.1 in
      let items = ap items_in left ∙ items_in_lem l.0 l.2 in
      let is : verdict ≡ bill prices b.run valued =
      run_is prices bytes limit first second y.0 y.1 y.2 y.3 ∙ ap (λ (r : Result). bill prices r r.end) (sym y.4)
      ∙ ap (bill prices b.run) v in
      let few = by l.0 items (sym is ∙ q) (dec_le (length l.0) 9) in
      (l.0, left, l.2, items, few.0, few.1)
    where
      by : (ns : List ℕ) → items_in b.run.left ≡ ns → bill prices b.run valued ≡ passed b → Dec (length ns ≤ 9)
          → (length ns ≤ 9) × (b ≡ charged_for prices b.run ns)
      by ns e h (yes k) = (k, sym (passed_injective (charged_for prices b.run ns) b (sym (rw (e, le-leb (length ns) 9 k)) ∙ h)))
      by ns e h (no k) = absurd (not_both 10 0 b (sym (rw (e, lt-leb (length ns) 9 (omega (arith, k)))) ∙ h))

  pub items_run : verdict ≡ refused 10 0 → (e : Term ml) × Within prices × Accepted bytes (list N) e × (size e ≤ capacity first second)
      × ((run limit (capacity first second) uncounted e).end ≡ valued)
  items_run q = by (way prices bytes (capacity first second)) (gives prices bytes limit first second (way prices bytes (capacity first second)))
    where
      valued_costs : (r : Result) (v : Verdict Bill) → v ≡ refused 10 0 → Costs prices r v → r.end ≡ valued
      valued_costs r v h (nothing n) = absurd (not_both 10 0 _ (sym h))
      valued_costs r v h (refused_10 ns y n) = y.ends
      valued_costs r v h (charges_of_lem ns y n) = absurd (not_both 10 0 _ (sym h))

      other : (n p : ℕ) → verdict ≡ refused n p → n ≡ 10
      other n p g = let z : ◌≡◌ {A = Verdict Bill} (refused n p) (refused 10 0) = sym g ∙ q in cc

      by : (w : Way prices bytes (capacity first second)) → Gives limit w verdict → (e : Term ml) × Within prices × Accepted bytes (list N) e
          × (size e ≤ capacity first second) × ((run limit (capacity first second) uncounted e).end ≡ valued)
      by (overpriced h) g = absurd (omega (arith, other 11 0 g))
      by (unaccepted w n p c) g = absurd (omega (arith, other n p g, subst Numbered c (number_in_table bytes)))
      by (of_another_type w τ e a h) g = absurd (omega (arith, other 9 0 g))
      by (too_large w e a h) g = absurd (omega (arith, other 8 0 g))
      by (run_of w e a h) g = (e, w, a, h, valued_costs (run limit (capacity first second) uncounted e) verdict q g)

  -- No refusal of pricing has a larger number than 11.
  pub pricing_number : (n p : ℕ) → verdict ≡ refused n p → n ≤ 11
  pricing_number n p q =
      let w = way prices bytes (capacity first second) in
      by w (gives prices bytes limit first second w)
    where
      is : (m k : ℕ) → verdict ≡ refused m k → n ≡ m
      is m k g = (refused_injective (sym q ∙ g)).0

      of_costs : (r : Result) (v : Verdict Bill) → verdict ≡ v → Costs prices r v → n ≤ 11
      of_costs r v h (nothing k) = absurd (not_both n p _ (sym q ∙ h))
      of_costs r v h (refused_10 ns y k) = omega (arith, is 10 0 h)
      of_costs r v h (charges_of_lem ns y k) = absurd (not_both n p _ (sym q ∙ h))

      by : (w : Way prices bytes (capacity first second)) → Gives limit w verdict → n ≤ 11
      by (overpriced h) g = omega (arith, is 11 0 g)
      by (unaccepted w m k c) g = omega (arith, is m k g, subst Numbered c (number_in_table bytes))
      by (of_another_type w τ e a h) g = omega (arith, is 9 0 g)
      by (too_large w e a h) g = omega (arith, is 8 0 g)
      by (run_of w e a h) g = of_costs _ verdict refl g

pub own_run : OwnRun
own_run =
    record {
      own = λ prices bytes limit first second b q.
          let y = billed_run prices bytes limit first second b q in
          (operate_iff bytes limit first second b.run).1 (list N, y.0, y.2, y.3, y.4);
    }

-- Under larger limits.
module _ (prices : Prices) (bytes : List ℕ) (limit first second limit' first' second' : ℕ) (k : limit ≤ limit')
    (c : capacity first second ≤ capacity first' second') where
  same_run : (e : Term ml) → Within prices → Accepted bytes (list N) e → size e ≤ capacity first second
      → Final (run limit (capacity first second) uncounted e).end
      → pricing prices bytes limit' first' second' ≡ pricing prices bytes limit first second
  same_run e w a h f =
      let more = run_more limit limit' (capacity first second) (capacity first' second') uncounted e k c f in
      run_is prices bytes limit' first' second' e w a (omega (arith, h, c)) ∙ ap (λ (r : Result). bill prices r r.end) more
      ∙ sym (run_is prices bytes limit first second e w a h)

  bill_more : (b : Bill) → pricing prices bytes limit first second ≡ passed b → Final b.run.end
      → pricing prices bytes limit' first' second' ≡ passed b
  bill_more b q f =
      let y = billed_run prices bytes limit first second b q in
      same_run y.0 y.1 y.2 y.3 (subst (λ (r : Result). Final r.end) y.4 f) ∙ q

  items_more : pricing prices bytes limit first second ≡ refused 10 0 → pricing prices bytes limit' first' second' ≡ refused 10 0
  items_more q =
      let y = items_run prices bytes limit first second q in
      same_run y.0 y.1 y.2 y.3 (subst Final (sym y.4) tt) ∙ q

pub grows : Grows
grows = record { bill = bill_more; items = items_more }
