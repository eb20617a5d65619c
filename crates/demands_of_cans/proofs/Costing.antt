-- What `price` promises meets demands 1 and 2, and demand 3's growth of two pricings. Assumes nothing.
use Prim.Native.Nat.{ℕ, ◌≤◌, ◌<◌}
use mathlib.Core.Bool.{cond}
use mathlib.Core.List.{List, []}
use mathlib.Core.Path.{◌≡◌, refl, sym, ap, ◌∙◌, subst}
use native.Mathlib.Omega.{arith}
use lib.Dec.{eqb}
use lib.ListN.{length}
use borrow.Author.Tests.{ne_eqb}
use Rattle.calculus.specs.Trees.{Ty, N, list, ml, Term}
use Rattle.calculus.specs.Words.{size}
use Rattle.std.specs.Prelude.{Result, Ok, Err}
use Rattle.calculus.specs.Verdicts.{Verdict, refused, passed, and_then}
use Rattle.calculus.specs.Run as spec
use Rattle.calculus.specs.Endings.{Ending}
use Rattle.calculus.specs.File.{check}
use Rattle.calculus.specs.Accepted.{Accepted}
use Rattle.calculus.specs.Typing.{Typed}
use Rattle.calculus.proofs.Verdicts.{not_both, passed_injective, refused_injective}
use Rattle.calculus.proofs.Endings.{ends_iff, ending}
use Rattle.calculus.proofs.Refusing.{Numbered, number_in_table}
use Rattle.nodes.specs.declared.refusals.Refusal.TheVariants.{Capacity}
use Rattle.calculus.proofs.Padding.{padded_none}
use Rattle.ends.specs.declared.Report.{Report}
use Rattle.ends.specs.Results.{Line, line_of, end_of, told}
use Rattle.engine.specs.Lent.{Lent, room}
use Rattle.engine.specs.Lent as engine
use Rattle.charges.specs.Prices.{Prices}
use Rattle.charges.specs.Laws.{Within, Overpriced}
use Rattle.pricing.specs.Pricing.{Bill, pricing}
use Rattle.pricing.specs.Refusals.{number_of, place_of, refusal}
use Rattle.pricing.specs.Laws as laws
use Rattle.pricing.specs.Laws.{Way, overpriced, unaccepted, of_another_type, too_large, run_of, ValueOf, Gives}
use Rattle.pricing.specs.Answered.{spoken, charges_of, ran, Returned, Pricing, priced}
use Rattle.pricing.specs.declared.Unpriced.{Unpriced}
use Rattle.pricing.specs.declared.Unpriced.TheVariants as u
use Rattle.pricing.proofs.Listing.{lists_once}
use Rattle.pricing.proofs.Billing.{billed_by}
use Rattle.pricing.proofs.Laws.{exactly, own_run, grows}
use Rattle.demands_of_cans.specs.Priced.{outcome, Finishes, refuses, ends, RefusedBy, OwnRun, Costs, nothing, too_many, charges, Answers}
use Rattle.demands_of_cans.specs.Priced.{OtherType, TooMany, PricedOnce, SamePrice, PricedTwice}
use Rattle.demands.proofs.Running as running
use Rattle.demands.proofs.Running.{Promised, reduces_of}
use Rattle.demands.proofs.Demanding as demanding

-- Every refusal of pricing is one of the eleven.
pub numbered : (x : Unpriced) → (1 ≤ number_of x) × (number_of x ≤ 11)
numbered u.Prices = (omega arith, omega arith)
numbered (u.Recipe r) = let n = running.numbered r in (n.0, omega (arith, n.1))
numbered u.Declared = (omega arith, omega arith)
numbered u.Items = (omega arith, omega arith)

-- A refusal is its number and place.
abbrev unpriced_of : ℕ → ℕ → Unpriced
unpriced_of n p = cond (eqb n 11) u.Prices (cond (eqb n 9) u.Declared (cond (eqb n 10) u.Items (u.Recipe (demanding.numbered n p))))

of_the_recipe : (n p : ℕ) → n ≤ 8 → unpriced_of n p ≡ u.Recipe (demanding.numbered n p)
of_the_recipe n p h =
    rw (
      ne_eqb n 11 (λ e. omega (arith, e, h)),
      ne_eqb n 9 (λ e. omega (arith, e, h)),
      ne_eqb n 10 (λ e. omega (arith, e, h)),
    )

unpriced_is : (x : Unpriced) → unpriced_of (number_of x) (place_of x) ≡ x
unpriced_is u.Prices = refl
unpriced_is (u.Recipe r) =
    of_the_recipe (number_of (u.Recipe r)) (place_of (u.Recipe r)) (running.numbered r).1 ∙ ap u.Recipe (demanding.numbered_is r)
unpriced_is u.Declared = refl
unpriced_is u.Items = refl

-- The number of an outcome, 0 for an end.
abbrev number_of_outcome : Result Report Unpriced → ℕ
number_of_outcome (Err x) = number_of x
number_of_outcome (Ok x) = 0

-- What an outcome tells of the verdict, and a verdict of the outcome.
told_ended : (o : Result Report Unpriced) (v : Verdict Bill) (b : Bill) → spoken o ≡ and_then (ran v) (λ r. passed (line_of r)) → v ≡ passed b
    → (x : Report) × (o ≡ Ok x) × (told x ≡ line_of b.run)
told_ended o v b h q = by o (h ∙ ap (λ (w : Verdict Bill). and_then (ran w) (λ r. passed (line_of r))) q)
  where
    by : (o : Result Report Unpriced) → spoken o ≡ passed (line_of b.run) → (x : Report) × (o ≡ Ok x) × (told x ≡ line_of b.run)
    by (Err y) e = absurd (not_both (number_of y) (place_of y) (line_of b.run) e)
    by (Ok x) e = (x, refl, passed_injective (told x) (line_of b.run) e)

told_refused : (g : Returned) (v : Verdict Bill) (n p : ℕ) → spoken (outcome g) ≡ and_then (ran v) (λ r. passed (line_of r)) → v ≡ refused n p
    → RefusedBy g n p
told_refused g v n p h q = by (outcome g) refl (h ∙ ap (λ (w : Verdict Bill). and_then (ran w) (λ r. passed (line_of r))) q)
  where
    by : (o : Result Report Unpriced) → outcome g ≡ o → spoken o ≡ refused n p → RefusedBy g n p
    by (Err y) w e =
        let i = refused_injective e in record { refusal = y; refused = w; number = i.0; place = i.1 }
    by (Ok x) w e = absurd (not_both n p (told x) (sym e))

told_as : (g : Returned) (v : Verdict Bill) (n p : ℕ) → spoken (outcome g) ≡ and_then (ran v) (λ r. passed (line_of r)) → v ≡ refused n p
    → outcome g ≡ Err (unpriced_of n p)
told_as g v n p h q =
    let r = told_refused g v n p h q in
    r.refused ∙ ap Err (sym (unpriced_is r.refusal) ∙ rw (r.number, r.place))

-- What a run gives back that ends with this report and leaves what the pricing leaves.
abbrev ended_as : Report → Returned → engine.Returned
ended_as x g = engine.returned (Ok x) g.first g.second

-- A run has one result.
pub result_is : {limit cap : ℕ} {e : Term ml} (τ : Ty) → Typed [] e τ → (x : Ending limit cap e) → spec.run limit cap spec.uncounted e ≡ x.result
result_is {limit} {cap} {e} τ t x = x.only _ ((ends_iff limit cap e τ t _).1 refl)

pub same_result : {limit cap : ℕ} {e : Term ml} → Typed [] e (list N) → (x y : Ending limit cap e) → x.result ≡ y.result
same_result t x y = sym (result_is (list N) t x) ∙ result_is (list N) t y

module _ (prices : Prices) (l : Lent) (g : Returned) (h : Pricing prices l g) where
  abbrev verdict : Verdict Bill
  verdict = priced prices l

  -- A pricing that ended is a run.
  as_run : (x : Report) (b : Bill) → outcome g ≡ Ok x → verdict ≡ passed b
      → Promised l (ended_as x g)
  as_run x b o q =
      let w = own_run.own prices l.bytes l.limit (length l.first) (length l.second) b q in
      record {
        answer_is =
            ap spoken (sym o) ∙ h.answer_is ∙ ap (λ (v : Verdict Bill). and_then (ran v) (λ r. passed (line_of r))) q
            ∙ ap (λ (v : Verdict spec.Result). and_then v (λ r. passed (line_of r))) (sym w);
        first_is = h.first_is ∙ rw (q, w);
        second_is = h.second_is;
      }

  own_of : (b : Bill) → verdict ≡ passed b → (e : Term ml) → Accepted l.bytes (list N) e → size e ≤ room l → OwnRun l g e
  own_of b q e a s =
      let x = told_ended (outcome g) verdict b h.answer_is q in
      record {
        report = x.0;
        ended = x.1;
        reduces = reduces_of l (ended_as x.0 g) (as_run x.0 b x.1 q) (list N) e a s;
      }

  -- What the run costs.
  module _ (e : Term ml) (a : Accepted l.bytes (list N) e) (s : size e ≤ room l) where
    costs : (v : Verdict Bill) → verdict ≡ v → laws.Costs prices (spec.run l.limit (room l) spec.uncounted e) v → Costs prices l g e
    costs v q (laws.nothing n) =
        let o = own_of _ q e a s in
        nothing o (λ z. n (ap (λ (r : spec.Result). r.end) (result_is (list N) a.typed o.reduces.by_rules) ∙ z))
        (h.charges_are ∙ ap charges_of q)
    costs v q (laws.refused_10 ns y n) =
        let x = ending l.limit (room l) e (list N) a.typed in
        too_many x ns (subst (λ (r : spec.Result). ValueOf r ns) (result_is (list N) a.typed x) y) n (told_as g verdict 10 0 h.answer_is q)
    costs v q (laws.charges_of_lem ns y n) =
        let o = own_of _ q e a s in
        charges o ns (subst (λ (r : spec.Result). ValueOf r ns) (result_is (list N) a.typed o.reduces.by_rules) y) n
        (h.charges_are ∙ ap charges_of q)

  gives : (w : Way prices l.bytes (room l)) → Gives l.limit w verdict
  gives w = exactly.gives prices l.bytes l.limit (length l.first) (length l.second) w

  answers : (w : Way prices l.bytes (room l)) → Gives l.limit w verdict → Answers prices l w g
  answers (overpriced o) q = told_as g verdict 11 0 h.answer_is q
  answers (unaccepted w n p c) q = told_refused g verdict n p h.answer_is q
  answers (of_another_type w τ e a o) q = told_as g verdict 9 0 h.answer_is q
  answers (too_large w e a o) q = told_as g verdict 8 0 h.answer_is q
  answers (run_of w e a s) q = costs e a s verdict refl q

  -- Demand 1.
  finish : (o : Result Report Unpriced) → outcome g ≡ o → Finishes l g
  finish (Ok x) q = ends x q
  finish (Err x) q = by verdict refl (ap spoken (sym q) ∙ h.answer_is)
    where
      by : (v : Verdict Bill) → verdict ≡ v → refusal x ≡ and_then (ran v) (λ r. passed (line_of r)) → Finishes l g
      by (passed b) w e = absurd (not_both (number_of x) (place_of x) (line_of b.run) e)
      by (refused n p) w e =
          let i = numbered x in
          refuses x q i.0 i.1 (h.charges_are ∙ ap charges_of w)
          (h.first_is ∙ rw w (sym (padded_none (length l.first)))) (h.second_is ∙ sym (padded_none (length l.second)))

  -- The way, by the number of the answer.
  numbered_as : (x y : Unpriced) → outcome g ≡ Err x → outcome g ≡ Err y → number_of x ≡ number_of y
  numbered_as x y p q = ap number_of_outcome (sym p ∙ q)

  not_ended : (x : Unpriced) (r : Report) → outcome g ≡ Err x → outcome g ≡ Ok r → ⊥
  not_ended x r p q = let z : number_of x ≡ 0 = ap number_of_outcome (sym p ∙ q) in omega (arith, z, numbered x)

  -- A refusal of its own number comes of no other way.
  module _ (x : Unpriced) (o : outcome g ≡ Err x) (own : 9 ≤ number_of x) where
    not_unaccepted : (n p : ℕ) → check l.bytes ≡ refused n p → RefusedBy g n p → ⊥
    not_unaccepted n p c r =
        let t = subst Numbered c (number_in_table l.bytes) in
        omega (arith, own, numbered_as x r.refusal o r.refused, r.number, t)

    not_too_large : outcome g ≡ Err (u.Recipe Capacity) → ⊥
    not_too_large q = omega (arith, own, numbered_as x (u.Recipe Capacity) o q)

    not_costs : {e : Term ml} → (number_of x ≡ 10 → ⊥) → Costs prices l g e → ⊥
    not_costs k (nothing y n c) = not_ended x y.report o y.ended
    not_costs k (too_many y ns v n q) = k (numbered_as x u.Items o q)
    not_costs k (charges y ns v n c) = not_ended x y.report o y.ended

  eleven_by : outcome g ≡ Err u.Prices → (w : Way prices l.bytes (room l)) → Answers prices l w g → Overpriced prices
  eleven_by o (overpriced y) q = y
  eleven_by o (unaccepted w n p c) q = absurd (not_unaccepted u.Prices o (omega arith) n p c q)
  eleven_by o (of_another_type w τ e a y) q = absurd (omega (arith, numbered_as u.Prices u.Declared o q))
  eleven_by o (too_large w e a y) q = absurd (not_too_large u.Prices o (omega arith) q)
  eleven_by o (run_of w e a s) q = absurd (not_costs u.Prices o (omega arith) (λ z. omega (arith, z)) q)

  nine_by : outcome g ≡ Err u.Declared → (w : Way prices l.bytes (room l)) → Answers prices l w g → Within prices × OtherType l
  nine_by o (overpriced y) q = absurd (omega (arith, numbered_as u.Declared u.Prices o q))
  nine_by o (unaccepted w n p c) q = absurd (not_unaccepted u.Declared o (omega arith) n p c q)
  nine_by o (of_another_type w τ e a y) q = (w, (τ, e, a, y))
  nine_by o (too_large w e a y) q = absurd (not_too_large u.Declared o (omega arith) q)
  nine_by o (run_of w e a s) q = absurd (not_costs u.Declared o (omega arith) (λ z. omega (arith, z)) q)

  ten_by : outcome g ≡ Err u.Items → (w : Way prices l.bytes (room l)) → Answers prices l w g → Within prices × TooMany l
  ten_by o (overpriced y) q = absurd (omega (arith, numbered_as u.Items u.Prices o q))
  ten_by o (unaccepted w n p c) q = absurd (not_unaccepted u.Items o (omega arith) n p c q)
  ten_by o (of_another_type w τ e a y) q = absurd (omega (arith, numbered_as u.Items u.Declared o q))
  ten_by o (too_large w e a y) q = absurd (not_too_large u.Items o (omega arith) q)
  ten_by o (run_of w e a s) (nothing y n c) = absurd (not_ended u.Items y.report o y.ended)
  ten_by o (run_of w e a s) (too_many x ns v n q) = (w, (e, a, s, x, ns, v, n))
  ten_by o (run_of w e a s) (charges y ns v n c) = absurd (not_ended u.Items y.report o y.ended)

  -- Where there are too many items, 10 is the answer: the run has one ending, and its value is one list.
  ten_of : (e : Term ml) → Typed [] e (list N) → (x : Ending l.limit (room l) e) (ns : List ℕ) → ValueOf x.result ns → 9 < length ns
      → Costs prices l g e → outcome g ≡ Err u.Items
  ten_of e t x ns v n (nothing y k c) = absurd (k (ap (λ (r : spec.Result). r.end) (same_result t y.reduces.by_rules x) ∙ v.ends))
  ten_of e t x ns v n (too_many y ms w k q) = q
  ten_of e t x ns v n (charges y ms w k c) =
      let one = lists_once ns ms (sym v.is ∙ ap (λ (r : spec.Result). r.left) (same_result t x y.reduces.by_rules) ∙ w.is) in
      absurd (omega (arith, ap length one, n, k))

  pub priced_once : PricedOnce prices l g
  priced_once =
      let way = exactly.way prices l.bytes (room l) in
      let answer : (w : Way prices l.bytes (room l)) → Answers prices l w g = λ w. answers w (gives w) in
      record {
        finishes = finish (outcome g) refl;
        way = way;
        answers = answer;
        eleven = (λ o. eleven_by o way (answer way), λ y. answer (overpriced y));
        nine = (λ o. nine_by o way (answer way), λ y. answer (of_another_type y.0 y.1.0 y.1.1 y.1.2 y.1.3));
        ten = (
          λ o. ten_by o way (answer way),
          λ y. let m = y.1 in ten_of m.0 m.1.typed m.3 m.4 m.5 m.6 (answer (run_of y.0 m.0 m.1 m.2)),
        );
      }

-- Two pricings of one file, at the same prices.
module _ (prices : Prices) (l m : Lent) (g h : Returned) (b : l.bytes ≡ m.bytes) (p : Pricing prices l g) (q : Pricing prices m h)
    (i : l.limit ≤ m.limit) (j : room l ≤ room m) where
  grow : (x : Report) → outcome g ≡ Ok x → spec.Final (end_of x.end) → SamePrice x g h
  grow x o f =
      let y = billed_by (priced prices l) x (ap spoken (sym o) ∙ p.answer_is) in
      let final = subst spec.Final (ap (λ (z : Line). z.end) y.2) f in
      let more = grows.bill prices l.bytes l.limit (length l.first) (length l.second) m.limit (length m.first) (length m.second)
      i j y.0 y.1 final in
      let later : priced prices m ≡ passed y.0 =
      subst (λ (bs : List ℕ). pricing prices bs m.limit (length m.first) (length m.second) ≡ passed y.0) b more in
      let z = told_ended (outcome h) (priced prices m) y.0 q.answer_is later in
      let same = running.grow l m (ended_as x g) (ended_as z.0 h) x b i j
      (as_run prices l g p x y.0 o y.1) (as_run prices m h q z.0 y.0 z.1 later) refl f in
      record {
        report = z.0;
        ended = z.1;
        numbers = z.2 ∙ sym y.2;
        charges = q.charges_are ∙ ap charges_of (later ∙ sym y.1) ∙ sym p.charges_are;
        words = same.words;
      }

  stay : outcome g ≡ Err u.Items → outcome h ≡ Err u.Items
  stay o = by (priced prices l) refl (ap spoken (sym o) ∙ p.answer_is)
    where
      by : (v : Verdict Bill) → priced prices l ≡ v → refused 10 0 ≡ and_then (ran v) (λ r. passed (line_of r)) → outcome h ≡ Err u.Items
      by (passed c) w e = absurd (not_both 10 0 (line_of c.run) e)
      by (refused n k) w e =
          let t : ◌≡◌ {A = Verdict Bill} (refused n k) (refused 10 0) = cc in
          let more = grows.items prices l.bytes l.limit (length l.first) (length l.second) m.limit (length m.first)
          (length m.second) i j (w ∙ t) in
          told_as h (priced prices m) 10 0 q.answer_is
          (subst (λ (bs : List ℕ). pricing prices bs m.limit (length m.first) (length m.second) ≡ refused 10 0) b more)

pub priced_twice : (prices : Prices) (l m : Lent) (g h : Returned) → l.bytes ≡ m.bytes → Pricing prices l g → Pricing prices m h
    → PricedTwice prices l g m h
priced_twice prices l m g h b p q =
    record {
      earlier = priced_once prices l g p;
      later = priced_once prices m h q;
      grows = λ x i j o f. grow prices l m g h b p q i j x o f;
      stays = λ i j o. stay prices l m g h b p q i j o;
    }
