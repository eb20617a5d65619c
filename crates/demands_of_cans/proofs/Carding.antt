-- What `card` promises meets demands 1 and 2, and demand 3's growth of two cards. Assumes nothing.
use Prim.Native.Nat.{ℕ, ◌≤◌}
use mathlib.Core.List.{List, []}
use mathlib.Core.Logic.{◌⊎◌, inl, inr}
use mathlib.Core.Path.{◌≡◌, refl, sym, ap, ◌∙◌, subst}
use native.Mathlib.Omega.{arith}
use lib.ListN.{length, take}
use Rattle.calculus.specs.Trees.{N, list}
use Rattle.std.specs.Prelude.{Result, Ok, Err}
use Rattle.calculus.specs.Verdicts.{Verdict, refused, passed, and_then}
use Rattle.calculus.specs.Run as spec
use Rattle.calculus.specs.File.{padded, first_after}
use Rattle.calculus.proofs.Bounds.{operate_bounded}
use Rattle.calculus.proofs.Endings.{ending}
use Rattle.calculus.proofs.Padding.{padded_none, padded_take}
use Rattle.calculus.proofs.Verdicts.{not_both, passed_injective, refused_injective}
use Rattle.ends.specs.declared.Report.{Report}
use Rattle.ends.specs.Results.{Line, line_of, end_of, told}
use Rattle.engine.specs.Lent.{room}
use Rattle.charges.specs.Prices.{Prices}
use Rattle.charges.specs.Laws.{Within}
use Rattle.charges.specs.declared.Charges.{Charges}
use Rattle.pricing.specs.Pricing.{Bill, pricing}
use Rattle.pricing.specs.Laws as costs
use Rattle.pricing.specs.Laws.{ValueOf, run_of}
use Rattle.pricing.specs.Answered as priced
use Rattle.pricing.specs.Answered.{charges_of, ran, Pricing}
use Rattle.pricing.specs.declared.Unpriced.TheVariants as u
use Rattle.pricing.specs.declared.Unpriced.{Unpriced}
use Rattle.pricing.specs.declared.Priced.{Priced}
use Rattle.pricing.proofs.Laws as costing-laws
use Rattle.pricing.proofs.Laws.{own_run, billed_run, pricing_number}
use Rattle.pricing.proofs.Listing.{lists_once}
use Rattle.layout.specs.Layout as layout
use Rattle.layout.specs.Laws.{Fits, ByColumns}
use Rattle.layout.proofs.Laws.{laws}
use Rattle.card.specs.Carding.{Card, carding}
use Rattle.card.specs.Laws.{card_bytes, Lays, no_card, card_of_lem, refused_14}
use Rattle.card.specs.Refusals.{number_of}
use Rattle.card.specs.Answered as card
use Rattle.card.specs.Answered.{spoken, charges_in, bytes_in, bill_of, text_of, CardLent, CardReturned, carded, Carding}
use Rattle.card.specs.declared.Uncarded.{Uncarded}
use Rattle.card.specs.declared.Uncarded.TheVariants.{Price, Short}
use Rattle.card.specs.declared.Carded.{Carded}
use Rattle.card.proofs.Answering.{tells, refused_by_lem, ended_by}
use Rattle.card.proofs.Laws.{exactly, billed_card, card_grows}
use Rattle.demands_of_cans.specs.Carded as demanded
use Rattle.demands_of_cans.specs.Carded.{outcome, Finishes, as_card, TooShort, Written, CardedOnce, SameCard, CardedTwice}
use Rattle.demands.proofs.Running as running
use Rattle.demands_of_cans.proofs.Costing as costing
use Rattle.demands_of_cans.proofs.Costing.{priced_once, result_is}

-- Every refusal of a card is one of pricing's eleven, or 14.
numbered : (u : Uncarded) → (1 ≤ number_of u) × ((number_of u ≤ 11) ⊎ (number_of u ≡ 14))
numbered (Price u) = let n = costing.numbered u in (n.0, inl n.1)
numbered Short = (omega arith, inr refl)

-- The answer that stands for 14.
short_is : (x : Result Report Uncarded) → spoken x ≡ refused 14 0 → x ≡ Err Short
short_is (Err (Price u)) q = absurd (omega (arith, costing.numbered u, (refused_injective q).0))
short_is (Err Short) q = refl
short_is (Ok x) q = absurd (not_both 14 0 (told x) (sym q))

-- A pricing's answer is told as the card's.
told_as : (p : Result Priced Unpriced) (n : ℕ) → spoken (card.outcome (as_card p n)) ≡ priced.spoken (priced.outcome p)
told_as (Err u) n = refl
told_as (Ok p) n = refl

charged_as : (p : Result Priced Unpriced) (n : ℕ) → charges_in (as_card p n) ≡ priced.charges_in p
charged_as (Err u) n = refl
charged_as (Ok p) n = refl

not_14 : (p : Result Priced Unpriced) → priced.spoken (priced.outcome p) ≡ refused 14 0 → ⊥
not_14 (Err u) q = omega (arith, costing.numbered u, (refused_injective q).0)
not_14 (Ok p) q = not_both 14 0 (told p.report) (sym q)

module _ (prices : Prices) (l : CardLent) where
  abbrev bill_of_lem : Verdict Bill
  bill_of_lem = priced.priced prices l.run

  abbrev verdict : Verdict Card
  verdict = carded prices l

  lays : (b : Bill) → bill_of_lem ≡ passed b → Lays b (length l.card) verdict
  lays b q = let r = l.run in exactly.lays prices r.bytes r.limit (length r.first) (length r.second) (length l.card) b q

  refuses : (n p : ℕ) → bill_of_lem ≡ refused n p → verdict ≡ refused n p
  refuses n p q = let r = l.run in exactly.refuses prices r.bytes r.limit (length r.first) (length r.second) (length l.card) n p q

  -- Its bill is pricing's, unless it is 14.
  data Owns : Type 0 where
    same : bill_of verdict ≡ bill_of_lem → Owns
    short : verdict ≡ refused 14 0 → Owns

  owns : Owns
  owns = by bill_of_lem refl
    where
      of_lays : (b : Bill) → bill_of_lem ≡ passed b → (v : Verdict Card) → verdict ≡ v → Lays b (length l.card) v → Owns
      of_lays b q v e (no_card n) = same (ap bill_of e ∙ sym q)
      of_lays b q v e (card_of_lem ns y f k) = same (ap bill_of e ∙ sym q)
      of_lays b q v e (refused_14 ns y f k) = short e

      by : (v : Verdict Bill) → bill_of_lem ≡ v → Owns
      by (refused n p) q = same (ap bill_of (refuses n p q) ∙ sym q)
      by (passed b) q = of_lays b q verdict refl (lays b q)

  module _ (g : CardReturned) (h : Carding prices l g) where
    -- "a priced run with one buffer more".
    as_pricing : (p : Result Priced Unpriced) (n : ℕ) → g.answer ≡ as_card p n → Pricing prices l.run (priced.returned p g.first g.second)
    as_pricing p n q = by owns
      where
        said : priced.spoken (priced.outcome p) ≡ and_then (ran (bill_of verdict)) (λ r. passed (line_of r))
        said = sym (told_as p n) ∙ sym (ap (λ (a : Result Carded Uncarded). spoken (card.outcome a)) q) ∙ h.answer_is

        by : Owns → Pricing prices l.run (priced.returned p g.first g.second)
        by (same e) =
            record {
              answer_is = said ∙ ap (λ (y : Verdict Bill). and_then (ran y) (λ r. passed (line_of r))) e;
              charges_are = sym (charged_as p n) ∙ sym (ap charges_in q) ∙ h.charges_are ∙ ap charges_of e;
              first_is = h.first_is ∙ ap (λ (y : Verdict Bill). first_after (length l.run.first) (ran y)) e;
              second_is = h.second_is;
            }
        by (short e) = absurd (not_14 p (said ∙ ap (λ (v : Verdict Card). and_then (ran (bill_of v)) (λ r. passed (line_of r))) e))

    -- Demand 1.
    finish : (x : Result Report Uncarded) → outcome g ≡ x → Finishes l g
    finish (Ok x) q = demanded.ends x q
    finish (Err u) q =
        let e = refused_by_lem prices l g h u q in
        let n = numbered u in
        demanded.refuses u q n.0 n.1
        (h.charges_are ∙ ap (λ (v : Verdict Card). charges_of (bill_of v)) e)
        (h.bytes_are ∙ ap (λ (v : Verdict Card). length (text_of v)) e)
        (h.first_is ∙ ap (λ (v : Verdict Card). first_after (length l.run.first) (ran (bill_of v))) e ∙ sym (padded_none (length l.run.first)))
        (h.second_is ∙ sym (padded_none (length l.run.second)))
        (h.card_is ∙ ap (λ (v : Verdict Card). padded (length l.card) (text_of v)) e ∙ sym (padded_none (length l.card)))

    -- Refusal 14: from its answer, and to it.
    short_of : outcome g ≡ Err Short → Within prices × TooShort l
    short_of q = by bill_of_lem refl
      where
        e : verdict ≡ refused 14 0
        e = refused_by_lem prices l g h Short q

        of_lays : (b : Bill) → bill_of_lem ≡ passed b → (v : Verdict Card) → v ≡ refused 14 0 → Lays b (length l.card) v → Within prices × TooShort l
        of_lays b w v z (no_card n) = absurd (not_both 14 0 _ (sym z))
        of_lays b w v z (card_of_lem ns y f k) = absurd (not_both 14 0 _ (sym z))
        of_lays b w v z (refused_14 ns y f k) =
            let i = billed_run prices l.run.bytes l.run.limit (length l.run.first) (length l.run.second) b w in
            let x = ending l.run.limit (room l.run) i.0 (list N) i.2.typed in
            let value = subst (λ (z : spec.Result). ValueOf z ns) (i.4 ∙ result_is (list N) i.2.typed x) y in
            (i.1, (i.0, i.2, i.3, x, ns, value, f.few, k))

        by : (v : Verdict Bill) → bill_of_lem ≡ v → Within prices × TooShort l
        by (refused n p) w =
            let m = pricing_number prices l.run.bytes l.run.limit (length l.run.first) (length l.run.second) n p w in
            absurd (omega (arith, m, (refused_injective (sym (refuses n p w) ∙ e)).0))
        by (passed b) w = of_lays b w verdict e (lays b w)

    -- The items of a result are one list.
    one_list : {x y : spec.Result} (ns ms : List ℕ) → x ≡ y → ValueOf x ns → ValueOf y ms → ns ≡ ms
    one_list ns ms q v w = lists_once ns ms (sym v.is ∙ ap (λ (z : spec.Result). z.left) q ∙ w.is)

    to_short : Within prices → TooShort l → outcome g ≡ Err Short
    to_short w (e, a, s, x, ns, v, few, k) =
        by bill_of_lem refl
        ((costing-laws.exactly).gives prices l.run.bytes l.run.limit (length l.run.first) (length l.run.second) (run_of w e a s))
      where
        r : spec.Result
        r = spec.run l.run.limit (room l.run) spec.uncounted e

        one : r ≡ x.result
        one = result_is (list N) a.typed x

        valued : r.end ≡ spec.valued
        valued = ap (λ (z : spec.Result). z.end) one ∙ v.ends

        of_lays : (b : Bill) → b.run ≡ r → (y : Verdict Card) → verdict ≡ y → Lays b (length l.card) y → outcome g ≡ Err Short
        of_lays b q y z (no_card n) = absurd (n (ap (λ (t : spec.Result). t.end) q ∙ valued))
        of_lays b q y z (card_of_lem ms i f j) = absurd (omega (arith, k, j, ap length (one_list ms ns (q ∙ one) i v)))
        of_lays b q y z (refused_14 ms i f j) = short_is (outcome g) (tells prices l g h (refused 14 0) z)

        by : (y : Verdict Bill) → bill_of_lem ≡ y → costs.Costs prices r y → outcome g ≡ Err Short
        by y z (costs.nothing n) = absurd (n valued)
        by y z (costs.refused_10 ms i n) = absurd (omega (arith, few, n, ap length (one_list ms ns one i v)))
        by y z (costs.charges_of_lem ms i n) = of_lays _ refl verdict refl (lays _ z)

    -- The card's buffer.
    module _ (x : Report) (q : outcome g ≡ Ok x) where
      abbrev made : Card
      made = (ended_by prices l g h x q).0

      made_is : verdict ≡ passed made
      made_is = (ended_by prices l g h x q).1

      ends_as : end_of x.end ≡ made.bill.run.end
      ends_as = ap (λ (z : Line). z.end) (ended_by prices l g h x q).2

      bill_is : bill_of_lem ≡ passed made.bill
      bill_is =
          (billed_card prices l.run.bytes l.run.limit (length l.run.first) (length l.run.second) (length l.card) made made_is).0

      charges_are : charges_in g.answer ≡ record { charge = made.bill.charges; total = made.bill.total }
      charges_are = h.charges_are ∙ ap (λ (v : Verdict Card). charges_of (bill_of v)) made_is

      words_left : take x.left g.first ≡ made.bill.run.left
      words_left =
          let b = operate_bounded l.run.bytes l.run.limit (length l.run.first) (length l.run.second) made.bill.run
          (own_run.own prices l.run.bytes l.run.limit (length l.run.first) (length l.run.second) made.bill bill_is) in
          let first = h.first_is ∙ ap (λ (v : Verdict Card). first_after (length l.run.first) (ran (bill_of v))) made_is in
          ap (take x.left) first
          ∙ padded_take (length l.run.first) x.left made.bill.run.left (omega (arith, b.0))
          (ap (λ (z : Line). z.left) (ended_by prices l g h x q).2)

      module _ (text : List ℕ) (t : made.text ≡ text) where
        bytes_are : bytes_in g.answer ≡ length text
        bytes_are = h.bytes_are ∙ ap (λ (v : Verdict Card). length (text_of v)) made_is ∙ ap length t

        card_is : g.card ≡ padded (length l.card) text
        card_is = h.card_is ∙ ap (λ (v : Verdict Card). padded (length l.card) (text_of v)) made_is ∙ ap (padded (length l.card)) t

      by_columns : (ns charges : List ℕ) (total : ℕ) → Fits ns charges total → made.text ≡ layout.card ns charges total
          → card_bytes ns ≤ length l.card → ByColumns ns charges total (take (bytes_in g.answer) g.card)
      by_columns ns charges total f t k =
          let text = layout.card ns charges total in
          let reads = laws.reads ns charges total f in
          let is : take (bytes_in g.answer) g.card ≡ text =
          ap (take (bytes_in g.answer)) (card_is text t)
          ∙ padded_take (length l.card) (bytes_in g.answer) text (omega (arith, reads.long, k)) (bytes_are text t) in
          subst (ByColumns ns charges total) (sym is) reads

      written_by_lem : (v : Verdict Card) → v ≡ passed made → Lays made.bill (length l.card) v → Written l g x
      written_by_lem v e (no_card n) =
          let none : made.text ≡ [] = sym (ap (λ (c : Card). c.text) (passed_injective _ made e)) in
          demanded.nothing (λ z. n (sym ends_as ∙ z)) (bytes_are [] none) (card_is [] none ∙ sym (padded_none (length l.card)))
      written_by_lem v e (card_of_lem ns y f k) =
          let t : made.text ≡ layout.card ns made.bill.charges made.bill.total =
          sym (ap (λ (c : Card). c.text) (passed_injective _ made e)) in
          let text-by =
          ap (λ (c : Charges). layout.card ns c.charge c.total) (sym charges_are) in
          demanded.card_of_lem ns (ends_as ∙ y.ends) (words_left ∙ y.is)
          (bytes_are _ t ∙ (laws.reads ns made.bill.charges made.bill.total f).long)
          (card_is _ (t ∙ text-by))
          (subst (λ (c : Charges). ByColumns ns c.charge c.total (take (bytes_in g.answer) g.card)) (sym charges_are)
          (by_columns ns made.bill.charges made.bill.total f t k))
      written_by_lem v e (refused_14 ns y f k) = absurd (not_both 14 0 made e)

      written : Written l g x
      written = written_by_lem verdict made_is (lays made.bill bill_is)

    pub carded_once : CardedOnce prices l g
    carded_once =
        record {
          finishes = finish (outcome g) refl;
          fourteen = (short_of, λ y. to_short y.0 y.1);
          prices_as = λ p n q. priced_once prices l.run (priced.returned p g.first g.second) (as_pricing p n q);
          written = written;
        }

-- The answer that stands for 10.
items_is : (x : Result Report Uncarded) → spoken x ≡ refused 10 0 → x ≡ Err (Price u.Items)
items_is (Err (Price u.Prices)) q = absurd (omega (arith, (refused_injective q).0))
items_is (Err (Price (u.Recipe r))) q = absurd (omega (arith, (running.numbered r).1, (refused_injective q).0))
items_is (Err (Price u.Declared)) q = absurd (omega (arith, (refused_injective q).0))
items_is (Err (Price u.Items)) q = refl
items_is (Err Short) q = absurd (omega (arith, (refused_injective q).0))
items_is (Ok x) q = absurd (not_both 10 0 (told x) (sym q))

-- More than nine items are refused by pricing.
items_of : (prices : Prices) (l : CardLent) → verdict prices l ≡ refused 10 0 → bill_of_lem prices l ≡ refused 10 0
items_of prices l e = by (bill_of_lem prices l) refl
  where
    of_lays : (b : Bill) (v : Verdict Card) → v ≡ refused 10 0 → Lays b (length l.card) v → ⊥
    of_lays b v z (no_card n) = not_both 10 0 _ (sym z)
    of_lays b v z (card_of_lem ns y f k) = not_both 10 0 _ (sym z)
    of_lays b v z (refused_14 ns y f k) = omega (arith, (refused_injective z).0)

    by : (v : Verdict Bill) → bill_of_lem prices l ≡ v → v ≡ refused 10 0
    by (refused n p) w = let i = refused_injective (sym (refuses prices l n p w) ∙ e) in rw (i.0, i.1)
    by (passed b) w = absurd (of_lays b (verdict prices l) e (lays prices l b w))

-- The bytes of a card that was made, as they stand in its buffer.
text_in : (prices : Prices) (l : CardLent) (g : CardReturned) (h : Carding prices l g) (x : Report) (q : outcome g ≡ Ok x)
    → take (bytes_in g.answer) g.card ≡ (made prices l g h x q).text
text_in prices l g h x q =
    let c = made prices l g h x q in
    let y = billed_card prices l.run.bytes l.run.limit (length l.run.first) (length l.run.second) (length l.card) c
    (made_is prices l g h x q) in
    ap (take (bytes_in g.answer)) (card_is prices l g h x q c.text refl)
    ∙ padded_take (length l.card) (bytes_in g.answer) c.text (omega (arith, y.1, ap length y.2)) (bytes_are prices l g h x q c.text refl)

-- Two cards of one file, at the same prices.
module _ (prices : Prices) (l m : CardLent) (g h : CardReturned) (b : l.run.bytes ≡ m.run.bytes) (p : Carding prices l g) (q : Carding prices m h)
    (i : l.run.limit ≤ m.run.limit) (j : room l.run ≤ room m.run) where
  later_is : (x : Report) (o : outcome g ≡ Ok x) → length l.card ≤ length m.card → spec.Final (end_of x.end)
      → verdict prices m ≡ passed (made prices l g p x o)
  later_is x o r f =
      let c = made prices l g p x o in
      let more = card_grows.same prices l.run.bytes l.run.limit (length l.run.first) (length l.run.second) (length l.card)
      m.run.limit (length m.run.first) (length m.run.second) (length m.card) i j r c (made_is prices l g p x o)
      (subst spec.Final (ends_as prices l g p x o) f) in
      subst
      (λ (bs : List ℕ). carding prices bs m.run.limit (length m.run.first) (length m.run.second) (length m.card) ≡ passed c)
      b more

  later_ends : (c : Card) → verdict prices m ≡ passed c → (z : Report) × (outcome h ≡ Ok z)
  later_ends c e = by (outcome h) refl
    where
      by : (y : Result Report Uncarded) → outcome h ≡ y → (z : Report) × (outcome h ≡ Ok z)
      by (Err u) w = absurd (not_both _ _ c (sym (refused_by_lem prices m h q u w) ∙ e))
      by (Ok z) w = (z, w)

  grow : (x : Report) → length l.card ≤ length m.card → outcome g ≡ Ok x → spec.Final (end_of x.end) → SameCard x g h
  grow x r o f =
      let e = later_is x o r f in
      let z = later_ends (made prices l g p x o) e in
      let same : made prices m h q z.0 z.1 ≡ made prices l g p x o =
      passed_injective _ _ (sym (made_is prices m h q z.0 z.1) ∙ e) in
      let numbers : told z.0 ≡ told x =
      (ended_by prices m h q z.0 z.1).2 ∙ ap (λ (c : Card). line_of c.bill.run) same ∙ sym (ended_by prices l g p x o).2 in
      let bytes : bytes_in h.answer ≡ bytes_in g.answer =
      bytes_are prices m h q z.0 z.1 _ refl ∙ ap (λ (c : Card). length c.text) same ∙ sym (bytes_are prices l g p x o _ refl) in
      record {
        report = z.0;
        ended = z.1;
        numbers = numbers;
        charges = charges_are prices m h q z.0 z.1
            ∙ ap (λ (c : Card). record { charge = c.bill.charges; total = c.bill.total }) same ∙ sym (charges_are prices l g p x o);
        bytes = bytes;
        words = ap (λ (n : ℕ). take n h.first) (sym (ap (λ (y : Line). y.left) numbers)) ∙ words_left prices m h q z.0 z.1
            ∙ ap (λ (c : Card). c.bill.run.left) same ∙ sym (words_left prices l g p x o);
        text = ap (λ (n : ℕ). take n h.card) (sym bytes) ∙ text_in prices m h q z.0 z.1 ∙ ap (λ (c : Card). c.text) same
            ∙ sym (text_in prices l g p x o);
      }

  stay : outcome g ≡ Err (Price u.Items) → outcome h ≡ Err (Price u.Items)
  stay o =
      let first = items_of prices l (refused_by_lem prices l g p (Price u.Items) o) in
      let more = (costing-laws.grows).items prices l.run.bytes l.run.limit (length l.run.first) (length l.run.second)
      m.run.limit (length m.run.first) (length m.run.second) i j first in
      let later = subst
      (λ (bs : List ℕ). pricing prices bs m.run.limit (length m.run.first) (length m.run.second) ≡ refused 10 0)
      b more in
      items_is (outcome h) (tells prices m h q (refused 10 0) (refuses prices m 10 0 later))

  still : length m.card ≤ length l.card → outcome g ≡ Err Short → outcome h ≡ Err Short
  still r o =
      let more = card_grows.short prices l.run.bytes l.run.limit (length l.run.first) (length l.run.second) (length l.card)
      m.run.limit (length m.run.first) (length m.run.second) (length m.card) i j r (refused_by_lem prices l g p Short o) in
      let later = subst
      (λ (bs : List ℕ). carding prices bs m.run.limit (length m.run.first) (length m.run.second) (length m.card) ≡ refused 14 0)
      b more in
      short_is (outcome h) (tells prices m h q (refused 14 0) later)

pub carded_twice : (prices : Prices) (l m : CardLent) (g h : CardReturned) → l.run.bytes ≡ m.run.bytes → Carding prices l g → Carding prices m h
    → CardedTwice prices l g m h
carded_twice prices l m g h b p q =
    record {
      earlier = carded_once prices l g p;
      later = carded_once prices m h q;
      grows = λ x i j r o f. grow prices l m g h b p q i j x r o f;
      stays = λ i j o. stay prices l m g h b p q i j o;
      still_short = λ i j r o. still prices l m g h b p q i j r o;
    }
