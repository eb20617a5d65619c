-- The price of a run: refused, without a charge, or charged as the specification says. Assumes nothing.
use Prim.Native.Nat.{ℕ, ◌+◌, ◌-◌, ◌≤◌, ◌<◌}
use mathlib.Core.Bool.{Bool, true, false, false≢true}
use mathlib.Core.List.{List, [], ◌∷◌, ◌++◌}
use mathlib.Core.Path.{◌≡◌, refl, sym, ap, ◌∙◌, subst}
use native.Mathlib.Omega.{arith}
use lib.Dec.{leb}
use lib.ListN.{length, take, drop, replicate, length-drop}
use lib.Seq.{take_all, length-take-le}
use borrow.Author.Rules.{rules, part_to_end}
use borrow.Author.Tests.{le-leb, lt-leb, leb-true}
use Rattle.calculus.specs.Trees.{Ty, N, list, ml, Term}
use Rattle.calculus.specs.Words.{put_ty, words_ty, size}
use Rattle.std.specs.Prelude.{Result, Ok, Err}
use Rattle.std.specs.Array.{AllOfLen}
use Rattle.calculus.specs.Verdicts.{Verdict, refused, passed, and_then}
use Rattle.calculus.specs.Inference.{same_type}
use Rattle.calculus.specs.Run as runs
use Rattle.calculus.specs.Run.{valued, spent, error, full, uncounted, run, capacity}
use Rattle.calculus.specs.File.{words_of, check, run_in, padded, left_by}
use Rattle.calculus.proofs.Checks.{passes_in_order}
use Rattle.calculus.proofs.Inference.{same_iff}
use Rattle.calculus.proofs.Comparison.{equal_by_words}
use Rattle.calculus.proofs.Verdicts.{not_both, unless_iff, passed_injective, refused_injective}
use Rattle.calculus.proofs.Padding.{padded_take}
use Rattle.checker.proofs.Admitting.{Admits}
use Rattle.std.proofs.lemmas.List.FromFn.{fill_by_all}
use Rattle.nodes.specs.declared.refusals.Refusal.{Refusal}
use Rattle.nodes.specs.Refusals as nodes
use Rattle.ends.specs.declared.Report.{Report}
use Rattle.engine.specs.Lent.{Lent, room}
use Rattle.engine.specs.Answered.{Begun}
use Rattle.engine.specs.Ran.{Good}
use Rattle.ends.specs.Results.{Line, line_of, end_of, told}
use Rattle.engine.proofs.Answering.{passed_by, refused_by_lem, term_within}
use Rattle.charges.specs.Prices.{Prices, charges, all_within}
use Rattle.charges.specs.Charged.{charged}
use Rattle.charges.specs.declared.Charges.{Charges}
use Rattle.charges.proofs.Pricing.{charges_zeros}
use Rattle.pricing.specs.Items.{items_in}
use Rattle.pricing.specs.Pricing.{Bill, charged_for, uncharged, bill, billed, pricing}
use Rattle.pricing.specs.Refusals.{refusal}
use Rattle.pricing.specs.Answered as spec
use Rattle.pricing.specs.Answered.{Answered, Pricing, priced}
use Rattle.pricing.specs.Parts.{Declares, Says, Left, Costs, Reads, TermOf, RecipeOf, Recipes, Bills}
use Rattle.pricing.specs.declared.items.Items.{Items}
use Rattle.pricing.specs.declared.Priced.{Priced}
use Rattle.pricing.specs.declared.Unpriced.{Unpriced}
use Rattle.pricing.specs.declared.Unpriced.TheVariants as u
use Rattle.pricing.proofs.Listing.{items_in_lem}
use Rattle.pricing.proofs.Valued.{Listed, run_listed, run_few}

words_are : words_ty (list N) ≡ 3 ∷ 1 ∷ []
unfolding put_ty
words_are = refl

-- The declared type is {N} exactly if its words are.
pub declares : {ws : List ℕ} {r : Bool} → (r ≡ true → ws ≡ 3 ∷ 1 ∷ []) → (ws ≡ 3 ∷ 1 ∷ [] → r ≡ true) → Declares ws r
declares {ws} {r} f g = record { of = λ τ e. by τ e r (same_type ml τ (list N)) refl refl }
  where
    by : (τ : Ty) → ws ≡ words_ty τ → (b s : Bool) → r ≡ b → same_type ml τ (list N) ≡ s → r ≡ same_type ml τ (list N)
    by τ e true s p q = p ∙ sym ((equal_by_words.same τ (list N)).1 (sym e ∙ f p ∙ sym words_are))
    by τ e false false p q = p ∙ sym q
    by τ e false true p q = absurd (false≢true (sym p ∙ g (e ∙ (equal_by_words.same τ (list N)).0 q ∙ words_are)))

-- The same verdict, said in another way; buffers of the same lengths.
says_as : {v w : Verdict Bill} {x : Result Priced Unpriced} → v ≡ w → Says v x → Says w x
says_as {x = x} e h = subst (λ (y : Verdict Bill). Says y x) e h

answered_as : {v w : Verdict Bill} {x : Result Priced Unpriced} {first second first' second' : List ℕ} → v ≡ w
    → Answered v x first second first' second' → Answered w x first second first' second'
answered_as {x = x} {first = first} {second = second} {first' = first'} {second' = second'} e h =
    subst (λ (y : Verdict Bill). Answered y x first second first' second') e h

answered_for : {v : Verdict Bill} {x : Result Priced Unpriced} {first second first₁ second₁ first' second' : List ℕ}
    → length first₁ ≡ length first → length second₁ ≡ length second → Answered v x first₁ second₁ first' second'
    → Answered v x first second first' second'
answered_for f s h =
    record { answer_is = h.answer_is; charges_are = h.charges_are; first_is = h.first_is ∙ rw f; second_is = h.second_is ∙ rw s }

-- Where the outcome is an end there is a bill, and its run's result is that end's.
pub billed_by : (v : Verdict Bill) (x : Report) → passed (told x) ≡ and_then (spec.ran v) (λ r. passed (line_of r))
    → (b : Bill) × (v ≡ passed b) × (told x ≡ line_of b.run)
billed_by (refused n p) x q = absurd (not_both n p (told x) (sym q))
billed_by (passed b) x q = (b, refl, passed_injective (told x) (line_of b.run) q)

-- Where the answer is a refusal, the verdict is that refusal.
refused_by : (v : Verdict Bill) {why : Unpriced} → Says v (Err why) → v ≡ refusal why
refused_by (refused n p) s = let i = refused_injective s.answer_is in rw (i.0, i.1)
refused_by (passed b) s = absurd (not_both _ _ (line_of b.run) s.answer_is)

padded_charges : (prices : Prices) (ns : List ℕ) → length ns ≤ 9 → charges prices (padded 9 ns) ≡ charges prices ns
unfolding padded
padded_charges prices ns few =
    ap (λ (l : List ℕ). charges prices (l ++ replicate (9 - length ns) 0)) (take_all 9 ns few) ∙ charges_zeros prices ns (9 - length ns)

-- A report's end is its run's.
end_is : {x : Report} {left : List ℕ} {r : runs.Result} → Left x left r → end_of x.end ≡ r.end
end_is l = ap (λ (z : Line). z.end) l.told_is

-- At a value, with the items that were read.
module _ {x : Report} {left : List ℕ} {found : Items} (reads : Reads left found) (v : end_of x.end ≡ valued) where
  read_is : (r : runs.Result) → Left x left r → (ns : List ℕ) × (items_in r.left ≡ ns) × (found.count ≡ length ns) × (found.pulses ≡ padded 9 ns)
  read_is r l =
      let y = l.value_is (sym (end_is l) ∙ v) in
      let g = reads.of y.0 (l.left_is ∙ y.1) in
      (y.0, ap items_in y.1 ∙ items_in_lem y.0 y.2, g.0, g.1)

  pub too_many : {prices : Prices} → 9 < found.count → Costs prices x left (Err u.Items)
  too_many {prices} h =
      record {
        of = λ r l.
            let y = read_is r l in
            let ten : bill prices r valued ≡ refused 10 0 = rw (y.1, lt-leb (length y.0) 9 (omega (arith, h, y.2))) in
            says_as (sym (ap (bill prices r) (sym (end_is l) ∙ v) ∙ ten)) record { answer_is = refl; charges_are = refl };
      }

  pub in_full : {prices : Prices} {c : Charges} → c ≡ charged prices found.pulses → found.count ≤ 9
      → Costs prices x left (Ok (record { report = x; charges = c }))
  in_full {prices} e h =
      record {
        of = λ r l.
            let y = read_is r l in
            let ns = y.0 in
            let few : length ns ≤ 9 = omega (arith, h, y.2) in
            let verdict : bill prices r valued ≡ passed (charged_for prices r ns) = rw (y.1, le-leb (length ns) 9 few) in
            let same : charges prices found.pulses ≡ charges prices ns = ap (charges prices) y.3 ∙ padded_charges prices ns few in
            says_as (sym (ap (bill prices r) (sym (end_is l) ∙ v) ∙ verdict))
            record { answer_is = ap passed l.told_is; charges_are = e ∙ rw same };
      }

-- The default charges are those of a run without a bill.
pub default_charges : (x : Charges) → AllOfLen (λ (n : ℕ). n ≡ 0) x.charge 9 × (x.total ≡ 0) → x ≡ spec.no_charges
default_charges x e =
    let zeros : x.charge ≡ replicate 9 0 = fill_by_all (λ i. 0) x.charge 9 0 e.0.long (λ k h. e.0.at k 0 h) in
    search rules

-- At another end.
no_bill : (prices : Prices) (r : runs.Result) (e : runs.End) → ¬ (e ≡ valued) → bill prices r e ≡ passed (uncharged r)
no_bill prices r valued n = absurd (n refl)
no_bill prices r spent n = refl
no_bill prices r error n = refl
no_bill prices r full n = refl

pub no_value : {prices : Prices} {x : Report} {left : List ℕ} → ¬ (end_of x.end ≡ valued)
    → Costs prices x left (Ok (record { report = x; charges = spec.no_charges }))
no_value {prices} n =
    record {
      of = λ r l. says_as (sym (no_bill prices r r.end (λ h. n (end_is l ∙ h)))) record { answer_is = ap passed l.told_is; charges_are = refl };
    }

-- What a bill tells of the run is the run's own.
own : (prices : Prices) (r : runs.Result) (e : runs.End) (b : Bill) → bill prices r e ≡ passed b → b.run ≡ r
own prices r valued b q =
    sym
    (ap (λ (y : Bill). y.run)
    (passed_injective _ b ((unless_iff (leb (length (items_in r.left)) 9) 10 0 (passed (charged_for prices r (items_in r.left))) b).0 q).1))
own prices r spent b q = sym (ap (λ (y : Bill). y.run) (passed_injective _ b q))
own prices r error b q = sym (ap (λ (y : Bill). y.run) (passed_injective _ b q))
own prices r full b q = sym (ap (λ (y : Bill). y.run) (passed_injective _ b q))

-- A run that begins: refused, or ended with a result.
fits : (limit cap : ℕ) (e : Term ml) (r : runs.Result) → run_in limit cap (list N, e) ≡ passed r → (size e ≤ cap) × (run limit cap uncounted e ≡ r)
unfolding run_in
fits limit cap e r q =
    let y = (unless_iff (leb (size e) cap) 8 0 (passed (run limit cap uncounted e)) r).0 q in
    (leb-true (size e) cap y.0, passed_injective _ r y.1)

good : {ws : List ℕ} {e : Term ml} → TermOf (list N) ws e → Good e
good t = record { ranged = t.ranged; type = list N; typed = t.typed }

module _ (limit : ℕ) (ws first second : List ℕ) {first₁ second₁ : List ℕ} {x : Report}
    (b : Begun limit ws (Ok x) first second first₁ second₁) (f : length first₁ ≡ length first) (s : length second₁ ≡ length second) where
  abbrev cap : ℕ
  cap = capacity (length first) (length second)

  result : {e : Term ml} → TermOf (list N) ws e → (r : runs.Result) × (run_in limit cap (list N, e) ≡ passed r) × (told x ≡ line_of r)
  result {e} t = passed_by (run_in limit cap (list N, e)) x (b.of e (list N) t.words_are (good t)).answer_is

  -- The words left stand in the first buffer.
  ran_in : {e : Term ml} (t : TermOf (list N) ws e) → (first₁ ≡ padded (length first) (result t).0.left) × (second₁ ≡ padded (length second) [])
  ran_in {e} t = let y = b.of e (list N) t.words_are (good t) in (y.first_is ∙ rw (result t).1, y.second_is)

  few : {e : Term ml} (t : TermOf (list N) ws e) → (x.left ≡ length (result t).0.left) × (length (result t).0.left ≤ cap)
  few {e} t =
      let r = result t in
      let y = fits limit cap e r.0 r.1 in
      (ap (λ (z : Line). z.left) r.2, subst (λ (z : runs.Result). length z.left ≤ cap) y.1 (run_few limit cap e y.0))

  pub short : {e : Term ml} → TermOf (list N) ws e → (x.left ≤ 16384) × (x.left ≤ length first₁)
  short t = let n = few t in (omega (arith, n), omega (arith, n, f))

  left : {e : Term ml} (t : TermOf (list N) ws e) → Left x (take x.left first₁) (result t).0
  left {e} t =
      let r = result t in
      let same = (fits limit cap e r.0 r.1).1 in
      let n = few t in
      record {
        told_is = r.2;
        left_is = ap (take x.left) (ran_in t).0 ∙ padded_take (length first) x.left r.0.left (omega (arith, n)) n.0;
        value_is = λ v. subst (λ (z : runs.Result). Listed z.left) same
            (run_listed limit cap e t.ranged t.typed (ap (λ (z : runs.Result). z.end) same ∙ v));
      }

  -- With a price, both buffers as the run left them; or refused, with both as the refusal leaves them.
  module _ (prices : Prices) {e : Term ml} (t : TermOf (list N) ws e) where
    abbrev of_run : Verdict Bill
    of_run = and_then (run_in limit cap (list N, e)) (λ r. bill prices r r.end)

    ran_is : of_run ≡ bill prices (result t).0 (result t).0.end
    ran_is = ap (λ (w : Verdict runs.Result). and_then w (λ r. bill prices r r.end)) (result t).1

    ran_priced : {y : Priced} → Costs prices x (take x.left first₁) (Ok y) → Answered of_run (Ok y) first second first₁ second₁
    ran_priced {y} g =
        let r = (result t).0 in
        let s = g.of r (left t) in
        answered_as (sym ran_is)
        record {
          answer_is = s.answer_is;
          charges_are = s.charges_are;
          first_is = (ran_in t).0 ∙ ap (padded (length first)) (left_own r s);
          second_is = (ran_in t).1;
        }
      where
        left_own : (r : runs.Result) → Says (bill prices r r.end) (Ok y) → r.left ≡ left_by (spec.ran (bill prices r r.end))
        left_own r s =
            let b = billed_by (bill prices r r.end) y.report s.answer_is in
            ap (λ (z : runs.Result). z.left) (sym (own prices r r.end b.0 b.1)) ∙ ap (λ (w : Verdict Bill). left_by (spec.ran w)) (sym b.1)

    ran_refused : {why : Unpriced} {p : Result Priced Unpriced} {first' second' : List ℕ} → Costs prices x (take x.left first₁) (Err why)
        → Answered (refusal why) p first₁ second₁ first' second' → Answered of_run p first second first' second'
    ran_refused g a = answered_as (sym (ran_is ∙ refused_by _ (g.of (result t).0 (left t)))) (answered_for f s a)

-- Refusal 8.
run_refused : (prices : Prices) (limit : ℕ) (ws first second : List ℕ) {first₁ second₁ : List ℕ} {r : Refusal}
    → Begun limit ws (Err r) first second first₁ second₁ → (e : Term ml) → TermOf (list N) ws e
    → Answered (and_then (run_in limit (capacity (length first) (length second)) (list N, e)) (λ r. bill prices r r.end)) (Err (u.Recipe r))
    first second first₁ second₁
run_refused prices limit ws first second {r = r} b e t =
    let y = b.of e (list N) t.words_are (good t) in
    let v = refused_by_lem (run_in limit (capacity (length first) (length second)) (list N, e)) r y.answer_is in
    answered_as (sym (ap (λ (w : Verdict runs.Result). and_then w (λ r. bill prices r r.end)) v))
    record { answer_is = refl; charges_are = refl; first_is = y.first_is ∙ rw v; second_is = y.second_is }

-- Refusal 9, or the run: by the declared type.
module _ (prices : Prices) (limit : ℕ) (types terms first second : List ℕ) where
  abbrev of_term : Ty → Term ml → Verdict Bill
  of_term τ e = and_then (run_in limit (capacity (length first) (length second)) (τ, e)) (λ r. bill prices r r.end)

  pub bill_other : {r : Bool} {p : Result Priced Unpriced} {first' second' : List ℕ} → Declares types r → r ≡ false
      → Answered (refusal u.Declared) p first second first' second' → Bills prices limit types terms first second p first' second'
  unfolding billed
  bill_other d f a = record { of = λ τ e i. answered_as (sym (rw (← (d.of τ i.types_are), f))) a }

  module _ {r : Bool} (d : Declares types r) (f : r ≡ true) where
    bill_as : {p : Result Priced Unpriced} {first' second' : List ℕ}
        → ((e : Term ml) → TermOf (list N) terms e → Answered (of_term (list N) e) p first second first' second')
        → Bills prices limit types terms first second p first' second'
    unfolding billed
    bill_as a =
        record {
          of = λ τ e i.
              let t = sym (d.of τ i.types_are) ∙ f in
              let q = (same_iff ml τ (list N)).0 t in
              let is : of_term (list N) e ≡ billed prices limit (capacity (length first) (length second)) (τ, e) =
              sym (rw t (ap (λ (σ : Ty). of_term σ e) q)) in
              answered_as is (a e (subst (λ (σ : Ty). TermOf σ terms e) q i.term_is));
        }

    pub bill_refused : {x : Refusal} {p : Result Priced Unpriced} {first' second' : List ℕ} → Begun limit terms (Err x) first second first' second'
        → p ≡ Err (u.Recipe x) → Bills prices limit types terms first second p first' second'
    bill_refused {x} {first' = first'} {second' = second'} b q =
        bill_as
        (λ e t. subst (λ (y : Result Priced Unpriced). Answered (of_term (list N) e) y first second first' second') (sym q)
        (run_refused prices limit terms first second b e t))

    -- Of a run that ended: with what it costs, or refused for it.
    module _ {x : Report} {first₁ second₁ : List ℕ} (b : Begun limit terms (Ok x) first second first₁ second₁)
        (k : length first₁ ≡ length first) (l : length second₁ ≡ length second) where
      pub bill_run : {y : Priced} → Costs prices x (take x.left first₁) (Ok y) → Bills prices limit types terms first second (Ok y) first₁ second₁
      bill_run g = bill_as (λ e t. ran_priced limit terms first second b k l prices t g)

      pub bill_costly : {why : Unpriced} {p : Result Priced Unpriced} {first' second' : List ℕ} → Costs prices x (take x.left first₁) (Err why)
          → Answered (refusal why) p first₁ second₁ first' second' → Bills prices limit types terms first second p first' second'
      bill_costly g a = bill_as (λ e t. ran_refused limit terms first second b k l prices t g a)

-- A recipe of type {N}.
pub of_numbers : {types terms : List ℕ} {r : Bool} (m : Recipes types terms) → Declares types r → r ≡ true → TermOf (list N) terms m.term
of_numbers {terms = terms} m d f =
    let q = (same_iff ml m.declared (list N)).0 (sym (d.of m.declared m.is.types_are) ∙ f) in
    subst (λ (σ : Ty). TermOf σ terms m.term) q m.is.term_is

-- The recipe of a file that was accepted: the words of its type and of its term, as the code cuts them out.
module _ {bytes all : List ℕ} {types n : ℕ} (m : Admits bytes all types n) where
  abbrev types_in : List ℕ
  types_in = take (4 + types - 4) (drop 4 (take n all))

  abbrev terms_in : List ℕ
  terms_in = take (length (take n all) - (4 + types)) (drop (4 + types) (take n all))

  pub recipe_in : RecipeOf types_in terms_in m.recipe.0 m.recipe.1
  recipe_in =
      let o = m.opened in
      let i = passes_in_order (words_of bytes) m.recipe (sym o.check_is ∙ m.accepted) in
      let own : 4 + types - 4 ≡ types = omega arith in
      record {
        types_are = rw (own, o.words_are, o.types_are) i.1.types_are;
        term_is =
            record {
              words_are = part_to_end (take n all) (4 + types) ∙ rw (o.words_are, o.types_are) i.1.terms_are;
              ranged = i.1.order.ranged;
              typed = i.2;
            };
      }

  pub recipes : Recipes types_in terms_in
  recipes =
      let w = term_within m in
      let l = length-take-le n all (omega (arith, w)) in
      let rest = part_to_end (take n all) (4 + types) in
      record {
        few = omega (arith, w, l, ap length rest, length-drop (4 + types) (take n all));
        declared = m.recipe.0;
        term = m.recipe.1;
        is = recipe_in;
      }

-- The whole operation: refused by the prices or by the check, or billed.
module _ (prices : Prices) (l : Lent) {p : Result Priced Unpriced} {first' second' : List ℕ} where
  pub priced_over : all_within prices ≡ false → Answered (refusal u.Prices) p l.first l.second first' second'
      → Pricing prices l (spec.returned p first' second')
  unfolding pricing
  priced_over w a = answered_as (sym (rw w)) a

  pub priced_refused : (r : Refusal) → all_within prices ≡ true → check l.bytes ≡ nodes.refusal r
      → Answered (refusal (u.Recipe r)) p l.first l.second first' second' → Pricing prices l (spec.returned p first' second')
  unfolding pricing
  priced_refused r w q a = answered_as (sym (rw (w, q))) a

  pub priced_billed : {all : List ℕ} {types n : ℕ} → all_within prices ≡ true → (m : Admits l.bytes all types n)
      → Bills prices l.limit (types_in m) (terms_in m) l.first l.second p first' second'
      → Pricing prices l (spec.returned p first' second')
  unfolding pricing
  priced_billed w m b =
      let is : billed prices l.limit (room l) m.recipe ≡ priced prices l = sym (rw (w, m.accepted)) in
      answered_as is (b.of m.recipe.0 m.recipe.1 (recipe_in m))
