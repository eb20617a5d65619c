-- The answer of a run: refused, with both buffers zero, or ended as the specification's run does. Assumes nothing.
use Prim.Native.Nat.{ℕ, zero, suc, ◌+◌, ◌-◌, ◌≤◌, ◌<◌}
use mathlib.Core.List.{List, [], ◌∷◌}
use mathlib.Core.Path.{◌≡◌, refl, sym, ap, ◌∙◌, subst}
use native.Mathlib.Omega.{arith}
use lib.ListN.{length, take, drop}
use lib.Seq.{take-nil}
use borrow.Author.Tests.{le-leb, lt-leb}
use Rattle.calculus.specs.Trees.{ml, Term}
use Rattle.calculus.specs.Words.{words, size}
use Rattle.calculus.specs.Kinds.{term}
use Rattle.calculus.specs.Verdicts.{Verdict, refused, passed, and_then}
use Rattle.calculus.specs.Run as spec
use Rattle.calculus.specs.File.{words_of, Recipe, check, run_in, operate}
use Rattle.calculus.proofs.Verdicts.{not_both, passed_injective}
use Rattle.calculus.proofs.Sizes.{tree_length}
use Rattle.calculus.proofs.Checks.{passes_in_order}
use Rattle.std.specs.Prelude.{Result, Ok, Err}
use Rattle.nodes.specs.declared.refusals.Refusal.{Refusal}
use Rattle.nodes.specs.Refusals.{number_of, place_of, refusal}
use Rattle.checker.proofs.Admitting.{term_at, Admits}
use Rattle.ends.specs.declared.Report.{Report}
use Rattle.engine.specs.Buffered.{Settled}
use Rattle.calculus.specs.File.{padded}
use Rattle.engine.specs.Ran.{Reduced}
use Rattle.ends.specs.Results.{line_of, told}
use Rattle.engine.specs.Answered.{Answered, Begun}

-- A refusal, with both buffers all zero.
pub answered_refused : {r : Refusal} {first second first' second' : List ℕ} → Settled [] first second first' second'
    → Answered (refusal r) (Err r) first second first' second'
answered_refused s = record { answer_is = refl; first_is = s.first_is; second_is = s.second_is }

answered_as : {v w : Verdict spec.Result} {x : Result Report Refusal} {first second first' second' : List ℕ}
    → v ≡ w → Answered v x first second first' second' → Answered w x first second first' second'
answered_as {x = x} {first = first} {second = second} {first' = first'} {second' = second'} e h =
    subst (λ (u : Verdict spec.Result). Answered u x first second first' second') e h

-- Where the answer is an end the specification's result is that end's; where it is a refusal, the specification refuses so.
pub passed_by : (v : Verdict spec.Result) (x : Report) → passed (told x) ≡ and_then v (λ y. passed (line_of y))
    → (r : spec.Result) × (v ≡ passed r) × (told x ≡ line_of r)
passed_by (refused n p) x q = absurd (not_both n p (told x) (sym q))
passed_by (passed r) x q = (r, refl, passed_injective (told x) (line_of r) q)

pub refused_by_lem : (v : Verdict spec.Result) (r : Refusal) → refusal r ≡ and_then v (λ y. passed (line_of y)) → v ≡ refusal r
refused_by_lem (refused n p) r q = let z : ◌≡◌ {A = Verdict spec.Result} (refused n p) (refusal r) = cc in z
refused_by_lem (passed y) r q = absurd (not_both (number_of r) (place_of r) (line_of y) q)

words_size : (e : Term ml) → length (words e) ≡ size e
words_size e = omega (arith, tree_length (term ml) e [])

part_of : (l : List ℕ) (a e : ℕ) → take (e - a) (drop a l) ≡ drop a (take e l)
part_of l zero e = let z : e - 0 ≡ e = omega arith in ap (λ (n : ℕ). take n l) z
part_of [] (suc a) e = take-nil (e - suc a) ∙ sym (ap (drop (suc a)) (take-nil e))
part_of (w ∷ l) (suc a) zero = let z : 0 - suc a ≡ 0 = omega arith in ap (λ (n : ℕ). take n (drop a l)) z
part_of (w ∷ l) (suc a) (suc e) = let z : suc e - suc a ≡ e - a = omega arith in ap (λ (n : ℕ). take n (drop a l)) z ∙ part_of l a e

-- The run of a recipe: its term's words are over the capacity, or fit.
over : (limit cap : ℕ) (x : Recipe) → cap < size x.1 → refused 8 0 ≡ run_in limit cap x
unfolding run_in
over limit cap x h = rw (lt-leb (size x.1) cap h)

fitting : (limit cap : ℕ) (x : Recipe) → size x.1 ≤ cap → passed (spec.run limit cap spec.uncounted x.1) ≡ run_in limit cap x
unfolding run_in
fitting limit cap x h = rw (le-leb (size x.1) cap h)

-- Refusal 8.
pub begun_refused : {limit : ℕ} {ws first second first' second' : List ℕ} {x : Result Report Refusal}
    → spec.capacity (length first) (length second) < length ws
    → Answered (refused 8 0) x first second first' second' → Begun limit ws x first second first' second'
begun_refused {limit} {ws} {first} {second} h r =
    let cap = spec.capacity (length first) (length second) in
    record { of = λ e τ q g. answered_as (over limit cap (τ, e) (omega (arith, h, ap length q, words_size e))) r }

-- The term's words are copied to the first buffer and reduced there.
pub begun_ended : {limit cap count : ℕ} {ws first second first₁ first' second' : List ℕ} {x : Report}
    → cap ≡ spec.capacity (length first) (length second)
    → count ≡ length ws → count ≤ cap → take count first₁ ≡ ws → length first₁ ≡ length first
    → Reduced limit (spec.capacity (length first₁) (length second)) (take count first₁) x first₁ second first' second'
    → Begun limit ws (Ok x) first second first' second'
begun_ended {limit} {cap} {count} {ws} {first} {second} {first₁} {first'} {second'} {x} c n fits front l r =
    let same : spec.capacity (length first₁) (length second) ≡ spec.capacity (length first) (length second) =
    ap (λ (m : ℕ). spec.capacity m (length second)) l in
    record {
      of = λ e τ q g.
          let d = spec.capacity (length first) (length second) in
          let y = subst (λ (m : ℕ). (told x ≡ line_of (spec.run limit m spec.uncounted e)) × Settled
          (spec.run limit m spec.uncounted e).left first₁ second first' second')
          same (r.of e (front ∙ q) g) in
          answered_as (fitting limit d (τ, e) (omega (arith, ap length q, words_size e, c, n, fits)))
          (record {
            answer_is = ap passed y.0;
            first_is = y.1.first_is ∙ ap (λ (m : ℕ). padded m (spec.run limit d spec.uncounted e).left) l;
            second_is = y.1.second_is;
          });
    }

-- Where the term of a file that was accepted stands in the array.
pub term_within : {bytes all : List ℕ} {types n : ℕ} → Admits bytes all types n → (4 + types ≤ n) × (n ≤ 4096) × (length all ≡ 4096)
term_within m = let o = m.opened in (omega (arith, (term_at o).within, o.count_is), o.few, o.array_is)

-- A file's bytes: refused by the check, or its term begun.
module _ (bytes : List ℕ) (limit : ℕ) {first second first' second' : List ℕ} {x : Result Report Refusal} where
  pub run_refused : (r : Refusal) → check bytes ≡ refusal r → Answered (refusal r) x first second first' second'
      → Answered (operate bytes limit (length first) (length second)) x first second first' second'
  unfolding operate
  run_refused r q h =
      answered_as (ap (λ (v : Verdict Recipe). and_then v (λ y. run_in limit (spec.capacity (length first) (length second)) y)) (sym q)) h

  pub run_begun : {all : List ℕ} {types n : ℕ} → Admits bytes all types n
      → Begun limit (take (n - (4 + types)) (drop (4 + types) all)) x first second first' second'
      → Answered (operate bytes limit (length first) (length second)) x first second first' second'
  unfolding operate
  run_begun {all} {types} {n} m b =
      let e = m.recipe in
      let o = m.opened in
      let i = passes_in_order (words_of bytes) e (sym o.check_is ∙ m.accepted) in
      let w : take (n - (4 + types)) (drop (4 + types) all) ≡ words e.1 = part_of all (4 + types) n
      ∙ ap (drop (4 + types)) o.words_are ∙ ap (λ (k : ℕ). drop (4 + k) (words_of bytes)) o.types_are ∙ i.1.terms_are in
      answered_as (ap (λ (v : Verdict Recipe). and_then v (λ y. run_in limit (spec.capacity (length first) (length second)) y)) (sym m.accepted))
      (b.of e.1 e.0 w (record { ranged = i.1.order.ranged; type = e.0; typed = i.2 }))
