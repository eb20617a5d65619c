-- What `run` promises meets demands 1 and 2, and demand 3 of two runs. Assumes nothing.
use Prim.Native.Nat.{ℕ, ◌≤◌}
use mathlib.Core.Bool.{Bool, true, false}
use mathlib.Core.List.{List, []}
use mathlib.Core.Path.{◌≡◌, refl, sym, ap, ◌∙◌, subst}
use native.Mathlib.Omega.{arith}
use lib.Dec.{leb}
use lib.ListN.{length, take}
use borrow.Author.Tests.{leb-true, leb-false, lt-leb}
use Rattle.calculus.specs.Trees.{Ty, ml, Term}
use Rattle.calculus.specs.Words.{size}
use Rattle.calculus.specs.Verdicts.{Verdict, refused, passed, and_then}
use Rattle.calculus.specs.Run as spec
use Rattle.calculus.specs.Counting.{Counted}
use Rattle.calculus.specs.Endings.{Ending}
use Rattle.calculus.specs.File.{Recipe, check, run_in, operate, padded, left_by}
use Rattle.calculus.specs.Accepted.{Accepted}
use Rattle.calculus.proofs.Verdicts.{not_both, passed_injective, refused_injective}
use Rattle.calculus.proofs.Checks.{check_iff, operate_iff}
use Rattle.calculus.proofs.Bounds.{operate_bounded}
use Rattle.calculus.proofs.Endings.{ends_iff, ending, ends_counted}
use Rattle.calculus.proofs.Refusing.{Numbered, number_in_table}
use Rattle.calculus.proofs.Demands.{demand_3}
use Rattle.nodes.specs.declared.refusals.Refusal.{Refusal}
use Rattle.nodes.specs.declared.refusals.Refusal.TheVariants as r
use Rattle.nodes.specs.Refusals.{number_of, place_of, refusal}
use Rattle.calculus.proofs.Padding.{padded_none, padded_take}
use Rattle.ends.specs.declared.Report.{Report}
use Rattle.std.specs.Prelude.{Result, Ok, Err}
use Rattle.ends.specs.Results.{Line, line_of, end_of, told}
use Rattle.engine.specs.Answered.{spoken, Answered}
use Rattle.engine.proofs.Answering.{passed_by}
use Rattle.demands.specs.Demanded.{Finishes, refuses, ends, Reduces, Fitting, Over, RefusedBy, Exact, Once, Same}
use Rattle.engine.specs.Lent.{Lent, Returned, room}

-- What `run` promises of what it is lent and gives back.
abbrev pub Promised : Lent → Returned → Type 0
Promised l g =
    Answered (operate l.bytes l.limit (length l.first) (length l.second)) g.answer l.first l.second g.first g.second

pub numbered : (x : Refusal) → (1 ≤ number_of x) × (number_of x ≤ 8)
numbered r.Bytes = (omega arith, omega arith)
numbered r.Header = (omega arith, omega arith)
numbered (r.Word p) = (omega arith, omega arith)
numbered (r.Nesting p) = (omega arith, omega arith)
numbered (r.Variable p) = (omega arith, omega arith)
numbered (r.Untyped p) = (omega arith, omega arith)
numbered (r.Mistyped p) = (omega arith, omega arith)
numbered r.Capacity = (omega arith, omega arith)

-- Where the answer is a refusal the specification refuses, so that nothing is left.
refused_left : (v : Verdict spec.Result) (x : Refusal) → refusal x ≡ and_then v (λ y. passed (line_of y)) → left_by v ≡ []
refused_left (refused n p) x q = refl
refused_left (passed y) x q = absurd (not_both (number_of x) (place_of x) (line_of y) q)

finish : (l : Lent) (g : Returned) (a : Result Report Refusal) → g.answer ≡ a → Promised l g → Finishes l g
finish l g (Err x) q h =
    let v = operate l.bytes l.limit (length l.first) (length l.second) in
    let z = refused_left v x (ap spoken (sym q) ∙ h.answer_is) in
    refuses x q (numbered x).0 (numbered x).1
    (h.first_is ∙ ap (padded (length l.first)) z ∙ sym (padded_none (length l.first))) (h.second_is ∙ sym (padded_none (length l.second)))
finish l g (Ok x) q h = ends x q

-- An answer that stands for an end is that end's report.
pub ended_by : (a : Result Report Refusal) (y : Line) → spoken a ≡ passed y → (x : Report) × (a ≡ Ok x) × (told x ≡ y)
ended_by (Err x) y q = absurd (not_both (number_of x) (place_of x) y q)
ended_by (Ok x) y q = (x, refl, passed_injective (told x) y q)

reduce : (l : Lent) (g : Returned) (e : Term ml) (x : Ending l.limit (room l) e) → Counted e x.result.end x.result.made
    → operate l.bytes l.limit (length l.first) (length l.second) ≡ passed x.result → Promised l g → Reduces l g e
reduce l g e x c o h =
    let b = ended_by g.answer (line_of x.result) (h.answer_is ∙ ap (λ (v : Verdict spec.Result). and_then v (λ y. passed (line_of y))) o) in
    record {
      by_rules = x;
      report = b.0;
      ended = b.1;
      numbers = b.2;
      counts = subst (λ (y : Line). Counted e y.end y.made) (sym b.2) c;
      first = h.first_is ∙ ap (λ (v : Verdict spec.Result). padded (length l.first) (left_by v)) o;
      second = h.second_is;
    }

-- A run's first words are those that it leaves.
pub front : (l : Lent) (g : Returned) (r : spec.Result) → operate l.bytes l.limit (length l.first) (length l.second) ≡ passed r
    → Promised l g → take (length r.left) g.first ≡ r.left
front l g r o h =
    let n = (operate_bounded l.bytes l.limit (length l.first) (length l.second) r o).0 in
    ap (take (length r.left)) (h.first_is ∙ ap (λ (v : Verdict spec.Result). padded (length l.first) (left_by v)) o)
    ∙ padded_take (length l.first) (length r.left) r.left (omega arith) refl

pub grow : (l m : Lent) (g h : Returned) (x : Report) → l.bytes ≡ m.bytes → l.limit ≤ m.limit → room l ≤ room m → Promised l g → Promised m h
    → g.answer ≡ Ok x
    → spec.Final (end_of x.end) → Same x g h
grow l m g h x b i c p q a f =
    let v = operate l.bytes l.limit (length l.first) (length l.second) in
    let r = passed_by v x (ap spoken (sym a) ∙ p.answer_is) in
    let t = ap (λ (y : Line). y.end) r.2 in
    let o = subst (λ (bs : List ℕ). operate bs m.limit (length m.first) (length m.second) ≡ passed r.0) b
    ((demand_3 l.bytes).runs l.limit (length l.first) (length l.second) m.limit (length m.first) (length m.second) r.0 i c
    r.1
    (subst spec.Final t f)) in
    let d = ended_by h.answer (line_of r.0) (q.answer_is ∙ ap (λ (v : Verdict spec.Result). and_then v (λ y. passed (line_of y))) o) in
    let n : x.left ≡ length r.0.left = ap (λ (y : Line). y.left) r.2 in
    record {
      report = d.0;
      ended = d.1;
      numbers = d.2 ∙ sym r.2;
      words = rw n (front m h r.0 o q ∙ sym (front l g r.0 r.1 p));
    }

-- The three ways of a run: refused by the check, over the capacity, or made.
abbrev answer_of : Lent → Verdict spec.Result
answer_of l = operate l.bytes l.limit (length l.first) (length l.second)

refuses_as : (l : Lent) (n p : ℕ) → check l.bytes ≡ refused n p → answer_of l ≡ refused n p
unfolding operate
refuses_as l n p q = rw q

over_as : (l : Lent) → Over l → answer_of l ≡ refused 8 0
unfolding operate run_in
over_as l (τ, e, a, s) = rw ((check_iff l.bytes τ e).1 a, lt-leb (size e) (room l) s)

is_capacity : (x : Refusal) → number_of x ≡ 8 → x ≡ r.Capacity
is_capacity r.Bytes q = absurd (omega (arith, q))
is_capacity r.Header q = absurd (omega (arith, q))
is_capacity (r.Word p) q = absurd (omega (arith, q))
is_capacity (r.Nesting p) q = absurd (omega (arith, q))
is_capacity (r.Variable p) q = absurd (omega (arith, q))
is_capacity (r.Untyped p) q = absurd (omega (arith, q))
is_capacity (r.Mistyped p) q = absurd (omega (arith, q))
is_capacity r.Capacity q = refl

-- Where the specification refuses, the answer is that refusal.
refused_by_lem : (a : Result Report Refusal) (v : Verdict spec.Result) (n p : ℕ) → spoken a ≡ and_then v (λ y. passed (line_of y)) → v ≡ refused n p
    → (r : Refusal) × (a ≡ Err r) × (number_of r ≡ n) × (place_of r ≡ p)
refused_by_lem a v n p h q = by a (h ∙ ap (λ (w : Verdict spec.Result). and_then w (λ y. passed (line_of y))) q)
  where
    by : (a : Result Report Refusal) → spoken a ≡ refused n p → (r : Refusal) × (a ≡ Err r) × (number_of r ≡ n) × (place_of r ≡ p)
    by (Err r) e = let i = refused_injective e in (r, refl, i.0, i.1)
    by (Ok x) e = absurd (not_both n p (told x) (sym e))

-- What the check gives, with the term's size, decides the way.
pub data Way (l : Lent) : Type 0 where
  fits : Fitting l → Way l
  exceeds : Over l → Way l
  fails : (n p : ℕ) → check l.bytes ≡ refused n p → Way l

way : (l : Lent) → Way l
way l = by (check l.bytes) refl
  where
    sized : (τ : Ty) (e : Term ml) → Accepted l.bytes τ e → (b : Bool) → leb (size e) (room l) ≡ b → Way l
    sized τ e a true q = fits (τ, e, a, leb-true (size e) (room l) q)
    sized τ e a false q = exceeds (τ, e, a, leb-false (size e) (room l) q)

    by : (v : Verdict Recipe) → check l.bytes ≡ v → Way l
    by (refused n p) q = fails n p q
    by (passed x) q = sized x.0 x.1 ((check_iff l.bytes x.0 x.1).0 q) (leb (size x.1) (room l)) refl

pub reduces_of : (l : Lent) (g : Returned) → Promised l g → (τ : Ty) (e : Term ml) → Accepted l.bytes τ e → size e ≤ room l → Reduces l g e
reduces_of l g h τ e a s =
    let x = ending l.limit (room l) e τ a.typed in
    let q = (ends_iff l.limit (room l) e τ a.typed x.result).0 x.ends in
    reduce l g e x (ends_counted τ a.typed x.ends)
    ((operate_iff l.bytes l.limit (length l.first) (length l.second) x.result).1 (τ, e, a, s, sym q)) h

exact_of : (l : Lent) (g : Returned) → Promised l g → Exact l g
exact_of l g h =
    record {
      ends = (
        λ x. let y = passed_by (answer_of l) x.0 (ap spoken (sym x.1) ∙ h.answer_is) in
            let i = (operate_iff l.bytes l.limit (length l.first) (length l.second) y.0).0 y.1 in
            (i.0, i.1, i.2, i.3),
        λ f. let r = reduces_of l g h f.0 f.1 f.2 f.3 in (r.report, r.ended),
      );
      reduces = reduces_of l g h;
      over = (
        λ q. over_by q (way l),
        λ o. let r = refused_by_lem g.answer (answer_of l) 8 0 h.answer_is (over_as l o) in r.1 ∙ ap Err (is_capacity r.0 r.2),
      );
      refuses = λ n p. (
        λ b. fails_by n p b (way l),
        λ q. let r = refused_by_lem g.answer (answer_of l) n p h.answer_is (refuses_as l n p q) in
            let t = subst Numbered q (number_in_table l.bytes) in
            record { refusal = r.0; refused = r.1; number = r.2; place = r.3; least = t.0; most = t.1 },
      );
    }
  where
    refusal_is : (r : Refusal) → g.answer ≡ Err r → refusal r ≡ and_then (answer_of l) (λ y. passed (line_of y))
    refusal_is r q = ap spoken (sym q) ∙ h.answer_is

    not_made : (r : Refusal) → g.answer ≡ Err r → Fitting l → ⊥
    not_made r q f =
        let x = reduces_of l g h f.0 f.1 f.2 f.3 in
        not_both (number_of r) (place_of r) (told x.report) (ap spoken (sym q ∙ x.ended))

    numbers_are : (r : Refusal) (n p : ℕ) → g.answer ≡ Err r → answer_of l ≡ refused n p → (number_of r ≡ n) × (place_of r ≡ p)
    numbers_are r n p q o =
        refused_injective (refusal_is r q ∙ ap (λ (v : Verdict spec.Result). and_then v (λ y. passed (line_of y))) o)

    over_by : g.answer ≡ Err r.Capacity → Way l → Over l
    over_by q (fits f) = absurd (not_made r.Capacity q f)
    over_by q (exceeds o) = o
    over_by q (fails n p c) =
        let i = numbers_are r.Capacity n p q (refuses_as l n p c) in
        let t = subst Numbered c (number_in_table l.bytes) in
        absurd (omega (arith, i.0, t.1))

    fails_by : (n p : ℕ) → RefusedBy g n p → Way l → check l.bytes ≡ refused n p
    fails_by n p b (fits f) = absurd (not_made b.refusal b.refused f)
    fails_by n p b (exceeds o) =
        let i = numbers_are b.refusal 8 0 b.refused (over_as l o) in absurd (omega (arith, i.0, b.number, b.most))
    fails_by n p b (fails m q c) =
        let i = numbers_are b.refusal m q b.refused (refuses_as l m q c) in c ∙ rw (← i.0, ← i.1, b.number, b.place)

pub once : (l : Lent) (g : Returned) → Promised l g → Once l g
once l g h = record { finishes = finish l g g.answer refl h; exact = exact_of l g h }
