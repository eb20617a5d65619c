-- What follows a step of a term: the run ends there, with the report that was chosen, or goes on from the next term. Assumes nothing.
use Prim.Native.Nat.{ℕ, zero, suc, ◌+◌, ◌-◌, ◌≤◌, ◌<◌}
use mathlib.Core.Bool.{Bool, true, false, cond}
use mathlib.Core.List.{List, []}
use mathlib.Core.Path.{◌≡◌, refl, sym, ap, ◌∙◌, subst}
use native.Mathlib.Omega.{arith}
use lib.Dec.{eqb, leb}
use lib.ListN.{length, take}
use lib.Seq.{sets, take_all}
use borrow.Author.Tests.{eq-eqb, ne_eqb, eqb-false, leb-true}
use Rattle.calculus.specs.Trees.{ml, Term}
use Rattle.calculus.specs.Words.{words, size}
use Rattle.calculus.specs.Reduction.{Outcome, value, raised, next, stuck, step}
use Rattle.calculus.specs.Classes.{Class, other, word_class, next_class}
use Rattle.calculus.specs.Run as spec
use Rattle.reducer.specs.declared.steps.Change.{Change}
use Rattle.reducer.specs.declared.steps.Move.{Move}
use Rattle.reducer.specs.declared.steps.Move.TheVariants as m
use Rattle.reducer.specs.Standing.{Standing}
use Rattle.counts.specs.declared.Counts.{Counts}
use Rattle.ends.specs.declared.End.{End}
use Rattle.ends.specs.declared.End.TheVariants as ends
use Rattle.ends.specs.declared.Report.{Report}
use Rattle.std.specs.declared.ops.ControlFlow.TheVariants.{Continue, Break}
use Rattle.ends.specs.Decided.{Choice, stop, leaving, failing, go_on, decide}
use Rattle.counts.specs.Counting.{counts_of, counted}
use Rattle.ends.specs.Results.{line_of, end_of, told}

-- A step to the next term u: the reduced node's word is of the class, the term is put into the buffer b, which is b' then, and the next walk may
-- begin where it is said to.
pub record ByChange (class : Class) (u : Term ml) (b : List ℕ) (x : Change) (b' : List ℕ) : Type 0 where
  pub class_is : word_class x.word ≡ class
  pub size_is : x.size ≡ size u
  pub put : b' ≡ sets b 0 (words u)
  pub standing : Standing u x.back.place x.back.due

-- A move is that of an outcome, and of a step's class.
abbrev pub Moved : Class → Outcome ml → List ℕ → Move → List ℕ → Type 0
Moved class value b r b' = r ≡ m.Value
Moved class (raised c) b r b' = r ≡ m.Raised c
Moved class (next u) b r b' = (x : Change) × (r ≡ m.Next x) × ByChange class u b x b'
Moved class stuck b r b' = r ≡ m.Stuck

-- A report is that of a result, whose words left are the first of ws.
pub record Finished (r : spec.Result) (ws : List ℕ) (x : Report) : Type 0 where
  pub told_is : told x ≡ line_of r
  pub left_is : take x.left ws ≡ r.left
  pub short : x.left ≤ length ws

-- The run goes on from the next term, with one step more of a class.
pub record Going (r : spec.Result) (class : Class) (o : Outcome ml) (b b' : List ℕ) (cap limit : ℕ) (made : Counts) (x : Change) (more : Counts)
    : Type 0 where
  pub term : Term ml
  pub outcome_is : o ≡ next term
  pub by_change : ByChange class term b x b'
  pub counted_is : more ≡ counted class made
  pub same : r ≡ spec.run (limit - (made.steps + 1)) cap (counts_of (counted class made)) term

no_both : {g : Change × Counts} {x : Report} → ◌≡◌ {A = Choice} (Continue g) (Break x) → ⊥
no_both q = let z : ◌≡◌ {A = ℕ} 0 1 = cc in omega arith

both_same : {x y : Change} {n more : Counts} → ◌≡◌ {A = Choice} (Continue (x, n)) (Continue (y, more)) → (x ≡ y) × (more ≡ n)
both_same {x} {y} {n} {more} q =
    let p : ◌≡◌ {A = Change × Counts} (x, n) (y, more) = cc in (ap (λ g. g.0) p, sym (ap (λ g. g.1) p))

-- The run of a term with k steps left, by the outcome of its step.
abbrev pub by_outcome : ℕ → ℕ → spec.Counts → Term ml → Outcome ml → spec.Result
by_outcome zero cap made e o = spec.ended (spec.at_limit o) 0 made (words e) 0
by_outcome (suc k) cap made e o = spec.decide o made cap e (λ r. spec.run k cap (spec.counted (next_class e) made) r)

pub run_by : (k cap : ℕ) (made : spec.Counts) (e : Term ml) → spec.run k cap made e ≡ by_outcome k cap made e (step e)
unfolding spec.run
run_by zero cap made e = refl
run_by (suc k) cap made e = refl

module _ (e : Term ml) (n cap limit : ℕ) (made : Counts) (size_is : n ≡ length (words e)) (le : made.steps ≤ limit) where
  -- a report that leaves the term
  leaves : (x : End) (w : ℕ) (y : Report) → stop (leaving x made n w) ≡ Break y
      → Finished (spec.ended (end_of x) 0 (counts_of made) (words e) w) (words e) y
  leaves x w y q =
      let z : leaving x made n w ≡ y = cc in
      subst (Finished (spec.ended (end_of x) 0 (counts_of made) (words e) w) (words e)) z
      (record { told_is = rw size_is; left_is = take_all n (words e) (omega arith); short = omega arith })

  errs : (c : ℕ) (y : Report) → stop (failing c made) ≡ Break y
      → Finished (spec.ended spec.error c (spec.counted other (counts_of made)) [] 0) (words e) y
  errs c y q =
      let z : failing c made ≡ y = cc in
      subst (Finished (spec.ended spec.error c (spec.counted other (counts_of made)) [] 0) (words e)) z
      (record { told_is = refl; left_is = refl; short = omega arith })

  fills : (b : Bool) (u : Term ml) (g : Term ml → spec.Result) (x : Change) (y : Report)
      → cond b (go_on x made) (stop (leaving ends.Full made n (size u))) ≡ Break y → Finished (spec.if_fits b (counts_of made) e u g) (words e) y
  fills true u g x y q = absurd (no_both q)
  fills false u g x y q = leaves ends.Full (size u) y q

  fills_by : (u : Term ml) (g : Term ml → spec.Result) (x : Change) (k : ℕ) (y : Report) → k ≡ size u
      → cond (leb k cap) (go_on x made) (stop (leaving ends.Full made n k)) ≡ Break y
      → Finished (spec.if_fits (leb (size u) cap) (counts_of made) e u g) (words e) y
  fills_by u g x k y h q = fills (leb (size u) cap) u g x y (rw h at q)

  -- the run ends here
  pub stops : (k : ℕ) (o : Outcome ml) (b b' : List ℕ) (r : Move) (x : Report) → k ≡ limit - made.steps → Moved (next_class e) o b r b'
      → decide r n cap made limit ≡ Break x
      → Finished (by_outcome k cap (counts_of made) e o) (words e) x
  stops zero value b b' r x i h q = leaves ends.Value 0 x (rw h at q)
  stops (suc k) value b b' r x i h q = leaves ends.Value 0 x (rw h at q)
  stops zero (raised c) b b' r x i h q = leaves ends.Spent 0 x (rw (h, eq-eqb made.steps limit (omega arith)) at q)
  stops (suc k) (raised c) b b' r x i h q = errs c x (rw (h, ne_eqb made.steps limit (λ z. omega arith)) at q)
  stops zero (next u) b b' r x i h q = leaves ends.Spent 0 x (rw (h.1, eq-eqb made.steps limit (omega arith)) at q)
  stops (suc k) (next u) b b' r x i h q =
      fills_by u (λ v. spec.run k cap (spec.counted (next_class e) (counts_of made)) v) h.0 h.0.size x h.2.size_is
      (rw (h.1, ne_eqb made.steps limit (λ z. omega arith)) at q)
  stops zero stuck b b' r x i h q = leaves ends.Spent 0 x (rw h at q)
  stops (suc k) stuck b b' r x i h q = leaves ends.Spent 0 x (rw h at q)

  fits : (b : Bool) (u : Term ml) (g : Term ml → spec.Result) (x y : Change) (more : Counts)
      → cond b (go_on x made) (stop (leaving ends.Full made n (size u))) ≡ Continue (y, more)
      → (spec.if_fits b (counts_of made) e u g ≡ g u) × (x ≡ y) × (more ≡ counted (word_class x.word) made)
  fits true u g x y more q = let s = both_same q in (refl, s.0, s.1)
  fits false u g x y more q = absurd (no_both (sym q))

  fits_by : (u : Term ml) (g : Term ml → spec.Result) (x y : Change) (k : ℕ) (more : Counts) → k ≡ size u
      → cond (leb k cap) (go_on x made) (stop (leaving ends.Full made n k)) ≡ Continue (y, more)
      → (spec.if_fits (leb (size u) cap) (counts_of made) e u g ≡ g u) × (x ≡ y) × (more ≡ counted (word_class x.word) made)
  fits_by u g x y k more h q = fits (leb (size u) cap) u g x y more (rw h at q)

  -- the run goes on
  pub goes : (k : ℕ) (o : Outcome ml) (b b' : List ℕ) (r : Move) (y : Change) (more : Counts) → k ≡ limit - made.steps → Moved (next_class e) o b r b'
      → decide r n cap made limit ≡ Continue (y, more) → Going (by_outcome k cap (counts_of made) e o) (next_class e) o b b' cap limit made y more
  goes zero value b b' r y more i h q = absurd (no_both (sym (rw h at q)))
  goes (suc k) value b b' r y more i h q = absurd (no_both (sym (rw h at q)))
  goes zero (raised c) b b' r y more i h q = absurd (no_both (sym (rw (h, eq-eqb made.steps limit (omega arith)) at q)))
  goes (suc k) (raised c) b b' r y more i h q = absurd (no_both (sym (rw (h, ne_eqb made.steps limit (λ z. omega arith)) at q)))
  goes zero (next u) b b' r y more i h q = absurd (no_both (sym (rw (h.1, eq-eqb made.steps limit (omega arith)) at q)))
  goes (suc k) (next u) b b' r y more i h q =
      let f = fits_by u (λ v. spec.run k cap (spec.counted (next_class e) (counts_of made)) v) h.0 y h.0.size more h.2.size_is
      (rw (h.1, ne_eqb made.steps limit (λ z. omega arith)) at q) in
      let d : k ≡ limit - (made.steps + 1) = omega arith in
      record {
        term = u;
        outcome_is = refl;
        by_change = subst (λ (x : Change). ByChange (next_class e) u b x b') f.1 h.2;
        counted_is = f.2 ∙ ap (λ (c : Class). counted c made) h.2.class_is;
        same = f.0 ∙ ap (λ (i : ℕ). spec.run i cap (spec.counted (next_class e) (counts_of made)) u) d;
      }
  goes zero stuck b b' r y more i h q = absurd (no_both (sym (rw h at q)))
  goes (suc k) stuck b b' r y more i h q = absurd (no_both (sym (rw h at q)))

-- The numbers that the loop needs, whatever the words are.
module _ (n cap limit : ℕ) (made : Counts) (le : made.steps ≤ limit) where
  -- What follows a step that is made.
  abbrev Made : Move → Change → Counts → Type 0
  Made r y more = (r ≡ m.Next y) × (y.size ≤ cap) × (made.steps < limit) × (more ≡ counted (word_class y.word) made)

  pub go_fits : (r : Move) (y : Change) (more : Counts) → decide r n cap made limit ≡ Continue (y, more) → Made r y more
  go_fits m.Value y more q = absurd (no_both (sym q))
  go_fits (m.Raised c) y more q = by (eqb made.steps limit) q
    where
      by : (b : Bool) → cond b (stop (leaving ends.Spent made n 0)) (stop (failing c made)) ≡ Continue (y, more) → Made (m.Raised c) y more
      by true g = absurd (no_both (sym g))
      by false g = absurd (no_both (sym g))
  go_fits (m.Next x) y more q = by (eqb made.steps limit) refl (leb x.size cap) refl q
    where
      by : (b : Bool) → eqb made.steps limit ≡ b → (d : Bool) → leb x.size cap ≡ d
          → cond b (stop (leaving ends.Spent made n 0)) (cond d (go_on x made) (stop (leaving ends.Full made n x.size))) ≡ Continue (y, more)
          → Made (m.Next x) y more
      by true e d f g = absurd (no_both (sym g))
      by false e true f g =
          let s = both_same g in
          let i = s.0 in
          let k = s.1 in
          let l = eqb-false made.steps limit e in (
            ap m.Next i,
            subst (λ (z : Change). z.size ≤ cap) i (leb-true x.size cap f),
            omega (arith, l),
            k ∙ ap (λ (z : Change). counted (word_class z.word) made) i,
          )
      by false e false f g = absurd (no_both (sym g))
  go_fits m.Stuck y more q = absurd (no_both (sym q))

  left_by_lem : (x y : Report) → stop x ≡ stop y → x.left ≤ n → y.left ≤ n
  left_by_lem x y q h = let z : x ≡ y = cc in subst (λ (r : Report). r.left ≤ n) z h

  pub end_short : (r : Move) (y : Report) → decide r n cap made limit ≡ Break y → y.left ≤ n
  end_short m.Value y q = left_by_lem _ y q (omega arith)
  end_short (m.Raised c) y q = by (eqb made.steps limit) q
    where
      by : (b : Bool) → cond b (stop (leaving ends.Spent made n 0)) (stop (failing c made)) ≡ Break y → y.left ≤ n
      by true g = left_by_lem _ y g (omega arith)
      by false g = left_by_lem _ y g (omega arith)
  end_short (m.Next x) y q = by (eqb made.steps limit) (leb x.size cap) q
    where
      by : (b d : Bool) → cond b (stop (leaving ends.Spent made n 0)) (cond d (go_on x made) (stop (leaving ends.Full made n x.size)))
          ≡ Break y → y.left ≤ n
      by true d g = left_by_lem _ y g (omega arith)
      by false true g = absurd (no_both g)
      by false false g = left_by_lem _ y g (omega arith)
  end_short m.Stuck y q = left_by_lem _ y q (omega arith)
