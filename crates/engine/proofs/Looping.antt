-- The loop's invariant: the run of the term it started with is the run of the term at hand, with the steps that are left. Assumes nothing.
use Prim.Native.Nat.{ℕ, ◌+◌, ◌*◌, ◌-◌, ◌≤◌, ◌<◌}
use mathlib.Core.Bool.{Bool, true, false, not}
use mathlib.Core.List.{List, []}
use mathlib.Core.Path.{◌≡◌, refl, sym, ap, ◌∙◌, subst}
use native.Mathlib.Nat.{sub-zero}
use native.Mathlib.Omega.{arith}
use lib.ListN.{length, take, drop}
use lib.Seq.{sets-eq, take_at, take-take, length-take-le}
use Rattle.calculus.specs.Trees.{ml, Term}
use Rattle.calculus.specs.Words.{words, size}
use Rattle.calculus.specs.Kinds.{term}
use Rattle.calculus.specs.Reduction.{Outcome, next, step}
use Rattle.calculus.specs.Classes.{Class, word_class, next_class}
use Rattle.calculus.specs.Run as spec
use Rattle.calculus.proofs.Sizes.{tree_length}
use Rattle.calculus.proofs.Counting.{adds_up_more}
use Rattle.calculus.proofs.Soundness.{Kept, sound}
use Rattle.calculus.proofs.Ranges.{OutcomeInRange, step_in_range}
use Rattle.reducer.specs.declared.turns.Start.{Start}
use Rattle.reducer.specs.declared.steps.Change.{Change}
use Rattle.reducer.specs.declared.steps.Move.{Move}
use Rattle.reducer.specs.Standing.{root, Standing}
use Rattle.reducer.specs.Placed.{beginning}
use Rattle.reducer.specs.Moves.{FewDueNext}
use Rattle.counts.specs.declared.Counts.{Counts}
use Rattle.ends.specs.declared.Report.{Report}
use Rattle.std.specs.declared.ops.ControlFlow.TheVariants.{Continue, Break}
use Rattle.calculus.specs.File.{padded}
use Rattle.engine.specs.Buffered.{Room, held, Settled}
use Rattle.ends.specs.Decided.{decide}
use Rattle.engine.specs.Ran.{Good, Advanced, Reduced}
use Rattle.counts.specs.Counting.{counts_of, counted, UpTo}
use Rattle.ends.specs.Results.{line_of, told}
use Rattle.engine.proofs.Bridge.{moved}
use Rattle.engine.proofs.Moving.{Moved, run_by, stops, goes, go_fits, end_short}

-- A step keeps what the engine asks of a term.
good_next : (e u : Term ml) → Good e → step e ≡ next u → Good u
good_next e u g q =
    record {
      ranged = subst OutcomeInRange q (step_in_range e g.ranged);
      type = g.type;
      typed = subst (λ (o : Outcome ml). Kept g.type o) q (sound e g.type g.typed);
    }

size_words : (e : Term ml) → length (words e) ≡ size e
size_words e = omega (arith, tree_length (term ml) e [])

-- The term at hand: its words are the first n of the buffer that holds it, and the whole run is the run from it.
pub record At (whole : spec.Result) (limit cap : ℕ) (made : Counts) (n : ℕ) (from : Start) (b : List ℕ) : Type 0 where
  pub term : Term ml
  pub good : Good term
  pub words_are : take n b ≡ words term
  pub same : whole ≡ spec.run (limit - made.steps) cap (counts_of made) term
  pub standing : Standing term from.place from.due

pub record Running (first₀ second₀ : List ℕ) (count cap limit : ℕ) (first second : List ℕ) (n : ℕ) (made : Counts) (front : Bool)
    (from : Start) : Type 0 where
  pub first_length : length first ≡ length first₀
  pub second_length : length second ≡ length second₀
  pub room : n ≤ cap
  pub counted_so : UpTo limit made
  pub at : (e : Term ml) → take count first₀ ≡ words e → Good e
      → At (spec.run limit cap spec.uncounted e) limit cap made n from (held front first second)
  pub few : from.due ≤ 1 + 3 * from.place

-- One step more, of any class.
up_to_more : {limit : ℕ} {made more : Counts} (x : Class) → UpTo limit made → made.steps < limit → more ≡ counted x made → UpTo limit more
up_to_more {limit} {made} x u h q =
    subst (UpTo limit) (sym q) (record { most = omega (arith, h); adds_up = adds_up_more x (counts_of made) u.adds_up })

pub running_start : (first second : List ℕ) (count cap limit : ℕ) → count ≤ cap
    → Running first second count cap limit first second count (record { steps = 0; calls = 0; conversions = 0; others = 0 }) true beginning
running_start first second count cap limit h =
    record {
      first_length = refl;
      second_length = refl;
      room = h;
      counted_so = record { most = omega arith; adds_up = refl };
      at = λ e q g.
          record {
            term = e;
            good = g;
            words_are = q;
            same = rw (sub-zero limit);
            standing = record { lang = ml; around = root; part = e; is = refl; reached = tt; place = refl; due_is = refl };
          };
      few = omega arith;
    }

-- Both buffers have room for their capacity.
pub room_of : (first second : List ℕ) {cap : ℕ} → cap ≡ spec.capacity (length first) (length second) → Room first second cap
room_of first second e = record { in_first = omega (arith, e); in_second = omega (arith, e); few = omega (arith, e) }

-- The buffer lengths after a step: one stays as it is, the other keeps its length.
module _ {first₀ second₀ first second first' second' : List ℕ} {count cap limit n : ℕ} {made : Counts} {front : Bool} {from : Start} {r : Move}
    (i : Running first₀ second₀ count cap limit first second n made front from) (s : Advanced front n from first second r first' second')
    (lent : Room first₀ second₀ cap) where
  held_long : n ≤ length (held front first second)
  held_long = by front i.first_length i.second_length
    where
      by : (f : Bool) → length first ≡ length first₀ → length second ≡ length second₀ → n ≤ length (held f first second)
      by true p q = omega (arith, i.room, lent.in_first)
      by false p q = omega (arith, i.room, lent.in_second)

  other_long : cap ≤ length (held (not front) first second)
  other_long = by front i.first_length i.second_length
    where
      by : (f : Bool) → length first ≡ length first₀ → length second ≡ length second₀ → cap ≤ length (held (not f) first second)
      by true p q = omega (arith, lent.in_second)
      by false p q = omega (arith, lent.in_first)

  module _ {whole : spec.Result} (a : At whole limit cap made n from (held front first second)) where
    size_of : n ≡ length (words a.term)
    size_of = sym (length-take-le n (held front first second) held_long) ∙ ap length a.words_are

    outcome : Moved (next_class a.term) (step a.term) (held (not front) first second) r (held (not front) first' second')
    outcome = moved s.stepped a.term a.words_are a.standing

    at_next : (y : Change) (more : Counts) → decide r n cap made limit ≡ Continue (y, more)
        → At whole limit cap more y.size y.back (held (not front) first' second')
    at_next y more q =
        let g = goes a.term n cap limit made size_of i.counted_so.most (limit - made.steps) (step a.term) _ _ r y more refl outcome q in
        let u = g.term in
        let f = go_fits n cap limit made i.counted_so.most r y more q in
        let l : y.size ≡ length (words u) = g.by_change.size_is ∙ sym (size_words u) in
        record {
          term = u;
          good = good_next a.term u a.good g.outcome_is;
          words_are =
              ap (take y.size) (g.by_change.put ∙ sets-eq (words u) (held (not front) first second) 0 (omega (arith, other_long, f.1, l)))
              ∙ take_at (words u) (drop (0 + length (words u)) (held (not front) first second)) y.size (sym l);
          same = a.same ∙ run_by (limit - made.steps) cap (counts_of made) a.term ∙ g.same
              ∙ ap (λ (c : Counts). spec.run (limit - c.steps) cap (counts_of c) u) (sym g.counted_is);
          standing = g.by_change.standing;
        }

    at_end : (x : Report) → decide r n cap made limit ≡ Break x
        → (told x ≡ line_of whole) × (take x.left (held front first' second') ≡ whole.left)
    at_end x q =
        let f = stops a.term n cap limit made size_of i.counted_so.most (limit - made.steps) (step a.term) _ _ r x refl outcome q in
        let w = sym (a.same ∙ run_by (limit - made.steps) cap (counts_of made) a.term) in
        let h = f.short in
        let k : x.left ≤ n = omega (arith, size_of) in (
          f.told_is ∙ ap line_of w,
          ap (take x.left) s.kept ∙ sym (take-take x.left n (held front first second) k) ∙ ap (take x.left) a.words_are
              ∙ f.left_is ∙ ap (λ (y : spec.Result). y.left) w,
        )

  pub running_next : (y : Change) (more : Counts) → decide r n cap made limit ≡ Continue (y, more) → length first' ≡ length first
      → length second' ≡ length second → Running first₀ second₀ count cap limit first' second' y.size more (not front) y.back
  running_next y more q p o =
      let f = go_fits n cap limit made i.counted_so.most r y more q in
      record {
        first_length = p ∙ i.first_length;
        second_length = o ∙ i.second_length;
        room = f.1;
        counted_so = up_to_more (word_class y.word) i.counted_so f.2 f.3;
        at = λ e w g. at_next (i.at e w g) y more q;
        few = subst FewDueNext f.0 s.few;
      }

  -- The run ends: the buffers are settled after the last step.
  pub running_end : {first₂ second₂ : List ℕ} (x : Report) → decide r n cap made limit ≡ Break x → length first' ≡ length first
      → length second' ≡ length second → Settled (take x.left (held front first' second')) first' second' first₂ second₂
      → Reduced limit cap (take count first₀) x first₀ second₀ first₂ second₂
  running_end x q p o s =
      record {
        of = λ e w g.
            let a = at_end (i.at e w g) x q in (
              a.0,
              record {
                first_is =
                    s.first_is ∙ ap (λ (k : ℕ). padded k (take x.left (held front first' second'))) (p ∙ i.first_length)
                    ∙ ap (padded (length first₀)) a.1;
                second_is = s.second_is ∙ ap (λ (k : ℕ). padded k []) (o ∙ i.second_length);
              },
            );
      }

  -- What is left is in both buffers.
  pub end_room : (x : Report) → decide r n cap made limit ≡ Break x → length first' ≡ length first → length second' ≡ length second
      → Room first' second' x.left
  end_room x q p o =
      let l = end_short n cap limit made i.counted_so.most r x q in
      record {
        in_first = omega (arith, l, p, i.first_length, i.room, lent.in_first);
        in_second = omega (arith, l, o, i.second_length, i.room, lent.in_second);
        few = omega (arith, l, i.room, lent.few);
      }
