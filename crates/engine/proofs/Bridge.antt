-- A step of the reducer is that of the calculus. Assumes nothing.
use Prim.Native.Nat.{ℕ}
use mathlib.Core.List.{List}
use mathlib.Core.Path.{◌≡◌, sym, ap, ◌∙◌}
use Rattle.calculus.specs.Trees.{ml, Term}
use Rattle.calculus.specs.Words.{words}
use Rattle.calculus.specs.Reduction.{Outcome, value, raised, next, stuck, step}
use Rattle.calculus.specs.Classes.{word_class, turn_class, next_class}
use Rattle.calculus.proofs.Classes.{word_class_lem}
use Rattle.reducer.specs.declared.turns.Start.{Start}
use Rattle.reducer.specs.declared.steps.Change.{Change}
use Rattle.reducer.specs.declared.steps.Move.{Move}
use Rattle.reducer.specs.Standing.{Standing}
use Rattle.reducer.specs.Moves as reducer
use Rattle.engine.proofs.Moving.{ByChange, Moved}

-- The class of the step is that of the reduced node's word.
by_change : (e : Term ml) {u : Term ml} {b b' : List ℕ} {x : Change} → reducer.Changed e u b x b' → ByChange (next_class e) u b x b'
by_change e c =
    let node = c.splice.node in
    record {
      class_is = ap word_class c.word ∙ word_class_lem node ∙ sym (ap turn_class c.splice.turns);
      size_is = c.sized;
      put = c.written.stored;
      standing = c.resumes;
    }

pub moved : {ws b b' : List ℕ} {from : Start} {r : Move} → reducer.OneStep ws from b r b' → (e : Term ml) → ws ≡ words e
    → Standing e from.place from.due → Moved (next_class e) (step e) b r b'
moved {ws} {b} {b'} {from} {r} s e q at = by (step e) (s.of e q at)
  where
    by : (o : Outcome ml) → reducer.Moved e r b b' o → Moved (next_class e) o b r b'
    by value m = m.0
    by (raised c) m = m.0
    by (next u) m = (m.0, m.1, by_change e m.2)
    by stuck m = m.0
