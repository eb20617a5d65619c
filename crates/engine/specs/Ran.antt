-- A run in two buffers: what the loop leaves.
use Rattle.std.specs.Prelude.{ℕ, Bool, not, List, [], ◌≡◌, take}
use Rattle.calculus.specs.Trees.{Ty, ml, Term}
use Rattle.calculus.specs.Words.{words}
use Rattle.calculus.specs.Limits.{InRange}
use Rattle.calculus.specs.Typing.{Typed}
use Rattle.calculus.specs.Run as spec
use Rattle.reducer.specs.declared.turns.Start.{Start}
use Rattle.reducer.specs.declared.steps.Move.{Move}
use Rattle.reducer.specs.Moves.{FewDueNext, OneStep}
use Rattle.ends.specs.declared.Report.{Report}
use Rattle.ends.specs.Results.{line_of, told}
use Rattle.engine.specs.Buffered.{held, Settled}

-- A term that the engine reduces: in range, and of some type.
pub record Good (e : Term ml) : Type 0 where
  pub ranged : InRange e
  pub type : Ty
  pub typed : Typed [] e type

-- A step of the first n words of the buffer that holds the term, into the other.
pub record Advanced (front : Bool) (n : ℕ) (from : Start) (first second : List ℕ) (r : Move) (first' second' : List ℕ) : Type 0 where
  pub kept : held front first' second' ≡ held front first second
  pub few : FewDueNext r
  pub stepped : OneStep (take n (held front first second)) from (held (not front) first second) r (held (not front) first' second')

-- A run of the term whose words ws stand first in the first buffer: the report, and both buffers.
pub record Reduced (limit cap : ℕ) (ws : List ℕ) (x : Report) (first second first' second' : List ℕ) : Type 0 where
  pub of : (e : Term ml) → ws ≡ words e → Good e
      → (told x ≡ line_of (spec.run limit cap spec.uncounted e)) × Settled (spec.run limit cap spec.uncounted e).left first second first' second'
