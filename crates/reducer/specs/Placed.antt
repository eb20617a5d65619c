-- Whose turn it is, in words: the place of the node, where its words end, and where the next walk may begin.
use Rattle.std.specs.Prelude.{ℕ, ◌+◌, ◌*◌, ◌<◌, ◌≤◌, List, Option, Some, None, is_some, ◌⊎◌, ◌≡◌, length, drop}
use Rattle.std.specs.Option.{unwrap_or}
use Rattle.calculus.specs.Trees.{Lang, ml, Term}
use Rattle.calculus.specs.Words.{put, words, size}
use Rattle.calculus.specs.Reduction.{Frame, plug, done, turn}
use Rattle.calculus.specs.Rules.{Value}
use Rattle.calculus.specs.Evaluation.{Taken, Ready}
use Rattle.writing.specs.Spans.{span}
use Rattle.reducer.specs.declared.turns.Start.{Start}
use Rattle.reducer.specs.declared.turns.Turn.{Turn}
use Rattle.reducer.specs.declared.turns.Look.{Look}
use Rattle.reducer.specs.declared.turns.Waiting.{Waiting}
use Rattle.reducer.specs.Standing.{length_before, waits_for, follows, Standing, Ripe}

-- Not more parts are due than the words before the place have.
abbrev pub FewDue : Start → Type 0
FewDue f = f.due ≤ 1 + 3 * f.place

-- What a walk from a place tells: the node whose turn it is; or that all parts from there on are values, up to the end of a node that waits,
-- or of the term.
abbrev pub WalkTold : Term ml → Start → Option Turn → Type 0
WalkTold e from None = from.place ≡ 0 → turn e ≡ done
WalkTold e from (Some t) = Ripe e t.place t.back.place t.back.due

-- The start of a term.
abbrev pub beginning : Start
beginning = record { place = 0; due = 1 }

-- A walk may begin where it would come to; `whole` is where it is said to have begun.
pub record Turns (ws : List ℕ) (from whole : Start) (r : Option Turn) : Type 0 where
  pub of : (e : Term ml) → ws ≡ words e → Standing e from.place from.due → WalkTold e whole r

-- The node stands within the words, and ends where one node's words do.
pub record Within (ws : List ℕ) (t : Turn) : Type 0 where
  pub inside : t.place < length ws
  pub ends : t.end ≡ t.place + span (drop t.place ws) 1
  pub last : t.end ≤ length ws
  pub few : FewDue t.back

abbrev pub Spanned : List ℕ → Option Turn → Type 0
Spanned ws None = Unit {0}
Spanned ws (Some t) = Within ws t

-- Where the next walk may begin: at the node that waits, or else here.
abbrev pub around : Option Waiting → Start → Start
around None here = here
around (Some outer) here = outer.node

-- The node e is its own turn, or a value.
abbrev pub Last : {l : Lang} → Option ℕ → Term l → Type 0
Last {l} None e = Value l e
Last (Some n) e = Ready e

abbrev pub look : ℕ → ℕ → Option ℕ → Look
look start takes leaves = record { start = start; takes = takes; leaves = leaves }

-- What a look tells of the node e: evaluation takes none of its parts, and it is its turn or it is a value;
pub record Alone {l : Lang} (r : Look) (e : Term l) : Type 0 where
  pub none : r.takes ≡ 0
  pub start : r.start ≡ size e
  pub last : Last r.leaves e

-- or evaluation goes into a first part, past `start` words.
pub record Enters {l : Lang} (r : Look) (e : Term l) : Type 0 where
  pub lang : Lang
  pub frame : Frame lang l
  pub part : Term lang
  pub is : plug frame part ≡ e
  pub taken : Taken frame
  pub start : r.start ≡ length_before frame
  pub takes : r.takes ≡ 1 + follows frame
  pub own : is_some r.leaves ≡ waits_for frame

-- Of any words: the parts taken and those left end where one node does.
pub record Looked (ws : List ℕ) (r : Look) : Type 0 where
  pub ends : r.start + span (drop r.start ws) (r.takes + unwrap_or r.leaves 0) ≡ span ws 1
  pub some : 1 ≤ r.start
  pub within : r.start ≤ length ws
  pub few : r.takes + unwrap_or r.leaves 0 ≤ 3
  pub of : (l : Lang) (e : Term l) (k : List ℕ) → ws ≡ put e k → Alone r e ⊎ Enters r e
