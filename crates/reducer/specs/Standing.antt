-- Where the walk to the turn stands in a term, and how many parts evaluation has still to take there.
use Rattle.std.specs.Prelude.{ℕ, ◌+◌, Bool, true, cond, not, ◌≡◌}
use Rattle.calculus.specs.Trees.{Lang, ml, Term}
use Rattle.calculus.specs.Words.{size, size_ty}
use Rattle.calculus.specs.Reduction.{is_lump, is_cons, Frame, under, first, second, tested, into_ml, into_scheme, plug}
use Rattle.calculus.specs.Evaluation.{Taken, Ready}

-- The frames around an open place of a term, from the place outwards; and the term, with x there.
pub data Frames : Lang → Type 0 where
  root : Frames ml
  inside : {m k : Lang} → Frame m k → Frames k → Frames m

abbrev pub whole : {m : Lang} → Frames m → Term m → Term ml
whole root x = x
whole (inside f A) x = whole A (plug f x)

-- Evaluation goes to the place.
abbrev pub Reached : {m : Lang} → Frames m → Type 0
Reached root = Unit {0}
Reached (inside f A) = Taken f × Reached A

-- How many words stand before the open part of a node, and before the place.
abbrev pub length_before : {m l : Lang} → Frame m l → ℕ
length_before (under o) = 1
length_before (first o b) = 1
length_before (second o a) = 1 + size a
length_before (tested b c) = 1
length_before (into_ml t) = 1 + size_ty t
length_before (into_scheme t) = 1 + size_ty t

abbrev pub length_frames : {m : Lang} → Frames m → ℕ
length_frames root = 0
length_frames (inside f A) = length_frames A + length_before f

-- Whether a node waits for its parts to be values and has its turn then; else it is a value then.
abbrev pub waits_for : {m l : Lang} → Frame m l → Bool
waits_for (under o) = true
waits_for (first o b) = not (is_cons o)
waits_for (second o a) = not (is_cons o)
waits_for (tested b c) = true
waits_for (into_ml t) = not (is_lump t)
waits_for (into_scheme t) = true

-- How many parts evaluation takes after the open one: of the node; and up to the end of the nearest node that waits.
abbrev pub follows : {m l : Lang} → Frame m l → ℕ
follows (under o) = 0
follows (first o b) = 1
follows (second o a) = 0
follows (tested b c) = 0
follows (into_ml t) = 0
follows (into_scheme t) = 0

abbrev pub pending : {m : Lang} → Frames m → ℕ
pending root = 0
pending (inside f A) = follows f + cond (waits_for f) 0 (pending A)

-- At the place i of the term e stands a part to which evaluation goes; with those that follow `due` parts are to be taken.
pub record Standing (e : Term ml) (i due : ℕ) : Type 0 where
  pub lang : Lang
  pub around : Frames lang
  pub part : Term lang
  pub is : whole around part ≡ e
  pub reached : Reached around
  pub place : i ≡ length_frames around
  pub due_is : due ≡ 1 + pending around

-- The part that stands at the place i is the node whose turn it is; and whatever it becomes, a walk may begin at `back`, where `due` parts are to
-- be taken.
pub record Ripe (e : Term ml) (i back due : ℕ) : Type 0 where
  pub here : ℕ
  pub standing : Standing e i here
  pub ready : Ready standing.part
  pub resumes : (x : Term standing.lang) → Standing (whole standing.around x) back due
