-- One step in words: what the code answers, and what it leaves in the target, is the calculus's step.
use Rattle.std.specs.Prelude.{ℕ, ◌-◌, List, ◌++◌, ◌≡◌, length, get_or, take, drop}
use Rattle.calculus.specs.Trees.{Lang, ml, Term}
use Rattle.calculus.specs.Words.{put, words, size}
use Rattle.calculus.specs.Reduction.{becomes, contract, Outcome, value, raised, next, stuck, step}
use Rattle.calculus.specs.Splices.{words_before, Splice}
use Rattle.writing.specs.Wrote.{Wrote}
use Rattle.pieces.specs.Pieces.{Placed}
use Rattle.contraction.specs.Chosen.{OfNode}
use Rattle.pieces.specs.declared.became.Piece.{Piece}
use Rattle.pieces.specs.declared.became.Became.TheVariants.{Becomes}
use Rattle.reducer.specs.declared.turns.Start.{Start}
use Rattle.reducer.specs.declared.turns.Turn.{Turn}
use Rattle.reducer.specs.declared.steps.Change.{Change}
use Rattle.reducer.specs.declared.steps.Move.{Move}
use Rattle.reducer.specs.declared.steps.Move.TheVariants.{Value, Raised, Next, Stuck}
use Rattle.reducer.specs.Standing.{Standing}
use Rattle.reducer.specs.Placed.{FewDue, Within}

-- A piece that is what the node becomes whose turn it is, and whose parts are not too long.
pub record PieceFits (source : List ℕ) (t : Turn) (piece : Piece) : Type 0 where
  pub stands : Within source t
  pub told : OfNode (take (t.end - t.place) (drop t.place source)) (Becomes piece)
  pub within : Placed piece

-- Where the node n stands in the source behind the words P, and it becomes u: its word, how many words stood and stand there, and the words
-- that are written.
pub record Spliced (source : List ℕ) (t : Turn) (b : List ℕ) (c : Change) (b' : List ℕ) : Type 0 where
  pub where_it_was : c.place ≡ t.place
  pub from_there : c.back ≡ t.back
  pub of : (P : List ℕ) (m : Lang) (n u : Term m) (Q : List ℕ) → source ≡ P ++ put n Q → t.place ≡ length P → contract n ≡ becomes u
      → (c.word ≡ get_or (words n) 0 0) × (c.stood ≡ size n) × (c.stands ≡ size u) × Wrote b 0 (P ++ put u Q) c.size b'

-- The next term r of e: the change is that of the step's splice, the words of r are written, as far as they fit, and the next walk may begin
-- where it is said to.
pub record Changed (e r : Term ml) (b : List ℕ) (c : Change) (b' : List ℕ) : Type 0 where
  pub splice : Splice e r
  pub word : c.word ≡ get_or (words splice.node) 0 0
  pub place : c.place ≡ length (words_before splice.place)
  pub stood : c.stood ≡ size splice.node
  pub stands : c.stands ≡ size splice.became
  pub sized : c.size ≡ size r
  pub written : Wrote b 0 (words r) c.size b'
  pub resumes : Standing r c.back.place c.back.due

-- The answer to each outcome; only a next term is written.
abbrev pub Moved : Term ml → Move → List ℕ → List ℕ → Outcome ml → Type 0
Moved e r b b' value = (r ≡ Value) × (b' ≡ b)
Moved e r b b' (raised c) = (r ≡ Raised c) × (b' ≡ b)
Moved e r b b' (next e') = (c : Change) × (r ≡ Next c) × Changed e e' b c b'
Moved e r b b' stuck = (r ≡ Stuck) × (b' ≡ b)

-- Where the next walk may begin, few parts are due.
abbrev pub FewDueNext : Move → Type 0
FewDueNext Value = Unit {0}
FewDueNext (Raised c) = Unit {0}
FewDueNext (Next c) = FewDue c.back
FewDueNext Stuck = Unit {0}

-- Of every term whose words these are, if the walk may begin where it is said to.
pub record OneStep (source : List ℕ) (from : Start) (b : List ℕ) (r : Move) (b' : List ℕ) : Type 0 where
  pub of : (e : Term ml) → source ≡ words e → Standing e from.place from.due → Moved e r b b' (step e)
