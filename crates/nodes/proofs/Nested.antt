-- The ways out of the walk with levels: w and `rest` are the words left, `at` are gone by, a node of the sort s is due, and then others. Assumes
-- nothing.
use Rattle.std.proofs.Common.{ℕ, ◌+◌, ◌-◌, List, [], ◌∷◌, length, drop, arith, None, Some, cond, ◌≡◌, refl, sym, ◌∙◌}
use lib.Dec.{eqb}
use borrow.Author.Tests.{eq-eqb, ne_eqb}
use Rattle.std.proofs.Math.Option.{none, some}
use Rattle.std.proofs.Math.Option as math
use Rattle.calculus.specs.Verdicts.{found, Verdict, refused, passed}
use Rattle.calculus.specs.Kinds.{Sort, row_for}
use Rattle.calculus.specs.Kinds as calculus
use Rattle.calculus.specs.Reading.{opens, refuses, later, walk, levelled, nested_due}
use Rattle.nodes.specs.Table.{as_sorts, Row, entry, told, row_due}
use Rattle.nodes.specs.declared.kinds.Sort as code
use Rattle.nodes.specs.declared.refusals.Refusal.{Refusal}
use Rattle.nodes.specs.Refusals.{refusal}
use Rattle.nodes.proofs.Ways as ways

-- What is due at a word's parts, by the code's row.
due_is : (s : Sort) (room w : ℕ)
    → nested_due (s, room) w ≡ told (row_due s w) (refuses 3) (λ r. cond (eqb room 0) (refuses 4) (opens (levelled (room - 1) r.parts)))
due_is s room w = by (row_for s w)
  where
    by : (o : math.Option (calculus.Row s))
        → found o (refuses 3) (λ r. cond (eqb room 0) (refuses 4) (opens (levelled (room - 1) r.parts)))
        ≡ told (found o None (λ r. Some (entry r))) (refuses 3) (λ r. cond (eqb room 0) (refuses 4) (opens (levelled (room - 1) r.parts)))
    by none = refl
    by (some r) = refl

module _ (s : Sort) (others : List Sort) (room at w : ℕ) (rest : List ℕ) where
  pub undue : None ≡ row_due s w → refused 3 at ≡ later at (walk nested_due (w ∷ rest) (levelled room (s ∷ others)))
  undue h = ways.stopped nested_due w rest at (s, room) (levelled room others) 3 (due_is s room w ∙ rw (sym h))

  module _ (r : Row) (h : Some r ≡ row_due s w) where
    here : nested_due (s, room) w ≡ cond (eqb room 0) (refuses 4) (opens (levelled (room - 1) r.parts))
    here = due_is s room w ∙ rw (sym h)

    pub too_deep : room ≡ 0 → refused 4 at ≡ later at (walk nested_due (w ∷ rest) (levelled room (s ∷ others)))
    too_deep z = ways.stopped nested_due w rest at (s, room) (levelled room others) 4 (here ∙ rw (eq-eqb room 0 z))

    -- The walk over the parts: a refusal there is its own; or the parts' words are there, and it goes on behind them.
    module _ (left : room ≡ 0 → ⊥) where
      here_parts : nested_due (s, room) w ≡ opens (levelled (room - 1) r.parts)
      here_parts = here ∙ rw (ne_eqb room 0 left)

      pub refused_there : (x : Refusal) → refusal x ≡ later (at + 1) (walk nested_due rest (levelled (room - 1) r.parts))
          → refusal x ≡ later at (walk nested_due (w ∷ rest) (levelled room (s ∷ others)))
      refused_there x e = ways.refused_there nested_due w rest at (s, room) (levelled room others) (levelled (room - 1) r.parts) here_parts x e

      pub goes_on : (n : ℕ) → passed n ≡ later (at + 1) (walk nested_due rest (levelled (room - 1) r.parts)) → (v : Verdict ℕ)
          → v ≡ later n (walk nested_due (drop (n - at) (w ∷ rest)) (levelled room others))
          → v ≡ later at (walk nested_due (w ∷ rest) (levelled room (s ∷ others)))
      goes_on n e v g = ways.goes_on nested_due w rest at (s, room) (levelled room others) (levelled (room - 1) r.parts) here_parts n e v g

pub nothing_due : (ss : List code.Sort) (room at : ℕ) (ws : List ℕ) → length ss ≡ 0
    → passed at ≡ later at (walk nested_due ws (levelled room (as_sorts ss)))
nothing_due [] room at ws h = ways.done nested_due ws at
nothing_due (s ∷ ss) room at ws h = absurd (omega (arith, h))
