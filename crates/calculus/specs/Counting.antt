-- Document 02, "Where the steps went": "For every run the three add up to the steps made, each equal to a count over the reduction." The
-- statement alone, of the published reduction; proofs/Endings.antt proves it of every end of a term that has a type.
use Rattle.std.specs.Prelude.{ℕ, ◌+◌, ◌≡◌}
use Rattle.calculus.specs.Trees.{Lang, ml, Term}
use Rattle.calculus.specs.Rules.{Steps}
use Rattle.calculus.specs.Classes.{call, conversion, other, among}
use Rattle.calculus.specs.Run.{End, valued, spent, error, full, Counts, uncounted, counted, Result, ended}

-- What is counted over the steps of a reduction.
abbrev pub counts : {l : Lang} {n : ℕ} {e r : Term l} → Steps n e r → Counts
counts {n = n} p = record { steps = n; calls = among call p; conversions = among conversion p; others = among other p }

-- Counts added up.
abbrev pub together : Counts → Counts → Counts
together m n =
    record {
      steps = m.steps + n.steps;
      calls = m.calls + n.calls;
      conversions = m.conversions + n.conversions;
      others = m.others + n.others;
    }

-- A result that comes after what m counts: "end, code, words, and steps and U1's counts added up".
abbrev pub later : Counts → Result → Result
later m x = ended x.end x.code (together m x.made) x.left x.wanted

-- "All other steps, the error step too, are others": the step that an end has of its own.
abbrev pub own_step : End → Counts
own_step valued = uncounted
own_step spent = uncounted
own_step error = counted other uncounted
own_step full = uncounted

-- "the three add up to the steps made".
abbrev pub AddsUp : Counts → Type 0
AddsUp made = made.calls + made.conversions + made.others ≡ made.steps

-- Of a run of e that ended so and counted so: the reduction came to a term in some number of steps; the steps made and each of the three are those
-- of every derivation of that many steps from e, with the end's own step; and the three add up.
pub record Counted (e : Term ml) (end : End) (made : Counts) : Type 0 where
  pub reductions : ℕ
  pub last : Term ml
  pub reached : Steps reductions e last
  pub each : (r : Term ml) (p : Steps reductions e r) → made ≡ together (counts p) (own_step end)
  pub adds_up : AddsUp made
