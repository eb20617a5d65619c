-- What a walk answers.
use Rattle.std.specs.Prelude.{ℕ, ◌+◌, List, Result, Ok, Err, length}
use Rattle.calculus.specs.Verdicts.{Verdict, passed, and_then}
use Rattle.calculus.specs.Trees.{ml}
use Rattle.calculus.specs.Kinds.{type, term}
use Rattle.calculus.specs.Reading.{later, in_order}
use Rattle.nodes.specs.declared.refusals.Refusal.{Refusal}
use Rattle.nodes.specs.Refusals.{refusal}

-- How many words were taken, or the refusal.
abbrev pub walked : Result ℕ Refusal → Verdict ℕ
walked (Ok n) = passed n
walked (Err r) = refusal r

-- "then 3 and 4 in one walk, type before term".
unfoldable pub both_ordered : List ℕ → List ℕ → Verdict ℕ
both_ordered types terms = and_then (later 4 (in_order type types)) (λ n. later (4 + length types) (in_order (term ml) terms))
