-- What a run of a file answers and leaves, as an equation with the specification's `operate`.
use Rattle.std.specs.Prelude.{ℕ, List, ◌≡◌, length, Result, Ok, Err}
use Rattle.calculus.specs.Trees.{Ty, ml, Term}
use Rattle.calculus.specs.Words.{words}
use Rattle.calculus.specs.Verdicts.{Verdict, passed, and_then}
use Rattle.calculus.specs.Run as spec
use Rattle.calculus.specs.File.{run_in, first_after, second_after}
use Rattle.nodes.specs.declared.refusals.Refusal.{Refusal}
use Rattle.nodes.specs.Refusals.{refusal}
use Rattle.ends.specs.declared.Report.{Report}
use Rattle.engine.specs.Lent.{Lent, Returned, operated}
use Rattle.engine.specs.Ran.{Good}
use Rattle.ends.specs.Results.{Line, line_of, told}

-- The number and place of a refusal, or the numbers of a result, that an answer stands for.
abbrev pub spoken : Result Report Refusal → Verdict Line
spoken (Err r) = refusal r
spoken (Ok x) = passed (told x)

-- "Read each public operation as an equation: result and both buffers, for all inputs, follow from the definitions".
pub record Answered (v : Verdict spec.Result) (x : Result Report Refusal) (first second first' second' : List ℕ) : Type 0 where
  pub answer_is : spoken x ≡ and_then v (λ r. passed (line_of r))
  pub first_is : first' ≡ first_after (length first) v
  pub second_is : second' ≡ second_after (length second) v

-- A run of what is lent.
abbrev pub Runs : Lent → Returned → Type 0
Runs l g = Answered (operated l) g.answer l.first l.second g.first g.second

-- Of the words of a term that was accepted.
pub record Begun (limit : ℕ) (ws : List ℕ) (x : Result Report Refusal) (first second first' second' : List ℕ) : Type 0 where
  pub of : (e : Term ml) (τ : Ty) → ws ≡ words e → Good e
      → Answered (run_in limit (spec.capacity (length first) (length second)) (τ, e)) x first second first' second'
