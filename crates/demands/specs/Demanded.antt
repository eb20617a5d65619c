-- The three demands, each of one call, or of one pair of calls, of the public operations: what the contracts in src/lib.rt say.
use Rattle.std.specs.Prelude.{ℕ, ◌≤◌, ◌<◌, List, [], ◌↔◌, ◌≡◌, length, take, replicate, Result, Ok, Err}
use Rattle.calculus.specs.Trees.{Ty, ml, Term}
use Rattle.calculus.specs.Words.{words, size}
use Rattle.calculus.specs.Rules.{Steps}
use Rattle.calculus.specs.Verdicts.{refused}
use Rattle.calculus.specs.Run.{error, Final}
use Rattle.calculus.specs.Counting.{Counted}
use Rattle.calculus.specs.Endings.{Ending}
use Rattle.calculus.specs.File.{check, padded}
use Rattle.calculus.specs.Accepted.{Accepted}
use Rattle.calculus.specs.Mismatches.{NoTypeAt, OtherTypeAt}
use Rattle.calculus.specs.Demands.{Sound, Safe, FromEveryTerm}
use Rattle.nodes.specs.declared.refusals.Refusal.{Refusal}
use Rattle.nodes.specs.declared.refusals.Refusal.TheVariants.{Untyped, Mistyped, Capacity}
use Rattle.nodes.specs.Refusals.{number_of, place_of, refusal}
use Rattle.ends.specs.declared.Report.{Report}
use Rattle.counts.specs.Counting.{counts_of}
use Rattle.ends.specs.Results.{line_of, end_of, told}
use Rattle.engine.specs.Lent.{Lent, Returned, room}

-- Demand 1: "finishes: with one of the eight refusals in document 01, both buffers then all zero, or with one of its four ends".
pub data Finishes (l : Lent) (g : Returned) : Type 0 where
  refuses : (r : Refusal) → g.answer ≡ Err r → 1 ≤ number_of r → number_of r ≤ 8 → g.first ≡ replicate (length l.first) 0
      → g.second ≡ replicate (length l.second) 0 → Finishes l g
  ends : (x : Report) → g.answer ≡ Ok x → Finishes l g

-- A file of some recipe: "the check accepts exactly those to which the published typing .. gives the declared type".
abbrev pub RecipeOf : List ℕ → Type 0
RecipeOf bytes = (τ : Ty) × (e : Term ml) × Accepted bytes τ e

-- Demand 2 of the check, and its refusals: the number and place of the table, 1 to 7. A file is of one recipe at most. Document 02: 6 points at the
-- lowest node that is at fault, and 7 at the first declared word that differs from the type found.
pub record Checks (bytes : List ℕ) (r : Result (Unit {0}) Refusal) : Type 0 where
  pub accepts : (r ≡ Ok tt) ↔ RecipeOf bytes
  pub one : (x y : RecipeOf bytes) → (x.0 ≡ y.0) × (x.1 ≡ y.1)
  pub refuses : (x : Refusal) → (r ≡ Err x) ↔ (check bytes ≡ refusal x)
  pub in_table : (x : Refusal) → r ≡ Err x → (1 ≤ number_of x) × (number_of x ≤ 7)
  pub six : (p : ℕ) → (r ≡ Err (Untyped p)) ↔ NoTypeAt bytes p
  pub seven : (p : ℕ) → (r ≡ Err (Mistyped p)) ↔ OtherTypeAt bytes p

-- "The end of a run, its code, its count of steps and the words it leaves are exactly those of the published reductions, taken in their order
-- of evaluation under the limits lent": those of the term's one ending by `⟶`. Document 02: "For every run the three add up to the steps made, each
-- equal to a count over the reduction."
pub record Reduces (l : Lent) (g : Returned) (e : Term ml) : Type 0 where
  pub by_rules : Ending l.limit (room l) e
  pub report : Report
  pub ended : g.answer ≡ Ok report
  pub numbers : told report ≡ line_of by_rules.result
  pub counts : Counted e (end_of report.end) (counts_of report.made)
  pub first : g.first ≡ padded (length l.first) by_rules.result.left
  pub second : g.second ≡ padded (length l.second) []

-- An accepted file whose term fits the capacity; and "8 | term words over capacity".
abbrev pub Fitting : Lent → Type 0
Fitting l = (τ : Ty) × (e : Term ml) × Accepted l.bytes τ e × (size e ≤ room l)

abbrev pub Over : Lent → Type 0
Over l = (τ : Ty) × (e : Term ml) × Accepted l.bytes τ e × (room l < size e)

-- "A refusal carries its number and a place": the answer is the refusal of that number and place, one of the check's seven.
pub record RefusedBy (g : Returned) (n p : ℕ) : Type 0 where
  pub refusal : Refusal
  pub refused : g.answer ≡ Err refusal
  pub number : number_of refusal ≡ n
  pub place : place_of refusal ≡ p
  pub least : 1 ≤ n
  pub most : n ≤ 7

-- Demand 2 of a run, both ways: it ends exactly if the file is accepted and its term fits, and then as that term reduces; it is refused by 8
-- exactly if the file is accepted and its term does not fit; and by any other number and place exactly if the check gives these.
pub record Exact (l : Lent) (g : Returned) : Type 0 where
  pub ends : ((x : Report) × (g.answer ≡ Ok x)) ↔ Fitting l
  pub reduces : (τ : Ty) (e : Term ml) → Accepted l.bytes τ e → size e ≤ room l → Reduces l g e
  pub over : (g.answer ≡ Err Capacity) ↔ Over l
  pub refuses : (n p : ℕ) → RefusedBy g n p ↔ (check l.bytes ≡ refused n p)

-- Demands 1 and 2 of one run.
pub record Once (l : Lent) (g : Returned) : Type 0 where
  pub finishes : Finishes l g
  pub exact : Exact l g

-- "the second gives the same end, the same code, the same count of steps and the same words": as the first, which reports x. The count of steps is
-- that of all, of calls, of conversions and of others.
pub record Same (x : Report) (g h : Returned) : Type 0 where
  pub report : Report
  pub ended : h.answer ≡ Ok report
  pub numbers : told report ≡ told x
  pub words : take x.left h.first ≡ take x.left g.first

-- The words that a run of e leaves are those of a term that its reduction reaches in the steps told; it has the declared type and is exactly one of
-- the three.
pub record Leaves (τ : Ty) (e : Term ml) (x : Report) (g : Returned) : Type 0 where
  pub term : Term ml
  pub reached : Steps x.made.steps e term
  pub left : take x.left g.first ≡ words term
  pub sound : Sound τ term

-- Demand 3. "Whatever recipe the check accepts", all that its reduction reaches is sound, what a run leaves too; document 02: so it is "from every
-- well-typed term". "And whatever file is run twice, .. let the second run be lent at least as many steps and at least the capacity of the first. If
-- the first ends as a value or an error, the second gives the same" as it. The check and both runs are held to demands 1 and 2.
pub record Twice (c : Result (Unit {0}) Refusal) (l : Lent) (g : Returned) (m : Lent) (h : Returned) : Type 0 where
  pub checks : Checks l.bytes c
  pub first : Once l g
  pub second : Once m h
  pub safe : (τ : Ty) (e : Term ml) → Accepted l.bytes τ e → Safe τ e
  pub leaves : (τ : Ty) (e : Term ml) → Accepted l.bytes τ e → (x : Report) → g.answer ≡ Ok x → ¬ (end_of x.end ≡ error) → Leaves τ e x g
  pub from_every_term : FromEveryTerm
  pub grows : (x : Report) → l.limit ≤ m.limit → room l ≤ room m → g.answer ≡ Ok x → Final (end_of x.end) → Same x g h
