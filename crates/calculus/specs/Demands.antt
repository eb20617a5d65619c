-- Demand 3, the statement alone: of files and the definitions here. proofs/Demands.antt proves it of every file; of the code it is the contract of
-- `run_twice` in crates/demands/src/lib.rt.
use Rattle.std.specs.Prelude.{ℕ, ◌≤◌, List, [], ◌≡◌}
use Rattle.calculus.specs.Trees.{Ty, Lang, ml, Static, Term}
use Rattle.calculus.specs.Scope.{Scoped}
use Rattle.calculus.specs.Typing.{Typed}
use Rattle.calculus.specs.Rules.{Value, ◌⟶◌, Steps, Raises}
use Rattle.calculus.specs.Verdicts.{passed}
use Rattle.calculus.specs.Run.{Final, Result, capacity}
use Rattle.calculus.specs.File.{check, operate}

-- One of three and neither of the others.
pub data ExactlyOne (A B C : Type 0) : Type 0 where
  the_first : A → ¬ B → ¬ C → ExactlyOne A B C
  the_second : ¬ A → B → ¬ C → ExactlyOne A B C
  the_third : ¬ A → ¬ B → C → ExactlyOne A B C

abbrev pub RaisedError : {l : Lang} → Term l → Type 0
RaisedError r = (c : ℕ) × Raises c r

abbrev pub Reducible : {l : Lang} → Term l → Type 0
Reducible {l} r = (s : Term l) × (r ⟶ s)

-- "A term reached has the declared type if the typing gives it that type and each variable in it has its own lambda." "It is also exactly
-- one of three: a value, a raised error, or a term to which a reduction applies."
pub record Sound {l : Lang} (τ : Static l) (r : Term l) : Type 0 where
  pub typed : Typed [] r τ
  pub scoped : Scoped [] r
  pub one : ExactlyOne (Value l r) (RaisedError r) (Reducible r)

-- "after however many steps of its reduction": of all that the reduction of the term e reaches.
pub record Safe {l : Lang} (τ : Static l) (e : Term l) : Type 0 where
  pub reached : (n : ℕ) (r : Term l) → Steps n e r → Sound τ r

-- Document 02: "What it says of the terms reached holds from every well-typed term whose variables have their lambdas, with that term's type as the
-- declared one." Of terms of both languages: a Scheme term has its type if it is well formed. A term's type is one; and a term that has a type in no
-- lambdas has its variables' lambdas in itself, so that this is no condition of its own.
pub record FromEveryTerm : Type 0 where
  pub safe : (l : Lang) (τ : Static l) (e : Term l) → Typed [] e τ → Safe τ e
  pub one : (l : Lang) (τ σ : Static l) (e : Term l) → Typed [] e τ → Typed [] e σ → τ ≡ σ
  pub lambdas : (l : Lang) (τ : Static l) (e : Term l) → Typed [] e τ → Scoped [] e

-- Of a file: "Whatever recipe the check accepts", all that its reduction reaches. "And whatever file is run twice, .. let the second run be
-- lent at least as many steps and at least the capacity of the first. If the first ends as a value or an error, the second gives the same
-- end, the same code, the same count of steps and the same words." The operation is not handed what the buffers held before.
pub record Demand3 (bytes : List ℕ) : Type 0 where
  pub accepted : (τ : Ty) (e : Term ml) → check bytes ≡ passed (τ, e) → Safe τ e
  pub runs : (limit first second limit' first' second' : ℕ) (r : Result)
      → limit ≤ limit'
      → capacity first second ≤ capacity first' second'
      → operate bytes limit first second ≡ passed r
      → Final r.end
      → operate bytes limit' first' second' ≡ passed r
