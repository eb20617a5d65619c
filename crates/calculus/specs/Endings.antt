-- Document 01, "A run and its ends", by the published reduction `⟶` alone: nothing here computes. proofs/Endings.antt proves that every term
-- that has a type has its one ending, under every limit and capacity, and that `run` computes it.
use Rattle.std.specs.Prelude.{ℕ, ◌≤◌, ◌<◌, [], ◌≡◌}
use Rattle.calculus.specs.Trees.{ml, Term}
use Rattle.calculus.specs.Words.{words, size}
use Rattle.calculus.specs.Rules.{Value, ◌⟶◌, Steps, stay, then, Raises}
use Rattle.calculus.specs.Classes.{other}
use Rattle.calculus.specs.Run.{valued, spent, error, full, counted, Result, ended}
use Rattle.calculus.specs.Counting.{counts}

-- "else the step is made": each of the steps is to a term of no more words than the capacity.
abbrev pub InCapacity : ℕ → {n : ℕ} {e t : Term ml} → Steps n e t → Type 0
InCapacity cap stay = Unit {0}
InCapacity cap (then {f = f} a p) = (size f ≤ cap) × InCapacity cap p

-- "At each term, in this order": the end of e's run after the n steps p, at t; "The result: end, code (0 unless error), steps made, words left, words
-- wanted (the next term's, for full; else 0)"; and document 02's "three counts", over these steps.
pub data Ends (limit cap : ℕ) (e : Term ml) : Result → Type 0 where
  -- "a value ends as value"
  by_value : {n : ℕ} {t : Term ml} (p : Steps n e t) → InCapacity cap p → n ≤ limit → Value ml t
      → Ends limit cap e (ended valued 0 (counts p) (words t) 0)
  -- "steps made equal to the limit, as spent"
  by_limit : {t : Term ml} (p : Steps limit e t) → InCapacity cap p → ¬ Value ml t → Ends limit cap e (ended spent 0 (counts p) (words t) 0)
  -- "a wrong whose turn it is, as error", "in one step of its own", which is among the others; "after error words left is 0"
  by_error : {n c : ℕ} {t : Term ml} (p : Steps n e t) → InCapacity cap p → n < limit → Raises c t
      → Ends limit cap e (ended error c (counted other (counts p)) [] 0)
  -- "a next term of more words than capacity, as full"
  by_full : {n : ℕ} {t r : Term ml} (p : Steps n e t) → InCapacity cap p → n < limit → t ⟶ r → cap < size r
      → Ends limit cap e (ended full 0 (counts p) (words t) (size r))

-- "exactly those of the published reductions": exactly one ending exists.
pub record Ending (limit cap : ℕ) (e : Term ml) : Type 0 where
  pub result : Result
  pub ends : Ends limit cap e result
  pub only : (r : Result) → Ends limit cap e r → r ≡ result
