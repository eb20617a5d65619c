-- Document 01, "A run and its ends": reducing a term under a limit of steps and a capacity of words.
use Rattle.std.specs.Prelude.{ℕ, zero, suc, ◌+◌, min, Bool, true, false, List, [], leb}
use Rattle.calculus.specs.Trees.{ml, Term}
use Rattle.calculus.specs.Words.{words, size}
use Rattle.calculus.specs.Reduction.{Outcome, value, raised, next, stuck, step}
use Rattle.calculus.specs.Classes.{Class, call, conversion, other, next_class, indicator}

pub data End : Type 0 where
  valued spent error full : End

-- "ends as a value or an error": the ends that no limit and no capacity bring about.
abbrev pub Final : End → Type 0
Final valued = Unit {0}
Final spent = ⊥
Final error = Unit {0}
Final full = ⊥

-- "a spent or full run": the ends from which a run is gone on with.
abbrev pub Open : End → Type 0
Open valued = ⊥
Open spent = Unit {0}
Open error = ⊥
Open full = Unit {0}

-- What a run counts: "steps made"; and document 02's "three counts: calls, conversions, others".
pub record Counts : Type 0 where
  pub steps : ℕ
  pub calls : ℕ
  pub conversions : ℕ
  pub others : ℕ

abbrev pub uncounted : Counts
uncounted = record { steps = 0; calls = 0; conversions = 0; others = 0 }

-- One step more, of a class.
abbrev pub counted : Class → Counts → Counts
counted x made =
    record {
      steps = made.steps + 1;
      calls = made.calls + indicator call x;
      conversions = made.conversions + indicator conversion x;
      others = made.others + indicator other x;
    }

-- "The result: end, code (0 unless error), steps made, words left, words wanted (the next term's, for full; else 0)": of the words left,
-- the words themselves.
pub record Result : Type 0 where
  pub end : End
  pub code : ℕ
  pub made : Counts
  pub left : List ℕ
  pub wanted : ℕ

abbrev pub ended : End → ℕ → Counts → List ℕ → ℕ → Result
ended x c made ws n = record { end = x; code = c; made = made; left = ws; wanted = n }

-- "a value ends as value; steps made equal to the limit, as spent": no step is left. No accepted recipe comes to a term that is stuck.
abbrev pub at_limit : Outcome ml → End
at_limit value = valued
at_limit (raised c) = spent
at_limit (next r) = spent
at_limit stuck = spent

-- "a next term of more words than capacity, as full; else the step is made".
abbrev pub if_fits : Bool → Counts → Term ml → Term ml → (Term ml → Result) → Result
if_fits true made e r go = go r
if_fits false made e r go = ended full 0 made (words e) (size r)

-- "a wrong whose turn it is, as error": "in one step of its own", which is among the others; "after error words left is 0".
abbrev pub decide : Outcome ml → Counts → ℕ → Term ml → (Term ml → Result) → Result
decide value made cap e go = ended valued 0 made (words e) 0
decide (raised c) made cap e go = ended error c (counted other made) [] 0
decide (next r) made cap e go = if_fits (leb (size r) cap) made e r go
decide stuck made cap e go = ended spent 0 made (words e) 0

-- The term e, with k steps left; `made` were counted so far. A step is counted by the node whose turn it is.
unfoldable pub run : ℕ → ℕ → Counts → Term ml → Result
run zero cap made e = ended (at_limit (step e)) 0 made (words e) 0
run (suc k) cap made e = decide (step e) made cap e (λ r. run k cap (counted (next_class e) made) r)

-- "Capacity is the shorter length, at most 16,384."
abbrev pub capacity : ℕ → ℕ → ℕ
capacity first second = min (min first second) 16384
