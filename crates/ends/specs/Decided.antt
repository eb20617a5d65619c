-- What follows a move of the term at hand, in the order of document 01: value, spent, error, full, or the step is made.
use Rattle.std.specs.Prelude.{ℕ, cond, eqb, leb}
use Rattle.std.specs.declared.ops.ControlFlow.{ControlFlow}
use Rattle.std.specs.declared.ops.ControlFlow.TheVariants.{Continue, Break}
use Rattle.calculus.specs.Classes.{other, word_class}
use Rattle.reducer.specs.declared.steps.Change.{Change}
use Rattle.reducer.specs.declared.steps.Move.{Move}
use Rattle.reducer.specs.declared.steps.Move.TheVariants as m
use Rattle.counts.specs.declared.Counts.{Counts}
use Rattle.ends.specs.declared.End.{End}
use Rattle.ends.specs.declared.End.TheVariants as e
use Rattle.ends.specs.declared.Report.{Report}
use Rattle.counts.specs.Counting.{counted}

-- The result of a run that leaves so many words, with code 0.
abbrev pub leaving : End → Counts → ℕ → ℕ → Report
leaving x made n wanted = record { end = x; code = 0; made = made; left = n; wanted = wanted }

-- That of a run that an error ends: "the error step too" is among the others.
abbrev pub failing : ℕ → Counts → Report
failing c made = record { end = e.Error; code = c; made = counted other made; left = 0; wanted = 0 }

-- What follows a move: the run ends, or the step is made and counted.
abbrev pub Choice : Type 0
Choice = ControlFlow Report (Change × Counts)

abbrev pub stop : Report → Choice
stop x = Break x

-- "steps made equal to the limit, as spent; a wrong whose turn it is, as error".
abbrev pub raise : ℕ → ℕ → Counts → ℕ → Choice
raise c n made limit =
    cond (eqb made.steps limit) (stop (leaving e.Spent made n 0))
    (stop (failing c made))

-- "else the step is made", and it is counted by the word of the node that it reduces.
abbrev pub go_on : Change → Counts → Choice
go_on x made = Continue (x, counted (word_class x.word) made)

-- "steps made equal to the limit, as spent; a next term of more words than capacity, as full; else the step is made".
abbrev pub go : Change → ℕ → ℕ → Counts → ℕ → Choice
go x n cap made limit =
    cond (eqb made.steps limit) (stop (leaving e.Spent made n 0))
    (cond (leb x.size cap) (go_on x made) (stop (leaving e.Full made n x.size)))

-- "a value ends as value", and the rest in its order. No accepted recipe comes to a term that is stuck.
abbrev pub decide : Move → ℕ → ℕ → Counts → ℕ → Choice
decide m.Value n cap made limit = stop (leaving e.Value made n 0)
decide (m.Raised c) n cap made limit = raise c n made limit
decide (m.Next x) n cap made limit = go x n cap made limit
decide m.Stuck n cap made limit = stop (leaving e.Spent made n 0)
