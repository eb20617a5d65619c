-- What the check answers: the verdict of document 01's table, without the recipe.
use Rattle.std.specs.Prelude.{ℕ, ◌+◌, ◌<◌, ◌≤◌, List, ◌≡◌, length, take, drop, Result, Ok, Err}
use Rattle.calculus.specs.Trees.{Ty, ml, Term}
use Rattle.calculus.specs.Words.{words}
use Rattle.calculus.specs.Verdicts.{Verdict, passed, and_then}
use Rattle.calculus.specs.File.{words_of, type_count, Recipe, typed, judged, check}
use Rattle.nodes.specs.declared.refusals.Refusal.{Refusal}
use Rattle.nodes.specs.Refusals.{refusal}
use Rattle.types.specs.References.{Written}

-- A term that starts at a place of a file's words, which are at most 4,096.
pub record TermAt (ws : List ℕ) (start : ℕ) : Type 0 where
  pub behind : 0 < start
  pub within : start ≤ length ws
  pub few : length ws ≤ 4096

-- The verdict that an answer stands for.
abbrev pub checked : Result (Unit {0}) Refusal → Verdict (Unit {0})
checked (Err r) = refusal r
checked (Ok u) = passed u

-- Accepted, whatever the recipe.
abbrev pub accepting : Verdict Recipe → Verdict (Unit {0})
accepting v = and_then v (λ x. passed tt)

-- Refusals 3 to 7 of words whose declared type, of so many words, stands at 4, and whose term stands behind it.
abbrev pub judging : List ℕ → ℕ → Verdict Recipe
judging ws n = judged (take n (drop 4 ws)) (drop (4 + n) ws) (4 + n)

-- Refusals 1 to 7 of a file, or how many words its declared type has, and how many it has itself.
abbrev pub admitting : List ℕ → Verdict (ℕ × ℕ)
admitting bytes = and_then (check bytes) (λ x. passed (type_count (words_of bytes), length (words_of bytes)))

-- Refusals 6 and 7 of the declared type, which is written at 4, and of the term, whose words are the words from a place on.
abbrev pub Decides : List ℕ → ℕ → Result (Unit {0}) Refusal → Type 0
Decides ws start r = (τ : Ty) (e : Term ml) → Written ws 4 τ → drop start ws ≡ words e → checked r ≡ accepting (typed 4 start τ e)
