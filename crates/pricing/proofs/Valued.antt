-- What a run of a term of type {N} leaves at a value: a list of numbers. Assumes nothing.
use Prim.Native.Nat.{ℕ, ◌≤◌}
use mathlib.Core.List.{List, []}
use mathlib.Core.Path.{◌≡◌, sym, ap, ◌∙◌, subst}
use native.Mathlib.Omega.{arith}
use lib.ListN.{length}
use Rattle.calculus.specs.Trees.{N, list, ml, Term}
use Rattle.calculus.specs.Words.{words, size}
use Rattle.calculus.specs.Kinds.{term}
use Rattle.calculus.specs.Limits.{InRange}
use Rattle.calculus.specs.Typing.{Typed}
use Rattle.calculus.specs.Rules.{Value}
use Rattle.calculus.specs.Run.{End, valued, spent, error, full, Counts, uncounted, Result, run}
use Rattle.calculus.proofs.Agreement.{value_step_iff}
use Rattle.calculus.proofs.Runs.{last_term, Ran, at_value, at_limit_lem, at_error, at_full, at_stuck, by_step, run_ran}
use Rattle.calculus.proofs.Sizes.{tree_length}
use Rattle.calculus.proofs.Continuing.{left_at, run_left, run_fine, run_short}
use Rattle.ends.specs.Results.{number_of_end}
use Rattle.pricing.specs.Items.{list_of, items}
use Rattle.pricing.proofs.Listing.{lists}

-- A run that ends as a value ends at one.
ran_valued : {cap k : ℕ} {made : Counts} {e t : Term ml} {x : Result} → Ran cap k made e x t → x.end ≡ valued → Value ml t
ran_valued (at_value {e = e} q) h = (value_step_iff e).0 q
ran_valued (at_limit_lem q) h = absurd (omega (arith, ap number_of_end h))
ran_valued (at_error q) h = absurd (omega (arith, ap number_of_end h))
ran_valued (at_full q c) h = absurd (omega (arith, ap number_of_end h))
ran_valued (at_stuck q) h = absurd (omega (arith, ap number_of_end h))
ran_valued (by_step q c p) h = ran_valued p h

-- A list of numbers in words, as the code meets it.
abbrev pub Listed : List ℕ → Type 0
Listed ws = (ns : List ℕ) × (ws ≡ words (list_of ns)) × InRange (list_of ns)

pub value_listed : (v : Term ml) → Value ml v → InRange v → Typed [] v (list N) → Listed (words v)
value_listed v h i t = let e = lists.value_is v h t in (items v, ap words e, subst InRange e i)

pub run_listed : (limit cap : ℕ) (e : Term ml) → InRange e → Typed [] e (list N) → (run limit cap uncounted e).end ≡ valued
    → Listed (run limit cap uncounted e).left
run_listed limit cap e i t h =
    let last = last_term limit cap e in
    let fine = run_fine limit cap (list N) e (record { ranged = i; typed = t }) in
    let left : (run limit cap uncounted e).left ≡ words last = run_left limit cap uncounted e ∙ ap (λ (x : End). left_at x last) h in
    subst Listed (sym left) (value_listed last (ran_valued (run_ran limit cap uncounted e) h) fine.ranged fine.typed)

-- The words left are those of a term that fits, or none.
left_few : (x : End) (t : Term ml) → length (left_at x t) ≤ size t
left_few valued t = omega (arith, tree_length (term ml) t [])
left_few spent t = omega (arith, tree_length (term ml) t [])
left_few error t = omega arith
left_few full t = omega (arith, tree_length (term ml) t [])

pub run_few : (limit cap : ℕ) (e : Term ml) → size e ≤ cap → length (run limit cap uncounted e).left ≤ cap
run_few limit cap e h =
    let last = last_term limit cap e in
    omega (arith, ap length (run_left limit cap uncounted e), left_few (run limit cap uncounted e).end last, run_short limit cap e h)
