-- Document 02, U2: "A recipe of type {N} gives pulses for pumps 1 to 9 in order": the items of a value of that type.
use Rattle.std.specs.Prelude.{ℕ, List, [], ◌∷◌, ◌++◌, ◌≡◌}
use Rattle.calculus.specs.Trees.{N, list, ml, Term, var, num, lam, op1, op2, if0, nil, wrong, ms, cons}
use Rattle.calculus.specs.Typing.{Typed}
use Rattle.calculus.specs.Rules.{Value}
use Rattle.calculus.specs.Kinds.{term}
use Rattle.calculus.specs.Verdicts.{found}
use Rattle.calculus.specs.Reading.{read_tree}

-- The list of these numbers.
unfoldable pub list_of : List ℕ → Term ml
list_of [] = nil N
list_of (n ∷ ns) = cons (num n) (list_of ns)

-- The items of a list of numbers: the numbers that stand in it, from left to right.
unfoldable pub items : Term ml → List ℕ
items (var i) = []
items (num n) = n ∷ []
items (lam t b) = []
items (op1 o a) = []
items (op2 o a b) = items a ++ items b
items (if0 a b c) = []
items (nil t) = []
items (wrong c t) = []
items (ms t a) = []

-- Of the words that a run leaves.
unfoldable pub items_in : List ℕ → List ℕ
items_in ws = found (read_tree (term ml) ws) [] items

-- A value of type {N} is the list of its items, and nothing else.
pub record Lists : Type 0 where
  pub value_is : (v : Term ml) → Value ml v → Typed [] v (list N) → v ≡ list_of (items v)
