-- How many words nodes have, told from the words alone.
use Rattle.std.specs.Prelude.{ℕ, zero, suc, ◌+◌, List, [], ◌∷◌}
use Rattle.calculus.specs.Scope.{part_count}

-- How many words the first nodes have, so many as are due.
unfoldable pub span : List ℕ → ℕ → ℕ
span [] due = 0
span (w ∷ ws) zero = 0
span (w ∷ ws) (suc due) = suc (span ws (due + part_count w))
