-- The lambdas around a place, as links hold them, and the lambda of a variable.
use Rattle.std.specs.Prelude.{ℕ, ◌+◌, ◌/◌, ◌%◌, ◌<◌, ◌≤◌, List, [], ◌∷◌, ◌≡◌, length, get_or, Option as Found, Some, None}
use Rattle.std.specs.Prelude.{Result, Ok, Err}
use Rattle.std.proofs.Math.Option.{Option, none, some}
use Rattle.calculus.specs.Trees.{Lang, Static}
use Rattle.calculus.specs.Kinds.{Sort, term}
use Rattle.calculus.specs.Typing.{Entry, of, Lambdas}
use Rattle.calculus.specs.Inference.{type_at}
use Rattle.nodes.specs.Table.{row_of, told}
use Rattle.typing.specs.declared.Fault.{Fault}
use Rattle.typing.specs.Answers.{WrittenStatic}

-- The sort of the word at a place, if it is of a kind.
abbrev pub sort_at : List ℕ → ℕ → Found Sort
sort_at w p = told (row_of (get_or w p 0 % 256)) None (λ r. Some r.sort)

-- The lambda at p is of the language, with the type written behind it.
abbrev pub Binds : List ℕ → ℕ → Entry → Type 0
Binds w p (of l t) = (sort_at w p ≡ Some (term l)) × WrittenStatic l w (p + 1) t

-- From the lambda at p outwards, each before hi, they are the lambdas Γ. 0 is none.
unfoldable pub Scope : List ℕ → List ℕ → ℕ → ℕ → Lambdas → Type 0
Scope w ls hi p [] = p ≡ 0
Scope w ls hi p (x ∷ Γ) = (0 < p) × (p < hi) × Binds w p x × Scope w ls p (get_or ls p 0) Γ

-- The lambda at which the static type is written, if there is one.
abbrev pub Behind : (l : Lang) → List ℕ → Option (Static l) → Found ℕ → Type 0
Behind l w none r = r ≡ None
Behind l w (some t) r = (p : ℕ) × (r ≡ Some p) × WrittenStatic l w (p + 1) t

pub record LambdaOf (l : Lang) (w ls : List ℕ) (scope between : ℕ) (r : Found ℕ) : Type 0 where
  pub there : (p : ℕ) → r ≡ Some p → p < length w
  pub is : (Γ : Lambdas) (hi : ℕ) → hi ≤ length w → Scope w ls hi scope Γ → Behind l w (type_at l Γ between) r

-- "a variable the type written at its lambda": the lambda, or the variable's own place as the fault's.
abbrev pub Bound : (l : Lang) → List ℕ → ℕ → Option (Static l) → Result ℕ Fault → Type 0
Bound l w at none r = r ≡ Err (record { at = at })
Bound l w at (some t) r = (p : ℕ) × (r ≡ Ok p) × WrittenStatic l w (p + 1) t

pub record Variable (l : Lang) (w ls : List ℕ) (scope at : ℕ) (r : Result ℕ Fault) : Type 0 where
  pub there : (p : ℕ) → r ≡ Ok p → p < length w
  pub is : (Γ : Lambdas) → Scope w ls at scope Γ → Bound l w at (type_at l Γ (get_or w at 0 / 256)) r
