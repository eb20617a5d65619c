-- What a reference to a type means: a place of the file's words, read by the shape of the word there.
use Rattle.std.specs.Prelude.{ℕ, suc, ◌+◌, ◌%◌, ◌<◌, ◌≤◌, cond, List, ◌⊎◌, ◌≡◌, Option, Some, None, eqb, get_or, drop}
use Rattle.std.specs.Option.{option_map}
use Rattle.calculus.specs.Trees.{Ty, N, L, list, ◌to◌}
use Rattle.calculus.specs.Words.{word, put_ty, size_ty}
use Rattle.nodes.specs.declared.kinds.Shape.{Shape}
use Rattle.nodes.specs.declared.kinds.Shape.TheVariants as s
use Rattle.nodes.specs.Table.{shape_of}
use Rattle.types.specs.declared.Former.{Former}
use Rattle.types.specs.declared.Former.TheVariants as f

-- The shape of the word at a place. The place 0 is in the header, and no reference.
unfoldable pub shape_at : List ℕ → ℕ → Option Shape
shape_at w p = cond (eqb p 0) None (shape_of (get_or w p 0 % 256))

-- How the type that a word of a shape means is formed: N of a number and of an operator of one part, a list of nil, a function of a lambda. The
-- words that mean no type are told apart by their shapes, the operators of two parts as one.
abbrev pub former_of : Shape → Former
former_of s.Numbers = f.Numbers
former_of s.Number = f.Numbers
former_of (s.Operator1 o) = f.Numbers
former_of s.Lump = f.Lump
former_of s.List = f.List
former_of s.Nil = f.List
former_of s.Function = f.Function
former_of s.Lambda = f.Function
former_of s.Variable = f.Variable
former_of (s.Operator2 o) = f.Operation
former_of s.If0 = f.If0
former_of s.Wrong = f.Wrong
former_of s.Boundary = f.Boundary

abbrev pub former_at : List ℕ → ℕ → Option Former
former_at w p = option_map former_of (shape_at w p)

-- The type is written at the place.
abbrev pub Written : List ℕ → ℕ → Ty → Type 0
Written w p t = (k : List ℕ) × (drop p w ≡ put_ty t k)

-- The reference p means the type, by the words w and those of the links ls that stand from lo up to hi. A lump is always written at p, with its
-- owner; a list's element type and a function's argument type are always written behind p; a function's result type is written too, or is what
-- the lambda's link refers to.
unfoldable pub Means : List ℕ → List ℕ → ℕ → ℕ → ℕ → Ty → Type 0
Means w ls lo hi p N = former_at w p ≡ Some f.Numbers
Means w ls lo hi p (L o) = (former_at w p ≡ Some f.Lump) × (get_or w p 0 ≡ word 2 o)
Means w ls lo hi p (list t) = (former_at w p ≡ Some f.List) × Written w (p + 1) t
Means w ls lo hi p (t to u) =
    Written w (p + 1) t
    × (((shape_at w p ≡ Some s.Lambda) × (lo ≤ p) × (p < hi) × Means w ls (p + 1) hi (get_or ls p 0) u)
    ⊎ ((shape_at w p ≡ Some s.Function) × Written w (p + 1 + size_ty t) u))

-- a at a lambda, and b at any other word.
abbrev pub at_lambda : {A : Type 0} → Option Shape → A → A → A
at_lambda (Some s.Lambda) a b = a
at_lambda other a b = b

-- The reference to the result type of the function type at p, whose argument type ends before `end`.
unfoldable pub codomain : List ℕ → List ℕ → ℕ → ℕ → ℕ
codomain w ls p end = at_lambda (shape_at w p) (get_or ls p 0) end

-- How many arrows follow one another in a type.
unfoldable pub arrows : Ty → ℕ
arrows N = 0
arrows (L o) = 0
arrows (list t) = 0
arrows (t to u) = suc (arrows u)
