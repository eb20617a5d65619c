-- The fault of a term that has no type, of document 02, "Point at the mismatch": "the lowest-numbered node that has no type, or is not well
-- formed, while all its own parts are in order". proofs/Faults.antt says that `fault` is its place.
use Rattle.std.specs.Prelude.{ℕ, ◌+◌, ◌≤◌, List, [], ◌∷◌, ◌≡◌}
use Rattle.calculus.specs.Trees.{Lang, Static, Term, var, num, lam, op1, op2, if0, nil, wrong, ms, sm}
use Rattle.calculus.specs.Words.{size, size_ty, size_static}
use Rattle.calculus.specs.Verdicts.{found}
use Rattle.calculus.specs.Typing.{of, Lambdas, Typed}
use Rattle.calculus.specs.Inference.{infer}

-- A node of a term: the place of its word, the lambdas around it, and itself.
pub record Node : Type 0 where
  pub lang : Lang
  pub place : ℕ
  pub lambdas : Lambdas
  pub tree : Term lang

abbrev pub node : {l : Lang} → ℕ → Lambdas → Term l → Node
node {l} p Γ e = record { lang = l; place = p; lambdas = Γ; tree = e }

-- The terms among the parts of the node e at the place p, in order. (Its other parts are types, which are always in order.)
abbrev pub parts_at : {l : Lang} → ℕ → Lambdas → Term l → List Node
parts_at p Γ (var i) = []
parts_at p Γ (num n) = []
parts_at p Γ (lam {l} t b) = node (p + 1 + size_static l t) (of l t ∷ Γ) b ∷ []
parts_at p Γ (op1 o a) = node (p + 1) Γ a ∷ []
parts_at p Γ (op2 o a b) = node (p + 1) Γ a ∷ node (p + 1 + size a) Γ b ∷ []
parts_at p Γ (if0 a b c) = node (p + 1) Γ a ∷ node (p + 1 + size a) Γ b ∷ node (p + 1 + size a + size b) Γ c ∷ []
parts_at p Γ (nil t) = []
parts_at p Γ (wrong c t) = []
parts_at p Γ (ms t a) = node (p + 1 + size_ty t) Γ a ∷ []
parts_at p Γ (sm t a) = node (p + 1 + size_ty t) Γ a ∷ []

abbrev pub parts : Node → List Node
parts x = parts_at x.place x.lambdas x.tree

-- z is one of these nodes, or a node inside one of them.
pub data Among (z : Node) : List Node → Type 0 where
  itself : {xs : List Node} → Among z (z ∷ xs)
  inside : {x : Node} {xs : List Node} → Among z (parts x) → Among z (x ∷ xs)
  further : {x : Node} {xs : List Node} → Among z xs → Among z (x ∷ xs)

-- In order: of some type; for a Scheme term, well formed.
abbrev pub HasType : Node → Type 0
HasType x = (τ : Static x.lang) × Typed x.lambdas x.tree τ

abbrev pub AllTyped : List Node → Type 0
AllTyped [] = Unit {0}
AllTyped (x ∷ xs) = HasType x × AllTyped xs

-- "has no type, or is not well formed, while all its own parts are in order".
abbrev pub Faulty : Node → Type 0
Faulty x = (¬ HasType x) × AllTyped (parts x)

-- p is the place of the lowest-numbered faulty node of x.
pub record LowestFault (x : Node) (p : ℕ) : Type 0 where
  pub faulty : (z : Node) × Among z (x ∷ []) × Faulty z × (z.place ≡ p)
  pub lowest : (z : Node) → Among z (x ∷ []) → Faulty z → p ≤ z.place

-- The same as a function, of a term that starts at the place p: the fault of the first part that has no type; where all have one, p.
unfoldable pub fault : {l : Lang} → ℕ → Lambdas → Term l → ℕ
fault p Γ (var i) = p
fault p Γ (num n) = p
fault p Γ (lam {l} t b) = found (infer (of l t ∷ Γ) b) (fault (p + 1 + size_static l t) (of l t ∷ Γ) b) (λ u. p)
fault p Γ (op1 o a) = found (infer Γ a) (fault (p + 1) Γ a) (λ t. p)
fault p Γ (op2 o a b) = found (infer Γ a) (fault (p + 1) Γ a) (λ t. found (infer Γ b) (fault (p + 1 + size a) Γ b) (λ u. p))
fault p Γ (if0 a b c) =
    found (infer Γ a) (fault (p + 1) Γ a) (λ t.
    found (infer Γ b) (fault (p + 1 + size a) Γ b) (λ u.
    found (infer Γ c) (fault (p + 1 + size a + size b) Γ c) (λ v. p)))
fault p Γ (nil t) = p
fault p Γ (wrong c t) = p
fault p Γ (ms t a) = found (infer Γ a) (fault (p + 1 + size_ty t) Γ a) (λ u. p)
fault p Γ (sm t a) = found (infer Γ a) (fault (p + 1 + size_ty t) Γ a) (λ u. p)
