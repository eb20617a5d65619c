-- Document 01, "Typing". `Typed Γ e τ`: in the lambdas Γ the term e has the static type τ. For a Scheme term that is to be well formed.
use Rattle.std.specs.Prelude.{ℕ, zero, suc, List, [], ◌∷◌, ◌≡◌}
use Rattle.calculus.specs.Trees.{Ty, N, list, ◌to◌, Lang, Static, numbers, lists, functions, Op1, HD, TL, FIX, NULL?, TEST, Op2, APP, ADD, SUB}
use Rattle.calculus.specs.Trees.{CONS, Term, var, num, lam, op1, op2, if0, nil, wrong, ms, sm}

-- The lambdas around a place, innermost first: of which language, and the type written at it.
pub data Entry : Type 0 where
  of : (l : Lang) → Static l → Entry

abbrev pub Lambdas : Type 0
Lambdas = List Entry

-- The lambda with i between is of the language l and has the type τ written at it.
abbrev pub At : Lambdas → ℕ → (l : Lang) → Static l → Type 0
At [] i l τ = ⊥
At (x ∷ Γ) zero l τ = x ≡ of l τ
At (x ∷ Γ) (suc i) l τ = At Γ i l τ

-- "hd of a {t} has type t, tl of it {t}, null? of it N", "fix of a t to t has type t".
abbrev pub Rule1 : {l : Lang} → Op1 l → Static l → Static l → Type 0
Rule1 (HD {l}) t τ = t ≡ lists l τ
Rule1 (TL {l}) t τ = (u : Static l) × (t ≡ lists l u) × (τ ≡ lists l u)
Rule1 FIX t τ = t ≡ τ to τ
Rule1 NULL? t τ = (u : Ty) × (t ≡ list u) × (τ ≡ N)
Rule1 (TEST k) t τ = Unit {0}

-- "Applying a t to u to a t has type u", "add and subtract of two N have type N", "cons of a t and a {t} has type {t}".
abbrev pub Rule2 : (l : Lang) → Op2 → Static l → Static l → Static l → Type 0
Rule2 l APP t u τ = t ≡ functions l u τ
Rule2 l ADD t u τ = (t ≡ numbers l) × (u ≡ numbers l) × (τ ≡ numbers l)
Rule2 l SUB t u τ = (t ≡ numbers l) × (u ≡ numbers l) × (τ ≡ numbers l)
Rule2 l CONS t u τ = (u ≡ lists l t) × (τ ≡ lists l t)

-- "A number has type N, a variable the type written at its lambda. A lambda with type t and a body of type u has type t to u. .. if0 of an
-- N and two t has type t. nil t has type {t}; .. wrong t has type t. ms t of a well-formed Scheme term has type t. sm t of an ML term is
-- well formed exactly if that term has type t. Any other Scheme term is well formed exactly if its parts are."
abbrev pub Typed : {l : Lang} → Lambdas → Term l → Static l → Type 0
Typed Γ (var {l} i) τ = At Γ i l τ
Typed Γ (num {l} n) τ = τ ≡ numbers l
Typed Γ (lam {l} t b) τ = (u : Static l) × Typed (of l t ∷ Γ) b u × (τ ≡ functions l t u)
Typed Γ (op1 {l} o a) τ = (t : Static l) × Typed Γ a t × Rule1 o t τ
Typed Γ (op2 {l} o a b) τ = (t : Static l) × (u : Static l) × Typed Γ a t × Typed Γ b u × Rule2 l o t u τ
Typed Γ (if0 {l} a b c) τ = Typed Γ a (numbers l) × Typed Γ b τ × Typed Γ c τ
Typed Γ (nil {l} t) τ = τ ≡ lists l t
Typed Γ (wrong c t) τ = τ ≡ t
Typed Γ (ms t a) τ = Typed Γ a tt × (τ ≡ t)
Typed Γ (sm t a) τ = Typed Γ a t
