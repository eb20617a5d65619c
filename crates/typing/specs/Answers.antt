-- What is answered for a term: in ML the reference to its type and the place past it, in Scheme the place past it; or its fault.
use Rattle.std.specs.Prelude.{ℕ, ◌+◌, ◌≤◌, ◌<◌, cond, List, ◌≡◌, Option as Found, Some, None, Result, Ok, Err}
use Rattle.std.proofs.Math.Option.{Option, none, some}
use Rattle.calculus.specs.Trees.{Ty, Lang, ml, sc, Static}
use Rattle.calculus.specs.Inference.{same_type}
use Rattle.calculus.specs.Verdicts.{found}
use Rattle.types.specs.References.{Written, Means}
use Rattle.typing.specs.declared.Typed.{Typed}
use Rattle.typing.specs.declared.Fault.{Fault}

-- What refers to a static type. Scheme has one, so that there is nothing to refer to.
abbrev pub Reference : Lang → Type 0
Reference ml = ℕ
Reference sc = Unit {0}

-- A whole term, with the place past it, or a fault: the answers of both languages.
pub data Answer (l : Lang) : Type 0 where
  whole : Reference l → ℕ → Answer l
  bad : ℕ → Answer l

abbrev pub inferred : Result Typed Fault → Answer ml
inferred (Ok t) = whole t.reference t.end
inferred (Err f) = bad f.at

abbrev pub formed : Result ℕ Fault → Answer sc
formed (Ok n) = whole tt n
formed (Err f) = bad f.at

-- The reference means a static type.
abbrev pub Refers : (l : Lang) → List ℕ → List ℕ → ℕ → ℕ → Reference l → Static l → Type 0
Refers ml w ls lo hi p t = Means w ls lo hi p t
Refers sc w ls lo hi p t = Unit {0}

-- The static type is written at the place; Scheme's is not written.
abbrev pub WrittenStatic : (l : Lang) → List ℕ → ℕ → Static l → Type 0
WrittenStatic ml w p t = Written w p t
WrittenStatic sc w p t = Unit {0}

-- The place past the term is `next`; it lies past `at`, and within the file.
abbrev pub EndsAt : {l : Lang} → ℕ → Answer l → Type 0
EndsAt next (whole p n) = n ≡ next
EndsAt next (bad f) = Unit {0}

abbrev pub Advances : {l : Lang} → ℕ → ℕ → Answer l → Type 0
Advances at end (whole p next) = (at < next) × (next ≤ end)
Advances at end (bad f) = Unit {0}

-- The node at `at` ends before `next`; its parts are in order, and it has the static type, or none.
unfoldable pub Answers : (l : Lang) → List ℕ → List ℕ → ℕ → ℕ → ℕ → ℕ → Option (Static l) → Answer l → Type 0
Answers l w ls lo hi at next none r = r ≡ bad at
Answers l w ls lo hi at next (some t) r = (p : Reference l) × (r ≡ whole p next) × Refers l w ls lo hi p t

-- A type by its reference, if there is one.
abbrev pub conclusion : ℕ → Found ℕ → ℕ → Answer ml
conclusion at None next = bad at
conclusion at (Some t) next = whole t next

-- The language on the other side of a boundary.
abbrev pub other : Lang → Lang
other ml = sc
other sc = ml

-- What a boundary with the type τ around a term of the other language has: "ms t of a well-formed Scheme term has type t"; "sm t of an ML term
-- is well formed exactly if that term has type t".
abbrev pub boundary_type : (l : Lang) → Ty → Static (other l) → Option (Static l)
boundary_type ml τ s = some τ
boundary_type sc τ s = cond (same_type ml s τ) (some tt) none

-- The answer r for the boundary at `at`, by the answer for the term in it.
pub record Crossed (l : Lang) (w ls : List ℕ) (at : ℕ) (one : Answer (other l)) (r : Answer l) : Type 0 where
  pub advances : (end : ℕ) → Advances at end one → Advances at end r
  pub is : (τ : Ty) (o : Option (Static (other l))) (lo hi fault next : ℕ) → Written w (at + 1) τ → Answers (other l) w ls lo hi fault next o one
      → Answers l w ls lo hi (found o fault (λ u. at)) next (found o none (λ u. boundary_type l τ u)) r
