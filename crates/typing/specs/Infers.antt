-- What ML inference and Scheme well-formedness answer.
use Rattle.std.specs.Prelude.{ℕ, ◌+◌, ◌<◌, ◌≤◌, List, ◌≡◌, length, get_or, drop, Option as Found, Some}
use Rattle.calculus.specs.Trees.{Lang, Term}
use Rattle.calculus.specs.Words.{put, size}
use Rattle.calculus.specs.Typing.{Lambdas}
use Rattle.calculus.specs.Inference.{infer}
use Rattle.calculus.specs.Faults.{fault}
use Rattle.nodes.specs.declared.kinds.Operator1.{Operator1}
use Rattle.nodes.specs.declared.kinds.Operator2.{Operator2}
use Rattle.nodes.specs.declared.kinds.Shape.{Shape}
use Rattle.nodes.specs.declared.kinds.Shape.TheVariants as s
use Rattle.types.specs.Links.{LinkTo, KeptBefore}
use Rattle.types.specs.References.{shape_at}
use Rattle.typing.specs.declared.Typed.{Typed}
use Rattle.typing.specs.Answers.{Answer, EndsAt, Advances, Answers}
use Rattle.typing.specs.Variables.{Scope}

-- What each of the two functions asks: a place of the file's words, behind the first, and a link for each word.
pub record Begins (w : List ℕ) (at : ℕ) (ls : List ℕ) : Type 0 where
  pub behind : 0 < at
  pub within : at ≤ length w
  pub few : length w ≤ 4096
  pub linked : length ls ≡ length w

-- A place of the file's words, behind the first; the shape of the word there, if it is of a kind, is none of those that have a part which is a
-- term.
pub record Leaf (w : List ℕ) (at : ℕ) (shape : Found Shape) : Type 0 where
  pub behind : 0 < at
  pub within : at < length w
  pub known : shape_at w at ≡ shape
  pub no_lambda : shape ≡ Some s.Lambda → ⊥
  pub no_operator_1 : (o : Operator1) → shape ≡ Some (s.Operator1 o) → ⊥
  pub no_operator_2 : (o : Operator2) → shape ≡ Some (s.Operator2 o) → ⊥
  pub no_if0 : shape ≡ Some s.If0 → ⊥
  pub no_boundary : shape ≡ Some s.Boundary → ⊥

-- A variable is one word: an answer for it, in either language, ends behind it.
abbrev pub VariableEnds : {l : Lang} → Found Shape → ℕ → Answer l → Type 0
VariableEnds shape at r = shape ≡ Some s.Variable → EndsAt (at + 1) r

-- An ML lambda links to the type of its body, and no other link changes.
pub record Function (at : ℕ) (body : Typed) (before after : List ℕ) (r : Typed) : Type 0 where
  pub same : length after ≡ length before
  pub answer : r ≡ record { reference = at; end = body.end }
  pub kept : (i : ℕ) → (i ≡ at → ⊥) → get_or after i 0 ≡ get_or before i 0
  pub own : LinkTo body.reference (get_or after at 0)

-- The answer for the term e at the place p, inside the lambdas Γ: its static type, by the links from its own word up to its end, or its fault.
pub record Told (l : Lang) (w ls : List ℕ) (p : ℕ) (Γ : Lambdas) (e : Term l) (r : Answer l) : Type 0 where
  pub answer : Answers l w ls p (p + size e) (fault p Γ e) (p + size e) (infer Γ e) r

-- Of the term of the language that is written at a place, inside the lambdas that the links hold. No link before the place changes.
pub record Infers (l : Lang) (w : List ℕ) (at scope : ℕ) (before after : List ℕ) (r : Answer l) : Type 0 where
  pub same : length after ≡ length before
  pub kept : KeptBefore at before after
  pub advances : Advances at (length w) r
  pub is : (e : Term l) (Γ : Lambdas) (k : List ℕ) → drop at w ≡ put e k → Scope w before at scope Γ → Told l w after at Γ e r
