-- The rules of the operators and of if0, on references.
use Rattle.std.specs.Prelude.{ℕ, ◌+◌, ◌<◌, ◌≤◌, cond, List, ◌≡◌, length, Option as Found, Some, None}
use Rattle.std.proofs.Math.Option.{Option, none, some}
use Rattle.calculus.specs.Trees.{Ty, N, L, list, ◌to◌, ml, Op1, HD, TL, FIX, NULL?, Op2, APP, ADD, SUB, CONS}
use Rattle.calculus.specs.Words.{size_ty}
use Rattle.calculus.specs.Inference.{same_type, result1, result2, result3}
use Rattle.nodes.specs.declared.kinds.Operator1.{Operator1}
use Rattle.nodes.specs.declared.kinds.Operator1.TheVariants.{Hd, Tl, Fix, Null, Test}
use Rattle.nodes.specs.declared.kinds.Operator2.{Operator2}
use Rattle.nodes.specs.declared.kinds.Operator2.TheVariants.{Apply, Add, Subtract, Cons}
use Rattle.nodes.specs.declared.kinds.Shape.TheVariants as s
use Rattle.types.specs.declared.Former.{Former}
use Rattle.types.specs.declared.Former.TheVariants as f
use Rattle.types.specs.References.{shape_at, former_at, Means}

-- A reference to the type, if there is one.
unfoldable pub Finds : List ℕ → List ℕ → ℕ → ℕ → Option Ty → Found ℕ → Type 0
Finds w ls lo hi none r = r ≡ None
Finds w ls lo hi (some t) r = (p : ℕ) × (r ≡ Some p) × Means w ls lo hi p t

-- The place past the argument type of the function type at t; none for any other type.
abbrev pub argument_end : ℕ → Ty → Found ℕ
argument_end t N = None
argument_end t (L o) = None
argument_end t (list u) = None
argument_end t (u to v) = Some (t + 1 + size_ty u)

pub record ArgumentEnd (w : List ℕ) (t : ℕ) (r : Found ℕ) : Type 0 where
  pub there : (end : ℕ) → r ≡ Some end → t < length w
  pub is : (s : Ty) (ls : List ℕ) (lo hi : ℕ) → Means w ls lo hi t s → r ≡ argument_end t s

-- The element type of the list type at t, and t where it means N; none for any other type.
abbrev pub if_list : Found Former → ℕ → Found ℕ
if_list (Some f.List) p = Some p
if_list other p = None

abbrev pub element_of : List ℕ → ℕ → Found ℕ
element_of w t = if_list (former_at w t) (t + 1)

abbrev pub if_numbers : Found Former → ℕ → Found ℕ
if_numbers (Some f.Numbers) p = Some p
if_numbers other p = None

abbrev pub number_of : List ℕ → ℕ → Found ℕ
number_of w t = if_numbers (former_at w t) t

-- r, where p and q mean one type.
abbrev pub IfSame : List ℕ → List ℕ → ℕ → ℕ → ℕ → Found ℕ → Type 0
IfSame w ls p q r out =
    (t u : Ty) (lo hi lo' hi' : ℕ) → hi ≤ length w → Means w ls lo hi p t → Means w ls lo' hi' q u
    → out ≡ cond (same_type ml t u) (Some r) None

-- The rule of an operator of one part, and of two, on references.
abbrev pub Finds1 : Op1 ml → List ℕ → List ℕ → ℕ → Found ℕ → Type 0
Finds1 o w ls t r = (s : Ty) (lo hi : ℕ) → hi ≤ length w → Means w ls lo hi t s → Finds w ls lo hi (result1 o s) r

abbrev pub Finds2 : Op2 → List ℕ → List ℕ → ℕ → ℕ → Found ℕ → Type 0
Finds2 o w ls t u r =
    (s v : Ty) (lo hi : ℕ) → hi ≤ length w → Means w ls lo hi t s → Means w ls lo hi u v → Finds w ls lo hi (result2 ml o s v) r

-- An operator in code, of one part, at a place; Scheme's tests have no type. A null? has N of whichever operator of one part stands there. An
-- operator of two parts; and if0.
abbrev pub Result1 : Operator1 → List ℕ → List ℕ → ℕ → ℕ → Found ℕ → Type 0
Result1 Hd w ls at t r = Finds1 HD w ls t r
Result1 Tl w ls at t r = Finds1 TL w ls t r
Result1 Fix w ls at t r = Finds1 FIX w ls t r
Result1 Null w ls at t r = (o : Operator1) → shape_at w at ≡ Some (s.Operator1 o) → Finds1 NULL? w ls t r
Result1 Test w ls at t r = Unit {0}

abbrev pub as_op2 : Operator2 → Op2
as_op2 Apply = APP
as_op2 Add = ADD
as_op2 Subtract = SUB
as_op2 Cons = CONS

abbrev pub Result3 : List ℕ → List ℕ → ℕ → ℕ → ℕ → Found ℕ → Type 0
Result3 w ls t u v r =
    (a b c : Ty) (lo hi : ℕ) → hi ≤ length w → Means w ls lo hi t a → Means w ls lo hi u b → Means w ls lo hi v c
    → Finds w ls lo hi (result3 ml a b c) r
