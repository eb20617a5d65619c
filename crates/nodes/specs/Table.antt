-- The table of kinds as code has it, computed from the table of the calculus.
use Rattle.std.specs.Prelude.{ℕ, zero, suc, Bool, true, false, ◌&&◌, List, [], ◌∷◌, Option, None, Some, leb}
use Rattle.std.specs.Borrow.{Bor}
use Rattle.calculus.specs.Verdicts.{found}
use Rattle.calculus.specs.Trees.{N, L, list, ◌to◌, Lang, ml, sc, Op1, HD, TL, FIX, NULL?, TEST, Op2, APP, ADD, SUB, CONS}
use Rattle.calculus.specs.Scope.{same_lang}
use Rattle.calculus.specs.Trees.{var, num, lam, op1, op2, if0, nil, wrong, ms, sm}
use Rattle.calculus.specs.Kinds.{Sort, type, term, Tree, Trees, table, row_in, row_for, sort_of_kind}
use Rattle.calculus.specs.Kinds as calculus
use Rattle.nodes.specs.declared.kinds.Language.{Language}
use Rattle.nodes.specs.declared.kinds.Language.TheVariants.{Ml, Scheme}
use Rattle.nodes.specs.declared.kinds.Sort as code
use Rattle.nodes.specs.declared.kinds.Sort.TheVariants.{«Type», Term}
use Rattle.nodes.specs.declared.kinds.Operator1 as code1
use Rattle.nodes.specs.declared.kinds.Operator1.TheVariants.{Hd, Tl, Fix, Null, Test}
use Rattle.nodes.specs.declared.kinds.Operator2 as code2
use Rattle.nodes.specs.declared.kinds.Operator2.TheVariants.{Apply, Add, Subtract, Cons}
use Rattle.nodes.specs.declared.kinds.Shape.{Shape}
use Rattle.nodes.specs.declared.kinds.Shape.TheVariants as s
use Rattle.nodes.specs.declared.kinds.Row as code_row
use Rattle.nodes.specs.declared.kinds.Kind as code_kind
use Rattle.nodes.specs.declared.kinds.Entry as code_entry

-- A language, a sort and sorts of the code, as the calculus has them.
abbrev pub as_lang : Language → Lang
as_lang Ml = ml
as_lang Scheme = sc

abbrev pub as_sort : code.Sort → Sort
as_sort «Type» = type
as_sort (Term l) = term (as_lang l)

abbrev pub as_sorts : List code.Sort → List Sort
as_sorts [] = []
as_sorts (s ∷ ss) = as_sort s ∷ as_sorts ss

abbrev pub same_sort : Sort → Sort → Bool
same_sort type type = true
same_sort type (term m) = false
same_sort (term l) type = false
same_sort (term l) (term m) = same_lang l m

-- The operators in code.
abbrev pub operator1 : {l : Lang} → Op1 l → code1.Operator1
operator1 HD = Hd
operator1 TL = Tl
operator1 FIX = Fix
operator1 NULL? = Null
operator1 (TEST k) = Test

abbrev pub operator2 : Op2 → code2.Operator2
operator2 APP = Apply
operator2 ADD = Add
operator2 SUB = Subtract
operator2 CONS = Cons

-- The ten shapes of terms, ms and sm as one, and the four of types.
abbrev pub shape : (s : Sort) → Tree s → Shape
shape type N = s.Numbers
shape type (L o) = s.Lump
shape type (list t) = s.List
shape type (t to u) = s.Function
shape (term l) (var i) = s.Variable
shape (term l) (num n) = s.Number
shape (term l) (lam t b) = s.Lambda
shape (term l) (op1 o a) = s.Operator1 (operator1 o)
shape (term l) (op2 o a b) = s.Operator2 (operator2 o)
shape (term l) (if0 a b c) = s.If0
shape (term l) (nil t) = s.Nil
shape (term l) (wrong c t) = s.Wrong
shape (term l) (ms t a) = s.Boundary
shape (term l) (sm t a) = s.Boundary

-- Any trees of the sorts that are due: a row's shape does not depend on its parts.
abbrev pub any_tree : (s : Sort) → Tree s
any_tree type = N
any_tree (term l) = num 0

abbrev pub any_trees : (ss : List Sort) → Trees ss
any_trees [] = tt
any_trees (s ∷ ss) = (any_tree s, any_trees ss)

-- What a row in code says.
pub record Row : Type 0 where
  pub sort : Sort
  pub shape : Shape
  pub parts : List Sort
  pub low : ℕ
  pub high : ℕ

abbrev pub read : Option code_row.Row → Option Row
read None = None
read (Some r) = Some (record { sort = as_sort r.sort; shape = r.shape; parts = as_sorts r.parts.now; low = r.low; high = r.high })

-- What the table says of a number, as a row, if it is a kind.
abbrev pub row_with : Bor (List code.Sort) → Option code_kind.Kind → Option Row
row_with ps None = None
row_with ps (Some k) = Some (record { sort = as_sort k.sort; shape = k.shape; parts = as_sorts ps.now; low = k.low; high = k.high })

abbrev pub read_entry : code_entry.Entry → Option Row
read_entry e = row_with e.parts e.kind

-- The row of a kind.
abbrev pub entry : {s : Sort} → calculus.Row s → Row
entry {s} r =
    record { sort = s; shape = shape s (r.make r.low (any_trees r.parts)); parts = r.parts; low = r.low; high = r.high }

unfoldable pub row_of : ℕ → Option Row
row_of k = found (row_in (table (sort_of_kind k)) k) None (λ r. Some (entry r))

-- What is told of a row, if there is one; and the shape of a kind.
abbrev pub told {ℓ} : {X : Type ℓ} → Option Row → X → (Row → X) → X
told None x f = x
told (Some r) x f = f r

abbrev pub shape_of : ℕ → Option Shape
shape_of k = told (row_of k) None (λ r. Some r.shape)

-- An operand is in a kind's range.
abbrev pub in_range : ℕ → ℕ → ℕ → Bool
in_range low high o = leb low o && leb o high

-- The row of a word where a node of a sort is due, if its kind and operand are due there.
abbrev pub row_due : Sort → ℕ → Option Row
row_due s w = found (row_for s w) None (λ r. Some (entry r))

-- How many numbers have a place in the table.
abbrev pub rows : ℕ
rows = 64

abbrev pub listed {ℓ} : {A : Type ℓ} → (ℕ → A) → ℕ → ℕ → List A
listed f k zero = []
listed f k (suc n) = f k ∷ listed f (suc k) n
