-- Document 01, "One constant table gives each kind's parts and operand range": the table of kinds.
use Rattle.std.specs.Prelude.{ℕ, zero, suc, ◌+◌, ◌/◌, ◌%◌, cond, ◌&&◌, List, [], ◌∷◌, eqb, leb}
use Rattle.std.proofs.Math.Option.{Option, none, some}
use Rattle.calculus.specs.Trees.{Ty, N, L, list, ◌to◌, Lang, ml, sc, Test, is_fun, is_list, is_null, is_num, Term, var, num, lam, if0, nil, wrong}
use Rattle.calculus.specs.Trees.{ms, sm, app, add, sub, cons, hd, tl, fix, null?, test}
use Rattle.calculus.specs.Words.{largest, last_code, last_owner, put, put_ty, size, size_ty}
use Rattle.calculus.specs.Verdicts.{found}

-- What may be due at a word: a type, or a term of a language.
pub data Sort : Type 0 where
  type : Sort
  term : Lang → Sort

abbrev pub Tree : Sort → Type 0
Tree type = Ty
Tree (term l) = Term l

abbrev pub Trees : List Sort → Type 0
Trees [] = Unit {0}
Trees (s ∷ ss) = Tree s × Trees ss

-- The words of a tree of any sort, and of trees one after the other, and then k.
abbrev pub put_tree : (s : Sort) → Tree s → List ℕ → List ℕ
put_tree type t k = put_ty t k
put_tree (term l) e k = put e k

abbrev pub put_trees : (ss : List Sort) → Trees ss → List ℕ → List ℕ
put_trees [] ts k = k
put_trees (s ∷ ss) ts k = put_tree s ts.0 (put_trees ss ts.1 k)

-- How many words they have.
abbrev pub size_tree : (s : Sort) → Tree s → ℕ
size_tree type t = size_ty t
size_tree (term l) e = size e

abbrev pub size_trees : (ss : List Sort) → Trees ss → ℕ
size_trees [] ts = 0
size_trees (s ∷ ss) ts = size_tree s ts.0 + size_trees ss ts.1

-- A row of the table: a kind, its parts' sorts in order, the least and the greatest operand, and the tree that the word makes of
-- its operand and its parts.
pub record Row (s : Sort) : Type 0 where
  pub kind : ℕ
  pub parts : List Sort
  pub low : ℕ
  pub high : ℕ
  pub make : ℕ → Trees parts → Tree s

-- "the operand is 0 unless a range is given".
abbrev pub plain : {s : Sort} → ℕ → (parts : List Sort) → (Trees parts → Tree s) → Row s
plain k p f = record { kind = k; parts = p; low = 0; high = 0; make = λ o. f }

abbrev pub ranged : {s : Sort} → ℕ → ℕ → ℕ → (parts : List Sort) → (ℕ → Trees parts → Tree s) → Row s
ranged k lo hi p f = record { kind = k; parts = p; low = lo; high = hi; make = f }

abbrev pub test_of : ℕ → Test
test_of zero = is_fun
test_of (suc zero) = is_list
test_of (suc (suc zero)) = is_null
test_of (suc (suc (suc n))) = is_num

-- "Types: ..; ML: ..; Scheme: .. Parts are Scheme terms, as many as in ML."
abbrev pub table : (s : Sort) → List (Row s)
table type =
    plain 1 [] (λ ts. N)
    ∷ ranged 2 0 last_owner [] (λ o ts. L o)
    ∷ plain 3 (type ∷ []) (λ ts. list ts.0)
    ∷ plain 4 (type ∷ type ∷ []) (λ ts. ts.0 to ts.1.0)
    ∷ []
table (term ml) =
    ranged 16 0 largest [] (λ o ts. var o)
    ∷ ranged 17 0 largest [] (λ o ts. num o)
    ∷ plain 18 (type ∷ term ml ∷ []) (λ ts. lam ts.0 ts.1.0)
    ∷ plain 19 (term ml ∷ term ml ∷ []) (λ ts. app ts.0 ts.1.0)
    ∷ plain 20 (term ml ∷ []) (λ ts. fix ts.0)
    ∷ plain 21 (term ml ∷ term ml ∷ []) (λ ts. add ts.0 ts.1.0)
    ∷ plain 22 (term ml ∷ term ml ∷ []) (λ ts. sub ts.0 ts.1.0)
    ∷ plain 23 (term ml ∷ term ml ∷ term ml ∷ []) (λ ts. if0 ts.0 ts.1.0 ts.1.1.0)
    ∷ plain 24 (type ∷ []) (λ ts. nil ts.0)
    ∷ plain 25 (term ml ∷ term ml ∷ []) (λ ts. cons ts.0 ts.1.0)
    ∷ plain 26 (term ml ∷ []) (λ ts. hd ts.0)
    ∷ plain 27 (term ml ∷ []) (λ ts. tl ts.0)
    ∷ plain 28 (term ml ∷ []) (λ ts. null? ts.0)
    ∷ ranged 29 1 last_code (type ∷ []) (λ o ts. wrong o ts.0)
    ∷ plain 30 (type ∷ term sc ∷ []) (λ ts. ms ts.0 ts.1.0)
    ∷ []
table (term sc) =
    ranged 32 0 largest [] (λ o ts. var o)
    ∷ ranged 33 0 largest [] (λ o ts. num o)
    ∷ plain 34 (term sc ∷ []) (λ ts. lam tt ts.0)
    ∷ plain 35 (term sc ∷ term sc ∷ []) (λ ts. app ts.0 ts.1.0)
    ∷ plain 36 (term sc ∷ term sc ∷ []) (λ ts. add ts.0 ts.1.0)
    ∷ plain 37 (term sc ∷ term sc ∷ []) (λ ts. sub ts.0 ts.1.0)
    ∷ plain 38 (term sc ∷ term sc ∷ term sc ∷ []) (λ ts. if0 ts.0 ts.1.0 ts.1.1.0)
    ∷ plain 39 [] (λ ts. nil tt)
    ∷ plain 40 (term sc ∷ term sc ∷ []) (λ ts. cons ts.0 ts.1.0)
    ∷ plain 41 (term sc ∷ []) (λ ts. hd ts.0)
    ∷ plain 42 (term sc ∷ []) (λ ts. tl ts.0)
    ∷ ranged 43 0 3 (term sc ∷ []) (λ o ts. test (test_of o) ts.0)
    ∷ ranged 44 1 last_code [] (λ o ts. wrong o tt)
    ∷ plain 45 (type ∷ term ml ∷ []) (λ ts. sm ts.0 ts.1.0)
    ∷ []

-- The row of a kind.
abbrev pub row_in : {s : Sort} → List (Row s) → ℕ → Option (Row s)
row_in [] k = none
row_in (r ∷ rs) k = cond (eqb k r.kind) (some r) (row_in rs k)

-- "a word has no due kind or operand": the row of a word where a node of a sort is due, if its kind and operand are due there.
unfoldable pub row_for : (s : Sort) → ℕ → Option (Row s)
row_for s w = found (row_in (table s) (w % 256)) none (λ r. cond (leb r.low (w / 256) && leb (w / 256) r.high) (some r) none)

-- The sort of a kind: that in whose table it is, if in any; and of a word.
abbrev pub sort_of_kind : ℕ → Sort
sort_of_kind k = found (row_in (table type) k) (found (row_in (table (term ml)) k) (term sc) (λ r. term ml)) (λ r. type)

abbrev pub sort_of : ℕ → Sort
sort_of w = sort_of_kind (w % 256)
