-- Trees by the code's table: the row of a tree's first word, its parts and its shape. Assumes nothing.
use Prim.Native.Nat.{ℕ, ◌%◌}
use mathlib.Core.List.{List, []}
use mathlib.Core.Option.{Option}
use mathlib.Core.Path.{◌≡◌, sym, ap, ◌∙◌}
use lib.ListN.{length, get_or}
use Rattle.calculus.specs.Words.{word}
use Rattle.calculus.specs.Verdicts.{found}
use Rattle.calculus.specs.Scope.{part_count}
use Rattle.calculus.specs.Kinds.{Sort, Tree, put_tree, Row, table, row_in}
use Rattle.calculus.proofs.Views.{view, kind_of, sort_of_lem}
use Rattle.std.proofs.Common.{Some}
use Rattle.nodes.specs.Table.{shape, shape_of}
use Rattle.nodes.proofs.Shapes.{shape_first}

-- A tree's first word.
abbrev pub head_of : (s : Sort) → Tree s → ℕ
head_of s t = word (view s t).row.kind (view s t).operand

pub head_is : (s : Sort) (t : Tree s) (k ws : List ℕ) → ws ≡ put_tree s t k → get_or ws 0 0 ≡ head_of s t
head_is s t k ws e = ap (λ (l : List ℕ). get_or l 0 0) (e ∙ (view s t).spelt k)

pub count_is : (s : Sort) (t : Tree s) → part_count (head_of s t) ≡ length (view s t).row.parts
count_is s t =
    let v = view s t in
    ap (λ (z : Sort). found (row_in (table z) (head_of s t % 256)) 0 (λ r. length r.parts)) (sort_of_lem v)
    ∙ ap (λ (k : ℕ). found (row_in (table s) k) 0 (λ r. length r.parts)) (kind_of v)
    ∙ ap (λ (o : Option (Row s)). found o 0 (λ r. length r.parts)) v.listed

-- The kind's shape is the tree's.
pub shape_is : (s : Sort) (t : Tree s) → shape_of (head_of s t % 256) ≡ Some (shape s t)
shape_is s t = sym (ap (λ (ws : List ℕ). shape_of (get_or ws 0 0 % 256)) ((view s t).spelt [])) ∙ shape_first s t []
