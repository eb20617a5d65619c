-- The table of kinds tells the sort and the shape of a tree by the tree's first word. Assumes nothing.
use Prim.Native.Nat.{ℕ, ◌%◌}
use mathlib.Core.Bool.{Bool, true, false, cond}
use mathlib.Core.List.{List, [], ◌∷◌}
use mathlib.Core.Option.{some, none-ne-some, some-injective}
use mathlib.Core.Path.{◌≡◌, refl, ap, ◌∙◌, subst}
use lib.Dec.{eqb}
use lib.ListN.{get_or}
use Rattle.calculus.specs.Trees.{ml, sc}
use Rattle.calculus.specs.Kinds.{Sort, type, term, Tree, Trees, put_tree, Row, table, row_in}
use Rattle.calculus.proofs.Views.{View, view, kind_of}
use Rattle.std.proofs.Common.{Option, None, Some}
use Rattle.nodes.specs.Table as nodes
use Rattle.nodes.specs.Table.{shape, entry, row_of, told, shape_of}

-- The shape of what a row makes is that of the row, whatever the operand and the parts.
abbrev Steady : {s : Sort} → Row s → Type 0
Steady {s} r = (o : ℕ) (ts : Trees r.parts) → (entry r).shape ≡ shape s (r.make o ts)

abbrev AllSteady : {s : Sort} → List (Row s) → Type 0
AllSteady [] = Unit {0}
AllSteady (r ∷ rs) = Steady r × AllSteady rs

steady : (s : Sort) → AllSteady (table s)
steady type = (λ o ts. refl, (λ o ts. refl, (λ o ts. refl, (λ o ts. refl, tt))))
steady (term ml) = (
  λ o ts. refl,
  (
    λ o ts. refl,
    (
      λ o ts. refl,
      (
        λ o ts. refl,
        (
          λ o ts. refl,
          (
            λ o ts. refl,
            (
              λ o ts. refl,
              (
                λ o ts. refl,
                (λ o ts. refl, (λ o ts. refl, (λ o ts. refl, (λ o ts. refl, (λ o ts. refl, (λ o ts. refl, (λ o ts. refl, tt))))))),
              ),
            ),
          ),
        ),
      ),
    ),
  ),
)
steady (term sc) = (
  λ o ts. refl,
  (
    λ o ts. refl,
    (
      λ o ts. refl,
      (
        λ o ts. refl,
        (
          λ o ts. refl,
          (
            λ o ts. refl,
            (
              λ o ts. refl,
              (λ o ts. refl, (λ o ts. refl, (λ o ts. refl, (λ o ts. refl, (λ o ts. refl, (λ o ts. refl, (λ o ts. refl, tt))))))),
            ),
          ),
        ),
      ),
    ),
  ),
)

steady_at : {s : Sort} (rs : List (Row s)) → AllSteady rs → (k : ℕ) (r : Row s) → row_in rs k ≡ some r → Steady r
steady_at [] hs k r q = absurd (none-ne-some r q)
steady_at (x ∷ rs) hs k r q = by (λ p. steady_at rs hs.1 k r p) (eqb k x.kind) q
  where
    by : (row_in rs k ≡ some r → Steady r) → (b : Bool) → cond b (some x) (row_in rs k) ≡ some r → Steady r
    by others true p = subst Steady (some-injective x r p) hs.0
    by others false p = others p

-- The code's row of a tree's first word.
row_is : {s : Sort} {t : Tree s} (v : View s t) → row_of v.row.kind ≡ Some (entry v.row)
unfolding row_of
row_is v = rw (v.home, v.listed)

pub first_row : (s : Sort) (t : Tree s) (k : List ℕ) → row_of (get_or (put_tree s t k) 0 0 % 256) ≡ Some (entry (view s t).row)
first_row s t k =
    let v = view s t in
    ap (λ (ws : List ℕ). row_of (get_or ws 0 0 % 256)) (v.spelt k) ∙ ap row_of (kind_of v) ∙ row_is v

pub sort_first : (s : Sort) (t : Tree s) (k : List ℕ) → told (row_of (get_or (put_tree s t k) 0 0 % 256)) None (λ r. Some r.sort) ≡ Some s
sort_first s t k = ap (λ (o : Option nodes.Row). told o None (λ r. Some r.sort)) (first_row s t k)

pub parts_first : (s : Sort) (t : Tree s) (k : List ℕ)
    → told (row_of (get_or (put_tree s t k) 0 0 % 256)) None (λ r. Some r.parts) ≡ Some (view s t).row.parts
parts_first s t k = ap (λ (o : Option nodes.Row). told o None (λ r. Some r.parts)) (first_row s t k)

pub shape_first : (s : Sort) (t : Tree s) (k : List ℕ) → shape_of (get_or (put_tree s t k) 0 0 % 256) ≡ Some (shape s t)
shape_first s t k =
    let v = view s t in
    ap (λ (o : Option nodes.Row). told o None (λ r. Some r.shape)) (first_row s t k)
    ∙ ap Some (steady_at (table s) (steady s) v.row.kind v.row v.listed v.operand v.parts ∙ ap (shape s) v.makes)
