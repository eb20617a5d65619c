-- The short way: that a word stands alone is told by its row, and that the kinds without parts are eight. Assumes nothing.
use Rattle.std.proofs.Common.{ℕ, ◌%◌, ◌/◌, ◌<◌, ◌≤◌, Bool, true, false, cond, ◌&&◌, ◌||◌, Option, None, Some, ◌≡◌, refl, sym, ◌∙◌, ap, arith, length}
use Rattle.std.proofs.Math.Option.{none, some}
use Rattle.std.proofs.Math.Option as math
use lib.Dec.{eqb}
use borrow.Author.Tests.{ne_eqb}
use Rattle.calculus.specs.Verdicts.{found}
use Rattle.calculus.specs.Trees.{ml, sc}
use Rattle.calculus.specs.Kinds.{Sort, type, term, row_for, sort_of}
use Rattle.calculus.specs.Kinds as calculus
use Rattle.calculus.specs.Nodes.{alone}
use Rattle.nodes.specs.declared.kinds.Row as code_row
use Rattle.nodes.specs.Table.{as_sort, as_sorts, same_sort, Row, read, entry, row_of, told, in_range, row_due, rows}
use Rattle.nodes.proofs.Dues.{sort_told, no_kind, due_told}
use Rattle.nodes.proofs.Rows.{as_many}
use Rattle.nodes.proofs.Table.{past, every_kind}

alone_due : (w : ℕ) → alone w ≡ told (row_due (sort_of w) w) false (λ r. eqb (length r.parts) 0)
unfolding alone
alone_due w = by (row_for (sort_of w) w)
  where
    by : (o : math.Option (calculus.Row (sort_of w)))
        → found o false (λ r. eqb (length r.parts) 0) ≡ told (found o None (λ r. Some (entry r))) false (λ r. eqb (length r.parts) 0)
    by none = refl
    by (some r) = refl

same_itself : (s : Sort) → same_sort s s ≡ true
same_itself type = refl
same_itself (term ml) = refl
same_itself (term sc) = refl

pub not_alone : (w : ℕ) → None ≡ row_of (w % 256) → false ≡ alone w
not_alone w e = sym (alone_due w ∙ ap (λ (o : Option Row). told o false (λ r. eqb (length r.parts) 0)) (sym (no_kind (sort_of w) w e)))

module _ (w : ℕ) (r : code_row.Row) (known : read (Some r) ≡ row_of (w % 256)) where
  abbrev row : Row
  row = record { sort = as_sort r.sort; shape = r.shape; parts = as_sorts r.parts.now; low = r.low; high = r.high }

  ranged : (b : Bool) → told (cond b (Some row) None) false (λ x. eqb (length x.parts) 0) ≡ cond b (eqb (length row.parts) 0) false
  ranged true = refl
  ranged false = refl

  of_its_sort : same_sort row.sort (sort_of w) ≡ true
  of_its_sort = rw (sort_told (w % 256) row known) (same_itself (sort_of w))

  alone_is : alone w ≡ cond (in_range r.low r.high (w / 256)) (eqb (length r.parts.now) 0) false
  alone_is =
      alone_due w
      ∙ ap (λ (o : Option Row). told o false (λ x. eqb (length x.parts) 0)) (due_told (sort_of w) w row known)
      ∙ ap (λ (b : Bool). told (cond (b && in_range r.low r.high (w / 256)) (Some row) None) false (λ x. eqb (length x.parts) 0)) of_its_sort
      ∙ ranged (in_range r.low r.high (w / 256))
      ∙ ap (λ (n : ℕ). cond (in_range r.low r.high (w / 256)) (eqb n 0) false) (as_many r.parts.now)

  pub in_its_range : true ≡ eqb (length r.parts.now) 0 → in_range r.low r.high (w / 256) ≡ alone w
  in_its_range e = sym (alone_is ∙ ap (λ (b : Bool). cond (in_range r.low r.high (w / 256)) b false) (sym e) ∙ by (in_range r.low r.high (w / 256)))
    where
      by : (b : Bool) → cond b true false ≡ b
      by true = refl
      by false = refl

  pub has_parts : false ≡ eqb (length r.parts.now) 0 → false ≡ alone w
  has_parts e = sym (alone_is ∙ ap (λ (b : Bool). cond (in_range r.low r.high (w / 256)) b false) (sym e) ∙ by (in_range r.low r.high (w / 256)))
    where
      by : (b : Bool) → cond b false false ≡ false
      by true = refl
      by false = refl

-- The kinds of which the row has no parts are these eight. That a kind is none of them is told by a fact for each.
abbrev pub is_lone : ℕ → Bool
is_lone k = eqb k 1 || (eqb k 2 || (eqb k 16 || (eqb k 17 || (eqb k 32 || (eqb k 33 || (eqb k 39 || eqb k 44))))))

abbrev pub NoneOf : ℕ → Type 0
NoneOf k =
    (((((((Unit {0} × ¬ (k ≡ 1)) × ¬ (k ≡ 2)) × ¬ (k ≡ 16)) × ¬ (k ≡ 17)) × ¬ (k ≡ 32)) × ¬ (k ≡ 33)) × ¬ (k ≡ 39)) × ¬ (k ≡ 44)

not_lone : (k : ℕ) → NoneOf k → is_lone k ≡ false
not_lone k n =
    rw (
      ne_eqb k 1 n.0.0.0.0.0.0.0.1,
      ne_eqb k 2 n.0.0.0.0.0.0.1,
      ne_eqb k 16 n.0.0.0.0.0.1,
      ne_eqb k 17 n.0.0.0.0.1,
      ne_eqb k 32 n.0.0.0.1,
      ne_eqb k 33 n.0.0.1,
      ne_eqb k 39 n.0.1,
      ne_eqb k 44 n.1,
    )

none_past : (k : ℕ) → rows ≤ k → is_lone k ≡ false
none_past k h =
    let no : (n : ℕ) → n < 64 → ¬ (k ≡ n) = λ n g e. omega (arith, g, e, h) in
    not_lone k (
      (
        ((((((tt, no 1 (omega arith)), no 2 (omega arith)), no 16 (omega arith)), no 17 (omega arith)), no 32 (omega arith)), no 33 (omega arith)),
        no 39 (omega arith),
      ),
      no 44 (omega arith),
    )

pub lone_kinds : (k : ℕ) → told (row_of k) false (λ r. eqb (length r.parts) 0) ≡ is_lone k
unfolding row_of
lone_kinds k =
    every_kind (λ j. told (row_of j) false (λ r. eqb (length r.parts) 0)) is_lone refl (λ j h. rw (past j h, none_past j h)) k

pub no_other : (k : ℕ) → NoneOf k → told (row_of k) false (λ r. eqb (length r.parts) 0) ≡ false
no_other k n = lone_kinds k ∙ not_lone k n
