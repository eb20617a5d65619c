-- What is due at a word, by the table in code: where the calculus looks for a row of a sort, the code looks up one row by the kind. Assumes
-- nothing.
use Rattle.std.proofs.Common.{ℕ, ◌%◌, ◌/◌, Bool, true, false, cond, ◌&&◌, Option, None, Some, ◌≡◌, refl, sym, ◌∙◌, ap}
use Rattle.std.proofs.lemmas.Option.{none-some}
use Rattle.std.proofs.Math.Option.{none, some}
use Rattle.std.proofs.Math.Option as math
use Rattle.calculus.specs.Verdicts.{found}
use Rattle.calculus.specs.Trees.{ml, sc}
use Rattle.calculus.specs.Kinds.{Sort, type, term, table, row_in, row_for, sort_of_kind}
use Rattle.calculus.specs.Kinds as calculus
use Rattle.nodes.specs.Table.{same_sort, Row, entry, row_of, told, in_range, row_due}
use Rattle.nodes.proofs.Table.{not_in, past, every_kind}

-- A row is of its kind's sort.
pub sort_told : (k : ℕ) (x : Row) → Some x ≡ row_of k → x.sort ≡ sort_of_kind k
unfolding row_of
sort_told k x e = by (row_in (table (sort_of_kind k)) k) e
  where
    by : (o : math.Option (calculus.Row (sort_of_kind k))) → Some x ≡ found o None (λ r. Some (entry r)) → x.sort ≡ sort_of_kind k
    by none g = absurd (none-some x (sym g))
    by (some r) g = ap (λ (o : Option Row). told o x.sort (λ r. r.sort)) g

abbrev of_sort : Sort → Option Row → Option Row
of_sort s o = told o None (λ r. cond (same_sort r.sort s) (Some r) None)

-- The code's row tells that of every sort: one computed test for each.
found_is : (s : Sort) (k : ℕ) → found (row_in (table s) k) None (λ r. Some (entry r)) ≡ of_sort s (row_of k)
unfolding row_of
found_is type =
    every_kind (λ k. found (row_in (table type) k) None (λ r. Some (entry r))) (λ k. of_sort type (row_of k)) refl
    (λ k h. rw (past k h, not_in (table type) tt k h))
found_is (term ml) =
    every_kind (λ k. found (row_in (table (term ml)) k) None (λ r. Some (entry r))) (λ k. of_sort (term ml) (row_of k)) refl
    (λ k h. rw (past k h, not_in (table (term ml)) tt k h))
found_is (term sc) =
    every_kind (λ k. found (row_in (table (term sc)) k) None (λ r. Some (entry r))) (λ k. of_sort (term sc) (row_of k)) refl
    (λ k h. rw (past k h, not_in (table (term sc)) tt k h))

abbrev in_its_range : ℕ → Option Row → Option Row
in_its_range o x = told x None (λ r. cond (in_range r.low r.high o) (Some r) None)

ranged : {s : Sort} (o : ℕ) (i : math.Option (calculus.Row s))
    → found (found i none (λ r. cond (in_range r.low r.high o) (some r) none)) None (λ r. Some (entry r))
    ≡ in_its_range o (found i None (λ r. Some (entry r)))
ranged o none = refl
ranged {s} o (some r) = by (in_range r.low r.high o)
  where
    by : (b : Bool) → found (cond b (some r) none) None (λ r. Some (entry r)) ≡ cond b (Some (entry r)) None
    by true = refl
    by false = refl

both : (s : Sort) (o : ℕ) (x : Option Row)
    → in_its_range o (of_sort s x) ≡ told x None (λ r. cond (same_sort r.sort s && in_range r.low r.high o) (Some r) None)
both s o None = refl
both s o (Some r) = by (same_sort r.sort s)
  where
    by : (b : Bool) → in_its_range o (cond b (Some r) None) ≡ cond (b && in_range r.low r.high o) (Some r) None
    by true = refl
    by false = refl

-- A due word, by the code's row.
pub due_by : (s : Sort) (w : ℕ)
    → row_due s w ≡ told (row_of (w % 256)) None (λ r. cond (same_sort r.sort s && in_range r.low r.high (w / 256)) (Some r) None)
unfolding row_for
due_by s w = ranged (w / 256) (row_in (table s) (w % 256)) ∙ ap (in_its_range (w / 256)) (found_is s (w % 256)) ∙ both s (w / 256) (row_of (w % 256))

pub no_kind : (s : Sort) (w : ℕ) → None ≡ row_of (w % 256) → None ≡ row_due s w
no_kind s w e =
    sym (due_by s w
    ∙ ap (λ (o : Option Row). told o None (λ r. cond (same_sort r.sort s && in_range r.low r.high (w / 256)) (Some r) None)) (sym e))

-- The ways out of the look-up, where there is a row.
module _ (s : Sort) (w : ℕ) (x : Row) (known : Some x ≡ row_of (w % 256)) where
  pub due_told : row_due s w ≡ cond (same_sort x.sort s && in_range x.low x.high (w / 256)) (Some x) None
  due_told =
      due_by s w
      ∙ ap (λ (o : Option Row). told o None (λ r. cond (same_sort r.sort s && in_range r.low r.high (w / 256)) (Some r) None)) (sym known)

  pub of_another : false ≡ same_sort x.sort s → None ≡ row_due s w
  of_another h = sym (due_told ∙ rw (sym h))

  pub out_of_range : false ≡ in_range x.low x.high (w / 256) → None ≡ row_due s w
  out_of_range h = sym (due_told ∙ ap (λ (b : Bool). cond (same_sort x.sort s && b) (Some x) None) (sym h) ∙ none (same_sort x.sort s))
    where
      none : (b : Bool) → cond (b && false) (Some x) None ≡ None
      none true = refl
      none false = refl

  pub is_due : true ≡ same_sort x.sort s → true ≡ in_range x.low x.high (w / 256) → Some x ≡ row_due s w
  is_due h i =
      sym (due_told
      ∙ ap (λ (b : Bool). cond (b && in_range x.low x.high (w / 256)) (Some x) None) (sym h)
      ∙ ap (λ (b : Bool). cond b (Some x) None) (sym i))
