-- The table of the code is the specification's, by one computed test, and a law that reads it at a kind. Assumes nothing.
use Rattle.std.proofs.Common.{ℕ, zero, suc, ◌+◌, ◌%◌, ◌<◌, ◌≤◌, Bool, true, false, List, [], ◌∷◌, Option, None, ◌≡◌, refl, sym, ◌∙◌, ap}
use Rattle.std.proofs.Common.{arith, slice_index_or, map, length, drop}
use Rattle.std.proofs.Math.Option.{none}
use lib.Dec.{leb, ltb, when}
use lib.ListN.{get_or}
use borrow.Author.Tests.{ne_eqb, ltb-true, ltb-false, leb-true}
use native.Mathlib.Nat.{add-zero, zero-add, add-suc, suc-add, le_of_suc-le-suc, not-suc-le-zero}
use Rattle.calculus.specs.Verdicts.{found}
use Rattle.calculus.specs.Scope.{part_count}
use Rattle.calculus.specs.Kinds.{Sort, type, term, Row, table, row_in, sort_of_kind}
use Rattle.calculus.specs.Trees.{ml, sc}
use Rattle.nodes.specs.declared.kinds.Entry as code_entry
use Rattle.nodes.specs.Table.{read_entry, row_of, told, rows, listed}
use Rattle.nodes.specs.Table as nodes

-- A list whose items read as what a function makes of the numbers from one on: its k-th item reads as what it makes of that many numbers on.
module _ {A B : Type 0} (f : A → B) (g : ℕ → B) where
  read_in : (xs : List A) (i n : ℕ) → map f xs ≡ listed g i n → (k : ℕ) → k < n → (d : A) → f (slice_index_or xs k d) ≡ g (i + k)
  read_in xs i zero e k h d = absurd (not-suc-le-zero h)
  read_in [] i (suc n) e k h d = absurd (omega (arith, ap length e))
  read_in (x ∷ xs) i (suc n) e zero h d = rw add-zero (ap (λ (l : List B). get_or l 0 (f x)) e)
  read_in (x ∷ xs) i (suc n) e (suc k) h d =
      read_in xs (suc i) n (ap (λ (l : List B). drop 1 l) e) k (le_of_suc-le-suc h) d ∙ ap g (suc-add i k ∙ sym (add-suc i k))

  pub read_at : (xs : List A) (n : ℕ) → map f xs ≡ listed g 0 n → (k : ℕ) → k < n → (d : A) → f (slice_index_or xs k d) ≡ g k
  read_at xs n e k h d = read_in xs 0 n e k h d ∙ ap g (zero-add k)

pub entry_at : (xs : List code_entry.Entry) (n : ℕ) → map (λ (e : code_entry.Entry). read_entry e) xs ≡ listed row_of 0 n → (k : ℕ) → k < n
    → (d : code_entry.Entry) → read_entry (slice_index_or xs k d) ≡ row_of k
entry_at xs n e k h d = read_at (λ (x : code_entry.Entry). read_entry x) row_of xs n e k h d

module _ {A : Type 0} (f : ℕ → A) (d : A) where
  from_at : (n i k : ℕ) → k < n → get_or (listed f i n) k d ≡ f (i + k)
  from_at zero i k h = absurd (not-suc-le-zero h)
  from_at (suc n) i zero h = rw add-zero
  from_at (suc n) i (suc k) h = from_at n (suc i) k (le_of_suc-le-suc h) ∙ ap f (suc-add i k ∙ sym (add-suc i k))

  pub listed_at : (n k : ℕ) → k < n → get_or (listed f 0 n) k d ≡ f k
  listed_at n k h = from_at n 0 k h ∙ ap f (zero-add k)

-- Two functions that make the same list agree below its length.
pub same_list : {A : Type 0} (f g : ℕ → A) (n : ℕ) → listed f 0 n ≡ listed g 0 n → (k : ℕ) → k < n → f k ≡ g k
same_list f g n e k h = sym (listed_at f (f 0) n k h) ∙ ap (λ (l : List _). get_or l k (f 0)) e ∙ listed_at g (f 0) n k h

-- No kind past the last row is in a table.
abbrev pub Below : {s : Sort} → List (Row s) → Type 0
Below [] = Unit {0}
Below (r ∷ rs) = when (ltb r.kind rows) (Below rs)

pub not_in : {s : Sort} (rs : List (Row s)) → Below rs → (k : ℕ) → rows ≤ k → row_in rs k ≡ none
not_in [] b k h = refl
not_in (r ∷ rs) b k h = by (ltb r.kind rows) refl b (λ t. not_in rs t k h)
  where
    by : (t : Bool) → ltb r.kind rows ≡ t → when t (Below rs) → (Below rs → row_in rs k ≡ none) → row_in (r ∷ rs) k ≡ none
    by true e u more = rw (ne_eqb k r.kind (λ p. omega (arith, ltb-true r.kind rows e))) (more u)
    by false e u more = absurd u

pub past : (k : ℕ) → rows ≤ k → row_of k ≡ None
unfolding row_of
past k h = rw (not_in (table type) tt k h, not_in (table (term ml)) tt k h, not_in (table (term sc)) tt k h)

-- The one law of the table: what is computed alike at each kind, and alike past the last, is alike at every number.
pub every_kind : {X : Type 0} (f g : ℕ → X) → listed f 0 rows ≡ listed g 0 rows → ((k : ℕ) → rows ≤ k → f k ≡ g k) → (k : ℕ) → f k ≡ g k
every_kind f g e far k = by (ltb k rows) refl
  where
    by : (t : Bool) → ltb k rows ≡ t → f k ≡ g k
    by true h = same_list f g rows e k (ltb-true k rows h)
    by false h = far k (ltb-false k rows h)

-- What hangs on a kind's row alone.
pub by_rows : {X : Type 0} (f g : Option nodes.Row → X) → listed (λ k. f (row_of k)) 0 rows ≡ listed (λ k. g (row_of k)) 0 rows
    → f None ≡ g None → (k : ℕ) → f (row_of k) ≡ g (row_of k)
by_rows f g e z = every_kind (λ k. f (row_of k)) (λ k. g (row_of k)) e (λ k h. rw (past k h) z)

-- How many parts a kind has, by its row.
pub row_count : (w : ℕ) → told (row_of (w % 256)) 0 (λ r. length r.parts) ≡ part_count w
unfolding row_of
row_count w =
    every_kind (λ k. told (row_of k) 0 (λ r. length r.parts)) (λ k. found (row_in (table (sort_of_kind k)) k) 0 (λ r. length r.parts)) refl
    (λ k h. rw (past k h, not_in (table type) tt k h, not_in (table (term ml)) tt k h, not_in (table (term sc)) tt k h)) (w % 256)

pub count_few : (w : ℕ) → part_count w ≤ 3
unfolding row_of
count_few w =
    rw (sym (row_count w)) (leb-true (told (row_of (w % 256)) 0 (λ r. length r.parts)) 3
    (by_rows (λ o. leb (told o 0 (λ r. length r.parts)) 3) (λ o. true) refl refl (w % 256)))

-- So many parts has a number below the table's end, by its item; and none has one past it.
pub parts_listed : (xs : List code_entry.Entry) (n : ℕ)
    → map (λ (e : code_entry.Entry). length e.parts.now) xs ≡ listed (λ k. told (row_of k) 0 (λ r. length r.parts)) 0 n
    → (w : ℕ) → w % 256 < n → (d : code_entry.Entry) → length (slice_index_or xs (w % 256) d).parts.now ≡ part_count w
parts_listed xs n e w h d =
    read_at (λ (x : code_entry.Entry). length x.parts.now) (λ k. told (row_of k) 0 (λ r. length r.parts)) xs n e (w % 256) h d ∙ row_count w

pub parts_few : (xs : List code_entry.Entry) (n : ℕ)
    → map (λ (e : code_entry.Entry). length e.parts.now) xs ≡ listed (λ k. told (row_of k) 0 (λ r. length r.parts)) 0 n
    → (w : ℕ) → w % 256 < n → (d : code_entry.Entry) → length (slice_index_or xs (w % 256) d).parts.now ≤ 3
parts_few xs n e w h d = rw (parts_listed xs n e w h d) (count_few w)

pub parts_past : (w : ℕ) → rows ≤ w % 256 → 0 ≡ part_count w
parts_past w h = sym (ap (λ (o : Option nodes.Row). told o 0 (λ r. length r.parts)) (past (w % 256) h)) ∙ row_count w
