-- The table of kinds and the words of trees: what a row makes has the row's word and then its parts' words, is in range, and nests one
-- deeper than its parts. One law for each row, found by the kind. Assumes nothing.
use Prim.Native.Nat.{ℕ, zero, suc, ◌/◌, ◌%◌, ◌≤◌, ◌<◌, max}
use mathlib.Core.Bool.{Bool, true, false, cond, ◌&&◌}
use mathlib.Core.List.{List, [], ◌∷◌}
use mathlib.Core.Option.{none, some, some-injective, none-ne-some}
use mathlib.Core.Path.{◌≡◌, refl, sym, ap, ◌∙◌, subst}
use lib.Dec.{eqb, leb}
use borrow.Author.Tests.{eqb-true, leb-true, le-leb}
use native.Mathlib.Omega.{arith}
use native.Mathlib.Nat.{zero-max}
use Rattle.calculus.specs.Trees.{ml, sc}
use Rattle.calculus.specs.Words.{word, test_number, put, put_ty}
use Rattle.calculus.specs.Limits.{InRangeTy, InRange, nesting_ty, nesting}
use Rattle.calculus.specs.Nodes.{TreeInRange}
use Rattle.calculus.proofs.Verdicts.{found_some}
use Rattle.calculus.specs.Kinds.{Sort, type, term, Tree, Trees, put_tree, put_trees, Row, plain, test_of, table, row_in, row_for}

-- Ranges of trees in a row; nesting, of a tree of any sort and of trees in a row.
abbrev pub TreesInRange : (ss : List Sort) → Trees ss → Type 0
TreesInRange [] ts = Unit {0}
TreesInRange (s ∷ ss) ts = TreeInRange s ts.0 × TreesInRange ss ts.1

abbrev pub nesting_tree : (s : Sort) → Tree s → ℕ
nesting_tree type t = nesting_ty t
nesting_tree (term l) e = nesting e

abbrev pub deepest : (ss : List Sort) → Trees ss → ℕ
deepest [] ts = 0
deepest (s ∷ []) ts = nesting_tree s ts.0
deepest (s ∷ t ∷ ss) ts = max (nesting_tree s ts.0) (deepest (t ∷ ss) ts.1)

-- What a row makes of an operand and parts.
pub record Made {s : Sort} (r : Row s) (o : ℕ) (ts : Trees r.parts) : Type 0 where
  pub spelt : (k : List ℕ) → put_tree s (r.make o ts) k ≡ word r.kind o ∷ put_trees r.parts ts k
  pub ranged : TreesInRange r.parts ts → TreeInRange s (r.make o ts)
  pub nested : nesting_tree s (r.make o ts) ≡ suc (deepest r.parts ts)

pub record Law {s : Sort} (r : Row s) : Type 0 where
  pub made : (o : ℕ) → r.low ≤ o → o ≤ r.high → (ts : Trees r.parts) → Made r o ts

abbrev pub Laws : {s : Sort} → List (Row s) → Type 0
Laws [] = Unit {0}
Laws (r ∷ rs) = Law r × Laws rs

plainly : {s : Sort} {k : ℕ} {ps : List Sort} {f : Trees ps → Tree s} →
    ((ts : Trees ps) (ks : List ℕ) → put_tree s (f ts) ks ≡ k ∷ put_trees ps ts ks)
    → ((ts : Trees ps) → TreesInRange ps ts → TreeInRange s (f ts)) → ((ts : Trees ps) → nesting_tree s (f ts) ≡ suc (deepest ps ts))
    → Law {s = s} (plain k ps f)
plainly {k = k} {ps = ps} spelt in-range nests =
    record {
      made = λ o lo hi ts.
          let e : k ≡ word k o = omega arith in
          record { spelt = λ ks. spelt ts ks ∙ ap (λ (w : ℕ). w ∷ put_trees ps ts ks) e; ranged = in-range ts; nested = nests ts };
    }

test_number_lem : (o : ℕ) → o ≤ 3 → test_number (test_of o) ≡ o
test_number_lem zero h = refl
test_number_lem (suc zero) h = refl
test_number_lem (suc (suc zero)) h = refl
test_number_lem (suc (suc (suc n))) h = omega arith

infixr 20 ◌also◌
abbrev ◌also◌ : {A B : Type 0} → A → B → A × B
a also b = (a, b)

laws : (s : Sort) → Laws (table s)
unfolding put put_ty InRange InRangeTy nesting nesting_ty
laws type =
    plainly (λ ts ks. refl) (λ ts h. tt) (λ ts. refl)
    also record { made = λ o lo hi ts. record { spelt = λ ks. refl; ranged = λ h. hi; nested = refl } }
    also plainly (λ ts ks. refl) (λ ts h. h.0) (λ ts. refl)
    also plainly (λ ts ks. refl) (λ ts h. (h.0, h.1.0)) (λ ts. refl)
    also tt
laws (term ml) =
    record { made = λ o lo hi ts. record { spelt = λ ks. refl; ranged = λ h. hi; nested = refl } }
    also record { made = λ o lo hi ts. record { spelt = λ ks. refl; ranged = λ h. hi; nested = refl } }
    also plainly (λ ts ks. refl) (λ ts h. (h.0, h.1.0)) (λ ts. refl)
    also plainly (λ ts ks. refl) (λ ts h. (h.0, h.1.0)) (λ ts. refl)
    also plainly (λ ts ks. refl) (λ ts h. h.0) (λ ts. refl)
    also plainly (λ ts ks. refl) (λ ts h. (h.0, h.1.0)) (λ ts. refl)
    also plainly (λ ts ks. refl) (λ ts h. (h.0, h.1.0)) (λ ts. refl)
    also plainly (λ ts ks. refl) (λ ts h. (h.0, h.1.0, h.1.1.0)) (λ ts. refl)
    also plainly (λ ts ks. refl) (λ ts h. h.0) (λ ts. refl)
    also plainly (λ ts ks. refl) (λ ts h. (h.0, h.1.0)) (λ ts. refl)
    also plainly (λ ts ks. refl) (λ ts h. h.0) (λ ts. refl)
    also plainly (λ ts ks. refl) (λ ts h. h.0) (λ ts. refl)
    also plainly (λ ts ks. refl) (λ ts h. h.0) (λ ts. refl)
    also record { made = λ o lo hi ts. record { spelt = λ ks. refl; ranged = λ h. (lo, hi, h.0); nested = refl } }
    also plainly (λ ts ks. refl) (λ ts h. (h.0, h.1.0)) (λ ts. refl)
    also tt
laws (term sc) =
    record { made = λ o lo hi ts. record { spelt = λ ks. refl; ranged = λ h. hi; nested = refl } }
    also record { made = λ o lo hi ts. record { spelt = λ ks. refl; ranged = λ h. hi; nested = refl } }
    also plainly (λ ts ks. refl) (λ ts h. (tt, h.0)) (λ ts. ap suc (zero-max _))
    also plainly (λ ts ks. refl) (λ ts h. (h.0, h.1.0)) (λ ts. refl)
    also plainly (λ ts ks. refl) (λ ts h. (h.0, h.1.0)) (λ ts. refl)
    also plainly (λ ts ks. refl) (λ ts h. (h.0, h.1.0)) (λ ts. refl)
    also plainly (λ ts ks. refl) (λ ts h. (h.0, h.1.0, h.1.1.0)) (λ ts. refl)
    also plainly (λ ts ks. refl) (λ ts h. tt) (λ ts. refl)
    also plainly (λ ts ks. refl) (λ ts h. (h.0, h.1.0)) (λ ts. refl)
    also plainly (λ ts ks. refl) (λ ts h. h.0) (λ ts. refl)
    also plainly (λ ts ks. refl) (λ ts h. h.0) (λ ts. refl)
    also record { made = λ o lo hi ts. record { spelt = λ ks. rw (test_number_lem o hi); ranged = λ h. h.0; nested = refl } }
    also record { made = λ o lo hi ts. record { spelt = λ ks. refl; ranged = λ h. (lo, hi, tt); nested = refl } }
    also plainly (λ ts ks. refl) (λ ts h. (h.0, h.1.0)) (λ ts. refl)
    also tt

-- The law of the row at a kind.
row_law : {s : Sort} (rs : List (Row s)) → Laws rs → (k : ℕ) (r : Row s) → row_in rs k ≡ some r → Law r × (r.kind ≡ k)
row_law [] ls k r q = absurd (none-ne-some r q)
row_law {s} (x ∷ rs) ls k r q = chosen (λ p. row_law rs ls.1 k r p) (eqb k x.kind) refl q
  where
    chosen : (row_in rs k ≡ some r → Law r × (r.kind ≡ k)) → (b : Bool) → eqb k x.kind ≡ b → cond b (some x) (row_in rs k) ≡ some r
        → Law r × (r.kind ≡ k)
    chosen later true e p =
        let z = some-injective x r p in (subst Law z ls.0, ap (λ (y : Row s). y.kind) (sym z) ∙ sym (eqb-true k x.kind e))
    chosen later false e p = later p

pub law_at : (s : Sort) (k : ℕ) (r : Row s) → row_in (table s) k ≡ some r → Law r × (r.kind ≡ k)
law_at s k r q = row_law (table s) (laws s) k r q

-- A word that is due: its row is that of its kind, its operand is in the row's range, and it is the row's word.
pub record Due (s : Sort) (w : ℕ) (r : Row s) : Type 0 where
  pub listed : row_in (table s) (w % 256) ≡ some r
  pub low : r.low ≤ w / 256
  pub high : w / 256 ≤ r.high
  pub spells : word r.kind (w / 256) ≡ w

pub due_word : (s : Sort) (w : ℕ) (r : Row s) → row_for s w ≡ some r → Due s w r
unfolding row_for
due_word s w r q = let i = found_some (row_in (table s) (w % 256)) _ r q in tested i.0 _ _ refl refl i.1 i.2
  where
    tested : (x : Row s) (a b : Bool) → leb x.low (w / 256) ≡ a → leb (w / 256) x.high ≡ b → row_in (table s) (w % 256) ≡ some x
        → cond (a && b) (some x) none ≡ some r → Due s w r
    tested x true true p h g e =
        let z = some-injective x r e in
        let k = (law_at s (w % 256) x g).1 in
        subst (λ (y : Row s). Due s w y) z
        (record { listed = g; low = leb-true _ _ p; high = leb-true _ _ h; spells = omega arith })
    tested x true false p h g e = absurd (none-ne-some r e)
    tested x false b p h g e = absurd (none-ne-some r e)

-- What a due word makes of parts in range.
pub due_made : (s : Sort) (w : ℕ) (r : Row s) → row_for s w ≡ some r → (ts : Trees r.parts) → Made r (w / 256) ts
due_made s w r q ts = let d = due_word s w r q in (law_at s (w % 256) r d.listed).0.made (w / 256) d.low d.high ts

-- A row's word with an operand in the row's range is due.
pub word_due : (s : Sort) (k o : ℕ) (r : Row s) → k < 256 → row_in (table s) k ≡ some r → r.low ≤ o → o ≤ r.high → row_for s (word k o) ≡ some r
unfolding row_for
word_due s k o r hk q lo hi =
    let m : word k o % 256 ≡ k = omega arith in
    let d : word k o / 256 ≡ o = omega arith in
    rw (m, d, q, le-leb r.low o lo, le-leb o r.high hi)
