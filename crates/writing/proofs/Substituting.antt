-- Substitution on words that start with trees, by the first word: nothing due, too few words, the variable's word, a lambda's, any other.
-- Assumes nothing.
use Prim.Native.Nat.{ℕ, suc, ◌+◌, ◌-◌, ◌%◌, ◌≤◌, ◌<◌}
use mathlib.Core.List.{List, [], ◌∷◌, ◌++◌}
use mathlib.Core.Path.{◌≡◌, refl, sym, ap, ◌∙◌}
use lib.ListN.{length, drop, length-append}
use native.Mathlib.Omega.{arith}
use Rattle.calculus.specs.Trees.{Lang, Term}
use Rattle.calculus.specs.Words.{word, by, words}
use Rattle.calculus.specs.Scope.{part_count}
use Rattle.calculus.specs.Kinds.{Sort, Tree, Trees, put_tree, put_trees, size_tree, size_trees}
use Rattle.calculus.proofs.Sizes.{tree_append, trees_length, drop_tree, put_append}
use Rattle.calculus.proofs.Views.{view, sized}
use Rattle.std.proofs.Common.{Some}
use Rattle.nodes.specs.declared.kinds.Shape.TheVariants as shapes
use Rattle.nodes.specs.Table.{shape, shape_of}
use Rattle.nodes.proofs.Lambdas.{at_shape, no_lambda}
use Rattle.writing.specs.declared.Writer.{Writer}
use Rattle.writing.specs.Puts.{Puts}
use Rattle.writing.specs.Substituted.{in_tree, in_trees, Substituted}
use Rattle.writing.proofs.Stores.{puts_then, puts_as, puts_none}
use Rattle.writing.proofs.Trees.{head_of, head_is, count_is, shape_is}
use Rattle.writing.proofs.Replacing.{inside, hit, miss}

trees_append : (ss : List Sort) (ts : Trees ss) (j k : List ℕ) → put_trees ss ts (j ++ k) ≡ put_trees ss ts j ++ k
trees_append [] ts j k = refl
trees_append (s ∷ ss) ts j k = ap (put_tree s ts.0) (trees_append ss ts.1 j k) ∙ tree_append s ts.0 (put_trees ss ts.1 j) k

-- There are at least as many words as trees.
as_many : (ss : List Sort) (ts : Trees ss) → length ss ≤ size_trees ss ts
as_many [] ts = omega arith
as_many (s ∷ ss) ts = omega (arith, as_many ss ts.1, sized (view s ts.0))

-- Trees in a row, and others after them.
abbrev joined : (ps : List Sort) → Trees ps → (ss : List Sort) → Trees ss → Trees (ps ++ ss)
joined [] us ss ts = ts
joined (p ∷ ps) us ss ts = (us.0, joined ps us.1 ss ts)

put_joined : (ps : List Sort) (us : Trees ps) (ss : List Sort) (ts : Trees ss) (k : List ℕ)
    → put_trees (ps ++ ss) (joined ps us ss ts) k ≡ put_trees ps us (put_trees ss ts k)
put_joined [] us ss ts k = refl
put_joined (p ∷ ps) us ss ts k = ap (put_tree p us.0) (put_joined ps us.1 ss ts k)

size_joined : (ps : List Sort) (us : Trees ps) (ss : List Sort) (ts : Trees ss)
    → size_trees (ps ++ ss) (joined ps us ss ts) ≡ size_trees ps us + size_trees ss ts
size_joined [] us ss ts = omega arith
size_joined (p ∷ ps) us ss ts = omega (arith, size_joined ps us.1 ss ts)

in_joined : {m : Lang} (v : Term m) (d : ℕ) (ps : List Sort) (us : Trees ps) (ss : List Sort) (ts : Trees ss)
    → in_trees v d (ps ++ ss) (joined ps us ss ts) ≡ joined ps (in_trees v d ps us) ss (in_trees v d ss ts)
in_joined v d [] us ss ts = refl
in_joined v d (p ∷ ps) us ss ts = ap (λ (r : Trees (ps ++ ss)). (in_tree v d p us.0, r)) (in_joined v d ps us.1 ss ts)

module _ (ws : List ℕ) (due x : ℕ) (value : List ℕ) (w : Writer ℕ) where
  abbrev Of : (m : Lang) (v : Term m) (d : ℕ) (ss : List Sort) (ts : Trees ss) → ℕ → Writer ℕ → Type 0
  Of m v d ss ts read r = (read ≡ size_trees ss ts) × Puts w (put_trees ss (in_trees v d ss ts) []) r

  pub nothing_due : due ≡ 0 → Substituted ws due x value w 0 w
  nothing_due z = record { of = λ {m} v d ss ts more e q g f. cases m v d ss ts q }
    where
      cases : (m : Lang) (v : Term m) (d : ℕ) (ss : List Sort) (ts : Trees ss) → due ≡ length ss → Of m v d ss ts 0 w
      cases m v d [] ts q = (refl, puts_none w)
      cases m v d (s ∷ ss) ts q = absurd (omega arith)

  pub too_few : length ws < due → Substituted ws due x value w 0 w
  too_few h = record { of = λ v d ss ts more e q g f. absurd (omega (arith, ap length e, trees_length ss ts more, as_many ss ts)) }

  -- Where some tree is due, it is enough to look at the first.
  by_first : (due ≡ 0 → ⊥) → {read : ℕ} {r : Writer ℕ}
      → ((m : Lang) (v : Term m) (d : ℕ) (s : Sort) (t : Tree s) (ss : List Sort) (ts : Trees ss) (more : List ℕ)
      → ws ≡ put_tree s t (put_trees ss ts more) → due ≡ suc (length ss) → x ≡ word (by m 16 32) d → value ≡ words v
      → Of m v d (s ∷ ss) (t, ts) read r)
      → Substituted ws due x value w read r
  by_first some {read} {r} h = record { of = λ {m} v d ss ts more e q x_is f. cases m v d ss ts more e q x_is f }
    where
      cases : (m : Lang) (v : Term m) (d : ℕ) (ss : List Sort) (ts : Trees ss) (more : List ℕ) → ws ≡ put_trees ss ts more → due ≡ length ss
          → x ≡ word (by m 16 32) d → value ≡ words v → Of m v d ss ts read r
      cases m v d [] ts more e q x_is f = absurd (some q)
      cases m v d (s ∷ ss) ts more e q x_is f = h m v d s ts.0 ss ts.1 more e q x_is f

-- The first word, where some tree is due, and the words after it.
module _ (first : ℕ) (us : List ℕ) (due x : ℕ) (value : List ℕ) (w : Writer ℕ) (some : due ≡ 0 → ⊥) where
  abbrev all : List ℕ
  all = first ∷ us

  pub replaced : (q r : Writer ℕ) (read n : ℕ) → n ≡ suc read → first ≡ x → Puts w value q → Substituted us (due - 1) x value q read r
      → Substituted all due x value w n r
  replaced q r read n n_is g p next = by_first all due x value w some λ m v d s t ss ts more e due_is x_is f.
      let after = put_trees ss (in_trees v d ss ts) [] in
      let rest = put_trees ss ts more in
      let h = hit v d s t (sym (head_is s t rest all e) ∙ g ∙ x_is) after in
      let tail = ap (drop 1) e ∙ ap (λ (j : ℕ). drop j (put_tree s t rest)) (sym h.1) ∙ drop_tree s t rest in
      let o = next.of v d ss ts more tail (omega arith) x_is f in
      let z = ap (λ (l : List ℕ). l ++ after) f ∙ sym (put_append v [] after) ∙ sym h.0 in
      (omega (arith, o.0, h.1), puts_as z (puts_then p o.1))

  module _ (q : Writer ℕ) (count : ℕ) (g : first ≡ x → ⊥) (p : Puts w (first ∷ []) q) (count_eq : count ≡ part_count first) where
    -- The first word, and after it the parts' words with the variable as it stands there.
    kept : {m : Lang} (v : Term m) (d d' : ℕ) (s : Sort) (t : Tree s) (rest after : List ℕ) → all ≡ put_tree s t rest → x ≡ word (by m 16 32) d
        → inside s t d ≡ d'
        → first ∷ put_trees (view s t).row.parts (in_trees v d' (view s t).row.parts (view s t).parts) after ≡ put_tree s (in_tree v d s t) after
    kept v d d' s t rest after e x_is i =
        let u = view s t in
        let head = head_is s t rest all e in
        ap (λ (j : ℕ). j ∷ put_trees u.row.parts (in_trees v d' u.row.parts u.parts) after) head
        ∙ ap (λ (j : ℕ). head_of s t ∷ put_trees u.row.parts (in_trees v j u.row.parts u.parts) after) (sym i)
        ∙ sym (miss v d s t (λ h. g (head ∙ h ∙ sym x_is)) after)

    counted : (s : Sort) (t : Tree s) (rest : List ℕ) → all ≡ put_tree s t rest → count ≡ length (view s t).row.parts
    counted s t rest e = count_eq ∙ ap part_count (head_is s t rest all e) ∙ count_is s t

    shaped : (s : Sort) (t : Tree s) (rest : List ℕ) → all ≡ put_tree s t rest → shape_of (first % 256) ≡ Some (shape s t)
    shaped s t rest e = ap (λ (j : ℕ). shape_of (j % 256)) (head_is s t rest all e) ∙ shape_is s t

    tail_is : (s : Sort) (t : Tree s) (rest : List ℕ) → all ≡ put_tree s t rest → us ≡ put_trees (view s t).row.parts (view s t).parts rest
    tail_is s t rest e = ap (drop 1) (e ∙ (view s t).spelt rest)

    pub passed : (r : Writer ℕ) (read n : ℕ) → n ≡ suc read → (shape_of (first % 256) ≡ Some shapes.Lambda → ⊥)
        → Substituted us (due - 1 + count) x value q read r → Substituted all due x value w n r
    passed r read n n_is other next = by_first all due x value w some λ m v d s t ss ts more e due_is x_is f.
        let u = view s t in
        let ps = u.row.parts in
        let rest = put_trees ss ts more in
        let same = no_lambda (suc d) d (shape s t) (λ h. other (shaped s t rest e ∙ ap Some h)) in
        let tail = tail_is s t rest e ∙ sym (put_joined ps u.parts ss ts more) in
        let all_due : due - 1 + count ≡ length (ps ++ ss) = omega (arith, counted s t rest e, length-append ps ss) in
        let o = next.of v d (ps ++ ss) (joined ps u.parts ss ts) more tail all_due x_is f in
        let z = ap (λ (ts : Trees (ps ++ ss)). first ∷ put_trees (ps ++ ss) ts []) (in_joined v d ps u.parts ss ts)
        ∙ ap (λ (l : List ℕ). first ∷ l) (put_joined ps (in_trees v d ps u.parts) ss (in_trees v d ss ts) [])
        ∙ kept v d d s t rest (put_trees ss (in_trees v d ss ts) []) e x_is same in
        (omega (arith, o.0, sized u, size_joined ps u.parts ss ts), puts_as z (puts_then p o.1))

    pub entered : (r₁ r : Writer ℕ) (read₁ read n : ℕ) (us₁ : List ℕ) → n ≡ suc (read₁ + read) → shape_of (first % 256) ≡ Some shapes.Lambda
        → us₁ ≡ drop read₁ us → Substituted us count (x + 256) value q read₁ r₁ → Substituted us₁ (due - 1) x value r₁ read r
        → Substituted all due x value w n r
    entered r₁ r read₁ read n us₁ n_is lambda us₁-are part next = by_first all due x value w some λ m v d s t ss ts more e due_is x_is f.
        let u = view s t in
        let rest = put_trees ss ts more in
        let after = put_trees ss (in_trees v d ss ts) [] in
        let parts = in_trees v (suc d) u.row.parts u.parts in
        let both : Some (shape s t) ≡ Some shapes.Lambda = sym (shaped s t rest e) ∙ lambda in
        let is : shape s t ≡ shapes.Lambda = cc in
        let deeper = ap (at_shape d (suc d) d) is in
        let a = part.of v (suc d) u.row.parts u.parts rest (tail_is s t rest e) (counted s t rest e) (omega arith) f in
        let size : suc read₁ ≡ size_tree s t = omega (arith, a.0, sized u) in
        let tail = us₁-are ∙ ap (λ (j : ℕ). drop j all) size ∙ ap (drop (size_tree s t)) e ∙ drop_tree s t rest in
        let o = next.of v d ss ts more tail (omega arith) x_is f in
        let z = ap (λ (l : List ℕ). first ∷ l) (sym (trees_append u.row.parts parts [] after))
        ∙ kept v d (suc d) s t rest after e x_is deeper in
        (omega (arith, a.0, o.0, sized u), puts_as z (puts_then p (puts_then a.1 o.1)))
