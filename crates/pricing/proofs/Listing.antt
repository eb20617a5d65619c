-- A value of type {N} is the list of its items. Assumes nothing.
use Prim.Native.Nat.{ℕ}
use mathlib.Core.List.{List, [], ◌∷◌}
use mathlib.Core.Path.{◌≡◌, refl, sym, ap, ◌∙◌, subst}
use native.Mathlib.Omega.{arith}
use lib.ListN.{get_or, drop}
use Rattle.calculus.specs.Trees.{Ty, N, L, list, ◌to◌, ml, Term, num, nil, cons}
use Rattle.calculus.specs.Words.{put, put_ty, words}
use Rattle.calculus.specs.Limits.{InRange}
use Rattle.calculus.specs.Typing.{Typed}
use Rattle.calculus.specs.Rules.{Value, lam_v, num_v, nil_v, cons_v, lump_v}
use Rattle.calculus.specs.Kinds.{term}
use Rattle.calculus.specs.Verdicts.{found}
use Rattle.calculus.proofs.Reading.{whole_tree}
use Rattle.pricing.specs.Items.{list_of, items, items_in, Lists}

-- Types tell themselves apart.
abbrev class : Ty → ℕ
class N = 0
class (L o) = 1
class (list t) = 2
class (t to u) = 3

abbrev element : Ty → Ty
element N = N
element (L o) = L o
element (list t) = t
element (t to u) = t

other : {t u : Ty} → (class t ≡ class u → ⊥) → t ≡ u → ⊥
other n e = n (ap class e)

-- A value of type N is a number.
number_is : {v : Term ml} → Value ml v → Typed [] v N → (n : ℕ) × (v ≡ num n)
number_is lam_v h = absurd (other (λ e. omega (arith, e)) h.2)
number_is (num_v {n = n}) h = (n, refl)
number_is nil_v h = absurd (other (λ e. omega (arith, e)) h)
number_is (cons_v p q) h = absurd (other (λ e. omega (arith, e)) h.4.1)
number_is (lump_v p) h = absurd (other (λ e. omega (arith, e)) h.1)

list_is : {v : Term ml} → Value ml v → Typed [] v (list N) → v ≡ list_of (items v)
unfolding list_of items
list_is lam_v h = absurd (other (λ e. omega (arith, e)) h.2)
list_is num_v h = absurd (other (λ e. omega (arith, e)) h)
list_is nil_v h = ap nil (sym (ap element h))
list_is (cons_v {v = v} {w} p q) h =
    let t : h.0 ≡ N = sym (ap element h.4.1) in
    let n = number_is p (subst (Typed [] v) t h.2) in
    let rest = list_is q (subst (Typed [] w) (h.4.0 ∙ ap list t) h.3) in
    rw n.1 (ap (cons (num n.0)) rest)
list_is (lump_v p) h = absurd (other (λ e. omega (arith, e)) h.1)

pub lists : Lists
lists = record { value_is = λ v h t. list_is h t }

-- The items of a list are its numbers, and so are those of its words.
items_of : (ns : List ℕ) → items (list_of ns) ≡ ns
unfolding list_of items
items_of [] = refl
items_of (n ∷ ns) = ap (λ (l : List ℕ). n ∷ l) (items_of ns)

pub items_in_lem : (ns : List ℕ) → InRange (list_of ns) → items_in (words (list_of ns)) ≡ ns
unfolding items_in
items_in_lem ns h = ap (λ o. found o [] items) (whole_tree (term ml) (list_of ns) h) ∙ items_of ns

-- Words are those of one list at most.
pub lists_once : (ns ms : List ℕ) → words (list_of ns) ≡ words (list_of ms) → ns ≡ ms
unfolding list_of put put_ty
lists_once [] [] e = refl
lists_once [] (m ∷ ms) e = absurd (omega (arith, ap (λ (l : List ℕ). get_or l 0 0) e))
lists_once (n ∷ ns) [] e = absurd (omega (arith, ap (λ (l : List ℕ). get_or l 0 0) e))
lists_once (n ∷ ns) (m ∷ ms) e =
    let same : n ≡ m = omega (arith, ap (λ (l : List ℕ). get_or l 1 0) e) in rw (same, lists_once ns ms (ap (drop 2) e))
