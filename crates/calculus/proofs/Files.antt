-- A file's size and header: words with a header in order, whose parts are those of a type and a term, are the words of their file. Assumes
-- nothing.
use Prim.Native.Nat.{ℕ, ◌+◌, ◌-◌, ◌/◌, ◌%◌, ◌≤◌}
use mathlib.Core.Bool.{Bool, true, ◌&&◌, and-eq-true_iff}
use mathlib.Core.List.{List, [], ◌∷◌}
use mathlib.Core.Logic.{◌↔◌}
use mathlib.Core.Path.{◌≡◌, refl, sym, ap, ◌∙◌, subst}
use lib.Dec.{eqb, leb}
use lib.ListN.{length, get_or, drop, take-append-drop, length-drop}
use lib.Seq.{drop-drop, length-take-le}
use borrow.Author.Tests.{leb-true, le-leb, eqb-true, eq-eqb}
use native.Mathlib.Omega.{arith}
use Rattle.calculus.specs.Trees.{Ty, ml, Term}
use Rattle.calculus.specs.Words.{put_ty, words_ty, words, size, size_ty}
use Rattle.calculus.specs.Kinds.{type, term}
use Rattle.calculus.specs.File.{words_of, is_size, is_header, type_words, term_words}
use Rattle.calculus.specs.Accepted.{file_words}
use Rattle.calculus.proofs.Sizes.{tree_append, tree_length, take_tree, drop_tree}
use Rattle.calculus.proofs.Views.{view, sized}

-- As many words as whole fours of bytes.
pub words_length : (bs : List ℕ) → length (words_of bs) ≡ length bs / 4
unfolding words_of
words_length [] = refl
words_length (a ∷ []) = refl
words_length (a ∷ b ∷ []) = refl
words_length (a ∷ b ∷ c ∷ []) = refl
words_length (a ∷ b ∷ c ∷ d ∷ more) = omega (arith, words_length more)

-- What tests say.
le_iff : (a b : ℕ) → (leb a b ≡ true) ↔ (a ≤ b)
le_iff a b = (leb-true a b, le-leb a b)

eq_iff : (a b : ℕ) → (eqb a b ≡ true) ↔ (a ≡ b)
eq_iff a b = (eqb-true a b, eq-eqb a b)

and_iff : {P Q : Type 0} (a b : Bool) → (a ≡ true) ↔ P → (b ≡ true) ↔ Q → (a && b ≡ true) ↔ (P × Q)
and_iff a b p q = (
  λ h. let i = (and-eq-true_iff a b).0 h in (p.0 i.0, q.0 i.1),
  λ h. (and-eq-true_iff a b).1 (p.1 h.0, q.1 h.1),
)

-- Refusal 1 is given to no file of a fit size.
pub size_iff : (n : ℕ) → (is_size n ≡ true) ↔ ((24 ≤ n) × (n ≤ 16384)) × (n % 4 ≡ 0)
size_iff n = and_iff _ _ (and_iff _ _ (le_iff 24 n) (le_iff n 16384)) (eq_iff (n % 4) 0)

pub header_iff : (ws : List ℕ) → (is_header ws ≡ true)
    ↔ ((((1 ≤ get_or ws 0 0) × (get_or ws 1 0 ≡ 4)) × (1 ≤ get_or ws 2 0)) × (get_or ws 3 0 ≡ 4 + get_or ws 0 0)) ×
    (get_or ws 3 0 + get_or ws 2 0 ≡ length ws)
header_iff ws = and_iff _ _ (and_iff _ _ (and_iff _ _ (and_iff _ _ (le_iff _ _) (eq_iff _ _)) (le_iff _ _)) (eq_iff _ _)) (eq_iff _ _)

-- The words have a header in order, and behind it the words of τ and those of e.
abbrev pub Contains : List ℕ → Ty → Term ml → Type 0
Contains ws τ e = (is_header ws ≡ true) × (type_words ws ≡ words_ty τ) × (term_words ws ≡ words e)

four : (ws : List ℕ) → 4 ≤ length ws → ws ≡ get_or ws 0 0 ∷ get_or ws 1 0 ∷ get_or ws 2 0 ∷ get_or ws 3 0 ∷ drop 4 ws
four [] h = absurd (omega arith)
four (a ∷ []) h = absurd (omega arith)
four (a ∷ b ∷ []) h = absurd (omega arith)
four (a ∷ b ∷ c ∷ []) h = absurd (omega arith)
four (a ∷ b ∷ c ∷ d ∷ r) h = refl

contains_file : (ws : List ℕ) (τ : Ty) (e : Term ml) → Contains ws τ e → ws ≡ file_words τ e
contains_file ws τ e h =
    let i = (header_iff ws).0 h.0 in
    let a = get_or ws 0 0 in
    let r = drop 4 ws in
    let n : length r ≡ length ws - 4 = length-drop 4 ws in
    let behind : drop a r ≡ words e = drop-drop a 4 ws ∙ h.2 in
    let type_count_lem : a ≡ size_ty τ = omega (arith, i, n, length-take-le a r (omega (arith, i, n)), ap length h.1, tree_length type τ []) in
    let term_count_lem : get_or ws 2 0 ≡ size e = omega (arith, i, n, length-drop a r, ap length behind, tree_length (term ml) e []) in
    let offset : get_or ws 3 0 ≡ 4 + size_ty τ = omega (arith, i, type_count_lem) in
    let rest : r ≡ put_ty τ (words e) = sym (take-append-drop a r) ∙ rw (h.1, behind) (sym (tree_append type τ [] (words e))) in
    four ws (omega (arith, i)) ∙ rw (type_count_lem, i.0.0.0.1, term_count_lem, offset, rest)

file_contains : (τ : Ty) (e : Term ml) → Contains (file_words τ e) τ e
file_contains τ e = (
  (header_iff (file_words τ e)).1 (
    (((omega (arith, sized (view type τ)), refl), omega (arith, sized (view (term ml) e))), refl),
    omega (arith, tree_length type τ (words e), tree_length (term ml) e []),
  ),
  take_tree type τ (words e),
  sym (drop-drop (size_ty τ) 4 (file_words τ e)) ∙ drop_tree type τ (words e),
)

-- Exactly the words of the file of τ and e.
pub contains_iff : (ws : List ℕ) (τ : Ty) (e : Term ml) → Contains ws τ e ↔ (ws ≡ file_words τ e)
contains_iff ws τ e = (contains_file ws τ e, λ q. subst (λ (l : List ℕ). Contains l τ e) (sym q) (file_contains τ e))
