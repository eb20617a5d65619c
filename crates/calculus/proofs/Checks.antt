-- The check of a file is exact, and so is the acceptance of a run. Assumes nothing.
use Prim.Native.Nat.{ℕ, ◌+◌, ◌≤◌}
use mathlib.Core.List.{List, [], ◌∷◌}
use mathlib.Core.Bool.{Bool, true, false}
use mathlib.Core.Logic.{◌↔◌, ◌⊎◌, inl, inr}
use mathlib.Core.Option.{Option, none, some}
use mathlib.Core.Path.{◌≡◌, refl, sym, ap, ◌∙◌, subst}
use lib.Dec.{leb}
use lib.ListN.{length, get_or}
use native.Mathlib.Omega.{arith}
use borrow.Author.Tests.{leb-true, le-leb}
use Rattle.calculus.specs.Trees.{Ty, ml, Term}
use Rattle.calculus.specs.Words.{size, size_ty}
use Rattle.calculus.specs.Kinds.{Sort, type, term, Tree}
use Rattle.calculus.specs.Verdicts.{Verdict, refused, passed, unless}
use Rattle.calculus.specs.Reading.{walk, in_order, read_tree}
use Rattle.calculus.specs.Scope.{scope_due}
use Rattle.calculus.specs.Typing.{Typed}
use Rattle.calculus.specs.Comparison.{compare_types}
use Rattle.calculus.specs.Inference.{infer}
use Rattle.calculus.specs.Faults.{fault}
use Rattle.calculus.specs.Run.{Result, run, uncounted, capacity}
use Rattle.calculus.specs.File.{words_of, is_size, is_header, type_count, type_words, term_words, Recipe, typed, with_tree, judged}
use Rattle.calculus.specs.File.{check_words, check, run_in, operate}
use Rattle.calculus.specs.Accepted.{file_words, InOrder, Spelt, Filed, Accepted}
use Rattle.calculus.proofs.Verdicts.{not_both, passed_injective, then_passed, unless_iff}
use Rattle.calculus.proofs.Ordering.{Proper, proper_bounds, proper_order, proper_scope}
use Rattle.calculus.proofs.Reading.{whole_tree}
use Rattle.calculus.proofs.Nesting.{Ordered, ordered_passes, passes_ordered}
use Rattle.calculus.proofs.Scopes.{scoped_passes, passes_scoped}
use Rattle.calculus.proofs.Comparison.{equal_iff}
use Rattle.calculus.proofs.Inference.{infer_iff}
use Rattle.calculus.proofs.Files.{size_iff, contains_iff}

-- The trees that words in order are.
tree_read : {A : Type 0} (s : Sort) (ws : List ℕ) (p : ℕ) (k : Tree s → Verdict A) (o : Ordered s ws) → with_tree s ws p k ≡ k o.tree
tree_read s ws p k o = rw (ap (read_tree s) o.spelt ∙ whole_tree s o.tree o.ranged)

-- Words refused by one of 3 to 5, at a place of at most b.
pub record Disordered (types terms : List ℕ) (start b : ℕ) : Type 0 where
  pub number : ℕ
  pub place : ℕ
  pub is : judged types terms start ≡ refused number place
  pub least : 3 ≤ number
  pub most : number ≤ 5
  pub near : place ≤ b

-- The ways of words: a type and a term in order and in scope; or refused by one of 3 to 5.
abbrev pub Ways : List ℕ → List ℕ → ℕ → ℕ → Type 0
Ways types terms start b = ((τ : Ty) × (e : Term ml) × Spelt types terms τ e) ⊎ Disordered types terms start b

-- A type and a term in order, whose variables the walk finds to have their lambdas.
pub spelt_by : (types terms : List ℕ) (t : Ordered type types) (e : Ordered (term ml) terms) (n : ℕ) → walk scope_due terms ([] ∷ []) ≡ passed n
    → Spelt types terms t.tree e.tree
spelt_by types terms t e n q =
    record {
      types_are = t.spelt;
      terms_are = e.spelt;
      order =
          record {
            nests_ty = t.nests;
            nests = e.nests;
            ranged_ty = t.ranged;
            ranged = e.ranged;
            closed = passes_scoped [] e.tree n (ap (λ (ws : List ℕ). walk scope_due ws ([] ∷ [])) (sym e.spelt) ∙ q);
          };
    }

module _ (types terms : List ℕ) (start : ℕ) where
  -- Words that are a type and a term in order and in scope are judged by their types.
  module _ {τ : Ty} {e : Term ml} (s : Spelt types terms τ e) where
    abbrev declared : Ordered type types
    declared = record { tree = τ; spelt = s.types_are; ranged = s.order.ranged_ty; nests = s.order.nests_ty }

    abbrev body : Ordered (term ml) terms
    body = record { tree = e; spelt = s.terms_are; ranged = s.order.ranged; nests = s.order.nests }

    pub judged_typed : judged types terms start ≡ typed 4 start τ e
    judged_typed =
        rw (
          ordered_passes type types declared,
          ordered_passes (term ml) terms body,
          ap (λ (ws : List ℕ). walk scope_due ws ([] ∷ [])) s.terms_are ∙ scoped_passes [] e s.order.closed,
        )
        (tree_read type types 4 (λ τ. with_tree (term ml) terms start (λ e. typed 4 start τ e)) declared
        ∙ tree_read (term ml) terms start (λ e. typed 4 start τ e) body)

  -- And there are no other words than these, and those that 3 to 5 refuse.
  module _ (b : ℕ) (few_types : 4 + length types ≤ b) (few_terms : start + length terms ≤ b) where
    out : (n p : ℕ) → judged types terms start ≡ refused n p → (3 ≤ n) × (n ≤ 5) × (p ≤ b) → Ways types terms start b
    out n p q h = inr (record { number = n; place = p; is = q; least = h.0; most = h.1; near = h.2 })

    pub ways : Ways types terms start b
    ways = of_types (in_order type types) refl (proper_order type types)
      where
        of_scope : Ordered type types → Ordered (term ml) terms → (v : Verdict ℕ) → walk scope_due terms ([] ∷ []) ≡ v → Proper 3 5 (length terms) v
            → Ways types terms start b
        of_scope t e (refused n p) q h =
            let i = proper_bounds h in
            out n (start + p) (rw (ordered_passes type types t, ordered_passes (term ml) terms e, q)) (i.0, i.1, omega (arith, i.2, few_terms))
        of_scope t e (passed n) q h =
            inl (t.tree, e.tree, spelt_by types terms t e n q)

        of_terms : Ordered type types → (v : Verdict ℕ) → in_order (term ml) terms ≡ v → Proper 3 5 (length terms) v
            → Ways types terms start b
        of_terms t (refused n p) q h =
            let i = proper_bounds h in
            out n (start + p) (rw (ordered_passes type types t, q)) (i.0, i.1, omega (arith, i.2, few_terms))
        of_terms t (passed n) q h = of_scope t (passes_ordered (term ml) terms n q) (walk scope_due terms ([] ∷ [])) refl (proper_scope terms)

        of_types : (v : Verdict ℕ) → in_order type types ≡ v → Proper 3 5 (length types) v → Ways types terms start b
        of_types (refused n p) q h =
            let i = proper_bounds h in
            out n (4 + p) (rw q) (i.0, i.1, omega (arith, i.2, few_types))
        of_types (passed n) q h = of_terms (passes_ordered type types n q) (in_order (term ml) terms) refl (proper_order (term ml) terms)

-- What is judged, and is no refusal by 3 to 5, is the typing's answer for a type and a term in order.
pub judged_as : (types terms : List ℕ) (start : ℕ) {v : Verdict Recipe} → judged types terms start ≡ v → ((n p : ℕ) → n ≤ 5 → ¬ (refused n p ≡ v))
    → (τ : Ty) × (e : Term ml) × Spelt types terms τ e × (typed 4 start τ e ≡ v)
judged_as types terms start {v} q other = by (ways types terms start (4 + length types + start + length terms) (omega arith) (omega arith))
  where
    by : {b : ℕ} → Ways types terms start b → (τ : Ty) × (e : Term ml) × Spelt types terms τ e × (typed 4 start τ e ≡ v)
    by (inl x) = (x.0, x.1, x.2, sym (judged_typed types terms start x.2) ∙ q)
    by (inr d) = absurd (other d.number d.place d.most (sym d.is ∙ q))

-- The typing's three answers for a declared type that stands at p and a term that stands at q.
module _ (p q : ℕ) (τ : Ty) (e : Term ml) where
  pub no_type : infer [] e ≡ none → typed p q τ e ≡ refused 6 (fault q [] e)
  unfolding typed
  no_type i = rw i

  pub own_type : infer [] e ≡ some τ → typed p q τ e ≡ passed (τ, e)
  unfolding typed
  own_type i = rw (i, (equal_iff τ τ).1 refl)

  pub other_type : (t : Ty) (d : ℕ) → infer [] e ≡ some t → compare_types τ t ≡ some d → typed p q τ e ≡ refused 7 (p + d)
  unfolding typed
  other_type t d i c = rw (i, c)

  pub data Answer : Verdict Recipe → Type 0 where
    untyped : infer [] e ≡ none → Answer (refused 6 (fault q [] e))
    as_declared : infer [] e ≡ some τ → Answer (passed (τ, e))
    mistyped : (t : Ty) (d : ℕ) → infer [] e ≡ some t → compare_types τ t ≡ some d → Answer (refused 7 (p + d))

  pub answer : Answer (typed p q τ e)
  answer = inferred (infer [] e) refl
    where
      compared : (t : Ty) → infer [] e ≡ some t → (o : Option ℕ) → compare_types τ t ≡ o → Answer (typed p q τ e)
      compared t i none c =
          let z : infer [] e ≡ some τ = i ∙ ap some (sym ((equal_iff τ t).0 c)) in
          subst Answer (sym (own_type z)) (as_declared z)
      compared t i (some d) c = subst Answer (sym (other_type t d i c)) (mistyped t d i c)

      inferred : (o : Option Ty) → infer [] e ≡ o → Answer (typed p q τ e)
      inferred none i = subst Answer (sym (no_type i)) (untyped i)
      inferred (some t) i = compared t i (compare_types τ t) refl

-- Refusals 6 and 7 are given to no term that has the declared type, and to every other.
typed_iff : (p q : ℕ) (τ : Ty) (e : Term ml) (x : Recipe) → (typed p q τ e ≡ passed x) ↔ (Typed [] e τ × (x ≡ (τ, e)))
typed_iff p q τ e x = (
  λ z. by (answer p q τ e) z,
  λ h. own_type p q τ e ((infer_iff [] e τ).1 h.0) ∙ ap passed (sym h.1),
)
  where
    by : {v : Verdict Recipe} → Answer p q τ e v → v ≡ passed x → Typed [] e τ × (x ≡ (τ, e))
    by (untyped i) z = absurd (not_both 6 (fault q [] e) x z)
    by (as_declared i) z = ((infer_iff [] e τ).0 i, sym (passed_injective (τ, e) x z))
    by (mistyped t d i c) z = absurd (not_both 7 (p + d) x z)

pub judged_iff : (types terms : List ℕ) (start : ℕ) (x : Recipe)
    → (judged types terms start ≡ passed x) ↔ (Spelt types terms x.0 x.1 × Typed [] x.1 x.0)
judged_iff types terms start x = (
  λ q.
      let i = judged_as types terms start q (λ n p l e. not_both n p x e) in
      let j = (typed_iff 4 start i.0 i.1 x).0 i.3 in
      subst (λ (y : Recipe). Spelt types terms y.0 y.1 × Typed [] y.1 y.0) (sym j.1) (i.2, j.0),
  λ h. judged_typed types terms start h.0 ∙ (typed_iff 4 start x.0 x.1 x).1 (h.1, refl),
)

-- Words in order behind a header, and the words of their file.
pub spelt_iff : (ws : List ℕ) (τ : Ty) (e : Term ml)
    → ((is_header ws ≡ true) × Spelt (type_words ws) (term_words ws) τ e) ↔ ((ws ≡ file_words τ e) × InOrder τ e)
spelt_iff ws τ e = (
  λ h. ((contains_iff ws τ e).0 (h.0, h.1.types_are, h.1.terms_are), h.1.order),
  λ h. let c = (contains_iff ws τ e).1 h.0 in (c.0, record { types_are = c.1; terms_are = c.2; order = h.1 }),
)

-- None of refusals 2 to 7.
pub passes_in_order : (ws : List ℕ) (x : Recipe) → check_words ws ≡ passed x
    → (is_header ws ≡ true) × Spelt (type_words ws) (term_words ws) x.0 x.1 × Typed [] x.1 x.0
unfolding check_words
passes_in_order ws x q =
    let h = (unless_iff (is_header ws) 2 0 _ x).0 q in
    let j = (judged_iff (type_words ws) (term_words ws) (4 + type_count ws) x).0 h.1 in
    (h.0, j.0, j.1)

-- A file whose size and header are in order is judged by its words.
pub filed_judged : (bytes : List ℕ) {τ : Ty} {e : Term ml} → Filed bytes τ e
    → Spelt (type_words (words_of bytes)) (term_words (words_of bytes)) τ e × (check bytes ≡ typed 4 (4 + size_ty τ) τ e)
unfolding check check_words
filed_judged bytes {τ} {e} f =
    let ws = words_of bytes in
    let s = (spelt_iff ws τ e).1 (f.spelt, f.order) in
    let n : type_count ws ≡ size_ty τ = ap (λ (l : List ℕ). get_or l 0 0) f.spelt in (
      s.1,
      rw ((size_iff (length bytes)).1 ((f.least, f.most), f.whole), s.0)
          (judged_typed (type_words ws) (term_words ws) (4 + type_count ws) s.1 ∙ ap (λ (n : ℕ). typed 4 (4 + n) τ e) n),
    )

-- And there are no other answers than these, and refusals 1 to 5.
abbrev pub Answered : List ℕ → Verdict Recipe → Type 0
Answered bytes v = (τ : Ty) × (e : Term ml) × Filed bytes τ e × (typed 4 (4 + size_ty τ) τ e ≡ v)

pub checked_as : (bytes : List ℕ) {v : Verdict Recipe} → check bytes ≡ v → ((n p : ℕ) → n ≤ 5 → ¬ (refused n p ≡ v))
    → Answered bytes v
unfolding check check_words
checked_as bytes {v} q other = sized (is_size (length bytes)) refl q
  where
    headed : is_size (length bytes) ≡ true → (b : Bool) → is_header (words_of bytes) ≡ b
        → unless b 2 0 (judged (type_words (words_of bytes)) (term_words (words_of bytes)) (4 + type_count (words_of bytes))) ≡ v → Answered bytes v
    headed z false h q = absurd (other 2 0 (omega arith) q)
    headed z true h q =
        let ws = words_of bytes in
        let j = judged_as (type_words ws) (term_words ws) (4 + type_count ws) q other in
        let s = (spelt_iff ws j.0 j.1).0 (h, j.2) in
        let i = (size_iff (length bytes)).0 z in
        let f : Filed bytes j.0 j.1 = record { least = i.0.0; most = i.0.1; whole = i.1; spelt = s.0; order = s.1 } in
        (j.0, j.1, f, sym (filed_judged bytes f).1 ∙ rw (z, h) q)

    sized : (b : Bool) → is_size (length bytes) ≡ b → unless b 1 0 (check_words (words_of bytes)) ≡ v → Answered bytes v
    sized false z q = absurd (other 1 0 (omega arith) q)
    sized true z q = headed z (is_header (words_of bytes)) refl q

-- "the check accepts exactly those to which the published typing .. gives the declared type".
pub check_iff : (bytes : List ℕ) (τ : Ty) (e : Term ml) → (check bytes ≡ passed (τ, e)) ↔ Accepted bytes τ e
check_iff bytes τ e = (
  λ q.
      let i = checked_as bytes q (λ n p l z. not_both n p (τ, e) z) in
      let j = (typed_iff 4 _ i.0 i.1 (τ, e)).0 i.3 in
      subst (λ (y : Recipe). Accepted bytes y.0 y.1) (sym j.1) (record { filed = i.2; typed = j.0 }),
  λ a. (filed_judged bytes a.filed).1 ∙ (typed_iff 4 _ τ e (τ, e)).1 (a.typed, refl),
)

-- A file holds one recipe.
pub accepted_once : (bytes : List ℕ) (x y : Recipe) → Accepted bytes x.0 x.1 → Accepted bytes y.0 y.1 → x ≡ y
accepted_once bytes x y a b = passed_injective x y (sym ((check_iff bytes x.0 x.1).1 a) ∙ (check_iff bytes y.0 y.1).1 b)

-- A run is made of an accepted file whose term's words fit the capacity, and it is that term's.
pub operate_iff : (bytes : List ℕ) (limit first second : ℕ) (r : Result) → (operate bytes limit first second ≡ passed r)
    ↔ ((τ : Ty) × (e : Term ml) × Accepted bytes τ e × (size e ≤ capacity first second) × (r ≡ run limit (capacity first second) uncounted e))
unfolding operate run_in
operate_iff bytes limit first second r =
    let cap = capacity first second in (
      λ q.
          let i = then_passed (check bytes) _ r q in
          let j = (unless_iff (leb (size i.0.1) cap) 8 0 (passed (run limit cap uncounted i.0.1)) r).0 i.2 in
          (i.0.0, i.0.1, (check_iff bytes i.0.0 i.0.1).0 i.1, leb-true (size i.0.1) cap j.0, sym (passed_injective _ r j.1)),
      λ h. rw ((check_iff bytes h.0 h.1).1 h.2, le-leb (size h.1) cap h.3, h.4),
    )
