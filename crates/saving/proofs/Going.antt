-- Running, saving and running again is one run, and the save of such a run is refused only by 4, 12 or 13. Assumes nothing.
use Prim.Native.Nat.{ℕ, zero, suc, ◌+◌, ◌≤◌}
use mathlib.Core.Bool.{Bool, true, false}
use mathlib.Core.List.{List, []}
use mathlib.Core.Logic.{◌⊎◌, inl, inr}
use mathlib.Core.Path.{◌≡◌, refl, sym, ap, ◌∙◌, subst}
use native.Mathlib.Omega.{arith}
use lib.Dec.{leb}
use lib.ListN.{length}
use borrow.Author.Tests.{leb-true, leb-false}
use Rattle.calculus.specs.Trees.{Ty, ml, Term}
use Rattle.calculus.specs.Words.{words_ty, words, size}
use Rattle.calculus.specs.Kinds.{type, term}
use Rattle.calculus.specs.Limits.{InRangeTy, nesting_ty, nesting}
use Rattle.calculus.specs.Verdicts.{refused, passed}
use Rattle.calculus.specs.Run.{End, valued, spent, error, full, Open, uncounted, Result, run, capacity}
use Rattle.calculus.specs.Counting.{later}
use Rattle.calculus.specs.File.{Recipe, judged, operate}
use Rattle.calculus.specs.Accepted.{InOrder, Accepted}
use Rattle.calculus.proofs.Verdicts.{not_both, refused_injective}
use Rattle.calculus.proofs.Reading.{one_tree}
use Rattle.calculus.proofs.Comparison.{equal_by_words}
use Rattle.calculus.proofs.Typing.{typed_scoped}
use Rattle.calculus.proofs.Nesting.{Ordered, ordered_passes, deeper_refused}
use Rattle.calculus.proofs.Runs.{last_term}
use Rattle.calculus.proofs.Continuing.{left_at, run_left, run_again, Fine, run_fine, run_short}
use Rattle.calculus.proofs.Checks.{accepted_once, operate_iff, judged_iff}
use Rattle.saving.specs.Saving.{saving}
use Rattle.saving.specs.Laws.{FileOf, Numbered, Paused, GoesOn}
use Rattle.saving.proofs.Laws.{exactly}

left_open : (x : End) (t : Term ml) → Open x → left_at x t ≡ words t
left_open valued t f = absurd f
left_open spent t f = refl
left_open error t f = absurd f
left_open full t f = refl

-- Of the words of a term in range and of the declared type, conditions 3 to 7 give nothing but 4.
judged_fine : (τ : Ty) (t : Term ml) (start : ℕ) → InRangeTy τ → nesting_ty τ ≤ 256 → Fine τ t → (n p : ℕ)
    → judged (words_ty τ) (words t) start ≡ refused n p → n ≡ 4
judged_fine τ t start r h g n p q = by (leb (nesting t) 256) refl
  where
    types : Ordered type (words_ty τ)
    types = record { tree = τ; spelt = refl; ranged = r; nests = h }

    by : (b : Bool) → leb (nesting t) 256 ≡ b → n ≡ 4
    by true e =
        let o : InOrder τ t =
        record { nests_ty = h; nests = leb-true (nesting t) 256 e; ranged_ty = r; ranged = g.ranged; closed = typed_scoped [] t τ g.typed } in
        let j = (judged_iff (words_ty τ) (words t) start (τ, t)).1 (record { types_are = refl; terms_are = refl; order = o }, g.typed) in
        absurd (not_both n p (τ, t) (sym q ∙ j))
    by false e =
        let i = deeper_refused (term ml) t g.ranged (leb-false (nesting t) 256 e) in
        let j : judged (words_ty τ) (words t) start ≡ refused 4 (start + i.0) = rw (ordered_passes type (words_ty τ) types, i.1) in
        (refused_injective (sym q ∙ j)).0

module _ (bytes : List ℕ) (k first second : ℕ) (τ : Ty) (r : Result) (h : Paused bytes k first second τ r) where
  abbrev cap : ℕ
  cap = capacity first second

  -- The run is that of the recipe's term, which fits; what it left are the words of its last term.
  record Left : Type 0 where
    begun : Term ml
    accepted : Accepted bytes τ begun
    fits : size begun ≤ cap
    is : r ≡ run k cap uncounted begun
    words_are : r.left ≡ words (last_term k cap begun)

  left : Left
  left =
      let x = (operate_iff bytes k first second r).0 h.ran in
      let same : ◌≡◌ {A = Recipe} (x.0, x.1) (τ, h.term) = accepted_once bytes (x.0, x.1) (τ, h.term) x.2 h.accepted in
      record {
        begun = x.1;
        accepted = subst (λ (σ : Ty). Accepted bytes σ x.1) (ap (λ (y : Recipe). y.0) same) x.2;
        fits = x.3;
        is = x.4;
        words_are =
            ap (λ (y : Result). y.left) x.4 ∙ run_left k cap uncounted x.1
            ∙ left_open (run k cap uncounted x.1).end (last_term k cap x.1) (subst (λ (y : Result). Open y.end) x.4 h.goes);
      }

  abbrev e : Term ml
  e = left.begun

  abbrev t : Term ml
  t = last_term k cap e

  fine : Fine τ t
  fine = run_fine k cap τ e (record { ranged = left.accepted.filed.order.ranged; typed = left.accepted.typed })

  only_by : (room n p : ℕ) → saving (words_ty τ) r.left room ≡ refused n p → (n ≡ 4) ⊎ (n ≡ 12) ⊎ (n ≡ 13)
  only_by room n p q =
      let types = words_ty τ in
      let terms = r.left in
      let x = exactly types terms room in
      by (x.no_other n p q) (λ i. ((x.others n p i).0 q).1)
    where
      by : Numbered (words_ty τ) r.left n p
          → (n ≤ 7 → judged (words_ty τ) r.left (4 + length (words_ty τ)) ≡ refused n p) → (n ≡ 4) ⊎ (n ≡ 12) ⊎ (n ≡ 13)
      by (inl i) j =
          let a = left.accepted.filed.order in
          inl (judged_fine τ t (4 + length (words_ty τ)) a.ranged_ty a.nests_ty fine n p (rw left.words_are at j i.1))
      by (inr i) j = inr i.0

  -- The file that was saved holds the declared type and the last term.
  saved : (file : List ℕ) → FileOf (words_ty τ) r.left file → Accepted file τ t
  saved file f =
      let p = (equal_by_words.equal f.declared τ).1 (sym f.types_are) in
      let q = (one_tree (term ml) f.term t [] [] f.accepted.filed.order.ranged fine.ranged (sym f.terms_are ∙ left.words_are)).0 in
      subst (λ (u : Term ml). Accepted file τ u) q (subst (λ (σ : Ty). Accepted file σ f.term) p f.accepted)

  as_one : (room : ℕ) (file : List ℕ) → saving (words_ty τ) r.left room ≡ passed file → (j : ℕ) → 1 ≤ j
      → (s : Result) × (operate file j first second ≡ passed s) × (operate bytes (k + j) first second ≡ passed (later r.made s))
  as_one room file q zero i = absurd (omega (arith, i))
  as_one room file q (suc j) i =
      let f = (((exactly (words_ty τ) r.left room).saves file).0 q).0 in
      let s = run (suc j) cap uncounted t in
      let o = subst (λ (y : Result). Open y.end) left.is h.goes in (
        s,
        (operate_iff file (suc j) first second s).1 (τ, t, saved file f, run_short k cap e left.fits, refl),
        (operate_iff bytes (k + suc j) first second (later r.made s)).1
            (τ, e, left.accepted, left.fits, ap (λ (y : Result). later y.made s) left.is ∙ sym (run_again k j cap uncounted e o)),
      )

pub goes_on : GoesOn
goes_on =
    record {
      as_one = λ bytes k first second τ r h room file q j i. as_one bytes k first second τ r h room file q j i;
      only_by = λ bytes k first second τ r h room n p q. only_by bytes k first second τ r h room n p q;
    }
