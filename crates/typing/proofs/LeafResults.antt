-- The ways out of the typing at a term with no part that is a term. Assumes nothing.
use Prim.Native.Nat.{ℕ, suc, ◌+◌, ◌/◌, ◌<◌}
use mathlib.Core.List.{List}
use mathlib.Core.Logic.{◌⊎◌, inl, inr}
use mathlib.Core.Option.{Option, none, some}
use mathlib.Core.Path.{◌≡◌, refl, ap, ◌∙◌, subst}
use lib.ListN.{length, get_or, drop}
use native.Mathlib.Omega.{arith}
use Rattle.std.specs.Option.{option_map}
use Rattle.std.proofs.Common.{Option as Found, Some, Result, Ok, Err}
use Rattle.calculus.specs.Trees.{Lang, ml, sc, Static, Term, var, num, nil}
use Rattle.calculus.specs.Words.{word, by as by_language, put, size, size_ty}
use Rattle.calculus.specs.Kinds.{term}
use Rattle.calculus.specs.Typing.{Lambdas}
use Rattle.calculus.specs.Inference.{infer, type_at}
use Rattle.calculus.specs.Faults.{fault}
use Rattle.calculus.proofs.Sizes.{past_word}
use Rattle.nodes.specs.declared.kinds.Shape.{Shape}
use Rattle.nodes.specs.declared.kinds.Shape.TheVariants as s
use Rattle.nodes.proofs.Terms as node
use Rattle.nodes.proofs.Terms.{Shaped}
use Rattle.types.specs.References.{former_of, Written, Means}
use Rattle.types.specs.Comparisons.{TypeEnd}
use Rattle.types.proofs.Meanings.{tree_shape, written_means}
use Rattle.typing.specs.declared.Fault.{Fault}
use Rattle.typing.specs.Answers.{Reference, Answer, whole, bad, Refers, WrittenStatic, Advances, Answers}
use Rattle.typing.specs.Variables.{Scope, Bound, Variable}
use Rattle.typing.specs.Infers.{Leaf, Infers}
use Rattle.typing.proofs.Telling.{Of, leaf_told, word_told, as_variable}

module _ (w : List ℕ) (at : ℕ) (ls : List ℕ) (scope : ℕ) where
  -- What there is to show of a term; and it, shown of each term of the language that may be written there.
  abbrev Answered : (l : Lang) → Answer l → Term l → Type 0
  Answered l r e =
      (Γ : Lambdas) (k : List ℕ) → drop at w ≡ put e k → Scope w ls at scope Γ
      → Answers l w ls at (at + size e) (fault at Γ e) (at + size e) (infer Γ e) r

  shown : {l : Lang} {r : Answer l} → Advances at (length w) r → Of l w at (Answered l r) → Infers l w at scope ls ls r
  shown a f =
      record { same = refl; kept = λ i j. refl; advances = a; is = λ e Γ k d s. record { answer = f e k d Γ k d s } }

  -- No term is written there.
  pub no_term_there : {l : Lang} → Of l w at (λ e. ⊥) → Infers l w at scope ls ls (bad at)
  no_term_there none_seen = shown tt (λ e k d. absurd (none_seen e k d))

  -- At a place of the words, behind the first.
  module _ (behind : 0 < at) (within : at < length w) where
    index : (l : Lang) (i : ℕ) → get_or w at 0 ≡ word (by_language l 16 32) i → get_or w at 0 / 256 ≡ i
    index ml i q = omega (arith, q)
    index sc i q = omega (arith, q)

    -- A variable, by its lambda.
    module _ (l : Lang) (r : Result ℕ Fault) (v : Variable l w ls scope at r) (seen : Of l w at (Shaped l s.Variable)) where
      bound_told : (i : ℕ) (Γ : Lambdas) (k : List ℕ) → drop at w ≡ put (var {l = l} i) k → Scope w ls at scope Γ → Bound l w at (type_at l Γ i) r
      unfolding put
      bound_told i Γ k d s = subst (λ (j : ℕ). Bound l w at (type_at l Γ j) r) (index l i (word_told w at (var {l = l} i) k d)) (v.is Γ s)

      pub unbound : (f : Fault) → r ≡ Err f → Infers l w at scope ls ls (bad f.at)
      unfolding infer fault size Answers
      unbound f z = shown tt (λ e k d. as_variable (Answered l (bad f.at)) one e (seen e k d))
        where
          by : (o : Option (Static l)) → Bound l w at o r → Answers l w ls at (at + 1) at (at + 1) o (bad f.at)
          by none b = let k : f ≡ record { at = at } = cc in ap bad (ap (λ (x : Fault). x.at) k)
          by (some t) b = let c = b.1 in let y : ◌≡◌ {A = ℕ} 0 1 = cc in absurd (omega arith)

          one : (i : ℕ) → Answered l (bad f.at) (var i)
          one i Γ k d s = by (type_at l Γ i) (bound_told i Γ k d s)

      pub bound : (p : ℕ) → r ≡ Ok p → (q : Reference l)
          → ((t : Static l) (lo hi : ℕ) → WrittenStatic l w (p + 1) t → Refers l w ls lo hi q t) → Infers l w at scope ls ls (whole q (at + 1))
      unfolding infer fault size Answers
      bound p z q f =
          shown (omega arith, omega (arith, within)) (λ e k d. as_variable (Answered l (whole q (at + 1))) one e (seen e k d))
        where
          by : (o : Option (Static l)) → Bound l w at o r → Answers l w ls at (at + 1) at (at + 1) o (whole q (at + 1))
          by none b = let y : ◌≡◌ {A = ℕ} 0 1 = cc in absurd (omega arith)
          by (some t) b =
              let c = b.1 in
              let y : b.0 ≡ p = cc in
              (q, refl, f t at (at + 1) (subst (λ (i : ℕ). WrittenStatic l w (i + 1) t) y b.2))

          one : (i : ℕ) → Answered l (whole q (at + 1)) (var i)
          one i Γ k d s = by (type_at l Γ i) (bound_told i Γ k d s)

    past : (l : Lang) (q : Reference l) → Advances {l = l} at (length w) (whole q (at + 1))
    past l q = (omega arith, omega (arith, within))

    -- A number; and in ML a nil or a wrong, with its type behind.
    pub a_number : Of ml w at (Shaped ml s.Number) → Infers ml w at scope ls ls (whole at (at + 1))
    unfolding infer fault size Answers Means
    a_number seen = shown (past ml at) (λ e k d. by e (seen e k d))
      where
        by : (e : Term ml) → Shaped ml s.Number e → Answered ml (whole at (at + 1)) e
        by e (node.a_number {n = n}) Γ k d s = (at, refl, ap (option_map former_of) (tree_shape (term ml) w at (num n) k behind d))

    module _ {end : ℕ} (S : TypeEnd w (at + 1) end) where
      past_type : (q : ℕ) → Advances {l = ml} at (length w) (whole q end)
      past_type q = (omega (arith, S.least), S.most)

      pub a_nil : Of ml w at (Shaped ml s.Nil) → Infers ml w at scope ls ls (whole at end)
      unfolding infer fault size put Answers Means
      a_nil seen = shown (past_type at) (λ e k d. by e (seen e k d))
        where
          by : (e : Term ml) → Shaped ml s.Nil e → Answered ml (whole at end) e
          by e (node.a_nil {t = t}) Γ k d s =
              let y : Written w (at + 1) t = (k, past_word at _ w _ d) in
              let n : end ≡ at + suc (size_ty t) = omega (arith, S.is t y) in
              (at, ap (whole at) n, (ap (option_map former_of) (tree_shape (term ml) w at (nil t) k behind d), y))

      pub a_wrong : Of ml w at (Shaped ml s.Wrong) → Infers ml w at scope ls ls (whole (at + 1) end)
      unfolding infer fault size put Answers
      a_wrong seen = shown (past_type (at + 1)) (λ e k d. by e (seen e k d))
        where
          by : (e : Term ml) → Shaped ml s.Wrong e → Answered ml (whole (at + 1) end) e
          by e (node.a_wrong c t) Γ k d s =
              let y : Written w (at + 1) t = (k, past_word at _ w _ d) in
              let n : end ≡ at + suc (size_ty t) = omega (arith, S.is t y) in
              (at + 1, ap (whole (at + 1)) n, written_means w ls at (at + suc (size_ty t)) (at + 1) t (omega arith) y)

    -- In Scheme each of them is one word.
    module _ (x : Shape) (f : (e : Term sc) → Shaped sc x e → (size e ≡ 1) × ((Γ : Lambdas) → infer Γ e ≡ some tt)) where
      one_word : Of sc w at (Shaped sc x) → Infers sc w at scope ls ls (whole tt (at + 1))
      unfolding Answers
      one_word seen = shown (past sc tt) (λ e k d Γ j q s. let x = f e (seen e k d) in rw (x.1 Γ, x.0) (tt, refl, tt))

    scheme_number : Of sc w at (Shaped sc s.Number) → Infers sc w at scope ls ls (whole tt (at + 1))
    unfolding infer size
    scheme_number = one_word s.Number by
      where
        by : (e : Term sc) → Shaped sc s.Number e → (size e ≡ 1) × ((Γ : Lambdas) → infer Γ e ≡ some tt)
        by e node.a_number = (refl, λ Γ. refl)

    scheme_nil : Of sc w at (Shaped sc s.Nil) → Infers sc w at scope ls ls (whole tt (at + 1))
    unfolding infer size
    scheme_nil = one_word s.Nil by
      where
        by : (e : Term sc) → Shaped sc s.Nil e → (size e ≡ 1) × ((Γ : Lambdas) → infer Γ e ≡ some tt)
        by e node.a_nil = (refl, λ Γ. refl)

    scheme_wrong : Of sc w at (Shaped sc s.Wrong) → Infers sc w at scope ls ls (whole tt (at + 1))
    unfolding infer size
    scheme_wrong = one_word s.Wrong by
      where
        by : (e : Term sc) → Shaped sc s.Wrong e → (size e ≡ 1) × ((Γ : Lambdas) → infer Γ e ≡ some tt)
        by e (node.a_wrong c t) = (refl, λ Γ. refl)

  -- A number, a nil or a wrong of Scheme, by the shape of the leaf.
  pub a_scheme_word : {h : Found Shape} → Leaf w at h → (x : Shape) → h ≡ Some x → (x ≡ s.Number) ⊎ ((x ≡ s.Nil) ⊎ (x ≡ s.Wrong))
      → Infers sc w at scope ls ls (whole tt (at + 1))
  a_scheme_word N x e (inl q) = scheme_number N.behind N.within (leaf_told N s.Number (e ∙ ap Some q) sc)
  a_scheme_word N x e (inr (inl q)) = scheme_nil N.behind N.within (leaf_told N s.Nil (e ∙ ap Some q) sc)
  a_scheme_word N x e (inr (inr q)) = scheme_wrong N.behind N.within (leaf_told N s.Wrong (e ∙ ap Some q) sc)
