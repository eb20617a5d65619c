-- The lambdas around a word: variables and lambdas by the table's shapes, and what noting a lambda changes. Assumes nothing.
use Rattle.std.proofs.Common.{ℕ, zero, suc, ◌-◌, ◌%◌, ◌/◌, ◌≤◌, ◌<◌, Bool, true, false, cond, not, List, [], ◌∷◌, ◌++◌, Option, None, Some}
use Rattle.std.proofs.Common.{◌≡◌, refl, sym}
use Rattle.std.proofs.Common.{◌∙◌, ap, arith, length, get_or, map}
use Rattle.std.proofs.lemmas.List.{get_or-reverse, get_or-map, length-reverse, length-map, reverse-append, map-append}
use lib.Dec.{eqb}
use borrow.Author.Tests.{ne_eqb}
use Rattle.calculus.specs.Trees.{Lang, ml, sc}
use Rattle.calculus.specs.Kinds.{Sort, type, term}
use Rattle.calculus.specs.Scope.{same_lang, lambda_at, is_free, inside}
use Rattle.nodes.specs.declared.kinds.Language.{Language}
use Rattle.nodes.specs.declared.kinds.Language.TheVariants.{Ml}
use Rattle.nodes.specs.declared.kinds.Shape.{Shape}
use Rattle.nodes.specs.declared.kinds.Shape.TheVariants as s
use Rattle.nodes.specs.Table.{as_lang, same_sort, Row, row_of, told}
use Rattle.nodes.specs.Languages.{lambdas}
use Rattle.nodes.proofs.Table.{past, every_kind, by_rows}

-- What hangs on the shapes of variables and of lambdas, and on the language.
module _ {X : Type 0} (v l d : X) where
  abbrev pub at_shape : Shape → X
  at_shape s.Variable = v
  at_shape s.Number = d
  at_shape s.Lambda = l
  at_shape (s.Operator1 o) = d
  at_shape (s.Operator2 o) = d
  at_shape s.If0 = d
  at_shape s.Nil = d
  at_shape s.Wrong = d
  at_shape s.Boundary = d
  at_shape s.Numbers = d
  at_shape s.Lump = d
  at_shape s.List = d
  at_shape s.Function = d

abbrev pub of_term : {X : Type 0} → (Lang → X) → X → Sort → X
of_term f d type = d
of_term f d (term l) = f l

module _ {X : Type 0} (f : Lang → X) (d : X) where
  abbrev if_variable : Option Row → X
  if_variable o = told o d (λ r. at_shape (of_term f d r.sort) d d r.shape)

  abbrev if_lambda : Option Row → X
  if_lambda o = told o d (λ r. at_shape d (of_term f d r.sort) d r.shape)

  pub by_variable : (k : ℕ) → cond (eqb k 16) (f ml) (cond (eqb k 32) (f sc) d) ≡ if_variable (row_of k)
  unfolding row_of
  by_variable =
      every_kind (λ k. cond (eqb k 16) (f ml) (cond (eqb k 32) (f sc) d)) (λ k. if_variable (row_of k)) refl
      (λ k far. rw (past k far, ne_eqb k 16 (λ p. omega (arith, p)), ne_eqb k 32 (λ p. omega (arith, p))))

  pub by_lambda : (k : ℕ) → cond (eqb k 18) (f ml) (cond (eqb k 34) (f sc) d) ≡ if_lambda (row_of k)
  unfolding row_of
  by_lambda =
      every_kind (λ k. cond (eqb k 18) (f ml) (cond (eqb k 34) (f sc) d)) (λ k. if_lambda (row_of k)) refl
      (λ k far. rw (past k far, ne_eqb k 18 (λ p. omega (arith, p)), ne_eqb k 34 (λ p. omega (arith, p))))

module _ {X : Type 0} (v d : X) where
  pub no_variable : (x : Shape) → (x ≡ s.Variable → ⊥) → at_shape v d d x ≡ d
  no_variable s.Variable h = absurd (h refl)
  no_variable s.Number h = refl
  no_variable s.Lambda h = refl
  no_variable (s.Operator1 o) h = refl
  no_variable (s.Operator2 o) h = refl
  no_variable s.If0 h = refl
  no_variable s.Nil h = refl
  no_variable s.Wrong h = refl
  no_variable s.Boundary h = refl
  no_variable s.Numbers h = refl
  no_variable s.Lump h = refl
  no_variable s.List h = refl
  no_variable s.Function h = refl

  pub no_lambda : (x : Shape) → (x ≡ s.Lambda → ⊥) → at_shape d v d x ≡ d
  no_lambda s.Variable h = refl
  no_lambda s.Number h = refl
  no_lambda s.Lambda h = absurd (h refl)
  no_lambda (s.Operator1 o) h = refl
  no_lambda (s.Operator2 o) h = refl
  no_lambda s.If0 h = refl
  no_lambda s.Nil h = refl
  no_lambda s.Wrong h = refl
  no_lambda s.Boundary h = refl
  no_lambda s.Numbers h = refl
  no_lambda s.Lump h = refl
  no_lambda s.List h = refl
  no_lambda s.Function h = refl

-- The lambda with n others between.
lambda_there : (Γ : List Lang) (n : ℕ) (l : Lang) → n < length Γ → lambda_at Γ n l ≡ same_lang (get_or Γ n ml) l
lambda_there [] n l h = absurd (omega (arith, h))
lambda_there (m ∷ Γ) zero l h = refl
lambda_there (m ∷ Γ) (suc n) l h = lambda_there Γ n l (omega (arith, h))

no_lambda_there : (Γ : List Lang) (n : ℕ) (l : Lang) → length Γ ≤ n → lambda_at Γ n l ≡ false
no_lambda_there [] n l h = refl
no_lambda_there (m ∷ Γ) zero l h = absurd (omega (arith, h))
no_lambda_there (m ∷ Γ) (suc n) l h = no_lambda_there Γ n l (omega (arith, h))

as_many_lambdas : (ls : List Language) → length (lambdas ls) ≡ length ls
as_many_lambdas ls = length-reverse (map as_lang ls) ∙ length-map ls as_lang

lambda_in : (ls : List Language) (n : ℕ) (l : Lang) → n < length ls
    → lambda_at (lambdas ls) n l ≡ same_lang (as_lang (get_or ls (length ls - 1 - n) Ml)) l
lambda_in ls n l h =
    lambda_there (lambdas ls) n l (rw (as_many_lambdas ls) h)
    ∙ ap (λ (m : Lang). same_lang m l) (get_or-reverse (map as_lang ls) n ml (rw (length-map ls as_lang) h)
    ∙ rw (length-map ls as_lang) (get_or-map as_lang ls (length ls - 1 - n) Ml ml (omega arith)))

same_sym : (l m : Lang) → same_lang l m ≡ same_lang m l
same_sym ml ml = refl
same_sym ml sc = refl
same_sym sc ml = refl
same_sym sc sc = refl

variables_are_terms : (k : ℕ) → told (row_of k) true (λ r. at_shape (of_term (λ l. true) false r.sort) true true r.shape) ≡ true
unfolding row_of
variables_are_terms = by_rows (λ o. told o true (λ r. at_shape (of_term (λ l. true) false r.sort) true true r.shape)) (λ o. true) refl refl

-- The ways out of the test of a variable.
module _ (ls : List Language) (w : ℕ) where
  abbrev free_in : Lang → Bool
  free_in l = not (lambda_at (lambdas ls) (w / 256) l)

  free_by : is_free (lambdas ls) w ≡ told (row_of (w % 256)) false (λ r. at_shape (of_term free_in false r.sort) false false r.shape)
  free_by = by_variable free_in false (w % 256)

  pub no_kind_free : None ≡ row_of (w % 256) → false ≡ is_free (lambdas ls) w
  no_kind_free e = sym (free_by ∙ rw (sym e))

  module _ (x : Row) (known : Some x ≡ row_of (w % 256)) where
    pub another_shape : (x.shape ≡ s.Variable → ⊥) → false ≡ is_free (lambdas ls) w
    another_shape h = sym (free_by ∙ rw (sym known) (no_variable _ false x.shape h))

    variable_by : x.shape ≡ s.Variable → is_free (lambdas ls) w ≡ of_term free_in false x.sort
    variable_by h = free_by ∙ rw (sym known, h)

    is_term : x.shape ≡ s.Variable → of_term (λ l. true) false x.sort ≡ true
    is_term h =
        ap (λ (y : Shape). at_shape (of_term (λ l. true) false x.sort) true true y) (sym h)
        ∙ ap (λ (o : Option Row). told o true (λ r. at_shape (of_term (λ l. true) false r.sort) true true r.shape)) known
        ∙ variables_are_terms (w % 256)

    pub too_far : x.shape ≡ s.Variable → length ls ≤ w / 256 → true ≡ is_free (lambdas ls) w
    too_far h g = by x.sort (is_term h) ∙ sym (variable_by h)
      where
        by : (y : Sort) → of_term (λ l. true) false y ≡ true → true ≡ of_term free_in false y
        by type e = sym e
        by (term l) e = rw (no_lambda_there (lambdas ls) (w / 256) l (rw (as_many_lambdas ls) g))

    pub of_lambda : x.shape ≡ s.Variable → w / 256 < length ls → (b : Bool)
        → b ≡ same_sort x.sort (term (as_lang (get_or ls (length ls - 1 - w / 256) Ml))) → not b ≡ is_free (lambdas ls) w
    of_lambda h g b q = ap not q ∙ by x.sort (is_term h) ∙ sym (variable_by h)
      where
        there : Lang
        there = as_lang (get_or ls (length ls - 1 - w / 256) Ml)

        by : (y : Sort) → of_term (λ l. true) false y ≡ true → not (same_sort y (term there)) ≡ of_term free_in false y
        by type e = sym e
        by (term l) e = ap not (same_sym l there ∙ sym (lambda_in ls (w / 256) l g))

-- The ways out of noting a lambda.
module _ (ls : List Language) (w : ℕ) where
  inside_by : inside (lambdas ls) w
      ≡ told (row_of (w % 256)) (lambdas ls) (λ r. at_shape (lambdas ls) (of_term (λ l. l ∷ lambdas ls) (lambdas ls) r.sort)
      (lambdas ls) r.shape)
  inside_by = by_lambda (λ l. l ∷ lambdas ls) (lambdas ls) (w % 256)

  pub no_kind_noted : None ≡ row_of (w % 256) → lambdas ls ≡ inside (lambdas ls) w
  no_kind_noted e = sym (inside_by ∙ rw (sym e))

  module _ (x : Row) (known : Some x ≡ row_of (w % 256)) where
    pub none_noted : (x.shape ≡ s.Lambda → ⊥) → lambdas ls ≡ inside (lambdas ls) w
    none_noted h = sym (inside_by ∙ rw (sym known) (no_lambda _ (lambdas ls) x.shape h))

    module _ (h : x.shape ≡ s.Lambda) where
      noted_by : of_term (λ l. l ∷ lambdas ls) (lambdas ls) x.sort ≡ inside (lambdas ls) w
      noted_by = sym (inside_by ∙ rw (sym known, h))

      pub of_a_type : x.sort ≡ type → lambdas ls ≡ inside (lambdas ls) w
      of_a_type e = ap (of_term (λ l. l ∷ lambdas ls) (lambdas ls)) (sym e) ∙ noted_by

      pub noted : (l : Lang) → x.sort ≡ term l → l ∷ lambdas ls ≡ inside (lambdas ls) w
      noted l e = ap (of_term (λ l. l ∷ lambdas ls) (lambdas ls)) (sym e) ∙ noted_by

pub pushed : (ls : List Language) (l : Language) → lambdas (ls ++ l ∷ []) ≡ as_lang l ∷ lambdas ls
pushed ls l = rw (map-append as_lang ls (l ∷ []), reverse-append (map as_lang ls) (as_lang l ∷ []))
