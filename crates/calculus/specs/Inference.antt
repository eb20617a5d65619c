-- Document 01, "Each ML term has at most one type": typing as a function, the one type that a term has, if it has any.
use Rattle.std.specs.Prelude.{ℕ, zero, suc, Bool, true, false, cond, [], ◌∷◌, ◌↔◌, ◌≡◌}
use Rattle.std.proofs.Math.Option.{Option, none, some}
use Rattle.calculus.specs.Trees.{Ty, N, L, list, ◌to◌, Lang, ml, sc, Static, numbers, lists, functions, Op1, HD, TL, FIX, NULL?}
use Rattle.calculus.specs.Trees.{TEST, Op2, APP, ADD, SUB, CONS, Term, var, num, lam, op1, op2, if0, nil, wrong, ms, sm}
use Rattle.calculus.specs.Words.{words_ty}
use Rattle.calculus.specs.Comparison.{compare_types}
use Rattle.calculus.specs.Verdicts.{found}
use Rattle.calculus.specs.Typing.{Entry, of, Lambdas}

-- "Types are equal when their words are": where the comparison finds no difference.
abbrev pub same_type : (l : Lang) → Static l → Static l → Bool
same_type ml t u = found (compare_types t u) true (λ d. false)
same_type sc t u = true

-- What that sentence says; proofs/Comparison.antt proves it.
pub record EqualByWords : Type 0 where
  pub equal : (t u : Ty) → (t ≡ u) ↔ (words_ty t ≡ words_ty u)
  pub same : (t u : Ty) → (same_type ml t u ≡ true) ↔ (words_ty t ≡ words_ty u)

abbrev pub entry_type : (l : Lang) → Entry → Option (Static l)
entry_type ml (of ml t) = some t
entry_type ml (of sc t) = none
entry_type sc (of ml t) = none
entry_type sc (of sc t) = some t

abbrev pub type_at : (l : Lang) → Lambdas → ℕ → Option (Static l)
type_at l [] i = none
type_at l (x ∷ Γ) zero = entry_type l x
type_at l (x ∷ Γ) (suc i) = type_at l Γ i

-- What a type is made of: t of {t}; t and u of t to u. In Scheme anything serves as a list and as a function.
abbrev pub element : (l : Lang) → Static l → Option (Static l)
element ml N = none
element ml (L o) = none
element ml (list t) = some t
element ml (t to u) = none
element sc t = some tt

abbrev pub sides : (l : Lang) → Static l → Option (Static l × Static l)
sides ml N = none
sides ml (L o) = none
sides ml (list t) = none
sides ml (t to u) = some (t, u)
sides sc t = some (tt, tt)

abbrev pub result1 : {l : Lang} → Op1 l → Static l → Option (Static l)
result1 (HD {l}) t = element l t
result1 (TL {l}) t = found (element l t) none (λ u. some (lists l u))
result1 FIX t = found (sides ml t) none (λ x. cond (same_type ml x.0 x.1) (some x.0) none)
result1 NULL? t = found (element ml t) none (λ u. some N)
result1 (TEST k) t = some tt

abbrev pub sum_type : (l : Lang) → Static l → Static l → Option (Static l)
sum_type l t u = cond (same_type l t (numbers l)) (cond (same_type l u (numbers l)) (some (numbers l)) none) none

abbrev pub result2 : (l : Lang) → Op2 → Static l → Static l → Option (Static l)
result2 l APP t u = found (sides l t) none (λ x. cond (same_type l x.0 u) (some x.1) none)
result2 l ADD t u = sum_type l t u
result2 l SUB t u = sum_type l t u
result2 l CONS t u = cond (same_type l u (lists l t)) (some (lists l t)) none

abbrev pub result3 : (l : Lang) → Static l → Static l → Static l → Option (Static l)
result3 l t u v = cond (same_type l t (numbers l)) (cond (same_type l u v) (some u) none) none

unfoldable pub infer : {l : Lang} → Lambdas → Term l → Option (Static l)
infer Γ (var {l} i) = type_at l Γ i
infer Γ (num {l} n) = some (numbers l)
infer Γ (lam {l} t b) = found (infer (of l t ∷ Γ) b) none (λ u. some (functions l t u))
infer Γ (op1 o a) = found (infer Γ a) none (λ t. result1 o t)
infer Γ (op2 {l} o a b) = found (infer Γ a) none (λ t. found (infer Γ b) none (λ u. result2 l o t u))
infer Γ (if0 {l} a b c) = found (infer Γ a) none (λ t. found (infer Γ b) none (λ u. found (infer Γ c) none (λ v. result3 l t u v)))
infer Γ (nil {l} t) = some (lists l t)
infer Γ (wrong c t) = some t
infer Γ (ms t a) = found (infer Γ a) none (λ u. some t)
infer Γ (sm t a) = found (infer Γ a) none (λ u. cond (same_type ml u t) (some tt) none)
