-- Owners refuse recipes and change no run. Assumes nothing.
use Prim.Native.Nat.{ℕ, zero, suc, ◌+◌, ◌-◌, ◌%◌, ◌<◌}
use mathlib.Core.Bool.{Bool, true, false, cond}
use mathlib.Core.List.{List, [], ◌∷◌}
use mathlib.Core.Logic.{◌↔◌, ◌⊎◌, inl, inr}
use mathlib.Core.Path.{◌≡◌, refl, sym, ap, ◌∙◌, subst, subst₂}
use lib.Dec.{T, eqb, leb}
use borrow.Author.Tests.{eq-eqb, ne_eqb}
use native.Mathlib.Omega.{arith}
use Rattle.calculus.specs.Trees.{Ty, N, L, list, ◌to◌, Lang, ml, sc, Static, numbers, lists, functions, Op1, HD, TL, FIX, NULL?, TEST}
use Rattle.calculus.specs.Trees.{Op2, APP, ADD, SUB, CONS, Term, var, num, lam, op1, op2, if0, nil, wrong, ms, sm, fix}
use Rattle.calculus.specs.Words.{word, by, test_number, word1, word2, words, put, put_ty, put_static, size, size_ty, size_static}
use Rattle.calculus.specs.Limits.{InRangeTy, InRangeStatic, InRange, nesting_ty, nesting_static, nesting}
use Rattle.calculus.specs.Scope.{Scoped}
use Rattle.calculus.specs.Typing.{Entry, of, Lambdas, At, Rule1, Rule2, Typed}
use Rattle.calculus.specs.Reduction.{is_lump, is_value, form}
use Rattle.calculus.specs.Substitution.{shift, for_own, ordinary}
use Rattle.calculus.specs.Rules.{Value, lam_v, num_v, nil_v, cons_v, Lambda, Number, Nil, Cons, ◌⊢◌⇒◌, app_lambda, app_no_lambda, fix_lambda}
use Rattle.calculus.specs.Rules.{add_numbers, add_over, add_no_number, sub_numbers, sub_no_number, if0_zero, if0_other, if0_no_number}
use Rattle.calculus.specs.Rules.{hd_cons, hd_nil, hd_no_list, tl_cons, tl_nil, tl_no_list, null_nil, null_cons, fun?_lambda, fun?_other}
use Rattle.calculus.specs.Rules.{list?_nil, list?_cons, list?_other, null?_nil, null?_other, num?_number, num?_other, ms_number}
use Rattle.calculus.specs.Rules.{ms_no_number, ms_nil, ms_cons, ms_no_list, ms_lambda, ms_no_lambda, sm_number, sm_lump, sm_nil, sm_cons}
use Rattle.calculus.specs.Rules.{sm_lambda, Around, hole, in_unary, in_first, in_second, in_test, in_ms, in_sm, around, ◌⟶◌, by_rule, Steps}
use Rattle.calculus.specs.Rules.{stay, then, Raises, by_wrong}
use Rattle.calculus.specs.Classes.{Class, call, conversion, other, node_class, step_class, among}
use Rattle.calculus.specs.Counting.{counts}
use Rattle.calculus.specs.Run.{error, Counts, counted, Result, ended}
use Rattle.calculus.specs.Endings.{InCapacity, Ends, by_value, by_limit, by_error, by_full}
use Rattle.calculus.specs.Accepted.{file_words, Accepted}
use Rattle.calculus.specs.Owners.{ownerless, ownerless_static, ownerless_term, ownerless_word, ownerless_words, ownerless_file}
use Rattle.calculus.specs.Owners.{Ownerless, OwnersRefuseOnly}
use Rattle.calculus.proofs.Values.{value_iff}
use Rattle.calculus.proofs.Contraction.{mark}

-- Words.
sized_type : (t : Ty) → size_ty (ownerless t) ≡ size_ty t
unfolding ownerless size_ty
sized_type N = refl
sized_type (L o) = refl
sized_type (list t) = ap suc (sized_type t)
sized_type (t to u) = rw (sized_type t, sized_type u)

sized_static : (l : Lang) (t : Static l) → size_static l (ownerless_static l t) ≡ size_static l t
sized_static ml t = sized_type t
sized_static sc t = refl

pub sized : {l : Lang} (e : Term l) → size (ownerless_term e) ≡ size e
unfolding ownerless_term size
sized (var i) = refl
sized (num n) = refl
sized (lam {l} t b) = rw (sized_static l t, sized b)
sized (op1 o a) = rw (sized a)
sized (op2 o a b) = rw (sized a, sized b)
sized (if0 a b c) = rw (sized a, sized b, sized c)
sized (nil {l} t) = rw (sized_static l t)
sized (wrong {l} c t) = rw (sized_static l t)
sized (ms t a) = rw (sized_type t, sized a)
sized (sm t a) = rw (sized_type t, sized a)

-- Nesting, ranges and variables.
nests_type : (t : Ty) → nesting_ty (ownerless t) ≡ nesting_ty t
unfolding ownerless nesting_ty
nests_type N = refl
nests_type (L o) = refl
nests_type (list t) = ap suc (nests_type t)
nests_type (t to u) = rw (nests_type t, nests_type u)

nests_static : (l : Lang) (t : Static l) → nesting_static l (ownerless_static l t) ≡ nesting_static l t
nests_static ml t = nests_type t
nests_static sc t = refl

nests : {l : Lang} (e : Term l) → nesting (ownerless_term e) ≡ nesting e
unfolding ownerless_term nesting
nests (var i) = refl
nests (num n) = refl
nests (lam {l} t b) = rw (nests_static l t, nests b)
nests (op1 o a) = rw (nests a)
nests (op2 o a b) = rw (nests a, nests b)
nests (if0 a b c) = rw (nests a, nests b, nests c)
nests (nil {l} t) = rw (nests_static l t)
nests (wrong {l} c t) = rw (nests_static l t)
nests (ms t a) = rw (nests_type t, nests a)
nests (sm t a) = rw (nests_type t, nests a)

ranged_type : (t : Ty) → InRangeTy (ownerless t)
unfolding ownerless InRangeTy
ranged_type N = tt
ranged_type (L o) = omega arith
ranged_type (list t) = ranged_type t
ranged_type (t to u) = (ranged_type t, ranged_type u)

ranged_static : (l : Lang) (t : Static l) → InRangeStatic l (ownerless_static l t)
ranged_static ml t = ranged_type t
ranged_static sc t = tt

ranged_kept : {l : Lang} (e : Term l) → InRange e → InRange (ownerless_term e)
unfolding ownerless_term InRange
ranged_kept (var i) h = h
ranged_kept (num n) h = h
ranged_kept (lam {l} t b) h = (ranged_static l t, ranged_kept b h.1)
ranged_kept (op1 o a) h = ranged_kept a h
ranged_kept (op2 o a b) h = (ranged_kept a h.0, ranged_kept b h.1)
ranged_kept (if0 a b c) h = (ranged_kept a h.0, ranged_kept b h.1, ranged_kept c h.2)
ranged_kept (nil {l} t) h = ranged_static l t
ranged_kept (wrong {l} c t) h = (h.0, h.1, ranged_static l t)
ranged_kept (ms t a) h = (ranged_type t, ranged_kept a h.1)
ranged_kept (sm t a) h = (ranged_type t, ranged_kept a h.1)

scoped_kept : {l : Lang} (Γ : List Lang) (e : Term l) → Scoped Γ e → Scoped Γ (ownerless_term e)
unfolding ownerless_term
scoped_kept Γ (var i) h = h
scoped_kept Γ (num n) h = tt
scoped_kept Γ (lam {l} t b) h = scoped_kept (l ∷ Γ) b h
scoped_kept Γ (op1 o a) h = scoped_kept Γ a h
scoped_kept Γ (op2 o a b) h = (scoped_kept Γ a h.0, scoped_kept Γ b h.1)
scoped_kept Γ (if0 a b c) h = (scoped_kept Γ a h.0, scoped_kept Γ b h.1, scoped_kept Γ c h.2)
scoped_kept Γ (nil t) h = tt
scoped_kept Γ (wrong c t) h = tt
scoped_kept Γ (ms t a) h = scoped_kept Γ a h
scoped_kept Γ (sm t a) h = scoped_kept Γ a h

-- Types.
numbers_kept : (l : Lang) → ownerless_static l (numbers l) ≡ numbers l
unfolding ownerless
numbers_kept ml = refl
numbers_kept sc = refl

number_kept : (l : Lang) (t : Static l) → t ≡ numbers l → ownerless_static l t ≡ numbers l
number_kept l t h = ap (ownerless_static l) h ∙ numbers_kept l

lists_kept : (l : Lang) (t : Static l) → ownerless_static l (lists l t) ≡ lists l (ownerless_static l t)
unfolding ownerless
lists_kept ml t = refl
lists_kept sc t = refl

functions_kept : (l : Lang) (t u : Static l) → ownerless_static l (functions l t u) ≡ functions l (ownerless_static l t) (ownerless_static l u)
unfolding ownerless
functions_kept ml t u = refl
functions_kept sc t u = refl

abbrev entry : Entry → Entry
entry (of l t) = of l (ownerless_static l t)

abbrev lambdas : Lambdas → Lambdas
lambdas [] = []
lambdas (x ∷ Γ) = entry x ∷ lambdas Γ

at_kept : (Γ : Lambdas) (i : ℕ) (l : Lang) (τ : Static l) → At Γ i l τ → At (lambdas Γ) i l (ownerless_static l τ)
at_kept [] i l τ h = absurd h
at_kept (x ∷ Γ) zero l τ h = ap entry h
at_kept (x ∷ Γ) (suc i) l τ h = at_kept Γ i l τ h

rule1_kept : {l : Lang} (o : Op1 l) (t τ : Static l) → Rule1 o t τ → Rule1 o (ownerless_static l t) (ownerless_static l τ)
unfolding ownerless
rule1_kept (HD {l}) t τ h = ap (ownerless_static l) h ∙ lists_kept l τ
rule1_kept (TL {l}) t τ h =
    (ownerless_static l h.0, ap (ownerless_static l) h.1 ∙ lists_kept l h.0, ap (ownerless_static l) h.2 ∙ lists_kept l h.0)
rule1_kept FIX t τ h = ap ownerless h
rule1_kept NULL? t τ h = (ownerless h.0, ap ownerless h.1, ap ownerless h.2)
rule1_kept (TEST k) t τ h = tt

rule2_kept : (l : Lang) (o : Op2) (t u τ : Static l) → Rule2 l o t u τ → Rule2 l o (ownerless_static l t) (ownerless_static l u)
    (ownerless_static l τ)
rule2_kept l APP t u τ h = ap (ownerless_static l) h ∙ functions_kept l u τ
rule2_kept l ADD t u τ h = (number_kept l t h.0, number_kept l u h.1, number_kept l τ h.2)
rule2_kept l SUB t u τ h = (number_kept l t h.0, number_kept l u h.1, number_kept l τ h.2)
rule2_kept l CONS t u τ h = (ap (ownerless_static l) h.0 ∙ lists_kept l t, ap (ownerless_static l) h.1 ∙ lists_kept l t)

typed : {l : Lang} (Γ : Lambdas) (e : Term l) (τ : Static l) → Typed Γ e τ → Typed (lambdas Γ) (ownerless_term e) (ownerless_static l τ)
unfolding ownerless_term
typed Γ (var {l} i) τ h = at_kept Γ i l τ h
typed Γ (num {l} n) τ h = number_kept l τ h
typed Γ (lam {l} t b) τ h =
    (ownerless_static l h.0, typed (of l t ∷ Γ) b h.0 h.1, ap (ownerless_static l) h.2 ∙ functions_kept l t h.0)
typed Γ (op1 {l} o a) τ h = (ownerless_static l h.0, typed Γ a h.0 h.1, rule1_kept o h.0 τ h.2)
typed Γ (op2 {l} o a b) τ h =
    (ownerless_static l h.0, ownerless_static l h.1, typed Γ a h.0 h.2, typed Γ b h.1 h.3, rule2_kept l o h.0 h.1 τ h.4)
typed Γ (if0 {l} a b c) τ h =
    (subst (Typed (lambdas Γ) (ownerless_term a)) (numbers_kept l) (typed Γ a (numbers l) h.0), typed Γ b τ h.1, typed Γ c τ h.2)
typed Γ (nil {l} t) τ h = ap (ownerless_static l) h ∙ lists_kept l t
typed Γ (wrong {l} c t) τ h = ap (ownerless_static l) h
typed Γ (ms t a) τ h = (typed Γ a tt h.0, ap ownerless h.1)
typed Γ (sm t a) τ h = typed Γ a t h

-- Values.
lump_kept : (t : Ty) → is_lump (ownerless t) ≡ is_lump t
unfolding ownerless
lump_kept N = refl
lump_kept (L o) = refl
lump_kept (list t) = refl
lump_kept (t to u) = refl

value_kept : {l : Lang} (e : Term l) → is_value (ownerless_term e) ≡ is_value e
unfolding ownerless_term is_value
value_kept (var i) = refl
value_kept (num n) = refl
value_kept (lam t b) = refl
value_kept (op1 o a) = refl
value_kept (op2 o a b) = rw (value_kept a, value_kept b)
value_kept (if0 a b c) = refl
value_kept (nil t) = refl
value_kept (wrong c t) = refl
value_kept (ms t a) = rw (lump_kept t, value_kept a)
value_kept (sm t a) = refl

value_iff_kept : {l : Lang} (e : Term l) → Value l e ↔ Value l (ownerless_term e)
value_iff_kept e = (
  λ v. (value_iff (ownerless_term e)).0 (subst T (sym (value_kept e)) ((value_iff e).1 v)),
  λ v. (value_iff e).0 (subst T (value_kept e) ((value_iff (ownerless_term e)).1 v)),
)

abbrev v_kept : {l : Lang} {e : Term l} → Value l e → Value l (ownerless_term e)
v_kept {l} {e} v = (value_iff_kept e).0 v

-- A Scheme value has the form that it has without owners.
forms_kept : {v : Term sc} → Value sc v
    → (Number (ownerless_term v) → Number v) × (Lambda (ownerless_term v) → Lambda v) × (Nil (ownerless_term v) → Nil v)
    × (Cons (ownerless_term v) → Cons v)
unfolding ownerless_term form
forms_kept lam_v = (
  λ h. absurd (omega (arith, ap mark h.1)),
  λ h. (_, _, refl),
  λ h. absurd (omega (arith, ap mark h.1)),
  λ h. absurd (omega (arith, ap mark h.2)),
)
forms_kept num_v = (
  λ h. (_, refl),
  λ h. absurd (omega (arith, ap mark h.2)),
  λ h. absurd (omega (arith, ap mark h.1)),
  λ h. absurd (omega (arith, ap mark h.2)),
)
forms_kept nil_v = (
  λ h. absurd (omega (arith, ap mark h.1)),
  λ h. absurd (omega (arith, ap mark h.2)),
  λ h. (_, refl),
  λ h. absurd (omega (arith, ap mark h.2)),
)
forms_kept (cons_v a b) = (
  λ h. absurd (omega (arith, ap mark h.1)),
  λ h. absurd (omega (arith, ap mark h.2)),
  λ h. absurd (omega (arith, ap mark h.1)),
  λ h. (_, _, refl),
)

either_kept : {v w : Term sc} → Value sc v → Value sc w → (¬ Number v) ⊎ (¬ Number w)
    → (¬ Number (ownerless_term v)) ⊎ (¬ Number (ownerless_term w))
either_kept a b (inl n) = inl (λ h. n ((forms_kept a).0 h))
either_kept a b (inr n) = inr (λ h. n ((forms_kept b).0 h))

-- Substitution.
cond_kept : {l : Lang} (b : Bool) (x y : Term l) → ownerless_term (cond b x y) ≡ cond b (ownerless_term x) (ownerless_term y)
cond_kept true x y = refl
cond_kept false x y = refl

shift_kept : {l : Lang} (d k : ℕ) (e : Term l) → ownerless_term (shift d k e) ≡ shift d k (ownerless_term e)
unfolding ownerless_term shift
shift_kept d k (var i) = cond_kept (leb k i) (var (i + d)) (var i)
shift_kept d k (num n) = refl
shift_kept d k (lam {l} t b) = ap (lam (ownerless_static l t)) (shift_kept d (suc k) b)
shift_kept d k (op1 o a) = ap (op1 o) (shift_kept d k a)
shift_kept d k (op2 o a b) = rw (shift_kept d k a, shift_kept d k b)
shift_kept d k (if0 a b c) = rw (shift_kept d k a, shift_kept d k b, shift_kept d k c)
shift_kept d k (nil t) = refl
shift_kept d k (wrong c t) = refl
shift_kept d k (ms t a) = ap (ms (ownerless t)) (shift_kept d k a)
shift_kept d k (sm t a) = ap (sm (ownerless t)) (shift_kept d k a)

own_kept : (m l : Lang) (u : Term m) (e : Term l) → ownerless_term (for_own m l u e) ≡ for_own m l (ownerless_term u) (ownerless_term e)
own_kept ml ml u e = refl
own_kept ml sc u e = refl
own_kept sc ml u e = refl
own_kept sc sc u e = refl

ordinary_kept : {m : Lang} (u : Term m) {l : Lang} (k : ℕ) (e : Term l)
    → ownerless_term (ordinary u k e) ≡ ordinary (ownerless_term u) k (ownerless_term e)
unfolding ownerless_term ordinary
ordinary_kept {m} u k (var {l} i) =
    cond_kept (eqb i k) (for_own m l (shift k 0 u) (var i)) (cond (leb i k) (var i) (var (i - 1)))
    ∙ ap (λ (x : Term l). cond (eqb i k) x (ownerless_term (cond (leb i k) (var i) (var (i - 1)))))
    (own_kept m l (shift k 0 u) (var i) ∙ ap (λ (x : Term m). for_own m l x (var i)) (shift_kept k 0 u))
    ∙ ap (λ (x : Term l). cond (eqb i k) (for_own m l (shift k 0 (ownerless_term u)) (var i)) x) (cond_kept (leb i k) (var i) (var (i - 1)))
ordinary_kept u k (num n) = refl
ordinary_kept u k (lam {l} t b) = ap (lam (ownerless_static l t)) (ordinary_kept u (suc k) b)
ordinary_kept u k (op1 o a) = ap (op1 o) (ordinary_kept u k a)
ordinary_kept u k (op2 o a b) = rw (ordinary_kept u k a, ordinary_kept u k b)
ordinary_kept u k (if0 a b c) = rw (ordinary_kept u k a, ordinary_kept u k b, ordinary_kept u k c)
ordinary_kept u k (nil t) = refl
ordinary_kept u k (wrong c t) = refl
ordinary_kept u k (ms t a) = ap (ms (ownerless t)) (ordinary_kept u k a)
ordinary_kept u k (sm t a) = ap (sm (ownerless t)) (ordinary_kept u k a)

-- The rules.
rule_kept : {l : Lang} {e r : Term l} → l ⊢ e ⇒ r → l ⊢ ownerless_term e ⇒ ownerless_term r
unfolding ownerless_term ownerless
rule_kept (app_lambda {l} {t} {b} {u} v) = rw (ordinary_kept u 0 b) (app_lambda (v_kept v))
rule_kept (app_no_lambda f v n) = app_no_lambda (v_kept f) (v_kept v) (λ h. n ((forms_kept f).1 h))
rule_kept (fix_lambda {t} {b}) = rw (ordinary_kept (fix (lam t b)) 0 b) fix_lambda
rule_kept (add_numbers h) = add_numbers h
rule_kept (add_over {l} h) = rw (numbers_kept l) (add_over h)
rule_kept (add_no_number a b n) = add_no_number (v_kept a) (v_kept b) (either_kept a b n)
rule_kept sub_numbers = sub_numbers
rule_kept (sub_no_number a b n) = sub_no_number (v_kept a) (v_kept b) (either_kept a b n)
rule_kept if0_zero = if0_zero
rule_kept (if0_other n) = if0_other n
rule_kept (if0_no_number v n) = if0_no_number (v_kept v) (λ h. n ((forms_kept v).0 h))
rule_kept (hd_cons a b) = hd_cons (v_kept a) (v_kept b)
rule_kept hd_nil = hd_nil
rule_kept (hd_no_list v n m) = hd_no_list (v_kept v) (λ h. n ((forms_kept v).2 h)) (λ h. m ((forms_kept v).3 h))
rule_kept (tl_cons a b) = tl_cons (v_kept a) (v_kept b)
rule_kept (tl_nil {l} {t}) = rw (lists_kept l t) tl_nil
rule_kept (tl_no_list v n m) = tl_no_list (v_kept v) (λ h. n ((forms_kept v).2 h)) (λ h. m ((forms_kept v).3 h))
rule_kept null_nil = null_nil
rule_kept (null_cons a b) = null_cons (v_kept a) (v_kept b)
rule_kept fun?_lambda = fun?_lambda
rule_kept (fun?_other v n) = fun?_other (v_kept v) (λ h. n ((forms_kept v).1 h))
rule_kept list?_nil = list?_nil
rule_kept (list?_cons a b) = list?_cons (v_kept a) (v_kept b)
rule_kept (list?_other v n m) = list?_other (v_kept v) (λ h. n ((forms_kept v).2 h)) (λ h. m ((forms_kept v).3 h))
rule_kept null?_nil = null?_nil
rule_kept (null?_other v n) = null?_other (v_kept v) (λ h. n ((forms_kept v).2 h))
rule_kept num?_number = num?_number
rule_kept (num?_other v n) = num?_other (v_kept v) (λ h. n ((forms_kept v).0 h))
rule_kept ms_number = ms_number
rule_kept (ms_no_number v n) = ms_no_number (v_kept v) (λ h. n ((forms_kept v).0 h))
rule_kept ms_nil = ms_nil
rule_kept (ms_cons a b) = ms_cons (v_kept a) (v_kept b)
rule_kept (ms_no_list v n m) = ms_no_list (v_kept v) (λ h. n ((forms_kept v).2 h)) (λ h. m ((forms_kept v).3 h))
rule_kept (ms_lambda {t} {u} {b}) = rw (shift_kept 1 0 (lam tt b)) ms_lambda
rule_kept (ms_no_lambda v n) = ms_no_lambda (v_kept v) (λ h. n ((forms_kept v).1 h))
rule_kept sm_number = sm_number
rule_kept (sm_lump v) = sm_lump (v_kept v)
rule_kept sm_nil = sm_nil
rule_kept (sm_cons a b) = sm_cons (v_kept a) (v_kept b)
rule_kept (sm_lambda {t} {u} {r} {b}) = rw (shift_kept 1 0 (lam r b)) sm_lambda

-- The places where evaluation goes.
abbrev place : {m l : Lang} → Around m l → Around m l
place hole = hole
place (in_unary o E) = in_unary o (place E)
place (in_first o E b) = in_first o (place E) (ownerless_term b)
place (in_second o v h E) = in_second o (ownerless_term v) (v_kept h) (place E)
place (in_test E b c) = in_test (place E) (ownerless_term b) (ownerless_term c)
place (in_ms t E) = in_ms (ownerless t) (place E)
place (in_sm t E) = in_sm (ownerless t) (place E)

around_kept : {m l : Lang} (E : Around m l) (e : Term m) → around (place E) (ownerless_term e) ≡ ownerless_term (around E e)
unfolding ownerless_term around
around_kept hole e = refl
around_kept (in_unary o E) e = ap (op1 o) (around_kept E e)
around_kept (in_first o E b) e = ap (λ x. op2 o x (ownerless_term b)) (around_kept E e)
around_kept (in_second o v h E) e = ap (op2 o (ownerless_term v)) (around_kept E e)
around_kept (in_test E b c) e = ap (λ x. if0 x (ownerless_term b) (ownerless_term c)) (around_kept E e)
around_kept (in_ms t E) e = ap (ms (ownerless t)) (around_kept E e)
around_kept (in_sm t E) e = ap (sm (ownerless t)) (around_kept E e)

-- Steps and their classes, and errors.
class_kept : {l : Lang} (e : Term l) → node_class (ownerless_term e) ≡ node_class e
unfolding ownerless_term
class_kept (var i) = refl
class_kept (num n) = refl
class_kept (lam t b) = refl
class_kept (op1 o a) = refl
class_kept (op2 o a b) = refl
class_kept (if0 a b c) = refl
class_kept (nil t) = refl
class_kept (wrong c t) = refl
class_kept (ms t a) = refl
class_kept (sm t a) = refl

step_kept : {l : Lang} {e r : Term l} (a : e ⟶ r) → (b : ownerless_term e ⟶ ownerless_term r) × (step_class b ≡ step_class a)
step_kept {l} (by_rule {e = n} {r = r} E h) =
    subst₂ (λ (x y : Term l). (b : x ⟶ y) × (step_class b ≡ node_class n)) (around_kept E n) (around_kept E r)
    (by_rule (place E) (rule_kept h), class_kept n)

-- The same steps: counted the same, and within the same capacity.
record StepsKept {n : ℕ} {e r : Term ml} (p : Steps n e r) : Type 0 where
  made : Steps n (ownerless_term e) (ownerless_term r)
  classes : (x : Class) → among x made ≡ among x p
  fits : (room : ℕ) → InCapacity room p → InCapacity room made

steps_kept : {n : ℕ} {e r : Term ml} (p : Steps n e r) → StepsKept p
steps_kept stay = record { made = stay; classes = λ x. refl; fits = λ room h. tt }
steps_kept (then {f = f} a p) =
    let b = step_kept a in
    let q = steps_kept p in
    record {
      made = then b.0 q.made;
      classes = λ x. rw (b.1, q.classes x);
      fits = λ room h. (omega (arith, h.0, sized f), q.fits room h.1);
    }

counted_kept : {n : ℕ} {e r : Term ml} (p : Steps n e r) → counts p ≡ counts (steps_kept p).made
counted_kept p = let q = (steps_kept p).classes in rw (q call, q conversion, q other)

error_kept : {l : Lang} {c : ℕ} {e : Term l} → Raises c e → Raises c (ownerless_term e)
unfolding ownerless_term
error_kept {l} {c} (by_wrong {m} E t) = subst (Raises c) (around_kept E (wrong c t)) (by_wrong (place E) (ownerless_static m t))

-- Words: those of L lose their owner, and no other word changes.
word_kept : (k o : ℕ) → k < 256 → (k ≡ 2 → ⊥) → ownerless_word (word k o) ≡ word k o
word_kept k o h n = rw (ne_eqb (word k o % 256) 2 (λ e. n (omega (arith, e))))

-- A list by its first word and the rest.
led : {w x : ℕ} {ws xs : List ℕ} → w ≡ x → ws ≡ xs → w ∷ ws ≡ x ∷ xs
led e f = rw (e, f)

words_kept_type : (t : Ty) (k : List ℕ) → ownerless_words (put_ty t k) ≡ put_ty (ownerless t) (ownerless_words k)
unfolding ownerless ownerless_words put_ty
words_kept_type N k = refl
words_kept_type (L o) k = rw (eq-eqb (word 2 o % 256) 2 (omega arith))
words_kept_type (list t) k = led refl (words_kept_type t k)
words_kept_type (t to u) k = led refl (words_kept_type t (put_ty u k) ∙ ap (put_ty (ownerless t)) (words_kept_type u k))

words_kept_static : (l : Lang) (t : Static l) (k : List ℕ)
    → ownerless_words (put_static l t k) ≡ put_static l (ownerless_static l t) (ownerless_words k)
words_kept_static ml t k = words_kept_type t k
words_kept_static sc t k = refl

by_kept : (l : Lang) (a b : ℕ) → ownerless_word a ≡ a → ownerless_word b ≡ b → ownerless_word (by l a b) ≡ by l a b
by_kept ml a b h k = h
by_kept sc a b h k = k

word1_kept : {l : Lang} (o : Op1 l) → ownerless_word (word1 o) ≡ word1 o
word1_kept (HD {l}) = by_kept l 26 41 refl refl
word1_kept (TL {l}) = by_kept l 27 42 refl refl
word1_kept FIX = refl
word1_kept NULL? = refl
word1_kept (TEST k) = word_kept 43 (test_number k) (omega arith) (λ e. omega (arith, e))

word2_kept : (l : Lang) (o : Op2) → ownerless_word (word2 l o) ≡ word2 l o
word2_kept l APP = by_kept l 19 35 refl refl
word2_kept l ADD = by_kept l 21 36 refl refl
word2_kept l SUB = by_kept l 22 37 refl refl
word2_kept l CONS = by_kept l 25 40 refl refl

words_kept : {l : Lang} (e : Term l) (k : List ℕ) → ownerless_words (put e k) ≡ put (ownerless_term e) (ownerless_words k)
unfolding ownerless_term ownerless_words put
words_kept (var {l = ml} i) k = led (word_kept 16 i (omega arith) (λ e. omega (arith, e))) refl
words_kept (var {l = sc} i) k = led (word_kept 32 i (omega arith) (λ e. omega (arith, e))) refl
words_kept (num {l = ml} n) k = led (word_kept 17 n (omega arith) (λ e. omega (arith, e))) refl
words_kept (num {l = sc} n) k = led (word_kept 33 n (omega arith) (λ e. omega (arith, e))) refl
words_kept (lam {l = ml} t b) k = led refl (words_kept_type t (put b k) ∙ ap (put_ty (ownerless t)) (words_kept b k))
words_kept (lam {l = sc} t b) k = led refl (words_kept b k)
words_kept (op1 o a) k = led (word1_kept o) (words_kept a k)
words_kept (op2 {l} o a b) k = led (word2_kept l o) (words_kept a (put b k) ∙ ap (put (ownerless_term a)) (words_kept b k))
words_kept (if0 {l} a b c) k =
    led (by_kept l 23 38 refl refl)
    (words_kept a (put b (put c k))
    ∙ ap (put (ownerless_term a)) (words_kept b (put c k) ∙ ap (put (ownerless_term b)) (words_kept c k)))
words_kept (nil {l} t) k = led (by_kept l 24 39 refl refl) (words_kept_static l t k)
words_kept (wrong {l = ml} c t) k = led (word_kept 29 c (omega arith) (λ e. omega (arith, e))) (words_kept_type t k)
words_kept (wrong {l = sc} c t) k = led (word_kept 44 c (omega arith) (λ e. omega (arith, e))) refl
words_kept (ms t a) k = led refl (words_kept_type t (put a k) ∙ ap (put_ty (ownerless t)) (words_kept a k))
words_kept (sm t a) k = led refl (words_kept_type t (put a k) ∙ ap (put_ty (ownerless t)) (words_kept a k))

left_kept : (t : Term ml) → ownerless_words (words t) ≡ words (ownerless_term t)
unfolding ownerless_words
left_kept t = words_kept t []

ends_kept : (limit room : ℕ) (e : Term ml) (r : Result) → Ends limit room e r
    → Ends limit room (ownerless_term e) (ended r.end r.code r.made (ownerless_words r.left) r.wanted)
unfolding ownerless_words
ends_kept limit room e r (by_value {t = t} p h n v) =
    let q = steps_kept p in
    rw (counted_kept p, left_kept t) (by_value q.made (q.fits room h) n (v_kept v))
ends_kept limit room e r (by_limit {t = t} p h n) =
    let q = steps_kept p in
    rw (counted_kept p, left_kept t) (by_limit q.made (q.fits room h) (λ v. n ((value_iff_kept t).1 v)))
ends_kept limit room e r (by_error {c = c} p h n x) =
    let q = steps_kept p in
    subst (λ (m : Counts). Ends limit room (ownerless_term e) (ended error c (counted other m) (ownerless_words []) 0)) (sym (counted_kept p))
    (by_error q.made (q.fits room h) n (error_kept x))
ends_kept limit room e r (by_full {t = t} {r = x} p h n a o) =
    let q = steps_kept p in
    rw (counted_kept p, left_kept t, ← (sized x)) (by_full q.made (q.fits room h) n (step_kept a).0 (omega (arith, o, sized x)))

-- Files.
file_kept : (τ : Ty) (e : Term ml) → ownerless_file (file_words τ e) ≡ file_words (ownerless τ) (ownerless_term e)
file_kept τ e =
    led (sym (sized_type τ)) (led refl (led (sym (sized e)) (led (omega (arith, sized_type τ))
    (words_kept_type τ (words e) ∙ ap (put_ty (ownerless τ)) (left_kept e)))))

accepted_kept : (bytes bare : List ℕ) → Ownerless bytes bare → (τ : Ty) (e : Term ml) → Accepted bytes τ e
    → Accepted bare (ownerless τ) (ownerless_term e)
accepted_kept bytes bare o τ e a =
    let f = a.filed in
    record {
      filed =
          record {
            least = omega (arith, f.least, o.long);
            most = omega (arith, f.most, o.long);
            whole = rw o.long f.whole;
            spelt = o.spelt ∙ ap ownerless_file f.spelt ∙ file_kept τ e;
            order =
                record {
                  nests_ty = rw (nests_type τ) f.order.nests_ty;
                  nests = rw (nests e) f.order.nests;
                  ranged_ty = ranged_type τ;
                  ranged = ranged_kept e f.order.ranged;
                  closed = scoped_kept [] e f.order.closed;
                };
          };
      typed = typed [] e τ a.typed;
    }

pub owners_refuse_only : OwnersRefuseOnly
owners_refuse_only =
    record {
      accepted = accepted_kept;
      typed = λ τ e h. typed [] e τ h;
      steps = λ n e r p. (steps_kept p).made;
      ends = λ limit room e end code made left wanted h. ends_kept limit room e (ended end code made left wanted) h;
    }
