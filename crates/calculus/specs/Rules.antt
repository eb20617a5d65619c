-- The reduction as it is published: values, evaluation contexts, and one rule for each line of figures 2.13, 2.15, 2.18 and 2.20 of
-- document 002 that document 01 keeps. Nothing here is of specs/Reduction.antt, which computes; proofs/Agreement.antt says that `step` does exactly
-- this, of every term whose variables have their lambdas.
-- `l ⊢ e ⇒ r` is a rule of the language l; a rule that both languages have stands once, for any l.
-- Codes: 1 not a number, 2 not a function, 3 not a list, 4 nil has neither head nor tail, 5 over the limit.
-- Where document 01 departs from the figures: fix_lambda is of documents 000 and 003; add_over is its own; sm_lambda asks for a lambda, where
-- figure 2.20 takes any value. And document 02: sm_lump asks for one owner at both, where the figures have one L.
use Rattle.std.specs.Prelude.{ℕ, suc, ◌+◌, ◌-◌, ◌≤◌, ◌<◌, ◌≡◌, ◌⊎◌}
use Rattle.calculus.specs.Trees.{Ty, N, L, list, ◌to◌, Lang, ml, sc, Static, numbers, lists, is_fun, is_list, is_null, is_num, Op1, Op2, Term, var}
use Rattle.calculus.specs.Trees.{num, lam, op1, op2, if0, nil, wrong, ms, sm, app, add, sub, cons, hd, tl, fix, null?, test}
use Rattle.calculus.specs.Words.{largest}
use Rattle.calculus.specs.Substitution.{shift, ordinary}

-- Values: lambda, number, nil, cons of two values; in ML ms at any owner's L of a Scheme value.
pub data Value : (l : Lang) → Term l → Type 0 where
  lam_v : {l : Lang} {t : Static l} {b : Term l} → Value l (lam t b)
  num_v : {l : Lang} {n : ℕ} → Value l (num n)
  nil_v : {l : Lang} {t : Static l} → Value l (nil t)
  cons_v : {l : Lang} {v w : Term l} → Value l v → Value l w → Value l (cons v w)
  lump_v : {o : ℕ} {v : Term sc} → Value sc v → Value ml (ms (L o) v)

-- The forms that a rule asks for: the term is such a one.
abbrev pub Lambda : {l : Lang} → Term l → Type 0
Lambda {l} e = (t : Static l) × (b : Term l) × (e ≡ lam t b)

abbrev pub Number : {l : Lang} → Term l → Type 0
Number e = (n : ℕ) × (e ≡ num n)

abbrev pub Nil : {l : Lang} → Term l → Type 0
Nil {l} e = (t : Static l) × (e ≡ nil t)

abbrev pub Cons : {l : Lang} → Term l → Type 0
Cons {l} e = (v : Term l) × (w : Term l) × (e ≡ cons v w)

infix 4 ◌⊢◌⇒◌
-- The rules. `ordinary u 0 b` is the body b with u for its variable; `shift 1 0 f` is f under one lambda more.
pub data ◌⊢◌⇒◌ : (l : Lang) → Term l → Term l → Type 0 where
  -- application
  app_lambda : {l : Lang} {t : Static l} {b u : Term l} → Value l u → l ⊢ app (lam t b) u ⇒ ordinary u 0 b
  app_no_lambda : {f u : Term sc} → Value sc f → Value sc u → ¬ Lambda f → sc ⊢ app f u ⇒ wrong 2 tt
  -- fix
  fix_lambda : {t : Ty} {b : Term ml} → ml ⊢ fix (lam t b) ⇒ ordinary (fix (lam t b)) 0 b
  -- add, subtract
  add_numbers : {l : Lang} {n m : ℕ} → n + m ≤ largest → l ⊢ add (num n) (num m) ⇒ num (n + m)
  add_over : {l : Lang} {n m : ℕ} → largest < n + m → l ⊢ add (num n) (num m) ⇒ wrong 5 (numbers l)
  add_no_number : {v w : Term sc} → Value sc v → Value sc w → (¬ Number v) ⊎ (¬ Number w) → sc ⊢ add v w ⇒ wrong 1 tt
  sub_numbers : {l : Lang} {n m : ℕ} → l ⊢ sub (num n) (num m) ⇒ num (n - m)
  sub_no_number : {v w : Term sc} → Value sc v → Value sc w → (¬ Number v) ⊎ (¬ Number w) → sc ⊢ sub v w ⇒ wrong 1 tt
  -- if0
  if0_zero : {l : Lang} {a b : Term l} → l ⊢ if0 (num 0) a b ⇒ a
  if0_other : {l : Lang} {n : ℕ} {a b : Term l} → ¬ (n ≡ 0) → l ⊢ if0 (num n) a b ⇒ b
  if0_no_number : {v a b : Term sc} → Value sc v → ¬ Number v → sc ⊢ if0 v a b ⇒ wrong 1 tt
  -- hd, tl
  hd_cons : {l : Lang} {v w : Term l} → Value l v → Value l w → l ⊢ hd (cons v w) ⇒ v
  hd_nil : {l : Lang} {t : Static l} → l ⊢ hd (nil t) ⇒ wrong 4 t
  hd_no_list : {v : Term sc} → Value sc v → ¬ Nil v → ¬ Cons v → sc ⊢ hd v ⇒ wrong 3 tt
  tl_cons : {l : Lang} {v w : Term l} → Value l v → Value l w → l ⊢ tl (cons v w) ⇒ w
  tl_nil : {l : Lang} {t : Static l} → l ⊢ tl (nil t) ⇒ wrong 4 (lists l t)
  tl_no_list : {v : Term sc} → Value sc v → ¬ Nil v → ¬ Cons v → sc ⊢ tl v ⇒ wrong 3 tt
  -- null? of ML
  null_nil : {t : Ty} → ml ⊢ null? (nil t) ⇒ num 0
  null_cons : {v w : Term ml} → Value ml v → Value ml w → ml ⊢ null? (cons v w) ⇒ num 1
  -- Scheme's tests
  fun?_lambda : {b : Term sc} → sc ⊢ test is_fun (lam tt b) ⇒ num 0
  fun?_other : {v : Term sc} → Value sc v → ¬ Lambda v → sc ⊢ test is_fun v ⇒ num 1
  list?_nil : sc ⊢ test is_list (nil tt) ⇒ num 0
  list?_cons : {v w : Term sc} → Value sc v → Value sc w → sc ⊢ test is_list (cons v w) ⇒ num 0
  list?_other : {v : Term sc} → Value sc v → ¬ Nil v → ¬ Cons v → sc ⊢ test is_list v ⇒ num 1
  null?_nil : sc ⊢ test is_null (nil tt) ⇒ num 0
  null?_other : {v : Term sc} → Value sc v → ¬ Nil v → sc ⊢ test is_null v ⇒ num 1
  num?_number : {n : ℕ} → sc ⊢ test is_num (num n) ⇒ num 0
  num?_other : {v : Term sc} → Value sc v → ¬ Number v → sc ⊢ test is_num v ⇒ num 1
  -- ms: a Scheme value into ML
  ms_number : {n : ℕ} → ml ⊢ ms N (num n) ⇒ num n
  ms_no_number : {v : Term sc} → Value sc v → ¬ Number v → ml ⊢ ms N v ⇒ wrong 1 N
  ms_nil : {t : Ty} → ml ⊢ ms (list t) (nil tt) ⇒ nil t
  ms_cons : {t : Ty} {v w : Term sc} → Value sc v → Value sc w → ml ⊢ ms (list t) (cons v w) ⇒ cons (ms t v) (ms (list t) w)
  ms_no_list : {t : Ty} {v : Term sc} → Value sc v → ¬ Nil v → ¬ Cons v → ml ⊢ ms (list t) v ⇒ wrong 3 (list t)
  ms_lambda : {t u : Ty} {b : Term sc} → ml ⊢ ms (t to u) (lam tt b) ⇒ lam t (ms u (app (shift 1 0 (lam tt b)) (sm t (var 0))))
  ms_no_lambda : {t u : Ty} {v : Term sc} → Value sc v → ¬ Lambda v → ml ⊢ ms (t to u) v ⇒ wrong 2 (t to u)
  -- sm: an ML value into Scheme
  sm_number : {n : ℕ} → sc ⊢ sm N (num n) ⇒ num n
  sm_lump : {o : ℕ} {v : Term sc} → Value sc v → sc ⊢ sm (L o) (ms (L o) v) ⇒ v
  sm_nil : {t u : Ty} → sc ⊢ sm (list t) (nil u) ⇒ nil tt
  sm_cons : {t : Ty} {v w : Term ml} → Value ml v → Value ml w → sc ⊢ sm (list t) (cons v w) ⇒ cons (sm t v) (sm (list t) w)
  sm_lambda : {t u r : Ty} {b : Term ml} → sc ⊢ sm (t to u) (lam r b) ⇒ lam tt (sm u (app (shift 1 0 (lam r b)) (ms t (var 0))))

-- The evaluation contexts of figures 2.11 and 2.16, and fix's: a term of the language l with a hole for one of m, where evaluation goes.
-- "function then argument, first operand then second, cons head then tail; for if0 the test alone; under a unary node, ms or sm its term; never
-- under a lambda".
pub data Around (m : Lang) : Lang → Type 0 where
  hole : Around m m
  in_unary : {l : Lang} → Op1 l → Around m l → Around m l
  in_first : {l : Lang} → Op2 → Around m l → Term l → Around m l
  in_second : {l : Lang} → Op2 → (v : Term l) → Value l v → Around m l → Around m l
  in_test : {l : Lang} → Around m l → Term l → Term l → Around m l
  in_ms : Ty → Around m sc → Around m ml
  in_sm : Ty → Around m ml → Around m sc

-- The term with e in the hole.
unfoldable pub around : {m l : Lang} → Around m l → Term m → Term l
around hole e = e
around (in_unary o E) e = op1 o (around E e)
around (in_first o E b) e = op2 o (around E e) b
around (in_second o v h E) e = op2 o v (around E e)
around (in_test E b c) e = if0 (around E e) b c
around (in_ms t E) e = ms t (around E e)
around (in_sm t E) e = sm t (around E e)

infix 4 ◌⟶◌
-- One step: a rule in an evaluation context.
pub data ◌⟶◌ {l : Lang} : Term l → Term l → Type 0 where
  by_rule : {m : Lang} {e r : Term m} (E : Around m l) → m ⊢ e ⇒ r → around E e ⟶ around E r

-- n steps from one term to another.
pub data Steps {l : Lang} : ℕ → Term l → Term l → Type 0 where
  stay : {e : Term l} → Steps 0 e e
  then : {n : ℕ} {e f r : Term l} → e ⟶ f → Steps n f r → Steps (suc n) e r

-- A raised error: a wrong in an evaluation context.
pub data Raises {l : Lang} : ℕ → Term l → Type 0 where
  by_wrong : {m : Lang} {c : ℕ} (E : Around m l) (t : Static m) → Raises c (around E (wrong c t))

-- A term to which none of it applies: no value, no raised error, no next term.
abbrev pub Stuck : {l : Lang} → Term l → Type 0
Stuck {l} e = (¬ Value l e) × ((c : ℕ) → ¬ Raises c e) × ((r : Term l) → ¬ (e ⟶ r))
