-- The rules at a closed node: what `contract` makes of a node that is ready for a rule is exactly what a published rule makes. Assumes nothing.
use Prim.Native.Nat.{ℕ, ◌+◌}
use mathlib.Core.Bool.{Bool, true, false, cond}
use mathlib.Core.List.{[]}
use mathlib.Core.Logic.{◌↔◌, ◌⊎◌, inl, inr}
use mathlib.Core.Path.{◌≡◌, refl, sym, ap, subst}
use lib.Dec.{eqb, leb}
use native.Mathlib.Omega.{arith}
use borrow.Author.Tests.{leb-true, leb-false, le-leb, lt-leb, eqb-true, eqb-false, ne_eqb, eq-eqb}
use Rattle.calculus.specs.Trees.{Ty, N, L, list, ◌to◌, Lang, ml, sc, Static, numbers, Test, is_fun, is_list, is_null, is_num, HD, TL, FIX, NULL?}
use Rattle.calculus.specs.Trees.{TEST, APP, ADD, SUB, CONS, Term, var, num, lam, op1, op2, if0, nil, wrong, ms, sm, app, add, sub, cons, hd, tl}
use Rattle.calculus.specs.Trees.{fix, null?, test}
use Rattle.calculus.specs.Words.{largest}
use Rattle.calculus.specs.Scope.{Scoped}
use Rattle.calculus.specs.Reduction.{substitute, Form, number, lambda, nil_form, cons_form, sealed, other, form, Became, becomes, raises, nothing}
use Rattle.calculus.specs.Reduction.{on_number, on_lambda, on_list, on_lump, amiss, answer, contract1, on_numbers, contract2, to_ml, to_scheme}
use Rattle.calculus.specs.Reduction.{contract}
use Rattle.calculus.specs.Evaluation.{Ready}
use Rattle.calculus.specs.Rules.{Value, lam_v, num_v, nil_v, cons_v, lump_v, Lambda, Number, Nil, Cons, ◌⊢◌⇒◌, app_lambda, app_no_lambda, fix_lambda}
use Rattle.calculus.specs.Rules.{add_numbers, add_over, add_no_number, sub_numbers, sub_no_number, if0_zero, if0_other, if0_no_number, hd_cons}
use Rattle.calculus.specs.Rules.{hd_nil, hd_no_list, tl_cons, tl_nil, tl_no_list, null_nil, null_cons, fun?_lambda, fun?_other, list?_nil}
use Rattle.calculus.specs.Rules.{list?_cons, list?_other, null?_nil, null?_other, num?_number, num?_other, ms_number, ms_no_number, ms_nil}
use Rattle.calculus.specs.Rules.{ms_cons, ms_no_list, ms_lambda, ms_no_lambda, sm_number, sm_lump, sm_nil, sm_cons, sm_lambda}
use Rattle.calculus.proofs.Substitution.{closed_shift, substitute_ordinary}

abbrev tag : {l : Lang} → Form l → ℕ
tag (number n) = 0
tag (lambda t b) = 1
tag (nil_form t) = 2
tag (cons_form v w) = 3
tag (sealed o v) = 4
tag other = 5

-- A number for a term's form, by which two forms are told apart.
abbrev pub mark : {l : Lang} → Term l → ℕ
mark e = tag (form e)

-- A rule looks at the form of a value: it is the one asked for, or it is not. R is what is to be proved of the outcome.
module _ {m : Lang} (R : Became m → Type 0) (o : Became m) where
  on_number_lem : {l : Lang} {v : Term l} (k : ℕ → Became m) → Value l v → (¬ Number v → R o) → ((n : ℕ) → v ≡ num n → R (k n))
      → R (on_number (form v) o k)
  unfolding form on_number
  on_number_lem k lam_v miss fit = miss λ h. omega (arith, ap mark h.1)
  on_number_lem k num_v miss fit = fit _ refl
  on_number_lem k nil_v miss fit = miss λ h. omega (arith, ap mark h.1)
  on_number_lem k (cons_v a b) miss fit = miss λ h. omega (arith, ap mark h.1)
  on_number_lem k (lump_v a) miss fit = miss λ h. omega (arith, ap mark h.1)

  on_lambda_lem : {l : Lang} {v : Term l} (k : Static l → Term l → Became m) → Value l v → (¬ Lambda v → R o)
      → ((t : Static l) (b : Term l) → v ≡ lam t b → R (k t b)) → R (on_lambda (form v) o k)
  unfolding form on_lambda
  on_lambda_lem k lam_v miss fit = fit _ _ refl
  on_lambda_lem k num_v miss fit = miss λ h. omega (arith, ap mark h.2)
  on_lambda_lem k nil_v miss fit = miss λ h. omega (arith, ap mark h.2)
  on_lambda_lem k (cons_v a b) miss fit = miss λ h. omega (arith, ap mark h.2)
  on_lambda_lem k (lump_v a) miss fit = miss λ h. omega (arith, ap mark h.2)

  on_list_lem : {l : Lang} {v : Term l} (i : Static l → Became m) (k : Term l → Term l → Became m) → Value l v → (¬ Nil v → ¬ Cons v → R o)
      → ((t : Static l) → v ≡ nil t → R (i t)) → ((a b : Term l) → Value l a → Value l b → v ≡ cons a b → R (k a b)) → R (on_list (form v) o i k)
  unfolding form on_list
  on_list_lem i k lam_v miss none fit = miss (λ h. omega (arith, ap mark h.1)) (λ h. omega (arith, ap mark h.2))
  on_list_lem i k num_v miss none fit = miss (λ h. omega (arith, ap mark h.1)) (λ h. omega (arith, ap mark h.2))
  on_list_lem i k nil_v miss none fit = none _ refl
  on_list_lem i k (cons_v a b) miss none fit = fit _ _ a b refl
  on_list_lem i k (lump_v a) miss none fit = miss (λ h. omega (arith, ap mark h.1)) (λ h. omega (arith, ap mark h.2))

on_numbers_lem : {l : Lang} (R : Became l → Type 0) {v w : Term l} (k : ℕ → ℕ → Became l) → Value l v → Value l w
    → ((¬ Number v) ⊎ (¬ Number w) → R (amiss l 1)) → ((n m : ℕ) → v ≡ num n → w ≡ num m → R (k n m)) → R (on_numbers l v w k)
unfolding on_numbers
on_numbers_lem R k v w miss fit = on_number_lem R _ _ v (λ h. miss (inl h)) (λ n q. on_number_lem R _ _ w (λ h. miss (inr h)) (λ m p. fit n m q p))

-- Where the form is not the one asked for.
module _ {l m : Lang} {v : Term l} (h : Value l v) (o : Became m) where
  no_number : (k : ℕ → Became m) → ¬ Number v → on_number (form v) o k ≡ o
  no_number k ne = on_number_lem (λ r. r ≡ o) o k h (λ n. refl) (λ n q. absurd (ne (n, q)))

  no_lambda : (k : Static l → Term l → Became m) → ¬ Lambda v → on_lambda (form v) o k ≡ o
  no_lambda k ne = on_lambda_lem (λ r. r ≡ o) o k h (λ n. refl) (λ t b q. absurd (ne (t, b, q)))

  no_list : (i : Static l → Became m) (k : Term l → Term l → Became m) → ¬ Nil v → ¬ Cons v → on_list (form v) o i k ≡ o
  no_list i k nn nc = on_list_lem (λ r. r ≡ o) o i k h (λ n c. refl) (λ t q. absurd (nn (t, q))) (λ a b x y q. absurd (nc (a, b, q)))

no_numbers : {l : Lang} {v w : Term l} (k : ℕ → ℕ → Became l) → Value l v → Value l w → (¬ Number v) ⊎ (¬ Number w)
    → on_numbers l v w k ≡ amiss l 1
no_numbers k v w (inl ne) = on_numbers_lem (λ r. r ≡ amiss _ 1) k v w (λ h. refl) (λ n m q p. absurd (ne (n, q)))
no_numbers k v w (inr ne) = on_numbers_lem (λ r. r ≡ amiss _ 1) k v w (λ h. refl) (λ n m q p. absurd (ne (m, p)))

-- A test does not hold of a value.
abbrev Fails : Test → Term sc → Type 0
Fails is_fun v = ¬ Lambda v
Fails is_list v = (¬ Nil v) × (¬ Cons v)
Fails is_null v = ¬ Nil v
Fails is_num v = ¬ Number v

-- The answer is a rule's, and 1 where the test does not hold.
answered : (k : Test) {v : Term sc} → Value sc v → (sc ⊢ test k v ⇒ num (answer k (form v))) × (Fails k v → answer k (form v) ≡ 1)
unfolding form answer
answered is_fun lam_v = (fun?_lambda, λ h. absurd (h (_, _, refl)))
answered is_fun {v} num_v = (fun?_other {v = v} num_v (λ h. omega (arith, ap mark h.2)), λ h. refl)
answered is_fun {v} nil_v = (fun?_other {v = v} nil_v (λ h. omega (arith, ap mark h.2)), λ h. refl)
answered is_fun {v} (cons_v a b) = (fun?_other {v = v} (cons_v a b) (λ h. omega (arith, ap mark h.2)), λ h. refl)
answered is_list {v} lam_v = (list?_other {v = v} lam_v (λ h. omega (arith, ap mark h.1)) (λ h. omega (arith, ap mark h.2)), λ h. refl)
answered is_list {v} num_v = (list?_other {v = v} num_v (λ h. omega (arith, ap mark h.1)) (λ h. omega (arith, ap mark h.2)), λ h. refl)
answered is_list nil_v = (list?_nil, λ h. absurd (h.0 (_, refl)))
answered is_list (cons_v a b) = (list?_cons a b, λ h. absurd (h.1 (_, _, refl)))
answered is_null {v} lam_v = (null?_other {v = v} lam_v (λ h. omega (arith, ap mark h.1)), λ h. refl)
answered is_null {v} num_v = (null?_other {v = v} num_v (λ h. omega (arith, ap mark h.1)), λ h. refl)
answered is_null nil_v = (null?_nil, λ h. absurd (h (_, refl)))
answered is_null {v} (cons_v a b) = (null?_other {v = v} (cons_v a b) (λ h. omega (arith, ap mark h.1)), λ h. refl)
answered is_num {v} lam_v = (num?_other {v = v} lam_v (λ h. omega (arith, ap mark h.1)), λ h. refl)
answered is_num num_v = (num?_number, λ h. absurd (h (_, refl)))
answered is_num {v} nil_v = (num?_other {v = v} nil_v (λ h. omega (arith, ap mark h.1)), λ h. refl)
answered is_num {v} (cons_v a b) = (num?_other {v = v} (cons_v a b) (λ h. omega (arith, ap mark h.1)), λ h. refl)

-- What is computed at a node is a rule's outcome; or the node is a wrong; or it is nothing.
abbrev pub Ruled : {l : Lang} → Term l → Became l → Type 0
Ruled {l} e (becomes r) = l ⊢ e ⇒ r
Ruled {l} e (raises c) = (t : Static l) × (e ≡ wrong c t)
Ruled e nothing = Unit {0}

sum_ruled : {l : Lang} (n m : ℕ) (x : Bool) → leb (n + m) largest ≡ x → l ⊢ add (num n) (num m) ⇒ cond x (num (n + m)) (wrong 5 (numbers l))
sum_ruled n m true q = add_numbers (leb-true (n + m) largest q)
sum_ruled n m false q = add_over (leb-false (n + m) largest q)

zero_ruled : {l : Lang} (n : ℕ) (a b : Term l) (x : Bool) → eqb n 0 ≡ x → l ⊢ if0 (num n) a b ⇒ cond x a b
zero_ruled n a b true q = rw (eqb-true n 0 q) if0_zero
zero_ruled n a b false q = if0_other (eqb-false n 0 q)

-- sm at an owner's L takes an ms at that same owner's L.
lump_ruled : (o u : ℕ) {v : Term sc} → Value sc v → (b : Bool) → eqb o u ≡ b → Ruled (sm (L o) (ms (L u) v)) (cond b (becomes v) nothing)
lump_ruled o u a true q = rw (eqb-true o u q) (sm_lump a)
lump_ruled o u a false q = tt

-- The rules that put a term elsewhere: what they put there is closed.
app_ruled : {l : Lang} (v w : Term l) (t : Static l) (b : Term l) → Scoped [] v → Scoped [] w → Value l w → v ≡ lam t b
    → l ⊢ app v w ⇒ substitute w 0 b
app_ruled {l} v w t b s c h q =
    rw q (subst (λ (x : Term l). l ⊢ app (lam t b) w ⇒ x) (sym (substitute_ordinary w b c (rw q at s))) (app_lambda h))

fix_ruled : (v : Term ml) (t : Ty) (b : Term ml) → Scoped [] v → v ≡ lam t b → ml ⊢ fix v ⇒ substitute (fix v) 0 b
fix_ruled v t b s q =
    let c : Scoped [] (lam t b) = rw q at s in
    rw q (subst (λ (x : Term ml). ml ⊢ fix (lam t b) ⇒ x) (sym (substitute_ordinary (fix (lam t b)) b c c)) fix_lambda)

ms_ruled : (v : Term sc) (t u : Ty) (b : Term sc) → Scoped [] v → v ≡ lam tt b → ml ⊢ ms (t to u) v ⇒ lam t (ms u (app v (sm t (var 0))))
ms_ruled v t u b s q =
    let c : Scoped [] (lam tt b) = rw q at s in
    rw q (subst (λ (x : Term sc). ml ⊢ ms (t to u) (lam tt b) ⇒ lam t (ms u (app x (sm t (var 0))))) (closed_shift 1 (lam tt b) c) ms_lambda)

sm_ruled : (v : Term ml) (t u r : Ty) (b : Term ml) → Scoped [] v → v ≡ lam r b → sc ⊢ sm (t to u) v ⇒ lam tt (sm u (app v (ms t (var 0))))
sm_ruled v t u r b s q =
    let c : Scoped [] (lam r b) = rw q at s in
    rw q (subst (λ (x : Term ml). sc ⊢ sm (t to u) (lam r b) ⇒ lam tt (sm u (app x (ms t (var 0))))) (closed_shift 1 (lam r b) c) sm_lambda)

-- So it is at every node that is ready and closed.
pub contract_ruled : {l : Lang} (e : Term l) → Scoped [] e → Ready e → Ruled e (contract e)
unfolding contract contract1 contract2 to_ml to_scheme form on_lump amiss
contract_ruled (var i) s h = tt
contract_ruled (num n) s h = tt
contract_ruled (lam t b) s h = tt
contract_ruled (op1 (HD {l = ml}) v) s h = on_list_lem (Ruled (hd v)) _ _ _ h (λ n c. tt) (λ t q. rw q hd_nil) (λ a b x y q. rw q (hd_cons x y))
contract_ruled (op1 (HD {l = sc}) v) s h = on_list_lem (Ruled (hd v)) _ _ _ h (hd_no_list h) (λ t q. rw q hd_nil) (λ a b x y q. rw q (hd_cons x y))
contract_ruled (op1 (TL {l = ml}) v) s h = on_list_lem (Ruled (tl v)) _ _ _ h (λ n c. tt) (λ t q. rw q tl_nil) (λ a b x y q. rw q (tl_cons x y))
contract_ruled (op1 (TL {l = sc}) v) s h = on_list_lem (Ruled (tl v)) _ _ _ h (tl_no_list h) (λ t q. rw q tl_nil) (λ a b x y q. rw q (tl_cons x y))
contract_ruled (op1 FIX v) s h = on_lambda_lem (Ruled (fix v)) _ _ h (λ n. tt) (λ t b q. fix_ruled v t b s q)
contract_ruled (op1 NULL? v) s h = on_list_lem (Ruled (null? v)) _ _ _ h (λ n c. tt) (λ t q. rw q null_nil) (λ a b x y q. rw q (null_cons x y))
contract_ruled (op1 (TEST k) v) s h = (answered k h).0
contract_ruled (op2 {l = ml} APP v w) s h = on_lambda_lem (Ruled (app v w)) _ _ h.1 (λ n. tt) (λ t b q. app_ruled v w t b s.0 s.1 h.2 q)
contract_ruled (op2 {l = sc} APP v w) s h =
    on_lambda_lem (Ruled (app v w)) _ _ h.1 (app_no_lambda h.1 h.2) (λ t b q. app_ruled v w t b s.0 s.1 h.2 q)
contract_ruled (op2 {l = ml} ADD v w) s h = on_numbers_lem (Ruled (add v w)) _ h.1 h.2 (λ n. tt) (λ n m q p. rw (q, p) (sum_ruled n m _ refl))
contract_ruled (op2 {l = sc} ADD v w) s h =
    on_numbers_lem (Ruled (add v w)) _ h.1 h.2 (add_no_number h.1 h.2) (λ n m q p. rw (q, p) (sum_ruled n m _ refl))
contract_ruled (op2 {l = ml} SUB v w) s h = on_numbers_lem (Ruled (sub v w)) _ h.1 h.2 (λ n. tt) (λ n m q p. rw (q, p) sub_numbers)
contract_ruled (op2 {l = sc} SUB v w) s h =
    on_numbers_lem (Ruled (sub v w)) _ h.1 h.2 (sub_no_number h.1 h.2) (λ n m q p. rw (q, p) sub_numbers)
contract_ruled (op2 CONS v w) s h = tt
contract_ruled (if0 {l = ml} v b c) s h = on_number_lem (Ruled (if0 v b c)) _ _ h (λ n. tt) (λ n q. rw q (zero_ruled n b c _ refl))
contract_ruled (if0 {l = sc} v b c) s h = on_number_lem (Ruled (if0 v b c)) _ _ h (if0_no_number h) (λ n q. rw q (zero_ruled n b c _ refl))
contract_ruled (nil t) s h = tt
contract_ruled (wrong c t) s h = (t, refl)
contract_ruled (ms N v) s h = on_number_lem (Ruled (ms N v)) _ _ h.1 (ms_no_number h.1) (λ n q. rw q ms_number)
contract_ruled (ms (L o) v) s h = tt
contract_ruled (ms (list t) v) s h =
    on_list_lem (Ruled (ms (list t) v)) _ _ _ h.1 (ms_no_list h.1) (λ u q. rw q ms_nil) (λ a b x y q. rw q (ms_cons x y))
contract_ruled (ms (t to u) v) s h = on_lambda_lem (Ruled (ms (t to u) v)) _ _ h.1 (ms_no_lambda h.1) (λ r b q. ms_ruled v t u b s q)
contract_ruled (sm N v) s h = on_number_lem (Ruled (sm N v)) _ _ h (λ n. tt) (λ n q. rw q sm_number)
contract_ruled (sm (L o) v) s lam_v = tt
contract_ruled (sm (L o) v) s num_v = tt
contract_ruled (sm (L o) v) s nil_v = tt
contract_ruled (sm (L o) v) s (cons_v a b) = tt
contract_ruled (sm (L o) v) s (lump_v {o = u} a) = lump_ruled o u a (eqb o u) refl
contract_ruled (sm (list t) v) s h = on_list_lem (Ruled (sm (list t) v)) _ _ _ h (λ n c. tt) (λ u q. rw q sm_nil) (λ a b x y q. rw q (sm_cons x y))
contract_ruled (sm (t to u) v) s h = on_lambda_lem (Ruled (sm (t to u) v)) _ _ h (λ n. tt) (λ r b q. sm_ruled v t u r b s q)

rule_made : {l : Lang} {e r : Term l} → Scoped [] e → l ⊢ e ⇒ r → Ready e × (contract e ≡ becomes r)
unfolding contract contract1 contract2 to_ml to_scheme on_numbers on_number on_lambda on_list on_lump form amiss answer
rule_made s (app_lambda {b = b} {u} v) = ((refl, lam_v, v), ap becomes (substitute_ordinary u b s.1 s.0))
rule_made s (app_no_lambda f u ne) = ((refl, f, u), no_lambda f _ _ ne)
rule_made s (fix_lambda {t} {b}) = (lam_v, ap becomes (substitute_ordinary (fix (lam t b)) b s s))
rule_made s (add_numbers {n = n} {m = m} h) = ((refl, num_v, num_v), rw (le-leb (n + m) largest h))
rule_made s (add_over {n = n} {m = m} h) = ((refl, num_v, num_v), rw (lt-leb (n + m) largest h))
rule_made s (add_no_number v w ne) = ((refl, v, w), no_numbers _ v w ne)
rule_made s sub_numbers = ((refl, num_v, num_v), refl)
rule_made s (sub_no_number v w ne) = ((refl, v, w), no_numbers _ v w ne)
rule_made s if0_zero = (num_v, refl)
rule_made s (if0_other {n = n} h) = (num_v, rw (ne_eqb n 0 h))
rule_made s (if0_no_number v ne) = (v, no_number v _ _ ne)
rule_made s (hd_cons v w) = (cons_v v w, refl)
rule_made s hd_nil = (nil_v, refl)
rule_made s (hd_no_list v nn nc) = (v, no_list v _ _ _ nn nc)
rule_made s (tl_cons v w) = (cons_v v w, refl)
rule_made s tl_nil = (nil_v, refl)
rule_made s (tl_no_list v nn nc) = (v, no_list v _ _ _ nn nc)
rule_made s null_nil = (nil_v, refl)
rule_made s (null_cons v w) = (cons_v v w, refl)
rule_made s fun?_lambda = (lam_v, refl)
rule_made s (fun?_other v ne) = (v, rw ((answered is_fun v).1 ne))
rule_made s list?_nil = (nil_v, refl)
rule_made s (list?_cons v w) = (cons_v v w, refl)
rule_made s (list?_other v nn nc) = (v, rw ((answered is_list v).1 (nn, nc)))
rule_made s null?_nil = (nil_v, refl)
rule_made s (null?_other v ne) = (v, rw ((answered is_null v).1 ne))
rule_made s num?_number = (num_v, refl)
rule_made s (num?_other v ne) = (v, rw ((answered is_num v).1 ne))
rule_made s ms_number = ((refl, num_v), refl)
rule_made s (ms_no_number v ne) = ((refl, v), no_number v _ _ ne)
rule_made s ms_nil = ((refl, nil_v), refl)
rule_made s (ms_cons v w) = ((refl, cons_v v w), refl)
rule_made s (ms_no_list v nn nc) = ((refl, v), no_list v _ _ _ nn nc)
rule_made s (ms_lambda {t} {u} {b}) =
    ((refl, lam_v), ap (λ (x : Term sc). becomes (lam t (ms u (app x (sm t (var 0)))))) (sym (closed_shift 1 (lam tt b) s)))
rule_made s (ms_no_lambda v ne) = ((refl, v), no_lambda v _ _ ne)
rule_made s sm_number = (num_v, refl)
rule_made s (sm_lump {o = o} v) = (lump_v v, rw (eq-eqb o o refl))
rule_made s sm_nil = (nil_v, refl)
rule_made s (sm_cons v w) = (cons_v v w, refl)
rule_made s (sm_lambda {t} {u} {r} {b}) =
    (lam_v, ap (λ (x : Term ml). becomes (lam tt (sm u (app x (ms t (var 0)))))) (sym (closed_shift 1 (lam r b) s)))

-- A rule applies exactly to a node that is ready, and makes what is computed.
pub rule_iff : {l : Lang} (e r : Term l) → Scoped [] e → (Ready e × (contract e ≡ becomes r)) ↔ (l ⊢ e ⇒ r)
rule_iff e r s = (λ h. subst (Ruled e) h.1 (contract_ruled e s h.0), rule_made s)
