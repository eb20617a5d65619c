-- Every step keeps the operands in their ranges. Assumes nothing.
use Prim.Native.Nat.{ℕ, suc, ◌+◌, ◌≤◌}
use mathlib.Core.Bool.{Bool, true, false, cond}
use mathlib.Core.Path.{◌≡◌, refl}
use lib.Dec.{eqb, leb}
use borrow.Author.Tests.{leb-true}
use native.Mathlib.Omega.{arith}
use Rattle.calculus.specs.Trees.{Ty, N, L, list, ◌to◌, Lang, ml, sc, Static, numbers, lists, Test, is_fun, is_list, is_null, is_num, Op1, HD}
use Rattle.calculus.specs.Trees.{TL, FIX, NULL?, TEST, Op2, APP, ADD, SUB, CONS, Term, var, num, lam, op1, op2, if0, nil, wrong, ms, sm, fix}
use Rattle.calculus.specs.Words.{largest, last_code}
use Rattle.calculus.specs.Limits.{InRangeTy, InRangeStatic, InRange}
use Rattle.calculus.specs.Reduction.{replaced, substitute, Form, number, lambda, nil_form, cons_form, sealed, other, form, Became, becomes}
use Rattle.calculus.specs.Reduction.{raises, nothing, on_number, on_lambda, on_list, amiss, answer, contract1, on_numbers, contract2, to_ml}
use Rattle.calculus.specs.Reduction.{to_scheme, contract, Frame, under, first, second, tested, into_ml, into_scheme, plug, Context, here, within}
use Rattle.calculus.specs.Reduction.{fill, Outcome, value, raised, next, stuck, outcome, step}
use Rattle.calculus.proofs.Forms.{on_number_lem, on_lambda_lem, on_list_lem, on_lump_lem}
use Rattle.calculus.proofs.Turns.{step_by}

cond_in_range : {l : Lang} (b : Bool) (x y : Term l) → (b ≡ true → InRange x) → InRange y → InRange (cond b x y)
cond_in_range true x y h k = h refl
cond_in_range false x y h k = k

replaced_in_range : (m l : Lang) (v : Term m) (i : ℕ) → InRange v → i ≤ largest → InRange (replaced m l v i)
unfolding InRange
replaced_in_range ml ml v i h k = h
replaced_in_range ml sc v i h k = k
replaced_in_range sc ml v i h k = k
replaced_in_range sc sc v i h k = h

substitute_in_range : {m l : Lang} (v : Term m) (k : ℕ) (e : Term l) → InRange v → InRange e → InRange (substitute v k e)
unfolding InRange substitute
substitute_in_range {m} v k (var {l} i) h r = cond_in_range {l = l} (eqb i k) (replaced m l v i) (var i) (λ q. replaced_in_range m l v i h r) r
substitute_in_range v k (num n) h r = r
substitute_in_range v k (lam t b) h r = (r.0, substitute_in_range v (suc k) b h r.1)
substitute_in_range v k (op1 o a) h r = substitute_in_range v k a h r
substitute_in_range v k (op2 o a b) h r = (substitute_in_range v k a h r.0, substitute_in_range v k b h r.1)
substitute_in_range v k (if0 a b c) h r =
    (substitute_in_range v k a h r.0, substitute_in_range v k b h r.1, substitute_in_range v k c h r.2)
substitute_in_range v k (nil t) h r = r
substitute_in_range v k (wrong c t) h r = r
substitute_in_range v k (ms t a) h r = (r.0, substitute_in_range v k a h r.1)
substitute_in_range v k (sm t a) h r = (r.0, substitute_in_range v k a h r.1)

-- The parts of a form, and what a node becomes.
abbrev FormInRange : {l : Lang} → Form l → Type 0
FormInRange (number n) = n ≤ largest
FormInRange (lambda {l} t b) = InRangeStatic l t × InRange b
FormInRange (nil_form {l} t) = InRangeStatic l t
FormInRange (cons_form v w) = InRange v × InRange w
FormInRange (sealed u v) = InRange v
FormInRange other = Unit {0}

form_in_range : {l : Lang} (e : Term l) → InRange e → FormInRange (form e)
unfolding InRange form
form_in_range (var i) h = tt
form_in_range (num n) h = h
form_in_range (lam t b) h = h
form_in_range (op1 o a) h = tt
form_in_range (op2 APP a b) h = tt
form_in_range (op2 ADD a b) h = tt
form_in_range (op2 SUB a b) h = tt
form_in_range (op2 CONS a b) h = h
form_in_range (if0 a b c) h = tt
form_in_range (nil t) h = h
form_in_range (wrong c t) h = tt
form_in_range (ms N a) h = tt
form_in_range (ms (L o) a) h = h.1
form_in_range (ms (list t) a) h = tt
form_in_range (ms (t to u) a) h = tt
form_in_range (sm t a) h = tt

abbrev BecameInRange : {l : Lang} → Became l → Type 0
BecameInRange (becomes e) = InRange e
BecameInRange (raises c) = (1 ≤ c) × (c ≤ last_code)
BecameInRange nothing = Unit {0}

amiss_in_range : (l : Lang) (c : ℕ) → (1 ≤ c) × (c ≤ last_code) → BecameInRange (amiss l c)
unfolding amiss InRange
amiss_in_range ml c h = tt
amiss_in_range sc c h = (h.0, h.1, tt)

-- The rules.
answers_in_range : (f : Form sc)
    → (answer is_fun f ≤ largest) × (answer is_list f ≤ largest) × (answer is_null f ≤ largest) × (answer is_num f ≤ largest)
unfolding answer
answers_in_range (number n) = omega arith
answers_in_range (lambda t b) = omega arith
answers_in_range (nil_form t) = omega arith
answers_in_range (cons_form v w) = omega arith
answers_in_range other = omega arith

answer_in_range : (k : Test) (f : Form sc) → answer k f ≤ largest
answer_in_range is_fun f = (answers_in_range f).0
answer_in_range is_list f = (answers_in_range f).1
answer_in_range is_null f = (answers_in_range f).2
answer_in_range is_num f = (answers_in_range f).3

module _ {l m : Lang} (v : Term l) (h : InRange v) (o : Became m) (r : BecameInRange o) where
  by_number : (k : ℕ → Became m) → ((n : ℕ) → n ≤ largest → BecameInRange (k n)) → BecameInRange (on_number (form v) o k)
  by_number k p = on_number_lem BecameInRange o FormInRange (form v) k (form_in_range v h) (λ ne. r) p

  by_lambda : (k : Static l → Term l → Became m) → ((t : Static l) (b : Term l) → InRangeStatic l t → InRange b → BecameInRange (k t b))
      → BecameInRange (on_lambda (form v) o k)
  by_lambda k p = on_lambda_lem BecameInRange o FormInRange (form v) k (form_in_range v h) (λ ne. r) (λ t b i. p t b i.0 i.1)

  by_list : (e : Static l → Became m) (k : Term l → Term l → Became m) → ((t : Static l) → InRangeStatic l t → BecameInRange (e t))
      → ((a b : Term l) → InRange a → InRange b → BecameInRange (k a b)) → BecameInRange (on_list (form v) o e k)
  by_list e k p q = on_list_lem BecameInRange o FormInRange (form v) e k (form_in_range v h) (λ ne. r) p (λ a b i. q a b i.0 i.1)

number_type_in_range : (l : Lang) → InRangeStatic l (numbers l)
unfolding InRangeTy
number_type_in_range ml = tt
number_type_in_range sc = tt

lists_in_range : (l : Lang) (t : Static l) → InRangeStatic l t → InRangeStatic l (lists l t)
unfolding InRangeTy
lists_in_range ml t h = h
lists_in_range sc t h = tt

contract1_in_range : {l : Lang} (o : Op1 l) (v : Term l) → InRange v → BecameInRange (contract1 o v)
unfolding InRange contract1
contract1_in_range (HD {l}) v h = by_list v h _ (amiss_in_range l 3 (omega arith)) _ _ (λ t i. (omega arith, omega arith, i)) (λ a b p q. p)
contract1_in_range (TL {l}) v h =
    by_list v h _ (amiss_in_range l 3 (omega arith)) _ _ (λ t i. (omega arith, omega arith, lists_in_range l t i)) (λ a b p q. q)
contract1_in_range FIX v h = by_lambda v h nothing tt _ (λ t b i p. substitute_in_range (fix v) 0 b h p)
contract1_in_range NULL? v h = by_list v h nothing tt _ _ (λ t i. omega arith) (λ a b p q. omega arith)
contract1_in_range (TEST k) v h = answer_in_range k (form v)

numbers_in_range : (l : Lang) (v w : Term l) (k : ℕ → ℕ → Became l) → InRange v → InRange w
    → ((n m : ℕ) → n ≤ largest → BecameInRange (k n m)) → BecameInRange (on_numbers l v w k)
unfolding on_numbers
numbers_in_range l v w k h i p =
    by_number v h _ (amiss_in_range l 1 (omega arith)) _ (λ n q. by_number w i _ (amiss_in_range l 1 (omega arith)) _ (λ m r. p n m q))

contract2_in_range : (l : Lang) (o : Op2) (v w : Term l) → InRange v → InRange w → BecameInRange (contract2 l o v w)
unfolding InRange contract2
contract2_in_range l APP v w h i = by_lambda v h _ (amiss_in_range l 2 (omega arith)) _ (λ t b j p. substitute_in_range w 0 b i p)
contract2_in_range l ADD v w h i =
    numbers_in_range l v w _ h i
    (λ n m p.
    cond_in_range {l = l} (leb (n + m) largest) (num (n + m)) (wrong 5 (numbers l)) (λ q. leb-true (n + m) largest q)
    (omega arith, omega arith, number_type_in_range l))
contract2_in_range l SUB v w h i = numbers_in_range l v w _ h i (λ n m p. omega arith)
contract2_in_range l CONS v w h i = tt

to_ml_in_range : (t : Ty) (v : Term sc) → InRangeTy t → InRange v → BecameInRange (to_ml t v)
unfolding InRange InRangeTy to_ml
to_ml_in_range N v g h = by_number v h _ (omega arith, omega arith, tt) _ (λ n p. p)
to_ml_in_range (L o) v g h = tt
to_ml_in_range (list t) v g h = by_list v h _ (omega arith, omega arith, g) _ _ (λ u i. g) (λ a b p q. ((g, p), (g, q)))
to_ml_in_range (t to u) v g h = by_lambda v h _ (omega arith, omega arith, g) _ (λ s b i p. (g.0, (g.1, (h, (g.0, omega arith)))))

opened_in_range : (b : Bool) (v : Term sc) → InRange v → BecameInRange (cond b (becomes v) nothing)
opened_in_range true v h = h
opened_in_range false v h = tt

to_scheme_in_range : (t : Ty) (v : Term ml) → InRangeTy t → InRange v → BecameInRange (to_scheme t v)
unfolding InRange InRangeTy to_scheme
to_scheme_in_range N v g h = by_number v h nothing tt _ (λ n p. p)
to_scheme_in_range (L o) v g h =
    on_lump_lem BecameInRange nothing FormInRange (form v) _ (form_in_range v h) (λ ne. tt) (λ u w p. opened_in_range (eqb o u) w p)
to_scheme_in_range (list t) v g h = by_list v h nothing tt _ _ (λ u i. tt) (λ a b p q. ((g, p), (g, q)))
to_scheme_in_range (t to u) v g h = by_lambda v h nothing tt _ (λ s b i p. (tt, (g.1, (h, (g.0, omega arith)))))

contract_in_range : {l : Lang} (e : Term l) → InRange e → BecameInRange (contract e)
unfolding InRange contract
contract_in_range (var i) h = tt
contract_in_range (num n) h = tt
contract_in_range (lam t b) h = tt
contract_in_range (op1 o a) h = contract1_in_range o a h
contract_in_range (op2 {l} o a b) h = contract2_in_range l o a b h.0 h.1
contract_in_range (if0 {l} a b c) h =
    by_number a h.0 _ (amiss_in_range l _ (omega arith, omega arith)) _ (λ n p. cond_in_range (eqb n 0) b c (λ q. h.1) h.2)
contract_in_range (nil t) h = tt
contract_in_range (wrong c t) h = (h.0, h.1)
contract_in_range (ms t a) h = to_ml_in_range t a h.0 h.1
contract_in_range (sm t a) h = to_scheme_in_range t a h.0 h.1

-- A term in range has a node in range at every place, and takes another there.
plug_in_range : {k l : Lang} (f : Frame k l) (x : Term k) → InRange (plug f x) → InRange x × ((y : Term k) → InRange y → InRange (plug f y))
unfolding InRange
plug_in_range (under o) x h = (h, λ y p. p)
plug_in_range (first o b) x h = (h.0, λ y p. (p, h.1))
plug_in_range (second o a) x h = (h.1, λ y p. (h.0, p))
plug_in_range (tested b c) x h = (h.0, λ y p. (p, h.1, h.2))
plug_in_range (into_ml t) x h = (h.1, λ y p. (h.0, p))
plug_in_range (into_scheme t) x h = (h.1, λ y p. (h.0, p))

fill_in_range : {m l : Lang} (F : Context m l) (x : Term m) → InRange (fill F x) → InRange x × ((y : Term m) → InRange y → InRange (fill F y))
unfolding fill
fill_in_range here x h = (h, λ y p. p)
fill_in_range (within f F) x h =
    let i = plug_in_range f (fill F x) h in
    let j = fill_in_range F x i.0 in
    (j.0, λ y p. i.1 (fill F y) (j.1 y p))

-- What is promised of the outcome of a term in range.
abbrev pub OutcomeInRange : {l : Lang} → Outcome l → Type 0
OutcomeInRange value = Unit {0}
OutcomeInRange (raised c) = (1 ≤ c) × (c ≤ last_code)
OutcomeInRange (next r) = InRange r
OutcomeInRange stuck = Unit {0}

outcome_in_range : {m l : Lang} (F : Context m l) (b : Became m) → BecameInRange b → ((y : Term m) → InRange y → InRange (fill F y))
    → OutcomeInRange (outcome F b)
outcome_in_range F (becomes e) h p = p e h
outcome_in_range F (raises c) h p = h
outcome_in_range F nothing h p = tt

-- The next term of a term in range is in range, and so is an error's code.
pub step_in_range : {l : Lang} (e : Term l) → InRange e → OutcomeInRange (step e)
step_in_range e h =
    step_by OutcomeInRange e tt
    (λ m F n q s. let i = fill_in_range F n (rw s h) in outcome_in_range F (contract n) (contract_in_range n i.0) i.1)
