-- Document 01, "Reduction": values, whose turn it is, what the node becomes, and the next term, as functions.
use Rattle.std.specs.Prelude.{ℕ, suc, ◌+◌, ◌-◌, Bool, true, false, cond, ◌&&◌, eqb, leb}
use Rattle.calculus.specs.Trees.{Ty, N, L, list, ◌to◌, Lang, ml, sc, Static, numbers, lists, Test, is_fun, is_list, is_null, is_num, Op1, HD, TL}
use Rattle.calculus.specs.Trees.{FIX, NULL?, TEST, Op2, APP, ADD, SUB, CONS, Term, var, num, lam, op1, op2, if0, nil, wrong, ms, sm, app, cons}
use Rattle.calculus.specs.Trees.{fix}
use Rattle.calculus.specs.Words.{largest}

-- "the body with that value for the variable": k lambdas have been passed on the way in. What is put there is closed, so that no other
-- variable changes.
abbrev pub replaced : (m l : Lang) → Term m → ℕ → Term l
replaced ml ml v i = v
replaced ml sc v i = var i
replaced sc ml v i = var i
replaced sc sc v i = v

unfoldable pub substitute : {m : Lang} → Term m → {l : Lang} → ℕ → Term l → Term l
substitute {m} v k (var {l} i) = cond (eqb i k) (replaced m l v i) (var i)
substitute v k (num n) = num n
substitute v k (lam t b) = lam t (substitute v (suc k) b)
substitute v k (op1 o a) = op1 o (substitute v k a)
substitute v k (op2 o a b) = op2 o (substitute v k a) (substitute v k b)
substitute v k (if0 a b c) = if0 (substitute v k a) (substitute v k b) (substitute v k c)
substitute v k (nil t) = nil t
substitute v k (wrong c t) = wrong c t
substitute v k (ms t a) = ms t (substitute v k a)
substitute v k (sm t a) = sm t (substitute v k a)

-- "ML values: lambda, number, nil, cons of two values, ms L of a Scheme value. Scheme values: lambda, number, nil, cons of two values." The L is any
-- owner's.
abbrev pub is_lump : Ty → Bool
is_lump N = false
is_lump (L o) = true
is_lump (list t) = false
is_lump (t to u) = false

abbrev pub is_cons : Op2 → Bool
is_cons APP = false
is_cons ADD = false
is_cons SUB = false
is_cons CONS = true

unfoldable pub is_value : {l : Lang} → Term l → Bool
is_value (var i) = false
is_value (num n) = true
is_value (lam t b) = true
is_value (op1 o a) = false
is_value (op2 o a b) = is_cons o && is_value a && is_value b
is_value (if0 a b c) = false
is_value (nil t) = true
is_value (wrong c t) = false
is_value (ms t a) = is_lump t && is_value a
is_value (sm t a) = false

-- A value by its form; `sealed o v` is ms at the owner o's L of v.
pub data Form : Lang → Type 0 where
  number : {l : Lang} → ℕ → Form l
  lambda : {l : Lang} → Static l → Term l → Form l
  nil_form : {l : Lang} → Static l → Form l
  cons_form : {l : Lang} → Term l → Term l → Form l
  sealed : ℕ → Term sc → Form ml
  other : {l : Lang} → Form l

abbrev pub op2_form : {l : Lang} → Op2 → Term l → Term l → Form l
op2_form APP a b = other
op2_form ADD a b = other
op2_form SUB a b = other
op2_form CONS a b = cons_form a b

abbrev pub ms_form : Ty → Term sc → Form ml
ms_form N a = other
ms_form (L o) a = sealed o a
ms_form (list t) a = other
ms_form (t to u) a = other

unfoldable pub form : {l : Lang} → Term l → Form l
form (var i) = other
form (num n) = number n
form (lam t b) = lambda t b
form (op1 o a) = other
form (op2 o a b) = op2_form o a b
form (if0 a b c) = other
form (nil t) = nil_form t
form (wrong c t) = other
form (ms t a) = ms_form t a
form (sm t a) = other

-- What a node becomes whose turn it is: another term; an error, if it is a wrong; nothing, if no rule fits.
pub data Became (l : Lang) : Type 0 where
  becomes : Term l → Became l
  raises : ℕ → Became l
  nothing : Became l

-- A rule looks at a value's form: k where it is the form asked for, o where it is another.
unfoldable pub on_number : {l m : Lang} → Form l → Became m → (ℕ → Became m) → Became m
on_number (number n) o k = k n
on_number (lambda t b) o k = o
on_number (nil_form t) o k = o
on_number (cons_form v w) o k = o
on_number (sealed u v) o k = o
on_number other o k = o

unfoldable pub on_lambda : {l m : Lang} → Form l → Became m → (Static l → Term l → Became m) → Became m
on_lambda (number n) o k = o
on_lambda (lambda t b) o k = k t b
on_lambda (nil_form t) o k = o
on_lambda (cons_form v w) o k = o
on_lambda (sealed u v) o k = o
on_lambda other o k = o

unfoldable pub on_list : {l m : Lang} → Form l → Became m → (Static l → Became m) → (Term l → Term l → Became m) → Became m
on_list (number n) o e k = o
on_list (lambda t b) o e k = o
on_list (nil_form t) o e k = e t
on_list (cons_form v w) o e k = k v w
on_list (sealed u v) o e k = o
on_list other o e k = o

unfoldable pub on_lump : {m : Lang} → Form ml → Became m → (ℕ → Term sc → Became m) → Became m
on_lump (number n) o k = o
on_lump (lambda t b) o k = o
on_lump (nil_form t) o k = o
on_lump (cons_form v w) o k = o
on_lump (sealed u v) o k = k u v
on_lump other o k = o

-- A value that no rule takes: in Scheme a wrong; in ML no value of a term that has a type is one.
unfoldable pub amiss : (l : Lang) → ℕ → Became l
amiss ml c = nothing
amiss sc c = becomes (wrong c tt)

-- "null? and tests: 0 for yes, 1 for no. list? holds of nil and cons."
unfoldable pub answer : Test → Form sc → ℕ
answer is_fun (number n) = 1
answer is_fun (lambda t b) = 0
answer is_fun (nil_form t) = 1
answer is_fun (cons_form v w) = 1
answer is_fun other = 1
answer is_list (number n) = 1
answer is_list (lambda t b) = 1
answer is_list (nil_form t) = 0
answer is_list (cons_form v w) = 0
answer is_list other = 1
answer is_null (number n) = 1
answer is_null (lambda t b) = 1
answer is_null (nil_form t) = 0
answer is_null (cons_form v w) = 1
answer is_null other = 1
answer is_num (number n) = 0
answer is_num (lambda t b) = 1
answer is_num (nil_form t) = 1
answer is_num (cons_form v w) = 1
answer is_num other = 1

-- "hd, tl of cons: head, tail; of nil: wrong 4. Scheme, neither: wrong 3", "fix of a lambda: the body with the whole fix term for the
-- variable".
unfoldable pub contract1 : {l : Lang} → Op1 l → Term l → Became l
contract1 (HD {l}) v = on_list (form v) (amiss l 3) (λ t. becomes (wrong 4 t)) (λ a b. becomes a)
contract1 (TL {l}) v = on_list (form v) (amiss l 3) (λ t. becomes (wrong 4 (lists l t))) (λ a b. becomes b)
contract1 FIX v = on_lambda (form v) nothing (λ t b. becomes (substitute (fix v) 0 b))
contract1 NULL? v = on_list (form v) nothing (λ t. becomes (num 0)) (λ a b. becomes (num 1))
contract1 (TEST k) v = becomes (num (answer k (form v)))

-- "add: the sum; over 16,777,215, wrong 5. subtract: max(n − m, 0). Scheme, once both are values and either is no number: wrong 1."
unfoldable pub on_numbers : (l : Lang) → Term l → Term l → (ℕ → ℕ → Became l) → Became l
on_numbers l v w k = on_number (form v) (amiss l 1) (λ n. on_number (form w) (amiss l 1) (λ m. k n m))

-- "Application of a lambda to a value: the body with that value for the variable. Scheme, function value no lambda: wrong 2, once the
-- argument is a value."
unfoldable pub contract2 : (l : Lang) → Op2 → Term l → Term l → Became l
contract2 l APP f v = on_lambda (form f) (amiss l 2) (λ t b. becomes (substitute v 0 b))
contract2 l ADD v w = on_numbers l v w (λ n m. becomes (cond (leb (n + m) largest) (num (n + m)) (wrong 5 (numbers l))))
contract2 l SUB v w = on_numbers l v w (λ n m. becomes (num (n - m)))
contract2 l CONS v w = nothing

-- "ms N of a number becomes that number; of another value, wrong 1. ms {t} of nil becomes nil t; of cons v w, cons of ms t v and
-- ms {t} w; of another value, wrong 3. ms at t to u of a lambda becomes a new ML lambda with type t, whose body is ms u of the old lambda
-- applied to sm t of the new variable; of another value, wrong 2."
unfoldable pub to_ml : Ty → Term sc → Became ml
to_ml N v = on_number (form v) (becomes (wrong 1 N)) (λ n. becomes (num n))
to_ml (L o) v = nothing
to_ml (list t) v = on_list (form v) (becomes (wrong 3 (list t))) (λ u. becomes (nil t)) (λ a b. becomes (cons (ms t a) (ms (list t) b)))
to_ml (t to u) v = on_lambda (form v) (becomes (wrong 2 (t to u))) (λ s b. becomes (lam t (ms u (app v (sm t (var 0))))))

-- Document 02, "sm at an owner's L takes an ms at that same owner's L": what the owner u has sealed, at the owner o's.
abbrev pub opened : ℕ → ℕ → Term sc → Became sc
opened o u v = cond (eqb o u) (becomes v) nothing

-- "sm N of a number becomes that number. sm {t} of nil becomes the Scheme nil; of cons v w, cons of sm t v and sm {t} w. sm at t to u of a
-- lambda becomes a new Scheme lambda, whose body is sm u of the old lambda applied to ms t of the new variable. sm L of ms L v becomes v."
unfoldable pub to_scheme : Ty → Term ml → Became sc
to_scheme N v = on_number (form v) nothing (λ n. becomes (num n))
to_scheme (L o) v = on_lump (form v) nothing (opened o)
to_scheme (list t) v = on_list (form v) nothing (λ u. becomes (nil tt)) (λ a b. becomes (cons (sm t a) (sm (list t) b)))
to_scheme (t to u) v = on_lambda (form v) nothing (λ s b. becomes (lam tt (sm u (app v (ms t (var 0))))))

-- What a node becomes whose turn it is. "if0: second part if the test is 0, else third." Document 02: "Scheme's if0 on a value that is no number now
-- becomes wrong 1."
unfoldable pub contract : {l : Lang} → Term l → Became l
contract (var i) = nothing
contract (num n) = nothing
contract (lam t b) = nothing
contract (op1 o v) = contract1 o v
contract (op2 {l} o v w) = contract2 l o v w
contract (if0 {l} v b c) = on_number (form v) (amiss l 1) (λ n. becomes (cond (eqb n 0) b c))
contract (nil t) = nothing
contract (wrong c t) = raises c
contract (ms t v) = to_ml t v
contract (sm t v) = to_scheme t v

-- A node with one of its parts left open: `Frame m l` is a node of the language l, the open part of the language m.
pub data Frame : Lang → Lang → Type 0 where
  under : {l : Lang} → Op1 l → Frame l l
  first : {l : Lang} → Op2 → Term l → Frame l l
  second : {l : Lang} → Op2 → Term l → Frame l l
  tested : {l : Lang} → Term l → Term l → Frame l l
  into_ml : Ty → Frame sc ml
  into_scheme : Ty → Frame ml sc

abbrev pub plug : {m l : Lang} → Frame m l → Term m → Term l
plug (under o) a = op1 o a
plug (first o b) a = op2 o a b
plug (second o a) b = op2 o a b
plug (tested b c) a = if0 a b c
plug (into_ml t) a = ms t a
plug (into_scheme t) a = sm t a

-- A place in a term: the frames around it, from the root inwards.
pub data Context (m : Lang) : Lang → Type 0 where
  here : Context m m
  within : {k l : Lang} → Frame k l → Context m k → Context m l

unfoldable pub fill : {m l : Lang} → Context m l → Term m → Term l
fill here e = e
fill (within f F) e = plug f (fill F e)

-- The node whose turn it is, and the place where it stands; a value has none.
pub data Turn (l : Lang) : Type 0 where
  done : Turn l
  at : (m : Lang) → Context m l → Term m → Turn l

-- Into a part that evaluation takes; r where that part is a value.
abbrev pub into : {k l : Lang} → Frame k l → Turn k → Turn l → Turn l
into f done r = r
into f (at m F n) r = at m (within f F) n

-- It is the node's own turn, unless it is a value.
abbrev pub own : {l : Lang} → Bool → Term l → Turn l
own {l} true e = done
own {l} false e = at l here e

-- "In a term that is no value, go from the root each time into the first part that evaluation takes and that is no value; where there is
-- none, it is that node's turn." "Evaluation goes left to right: function then argument, first operand then second, cons head then tail;
-- for if0 the test alone; under a unary node, ms or sm its term; never under a lambda."
unfoldable pub turn : {l : Lang} → Term l → Turn l
turn (var i) = own false (var i)
turn (num n) = done
turn (lam t b) = done
turn (op1 o a) = into (under o) (turn a) (own false (op1 o a))
turn (op2 o a b) = into (first o b) (turn a) (into (second o a) (turn b) (own (is_cons o) (op2 o a b)))
turn (if0 a b c) = into (tested b c) (turn a) (own false (if0 a b c))
turn (nil t) = done
turn (wrong c t) = own false (wrong c t)
turn (ms t a) = into (into_ml t) (turn a) (own (is_lump t) (ms t a))
turn (sm t a) = into (into_scheme t) (turn a) (own false (sm t a))

-- "A term where it is a wrong's turn is a raised error. A reduction applies to any other term that is no value, if one of the rules above
-- fits the node whose turn it is; the next term has that node replaced. Values and raised errors have no next term."
pub data Outcome (l : Lang) : Type 0 where
  value : Outcome l
  raised : ℕ → Outcome l
  next : Term l → Outcome l
  stuck : Outcome l

abbrev pub outcome : {m l : Lang} → Context m l → Became m → Outcome l
outcome F (becomes e) = next (fill F e)
outcome F (raises c) = raised c
outcome F nothing = stuck

abbrev pub stepped : {l : Lang} → Turn l → Outcome l
stepped done = value
stepped (at m F n) = outcome F (contract n)

unfoldable pub step : {l : Lang} → Term l → Outcome l
step e = stepped (turn e)
