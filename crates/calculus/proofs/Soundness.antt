-- Soundness of the typing: a term that has a type is a value, a raised error, or has a next term of the same type. Assumes nothing.
use Prim.Native.Nat.{ℕ, ◌+◌}
use mathlib.Core.Bool.{Bool, true, false, cond}
use mathlib.Core.List.{[], ◌∷◌}
use mathlib.Core.Path.{◌≡◌, refl, ◌∙◌}
use lib.Dec.{eqb, leb}
use borrow.Author.Tests.{eq-eqb}
use Rattle.calculus.specs.Trees.{Ty, N, L, list, ◌to◌, Lang, ml, sc, Static, numbers, lists, functions, Op1, HD, TL, FIX, NULL?, TEST, Op2, APP}
use Rattle.calculus.specs.Trees.{ADD, SUB, CONS, Term, var, num, lam, op1, op2, if0, nil, wrong, ms, sm, cons, fix}
use Rattle.calculus.specs.Words.{largest}
use Rattle.calculus.specs.Typing.{of, Rule1, Rule2, Typed}
use Rattle.calculus.specs.Reduction.{is_lump, is_cons, Form, number, lambda, nil_form, cons_form, sealed, other, form, Became, becomes, raises}
use Rattle.calculus.specs.Reduction.{nothing, on_number, on_lambda, on_list, on_lump, amiss, contract1, on_numbers, contract2, to_ml, to_scheme}
use Rattle.calculus.specs.Reduction.{contract, Frame, under, first, second, tested, into_ml, into_scheme, plug, Context, fill, Turn, done, at}
use Rattle.calculus.specs.Reduction.{into, own, turn, Outcome, value, raised, next, stuck, outcome, stepped, step}
use Rattle.calculus.proofs.Forms.{class, on_number_lem, on_lambda_lem, on_list_lem, on_lump_lem}
use Rattle.calculus.proofs.Typing.{weaken, substitute_typed}

-- A value's type, by its form; no other term is a value.
abbrev FormTyped : {l : Lang} → Form l → Static l → Type 0
FormTyped (number {l} n) τ = τ ≡ numbers l
FormTyped (lambda t b) τ = Typed [] (lam t b) τ
FormTyped (nil_form {l} t) τ = τ ≡ lists l t
FormTyped (cons_form v w) τ = Typed [] (cons v w) τ
FormTyped (sealed o v) τ = Typed [] (ms (L o) v) τ
FormTyped other τ = ⊥

-- Canonical forms: the class of an ML value is that of its type.
abbrev class_ty : Ty → ℕ
class_ty N = 0
class_ty (t to u) = 1
class_ty (list t) = 2
class_ty (L o) = 3

canonical : (f : Form ml) (τ : Ty) → FormTyped f τ → class f ≡ class_ty τ
canonical (number n) τ h = rw h
canonical (lambda t b) τ h = rw h.2
canonical (nil_form t) τ h = rw h
canonical (cons_form v w) τ h = rw h.4.1
canonical (sealed o v) τ h = rw h.1
canonical other τ h = absurd h

-- What is asked of Scheme alone: there a value may be of any class.
abbrev InScheme : Lang → Type 0 → Type 0
InScheme ml X = Unit
InScheme sc X = X

abbrev Class : (l : Lang) → Static l → ℕ → Type 0
Class ml τ n = class_ty τ ≡ n
Class sc τ n = Unit

otherwise : (l : Lang) {X : Type 0} (f : Form l) (τ : Static l) (n : ℕ) → FormTyped f τ → Class l τ n → InScheme l X → (class f ≡ n → ⊥) → X
otherwise ml f τ n h c s ne = absurd (ne (canonical f τ h ∙ c))
otherwise sc f τ n h c s ne = s

numbers_class : (l : Lang) → Class l (numbers l) 0
numbers_class ml = refl
numbers_class sc = tt

functions_class : (l : Lang) (t u : Static l) → Class l (functions l t u) 1
functions_class ml t u = refl
functions_class sc t u = tt

lists_class : (l : Lang) (t : Static l) → Class l (lists l t) 2
lists_class ml t = refl
lists_class sc t = tt

functions_inj : (l : Lang) (t u r s : Static l) → functions l t u ≡ functions l r s → (r ≡ t) × (s ≡ u)
functions_inj ml t u r s q = (cc, cc)
functions_inj sc t u r s q = (refl, refl)

lists_inj : (l : Lang) (t r : Static l) → lists l t ≡ lists l r → r ≡ t
lists_inj ml t r q = cc
lists_inj sc t r q = refl

-- What a node of the type τ becomes has that type.
abbrev Preserved : {l : Lang} → Static l → Became l → Type 0
Preserved τ (becomes e) = Typed [] e τ
Preserved τ (raises c) = Unit
Preserved τ nothing = ⊥

module _ {l m : Lang} (τ : Static m) (f : Form l) (o : Became m) (s : InScheme l (Preserved τ o)) where
  by_number : (k : ℕ → Became m) → FormTyped f (numbers l) → ((n : ℕ) → Preserved τ (k n)) → Preserved τ (on_number f o k)
  by_number k h p = on_number_lem (Preserved τ) o (λ f. FormTyped f (numbers l)) f k h (otherwise l f _ 0 h (numbers_class l) s) (λ n q. p n)

  by_lambda : (t u : Static l) (k : Static l → Term l → Became m) → FormTyped f (functions l t u)
      → ((b : Term l) → Typed (of l t ∷ []) b u → Preserved τ (k t b)) → Preserved τ (on_lambda f o k)
  by_lambda t u k h p =
      on_lambda_lem (Preserved τ) o (λ f. FormTyped f (functions l t u)) f k h (otherwise l f _ 1 h (functions_class l t u) s)
      (λ r b q. let i = functions_inj l t u r q.0 q.2 in rw i.0 (p b (rw (i.0, i.1) at q.1)))

  by_list : (t : Static l) (e : Static l → Became m) (k : Term l → Term l → Became m) → FormTyped f (lists l t)
      → Preserved τ (e t) → ((v w : Term l) → Typed [] v t → Typed [] w (lists l t) → Preserved τ (k v w)) → Preserved τ (on_list f o e k)
  by_list t e k h p r =
      on_list_lem (Preserved τ) o (λ f. FormTyped f (lists l t)) f e k h (otherwise l f _ 2 h (lists_class l t) s)
      (λ u q. rw (lists_inj l t u q) p)
      (λ v w q. let i = lists_inj l t q.0 q.4.1 in r v w (rw i at q.2) (rw (q.4.0, i) at q.3))

-- A value of an owner's L is an ms at that same owner's L.
by_lump : (o : ℕ) (f : Form ml) (k : ℕ → Term sc → Became sc) → FormTyped f (L o) → ((v : Term sc) → Typed [] v tt → Preserved tt (k o v))
    → Preserved tt (on_lump f nothing k)
by_lump o f k h p =
    on_lump_lem (Preserved tt) nothing (λ f. FormTyped f (L o)) f k h (otherwise ml f (L o) 3 h refl tt)
    (λ u v q. let e : o ≡ u = cc q.1 in rw (← e) (p v q.0))

amiss_typed : (l : Lang) (τ : Static l) (c : ℕ) → InScheme l (Preserved τ (amiss l c))
unfolding amiss
amiss_typed ml τ c = tt
amiss_typed sc τ c = refl

cond_typed : {l : Lang} (τ : Static l) (b : Bool) (x y : Term l) → Typed [] x τ → Typed [] y τ → Typed [] (cond b x y) τ
cond_typed τ true x y h k = h
cond_typed τ false x y h k = k

-- The rules, where the parts that evaluation takes are values.
contract1_typed : {l : Lang} (o : Op1 l) (v : Term l) (t τ : Static l) → Typed [] v t → Rule1 o t τ → FormTyped (form v) t
    → Preserved τ (contract1 o v)
unfolding contract1
contract1_typed (HD {l}) v t τ h r f = by_list τ (form v) _ (amiss_typed l τ 3) τ _ _ (rw r at f) refl (λ a b p q. p)
contract1_typed (TL {l}) v t τ h r f = by_list τ (form v) _ (amiss_typed l τ 3) r.0 _ _ (rw r.1 at f) r.2 (λ a b p q. rw r.2 q)
contract1_typed FIX v t τ h r f =
    by_lambda {l = ml} τ (form v) _ tt τ τ _ (rw r at f) (λ b p. substitute_typed (fix v) τ (t, h, r) [] b τ p)
contract1_typed NULL? v t τ h r f = by_list {l = ml} τ (form v) _ tt r.0 _ _ (rw r.1 at f) r.2 (λ a b p q. r.2)
contract1_typed (TEST k) v t τ h r f = refl

numbers_typed : (l : Lang) (τ : Static l) (v w : Term l) (k : ℕ → ℕ → Became l) → FormTyped (form v) (numbers l) → FormTyped (form w) (numbers l)
    → ((n m : ℕ) → Preserved τ (k n m)) → Preserved τ (on_numbers l v w k)
unfolding on_numbers
numbers_typed l τ v w k f g p =
    by_number τ (form v) _ (amiss_typed l τ 1) _ f (λ n. by_number τ (form w) _ (amiss_typed l τ 1) _ g (λ m. p n m))

to_scheme_typed : (t : Ty) (v : Term ml) → Typed [] v t → FormTyped (form v) t → Preserved tt (to_scheme t v)
unfolding to_scheme
to_scheme_typed N v h f = by_number {l = ml} tt (form v) _ tt _ f (λ n. refl)
to_scheme_typed (L o) v h f = by_lump o (form v) _ f (λ w p. rw (eq-eqb o o refl) p)
to_scheme_typed (list t) v h f = by_list {l = ml} tt (form v) _ tt t _ _ f refl (λ a b p q. (tt, tt, p, q, (refl, refl)))
to_scheme_typed (t to u) v h f =
    by_lambda {l = ml} tt (form v) _ tt t u _ f (λ b p. (tt, (t to u, t, weaken [] (of sc tt ∷ []) v (t to u) h, (refl, refl), refl), refl))

-- A turn of a term of the type τ: none, and then the form is that of a value; or a node's, which keeps its type, and whose place keeps τ.
abbrev Placed : {l : Lang} → Term l → Static l → Turn l → Type 0
Placed e τ done = FormTyped (form e) τ
Placed e τ (at m F n) = (σ : Static m) × Preserved σ (contract n) × ((x : Term m) → Typed [] x σ → Typed [] (fill F x) τ)

own_placed : {l : Lang} (e : Term l) (τ : Static l) → Preserved τ (contract e) → Placed e τ (own false e)
unfolding fill
own_placed e τ h = (τ, h, λ x p. p)

into_placed : {k l : Lang} (f : Frame k l) (a : Term k) (e : Term l) (σ : Static k) (τ : Static l) (o : Turn k) (r : Turn l) → Placed a σ o
    → ((x : Term k) → Typed [] x σ → Typed [] (plug f x) τ) → (FormTyped (form a) σ → Placed e τ r) → Placed e τ (into f o r)
unfolding fill
into_placed f a e σ τ done r h p q = q h
into_placed f a e σ τ (at m F n) r h p q = (h.0, h.1, λ x t. p (fill F x) (h.2 x t))

op2_placed : (l : Lang) (o : Op2) (a b : Term l) (τ t u : Static l) → Typed [] a t → Typed [] b u → Rule2 l o t u τ
    → FormTyped (form a) t → FormTyped (form b) u → Placed (op2 o a b) τ (own (is_cons o) (op2 o a b))
unfolding form contract contract2
op2_placed l APP a b τ t u h k r f g =
    own_placed (op2 APP a b) τ (by_lambda τ (form a) _ (amiss_typed l τ 2) u τ _ (rw r at f) (λ c p. substitute_typed b u k [] c τ p))
op2_placed l ADD a b τ t u h k r f g =
    own_placed (op2 ADD a b) τ
    (numbers_typed l τ a b _ (rw r.0 at f) (rw r.1 at g)
    (λ n m. cond_typed τ (leb (n + m) largest) (num (n + m)) (wrong 5 (numbers l)) r.2 r.2))
op2_placed l SUB a b τ t u h k r f g = own_placed (op2 SUB a b) τ (numbers_typed l τ a b _ (rw r.0 at f) (rw r.1 at g) (λ n m. r.2))
op2_placed l CONS a b τ t u h k r f g = (t, u, h, k, r)

ms_placed : (t : Ty) (a : Term sc) → Typed [] a tt → FormTyped (form a) tt → Placed (ms t a) t (own (is_lump t) (ms t a))
unfolding form contract to_ml
ms_placed N a h f = own_placed (ms N a) N (by_number {l = sc} N (form a) _ refl _ f (λ n. refl))
ms_placed (L o) a h f = (h, refl)
ms_placed (list t) a h f =
    own_placed (ms (list t) a) (list t)
    (by_list {l = sc} (list t) (form a) _ refl tt _ _ f refl (λ v w p q. (t, list t, (p, refl), (q, refl), (refl, refl))))
ms_placed (t to u) a h f =
    own_placed (ms (t to u) a) (t to u)
    (by_lambda {l = sc} (t to u) (form a) _ refl tt tt _ f (λ b p. (u, ((tt, tt, weaken [] (of ml t ∷ []) a tt h, refl, refl), refl), refl)))

turn_placed : {l : Lang} (e : Term l) (τ : Static l) → Typed [] e τ → Placed e τ (turn e)
unfolding turn form contract
turn_placed (var i) τ h = absurd h
turn_placed (num n) τ h = h
turn_placed (lam t b) τ h = h
turn_placed (op1 o a) τ h =
    into_placed (under o) a (op1 o a) h.0 τ (turn a) _ (turn_placed a h.0 h.1) (λ x p. (h.0, p, h.2))
    (λ f. own_placed (op1 o a) τ (contract1_typed o a h.0 τ h.1 h.2 f))
turn_placed (op2 {l} o a b) τ h =
    into_placed (first o b) a (op2 o a b) h.0 τ (turn a) _ (turn_placed a h.0 h.2) (λ x p. (h.0, h.1, p, h.3, h.4))
    (λ f. into_placed (second o a) b (op2 o a b) h.1 τ (turn b) _ (turn_placed b h.1 h.3) (λ x p. (h.0, h.1, h.2, p, h.4))
    (λ g. op2_placed l o a b τ h.0 h.1 h.2 h.3 h.4 f g))
turn_placed (if0 {l} a b c) τ h =
    into_placed (tested b c) a (if0 a b c) (numbers l) τ (turn a) _ (turn_placed a _ h.0) (λ x p. (p, h.1, h.2))
    (λ f. own_placed (if0 a b c) τ
    (by_number τ (form a) _ (amiss_typed l τ _) _ f (λ n. cond_typed τ (eqb n 0) b c h.1 h.2)))
turn_placed (nil t) τ h = h
turn_placed (wrong {l} c t) τ h = own_placed {l = l} (wrong c t) τ tt
turn_placed (ms t a) τ h =
    into_placed (into_ml t) a (ms t a) tt τ (turn a) _ (turn_placed a tt h.0) (λ x p. (p, h.1)) (λ f. rw h.1 (ms_placed t a h.0 f))
turn_placed (sm t a) τ h =
    into_placed (into_scheme t) a (sm t a) t tt (turn a) _ (turn_placed a t h) (λ x p. p) (λ f. own_placed (sm t a) tt (to_scheme_typed t a h f))

-- What is promised of the outcome of a term of the type τ: not stuck, and the next term has that type.
abbrev pub Kept : {l : Lang} → Static l → Outcome l → Type 0
Kept τ value = Unit {0}
Kept τ (raised c) = Unit {0}
Kept τ (next r) = Typed [] r τ
Kept τ stuck = ⊥

outcome_kept : {m l : Lang} (σ : Static m) (τ : Static l) (F : Context m l) (b : Became m) → Preserved σ b
    → ((x : Term m) → Typed [] x σ → Typed [] (fill F x) τ) → Kept τ (outcome F b)
outcome_kept σ τ F (becomes e) h p = p e h
outcome_kept σ τ F (raises c) h p = tt
outcome_kept σ τ F nothing h p = absurd h

stepped_kept : {l : Lang} (e : Term l) (τ : Static l) (o : Turn l) → Placed e τ o → Kept τ (stepped o)
stepped_kept e τ done h = tt
stepped_kept e τ (at m F n) h = outcome_kept h.0 τ F (contract n) h.1 h.2

-- Progress and preservation, and no term that has a type is stuck.
pub sound : {l : Lang} (e : Term l) (τ : Static l) → Typed [] e τ → Kept τ (step e)
unfolding step
sound e τ h = stepped_kept e τ (turn e) (turn_placed e τ h)
