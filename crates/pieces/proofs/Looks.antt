-- What a rule's look at a value comes to, by what the value shows. Assumes nothing.
use Prim.Native.Nat.{ℕ}
use mathlib.Core.List.{List, []}
use mathlib.Core.Path.{◌≡◌, refl}
use denote.Bor.{Bor}
use Rattle.calculus.specs.Trees.{Lang, ml, sc, Static, Term}
use Rattle.calculus.specs.Words.{word, words, put, put_static}
use Rattle.calculus.specs.Reduction.{Form, lambda, nil_form, cons_form, sealed, Became, on_number, on_lambda, on_list, on_lump}
use Rattle.pieces.specs.declared.values.Value.{Value}
use Rattle.pieces.specs.declared.values.Value.TheVariants.{Number, Lambda, Nil, Cons, Lump}
use Rattle.pieces.specs.Values.{Shows, a_number, a_lambda, a_nil, a_cons, a_lump, no_value}

-- The form that is shown.
pub lambda_shown : {l : Lang} {p : Bor (List ℕ)} {f : Form l} → Shows l (Lambda p) f
    → (t : Static l) × (b : Term l) × (f ≡ lambda t b) × (p.now ≡ put_static l t (words b))
lambda_shown (a_lambda p t b h) = (t, b, refl, h)

pub nil_shown : {l : Lang} {p : Bor (List ℕ)} {f : Form l} → Shows l (Nil p) f → (t : Static l) × (f ≡ nil_form t) × (p.now ≡ put_static l t [])
nil_shown (a_nil p t h) = (t, refl, h)

pub cons_shown : {l : Lang} {p : Bor (List ℕ)} {f : Form l} → Shows l (Cons p) f
    → (v : Term l) × (w : Term l) × (f ≡ cons_form v w) × (p.now ≡ put v (words w))
cons_shown (a_cons p v w h) = (v, w, refl, h)

pub lump_shown : {o : ℕ} {p : Bor (List ℕ)} {f : Form ml} → Shows ml (Lump o p) f
    → (u : ℕ) × (v : Term sc) × (f ≡ sealed u v) × (o ≡ word 2 u) × (p.now ≡ words v)
lump_shown (a_lump u p v h) = (u, v, refl, refl, h)

-- A number; and the other way, where another form is shown.
pub on_shown : {l m : Lang} {n : ℕ} {f : Form l} (o : Became m) (k : ℕ → Became m) → Shows l (Number n) f → on_number f o k ≡ k n
unfolding on_number
on_shown o k (a_number n) = refl

pub no_number : {l m : Lang} {r : Value} {f : Form l} (o : Became m) (k : ℕ → Became m) → Shows l r f → ((n : ℕ) → r ≡ Number n → ⊥)
    → on_number f o k ≡ o
unfolding on_number
no_number o k (a_number n) h = absurd (h n refl)
no_number o k (a_lambda p t b g) h = refl
no_number o k (a_nil p t g) h = refl
no_number o k (a_cons p v w g) h = refl
no_number o k (a_lump u p v g) h = refl
no_number o k no_value h = refl

pub no_lambda : {l m : Lang} {r : Value} {f : Form l} (o : Became m) (k : Static l → Term l → Became m) → Shows l r f
    → ((p : Bor (List ℕ)) → r ≡ Lambda p → ⊥) → on_lambda f o k ≡ o
unfolding on_lambda
no_lambda o k (a_number n) h = refl
no_lambda o k (a_lambda p t b g) h = absurd (h p refl)
no_lambda o k (a_nil p t g) h = refl
no_lambda o k (a_cons p v w g) h = refl
no_lambda o k (a_lump u p v g) h = refl
no_lambda o k no_value h = refl

pub no_list : {l m : Lang} {r : Value} {f : Form l} (o : Became m) (e : Static l → Became m) (k : Term l → Term l → Became m) → Shows l r f
    → ((p : Bor (List ℕ)) → r ≡ Nil p → ⊥) → ((p : Bor (List ℕ)) → r ≡ Cons p → ⊥) → on_list f o e k ≡ o
unfolding on_list
no_list o e k (a_number n) h i = refl
no_list o e k (a_lambda p t b g) h i = refl
no_list o e k (a_nil p t g) h i = absurd (h p refl)
no_list o e k (a_cons p v w g) h i = absurd (i p refl)
no_list o e k (a_lump u p v g) h i = refl
no_list o e k no_value h i = refl

pub no_lump : {m : Lang} {r : Value} {f : Form ml} (o : Became m) (k : ℕ → Term sc → Became m) → Shows ml r f
    → ((u : ℕ) (p : Bor (List ℕ)) → r ≡ Lump u p → ⊥) → on_lump f o k ≡ o
unfolding on_lump
no_lump o k (a_number n) h = refl
no_lump o k (a_lambda p t b g) h = refl
no_lump o k (a_nil p t g) h = refl
no_lump o k (a_cons p v w g) h = refl
no_lump o k (a_lump u p v g) h = absurd (h (word 2 u) p refl)
no_lump o k no_value h = refl
