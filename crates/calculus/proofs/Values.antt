-- Values: the test computes the published definition, and it is never a value's turn. Assumes nothing.
use mathlib.Core.Bool.{true, ◌&&◌}
use mathlib.Core.Logic.{◌↔◌}
use mathlib.Core.Path.{◌≡◌, refl}
use lib.Dec.{T}
use mir.Facts.{and_yes}
use Rattle.calculus.specs.Trees.{Ty, N, L, list, ◌to◌, Lang, ml, sc, Op2, APP, ADD, SUB, CONS, Term, var, num, lam, op1, op2, if0, nil, wrong}
use Rattle.calculus.specs.Trees.{ms, sm}
use Rattle.calculus.specs.Reduction.{is_lump, is_cons, is_value, done, turn}
use Rattle.calculus.specs.Rules.{Value, lam_v, num_v, nil_v, cons_v, lump_v}

-- An operator's node with values for parts is a value if the operator is cons; ms of a value, if the type is an owner's L.
pub cons_value : {l : Lang} (o : Op2) {a b : Term l} → T (is_cons o) → Value l a → Value l b → Value l (op2 o a b)
cons_value APP h v w = absurd h
cons_value ADD h v w = absurd h
cons_value SUB h v w = absurd h
cons_value CONS h v w = cons_v v w

pub lump_value : (t : Ty) {a : Term sc} → T (is_lump t) → Value sc a → Value ml (ms t a)
lump_value N h v = absurd h
lump_value (L o) h v = lump_v v
lump_value (list t) h v = absurd h
lump_value (t to u) h v = absurd h

tested_value : {l : Lang} (e : Term l) → T (is_value e) → Value l e
unfolding is_value
tested_value (var i) h = absurd h
tested_value (num n) h = num_v
tested_value (lam t b) h = lam_v
tested_value (op1 o a) h = absurd h
tested_value (op2 o a b) h =
    let p = and_yes (is_cons o && is_value a) (is_value b) h in
    let q = and_yes (is_cons o) (is_value a) p.0 in
    cons_value o q.0 (tested_value a q.1) (tested_value b p.1)
tested_value (if0 a b c) h = absurd h
tested_value (nil t) h = nil_v
tested_value (wrong c t) h = absurd h
tested_value (ms t a) h = let p = and_yes (is_lump t) (is_value a) h in lump_value t p.0 (tested_value a p.1)
tested_value (sm t a) h = absurd h

-- The test holds of a value.
pub value_test : {l : Lang} {e : Term l} → Value l e → is_value e ≡ true
unfolding is_value
value_test lam_v = refl
value_test num_v = refl
value_test nil_v = refl
value_test (cons_v v w) = rw (value_test v, value_test w)
value_test (lump_v v) = value_test v

-- The test holds of values alone.
pub value_iff : {l : Lang} (e : Term l) → T (is_value e) ↔ Value l e
value_iff e = (tested_value e, λ v. rw (value_test v) tt)

-- A value has no node whose turn it is.
pub value_turn : {l : Lang} {e : Term l} → Value l e → turn e ≡ done
unfolding turn
value_turn lam_v = refl
value_turn num_v = refl
value_turn nil_v = refl
value_turn (cons_v v w) = rw (value_turn v, value_turn w)
value_turn (lump_v v) = rw (value_turn v)
