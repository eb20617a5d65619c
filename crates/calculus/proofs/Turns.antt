-- Whose turn it is: `turn` finds, in any term that is no value, the one node in an evaluation context that is ready for a rule.
-- So a step is a node replaced at its place. Assumes nothing.
use mathlib.Core.Bool.{Bool, true, false}
use mathlib.Core.Path.{◌≡◌, refl, ap}
use lib.Dec.{T}
use Rattle.calculus.specs.Trees.{Lang, Term, var, num, lam, op1, op2, if0, nil, wrong, ms, sm}
use Rattle.calculus.specs.Reduction.{is_lump, is_cons, Frame, under, first, second, tested, into_ml, into_scheme, plug, Context, here, within, fill}
use Rattle.calculus.specs.Reduction.{contract, Turn, done, at, into, own, turn, Outcome, value, outcome, stepped, step}
use Rattle.calculus.specs.Rules.{Value, lam_v, num_v, nil_v}
use Rattle.calculus.specs.Evaluation.{Taken, Evaluated, Ready}
use Rattle.calculus.proofs.Values.{cons_value, lump_value, value_turn}

-- What a turn tells of its term: that it is a value, or where the ready node stands in it.
abbrev pub Found : {l : Lang} → Term l → Turn l → Type 0
Found {l} e done = Value l e
Found e (at m F n) = (fill F n ≡ e) × Evaluated F × Ready n

into_found : {k l : Lang} (f : Frame k l) (a : Term k) (p : Turn k) (r : Turn l) → Taken f → Found a p → (Value k a → Found (plug f a) r)
    → Found (plug f a) (into f p r)
unfolding fill
into_found f a done r ev h after = after h
into_found f a (at m F n) r ev h after = (ap (plug f) h.0, (ev, h.1), h.2)

ready_found : {l : Lang} (e : Term l) → Ready e → Found e (at l here e)
unfolding fill
ready_found e h = (refl, tt, h)

own_found : {l : Lang} (e : Term l) (b : Bool) → (T b → Value l e) → (b ≡ false → Ready e) → Found e (own b e)
own_found e true v h = v tt
own_found e false v h = ready_found e (h refl)

-- So it is of every term: what `turn` finds is there.
pub turn_found : {l : Lang} (e : Term l) → Found e (turn e)
unfolding turn
turn_found (var i) = ready_found (var i) tt
turn_found (num n) = num_v
turn_found (lam t b) = lam_v
turn_found (op1 o a) = into_found (under o) a (turn a) (own false (op1 o a)) tt (turn_found a) (ready_found (op1 o a))
turn_found (op2 o a b) =
    into_found (first o b) a (turn a) (into (second o a) (turn b) (own (is_cons o) (op2 o a b))) tt (turn_found a) λ v.
    into_found (second o a) b (turn b) (own (is_cons o) (op2 o a b)) v (turn_found b) λ w.
    own_found (op2 o a b) (is_cons o) (λ h. cons_value o h v w) (λ q. (q, v, w))
turn_found (if0 a b c) = into_found (tested b c) a (turn a) (own false (if0 a b c)) tt (turn_found a) (ready_found (if0 a b c))
turn_found (nil t) = nil_v
turn_found (wrong c t) = ready_found (wrong c t) tt
turn_found (ms t a) =
    into_found (into_ml t) a (turn a) (own (is_lump t) (ms t a)) tt (turn_found a) λ v.
    own_found (ms t a) (is_lump t) (λ h. lump_value t h v) (λ q. (q, v))
turn_found (sm t a) = into_found (into_scheme t) a (turn a) (own false (sm t a)) tt (turn_found a) (ready_found (sm t a))

module _ {l : Lang} (P : Outcome l → Type 0) (e : Term l) (v : P value)
    (p : (m : Lang) (F : Context m l) (n : Term m) → turn e ≡ at m F n → fill F n ≡ e → P (outcome F (contract n))) where
  by_turn : (o : Turn l) → turn e ≡ o → Found e o → P (stepped o)
  by_turn done q h = v
  by_turn (at m F n) q h = p m F n q h.0

  -- A step by its turn: none, or that of the node n, which stands at the place F.
  pub step_by : P (step e)
  unfolding step
  step_by = by_turn (turn e) refl (turn_found e)

ready_turn : {l : Lang} (e : Term l) → Ready e → turn e ≡ at l here e
unfolding turn
ready_turn (var i) h = refl
ready_turn (num n) h = absurd h
ready_turn (lam t b) h = absurd h
ready_turn (op1 o a) h = rw (value_turn h)
ready_turn (op2 o a b) h = rw (value_turn h.1, value_turn h.2, h.0)
ready_turn (if0 a b c) h = rw (value_turn h)
ready_turn (nil t) h = absurd h
ready_turn (wrong c t) h = refl
ready_turn (ms t a) h = rw (value_turn h.1, h.0)
ready_turn (sm t a) h = rw (value_turn h)

plug_turn : {m k l : Lang} (f : Frame k l) (a : Term k) {F : Context m k} {n : Term m} → Taken f → turn a ≡ at m F n
    → turn (plug f a) ≡ at m (within f F) n
unfolding turn
plug_turn (under o) x ev q = rw q
plug_turn (first o b) x ev q = rw q
plug_turn (second o v) x ev q = rw (value_turn ev, q)
plug_turn (tested b c) x ev q = rw q
plug_turn (into_ml t) x ev q = rw q
plug_turn (into_scheme t) x ev q = rw q

-- A node that is ready, in an evaluation context, is the one whose turn it is.
pub turn_filled : {m l : Lang} (F : Context m l) (n : Term m) → Evaluated F → Ready n → turn (fill F n) ≡ at m F n
unfolding fill
turn_filled here n ev h = ready_turn n h
turn_filled (within f F) n ev h = plug_turn f (fill F n) ev.0 (turn_filled F n ev.1 h)
