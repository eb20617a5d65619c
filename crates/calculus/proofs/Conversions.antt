-- Data survives the boundaries, and a conversion fails exactly where a part does not fit. Assumes nothing.
use Prim.Native.Nat.{ℕ, suc, ◌+◌, ◌≤◌}
use mathlib.Core.List.{[]}
use mathlib.Core.Logic.{◌↔◌, ◌⊎◌, inl, inr}
use mathlib.Core.Option.{Option, none, some}
use mathlib.Core.Path.{◌≡◌, refl, sym, ap, subst, ◌∙◌}
use native.Mathlib.Omega.{arith}
use Rattle.calculus.specs.Trees.{Ty, N, L, list, ◌to◌, ml, sc, HD, APP, CONS, Term, var, num, lam, nil, wrong, ms, sm, app, cons}
use Rattle.calculus.specs.Words.{words, size, size_ty}
use Rattle.calculus.specs.Typing.{Typed}
use Rattle.calculus.specs.Reduction.{form, becomes, on_list, contract1}
use Rattle.calculus.specs.Substitution.{shift, ordinary}
use Rattle.calculus.specs.Rules.{Value, lam_v, num_v, nil_v, cons_v, lump_v, Lambda, Number, Nil, Cons, app_lambda, ms_number, ms_no_number, ms_nil}
use Rattle.calculus.specs.Rules.{ms_cons, ms_no_list, ms_lambda, ms_no_lambda, sm_number, sm_lump, sm_nil, sm_cons, sm_lambda, Steps, stay}
use Rattle.calculus.specs.Rules.{then, Raises}
use Rattle.calculus.specs.Run.{valued, Counts, ended}
use Rattle.calculus.specs.Endings.{Ends, by_value}
use Rattle.calculus.specs.Conversions.{Data, Fits, number, anything, fits_nil, fits_cons, function, first, misfit, crossing, boundaries}
use Rattle.calculus.specs.Conversions.{Reaches, Survives, Crosses, Leaves, Seals, wrapper, Wraps, Functions, Conversions}
use Rattle.calculus.proofs.Contraction.{mark}
use Rattle.calculus.proofs.Bounds.{size_shift}
use Rattle.calculus.proofs.Typing.{typed_scoped}
use Rattle.calculus.proofs.Agreement.{value_no_step}
use Rattle.calculus.proofs.Converting.{value_converting, converts}
use Rattle.calculus.proofs.Reaching.{Within, still, on, within_steps, within_capacity, once, join, wider, inside, step_in_first}
use Rattle.calculus.proofs.Reaching.{step_in_second, into_ml_lem, into_scheme_lem, rule, onward, reached, after_rule, raises, raises_in_first}
use Rattle.calculus.proofs.Reaching.{raises_in_second, one_end, value_end, value_or_error, error_once, fails_run}

-- An ML value and a Scheme value are the same datum of a type; the steps of its way into ML, and out of it.
data Same : ℕ → ℕ → Ty → Term ml → Term sc → Type 0 where
  numbers : {n : ℕ} → Same 1 1 N (num n) (num n)
  lumps : {u : ℕ} {w : Term sc} → Value sc w → Same 0 1 (L u) (ms (L u) w) w
  nils : {t : Ty} → Same 1 1 (list t) (nil t) (nil tt)
  conses : {t : Ty} {i j o p : ℕ} {v v' : Term ml} {w w' : Term sc} → Same i o t v w → Same j p (list t) v' w'
      → Same (suc (i + j)) (suc (o + p)) (list t) (cons v v') (cons w w')

same_values : {i o : ℕ} {t : Ty} {v : Term ml} {w : Term sc} → Same i o t v w → Value ml v × Value sc w
same_values numbers = (num_v, num_v)
same_values (lumps h) = (lump_v h, h)
same_values nils = (nil_v, nil_v)
same_values (conses a b) = (cons_v (same_values a).0 (same_values b).0, cons_v (same_values a).1 (same_values b).1)

-- The Scheme value has no more words.
same_size : {i o : ℕ} {t : Ty} {v : Term ml} {w : Term sc} → Same i o t v w → size w ≤ size v
unfolding size size_ty
same_size numbers = omega arith
same_size (lumps h) = omega arith
same_size nils = omega arith
same_size (conses a b) = omega (arith, same_size a, same_size b)

-- The steps of both ways.
same_count : {i o : ℕ} {t : Ty} {v : Term ml} {w : Term sc} → Same i o t v w → (o + i ≡ crossing t v) × (i + o ≡ crossing t w)
unfolding crossing
same_count numbers = (refl, refl)
same_count (lumps h) = (refl, refl)
same_count nils = (refl, refl)
same_count (conses a b) = let x = same_count a in let y = same_count b in (omega (arith, x.0, y.0), omega (arith, x.1, y.1))

type_bounded : (t : Ty) → suc (size_ty t) ≤ boundaries t
unfolding size_ty boundaries
type_bounded N = omega arith
type_bounded (L o) = omega arith
type_bounded (list t) = omega arith
type_bounded (t to u) = omega arith

-- Into ML, and out of it.
arrive : {i o : ℕ} {t : Ty} {v : Term ml} {w : Term sc} → Same i o t v w → Within (boundaries t + size v) i (ms t w) v
unfolding size size_ty boundaries
arrive numbers = once (rule ms_number) (omega arith)
arrive (lumps h) = still
arrive nils = once (rule ms_nil) (omega arith)
arrive (conses {t} {i} {j} {v = v} {w = w} {w'} a b) =
    let x = same_values a in
    let y = same_values b in
    let rest = ms (list t) w' in
    on {f = cons (ms t w) rest} (rule (ms_cons x.1 y.1)) (omega (arith, type_bounded t, same_size a, same_size b))
    (join (i + j) refl
    (inside (λ (e : Term ml). cons e rest) (suc (size rest)) (step_in_first CONS) (λ e. omega arith) (omega (arith, same_size b)) (arrive a))
    (inside (λ (e : Term ml). cons v e) (suc (size v)) (step_in_second CONS x.0) (λ e. omega arith) (omega arith) (arrive b)))

leave : {i o : ℕ} {t : Ty} {v : Term ml} {w : Term sc} → Same i o t v w → Within (boundaries t + size v) o (sm t v) w
unfolding size size_ty boundaries
leave numbers = once (rule sm_number) (omega arith)
leave (lumps h) = once (rule (sm_lump h)) (omega arith)
leave nils = once (rule sm_nil) (omega arith)
leave (conses {t} {o = o} {p} {v} {v'} {w} a b) =
    let x = same_values a in
    let y = same_values b in
    let rest = sm (list t) v' in
    on {f = cons (sm t v) rest} (rule (sm_cons x.0 y.0)) (omega (arith, type_bounded t))
    (join (o + p) refl
    (inside (λ (e : Term sc). cons e rest) (suc (size rest)) (step_in_first CONS) (λ e. omega arith) (omega arith) (leave a))
    (inside (λ (e : Term sc). cons w e) (suc (size w)) (step_in_second CONS x.1) (λ e. omega arith) (omega (arith, same_size a)) (leave b)))

-- There and back.
ml_within : {i o : ℕ} {t : Ty} {v : Term ml} {w : Term sc} → Same i o t v w
    → Within (suc (size_ty t) + boundaries t + size v) (crossing t v) (ms t (sm t v)) v
unfolding size
ml_within {t = t} {v} s =
    join (crossing t v) (same_count s).0 (inside (ms t) (suc (size_ty t)) (into_ml_lem t) (λ e. omega arith) (omega arith) (leave s))
    (wider (omega arith) (arrive s))

scheme_within : {i o : ℕ} {t : Ty} {v : Term ml} {w : Term sc} → Same i o t v w
    → Within (suc (size_ty t) + boundaries t + size v) (crossing t w) (sm t (ms t w)) w
unfolding size
scheme_within {t = t} {w = w} s =
    join (crossing t w) (same_count s).1 (inside (sm t) (suc (size_ty t)) (into_scheme_lem t) (λ e. omega arith) (omega arith) (arrive s))
    (wider (omega arith) (leave s))

-- Every ML value of a type of data is the same datum as a Scheme value, and every Scheme value that fits is the same as an ML value.
abbrev Some : Ty → Term ml → Type 0
Some t v = (i : ℕ) × (o : ℕ) × (w : Term sc) × Same i o t v w

ml_same : (t : Ty) {v : Term ml} → Data t → Value ml v → Typed [] v t → Some t v
ml_same t d lam_v h = absurd (rw h.2 at d)
ml_same t d num_v h = rw h (1, 1, _, numbers)
ml_same t d nil_v h = rw h (1, 1, _, nils)
ml_same t {v} d (cons_v a b) h =
    let u = h.0 in
    let q : t ≡ list u = h.4.1 in
    let p : h.1 ≡ list u = h.4.0 in
    let e : Data u = rw q at d in
    let x = ml_same u e a h.2 in
    let y = ml_same (list u) e b (rw p at h.3) in
    subst (λ (s : Ty). Some s v) (sym q) (_, _, _, conses x.3 y.3)
ml_same t d (lump_v a) h = rw h.1 (0, 1, _, lumps a)

scheme_same : {t : Ty} {w : Term sc} → Data t → Fits t w → (i : ℕ) × (o : ℕ) × (v : Term ml) × Same i o t v w
scheme_same d number = (1, 1, _, numbers)
scheme_same d (anything h) = (0, 1, _, lumps h)
scheme_same d fits_nil = (1, 1, _, nils)
scheme_same d (fits_cons a b) = let x = scheme_same d a in let y = scheme_same d b in (_, _, _, conses x.3 y.3)
scheme_same d function = absurd d

-- Data survives.
survives : (t : Ty) → Data t → Survives t
survives t d =
    record {
      ml_back = λ v h k. within_steps (ml_within (ml_same t d h k).3);
      ml_run = λ v h k limit cap n c.
          let p = wider c (ml_within (ml_same t d h k).3) in
          subst (λ (m : Counts). Ends limit cap (ms t (sm t v)) (ended valued 0 m (words v) 0)) (converts (within_steps p) (value_converting h))
          (by_value (within_steps p) (within_capacity p) n h);
      scheme_back = λ v k. within_steps (scheme_within (scheme_same d k).3);
    }

-- What becomes of a Scheme value on its way into ML, by the code of its first misfit.
abbrev Conversion : Ty → Term sc → Option ℕ → Type 0
Conversion t v none = Fits t v × Reaches (ms t v) (Value ml)
Conversion t v (some c) = Reaches (ms t v) (Raises c)

module _ (t : Ty) {v w : Term sc} (a : Value sc v) (b : Value sc w) where
  -- Once the head has arrived, it is the tail's turn.
  past_head : {P : Term ml → Type 0} → Reaches (ms t v) (Value ml) → ((r : Term ml) → Value ml r → Reaches (cons r (ms (list t) w)) P)
      → Reaches (ms (list t) (cons v w)) P
  past_head {P} x k =
      after_rule (ms_cons a b) (onward (λ (e : Term ml). cons e (ms (list t) w)) (step_in_first CONS) {Q = P} x.2 (k x.1 x.3))

  cons_conversion : (c d : Option ℕ) → Conversion t v c → Conversion (list t) w d → Conversion (list t) (cons v w) (first c d)
  cons_conversion none none x y = (
    fits_cons x.0 y.0,
    past_head x.1 (λ r h. onward (λ (e : Term ml). cons r e) (step_in_second CONS h) {Q = Value ml} y.1.2 (0, _, stay, cons_v h y.1.3)),
  )
  cons_conversion none (some d) x y =
      past_head x.1
      (λ r h. onward (λ (e : Term ml). cons r e) (step_in_second CONS h) {Q = Raises d} y.2 (0, _, stay, raises_in_second CONS h y.3))
  cons_conversion (some c) d x y =
      after_rule (ms_cons a b)
      (onward (λ (e : Term ml). cons e (ms (list t) w)) (step_in_first CONS) {Q = Raises c} x.2 (0, _, stay, raises_in_first CONS x.3))

no_number : (v : Term sc) → Value sc v → ¬ Number v → Conversion N v (some 1)
no_number v h ne = reached (wrong 1 N) (ms_no_number h ne) (raises N)

no_list : (t : Ty) (v : Term sc) → Value sc v → ¬ Nil v → ¬ Cons v → Conversion (list t) v (some 3)
no_list t v h nn nc = reached (wrong 3 (list t)) (ms_no_list h nn nc) (raises (list t))

no_lambda : (t u : Ty) (v : Term sc) → Value sc v → ¬ Lambda v → Conversion (t to u) v (some 2)
no_lambda t u v h ne = reached (wrong 2 (t to u)) (ms_no_lambda h ne) (raises (t to u))

conversion : (t : Ty) {v : Term sc} (h : Value sc v) → Conversion t v (misfit t h)
unfolding misfit form
conversion N {v} lam_v = no_number v lam_v (λ h. omega (arith, ap mark h.1))
conversion N num_v = (number, reached _ ms_number num_v)
conversion N {v} nil_v = no_number v nil_v (λ h. omega (arith, ap mark h.1))
conversion N {v} (cons_v a b) = no_number v (cons_v a b) (λ h. omega (arith, ap mark h.1))
conversion (L o) h = (anything h, (0, _, stay, lump_v h))
conversion (list t) {v} lam_v = no_list t v lam_v (λ h. omega (arith, ap mark h.1)) (λ h. omega (arith, ap mark h.2))
conversion (list t) {v} num_v = no_list t v num_v (λ h. omega (arith, ap mark h.1)) (λ h. omega (arith, ap mark h.2))
conversion (list t) nil_v = (fits_nil, reached _ ms_nil nil_v)
conversion (list t) (cons_v a b) = cons_conversion t a b (misfit t a) (misfit (list t) b) (conversion t a) (conversion (list t) b)
conversion (t to u) lam_v = (function, reached _ ms_lambda lam_v)
conversion (t to u) {v} num_v = no_lambda t u v num_v (λ h. omega (arith, ap mark h.2))
conversion (t to u) {v} nil_v = no_lambda t u v nil_v (λ h. omega (arith, ap mark h.2))
conversion (t to u) {v} (cons_v a b) = no_lambda t u v (cons_v a b) (λ h. omega (arith, ap mark h.2))

fits_value : {t : Ty} {v : Term sc} → Fits t v → Value sc v
fits_value number = num_v
fits_value (anything h) = h
fits_value fits_nil = nil_v
fits_value (fits_cons a b) = cons_v (fits_value a) (fits_value b)
fits_value function = lam_v

-- What fits arrives.
fits_arrives : {t : Ty} {v : Term sc} → Fits t v → Reaches (ms t v) (Value ml)
fits_arrives number = reached _ ms_number num_v
fits_arrives (anything h) = (0, _, stay, lump_v h)
fits_arrives fits_nil = reached _ ms_nil nil_v
fits_arrives (fits_cons {t} a b) = (cons_conversion t (fits_value a) (fits_value b) none none (a, fits_arrives a) (b, fits_arrives b)).1
fits_arrives function = reached _ ms_lambda lam_v

first_code : (P : ℕ → Type 0) (x y : Option ℕ) (c : ℕ) → (x ≡ some c → P c) → (y ≡ some c → P c) → first x y ≡ some c → P c
first_code P none y c h k q = k q
first_code P (some d) y c h k q = h q

data_codes : (t : Ty) {v : Term sc} (h : Value sc v) (c : ℕ) → Data t → misfit t h ≡ some c → (c ≡ 1) ⊎ (c ≡ 3)
unfolding misfit
data_codes N lam_v c d q = inl (cc)
data_codes N num_v c d q = inl (cc)
data_codes N nil_v c d q = inl (cc)
data_codes N (cons_v a b) c d q = inl (cc)
data_codes (L o) h c d q = inl (cc)
data_codes (list t) lam_v c d q = inr (cc)
data_codes (list t) num_v c d q = inr (cc)
data_codes (list t) nil_v c d q = inr (cc)
data_codes (list t) (cons_v a b) c d q =
    first_code (λ (x : ℕ). (x ≡ 1) ⊎ (x ≡ 3)) (misfit t a) (misfit (list t) b) c (λ p. data_codes t a c d p)
    (λ p. data_codes (list t) b c d p) q
data_codes (t to u) h c d q = absurd d

module _ (t : Ty) {v : Term sc} (h : Value sc v) (k : Typed [] v tt) where
  own_typed : Typed [] (ms t v) t
  own_typed = (k, refl)

  -- The three facts, by the code that is computed.
  decided : (x : Option ℕ) → Conversion t v x → (Fits t v ↔ (x ≡ none)) × (Fits t v ↔ Reaches (ms t v) (Value ml))
      × ((c : ℕ) → (x ≡ some c) ↔ Reaches (ms t v) (Raises c))
  decided none y = (
    (λ f. refl, λ q. y.0),
    (fits_arrives, λ z. y.0),
    λ c. (λ q. let z : ◌≡◌ {A = ℕ} 0 1 = cc in absurd (omega arith), λ z. absurd (value_or_error t own_typed y.1 z)),
  )
  decided (some d) y = (
    (λ f. absurd (value_or_error t own_typed (fits_arrives f) y), λ q. let z : ◌≡◌ {A = ℕ} 0 1 = cc in absurd (omega arith)),
    (fits_arrives, λ z. absurd (value_or_error t own_typed z y)),
    λ c. (λ q. let z : d ≡ c = cc in rw z at y, λ z. ap some (error_once t own_typed y z)),
  )

-- Every well-formed Scheme value arrives exactly if it fits, and else raises the code of its first misfit.
crosses : (t : Ty) {v : Term sc} (h : Value sc v) → Typed [] v tt → Crosses t h
crosses t h k =
    let x = decided t h k (misfit t h) (conversion t h) in
    record {
      arrives = x.1;
      fails = x.2;
      error_run = λ c q. fails_run _ c (value_converting h) ((x.2 c).0 q);
      fits = x.0;
      alone = λ n r p. converts p (value_converting h);
      codes = data_codes t h;
    }

-- An ML value of any type arrives in Scheme, and fits.
abbrev Arrival : Term ml → Ty → Type 0
Arrival v t = Reaches (sm t v) (Fits t)

departs : (t : Ty) {v : Term ml} → Value ml v → Typed [] v t → Arrival v t
departs t {v} lam_v h = subst (Arrival v) (sym h.2) (reached _ sm_lambda function)
departs t {v} num_v h = subst (Arrival v) (sym h) (reached _ sm_number number)
departs t {v} nil_v h = subst (Arrival v) (sym h) (reached _ sm_nil fits_nil)
departs t {v} (cons_v {w = w} a b) h =
    let u = h.0 in
    let q : t ≡ list u = h.4.1 in
    let p : h.1 ≡ list u = h.4.0 in
    let x = departs u a h.2 in
    let y = departs (list u) b (rw p at h.3) in
    let last : Reaches (cons x.1 y.1) (Fits (list u)) = (0, _, stay, fits_cons x.3 y.3) in
    let tail = onward (λ (e : Term sc). cons x.1 e) (step_in_second CONS (fits_value x.3)) {Q = Fits (list u)} y.2 last in
    subst (Arrival v) (sym q)
    (after_rule (sm_cons a b) (onward (λ (e : Term sc). cons e (sm (list u) w)) (step_in_first CONS) {Q = Fits (list u)} x.2 tail))
departs t {v} (lump_v a) h = subst (Arrival v) (sym h.1) (reached _ (sm_lump a) (anything a))

returned : (t : Ty) {v : Term ml} → Value ml v → Typed [] v t → Reaches (ms t (sm t v)) (Value ml)
returned t h k = let x = departs t h k in onward (ms t) (into_ml_lem t) {Q = Value ml} x.2 (fits_arrives x.3)

leaves : (t : Ty) (v : Term ml) → Value ml v → Typed [] v t → Leaves t v
leaves t v h k = record { leaves = departs t h k; returns = returned t h k; alone = λ n r p. converts p (value_converting h) }

-- Seals.
seals : (o : ℕ) (v : Term sc) → Value sc v → Typed [] v tt → Seals o v
seals o v h k =
    let w = lump_v h in
    record {
      sealed = w;
      closed = λ r a. value_no_step (typed_scoped [] (ms (L o) v) (L o) (k, refl)) w a;
      unsealed = then (rule (sm_lump h)) stay;
    }

-- A Scheme lambda becomes a value in one step, so that no error is ever reached.
lambda_raises_nothing : (t u : Ty) (b : Term sc) → Typed [] (lam tt b) tt → (n c : ℕ) (r : Term ml)
    → Steps n (ms (t to u) (lam tt b)) r → ¬ Raises c r
lambda_raises_nothing t u b k n c r p a =
    value_or_error (t to u) {e = ms (t to u) (lam tt b)} (k, refl) (reached _ ms_lambda lam_v) (n, r, p, a)

wraps : (t u : Ty) (b : Term sc) → Typed [] (lam tt b) tt → Wraps t u b
wraps t u b k = record { wrapped = then (rule ms_lambda) stay; raises_nothing = lambda_raises_nothing t u b k }

-- fn nil, called as an N to N.
late_error : (n : ℕ) → Steps 5 (app (ms (N to N) (lam tt (nil tt))) (num n)) (wrong 1 N)
unfolding shift ordinary form
late_error n =
    let f : Term sc = lam tt (nil tt) in
    then (step_in_first APP (ms (N to N) f) (lam N (ms N (app f (sm N (var 0))))) (rule ms_lambda))
    (then {f = ms N (app f (sm N (num n)))} (rule (app_lambda num_v))
    (then (into_ml_lem N (app f (sm N (num n))) (app f (num n)) (step_in_second APP lam_v (sm N (num n)) (num n) (rule sm_number)))
    (then (into_ml_lem N (app f (num n)) (nil tt) (rule (app_lambda num_v)))
    (then (rule (ms_no_number nil_v (λ h. omega (arith, ap mark h.1)))) stay))))

-- An ML lambda comes back in two wrappers, and has fewer words than those.
no_lambda_back : (t u : Ty) (b : Term ml) → Typed [] (lam t b) (t to u) → (n : ℕ) → ¬ Steps n (ms (t to u) (sm (t to u) (lam t b))) (lam t b)
unfolding size
no_lambda_back t u b k n p =
    let e = ms (t to u) (sm (t to u) (lam t b)) in
    let h : Typed [] e (t to u) = (k, refl) in
    let g : Term sc = sm u (app (shift 1 0 (lam t b)) (ms t (var 0))) in
    let q : Steps 2 e (wrapper t u g) = then (into_ml_lem (t to u) (sm (t to u) (lam t b)) (lam tt g) (rule sm_lambda))
    (then (rule ms_lambda) stay) in
    let same = one_end (t to u) h p (value_end (t to u) h p lam_v) q (value_end (t to u) h q lam_v) in
    omega (arith, ap size same, size_shift 1 0 (lam {l = sc} tt g), size_shift 1 0 (lam t b))

-- Of equal conses the heads are equal.
same_head : {a b v w : Term ml} → cons a b ≡ cons v w → a ≡ v
unfolding contract1 form on_list
same_head {a} {b} {v} {w} q = cc (let z : becomes a ≡ becomes v = ap (contract1 HD) q in z)

abbrev Back : Ty → Term ml → Term ml → Type 0
Back t r e = e ≡ cons r (nil t)

-- A list of one element comes back as the list of what the element comes back as.
module _ (t : Ty) {v r : Term ml} {w : Term sc} (h : Value ml v) (f : Fits t w) (x : Value ml r) where
  list_in : {j : ℕ} → Steps j (ms t w) r → Reaches (ms (list t) (cons w (nil tt))) (Back t r)
  list_in p =
      after_rule (ms_cons (fits_value f) nil_v)
      (onward (λ (e : Term ml). cons e (ms (list t) (nil tt))) (step_in_first CONS) {Q = Back t r} p
      (onward (λ (e : Term ml). cons r e) (step_in_second CONS x) {Q = Back t r} (then (rule ms_nil) stay) (0, _, stay, refl)))

  list_out : {i j : ℕ} → Steps i (sm t v) w → Steps j (ms t w) r → Reaches (ms (list t) (sm (list t) (cons v (nil t)))) (Back t r)
  list_out q p =
      let s = list t in
      let rest = sm s (nil t) in
      onward (ms s) (into_ml_lem s) {Q = Back t r} {r = cons (sm t v) rest} (then (rule (sm_cons h nil_v)) stay)
      (onward (λ (e : Term sc). ms s (cons e rest)) (λ a b z. into_ml_lem s (cons a rest) (cons b rest) (step_in_first CONS a b z)) {Q = Back t r} q
      (onward (λ (e : Term sc). ms s (cons w e)) (λ a b z. into_ml_lem s (cons w a) (cons w b) (step_in_second CONS (fits_value f) a b z)) {Q =
      Back t r}
      (then (rule sm_nil) stay) (list_in p)))

-- So a list of one element comes back as it was only if the element does.
list_back : (t : Ty) (v : Term ml) → Value ml v → Typed [] v t → (n : ℕ)
    → Steps n (ms (list t) (sm (list t) (cons v (nil t)))) (cons v (nil t))
    → (m : ℕ) × Steps m (ms t (sm t v)) v
list_back t v h k n p =
    let x = departs t h k in
    let y = fits_arrives x.3 in
    let e = ms (list t) (sm (list t) (cons v (nil t))) in
    let all = list_out t h x.3 y.3 x.2 y.2 in
    let own : Typed {l = ml} [] e (list t) = ((t, list t, k, refl, (refl, refl)), refl) in
    let done : Steps all.0 e (cons y.1 (nil t)) = subst (Steps all.0 e) all.3 all.2 in
    let q = one_end (list t) own done (value_end (list t) own done (cons_v y.3 nil_v)) p (value_end (list t) own p (cons_v h nil_v)) in
    let z = onward (ms t) (into_ml_lem t) {Q = λ (r : Term ml). r ≡ y.1} x.2 (y.0, _, y.2, refl) in
    (z.0, subst (Steps z.0 (ms t (sm t v))) (z.3 ∙ same_head q) z.2)

-- A type whose values all come back as they were is one of data.
back_data : (t : Ty) → ((v : Term ml) → Value ml v → Typed [] v t → (n : ℕ) × Steps n (ms t (sm t v)) v) → Data t
back_data N h = tt
back_data (L o) h = tt
back_data (list t) h =
    back_data t (λ v x k. let y = h (cons v (nil t)) (cons_v x nil_v) (t, list t, k, refl, (refl, refl)) in list_back t v x k y.0 y.1)
back_data (t to u) h =
    let k : Typed {l = ml} [] (lam t (wrong 1 u)) (t to u) = (u, refl, refl) in
    let x = h (lam t (wrong 1 u)) lam_v k in
    no_lambda_back t u (wrong 1 u) k x.0 x.1

-- Functions are not data.
functions : Functions
functions =
    record { late = late_error; changed = no_lambda_back; exactly = λ t. (λ d v h k. (crossing t v, (survives t d).ml_back v h k), back_data t) }

pub conversions : Conversions
conversions = record { survives = survives; crosses = crosses; leaves = leaves; seals = seals; wraps = wraps; functions = functions }
