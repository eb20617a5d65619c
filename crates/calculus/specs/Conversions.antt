-- What every recipe assumes of the boundaries: data survives them, and a conversion fails exactly where a part does not fit, with the code of the
-- first. All of it is of the published reduction; proofs/Conversions.antt proves it.
use Rattle.std.specs.Prelude.{ℕ, suc, ◌+◌, ◌≤◌, ◌<◌, [], ◌↔◌, ◌⊎◌, ◌≡◌}
use Rattle.std.proofs.Math.Option.{Option, none, some}
use Rattle.calculus.specs.Trees.{Ty, N, L, list, ◌to◌, Lang, ml, sc, Term, var, num, lam, op1, op2, if0, nil, wrong, ms, sm, app, cons}
use Rattle.calculus.specs.Words.{words, size, size_ty}
use Rattle.calculus.specs.Typing.{Typed}
use Rattle.calculus.specs.Substitution.{shift}
use Rattle.calculus.specs.Rules.{Value, lam_v, num_v, nil_v, cons_v, ◌⟶◌, Steps, Raises}
use Rattle.calculus.specs.Classes.{other}
use Rattle.calculus.specs.Run.{valued, error, Counts, counted, ended}
use Rattle.calculus.specs.Counting.{counts}
use Rattle.calculus.specs.Endings.{Ends}

-- A type of data has no function type in it; what a lump seals may be any Scheme value.
abbrev pub Data : Ty → Type 0
Data N = Unit {0}
Data (L o) = Unit {0}
Data (list t) = Data t
Data (t to u) = ⊥

-- A Scheme value fits a type: a number N; every value an owner's L; nil, and cons of what fits t and what fits {t}, {t}; a lambda t to u.
pub data Fits : Ty → Term sc → Type 0 where
  number : {n : ℕ} → Fits N (num n)
  anything : {o : ℕ} {v : Term sc} → Value sc v → Fits (L o) v
  fits_nil : {t : Ty} → Fits (list t) (nil tt)
  fits_cons : {t : Ty} {v w : Term sc} → Fits t v → Fits (list t) w → Fits (list t) (cons v w)
  function : {t u : Ty} {b : Term sc} → Fits (t to u) (lam tt b)

-- The first code of two.
abbrev pub first : Option ℕ → Option ℕ → Option ℕ
first none d = d
first (some c) d = some c

-- The code of a value's first part, from left to right, that does not fit: 1 where a number was due, 2 where a function, 3 where a list.
unfoldable pub misfit : Ty → {v : Term sc} → Value sc v → Option ℕ
misfit N lam_v = some 1
misfit N num_v = none
misfit N nil_v = some 1
misfit N (cons_v a b) = some 1
misfit (L o) h = none
misfit (list t) lam_v = some 3
misfit (list t) num_v = some 3
misfit (list t) nil_v = none
misfit (list t) (cons_v a b) = first (misfit t a) (misfit (list t) b)
misfit (t to u) lam_v = none
misfit (t to u) num_v = some 2
misfit (t to u) nil_v = some 2
misfit (t to u) (cons_v a b) = some 2

-- The steps of a value's way there and back at a type: one at L, and two for each number, nil and cons.
unfoldable pub crossing : {l : Lang} → Ty → Term l → ℕ
crossing N v = 2
crossing (L o) v = 1
crossing (list t) (var i) = 2
crossing (list t) (num n) = 2
crossing (list t) (lam s b) = 2
crossing (list t) (op1 o a) = 2
crossing (list t) (op2 o a b) = 2 + crossing t a + crossing (list t) b
crossing (list t) (if0 a b c) = 2
crossing (list t) (nil s) = 2
crossing (list t) (wrong c s) = 2
crossing (list t) (ms s a) = 2
crossing (list t) (sm s a) = 2
crossing (t to u) v = 2

-- The most words that boundaries take in a term while a value crosses: its own, and one at the tail of each list around the part that crosses.
unfoldable pub boundaries : Ty → ℕ
boundaries N = 2
boundaries (L o) = 2
boundaries (list t) = suc (size_ty (list t)) + boundaries t
boundaries (t to u) = suc (size_ty (t to u))

-- Steps that are conversions, all of them.
abbrev pub all_conversions : ℕ → Counts
all_conversions n = record { steps = n; calls = 0; conversions = n; others = 0 }

-- Some number of steps lead from the term to one that P holds of.
abbrev pub Reaches : {l : Lang} → Term l → (Term l → Type 0) → Type 0
Reaches {l} e P = (n : ℕ) × (r : Term l) × Steps n e r × P r

-- Data survives, at every type of data.
pub record Survives (t : Ty) : Type 0 where
  -- an ML value goes to Scheme and comes back
  pub ml_back : (v : Term ml) → Value ml v → Typed [] v t → Steps (crossing t v) (ms t (sm t v)) v
  -- and so does every run that is lent the steps and the words, by conversions alone
  pub ml_run : (v : Term ml) → Value ml v → Typed [] v t → (limit cap : ℕ) → crossing t v ≤ limit
      → suc (size_ty t) + boundaries t + size v ≤ cap
      → Ends limit cap (ms t (sm t v)) (ended valued 0 (all_conversions (crossing t v)) (words v) 0)
  -- a Scheme value that fits goes to ML and comes back
  pub scheme_back : (v : Term sc) → Fits t v → Steps (crossing t v) (sm t (ms t v)) v

-- What becomes of a Scheme value on its way into ML, at every type.
pub record Crosses (t : Ty) {v : Term sc} (h : Value sc v) : Type 0 where
  -- it arrives exactly if it fits
  pub arrives : Fits t v ↔ Reaches (ms t v) (Value ml)
  -- an error is raised exactly if a part does not fit, with the first one's code
  pub fails : (c : ℕ) → (misfit t h ≡ some c) ↔ Reaches (ms t v) (Raises c)
  -- and every run that is lent enough steps and words ends so, by conversions and the error's own step
  pub error_run : (c : ℕ) → misfit t h ≡ some c
      → (n : ℕ) × (room : ℕ)
      × ((limit cap : ℕ) → n < limit → room ≤ cap → Ends limit cap (ms t v) (ended error c (counted other (all_conversions n)) [] 0))
  -- there is no third way
  pub fits : Fits t v ↔ (misfit t h ≡ none)
  -- all its steps are conversions, whatever comes of it
  pub alone : (n : ℕ) (r : Term ml) (p : Steps n (ms t v) r) → counts p ≡ all_conversions n
  -- the codes at a type of data
  pub codes : (c : ℕ) → Data t → misfit t h ≡ some c → (c ≡ 1) ⊎ (c ≡ 3)

-- What becomes of an ML value on its way into Scheme, at every type: it arrives and fits, so that it can always come back as a value.
pub record Leaves (t : Ty) (v : Term ml) : Type 0 where
  pub leaves : Reaches (sm t v) (Fits t)
  pub returns : Reaches (ms t (sm t v)) (Value ml)
  -- all steps there and back are conversions
  pub alone : (n : ℕ) (r : Term ml) (p : Steps n (ms t (sm t v)) r) → counts p ≡ all_conversions n

-- A Scheme value under an owner's seal is an ML value as it stands, whatever it is. No step of ML opens it; one step in Scheme takes the seal off.
pub record Seals (o : ℕ) (v : Term sc) : Type 0 where
  pub sealed : Value ml (ms (L o) v)
  pub closed : (r : Term ml) → ¬ (ms (L o) v ⟶ r)
  pub unsealed : Steps 1 (sm (L o) (ms (L o) v)) v

-- The ML lambda that a Scheme lambda becomes.
abbrev pub wrapper : Ty → Ty → Term sc → Term ml
wrapper t u b = lam t (ms u (app (shift 1 0 (lam tt b)) (sm t (var 0))))

-- A Scheme lambda arrives at every function type, whatever its body does.
pub record Wraps (t u : Ty) (b : Term sc) : Type 0 where
  pub wrapped : Steps 1 (ms (t to u) (lam tt b)) (wrapper t u b)
  pub raises_nothing : (n c : ℕ) (r : Term ml) → Steps n (ms (t to u) (lam tt b)) r → ¬ Raises c r

-- Why functions are not data: fn nil arrives at N to N, and the error shows when it is called; no ML lambda comes back as it was; and so the
-- types of data are exactly those whose values all come back as they were.
pub record Functions : Type 0 where
  pub late : (n : ℕ) → Steps 5 (app (ms (N to N) (lam tt (nil tt))) (num n)) (wrong 1 N)
  pub changed : (t u : Ty) (b : Term ml) → Typed [] (lam t b) (t to u) → (n : ℕ) → ¬ Steps n (ms (t to u) (sm (t to u) (lam t b))) (lam t b)
  pub exactly : (t : Ty) → Data t ↔ ((v : Term ml) → Value ml v → Typed [] v t → (n : ℕ) × Steps n (ms t (sm t v)) v)

-- All of it: of every type, and of every value that is well formed.
pub record Conversions : Type 0 where
  pub survives : (t : Ty) → Data t → Survives t
  pub crosses : (t : Ty) {v : Term sc} (h : Value sc v) → Typed [] v tt → Crosses t h
  pub leaves : (t : Ty) (v : Term ml) → Value ml v → Typed [] v t → Leaves t v
  pub seals : (o : ℕ) (v : Term sc) → Value sc v → Typed [] v tt → Seals o v
  pub wraps : (t u : Ty) (b : Term sc) → Typed [] (lam tt b) tt → Wraps t u b
  pub functions : Functions
