-- Laws of the published steps: in a node around, one after the other, and that a term which has a type comes to one end. Assumes nothing.
use Prim.Native.Nat.{ℕ, zero, suc, ◌+◌, ◌≤◌, ◌<◌}
use mathlib.Core.List.{[]}
use mathlib.Core.Path.{◌≡◌, refl, subst}
use native.Mathlib.Omega.{arith}
use Rattle.calculus.specs.Trees.{Ty, Lang, ml, sc, Static, Op2, Term, op2, wrong, ms, sm}
use Rattle.calculus.specs.Words.{size}
use Rattle.calculus.specs.Typing.{Typed}
use Rattle.calculus.specs.Rules.{Value, ◌⊢◌⇒◌, hole, in_first, in_second, in_ms, in_sm, around, ◌⟶◌, by_rule, Steps, stay, then, Raises}
use Rattle.calculus.specs.Rules.{by_wrong}
use Rattle.calculus.specs.Classes.{other}
use Rattle.calculus.specs.Run.{error, Counts, counted, ended}
use Rattle.calculus.specs.Endings.{InCapacity, Ends, by_error}
use Rattle.calculus.specs.Demands.{Reducible}
use Rattle.calculus.specs.Conversions.{all_conversions, Reaches}
use Rattle.calculus.proofs.Typing.{typed_scoped}
use Rattle.calculus.proofs.Agreement.{deterministic, one_code, value_no_step, value_no_error, error_no_step}
use Rattle.calculus.proofs.Converting.{Converting, converts}
use Rattle.calculus.proofs.Demands.{typed_safe}

-- Steps within a capacity, of either language.
pub data Within {l : Lang} (cap : ℕ) : ℕ → Term l → Term l → Type 0 where
  still : {e : Term l} → Within cap 0 e e
  on : {n : ℕ} {e f r : Term l} → e ⟶ f → size f ≤ cap → Within cap n f r → Within cap (suc n) e r

abbrev pub within_steps : {l : Lang} {cap n : ℕ} {e r : Term l} → Within cap n e r → Steps n e r
within_steps still = stay
within_steps (on a c p) = then a (within_steps p)

pub within_capacity : {cap n : ℕ} {e r : Term ml} (p : Within cap n e r) → InCapacity cap (within_steps p)
within_capacity still = tt
within_capacity (on a c p) = (c, within_capacity p)

pub once : {l : Lang} {cap : ℕ} {e r : Term l} → e ⟶ r → size r ≤ cap → Within cap 1 e r
once a c = on a c still

-- One after the other, and in a larger capacity.
pub join : {l : Lang} {cap n m : ℕ} (k : ℕ) {e f r : Term l} → n + m ≡ k → Within cap n e f → Within cap m f r → Within cap k e r
join {cap = cap} {m = m} k {r = r} q (still {e}) p = let z : m ≡ k = omega (arith, q) in subst (λ (x : ℕ). Within cap x e r) z p
join zero q (on a c s) p = absurd (omega (arith, q))
join (suc k) q (on a c s) p = on a c (join k (omega (arith, q)) s p)

pub wider : {l : Lang} {cap cap' n : ℕ} {e r : Term l} → cap ≤ cap' → Within cap n e r → Within cap' n e r
wider c still = still
wider c (on a d p) = on a (omega (arith, c, d)) (wider c p)

-- In a node around, of which k words are not the part's.
module _ {m l : Lang} (F : Term m → Term l) (k : ℕ) (go : (x y : Term m) → x ⟶ y → F x ⟶ F y)
    (fit : (x : Term m) → size (F x) ≡ k + size x) where
  pub inside : {cap cap' n : ℕ} {e r : Term m} → k + cap ≤ cap' → Within cap n e r → Within cap' n (F e) (F r)
  inside c still = still
  inside c (on {e = e} {f} a d p) = on (go e f a) (omega (arith, c, d, fit f)) (inside c p)

-- A step of a part is one of the node around, where evaluation goes.
pub step_in_first : {l : Lang} {b : Term l} (o : Op2) (x y : Term l) → x ⟶ y → op2 o x b ⟶ op2 o y b
unfolding around
step_in_first {b = b} o x y (by_rule E h) = by_rule (in_first o E b) h

pub step_in_second : {l : Lang} {a : Term l} (o : Op2) → Value l a → (x y : Term l) → x ⟶ y → op2 o a x ⟶ op2 o a y
unfolding around
step_in_second {a = a} o v x y (by_rule E h) = by_rule (in_second o a v E) h

pub into_ml_lem : (t : Ty) (x y : Term sc) → x ⟶ y → ms t x ⟶ ms t y
unfolding around
into_ml_lem t x y (by_rule E h) = by_rule (in_ms t E) h

pub into_scheme_lem : (t : Ty) (x y : Term ml) → x ⟶ y → sm t x ⟶ sm t y
unfolding around
into_scheme_lem t x y (by_rule E h) = by_rule (in_sm t E) h

-- A rule is a step.
pub rule : {l : Lang} {e r : Term l} → l ⊢ e ⇒ r → e ⟶ r
unfolding around
rule h = by_rule hole h

-- What a term in a node around comes to, the node comes to.
module _ {m l : Lang} (F : Term m → Term l) (go : (x y : Term m) → x ⟶ y → F x ⟶ F y) {Q : Term l → Type 0} where
  pub onward : {n : ℕ} {e r : Term m} → Steps n e r → Reaches (F r) Q → Reaches (F e) Q
  onward stay k = k
  onward (then {e = e} {f} a p) k = let x = onward p k in (suc x.0, x.1, then (go e f a) x.2, x.3)

pub reached : {l : Lang} {e : Term l} (r : Term l) {P : Term l → Type 0} → l ⊢ e ⇒ r → P r → Reaches e P
reached r h p = (1, r, then (rule h) stay, p)

-- A wrong is a raised error, and so is a node of two parts whose first raises one, or whose second does behind a value.
pub raises : {c : ℕ} (t : Ty) → Raises {l = ml} c (wrong c t)
unfolding around
raises t = by_wrong hole t

pub raises_in_first : {l : Lang} {c : ℕ} {e b : Term l} (o : Op2) → Raises c e → Raises c (op2 o e b)
unfolding around
raises_in_first {b = b} o (by_wrong E t) = by_wrong (in_first o E b) t

pub raises_in_second : {l : Lang} {c : ℕ} {a e : Term l} (o : Op2) → Value l a → Raises c e → Raises c (op2 o a e)
unfolding around
raises_in_second {a = a} o v (by_wrong E t) = by_wrong (in_second o a v E) t

pub after_rule : {l : Lang} {e f : Term l} {P : Term l → Type 0} → l ⊢ e ⇒ f → Reaches f P → Reaches e P
after_rule h x = (suc x.0, x.1, then (rule h) x.2, x.3)

-- A term that has a type comes to at most one value or raised error.
module _ {l : Lang} (τ : Static l) where
  pub one_end : {n m : ℕ} {e r s : Term l} → Typed [] e τ → Steps n e r → ¬ Reducible r → Steps m e s → ¬ Reducible s → r ≡ s
  one_end h stay x stay y = refl
  one_end h stay x (then b q) y = absurd (x (_, b))
  one_end h (then a p) x stay y = absurd (y (_, a))
  one_end {e = e} {r} {s} h (then {f = f} a p) x (then {n = k} {f = g} b q) y =
      let z = typed_safe e τ h in
      let i = deterministic (typed_scoped [] e τ h) b a in
      one_end (z.reached 1 f (then a stay)).typed p x (subst (λ (d : Term l). Steps k d s) i q) y

  pub value_end : {n : ℕ} {e r : Term l} → Typed [] e τ → Steps n e r → Value l r → ¬ Reducible r
  value_end {n} {e} {r} h p v x = value_no_step ((typed_safe e τ h).reached n r p).scoped v x.1

  pub error_end : {n c : ℕ} {e r : Term l} → Typed [] e τ → Steps n e r → Raises c r → ¬ Reducible r
  error_end {n} {e = e} {r} h p a x = error_no_step ((typed_safe e τ h).reached n r p).scoped a x.1

  -- Not both, and one code.
  pub value_or_error : {e : Term l} {c : ℕ} → Typed [] e τ → Reaches e (Value l) → Reaches e (Raises c) → ⊥
  value_or_error h x y =
      let q = one_end h y.2 (error_end h y.2 y.3) x.2 (value_end h x.2 x.3) in
      value_no_error x.3 (rw q at y.3)

  pub error_once : {e : Term l} {c d : ℕ} → Typed [] e τ → Reaches e (Raises c) → Reaches e (Raises d) → c ≡ d
  error_once h x y =
      let q = one_end h x.2 (error_end h x.2 x.3) y.2 (error_end h y.2 y.3) in
      one_code (rw q at x.3) y.3

-- Steps need some number of words.
roomy : {n : ℕ} {e r : Term ml} (p : Steps n e r) → (room : ℕ) × ((cap : ℕ) → room ≤ cap → InCapacity cap p)
roomy stay = (0, λ cap c. tt)
roomy (then {f = f} a p) = let x = roomy p in (size f + x.0, λ cap c. (omega (arith, c), x.1 cap (omega (arith, c))))

-- The run of values on their way over a boundary, to an error.
pub fails_run : (e : Term ml) (c : ℕ) → Converting e → Reaches e (Raises c)
    → (n : ℕ) × (room : ℕ)
    × ((limit cap : ℕ) → n < limit → room ≤ cap → Ends limit cap e (ended error c (counted other (all_conversions n)) [] 0))
fails_run e c k x =
    let y = roomy x.2 in (
      x.0,
      y.0,
      λ limit cap n m.
          subst (λ (z : Counts). Ends limit cap e (ended error c (counted other z) [] 0)) (converts x.2 k) (by_error x.2 (y.1 cap m) n x.3),
    )
