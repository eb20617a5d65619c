-- How many words a next term may have: no more than the square of the term's; and so a run's words left and words wanted. Assumes nothing.
use Prim.Native.Nat.{ℕ, suc, ◌+◌, ◌*◌, ◌-◌, ◌≤◌}
use mathlib.Core.Bool.{Bool, true, false, cond}
use mathlib.Core.List.{List, []}
use mathlib.Core.Logic.{◌⊎◌, inl, inr, ⊎_elim}
use mathlib.Core.Path.{◌≡◌, refl, ap, ◌∙◌}
use lib.Dec.{eqb, leb}
use lib.ListN.{length}
use native.Mathlib.Nat.{add-mul, mul-le-mul, mul-le-mul_left, mul-le-mul_right}
use native.Mathlib.Omega.{arith}
use Rattle.calculus.specs.Trees.{Ty, Lang, ml, sc, Term, var, num, lam, op1, op2, if0, nil, wrong, ms, sm, app, fix}
use Rattle.calculus.specs.Words.{size_ty, size_static, size}
use Rattle.calculus.specs.Typing.{Typed}
use Rattle.calculus.specs.Substitution.{shift, for_own, ordinary}
use Rattle.calculus.specs.Rules.{◌⊢◌⇒◌, app_lambda, app_no_lambda, fix_lambda, add_numbers, add_over, add_no_number, sub_numbers, sub_no_number}
use Rattle.calculus.specs.Rules.{if0_zero, if0_other, if0_no_number, hd_cons, hd_nil, hd_no_list, tl_cons, tl_nil, tl_no_list, null_nil}
use Rattle.calculus.specs.Rules.{null_cons, fun?_lambda, fun?_other, list?_nil, list?_cons, list?_other, null?_nil, null?_other, num?_number}
use Rattle.calculus.specs.Rules.{num?_other, ms_number, ms_no_number, ms_nil, ms_cons, ms_no_list, ms_lambda, ms_no_lambda, sm_number, sm_lump}
use Rattle.calculus.specs.Rules.{sm_nil, sm_cons, sm_lambda, Around, hole, in_unary, in_first, in_second, in_test, in_ms, in_sm, around, ◌⟶◌}
use Rattle.calculus.specs.Rules.{by_rule}
use Rattle.calculus.specs.Kinds.{type, term}
use Rattle.calculus.specs.Verdicts.{passed}
use Rattle.calculus.specs.Run.{Counts, uncounted, Result, capacity}
use Rattle.calculus.specs.File.{operate}
use Rattle.calculus.proofs.Sizes.{tree_length}
use Rattle.calculus.proofs.Views.{view, sized}
use Rattle.calculus.proofs.Typing.{typed_scoped}
use Rattle.calculus.proofs.Soundness.{sound}
use Rattle.calculus.proofs.Agreement.{next_iff}
use Rattle.calculus.proofs.Runs.{Ran, at_value, at_limit_lem, at_error, at_full, at_stuck, by_step, run_ran}
use Rattle.calculus.proofs.Checks.{operate_iff}

size_ty_some : (t : Ty) → 1 ≤ size_ty t
size_ty_some t = omega (arith, sized (view type t))

pub size_some : {l : Lang} (e : Term l) → 1 ≤ size e
size_some {l} e = omega (arith, sized (view (term l) e))

-- A word and parts, each s times.
spread_1 : (a s : ℕ) → suc a * s ≡ s + a * s
spread_1 a s = let i : suc a ≡ 1 + a = omega arith in ap (λ (x : ℕ). x * s) i ∙ add-mul 1 a s ∙ omega arith

spread_2 : (a b s : ℕ) → suc (a + b) * s ≡ s + a * s + b * s
spread_2 a b s = spread_1 (a + b) s ∙ omega (arith, add-mul a b s)

spread_3 : (a b c s : ℕ) → suc (a + b + c) * s ≡ s + a * s + b * s + c * s
spread_3 a b c s = spread_2 (a + b) c s ∙ omega (arith, add-mul a b s)

grown : (a s : ℕ) → 1 ≤ s → a ≤ a * s
grown a s h = let i : a * 1 ≡ a = omega arith in rw i at (mul-le-mul_left a h)

-- A shift keeps the size.
pub size_shift : {l : Lang} (d k : ℕ) (e : Term l) → size (shift d k e) ≡ size e
unfolding shift size
size_shift d k (var {l} i) = by (leb k i)
  where
    by : (b : Bool) → size {l = l} (cond b (var (i + d)) (var i)) ≡ 1
    by true = refl
    by false = refl
size_shift d k (num n) = refl
size_shift d k (lam t b) = rw (size_shift d (suc k) b)
size_shift d k (op1 o a) = rw (size_shift d k a)
size_shift d k (op2 o a b) = rw (size_shift d k a, size_shift d k b)
size_shift d k (if0 a b c) = rw (size_shift d k a, size_shift d k b, size_shift d k c)
size_shift d k (nil t) = refl
size_shift d k (wrong c t) = refl
size_shift d k (ms t a) = rw (size_shift d k a)
size_shift d k (sm t a) = rw (size_shift d k a)

-- Each variable may become the term that is put for it.
size_ordinary : {m l : Lang} (u : Term m) (k : ℕ) (e : Term l) → size (ordinary u k e) ≤ size e * size u
unfolding ordinary size
size_ordinary {m} u k (var {l} i) = by m l u (eqb i k) (leb i k)
  where
    kept : (l : Lang) (c : Bool) → size {l = l} (cond c (var i) (var (i - 1))) ≡ 1
    kept l true = refl
    kept l false = refl

    by : (m l : Lang) (u : Term m) (b c : Bool) → size {l = l} (cond b (for_own m l (shift k 0 u) (var i)) (cond c (var i) (var (i - 1)))) ≤ 1 *
        size u
    by ml ml u true c = omega (arith, size_shift k 0 u)
    by ml sc u true c = omega (arith, size_some u)
    by sc ml u true c = omega (arith, size_some u)
    by sc sc u true c = omega (arith, size_shift k 0 u)
    by ml l u false c = omega (arith, size_some u, kept l c)
    by sc l u false c = omega (arith, size_some u, kept l c)
size_ordinary u k (num n) = omega (arith, size_some u)
size_ordinary u k (lam {l} t b) =
    omega (
      arith,
      size_some u,
      size_ordinary u (suc k) b,
      spread_2 (size_static l t) (size b) (size u),
      grown (size_static l t) (size u)
          (size_some u),
    )
size_ordinary u k (op1 o a) = omega (arith, size_some u, size_ordinary u k a, spread_1 (size a) (size u))
size_ordinary u k (op2 o a b) = omega (arith, size_some u, size_ordinary u k a, size_ordinary u k b, spread_2 (size a) (size b) (size u))
size_ordinary u k (if0 a b c) =
    omega (arith, size_some u, size_ordinary u k a, size_ordinary u k b, size_ordinary u k c, spread_3 (size a) (size b) (size c) (size u))
size_ordinary u k (nil {l} t) = grown (suc (size_static l t)) (size u) (size_some u)
size_ordinary u k (wrong {l} c t) = grown (suc (size_static l t)) (size u) (size_some u)
size_ordinary u k (ms t a) =
    omega (arith, size_some u, size_ordinary u k a, spread_2 (size_ty t) (size a) (size u), grown (size_ty t) (size u) (size_some u))
size_ordinary u k (sm t a) =
    omega (arith, size_some u, size_ordinary u k a, spread_2 (size_ty t) (size a) (size u), grown (size_ty t) (size u) (size_some u))

twice : (m n : ℕ) → 2 ≤ m → n ≤ 2 * m → n ≤ m * m
twice m n h i = omega (arith, mul-le-mul_right m h)

-- Every rule but the two that substitute makes at most twice the words.
rule_growth : {l : Lang} {e r : Term l} → l ⊢ e ⇒ r → (size r ≤ size e * size e) ⊎ ((2 ≤ size e) × (size r ≤ 2 * size e))
unfolding size size_ty
rule_growth (app_lambda {l} {t} {b} {u} v) =
    let i : size b ≤ size (app (lam t b) u) = omega arith in
    let j : size u ≤ size (app (lam t b) u) = omega arith in
    inl (omega (arith, size_ordinary u 0 b, mul-le-mul i j))
rule_growth (app_no_lambda {f} {u} v w n) = inr (omega (arith, size_some f, size_some u))
rule_growth (fix_lambda {t} {b}) =
    let i : size b ≤ size (fix (lam t b)) = omega arith in
    let j : size (fix (lam t b)) ≤ size (fix (lam t b)) = omega arith in
    inl (omega (arith, size_ordinary (fix (lam t b)) 0 b, mul-le-mul i j))
rule_growth (add_numbers h) = inr (omega arith)
rule_growth (add_over {l = ml} h) = inr (omega arith)
rule_growth (add_over {l = sc} h) = inr (omega arith)
rule_growth (add_no_number {v} {w} a b n) = inr (omega (arith, size_some v, size_some w))
rule_growth sub_numbers = inr (omega arith)
rule_growth (sub_no_number {v} {w} a b n) = inr (omega (arith, size_some v, size_some w))
rule_growth (if0_zero {a = a} {b}) = inr (omega (arith, size_some a, size_some b))
rule_growth (if0_other {a = a} {b} n) = inr (omega (arith, size_some a, size_some b))
rule_growth (if0_no_number {v} {a} {b} x n) = inr (omega (arith, size_some v, size_some a, size_some b))
rule_growth (hd_cons {v = v} {w} a b) = inr (omega (arith, size_some v, size_some w))
rule_growth hd_nil = inr (omega arith)
rule_growth (hd_no_list {v} a n m) = inr (omega (arith, size_some v))
rule_growth (tl_cons {v = v} {w} a b) = inr (omega (arith, size_some v, size_some w))
rule_growth (tl_nil {l = ml}) = inr (omega arith)
rule_growth (tl_nil {l = sc}) = inr (omega arith)
rule_growth (tl_no_list {v} a n m) = inr (omega (arith, size_some v))
rule_growth null_nil = inr (omega arith)
rule_growth (null_cons {v} {w} a b) = inr (omega (arith, size_some v, size_some w))
rule_growth (fun?_lambda {b}) = inr (omega (arith, size_some b))
rule_growth (fun?_other {v} a n) = inr (omega (arith, size_some v))
rule_growth list?_nil = inr (omega arith)
rule_growth (list?_cons {v} {w} a b) = inr (omega (arith, size_some v, size_some w))
rule_growth (list?_other {v} a n m) = inr (omega (arith, size_some v))
rule_growth null?_nil = inr (omega arith)
rule_growth (null?_other {v} a n) = inr (omega (arith, size_some v))
rule_growth num?_number = inr (omega arith)
rule_growth (num?_other {v} a n) = inr (omega (arith, size_some v))
rule_growth ms_number = inr (omega arith)
rule_growth (ms_no_number {v} a n) = inr (omega (arith, size_some v))
rule_growth (ms_nil {t}) = inr (omega (arith, size_ty_some t))
rule_growth (ms_cons {t} {v} {w} a b) = inr (omega (arith, size_some v, size_some w))
rule_growth (ms_no_list {t} {v} a n m) = inr (omega (arith, size_some v))
rule_growth (ms_lambda {t} {u} {b}) = inr (omega (arith, size_shift 1 0 (lam {l = sc} tt b), size_some b, size_ty_some t, size_ty_some u))
rule_growth (ms_no_lambda {t} {u} {v} a n) = inr (omega (arith, size_some v))
rule_growth sm_number = inr (omega arith)
rule_growth (sm_lump {v} a) = inr (omega (arith, size_some v))
rule_growth sm_nil = inr (omega arith)
rule_growth (sm_cons {t} {v} {w} a b) = inr (omega (arith, size_some v, size_some w))
rule_growth (sm_lambda {t} {u} {r} {b}) = inr (omega (arith, size_shift 1 0 (lam r b), size_some b, size_ty_some t, size_ty_some u))

rule_size : {l : Lang} {e r : Term l} → l ⊢ e ⇒ r → size r ≤ size e * size e
rule_size {e = e} {r = r} h = ⊎_elim (λ i. i) (λ i. twice (size e) (size r) i.0 i.1) (rule_growth h)

-- Around a node stand as many words whatever the node is.
around_size : {m l : Lang} (E : Around m l) → (k : ℕ) × ((e : Term m) → size (around E e) ≡ k + size e)
unfolding around size
around_size hole = (0, λ e. omega arith)
around_size (in_unary o E) = let x = around_size E in (suc x.0, λ e. omega (arith, x.1 e))
around_size (in_first o E b) = let x = around_size E in (suc (x.0 + size b), λ e. omega (arith, x.1 e))
around_size (in_second o v h E) = let x = around_size E in (suc (size v + x.0), λ e. omega (arith, x.1 e))
around_size (in_test E b c) = let x = around_size E in (suc (x.0 + size b + size c), λ e. omega (arith, x.1 e))
around_size (in_ms t E) = let x = around_size E in (suc (size_ty t + x.0), λ e. omega (arith, x.1 e))
around_size (in_sm t E) = let x = around_size E in (suc (size_ty t + x.0), λ e. omega (arith, x.1 e))

squares : (c m : ℕ) → 1 ≤ m → c + m * m ≤ (c + m) * (c + m)
squares c m h =
    let i : 1 ≤ c + m = omega (arith, h) in
    let j : m ≤ c + m = omega arith in
    omega (arith, add-mul c m (c + m), grown c (c + m) i, mul-le-mul_left m j)

-- The next term has at most as many words as the term's words squared.
pub next_size : {l : Lang} {e r : Term l} → e ⟶ r → size r ≤ size e * size e
next_size (by_rule {e = e} {r = r} E h) =
    let x = around_size E in
    rw (x.1 e) (omega (arith, x.1 r, rule_size h, squares x.0 (size e) (size_some e)))

-- Of a term that fits the largest capacity: 2^28 words at most.
pub next_bounded : {l : Lang} {e r : Term l} → e ⟶ r → size e ≤ 16384 → size r ≤ 268435456
next_bounded {e = e} h i = omega (arith, next_size h, mul-le-mul i i)

-- A run that ends as full wants no more than that, and the words that a run leaves fit its capacity.
ran_bounded : (τ : Ty) {cap k : ℕ} {made : Counts} {e t : Term ml} {x : Result} → Typed [] e τ → Ran cap k made e x t → size e ≤ cap → cap ≤ 16384
    → (length x.left ≤ cap) × (x.wanted ≤ 268435456)
ran_bounded τ s (at_value {e = e} q) h c = (omega (arith, tree_length (term ml) e []), omega arith)
ran_bounded τ s (at_limit_lem {e = e} q) h c = (omega (arith, tree_length (term ml) e []), omega arith)
ran_bounded τ s (at_error q) h c = (omega arith, omega arith)
ran_bounded τ s (at_full {e = e} {r} q d) h c =
    (omega (arith, tree_length (term ml) e []), next_bounded ((next_iff e r (typed_scoped [] e τ s)).0 q) (omega (arith, h, c)))
ran_bounded τ s (at_stuck {e = e} q) h c = (omega (arith, tree_length (term ml) e []), omega arith)
ran_bounded τ s (by_step {e = e} q d p) h c = ran_bounded τ (rw q at (sound e τ s)) p d c

-- Of every run of a file.
pub operate_bounded : (bytes : List ℕ) (limit n m : ℕ) (r : Result) → operate bytes limit n m ≡ passed r
    → (length r.left ≤ capacity n m) × (r.wanted ≤ 268435456)
operate_bounded bytes limit n m r q =
    let i = (operate_iff bytes limit n m r).0 q in
    rw i.4 (ran_bounded i.0 i.2.typed (run_ran limit (capacity n m) uncounted i.1) i.3 (omega arith))
