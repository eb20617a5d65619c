-- The reduction computed is the reduction published, of every term whose variables have their lambdas, typed or not. Assumes nothing.
use Prim.Native.Nat.{ℕ}
use mathlib.Core.Logic.{◌↔◌}
use mathlib.Core.List.{[]}
use mathlib.Core.Path.{◌≡◌, refl, sym, ap, subst, ◌∙◌}
use native.Mathlib.Omega.{arith}
use Rattle.calculus.specs.Trees.{Lang, Term, wrong}
use Rattle.calculus.specs.Scope.{Scoped}
use Rattle.calculus.specs.Reduction.{Became, becomes, raises, nothing, contract, Context, fill, Turn, done, at, turn, Outcome, value, raised}
use Rattle.calculus.specs.Reduction.{next, stuck, outcome, stepped, step}
use Rattle.calculus.specs.Rules.{Value, ◌⟶◌, by_rule, Raises, by_wrong, Stuck}
use Rattle.calculus.specs.Evaluation.{Evaluated}
use Rattle.calculus.proofs.Values.{value_turn}
use Rattle.calculus.proofs.Contraction.{Ruled, contract_ruled, rule_iff}
use Rattle.calculus.proofs.Substitution.{fill_closed}
use Rattle.calculus.proofs.Contexts.{placed, rule_at, wrong_at}
use Rattle.calculus.proofs.Turns.{Found, turn_found, turn_filled}

-- Published, so computed.
rule_step : {l : Lang} {e r : Term l} → Scoped [] e → e ⟶ r → step e ≡ next r
unfolding step
rule_step s (by_rule {e = e} {r = r} E h) =
    let p = placed E in
    let F = p.place in
    let made = (rule_iff e r (fill_closed F e (rw (p.fills e) s))).1 h in
    ap step (sym (p.fills e)) ∙ ap stepped (turn_filled F e p.evaluated made.0) ∙ ap (outcome F) made.1 ∙ ap next (p.fills r)

wrong_step : {l : Lang} {c : ℕ} {e : Term l} → Raises c e → step e ≡ raised c
unfolding step contract
wrong_step (by_wrong {c = c} E t) =
    let p = placed E in ap step (sym (p.fills (wrong c t))) ∙ ap stepped (turn_filled p.place (wrong c t) p.evaluated tt)

value_step : {l : Lang} {e : Term l} → Value l e → step e ≡ value
unfolding step
value_step v = ap stepped (value_turn v)

-- Computed, so published.
abbrev Published : {l : Lang} → Term l → Outcome l → Type 0
Published {l} e value = Value l e
Published e (raised c) = Scoped [] e → Raises c e
Published e (next r) = Scoped [] e → e ⟶ r
Published e stuck = Unit {0}

outcome_published : {m l : Lang} (F : Context m l) (n : Term m) (o : Became m) → Evaluated F → (Scoped [] n → Ruled n o)
    → Published (fill F n) (outcome F o)
outcome_published F n (becomes r) ev h = λ s. rule_at F ev (h (fill_closed F n s))
outcome_published F n (raises c) ev h = λ s. let w = h (fill_closed F n s) in rw w.1 (wrong_at F ev w.0)
outcome_published F n nothing ev h = tt

turn_published : {l : Lang} (e : Term l) (p : Turn l) → Found e p → Published e (stepped p)
turn_published e done h = h
turn_published e (at m F n) h =
    subst (λ (x : Term _). Published x (stepped (at m F n))) h.0
    (outcome_published F n (contract n) h.1 (λ s. contract_ruled n s h.2))

step_published : {l : Lang} (e : Term l) → Published e (step e)
unfolding step
step_published e = turn_published e (turn e) (turn_found e)

-- The next term computed is the published one.
pub next_iff : {l : Lang} (e r : Term l) → Scoped [] e → (step e ≡ next r) ↔ (e ⟶ r)
next_iff e r s = (λ q. subst (Published e) q (step_published e) s, rule_step s)

-- An error computed is the raised one, and its code.
pub raised_iff : {l : Lang} (e : Term l) (c : ℕ) → Scoped [] e → (step e ≡ raised c) ↔ Raises c e
raised_iff e c s = (λ q. subst (Published e) q (step_published e) s, wrong_step)

-- No step is computed of values alone.
pub value_step_iff : {l : Lang} (e : Term l) → (step e ≡ value) ↔ Value l e
value_step_iff e = (λ q. subst (Published e) q (step_published e), value_step)

-- A term has at most one next term and at most one code.
pub deterministic : {l : Lang} {e r s : Term l} → Scoped [] e → e ⟶ r → e ⟶ s → r ≡ s
deterministic k a b = cc (rule_step k a, rule_step k b)

pub one_code : {l : Lang} {e : Term l} {c d : ℕ} → Raises c e → Raises d e → c ≡ d
one_code a b = cc (wrong_step a, wrong_step b)

-- Values have no next term and raise nothing; raised errors have no next term.
pub value_no_step : {l : Lang} {e r : Term l} → Scoped [] e → Value l e → ¬ (e ⟶ r)
value_no_step k v a = let z : ◌≡◌ {A = ℕ} 0 1 = cc (value_step v, rule_step k a) in omega arith

pub value_no_error : {l : Lang} {e : Term l} {c : ℕ} → Value l e → ¬ Raises c e
value_no_error v a = let z : ◌≡◌ {A = ℕ} 0 1 = cc (value_step v, wrong_step a) in omega arith

pub error_no_step : {l : Lang} {e r : Term l} {c : ℕ} → Scoped [] e → Raises c e → ¬ (e ⟶ r)
error_no_step k a b = let z : ◌≡◌ {A = ℕ} 0 1 = cc (wrong_step a, rule_step k b) in omega arith

none_stuck : {l : Lang} (e : Term l) (o : Outcome l) → Scoped [] e → Stuck e → Published e o → o ≡ stuck
none_stuck e value k ne h = absurd (ne.0 h)
none_stuck e (raised c) k ne h = absurd (ne.1 c (h k))
none_stuck e (next r) k ne h = absurd (ne.2 r (h k))
none_stuck e stuck k ne h = refl

-- The computation is stuck exactly where nothing that is published applies.
pub stuck_iff : {l : Lang} (e : Term l) → Scoped [] e → (step e ≡ stuck) ↔ Stuck e
stuck_iff e k = (
  λ q. (
    λ v. let z : ◌≡◌ {A = ℕ} 0 1 = cc (value_step v) in omega arith,
    λ c a. let z : ◌≡◌ {A = ℕ} 0 1 = cc (wrong_step a) in omega arith,
    λ r a. let z : ◌≡◌ {A = ℕ} 0 1 = cc (rule_step k a) in omega arith,
  ),
  λ h. none_stuck e (step e) k h (step_published e),
)
