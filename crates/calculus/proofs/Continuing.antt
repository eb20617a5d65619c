-- A run that was spent or full, gone on with from its last term, is the run under the summed limit. Assumes nothing.
use Prim.Native.Nat.{ℕ, suc, ◌+◌, ◌≤◌}
use mathlib.Core.List.{List, []}
use mathlib.Core.Path.{◌≡◌, refl, sym, ap, ◌∙◌, subst}
use native.Mathlib.Nat.{suc-add, zero-add}
use Rattle.calculus.specs.Trees.{Ty, ml, Term}
use Rattle.calculus.specs.Words.{words, size}
use Rattle.calculus.specs.Limits.{InRange}
use Rattle.calculus.specs.Typing.{Typed}
use Rattle.calculus.specs.Reduction.{next, step}
use Rattle.calculus.specs.Classes.{other, next_class}
use Rattle.calculus.specs.Run.{End, valued, spent, error, full, Open, Counts, uncounted, Result, ended, run}
use Rattle.calculus.specs.Counting.{together, later}
use Rattle.calculus.proofs.Soundness.{Kept, sound}
use Rattle.calculus.proofs.Ranges.{OutcomeInRange, step_in_range}
use Rattle.calculus.proofs.Counting.{together_none, counted_together}
use Rattle.calculus.proofs.Runs.{last_term, Ran, at_value, at_limit_lem, at_error, at_full, at_stuck, by_step, run_ran, run_value, run_next}
use Rattle.calculus.proofs.Runs.{run_full}

-- The words left, by the end: those of the last term, but none after an error.
abbrev pub left_at : End → Term ml → List ℕ
left_at valued t = words t
left_at spent t = words t
left_at error t = []
left_at full t = words t

ran_left : {cap k : ℕ} {made : Counts} {e t : Term ml} {x : Result} → Ran cap k made e x t → x.left ≡ left_at x.end t
ran_left (at_value q) = refl
ran_left (at_limit_lem q) = refl
ran_left (at_error q) = refl
ran_left (at_full q c) = refl
ran_left (at_stuck q) = refl
ran_left (by_step q c p) = ran_left p

-- What is left in words.
pub run_left : (k cap : ℕ) (made : Counts) (e : Term ml) → (run k cap made e).left ≡ left_at (run k cap made e).end (last_term k cap e)
run_left k cap made e = ran_left (run_ran k cap made e)

ran_on : (j : ℕ) {cap k : ℕ} {made : Counts} {e t : Term ml} {x : Result} → Ran cap k made e x t → Open x.end
    → run (k + suc j) cap made e ≡ run (suc j) cap x.made t
unfolding run
ran_on j (at_value q) f = absurd f
ran_on j (at_limit_lem q) f = rw zero-add
ran_on j (at_error q) f = absurd f
ran_on j {cap} (at_full {k} {r = r} q c) f = rw (suc-add k (suc j)) (run_full (k + suc j) cap _ _ r q c ∙ sym (run_full j cap _ _ r q c))
ran_on j (at_stuck {k} q) f = rw (suc-add k (suc j), q)
ran_on j {cap} (by_step {k} {r = r} q c p) f = rw (suc-add k (suc j)) (run_next (k + suc j) cap _ _ r q c ∙ ran_on j p f)

-- Going on from the last term, with what was counted so far: the run under the summed limit.
pub run_on : (k j cap : ℕ) (made : Counts) (e : Term ml) → Open (run k cap made e).end
    → run (k + suc j) cap made e ≡ run (suc j) cap (run k cap made e).made (last_term k cap e)
run_on k j cap made e f = ran_on j (run_ran k cap made e) f

ran_later : (m : Counts) {cap k : ℕ} {made : Counts} {e t : Term ml} {x : Result} → Ran cap k made e x t → run k cap (together m made) e ≡ later m x
unfolding run
ran_later m {cap} {k} (at_value q) = run_value k cap _ _ q
ran_later m (at_limit_lem q) = rw q
ran_later m {made = made} (at_error {c = c} q) = rw q (ap (λ (n : Counts). ended error c n [] 0) (counted_together other m made))
ran_later m {cap} (at_full {k} {r = r} q c) = run_full k cap _ _ r q c
ran_later m (at_stuck q) = rw q
ran_later m {cap} {made = made} (by_step {k} {e = e} {r} q c p) =
    run_next k cap _ _ r q c ∙ ap (λ (n : Counts). run k cap n r) (counted_together (next_class e) m made) ∙ ran_later m p

-- A run that starts with more counted counts that much more, and is otherwise the same.
pub run_later : (m : Counts) (k cap : ℕ) (made : Counts) (e : Term ml) → run k cap (together m made) e ≡ later m (run k cap made e)
run_later m k cap made e = ran_later m (run_ran k cap made e)

-- Running, and running anew from the last term: as one run under the summed limit, the counts added up.
pub run_again : (k j cap : ℕ) (made : Counts) (e : Term ml) → Open (run k cap made e).end
    → run (k + suc j) cap made e ≡ later (run k cap made e).made (run (suc j) cap uncounted (last_term k cap e))
run_again k j cap made e f =
    let m = (run k cap made e).made in
    run_on k j cap made e f ∙ ap (λ (n : Counts). run (suc j) cap n (last_term k cap e)) (sym (together_none m))
    ∙ run_later m (suc j) cap uncounted (last_term k cap e)

ran_keeps : {cap : ℕ} (P : Term ml → Type 0) → ((e r : Term ml) → step e ≡ next r → size r ≤ cap → P e → P r)
    → {k : ℕ} {made : Counts} {e t : Term ml} {x : Result} → Ran cap k made e x t → P e → P t
ran_keeps P s (at_value q) h = h
ran_keeps P s (at_limit_lem q) h = h
ran_keeps P s (at_error q) h = h
ran_keeps P s (at_full q c) h = h
ran_keeps P s (at_stuck q) h = h
ran_keeps P s (by_step q c p) h = ran_keeps P s p (s _ _ q c h)

-- What every step that fits keeps holds of the last term.
pub run_keeps : (k cap : ℕ) (e : Term ml) (P : Term ml → Type 0) → ((e r : Term ml) → step e ≡ next r → size r ≤ cap → P e → P r)
    → P e → P (last_term k cap e)
run_keeps k cap e P s h = ran_keeps P s (run_ran k cap uncounted e) h

-- A recipe's term: in range, and of the declared type.
pub record Fine (τ : Ty) (t : Term ml) : Type 0 where
  pub ranged : InRange t
  pub typed : Typed [] t τ

-- So is the last term, and it fits where the first did.
pub run_fine : (k cap : ℕ) (τ : Ty) (e : Term ml) → Fine τ e → Fine τ (last_term k cap e)
run_fine k cap τ e h = run_keeps k cap e (Fine τ) fine_next h
  where
    fine_next : (e r : Term ml) → step e ≡ next r → size r ≤ cap → Fine τ e → Fine τ r
    fine_next e r q c g = record { ranged = subst OutcomeInRange q (step_in_range e g.ranged); typed = subst (Kept τ) q (sound e τ g.typed) }

pub run_short : (k cap : ℕ) (e : Term ml) → size e ≤ cap → size (last_term k cap e) ≤ cap
run_short k cap e h = run_keeps k cap e (λ t. size t ≤ cap) (λ e r q c g. c) h
