-- Values on their way over a boundary: all that such a term does is conversions, until it is a value or a raised error. Assumes nothing.
use Prim.Native.Nat.{ℕ}
use mathlib.Core.Path.{◌≡◌, refl}
use lib.Dec.{T}
use native.Mathlib.Omega.{arith}
use Rattle.calculus.specs.Trees.{Lang, Term, var, num, lam, op1, op2, if0, nil, wrong, ms, sm}
use Rattle.calculus.specs.Reduction.{is_cons}
use Rattle.calculus.specs.Rules.{Value, lam_v, num_v, nil_v, cons_v, lump_v, ◌⊢◌⇒◌, app_lambda, app_no_lambda, fix_lambda, add_numbers, add_over}
use Rattle.calculus.specs.Rules.{add_no_number, sub_numbers, sub_no_number, if0_zero, if0_other, if0_no_number, hd_cons, hd_nil, hd_no_list}
use Rattle.calculus.specs.Rules.{tl_cons, tl_nil, tl_no_list, null_nil, null_cons, fun?_lambda, fun?_other, list?_nil, list?_cons, list?_other}
use Rattle.calculus.specs.Rules.{null?_nil, null?_other, num?_number, num?_other, ms_number, ms_no_number, ms_nil, ms_cons, ms_no_list}
use Rattle.calculus.specs.Rules.{ms_lambda, ms_no_lambda, sm_number, sm_lump, sm_nil, sm_cons, sm_lambda, Around, hole, in_unary, in_first}
use Rattle.calculus.specs.Rules.{in_second, in_test, in_ms, in_sm, around, ◌⟶◌, by_rule, Steps, stay, then}
use Rattle.calculus.specs.Classes.{call, conversion, other, node_class, step_class, among}
use Rattle.calculus.specs.Counting.{counts}
use Rattle.calculus.specs.Conversions.{all_conversions}
use Rattle.calculus.proofs.Counting.{same_counts}

-- Made of lambdas, numbers, nil, cons, wrongs and boundaries alone, but for what stands under a lambda.
abbrev pub Converting : {l : Lang} → Term l → Type 0
Converting (var i) = ⊥
Converting (num n) = Unit {0}
Converting (lam t b) = Unit {0}
Converting (op1 o a) = ⊥
Converting (op2 o a b) = T (is_cons o) × Converting a × Converting b
Converting (if0 a b c) = ⊥
Converting (nil t) = Unit {0}
Converting (wrong c t) = Unit {0}
Converting (ms t a) = Converting a
Converting (sm t a) = Converting a

pub value_converting : {l : Lang} {v : Term l} → Value l v → Converting v
value_converting lam_v = tt
value_converting num_v = tt
value_converting nil_v = tt
value_converting (cons_v a b) = (tt, value_converting a, value_converting b)
value_converting (lump_v a) = value_converting a

-- A rule that fits such a node is a conversion, and makes such a one.
rule_converts : {l : Lang} {e r : Term l} → l ⊢ e ⇒ r → Converting e → (node_class e ≡ conversion) × Converting r
rule_converts (app_lambda v) h = absurd h.0
rule_converts (app_no_lambda v w n) h = absurd h.0
rule_converts fix_lambda h = absurd h
rule_converts (add_numbers q) h = absurd h.0
rule_converts (add_over q) h = absurd h.0
rule_converts (add_no_number v w n) h = absurd h.0
rule_converts sub_numbers h = absurd h.0
rule_converts (sub_no_number v w n) h = absurd h.0
rule_converts if0_zero h = absurd h
rule_converts (if0_other n) h = absurd h
rule_converts (if0_no_number v n) h = absurd h
rule_converts (hd_cons v w) h = absurd h
rule_converts hd_nil h = absurd h
rule_converts (hd_no_list v n m) h = absurd h
rule_converts (tl_cons v w) h = absurd h
rule_converts tl_nil h = absurd h
rule_converts (tl_no_list v n m) h = absurd h
rule_converts null_nil h = absurd h
rule_converts (null_cons v w) h = absurd h
rule_converts fun?_lambda h = absurd h
rule_converts (fun?_other v n) h = absurd h
rule_converts list?_nil h = absurd h
rule_converts (list?_cons v w) h = absurd h
rule_converts (list?_other v n m) h = absurd h
rule_converts null?_nil h = absurd h
rule_converts (null?_other v n) h = absurd h
rule_converts num?_number h = absurd h
rule_converts (num?_other v n) h = absurd h
rule_converts ms_number h = (refl, tt)
rule_converts (ms_no_number v n) h = (refl, tt)
rule_converts ms_nil h = (refl, tt)
rule_converts (ms_cons v w) h = (refl, h)
rule_converts (ms_no_list v n m) h = (refl, tt)
rule_converts ms_lambda h = (refl, tt)
rule_converts (ms_no_lambda v n) h = (refl, tt)
rule_converts sm_number h = (refl, tt)
rule_converts (sm_lump v) h = (refl, h)
rule_converts sm_nil h = (refl, tt)
rule_converts (sm_cons v w) h = (refl, h)
rule_converts sm_lambda h = (refl, tt)

-- What stands in such a term where evaluation goes is such a one, and so is the term with another such there.
around_converting : {m l : Lang} (E : Around m l) (n r : Term m) → Converting (around E n) → Converting n × (Converting r → Converting (around E r))
unfolding around
around_converting hole n r h = (h, λ k. k)
around_converting (in_unary o E) n r h = absurd h
around_converting (in_first o E b) n r h = let x = around_converting E n r h.1 in (x.0, λ k. (h.0, x.1 k, h.2))
around_converting (in_second o v w E) n r h = let x = around_converting E n r h.2 in (x.0, λ k. (h.0, h.1, x.1 k))
around_converting (in_test E b c) n r h = absurd h
around_converting (in_ms t E) n r h = around_converting E n r h
around_converting (in_sm t E) n r h = around_converting E n r h

step_converts : {l : Lang} {e r : Term l} (a : e ⟶ r) → Converting e → (step_class a ≡ conversion) × Converting r
step_converts (by_rule {e = n} {r = r} E h) c =
    let x = around_converting E n r c in
    let y = rule_converts h x.0 in
    (y.0, x.1 y.1)

among_converts : {l : Lang} {n : ℕ} {e r : Term l} (p : Steps n e r) → Converting e
    → (among call p ≡ 0) × (among conversion p ≡ n) × (among other p ≡ 0)
among_converts stay c = (refl, refl, refl)
among_converts (then a p) c =
    let x = step_converts a c in
    let y = among_converts p x.1 in
    rw x.0 (omega (arith, y.0), omega (arith, y.1), omega (arith, y.2))

-- All steps of such a term are conversions.
pub converts : {l : Lang} {n : ℕ} {e r : Term l} (p : Steps n e r) → Converting e → counts p ≡ all_conversions n
converts p c = let x = among_converts p c in same_counts refl x.0 x.1 x.2
