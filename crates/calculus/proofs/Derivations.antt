-- Recipes of documents 01 and 02 worked out by hand in the published rules: nothing here runs `step`. Assumes nothing.
use mathlib.Core.Path.{ap}
use native.Mathlib.Omega.{arith}
use Rattle.calculus.specs.Trees.{N, L, list, ◌to◌, ml, APP, ADD, CONS, var, num, lam, if0, nil, wrong, ms, sm, app, add, cons, fix}
use Rattle.calculus.specs.Substitution.{shift, ordinary}
use Rattle.calculus.specs.Reduction.{form}
use Rattle.calculus.specs.Rules.{hole, in_first, in_second, in_ms, in_sm, around, lam_v, num_v, nil_v, lump_v, ◌⊢◌⇒◌, app_lambda, fix_lambda}
use Rattle.calculus.specs.Rules.{if0_no_number, ms_number, ms_cons, ms_no_list, ms_lambda, sm_number, sm_lump, by_rule, Steps, stay, then}
use Rattle.calculus.specs.Rules.{Raises, by_wrong}
use Rattle.calculus.proofs.Contraction.{mark}
use Rattle.calculus.proofs.Reaching.{rule}

-- (ms (N to N) (fn v0)) applied to 7: 7, 5 steps.
pub function : Steps 5 (app (ms (N to N) (lam tt (var 0))) (num 7)) (num 7)
unfolding around shift ordinary
function =
    then (by_rule (in_first APP hole (num 7)) ms_lambda)
    (then (rule (app_lambda num_v))
    (then (by_rule (in_ms N (in_second APP (lam tt (var 0)) lam_v hole)) sm_number)
    (then (by_rule (in_ms N hole) (app_lambda num_v))
    (then (rule ms_number) stay))))

-- ms N (sm L (ms L 4)): 4, 2 steps.
pub unsealed : Steps 2 (ms N (sm (L 0) (ms (L 0) (num 4)))) (num 4)
unfolding around
unsealed = then (by_rule (in_ms N hole) (sm_lump num_v)) (then (rule ms_number) stay)

-- ms N (sm L9 ((fn L9 v0) applied to ms L9 (sm L7 (ms L7 4)))): 4, 4 steps.
pub resealed : Steps 4 (ms N (sm (L 9) (app (lam (L 9) (var 0)) (ms (L 9) (sm (L 7) (ms (L 7) (num 4))))))) (num 4)
unfolding around shift ordinary
resealed =
    then (by_rule (in_ms N (in_sm (L 9) (in_second APP (lam (L 9) (var 0)) lam_v (in_ms (L 9) hole)))) (sm_lump num_v))
    (then (by_rule (in_ms N (in_sm (L 9) hole)) (app_lambda (lump_v num_v)))
    (then (by_rule (in_ms N hole) (sm_lump num_v))
    (then (rule ms_number) stay)))

-- fix (fn N v0): itself again.
pub endless : Steps 1 (fix (lam N (var 0))) (fix (lam N (var 0)))
unfolding shift ordinary
endless = then (rule fix_lambda) stay

-- ms {N} (cons 1 2): error 3, in the fourth step; the head is converted before the tail is looked at.
tail_no_list : ml ⊢ ms (list N) (num 2) ⇒ wrong 3 (list N)
unfolding form
tail_no_list = ms_no_list (num_v {n = 2}) (λ h. omega (arith, ap mark h.1)) (λ h. omega (arith, ap mark h.2))

pub no_list : Steps 3 (ms (list N) (cons (num 1) (num 2))) (cons (num 1) (wrong 3 (list N))) × Raises {l = ml} 3 (cons (num 1) (wrong 3 (list N)))
unfolding around
no_list = (
  then (rule (ms_cons num_v num_v))
      (then (by_rule (in_first CONS hole (ms (list N) (num 2))) ms_number)
      (then (by_rule (in_second CONS (num 1) num_v hole) tail_no_list) stay)),
  by_wrong (in_second CONS (num 1) num_v hole) (list N),
)

-- ms N (if0 nil 1 2): error 1, in the second step.
pub no_number_tested : Steps 1 (ms N (if0 (nil tt) (num 1) (num 2))) (ms N (wrong 1 tt)) × Raises {l = ml} 1 (ms N (wrong 1 tt))
unfolding around form
no_number_tested = (
  then (by_rule (in_ms N hole) (if0_no_number nil_v (λ h. omega (arith, ap mark h.1)))) stay,
  by_wrong (in_ms N hole) tt,
)

-- ms N (add (fn v0) (wrong 300)): error 300, in the first step.
pub own_code : Raises 300 (ms N (add (lam tt (var 0)) (wrong 300 tt)))
unfolding around
own_code = by_wrong (in_ms N (in_second ADD (lam tt (var 0)) lam_v hole)) tt
