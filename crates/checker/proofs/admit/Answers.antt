-- `checker::admit` meets its contract, for every file. Assumes nothing.
use Rattle.std.proofs.Common.{ℕ, List, ◌≡◌, ap, ◌∙◌, take, arith}
use Rattle.std.proofs.lemmas.Result.{err_from_is_err_and}
use Rattle.calculus.specs.File.{words_of}
use Rattle.file.proofs.Opening.{Opens, opens}
use Rattle.checker.specs.Checks.{accepting, judging}
use Rattle.checker.proofs.Admitting.{term_at, unopened, judged_out, judged_in}
use Rattle.checker.proofs.admit.Goals as goal
use Rattle.checker.proofs.admit.Goals.{In_ok-recipe}

-- What is known of an opened file.
known : (c : In_ok-recipe) → Opens c.args.file.now c.open.new.all c.in_ok-recipe.recipe.type_count c.in_ok-recipe.recipe.count
known c = opens _ _ c.in_ok-recipe.ensures.answer c.in_ok-recipe.ensures.buffer

judged_file : (c : In_ok-recipe) → let x = c.in_ok-recipe.recipe in
    accepting (judging (take x.count c.open.new.all) x.type_count) ≡ accepting (judging (words_of c.args.file.now) x.type_count)
judged_file c = ap (λ (ws : List ℕ). accepting (judging ws c.in_ok-recipe.recipe.type_count)) (known c).words_are

pub returns-in_err-recipe-clause-answer : goal.returns-in_err-recipe-clause-answer
returns-in_err-recipe-clause-answer c =
    let p = err_from_is_err_and c.from_residual.result c.from_residual.ensures.1 in rw (p.1, p.2) (unopened _ c.in_err-recipe.ensures.answer)

pub slice_bounds-judge-end : goal.slice_bounds-judge-end
slice_bounds-judge-end c = let k = known c in omega (arith, k.few, k.array_is)

pub slice_bounds-judge-end-2 : goal.slice_bounds-judge-end-2
slice_bounds-judge-end-2 c = let k = known c in rw k.words_are k.count_is

pub judge-requires : goal.judge-requires
judge-requires c = let k = known c in rw k.words_are (term_at k)

pub returns-in_err-judge-clause-answer : goal.returns-in_err-judge-clause-answer
returns-in_err-judge-clause-answer c =
    let f = (goal.at.returns-in_err-judge-clause-answer c).In_ok-recipe in
    let p = err_from_is_err_and c.from_residual-in_err-judge.result c.from_residual-in_err-judge.ensures.1 in
    rw (p.1, p.2) (judged_out (known f) (c.in_err-judge.ensures ∙ judged_file f))

pub returns-clause-answer : goal.returns-clause-answer
returns-clause-answer c =
    let f = (goal.at.returns-clause-answer c).In_ok-recipe in
    judged_in (known f) (c.in_ok-judge.ensures ∙ judged_file f)
