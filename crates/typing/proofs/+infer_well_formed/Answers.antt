-- `typing::infer` and `typing::well_formed` meet their contracts: each way out is one law of OverParts or Concluding. The measure of both is the
-- number of words from the place on. Assumes nothing.
use Rattle.std.proofs.Common.{Some, ap, ◌∙◌}
use Rattle.calculus.specs.Trees.{ml, sc}
use Rattle.types.proofs.Matching.{passed_on}
use Rattle.typing.specs.Answers.{inferred, formed}
use Rattle.typing.proofs.Telling.{node_at_lem, no_shape, told, parted_1, parted_2, several_2, several_3}
use Rattle.typing.proofs.LeafResults.{no_term_there}
use Rattle.typing.proofs.OverParts.{a_boundary, one_bad, one_of, reached_1, two_bad, two_of, reached_2, three_bad, further}
use Rattle.typing.proofs.Concluding.{by_result1, by_result2, by_result3, an_operator_1, an_operator_2, an_if0, ml_lambda_bad, an_ml_lambda}
use Rattle.typing.proofs.Concluding.{a_scheme_lambda, scheme_operator_1, scheme_operator_2, scheme_if0}
use Rattle.typing.proofs.+infer_well_formed.Goals as goal

pub infer-returns-in_default : goal.infer-returns-in_default
infer-returns-in_default t c =
    no_term_there _ _ _ _ (no_shape c.args.words.now c.args.at c.requires.behind _ c.shape_at.ensures.value c.in_default.is ml)

pub infer-returns-in_err-body-in-Lambda : goal.infer-returns-in_err-body-in-Lambda
infer-returns-in_err-body-in-Lambda t c =
    let N = node_at_lem c.requires c.in-Some.ensures.there in
    let S = (told c.args.words.now c.args.at c.requires.behind _ c.shape_at.ensures.value _ (c.in-Some.is ∙ ap Some c.in-Lambda.is) ml) in
    rw (passed_on _ c.from_residual.ensures.1)
    (ml_lambda_bad N _ _ _ c.requires.linked c.link_to.ensures c.type_end-start.ensures c.infer.ensures S (ap inferred c.in_err-body-in-Lambda.was))

pub infer-returns-in_ok-body-in-Lambda : goal.infer-returns-in_ok-body-in-Lambda
infer-returns-in_ok-body-in-Lambda t c =
    let N = node_at_lem c.requires c.in-Some.ensures.there in
    let S = (told c.args.words.now c.args.at c.requires.behind _ c.shape_at.ensures.value _ (c.in-Some.is ∙ ap Some c.in-Lambda.is) ml) in
    let f = c.function.ensures in
    rw f.answer
    (an_ml_lambda N _ _ _ c.requires.linked c.link_to.ensures c.type_end-start.ensures c.infer.ensures
    (ap inferred c.in_ok-body-in-Lambda.was) S f.same f.kept f.own)

pub infer-returns-in_err-part-in-Operator1 : goal.infer-returns-in_err-part-in-Operator1
infer-returns-in_err-part-in-Operator1 t c =
    let N = node_at_lem c.requires c.in-Some.ensures.there in
    let S = (told c.args.words.now c.args.at c.requires.behind _ c.shape_at.ensures.value _ (c.in-Some.is ∙ ap Some c.in-Operator1.is) ml) in
    rw (passed_on _ c.from_residual-in_err-part-in-Operator1.ensures.1)
    (one_bad N c.infer-in-Operator1.ensures (ap inferred c.in_err-part-in-Operator1.was) (parted_1 ml c.args.words.now c.args.at _ S))

pub infer-returns-in_ok-part-in-Operator1 : goal.infer-returns-in_ok-part-in-Operator1
infer-returns-in_ok-part-in-Operator1 t c =
    let N = node_at_lem c.requires c.in-Some.ensures.there in
    let S = (told c.args.words.now c.args.at c.requires.behind _ c.shape_at.ensures.value _ (c.in-Some.is ∙ ap Some c.in-Operator1.is) ml) in
    let A = one_of N c.infer-in-Operator1.ensures (ap inferred c.in_ok-part-in-Operator1.was) in
    an_operator_1 A _ (by_result1 _ c.conclusion.ensures (reached_1 A).within c.result_1-found.ensures) S

pub infer-returns-in_err-first-in-Operator2 : goal.infer-returns-in_err-first-in-Operator2
infer-returns-in_err-first-in-Operator2 t c =
    let N = node_at_lem c.requires c.in-Some.ensures.there in
    let S = (told c.args.words.now c.args.at c.requires.behind _ c.shape_at.ensures.value _ (c.in-Some.is ∙ ap Some c.in-Operator2.is) ml) in
    rw (passed_on _ c.from_residual-in_err-first-in-Operator2.ensures.1)
    (one_bad N c.infer-in-Operator2.ensures (ap inferred c.in_err-first-in-Operator2.was)
    (parted_2 ml c.args.words.now c.args.at (several_2 ml c.args.words.now c.args.at _ S)))

pub infer-returns-in_err-second-in-Operator2 : goal.infer-returns-in_err-second-in-Operator2
infer-returns-in_err-second-in-Operator2 t c =
    let N = node_at_lem c.requires c.in-Some.ensures.there in
    let S = (told c.args.words.now c.args.at c.requires.behind _ c.shape_at.ensures.value _ (c.in-Some.is ∙ ap Some c.in-Operator2.is) ml) in
    let A = one_of N c.infer-in-Operator2.ensures (ap inferred c.in_ok-first-in-Operator2.was) in
    rw (passed_on _ c.from_residual-in_err-second-in-Operator2.ensures.1)
    (two_bad A c.infer-in-Operator2-2.ensures (ap inferred c.in_err-second-in-Operator2.was) (several_2 ml c.args.words.now c.args.at _ S))

pub infer-returns-in_ok-second-in-Operator2 : goal.infer-returns-in_ok-second-in-Operator2
infer-returns-in_ok-second-in-Operator2 t c =
    let N = node_at_lem c.requires c.in-Some.ensures.there in
    let S = (told c.args.words.now c.args.at c.requires.behind _ c.shape_at.ensures.value _ (c.in-Some.is ∙ ap Some c.in-Operator2.is) ml) in
    let A = one_of N c.infer-in-Operator2.ensures (ap inferred c.in_ok-first-in-Operator2.was) in
    let B = two_of A c.infer-in-Operator2-2.ensures (ap inferred c.in_ok-second-in-Operator2.was) in
    an_operator_2 B _ (by_result2 _ c.conclusion-in-Operator2.ensures (reached_2 B).within c.result_2-found.ensures) S

pub infer-returns-in_err-test-in-If0 : goal.infer-returns-in_err-test-in-If0
infer-returns-in_err-test-in-If0 t c =
    let N = node_at_lem c.requires c.in-Some.ensures.there in
    let S = (told c.args.words.now c.args.at c.requires.behind _ c.shape_at.ensures.value _ (c.in-Some.is ∙ ap Some c.in-If0.is) ml) in
    rw (passed_on _ c.from_residual-in_err-test-in-If0.ensures.1)
    (one_bad N c.infer-in-If0.ensures (ap inferred c.in_err-test-in-If0.was)
    (parted_2 ml c.args.words.now c.args.at (several_3 ml c.args.words.now c.args.at S)))

pub infer-returns-in_err-first-in-If0 : goal.infer-returns-in_err-first-in-If0
infer-returns-in_err-first-in-If0 t c =
    let N = node_at_lem c.requires c.in-Some.ensures.there in
    let S = (told c.args.words.now c.args.at c.requires.behind _ c.shape_at.ensures.value _ (c.in-Some.is ∙ ap Some c.in-If0.is) ml) in
    let A = one_of N c.infer-in-If0.ensures (ap inferred c.in_ok-test-in-If0.was) in
    rw (passed_on _ c.from_residual-in_err-first-in-If0.ensures.1)
    (two_bad A c.infer-in-If0-2.ensures (ap inferred c.in_err-first-in-If0.was) (several_3 ml c.args.words.now c.args.at S))

pub infer-returns-in_err-second-in-If0 : goal.infer-returns-in_err-second-in-If0
infer-returns-in_err-second-in-If0 t c =
    let N = node_at_lem c.requires c.in-Some.ensures.there in
    let S = (told c.args.words.now c.args.at c.requires.behind _ c.shape_at.ensures.value _ (c.in-Some.is ∙ ap Some c.in-If0.is) ml) in
    let A = one_of N c.infer-in-If0.ensures (ap inferred c.in_ok-test-in-If0.was) in
    let B = two_of A c.infer-in-If0-2.ensures (ap inferred c.in_ok-first-in-If0.was) in
    rw (passed_on _ c.from_residual-in_err-second-in-If0.ensures.1)
    (three_bad B c.infer-in-If0-3.ensures (ap inferred c.in_err-second-in-If0.was) S)

pub infer-returns-in_ok-second-in-If0 : goal.infer-returns-in_ok-second-in-If0
infer-returns-in_ok-second-in-If0 t c =
    let N = node_at_lem c.requires c.in-Some.ensures.there in
    let S = (told c.args.words.now c.args.at c.requires.behind _ c.shape_at.ensures.value _ (c.in-Some.is ∙ ap Some c.in-If0.is) ml) in
    let A = one_of N c.infer-in-If0.ensures (ap inferred c.in_ok-test-in-If0.was) in
    let B = two_of A c.infer-in-If0-2.ensures (ap inferred c.in_ok-first-in-If0.was) in
    let I = c.infer-in-If0-3.ensures in
    let z = ap inferred c.in_ok-second-in-If0.was in
    an_if0 B I z (by_result3 _ c.conclusion-in-If0.ensures (further (reached_2 B) I z).within c.result_3-found.ensures) S

pub infer-returns-in-Boundary : goal.infer-returns-in-Boundary
infer-returns-in-Boundary t c =
    let N = node_at_lem c.requires c.in-Some.ensures.there in
    let S = (told c.args.words.now c.args.at c.requires.behind _ c.shape_at.ensures.value _ (c.in-Some.is ∙ ap Some c.in-Boundary.is) ml) in
    a_boundary N c.type_end.ensures c.well_formed-in-Boundary.ensures S (c.at_ms.ensures _ _)

pub well_formed-returns-in_default : goal.well_formed-returns-in_default
well_formed-returns-in_default t c =
    no_term_there _ _ _ _ (no_shape c.args.words.now c.args.at c.requires.behind _ c.shape_at.ensures.value c.in_default.is sc)

pub well_formed-returns-in-Lambda : goal.well_formed-returns-in-Lambda
well_formed-returns-in-Lambda t c =
    let N = node_at_lem c.requires c.in-Some.ensures.there in
    let S = (told c.args.words.now c.args.at c.requires.behind _ c.shape_at.ensures.value _ (c.in-Some.is ∙ ap Some c.in-Lambda.is) sc) in
    a_scheme_lambda N _ _ _ c.requires.linked c.link_to.ensures c.well_formed-in-Lambda.ensures S

pub well_formed-returns-in-Operator1 : goal.well_formed-returns-in-Operator1
well_formed-returns-in-Operator1 t c =
    let N = node_at_lem c.requires c.in-Some.ensures.there in
    let S = (told c.args.words.now c.args.at c.requires.behind _ c.shape_at.ensures.value _ (c.in-Some.is ∙ ap Some c.in-Operator1.is) sc) in
    scheme_operator_1 _ N c.well_formed-in-Operator1.ensures S

pub well_formed-returns-in_err-second-in-Operator2 : goal.well_formed-returns-in_err-second-in-Operator2
well_formed-returns-in_err-second-in-Operator2 t c =
    let N = node_at_lem c.requires c.in-Some.ensures.there in
    let S = (told c.args.words.now c.args.at c.requires.behind _ c.shape_at.ensures.value _ (c.in-Some.is ∙ ap Some c.in-Operator2.is) sc) in
    rw (passed_on _ c.from_residual.ensures.1)
    (one_bad N c.well_formed-in-Operator2.ensures (ap formed c.in_err-second-in-Operator2.was)
    (parted_2 sc c.args.words.now c.args.at (several_2 sc c.args.words.now c.args.at _ S)))

pub well_formed-returns-in_ok-second-in-Operator2 : goal.well_formed-returns-in_ok-second-in-Operator2
well_formed-returns-in_ok-second-in-Operator2 t c =
    let N = node_at_lem c.requires c.in-Some.ensures.there in
    let S = (told c.args.words.now c.args.at c.requires.behind _ c.shape_at.ensures.value _ (c.in-Some.is ∙ ap Some c.in-Operator2.is) sc) in
    let A = one_of N c.well_formed-in-Operator2.ensures (ap formed c.in_ok-second-in-Operator2.was) in
    scheme_operator_2 _ A c.well_formed-in-Operator2-2.ensures S

pub well_formed-returns-in_err-second-in-If0 : goal.well_formed-returns-in_err-second-in-If0
well_formed-returns-in_err-second-in-If0 t c =
    let N = node_at_lem c.requires c.in-Some.ensures.there in
    let S = (told c.args.words.now c.args.at c.requires.behind _ c.shape_at.ensures.value _ (c.in-Some.is ∙ ap Some c.in-If0.is) sc) in
    rw (passed_on _ c.from_residual-in_err-second-in-If0.ensures.1)
    (one_bad N c.well_formed-in-If0.ensures (ap formed c.in_err-second-in-If0.was)
    (parted_2 sc c.args.words.now c.args.at (several_3 sc c.args.words.now c.args.at S)))

pub well_formed-returns-in_err-third-in-If0 : goal.well_formed-returns-in_err-third-in-If0
well_formed-returns-in_err-third-in-If0 t c =
    let N = node_at_lem c.requires c.in-Some.ensures.there in
    let S = (told c.args.words.now c.args.at c.requires.behind _ c.shape_at.ensures.value _ (c.in-Some.is ∙ ap Some c.in-If0.is) sc) in
    let A = one_of N c.well_formed-in-If0.ensures (ap formed c.in_ok-second-in-If0.was) in
    rw (passed_on _ c.from_residual-in_err-third-in-If0.ensures.1)
    (two_bad A c.well_formed-in-If0-2.ensures (ap formed c.in_err-third-in-If0.was) (several_3 sc c.args.words.now c.args.at S))

pub well_formed-returns-in_ok-third-in-If0 : goal.well_formed-returns-in_ok-third-in-If0
well_formed-returns-in_ok-third-in-If0 t c =
    let N = node_at_lem c.requires c.in-Some.ensures.there in
    let S = (told c.args.words.now c.args.at c.requires.behind _ c.shape_at.ensures.value _ (c.in-Some.is ∙ ap Some c.in-If0.is) sc) in
    let A = one_of N c.well_formed-in-If0.ensures (ap formed c.in_ok-second-in-If0.was) in
    scheme_if0 (two_of A c.well_formed-in-If0-2.ensures (ap formed c.in_ok-third-in-If0.was)) c.well_formed-in-If0-3.ensures S

pub well_formed-returns-in-Boundary : goal.well_formed-returns-in-Boundary
well_formed-returns-in-Boundary t c =
    let N = node_at_lem c.requires c.in-Some.ensures.there in
    let S = (told c.args.words.now c.args.at c.requires.behind _ c.shape_at.ensures.value _ (c.in-Some.is ∙ ap Some c.in-Boundary.is) sc) in
    a_boundary N c.type_end-start.ensures c.infer-one.ensures S c.at_sm.ensures
