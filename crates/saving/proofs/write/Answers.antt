-- `saving::write` meets its contract, for all words and every buffer: each way out is one law of Saving. Assumes nothing.
use Prim.Native.Nat.{ℕ}
use mathlib.Core.Path.{sym, ap, ◌∙◌}
use native.Mathlib.Omega.{arith}
use borrow.Author.Tests.{leb-true}
use lib.ListN.{length, length-replicate}
use Rattle.std.proofs.lemmas.Result.{err_from_is_err_and}
use Rattle.checker.specs.Checks.{checked}
use Rattle.saving.specs.Parts.{FewWords}
use Rattle.saving.specs.Saving.{file_bytes}
use Rattle.saving.proofs.Saving.{refused_12, refused_by_check, judged_and_put}
use Rattle.saving.proofs.write.Goals as goal

pub returns-then-not-fits : goal.returns-then-not-fits
returns-then-not-fits c = let a = c.args in refused_12 a.types.now a.terms.now a.out.now (sym c.fits.ensures ∙ c.if-not-fits.true)

pub returns-in_err-judge : goal.returns-in_err-judge
returns-in_err-judge c =
    let a = c.args in
    let few : FewWords a.types.now a.terms.now =
    omega (arith, leb-true (file_bytes (length a.types.now) (length a.terms.now)) 16384 (sym c.fits.ensures ∙ c.if-not-fits.false)) in
    let p = err_from_is_err_and c.from_residual.result c.from_residual.ensures.1 in
    let told = sym (ap checked c.in_err-judge.was) ∙ c.judge.ensures in
    rw (p.1, p.2)
    (refused_by_check a.types.now a.terms.now few (length-replicate {A = ℕ} 4096 0) c.fill-count.ensures a.out.now _ told)

pub returns : goal.returns
returns c =
    let a = c.args in
    let few : FewWords a.types.now a.terms.now =
    omega (arith, leb-true (file_bytes (length a.types.now) (length a.terms.now)) 16384 (sym c.fits.ensures ∙ c.if-not-fits.false)) in
    let told = sym (ap checked c.in_ok-judge.was) ∙ c.judge.ensures in
    judged_and_put a.types.now a.terms.now few (length-replicate {A = ℕ} 4096 0) c.fill-count.ensures a.out.now told c.put_file.ensures
