-- `exports::saves::recipe_save` meets its contract, for all words and every buffer. Assumes nothing.
use mathlib.Core.Path.{ap}
use native.Mathlib.Omega.{arith}
use Rattle.nodes.specs.declared.refusals.Numbers.{Numbers}
use Rattle.exports.proofs.Filing.{save_place, save_bytes}
use Rattle.exports.proofs.saves.recipe_save.Goals as goal

pub overflow_cast-result : goal.overflow_cast-result
overflow_cast-result c = let s = c.save in record { fits = omega (arith, save_bytes _ _ _ s.result s.ensures.answer_is c.in-Ok.n c.in-Ok.is) }

pub overflow_cast-result-in-Err : goal.overflow_cast-result-in-Err
overflow_cast-result-in-Err c =
    let s = c.save in
    record {
      fits =
          omega
          (arith, ap (λ (n : Numbers). n.place) c.from-told.ensures, save_place _ _ _ s.result s.ensures.answer_is c.in-Err.why c.in-Err.is);
    }
