-- `layout::up_to` meets its contract: before each turn the blanks up to the writer's place are put. Assumes nothing.
use Prim.Native.Nat.{ℕ, ◌-◌}
use mathlib.Core.Path.{◌≡◌, ap}
use native.Mathlib.Omega.{arith}
use lib.ListN.{replicate}
use Rattle.writing.proofs.Stores.{puts_then, puts_as}
use Rattle.text.specs.Characters.{blank}
use Rattle.layout.proofs.Aligning.{blanks_more}
use Rattle.layout.proofs.up_to.Goals as goal

pub loop-preserved : goal.loop-preserved
loop-preserved c =
    let i = c.loop.invariant in
    record {
      place = omega (arith, i.place, c.put.ensures.wrote.place);
      within = omega arith;
      put = puts_as (blanks_more c.args.text.now.at c.loop.counter (omega arith)) (puts_then i.put c.put.ensures);
    }

pub returns-clause-put : goal.returns-clause-put
returns-clause-put c =
    let start = c.args.text.now.at in
    let e : c.loop.counter - start ≡ c.args.end - start = omega (arith, c.loop.invariant.within) in
    puts_as (ap (λ (i : ℕ). replicate i blank) e) c.loop.invariant.put
