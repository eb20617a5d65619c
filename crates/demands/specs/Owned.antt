-- Document 02, U6: what owners do to the check and to a run, of one pair of files: what the contract of `run_ownerless` in src/lib.rt says.
use Rattle.std.specs.Prelude.{◌↔◌, ◌≡◌, take, Result, Ok, Err}
use Rattle.calculus.specs.Owners.{ownerless_words, Ownerless}
use Rattle.nodes.specs.declared.refusals.Refusal.{Refusal}
use Rattle.nodes.specs.declared.refusals.Refusal.TheVariants.{Capacity}
use Rattle.ends.specs.declared.Report.{Report}
use Rattle.ends.specs.Results.{told}
use Rattle.engine.specs.Lent.{Lent, Returned, room}
use Rattle.demands.specs.Demanded.{RecipeOf, Once}

-- The same numbers as the first run's, which reports x, and the same words left, without their owners.
pub record SameOwnerless (x : Report) (g h : Returned) : Type 0 where
  pub report : Report
  pub ended : h.answer ≡ Ok report
  pub numbers : told report ≡ told x
  pub words : take x.left h.first ≡ ownerless_words (take x.left g.first)

-- Owners refuse recipes and change no run. What l lends is run, which gives g back; the file that m lends is checked, which answers c, and run, which
-- gives h back. If it is the first file without its owners, it is accepted if that one is, and under the same limits it ends the same, or is refused
-- by 8 where that one is.
pub record WithoutOwners (l : Lent) (g : Returned) (c : Result (Unit {0}) Refusal) (m : Lent) (h : Returned) : Type 0 where
  pub first : Once l g
  pub second : Once m h
  pub accepts : (c ≡ Ok tt) ↔ RecipeOf m.bytes
  pub accepted : Ownerless l.bytes m.bytes → RecipeOf l.bytes → c ≡ Ok tt
  pub same : Ownerless l.bytes m.bytes → l.limit ≡ m.limit → room l ≡ room m → (x : Report) → g.answer ≡ Ok x → SameOwnerless x g h
  pub over : Ownerless l.bytes m.bytes → room l ≡ room m → g.answer ≡ Err Capacity → h.answer ≡ Err Capacity
