-- `pricing::cost` meets its contract. Assumes nothing.
use mathlib.Core.Path.{ap}
use Rattle.std.proofs.Common.{rules, tests}
use native.Mathlib.Omega.{arith}
use Rattle.ends.specs.Results.{end_of}
use Rattle.pricing.proofs.Billing.{too_many, in_full, default_charges, no_value}
use Rattle.pricing.proofs.cost.Goals as goal

pub returns-then-found-gt9 : goal.returns-then-found-gt9
returns-then-found-gt9 c = too_many c.read-found.ensures (ap end_of c.in-Value.is) (omega (arith, c.if-found-gt9.true))

pub returns-else-found-gt9 : goal.returns-else-found-gt9
returns-else-found-gt9 c = in_full c.read-found.ensures (ap end_of c.in-Value.is) c.charged.ensures (omega (arith, c.if-found-gt9.false))

pub returns-in-Spent : goal.returns-in-Spent
returns-in-Spent c =
    rw (default_charges _ c.default.ensures) (no_value (λ v. search (rules, tests)))
