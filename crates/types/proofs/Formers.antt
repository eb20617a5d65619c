-- Whether types are formed in one way, as code tests it. Assumes nothing.
use Prim.Native.Nat.{ℕ}
use mathlib.Core.Bool.{Bool, true, false, not}
use mathlib.Core.Path.{◌≡◌, refl, ap}
use native.Mathlib.Omega.{arith}
use denote.Enum.Bare.{differs_true, differs_false}
use Rattle.std.proofs.Common.{Option, None, Some}
use Rattle.std.specs.Option.{option_eq}
use Rattle.types.proofs.Pairs.{some_is}
use Rattle.types.specs.declared.Former.{Former}
use Rattle.types.specs.contracts.Former.{the_type}
use Rattle.types.specs.contracts.FormerPartialEq.TheImpl as impl

abbrev eq : Option Former → Option Former → Bool
eq a b = option_eq impl.eq-value.it a b

pub one_way : (a b : Option Former) → not (eq a b) ≡ false → a ≡ b
one_way None None q = refl
one_way None (Some y) q = let z : ◌≡◌ {A = ℕ} 0 1 = cc in absurd (omega (arith, z))
one_way (Some x) None q = let z : ◌≡◌ {A = ℕ} 0 1 = cc in absurd (omega (arith, z))
one_way (Some x) (Some y) q = ap Some (differs_false the_type tt x y q)

pub two_ways : (a b : Option Former) → not (eq a b) ≡ true → a ≡ b → ⊥
two_ways None None q e = let z : ◌≡◌ {A = ℕ} 0 1 = cc in omega (arith, z)
two_ways None (Some y) q e = let z : ◌≡◌ {A = ℕ} 0 1 = cc in omega (arith, z)
two_ways (Some x) None q e = let z : ◌≡◌ {A = ℕ} 0 1 = cc in omega (arith, z)
two_ways (Some x) (Some y) q e = differs_true the_type x y q (some_is e)
