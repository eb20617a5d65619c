-- What the tests of a file's size and of its header say of the numbers. Assumes nothing.
use mathlib.Core.Path.{◌≡◌}
use mathlib.Core.Bool.{true}
use mathlib.Core.List.{List}
use Prim.Native.Nat.{ℕ, ◌+◌, ◌%◌, ◌≤◌}
use native.Mathlib.Omega.{arith}
use lib.ListN.{length, get_or}
use Rattle.std.proofs.Common.{tests}
use Rattle.calculus.specs.File.{is_size, is_header, type_count}

-- The numbers of a size that a file can have.
pub record Sized (n : ℕ) : Type 0 where
  pub least : 24 ≤ n
  pub most : n ≤ 16384
  pub whole : n % 4 ≡ 0

-- They follow from the test.
pub size_fits : (n : ℕ) → is_size n ≡ true → Sized n
size_fits n e = grind (arith, tests)

-- The numbers of a header that fits its words.
pub record HeaderFits (ws : List ℕ) : Type 0 where
  pub types : 1 ≤ type_count ws
  pub types_from : get_or ws 1 0 ≡ 4
  pub terms : 1 ≤ get_or ws 2 0
  pub terms_from : get_or ws 3 0 ≡ 4 + type_count ws
  pub ends : get_or ws 3 0 + get_or ws 2 0 ≡ length ws

-- They follow from the test.
pub header_fits : (ws : List ℕ) → is_header ws ≡ true → HeaderFits ws
header_fits ws e = grind (arith, tests)

-- And the test follows from them.
pub header_is : (ws : List ℕ) → HeaderFits ws → is_header ws ≡ true
header_is ws f = grind (arith, tests)
