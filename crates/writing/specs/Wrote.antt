-- Items put into a buffer. Those past its end are only counted, so that the place after them tells how many were wanted.
use Rattle.std.specs.Prelude.{ℕ, ◌+◌, ◌-◌, List, ◌++◌, ◌≡◌, length, take, replicate}
use Rattle.std.proofs.lemmas.List.Edits.{sets}

-- From the buffer b, the items xs at the place n, as far as b goes: k is the place after them, whether or not they fit, and b' is b then.
pub record Wrote {T : Type 0} (b : List T) (n : ℕ) (xs : List T) (k : ℕ) (b' : List T) : Type 0 where
  pub place : k ≡ n + length xs
  pub stored : b' ≡ sets b n xs

-- The items xs, cut to m of them or filled up with x.
abbrev pub filled_to : {T : Type 0} → ℕ → T → List T → List T
filled_to m x xs = take m xs ++ replicate (m - length xs) x
