-- The text by what a run is told in is the listing's. Assumes nothing.
use Prim.Native.Nat.{ℕ, ◌≤◌}
use mathlib.Core.List.{List}
use mathlib.Core.Path.{◌≡◌, refl, ap, ◌∙◌}
use native.Mathlib.Omega.{arith}
use lib.ListN.{length}
use Rattle.calculus.specs.Verdicts.{Verdict, refused, passed, and_then}
use Rattle.calculus.specs.Run.{Result}
use Rattle.calculus.specs.File.{operate, left_by, first_after}
use Rattle.calculus.proofs.Bounds.{operate_bounded}
use Rattle.calculus.proofs.Padding.{padded_take, padded_length}
use Rattle.ends.specs.Results.{Line, line_of}
use Rattle.lister.specs.Listing.{text_of, listing}
use Rattle.lister.specs.Numbered.{text_by, LeftWithin, WantedFew}

-- What a run is told in.
abbrev told_of : Verdict Result → Verdict Line
told_of v = and_then v (λ r. passed (line_of r))

-- Of the run that the listing makes: the words left stand in the first buffer, and the text.
module _ (bytes : List ℕ) where
  abbrev ran : Verdict Result
  ran = operate bytes 1000000 4096 4096

  left_few : (r : Result) → ran ≡ passed r → length r.left ≤ 4096
  left_few r q = (operate_bounded bytes 1000000 4096 4096 r q).0

  within : (v : Verdict Result) → ran ≡ v → LeftWithin (told_of v) (first_after 4096 v)
  within (refused n p) q = tt
  within (passed r) q = omega (arith, left_few r q, padded_length 4096 r.left)

  few : (v : Verdict Result) → ran ≡ v → WantedFew (told_of v)
  few (refused n p) q = tt
  few (passed r) q = (operate_bounded bytes 1000000 4096 4096 r q).1

  text_of_lem : (v : Verdict Result) → ran ≡ v → text_by (told_of v) (first_after 4096 v) ≡ text_of v
  text_of_lem (refused n p) q = refl
  text_of_lem (passed r) q = rw (padded_take 4096 (length r.left) r.left (left_few r q) refl)

  module _ (x : Verdict Line) (first : List ℕ) (told : x ≡ told_of ran) (held : first ≡ first_after 4096 ran) where
    pub first_long : length first ≡ 4096
    first_long = ap length held ∙ padded_length 4096 (left_by ran)

    pub left_within : LeftWithin x first
    left_within = rw (told, held) (within ran refl)

    pub wanted_few : WantedFew x
    wanted_few = rw told (few ran refl)

    pub text_is : text_by x first ≡ listing bytes
    unfolding listing
    text_is = rw (told, held) (text_of_lem ran refl)
