-- A refusal fits one number, for its place is in the file; a run's numbers fit 32 bits, for its words fit the capacity. Assumes nothing.
use Prim.Native.Nat.{ℕ, ◌≤◌}
use mathlib.Core.Bool.{Bool, true, false}
use mathlib.Core.List.{List}
use mathlib.Core.Path.{◌≡◌, refl, sym, ap, ◌∙◌, subst}
use lib.Dec.{leb}
use lib.ListN.{length}
use native.Mathlib.Omega.{arith}
use Rattle.calculus.specs.Words.{size}
use Rattle.calculus.specs.Verdicts.{Verdict, refused, passed, and_then, unless}
use Rattle.std.specs.Prelude.{Result, Ok, Err}
use Rattle.calculus.specs.Run as runs
use Rattle.calculus.specs.Run.{run, uncounted, capacity}
use Rattle.calculus.specs.File.{words_of, is_size, check_words, check, Recipe, run_in, operate}
use Rattle.calculus.proofs.Verdicts.{not_both, passed_injective}
use Rattle.calculus.proofs.Bounds.{operate_bounded}
use Rattle.calculus.proofs.Refusing.{PlaceWithin, words_within}
use Rattle.calculus.proofs.Files.{size_iff}
use Rattle.file.proofs.Bytes.{words_length}
use Rattle.nodes.specs.declared.refusals.Refusal.{Refusal}
use Rattle.nodes.specs.Refusals.{place_of}
use Rattle.checker.specs.Checks.{checked, accepting}
use Rattle.ends.specs.declared.Report.{Report}
use Rattle.ends.specs.Results.{Line, line_of, told}
use Rattle.engine.specs.Answered.{spoken}

accepting_within : (b : ℕ) (v : Verdict Recipe) → PlaceWithin b v → PlaceWithin b (accepting v)
accepting_within b (refused n p) h = h
accepting_within b (passed x) h = tt

within_more : (a b : ℕ) (v : Verdict Recipe) → a ≤ b → PlaceWithin a v → PlaceWithin b v
within_more a b (refused n p) h i = omega (arith, i)
within_more a b (passed x) h i = tt

-- Where the size is refused, the place is 0; else the file has at most 4,096 words.
pub check_within : (bytes : List ℕ) → PlaceWithin 4096 (check bytes)
unfolding check
check_within bytes = by (is_size (length bytes)) refl
  where
    by : (b : Bool) → is_size (length bytes) ≡ b → PlaceWithin 4096 (unless b 1 0 (check_words (words_of bytes)))
    by true q =
        let few : length (words_of bytes) ≤ 4096 = omega (arith, words_length bytes, ((size_iff (length bytes)).0 q).0.1) in
        within_more (length (words_of bytes)) 4096 (check_words (words_of bytes)) few (words_within (words_of bytes))
    by false q = omega arith

pub refused_place : (bytes : List ℕ) (r : Refusal) (x : Result (Unit {0}) Refusal) → x ≡ Err r → checked x ≡ accepting (check bytes)
    → place_of r ≤ 4096
refused_place bytes r x q e =
    subst (PlaceWithin 4096) (sym (sym (ap checked q) ∙ e)) (accepting_within 4096 (check bytes) (check_within bytes))

-- The same of a run.
module _ (bytes : List ℕ) (limit n m : ℕ) where
  run_within : (v : Verdict Recipe) → PlaceWithin 4096 v → PlaceWithin 4096 (and_then v (λ x. run_in limit (capacity n m) x))
  unfolding run_in
  run_within (refused r p) h = h
  run_within (passed x) h = by (leb (size x.1) (capacity n m))
    where
      by : (b : Bool) → PlaceWithin 4096 (unless b 8 0 (passed (run limit (capacity n m) uncounted x.1)))
      by true = tt
      by false = omega arith

  operate_within : PlaceWithin 4096 (operate bytes limit n m)
  unfolding operate
  operate_within = run_within (check bytes) (check_within bytes)

  lines_within : (v : Verdict runs.Result) → PlaceWithin 4096 v → PlaceWithin 4096 (and_then v (λ y. passed (line_of y)))
  lines_within (refused r p) h = h
  lines_within (passed y) h = tt

  module _ (a : Result Report Refusal) (h : spoken a ≡ and_then (operate bytes limit n m) (λ y. passed (line_of y))) where
    -- The place of a refusal.
    pub run_place : (r : Refusal) → a ≡ Err r → place_of r ≤ 4096
    run_place r q = subst (PlaceWithin 4096) (sym (sym (ap spoken q) ∙ h)) (lines_within (operate bytes limit n m) operate_within)

    -- The words left and the words wanted.
    pub run_words : (x : Report) → a ≡ Ok x → (x.left ≤ 16384) × (x.wanted ≤ 268435456)
    run_words x q = by (operate bytes limit n m) refl (sym (ap spoken q) ∙ h)
      where
        by : (v : Verdict runs.Result) → operate bytes limit n m ≡ v → passed (told x) ≡ and_then v (λ y. passed (line_of y))
            → (x.left ≤ 16384) × (x.wanted ≤ 268435456)
        by (refused i p) o e = absurd (not_both i p (told x) (sym e))
        by (passed y) o e =
            let t = passed_injective (told x) (line_of y) e in
            let l : x.left ≡ length y.left = ap (λ (z : Line). z.left) t in
            let w : x.wanted ≡ y.wanted = ap (λ (z : Line). z.wanted) t in
            let b = operate_bounded bytes limit n m y o in
            (omega (arith, l, b.0), omega (arith, w, b.1))
