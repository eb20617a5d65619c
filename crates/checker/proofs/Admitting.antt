-- A file that is opened and judged: refused as the check refuses it, or accepted with its counts. Assumes nothing.
use Prim.Native.Nat.{ℕ, ◌+◌}
use mathlib.Core.List.{List}
use mathlib.Core.Path.{◌≡◌, refl, sym, ap, ◌∙◌}
use lib.ListN.{length}
use native.Mathlib.Omega.{arith}
use Rattle.calculus.specs.Verdicts.{Verdict, refused, passed, and_then}
use Rattle.calculus.specs.File.{words_of, type_count, Recipe, check_words, check, padded}
use Rattle.calculus.proofs.Verdicts.{not_both, passed_injective}
use Rattle.file.specs.Opening.{opening, kept}
use Rattle.file.proofs.Tests.{header_is}
use Rattle.file.proofs.Opening.{Opens, opens, check_refused, check_opened}
use Rattle.checker.specs.Checks.{TermAt, accepting, judging, admitting}

-- What was refused, or passed, whatever passes.
module _ {A : Type 0} (a : A) where
  refuses : (v : Verdict Recipe) {n p : ℕ} → refused n p ≡ and_then v (λ x. passed a) → v ≡ refused n p
  refuses (refused m q) {n} {p} e = let z : ◌≡◌ {A = Verdict Recipe} (refused m q) (refused n p) = cc in z
  refuses (passed x) {n} {p} e = absurd (not_both n p a e)

  passes : (v : Verdict Recipe) (b : A) → passed b ≡ and_then v (λ x. passed a) → (x : Recipe) × (v ≡ passed x) × (b ≡ a)
  passes (refused m q) b e = absurd (not_both m q b (sym e))
  passes (passed x) b e = (x, refl, passed_injective b a e)

-- How many words a file's declared type has, and how many it has itself, where a verdict passes.
abbrev admitted : List ℕ → Verdict Recipe → Verdict (ℕ × ℕ)
admitted bs v = and_then v (λ x. passed (type_count (words_of bs), length (words_of bs)))

-- The words of a file that is opened are judged as the check does.
judged_as : {bs all : List ℕ} {types n : ℕ} → Opens bs all types n → judging (words_of bs) types ≡ check bs
unfolding check_words
judged_as {bs} {all} {types} o =
    ap (judging (words_of bs)) o.types_are ∙ sym (o.check_is ∙ rw (header_is (words_of bs) o.fits))

pub term_at : {bs all : List ℕ} {types n : ℕ} → Opens bs all types n → TermAt (words_of bs) (4 + types)
term_at o =
    record {
      behind = omega arith;
      within = omega (arith, o.types_are, o.fits.terms_from, o.fits.ends);
      few = omega (arith, o.few, o.count_is);
    }

-- The ways out of admitting a file.
pub unopened : (bs : List ℕ) {n p : ℕ} → refused n p ≡ opening bs → refused n p ≡ admitting bs
unopened bs e = sym (ap (admitted bs) (check_refused bs e))

module _ {bs all : List ℕ} {types n : ℕ} (o : Opens bs all types n) where
  pub judged_out : {m p : ℕ} → refused m p ≡ accepting (judging (words_of bs) types) → refused m p ≡ admitting bs
  judged_out {m} {p} e =
      let c : check bs ≡ refused m p = refuses tt (check bs) (e ∙ ap accepting (judged_as o)) in
      sym (ap (admitted bs) c)

  pub judged_in : passed tt ≡ accepting (judging (words_of bs) types) → passed (types, n) ≡ admitting bs
  judged_in e =
      let c = passes tt (check bs) tt (e ∙ ap accepting (judged_as o)) in
      ap passed (ap (λ (i : ℕ). (i, n)) o.types_are ∙ ap (λ (i : ℕ). (type_count (words_of bs), i)) o.count_is)
      ∙ sym (ap (admitted bs) c.1)

-- What is known of a file by its answer: refused by the check, or a recipe whose words were left in the array `all`.
pub not_admitted : (bs : List ℕ) {n p : ℕ} → refused n p ≡ admitting bs → check bs ≡ refused n p
not_admitted bs e = refuses (type_count (words_of bs), length (words_of bs)) (check bs) e

pub record Admits (bs all : List ℕ) (types n : ℕ) : Type 0 where
  pub recipe : Recipe
  pub accepted : check bs ≡ passed recipe
  pub opened : Opens bs all types n

pub admits : (bs all : List ℕ) {types n : ℕ} → passed (types, n) ≡ admitting bs → all ≡ padded 4096 (kept bs) → Admits bs all types n
admits bs all {types} {n} e a =
    let c = passes (type_count (words_of bs), length (words_of bs)) (check bs) (types, n) e in
    record { recipe = c.0; accepted = c.1; opened = opens bs all (ap passed c.2 ∙ check_opened bs c.0 c.1) a }
