-- The numbers of a save fit 32 bits, and are those of the specification's. Assumes nothing.
use Prim.Native.Nat.{ℕ, ◌≤◌}
use mathlib.Core.List.{List}
use mathlib.Core.Logic.{inl, inr}
use mathlib.Core.Path.{◌≡◌, sym, ap, ◌∙◌}
use native.Mathlib.Omega.{arith}
use lib.ListN.{length}
use Rattle.std.specs.Prelude.{Result, Ok, Err}
use Rattle.saving.specs.Saving.{file_bytes, saving}
use Rattle.saving.specs.Refusals.{number_of, place_of}
use Rattle.saving.specs.Laws.{Numbered}
use Rattle.saving.specs.Answered.{spoken, length_of}
use Rattle.saving.specs.declared.Unsaved.{Unsaved}
use Rattle.saving.proofs.Saving.{refused_by_lem, passed_by}
use Rattle.saving.proofs.Laws.{exactly}

module _ (types terms : List ℕ) (room : ℕ) (a : Result ℕ Unsaved) (h : spoken a ≡ length_of (saving types terms room)) where
  -- The place of a refusal, and the length of a file.
  pub save_place : (u : Unsaved) → a ≡ Err u → place_of u ≤ 4096
  save_place u q =
      let x = exactly types terms room in
      let r = refused_by_lem (saving types terms room) u (sym (ap spoken q) ∙ h) in
      by (x.no_other (number_of u) (place_of u) r) (λ i. ((x.others (number_of u) (place_of u) i).0 r).0)
    where
      by : Numbered types terms (number_of u) (place_of u)
          → (number_of u ≤ 7 → file_bytes (length types) (length terms) ≤ 16384)
          → place_of u ≤ 4096
      by (inl i) few = omega (arith, i.2, few i.1)
      by (inr i) few = omega (arith, i.1)

  pub save_bytes : (n : ℕ) → a ≡ Ok n → n ≤ 16384
  save_bytes n q =
      let f = passed_by (saving types terms room) n (sym (ap spoken q) ∙ h) in
      omega (arith, f.2, (((exactly types terms room).saves f.0).0 f.1).0.accepted.filed.most)
