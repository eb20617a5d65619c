-- The ways out of the walk over variables: w and `rest` are the words left, `at` are gone by, so many nodes are due, and Γ are the lambdas around.
-- Assumes nothing.
use Rattle.std.proofs.Common.{ℕ, zero, suc, ◌+◌, ◌-◌, true, false, List, ◌∷◌, ◌≡◌, refl, sym, ap, ◌∙◌, length, take, drop, replicate, arith}
use Rattle.calculus.specs.Verdicts.{Verdict, refused, passed}
use Rattle.calculus.specs.Trees.{Lang}
use Rattle.calculus.specs.Reading.{opens, later, walk}
use Rattle.calculus.specs.Scope.{is_free, inside, part_count, scope_due}
use Rattle.nodes.specs.declared.refusals.Refusal.{Refusal}
use Rattle.nodes.specs.Refusals.{refusal}
use Rattle.nodes.proofs.Ways as ways

pub nothing_due : (ws : List ℕ) (at due : ℕ) (Γ : List Lang) → due ≡ 0 → passed at ≡ later at (walk scope_due ws (replicate due Γ))
nothing_due ws at due Γ h = rw h (ways.done scope_due ws at)

module _ (at due : ℕ) (Γ : List Lang) (some : due ≡ 0 → ⊥) where
  one_first : replicate due Γ ≡ Γ ∷ replicate (due - 1) Γ
  one_first = by due some
    where
      by : (n : ℕ) → (n ≡ 0 → ⊥) → replicate n Γ ≡ Γ ∷ replicate (n - 1) Γ
      by zero h = absurd (h refl)
      by (suc n) h = ap (λ (m : ℕ). Γ ∷ replicate m Γ) (omega arith)

  pub run_out : (ws : List ℕ) → length ws ≡ 0 → refused 3 at ≡ later at (walk scope_due ws (replicate due Γ))
  run_out ws h = rw one_first (ways.run_out scope_due ws at Γ (replicate (due - 1) Γ) h)

  module _ (w : ℕ) (rest : List ℕ) where
    pub free : true ≡ is_free Γ w → refused 5 at ≡ later at (walk scope_due (w ∷ rest) (replicate due Γ))
    free h = rw one_first (ways.stopped scope_due w rest at Γ (replicate (due - 1) Γ) 5 (rw (sym h)))

    -- So many parts were walked over, inside the lambdas Δ.
    module _ (bound : false ≡ is_free Γ w) (count : ℕ) (Δ : List Lang) (parts : count ≡ part_count w) (within : Δ ≡ inside Γ w) where
      opened : scope_due Γ w ≡ opens (replicate count Δ)
      opened = rw (sym bound, parts, within)

      pub refused_there : (x : Refusal) → refusal x ≡ later (at + 1) (walk scope_due rest (replicate count Δ))
          → refusal x ≡ later at (walk scope_due (w ∷ rest) (replicate due Γ))
      refused_there x e = rw one_first (ways.refused_there scope_due w rest at Γ (replicate (due - 1) Γ) (replicate count Δ) opened x e)

      pub goes_on : (n : ℕ) → passed n ≡ later (at + 1) (walk scope_due rest (replicate count Δ)) → (v : Verdict ℕ)
          → v ≡ later n (walk scope_due (drop (n - at) (w ∷ rest)) (replicate (due - 1) Γ))
          → v ≡ later at (walk scope_due (w ∷ rest) (replicate due Γ))
      goes_on n e v g = rw one_first (ways.goes_on scope_due w rest at Γ (replicate (due - 1) Γ) (replicate count Δ) opened n e v g)

-- Cut down to the length that it had, the scope is as it was.
pub cut_back : {A : Type 0} (old entered walked cut : List A) (depth : ℕ) → depth ≡ length old → take (length old) entered ≡ old → walked ≡ entered
    → cut ≡ take depth walked → cut ≡ old
cut_back old entered walked cut depth d k w c = c ∙ rw (d, w) k
