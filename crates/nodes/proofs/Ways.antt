-- The ways out of code that walks, for any meaning f of the words: w and `rest` are the words left, `at` are gone by, d is due, and then ds. Assumes
-- nothing.
use Rattle.std.proofs.Common.{ℕ, ◌+◌, ◌-◌, ◌≤◌, List, [], ◌∷◌, Result, Ok, Err, IsErrAnd}
use Rattle.std.proofs.Common.{◌≡◌, refl, sym, ap, ◌∙◌, length, take, drop, arith, length-drop}
use borrow.Author.Rules.{part_to_end}
use native.Mathlib.Nat.{add-zero}
use Rattle.calculus.specs.Verdicts.{Verdict, refused, passed}
use Rattle.calculus.specs.Reading.{Act, opens, refuses, later, walk}
use Rattle.calculus.proofs.Walks.{walk_done, walk_end, stops, parts_stop, parts_pass, reach_from}
use Rattle.nodes.specs.declared.refusals.Refusal.{Refusal}
use Rattle.nodes.specs.Refusals.{number_of, place_of, refusal}

-- How long a part of the words is that goes to their end.
pub part_length : (ws : List ℕ) (a : ℕ) → length (take (length ws - a) (drop a ws)) ≡ length ws - a
part_length ws a = rw (part_to_end ws a) (length-drop a ws)

pub done : {D : Type 0} (f : D → ℕ → Act D) (ws : List ℕ) (at : ℕ) → passed at ≡ later at (walk f ws [])
done f ws at = rw (walk_done f ws, add-zero at)

pub run_out : {D : Type 0} (f : D → ℕ → Act D) (ws : List ℕ) (at : ℕ) (d : D) (ds : List D) → length ws ≡ 0
    → refused 3 at ≡ later at (walk f ws (d ∷ ds))
run_out f ws at d ds h = rw (walk_end f ws d ds h, add-zero at)

-- An error that `?` hands on as it is.
pub as_err : {A E : Type 0} (r : Result A E) (x : E) → IsErrAnd r (λ e. e ≡ x) → r ≡ Err x
as_err (Ok a) x h = absurd h
as_err (Err e) x h = ap Err h

-- Where a walk over the parts of a word ends, if it does: behind the word, and within the words.
pub record Ends (at n : ℕ) (rest : List ℕ) : Type 0 where
  pub after : at + 1 ≤ n
  pub within : n ≤ at + 1 + length rest

pub ends : {D : Type 0} (f : D → ℕ → Act D) (rest : List ℕ) (at n : ℕ) (ps : List D) → passed n ≡ later (at + 1) (walk f rest ps)
    → Ends at n rest
ends f rest at n ps e =
    let b = reach_from f (at + 1) rest ps (passed n) e in
    record { after = omega arith; within = omega arith }

-- What the answer of the walk over a word's parts says of the whole walk.
module _ {D : Type 0} (f : D → ℕ → Act D) (w : ℕ) (rest : List ℕ) (at : ℕ) (d : D) (ds : List D) where
  abbrev whole : Verdict ℕ
  whole = later at (walk f (w ∷ rest) (d ∷ ds))

  some : length (w ∷ rest) ≡ 0 → ⊥
  some h = omega (arith, h)

  pub stopped : (r : ℕ) → f d w ≡ refuses r → refused r at ≡ whole
  stopped r e = sym (stops f at (w ∷ rest) d ds some r e ∙ rw (add-zero at))

  -- The parts were walked over.
  module _ (ps : List D) (o : f d w ≡ opens ps) where
    pub refused_there : (r : Refusal) → refusal r ≡ later (at + 1) (walk f rest ps) → refusal r ≡ whole
    refused_there r e = sym (parts_stop f at (w ∷ rest) d ds some ps (refusal r) (number_of r) (place_of r) o e refl)

    module _ (n : ℕ) (e : passed n ≡ later (at + 1) (walk f rest ps)) where
      pub goes_on : (v : Verdict ℕ) → v ≡ later n (walk f (drop (n - at) (w ∷ rest)) ds) → v ≡ whole
      goes_on v g = g ∙ sym (parts_pass f at (w ∷ rest) d ds some ps (passed n) n o e refl)
