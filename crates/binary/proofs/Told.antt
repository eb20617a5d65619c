-- What the words of its parts tell of an operator of two parts, or of an if0. Assumes nothing.
use Prim.Native.Nat.{ℕ, ◌+◌, ◌-◌, ◌<◌, ◌≤◌}
use mathlib.Core.List.{List, [], ◌∷◌}
use mathlib.Core.Path.{◌≡◌, refl, sym, ap}
use borrow.Author.Tests.{eq-eqb, ne_eqb, le-leb, lt-leb}
use denote.Bor.{Bor}
use Rattle.std.proofs.Common.{None, Some}
use Rattle.calculus.specs.Trees.{sc, num}
use Rattle.calculus.specs.Words.{word, largest, put, put_ty}
use Rattle.calculus.specs.Reduction.{becomes, amiss, on_lambda, on_numbers, contract, contract2}
use Rattle.nodes.specs.declared.kinds.Language.{Language}
use Rattle.nodes.specs.declared.kinds.Language.TheVariants.{Ml, Scheme}
use Rattle.nodes.specs.declared.kinds.Operator2.TheVariants.{Apply, Add, Subtract, Cons}
use Rattle.nodes.specs.Table.{as_lang}
use Rattle.pieces.specs.declared.values.Value.{Value}
use Rattle.pieces.specs.declared.values.Value.TheVariants.{Number, Lambda}
use Rattle.pieces.specs.declared.became.Became.{Became}
use Rattle.pieces.specs.declared.became.Became.TheVariants.{Nothing, Becomes}
use Rattle.pieces.specs.declared.became.Piece.TheVariants.{Part, Led, Substituted}
use Rattle.pieces.specs.Pieces.{Tells}
use Rattle.pieces.specs.Values.{BodyOf, Looks}
use Rattle.pieces.proofs.Looks.{lambda_shown, on_shown, no_number, no_lambda}
use Rattle.binary.specs.Chosen.{Sum, BothNumbers, OfApply, OfTwo, OfIf}

-- A sum.
pub sum_within : {i : Language} {n m : ℕ} {r : Became} → n + m ≤ largest → Tells r (becomes (num {l = as_lang i} (n + m))) → Sum i n m r
sum_within {i} {n} {m} h t = record { is = rw (le-leb (n + m) largest h) t }

pub over_in_ml : {n m : ℕ} (p : Bor (List ℕ)) → p.now ≡ 1 ∷ [] → largest < n + m → Sum Ml n m (Becomes (Led (word 29 5) p))
unfolding put put_ty
over_in_ml {n} {m} p e h = record { is = rw (lt-leb (n + m) largest h) (_, refl, ap (λ (v : List ℕ). word 29 5 ∷ v) (sym e)) }

pub over_in_scheme : {n m : ℕ} {r : Became} → Tells r (amiss sc 5) → largest < n + m → Sum Scheme n m r
unfolding amiss
over_in_scheme {n} {m} t h = record { is = rw (lt-leb (n + m) largest h) t }

-- Application.
pub apply_lambda : {i : Language} {x : List ℕ} {p body v : Bor (List ℕ)} → Looks x (Lambda p) → BodyOf (as_lang i) p.now body.now
    → OfApply i x v.now (Becomes (Substituted i body v))
unfolding contract2 on_lambda
apply_lambda {i} s g =
    record {
      of = λ f v q o. let z = lambda_shown (s.of (as_lang i) f q) in rw z.2 (_, refl, (v, z.1, refl, g.of z.0 z.1 z.3, o, refl));
    }

-- Both parts are numbers, or else one of them is none.
module _ {x y : List ℕ} where
  pub no_first : {r : Value} → Looks x r → ((n : ℕ) → r ≡ Number n → ⊥) → BothNumbers x y None
  unfolding on_numbers
  no_first s h = record { small = tt; of = λ l a b p q f. no_number _ _ (s.of l a p) h }

  pub no_second : {n : ℕ} {r : Value} → Looks x (Number n) → Looks y r → ((n : ℕ) → r ≡ Number n → ⊥) → BothNumbers x y None
  unfolding on_numbers
  no_second s u h = record { small = tt; of = λ l a b p q f. rw (on_shown _ _ (s.of l a p)) (no_number _ _ (u.of l b q) h) }

  pub both_numbers : {n m : ℕ} → n ≤ largest → m ≤ largest → Looks x (Number n) → Looks y (Number m) → BothNumbers x y (Some (n, m))
  unfolding on_numbers
  both_numbers g k s u =
      record { small = (g, k); of = λ l a b p q f. rw (on_shown _ _ (s.of l a p)) (on_shown _ _ (u.of l b q)) }

module _ {i : Language} {x y : List ℕ} where
  pub apply_other : {v : Value} {r : Became} → Looks x v → ((p : Bor (List ℕ)) → v ≡ Lambda p → ⊥) → Tells r (amiss (as_lang i) 2)
      → OfApply i x y r
  unfolding contract2
  apply_other s h t = record { of = λ f v p q. rw (no_lambda _ _ (s.of (as_lang i) f p) h) t }

  -- The operators.
  pub two_apply : {r : Became} → OfApply i x y r → OfTwo i Apply x y r
  two_apply s = record { of = s.of }

  pub two_cons : OfTwo i Cons x y Nothing
  unfolding contract2
  two_cons = record { of = λ a b p q. refl }

  pub two_sum : {n m : ℕ} {r : Became} → BothNumbers x y (Some (n, m)) → Sum i n m r → OfTwo i Add x y r
  unfolding contract2
  two_sum s t = record { of = λ a b p q. rw (s.of (as_lang i) a b p q _) t.is }

  pub two_difference : {n m d : ℕ} {r : Became} → BothNumbers x y (Some (n, m)) → d ≡ n - m → Tells r (becomes (num {l = as_lang i} d))
      → OfTwo i Subtract x y r
  unfolding contract2
  two_difference s e t = record { of = λ a b p q. rw (s.of (as_lang i) a b p q _, ← e) t }

  pub add_amiss : {r : Became} → BothNumbers x y None → Tells r (amiss (as_lang i) 1) → OfTwo i Add x y r
  unfolding contract2
  add_amiss s t = record { of = λ a b p q. rw (s.of (as_lang i) a b p q _) t }

  pub subtract_amiss : {r : Became} → BothNumbers x y None → Tells r (amiss (as_lang i) 1) → OfTwo i Subtract x y r
  unfolding contract2
  subtract_amiss s t = record { of = λ a b p q. rw (s.of (as_lang i) a b p q _) t }

-- if0.
module _ {i : Language} {x : List ℕ} where
  pub if_zero : {n : ℕ} {y : Bor (List ℕ)} {z : List ℕ} → Looks x (Number n) → n ≡ 0 → OfIf i x y.now z (Becomes (Part y))
  unfolding contract
  if_zero {n} s h = record { of = λ a b c p q o. rw (on_shown _ _ (s.of (as_lang i) a p), eq-eqb n 0 h) (_, refl, sym q) }

  pub if_more : {n : ℕ} {y : List ℕ} {z : Bor (List ℕ)} → Looks x (Number n) → (n ≡ 0 → ⊥) → OfIf i x y z.now (Becomes (Part z))
  unfolding contract
  if_more {n} s h = record { of = λ a b c p q o. rw (on_shown _ _ (s.of (as_lang i) a p), ne_eqb n 0 h) (_, refl, sym o) }

  pub if_other : {y z : List ℕ} {v : Value} {r : Became} → Looks x v → ((n : ℕ) → v ≡ Number n → ⊥) → Tells r (amiss (as_lang i) 1)
      → OfIf i x y z r
  unfolding contract
  if_other s h t = record { of = λ a b c p q o. rw (no_number _ _ (s.of (as_lang i) a p) h) t }
