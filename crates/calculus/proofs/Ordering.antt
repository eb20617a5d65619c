-- What a verdict refuses: by which numbers, and how far on; of the walks over words, by 3 to 5. Assumes nothing.
use Prim.Native.Nat.{ℕ, suc, ◌+◌, ◌-◌, ◌≤◌}
use mathlib.Core.Bool.{Bool, true, false, cond}
use mathlib.Core.List.{List, [], ◌∷◌, ◌++◌}
use mathlib.Core.Option.{Option, none, some}
use lib.Dec.{eqb}
use lib.ListN.{length, replicate}
use native.Mathlib.Omega.{arith}
use Rattle.calculus.specs.Trees.{Lang}
use Rattle.calculus.specs.Kinds.{Sort, Row, row_for}
use Rattle.calculus.specs.Verdicts.{Verdict, refused, passed}
use Rattle.calculus.specs.Reading.{Act, opens, refuses, later, acted, walk, none_left, nested_due, levels, levelled, in_order}
use Rattle.calculus.specs.Scope.{is_free, inside, part_count, scope_due}
use Rattle.calculus.proofs.Walks.{reach, walk_reach}
use Rattle.calculus.proofs.Nesting.{nested_by}

-- A refusal's number is one of l to m, and its place at most b.
pub data Proper {A : Type 0} (l m b : ℕ) : Verdict A → Type 0 where
  refusing : (n p : ℕ) → (l ≤ n) × (n ≤ m) × (p ≤ b) → Proper l m b (refused n p)
  passing : {a : A} → Proper l m b (passed a)

pub proper_bounds : {A : Type 0} {l m b n p : ℕ} → Proper {A = A} l m b (refused n p) → (l ≤ n) × (n ≤ m) × (p ≤ b)
proper_bounds (refusing n p h) = h

-- An answer that is n words further on.
proper_later : {l m b c : ℕ} {v : Verdict ℕ} (n : ℕ) → n + c ≤ b → Proper l m c v → Proper l m b (later n v)
proper_later n r (refusing k p h) = refusing k (n + p) (omega arith)
proper_later n r passing = passing

-- What a word means where something is due: refused by 3, 4 or 5, if it is.
abbrev Due : {D : Type 0} → Act D → Type 0
Due (opens ps) = Unit {0}
Due (refuses r) = (3 ≤ r) × (r ≤ 5)

proper_acted : {D : Type 0} (n : ℕ) (a : Act D) {rest : List D → Verdict ℕ} → Due a → ((ps : List D) → Proper 3 5 n (rest ps))
    → Proper 3 5 (suc n) (acted a rest)
proper_acted n (opens ps) h f = proper_later 1 (omega arith) (f ps)
proper_acted n (refuses r) h f = refusing r 0 (omega arith)

proper_walk : {D : Type 0} (f : D → ℕ → Act D) → ((d : D) (w : ℕ) → Due (f d w)) → (ws : List ℕ) (ds : List D) → Proper 3 5 (length ws) (walk f ws ds)
unfolding walk
proper_walk f h [] [] = passing
proper_walk f h [] (d ∷ ds) = refusing 3 0 (omega arith)
proper_walk f h (w ∷ ws) [] = passing
proper_walk f h (w ∷ ws) (d ∷ ds) = proper_acted (length ws) (f d w) (h d w) (λ ps. proper_walk f h ws (ps ++ ds))

due_cond : {D : Type 0} (t : Bool) (a b : Act D) → Due a → Due b → Due (cond t a b)
due_cond true a b h k = h
due_cond false a b h k = k

due_nested : (d : Sort × ℕ) (w : ℕ) → Due (nested_due d w)
due_nested d w = by (row_for d.0 w)
  where
    by : (o : Option (Row d.0)) → Due (nested_by d.1 o)
    by none = omega arith
    by (some r) = due_cond (eqb d.1 0) (refuses 4) (opens (levelled (d.1 - 1) r.parts)) (omega arith) tt

due_scope : (Γ : List Lang) (w : ℕ) → Due (scope_due Γ w)
due_scope Γ w = due_cond (is_free Γ w) (refuses 5) (opens (replicate (part_count w) (inside Γ w))) (omega arith) tt

pub proper_order : (s : Sort) (ws : List ℕ) → Proper 3 5 (length ws) (in_order s ws)
unfolding in_order
proper_order s ws = by (walk_reach nested_due ws ((s, levels) ∷ [])) (proper_walk nested_due due_nested ws ((s, levels) ∷ []))
  where
    chosen : (t : Bool) (m : ℕ) → m ≤ length ws → Proper 3 5 (length ws) (cond t (passed m) (refused 3 m))
    chosen true m h = passing
    chosen false m h = refusing 3 m (omega arith)

    by : {v : Verdict ℕ} → reach v ≤ length ws → Proper 3 5 (length ws) v → Proper 3 5 (length ws) (none_left (length ws) v)
    by h (refusing n p i) = refusing n p i
    by h (passing {a = m}) = chosen (eqb m (length ws)) m h

pub proper_scope : (ws : List ℕ) → Proper 3 5 (length ws) (walk scope_due ws ([] ∷ []))
proper_scope ws = proper_walk scope_due due_scope ws ([] ∷ [])
