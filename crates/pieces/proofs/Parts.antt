-- The words of a tree that others follow. Assumes nothing.
use Prim.Native.Nat.{ℕ, ◌≤◌}
use mathlib.Core.List.{List}
use mathlib.Core.Path.{◌≡◌, ◌∙◌}
use lib.ListN.{length, take, drop, length-take, length-drop}
use native.Mathlib.Omega.{arith}
use Rattle.calculus.specs.Trees.{ml}
use Rattle.calculus.specs.Words.{words}
use Rattle.calculus.specs.Kinds.{type, size_tree}
use Rattle.calculus.proofs.Sizes.{take_tree, drop_tree}
use Rattle.writing.specs.Spans.{span}
use Rattle.writing.proofs.Measures.{span_tree}
use Rattle.pieces.specs.Values.{Split, BodyOf}

pub split_lem : (ws : List ℕ) (m : ℕ) → m ≡ span ws 1 → m ≤ length ws → Split ws (take m ws) (drop m ws)
split_lem ws m h g =
    record {
      lengths = omega (arith, length-take m ws, length-drop m ws);
      of = λ s t k q.
          let z : m ≡ size_tree s t = h ∙ span_tree s t k ws q in
          rw (z, q) (take_tree s t k, drop_tree s t k);
    }

-- Behind the type of its variable stands the body of a lambda of ML.
pub body_ml : {ps a b : List ℕ} → Split ps a b → BodyOf ml ps b
body_ml s = record { within = omega (arith, s.lengths); of = λ t e q. (s.of type t (words e) q).1 }
