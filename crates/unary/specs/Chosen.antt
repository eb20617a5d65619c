-- What each function is to answer: for an operator of one part, by what its part shows, what the node becomes.
use Rattle.std.specs.Prelude.{ℕ, Bool, cond, List, ◌≡◌}
use Rattle.calculus.specs.Trees.{ml, sc, Op1, HD, TL, FIX, NULL?, TEST, Term, op1, fix}
use Rattle.calculus.specs.Words.{words}
use Rattle.calculus.specs.Kinds.{test_of}
use Rattle.calculus.specs.Reduction.{form, answer, contract1}
use Rattle.nodes.specs.declared.kinds.Language.{Language}
use Rattle.nodes.specs.declared.kinds.Operator1.{Operator1}
use Rattle.nodes.specs.Table.{as_lang, operator1}
use Rattle.pieces.specs.declared.became.Became.{Became}
use Rattle.pieces.specs.declared.values.Value.{Value}
use Rattle.pieces.specs.Pieces.{Tells}
use Rattle.pieces.specs.Values.{Shows}

-- hd.
pub record OfHead (i : Language) (v : Value) (r : Became) : Type 0 where
  pub of : (a : Term (as_lang i)) → Shows (as_lang i) v (form a) → Tells r (contract1 HD a)

-- tl.
pub record OfTail (i : Language) (v : Value) (r : Became) : Type 0 where
  pub of : (a : Term (as_lang i)) → Shows (as_lang i) v (form a) → Tells r (contract1 TL a)

-- fix.
pub record OfFix (ws : List ℕ) (v : Value) (r : Became) : Type 0 where
  pub of : (a : Term ml) → ws ≡ words (fix a) → Shows ml v (form a) → Tells r (contract1 FIX a)

-- null? of ML.
pub record OfNull (v : Value) (r : Became) : Type 0 where
  pub of : (a : Term ml) → Shows ml v (form a) → Tells r (contract1 NULL? a)

-- A test of Scheme, by its number: b says whether it holds. "null? and tests: 0 for yes, 1 for no."
pub record OfTest (test : ℕ) (v : Value) (b : Bool) : Type 0 where
  pub of : (a : Term sc) → Shows sc v (form a) → answer (test_of test) (form a) ≡ cond b 0 1

-- What a test becomes.
pub record Tested (test : ℕ) (v : Value) (r : Became) : Type 0 where
  pub of : (a : Term sc) → Shows sc v (form a) → Tells r (contract1 (TEST (test_of test)) a)

-- Whichever operator it is.
pub record OfOne (i : Language) (o : Operator1) (ws : List ℕ) (r : Became) : Type 0 where
  pub of : (p : Op1 (as_lang i)) (a : Term (as_lang i)) → o ≡ operator1 p → ws ≡ words (op1 p a) → Tells r (contract1 p a)
