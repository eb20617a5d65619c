-- What each function is to answer: for an operator of two parts or an if0, by the words of its parts, what it becomes.
use Rattle.std.specs.Prelude.{ℕ, ◌+◌, ◌≤◌, cond, leb, List, ◌≡◌, Option, None, Some}
use Rattle.calculus.specs.Trees.{Lang, Op2, APP, ADD, SUB, CONS, Term, num, wrong, numbers, if0}
use Rattle.calculus.specs.Words.{largest, words}
use Rattle.calculus.specs.Reduction as calculus
use Rattle.calculus.specs.Reduction.{becomes, amiss, on_numbers, contract, contract2}
use Rattle.nodes.specs.declared.kinds.Language.{Language}
use Rattle.nodes.specs.declared.kinds.Operator2.{Operator2}
use Rattle.nodes.specs.declared.kinds.Operator2.TheVariants.{Apply, Add, Subtract, Cons}
use Rattle.nodes.specs.Table.{as_lang}
use Rattle.pieces.specs.declared.became.Became.{Became}
use Rattle.pieces.specs.Pieces.{Tells}

-- The operators of the calculus.
abbrev pub operation : Operator2 → Op2
operation Apply = APP
operation Add = ADD
operation Subtract = SUB
operation Cons = CONS

-- The sum of two numbers, or the wrong of a sum over the greatest number.
pub record Sum (i : Language) (n m : ℕ) (r : Became) : Type 0 where
  pub is : Tells r (becomes (cond (leb (n + m) largest) (num {l = as_lang i} (n + m)) (wrong 5 (numbers (as_lang i)))))

-- Both parts are numbers, and these; or else one of them is none.
abbrev pub both {ℓ} : {A : Type ℓ} → Option (ℕ × ℕ) → A → (ℕ → ℕ → A) → A
both None o f = o
both (Some p) o f = f p.0 p.1

-- Neither is over the greatest number.
abbrev pub SmallBoth : Option (ℕ × ℕ) → Type 0
SmallBoth None = Unit {0}
SmallBoth (Some p) = (p.0 ≤ largest) × (p.1 ≤ largest)

-- What both parts come to, whatever is made of two numbers.
pub record BothNumbers (x y : List ℕ) (r : Option (ℕ × ℕ)) : Type 0 where
  pub small : SmallBoth r
  pub of : (l : Lang) (a b : Term l) → x ≡ words a → y ≡ words b → (f : ℕ → ℕ → calculus.Became l)
      → on_numbers l a b f ≡ both r (amiss l 1) f

-- Application.
pub record OfApply (i : Language) (x y : List ℕ) (r : Became) : Type 0 where
  pub of : (f v : Term (as_lang i)) → x ≡ words f → y ≡ words v → Tells r (contract2 (as_lang i) APP f v)

-- Whichever operator it is.
pub record OfTwo (i : Language) (o : Operator2) (x y : List ℕ) (r : Became) : Type 0 where
  pub of : (a b : Term (as_lang i)) → x ≡ words a → y ≡ words b → Tells r (contract2 (as_lang i) (operation o) a b)

-- if0, by the words of its three parts.
pub record OfIf (i : Language) (x y z : List ℕ) (r : Became) : Type 0 where
  pub of : (a b c : Term (as_lang i)) → x ≡ words a → y ≡ words b → z ≡ words c → Tells r (contract (if0 a b c))
