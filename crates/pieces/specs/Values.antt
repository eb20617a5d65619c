-- A value by its form and its parts, from its words.
use Rattle.std.specs.Prelude.{ℕ, ◌+◌, ◌%◌, ◌/◌, ◌≤◌, Bool, ◌&&◌, cond, List, [], ◌≡◌, Option, Some, eqb, length, get_or, drop}
use Rattle.std.specs.Borrow.{Bor}
use Rattle.calculus.specs.Trees.{Lang, ml, sc, Static, Term}
use Rattle.calculus.specs.Words.{word, largest, words, put, put_static}
use Rattle.calculus.specs.Kinds.{Sort, Tree, put_tree}
use Rattle.calculus.specs.Reduction.{Form, number, lambda, nil_form, cons_form, sealed, other, form}
use Rattle.nodes.specs.declared.kinds.Shape.{Shape}
use Rattle.nodes.specs.declared.kinds.Shape.TheVariants as s
use Rattle.nodes.specs.Table.{shape_of}
use Rattle.pieces.specs.Pieces.{Few}
use Rattle.pieces.specs.declared.values.Value.{Value}
use Rattle.pieces.specs.declared.values.Value.TheVariants as code

-- The words of the first tree, and those after it.
pub record Split (ws a b : List ℕ) : Type 0 where
  pub lengths : length a + length b ≡ length ws
  pub of : (s : Sort) (t : Tree s) (k : List ℕ) → ws ≡ put_tree s t k → (a ≡ put_tree s t []) × (b ≡ k)

-- The body of a lambda, behind the type of its variable, if the language has it there.
pub record BodyOf (l : Lang) (ps b : List ℕ) : Type 0 where
  pub within : length b ≤ length ps
  pub of : (t : Static l) (e : Term l) → ps ≡ put_static l t (words e) → b ≡ words e

-- ms at an owner's L is 30 and a word of the kind 2.
abbrev pub is_lump_by : List ℕ → Bool
is_lump_by ws = eqb (get_or ws 0 0) 30 && eqb (get_or ws 1 0 % 256) 2

-- The forms by numbers, of a value in code and of one in the calculus.
abbrev pub form_of : Value → ℕ
form_of (code.Number n) = 1
form_of (code.Lambda p) = 2
form_of (code.Nil p) = 3
form_of (code.Cons p) = 4
form_of (code.Lump o p) = 5
form_of code.Other = 0

abbrev pub form_number : {l : Lang} → Form l → ℕ
form_number (number n) = 1
form_number (lambda t b) = 2
form_number (nil_form t) = 3
form_number (cons_form v w) = 4
form_number (sealed o v) = 5
form_number other = 0

-- The form of words, whichever they are: by the shape of the first, by the first and by the second.
abbrev pub pair_form : ℕ → ℕ → ℕ
pair_form w v = cond (eqb w 25) 4 (cond (eqb w 40) 4 (cond (eqb w 30) (cond (eqb (v % 256) 2) 5 0) 0))

abbrev pub form_by : Option Shape → ℕ → ℕ → ℕ
form_by (Some s.Number) w v = 1
form_by (Some s.Lambda) w v = 2
form_by (Some s.Nil) w v = 3
form_by o w v = pair_form w v

unfoldable pub form_at : List ℕ → ℕ
form_at ws = form_by (shape_of (get_or ws 0 0 % 256)) (get_or ws 0 0) (get_or ws 1 0)

-- The parts of a value are the words behind its first one, and those of a lump behind the owner's.
abbrev pub Behind : List ℕ → Value → Type 0
Behind ws (code.Number n) = n ≡ get_or ws 0 0 / 256
Behind ws (code.Lambda p) = p.now ≡ drop 1 ws
Behind ws (code.Nil p) = p.now ≡ drop 1 ws
Behind ws (code.Cons p) = p.now ≡ drop 1 ws
Behind ws (code.Lump o p) = (o ≡ get_or ws 1 0) × (p.now ≡ drop 2 ws)
Behind ws code.Other = Unit {0}

-- The parts of a value are those of its form.
pub data Shows : (l : Lang) → Value → Form l → Type 0 where
  a_number : {l : Lang} (n : ℕ) → Shows l (code.Number n) (number n)
  a_lambda : {l : Lang} (p : Bor (List ℕ)) (t : Static l) (b : Term l) → p.now ≡ put_static l t (words b) → Shows l (code.Lambda p) (lambda t b)
  a_nil : {l : Lang} (p : Bor (List ℕ)) (t : Static l) → p.now ≡ put_static l t [] → Shows l (code.Nil p) (nil_form t)
  a_cons : {l : Lang} (p : Bor (List ℕ)) (v w : Term l) → p.now ≡ put v (words w) → Shows l (code.Cons p) (cons_form v w)
  a_lump : (u : ℕ) (p : Bor (List ℕ)) (v : Term sc) → p.now ≡ words v → Shows ml (code.Lump (word 2 u) p) (sealed u v)
  no_value : {l : Lang} → Shows l code.Other other

-- A value's parts are not too long, and a number is none that is too large.
abbrev pub Small : Value → Type 0
Small (code.Number i) = i ≤ largest
Small (code.Lambda p) = Few p.now
Small (code.Nil p) = Few p.now
Small (code.Cons p) = Few p.now
Small (code.Lump o p) = Few p.now
Small code.Other = Unit {0}

-- What is looked at of a cons or a lump: all words of another form are none of these.
pub record Paired (ws : List ℕ) (r : Value) : Type 0 where
  pub formed : form_of r ≡ pair_form (get_or ws 0 0) (get_or ws 1 0)
  pub parts : Behind ws r
  pub small : Few ws → Small r

-- What is looked at of words, whichever they are; and so of a term of either language, whose words they are.
pub record Looks (ws : List ℕ) (r : Value) : Type 0 where
  pub formed : form_of r ≡ form_at ws
  pub parts : Behind ws r
  pub small : Few ws → Small r
  pub of : (l : Lang) (e : Term l) → ws ≡ words e → Shows l r (form e)
