-- What a piece writes, and that the code's answer tells what a node becomes.
use Rattle.std.specs.Prelude.{ℕ, ◌≤◌, List, [], ◌∷◌, ◌++◌, ◌≡◌, length}
use Rattle.calculus.specs.Trees.{Lang, Term}
use Rattle.calculus.specs.Words.{word, by, largest, words}
use Rattle.calculus.specs.Reduction as calculus
use Rattle.calculus.specs.Reduction.{becomes, raises, nothing, substitute}
use Rattle.nodes.specs.declared.kinds.Language.{Language}
use Rattle.nodes.specs.declared.kinds.Language.TheVariants.{Ml, Scheme}
use Rattle.nodes.specs.Table.{as_lang}
use Rattle.pieces.specs.declared.became.Became.{Became}
use Rattle.pieces.specs.declared.became.Became.TheVariants.{Nothing, Raises, Becomes}
use Rattle.pieces.specs.declared.became.Piece.{Piece}
use Rattle.pieces.specs.declared.became.Piece.TheVariants.{Word, Number, Part, Led, Led2, Cons, Function, Substituted}
use Rattle.pieces.specs.Languages.{other}
use Rattle.writing.specs.Given.{most_words}
use Rattle.writing.specs.declared.Writer.{Writer}
use Rattle.writing.specs.Puts.{Puts}

-- The words of a cons brought into a language, from its element's type, its head and its tail.
abbrev pub cons_words : Language → List ℕ → List ℕ → List ℕ → List ℕ
cons_words i t h e =
    let c = by (as_lang i) 25 40 in let m = by (as_lang i) 30 45 in
    c ∷ ((m ∷ t) ++ (h ++ ((m ∷ 3 ∷ t) ++ e)))

-- What stands before a lambda's body: its word, and in ML the type of its variable.
abbrev pub lambda_words : Language → List ℕ → List ℕ
lambda_words Ml t = 18 ∷ t
lambda_words Scheme t = 34 ∷ []

-- The lambda that stands for a lambda f brought into a language.
abbrev pub function_words : Language → List ℕ → List ℕ → List ℕ → List ℕ
function_words i t u f =
    lambda_words i t
    ++ ((by (as_lang i) 30 45 ∷ u)
    ++ ((by (as_lang (other i)) 19 35 ∷ f) ++ ((by (as_lang (other i)) 30 45 ∷ t) ++ (by (as_lang i) 16 32 ∷ []))))

-- The piece writes the words of u.
abbrev pub Gives : {l : Lang} → Piece → Term l → Type 0
Gives (Word w) u = words u ≡ w ∷ []
Gives (Number i n) u = words u ≡ word (by (as_lang i) 17 33) n ∷ []
Gives (Part p) u = words u ≡ p.now
Gives (Led w p) u = words u ≡ w ∷ p.now
Gives (Led2 w v p) u = words u ≡ w ∷ v ∷ p.now
Gives (Cons i t h e) u = words u ≡ cons_words i t.now h.now e.now
Gives (Function i t v f) u = words u ≡ function_words i t.now v.now f.now
Gives {l} (Substituted i b a) u =
    (v : Term l) × (body : Term l) × (as_lang i ≡ l) × (b.now ≡ words body) × (a.now ≡ words v) × (u ≡ substitute v 0 body)

-- The code's answer tells what the node becomes.
abbrev pub Tells : {l : Lang} → Became → calculus.Became l → Type 0
Tells r (becomes u) = (p : Piece) × (r ≡ Becomes p) × Gives p u
Tells r (raises c) = r ≡ Raises c
Tells r nothing = r ≡ Nothing

-- Words that are not too many. Each contract asks it of its own parts: they are plain slices, of which no type could say it.
abbrev pub Few : List ℕ → Type 0
Few ws = length ws ≤ most_words

-- A piece's parts are not too long, and its number is no greater than the greatest.
abbrev pub Placed : Piece → Type 0
Placed (Word w) = Unit {0}
Placed (Number i n) = n ≤ largest
Placed (Part p) = Few p.now
Placed (Led w p) = Few p.now
Placed (Led2 w v p) = Few p.now
Placed (Cons i t h e) = Few t.now × Few h.now × Few e.now
Placed (Function i t v f) = Few t.now × Few v.now × Few f.now
Placed (Substituted i b a) = Few b.now × Few a.now

-- A piece that a node becomes is so; the other answers have none.
abbrev pub BecameIn : Became → Type 0
BecameIn Nothing = Unit {0}
BecameIn (Raises c) = Unit {0}
BecameIn (Becomes p) = Placed p

-- Both, of an answer that takes no part of the node.
pub record Becoming {l : Lang} (r : Became) (b : calculus.Became l) : Type 0 where
  pub placed : BecameIn r
  pub told : Tells r b

-- What is put of a piece, from the writer w to r: the words of what it gives.
pub record Writes (p : Piece) (w r : Writer ℕ) : Type 0 where
  pub same : r.buffer.ghost_name ≡ w.buffer.ghost_name
  pub of : (l : Lang) (u : Term l) → Gives p u → Puts w (words u) r
