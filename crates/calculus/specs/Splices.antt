-- A step in words: "the next term has that node replaced"; the words before and after it stay.
use Rattle.std.specs.Prelude.{ℕ, List, [], ◌∷◌, ◌++◌, ◌≡◌}
use Rattle.calculus.specs.Trees.{Lang, Term}
use Rattle.calculus.specs.Words.{by, word1, word2, put, words_ty, words}
use Rattle.calculus.specs.Reduction.{becomes, contract, Frame, under, first, second, tested, into_ml, into_scheme, Context, here, within, at}
use Rattle.calculus.specs.Reduction.{turn}

-- The words of a node before and after its open part, and those of a term before and after a place.
abbrev pub words_before_open : {m l : Lang} → Frame m l → List ℕ
words_before_open (under o) = word1 o ∷ []
words_before_open (first {l} o b) = word2 l o ∷ []
words_before_open (second {l} o a) = word2 l o ∷ words a
words_before_open (tested {l} b c) = by l 23 38 ∷ []
words_before_open (into_ml t) = 30 ∷ words_ty t
words_before_open (into_scheme t) = 45 ∷ words_ty t

abbrev pub words_after_open : {m l : Lang} → Frame m l → List ℕ
words_after_open (under o) = []
words_after_open (first o b) = words b
words_after_open (second o a) = []
words_after_open (tested b c) = put b (words c)
words_after_open (into_ml t) = []
words_after_open (into_scheme t) = []

unfoldable pub words_before : {m l : Lang} → Context m l → List ℕ
words_before here = []
words_before (within f F) = words_before_open f ++ words_before F

unfoldable pub words_after : {m l : Lang} → Context m l → List ℕ
words_after here = []
words_after (within f F) = words_after F ++ words_after_open f

-- The step from e to r: the node whose turn it is, its place, what it becomes, and both terms in words.
pub record Splice {l : Lang} (e r : Term l) : Type 0 where
  pub lang : Lang
  pub place : Context lang l
  pub node : Term lang
  pub became : Term lang
  pub turns : turn e ≡ at lang place node
  pub contracts : contract node ≡ becomes became
  pub was : words e ≡ words_before place ++ (words node ++ words_after place)
  pub is : words r ≡ words_before place ++ (words became ++ words_after place)
