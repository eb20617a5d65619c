-- What each function is to answer: for ms or sm at a type, by the words of the type and of the value, what it becomes.
use Rattle.std.specs.Prelude.{ℕ, List, ◌≡◌}
use Rattle.calculus.specs.Trees.{Ty, L, list, ◌to◌, Term, wrong}
use Rattle.calculus.specs.Words.{word, words, words_ty, put_ty}
use Rattle.calculus.specs.Reduction as calculus
use Rattle.calculus.specs.Reduction.{becomes, nothing, to_ml, to_scheme}
use Rattle.nodes.specs.declared.kinds.Language.{Language}
use Rattle.nodes.specs.declared.kinds.Language.TheVariants.{Ml, Scheme}
use Rattle.nodes.specs.Table.{as_lang}
use Rattle.pieces.specs.declared.became.Became.{Became}
use Rattle.pieces.specs.declared.codes.Wrong.{Wrong}
use Rattle.pieces.specs.Codes.{code}
use Rattle.pieces.specs.Languages.{other}
use Rattle.pieces.specs.Pieces.{Tells}

-- ms into ML, sm into Scheme: what a value of the other language becomes at a type.
abbrev pub brought : (i : Language) → Ty → Term (as_lang (other i)) → calculus.Became (as_lang i)
brought Ml t v = to_ml t v
brought Scheme t v = to_scheme t v

-- What a value becomes that has not the type: a wrong in ML.
abbrev pub unfit : (i : Language) → ℕ → Ty → calculus.Became (as_lang i)
unfit Ml c t = becomes (wrong c t)
unfit Scheme c t = nothing

-- The answer to such a value, by the words of the type.
pub record Misfit (i : Language) (w : Wrong) (ts : List ℕ) (r : Became) : Type 0 where
  pub of : (t : Ty) → ts ≡ words_ty t → Tells r (unfit i (code w) t)

-- At the type t.
pub record AtType (i : Language) (ts vs : List ℕ) (r : Became) (t : Ty) : Type 0 where
  pub of : (v : Term (as_lang (other i))) → ts ≡ words_ty t → vs ≡ words v → Tells r (brought i t v)

-- At an owner's L, whichever it is, by the owner's word.
pub record AtLump (i : Language) (w : ℕ) (vs : List ℕ) (r : Became) : Type 0 where
  pub of : (o : ℕ) → w ≡ word 2 o → (v : Term (as_lang (other i))) → vs ≡ words v → Tells r (brought i (L o) v)

-- At {t}, whichever it is, by the words of the element's type.
pub record AtList (i : Language) (ts ps vs : List ℕ) (r : Became) : Type 0 where
  pub of : (t : Ty) → ps ≡ words_ty t → AtType i ts vs r (list t)

-- At t to u, whichever they are, by the words of both types.
pub record AtFunction (i : Language) (ts ps vs : List ℕ) (r : Became) : Type 0 where
  pub of : (t u : Ty) → ps ≡ put_ty t (words_ty u) → AtType i ts vs r (t to u)

-- At whichever type it is.
pub record OfBoundary (i : Language) (ts vs : List ℕ) (r : Became) : Type 0 where
  pub of : (t : Ty) → AtType i ts vs r t
