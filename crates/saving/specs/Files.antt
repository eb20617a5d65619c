-- Files tried by hand, from the words handed in to the bytes. proofs/Files.antt proves them all.
use Rattle.std.specs.Prelude.{ℕ, zero, suc, List, [], ◌∷◌, ◌++◌, ◌≡◌, replicate}
use Rattle.calculus.specs.Verdicts.{refused, passed}
use Rattle.calculus.specs.Run.{spent}
use Rattle.calculus.specs.File.{file_of}
use Rattle.calculus.specs.Recipes.{allowed, counting, EndsAs, converted_words}
use Rattle.saving.specs.Saving.{saving}

-- add 0 (add 0 .. ): so many around these words.
abbrev pub sums : ℕ → List ℕ → List ℕ
sums zero ws = ws
sums (suc n) ws = 21 ∷ 17 ∷ sums n ws

-- (fn N (ms N ((fn v0) (sm N v0)))) applied to 7: what (ms (N to N) (fn v0)) applied to 7 becomes in a step, two levels deeper.
abbrev pub wrapped_words : List ℕ
wrapped_words = 19 ∷ 18 ∷ 1 ∷ 30 ∷ 1 ∷ 35 ∷ 34 ∷ 32 ∷ 45 ∷ 1 ∷ 16 ∷ 1809 ∷ []

pub record Tried : Type 0 where
  -- add 2 3 of type N: 32 bytes serve, 31 are 13
  pub sum : saving (1 ∷ []) (21 ∷ 529 ∷ 785 ∷ []) 32
      ≡ passed (1 ∷ 0 ∷ 0 ∷ 0 ∷ 4 ∷ 0 ∷ 0 ∷ 0 ∷ 3 ∷ 0 ∷ 0 ∷ 0 ∷ 5 ∷ 0 ∷ 0 ∷ 0
      ∷ 1 ∷ 0 ∷ 0 ∷ 0 ∷ 21 ∷ 0 ∷ 0 ∷ 0 ∷ 17 ∷ 2 ∷ 0 ∷ 0 ∷ 17 ∷ 3 ∷ 0 ∷ 0 ∷ [])
  pub short : saving (1 ∷ []) (21 ∷ 529 ∷ 785 ∷ []) 31 ≡ refused 13 0
  -- the largest number: all four bytes of its word count
  pub largest : saving (1 ∷ []) (4294967057 ∷ []) 16384
      ≡ passed (1 ∷ 0 ∷ 0 ∷ 0 ∷ 4 ∷ 0 ∷ 0 ∷ 0 ∷ 1 ∷ 0 ∷ 0 ∷ 0 ∷ 5 ∷ 0 ∷ 0 ∷ 0 ∷ 1 ∷ 0 ∷ 0 ∷ 0 ∷ 17 ∷ 255 ∷ 255 ∷ 255 ∷ [])
  -- 12 before 3, at 4,097 words by type or term; 3 at 4,096
  pub long_type : saving (replicate 4093 0) [] 0 ≡ refused 12 0
  pub long_term : saving [] (replicate 4093 0) 0 ≡ refused 12 0
  pub longest : saving [] (replicate 4092 0) 0 ≡ refused 3 4
  -- 3 at an empty type, and at an empty term of a type of three words; 3 at the term's first word
  pub no_type : saving [] (17 ∷ []) 16384 ≡ refused 3 4
  pub no_term : saving (4 ∷ 1 ∷ 1 ∷ []) [] 16384 ≡ refused 3 7
  pub no_kind : saving (4 ∷ 1 ∷ 1 ∷ []) (99 ∷ []) 16384 ≡ refused 3 7
  -- 4, 5, 6 and 7 before 13; 6 and 7 with places in the file, behind a declared type of three words and within one
  pub nested : saving (1 ∷ []) (replicate 256 20 ++ 17 ∷ []) 0 ≡ refused 4 261
  pub unbound : saving (1 ∷ []) (16 ∷ []) 0 ≡ refused 5 5
  pub untyped : saving (4 ∷ 1 ∷ 1 ∷ []) (19 ∷ 17 ∷ 17 ∷ []) 0 ≡ refused 6 7
  pub mistyped : saving (4 ∷ 1 ∷ 2 ∷ []) (18 ∷ 1 ∷ 17 ∷ []) 0 ≡ refused 7 6

-- 4 really occurs: a recipe that is accepted, nested 256 levels, whose term after one step nests two levels deeper.
pub record TooDeep : Type 0 where
  pub spent_after_one : EndsAs (file_of (1 ∷ []) (sums 252 converted_words)) (allowed 1 4096) spent 0 (counting 1 0 1 0) (sums 252 wrapped_words) 0
  pub refused_by_four : saving (1 ∷ []) (sums 252 wrapped_words) 16384 ≡ refused 4 515
