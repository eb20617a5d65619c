-- Cans tried by hand, from the file's bytes to the bill. proofs/Cans.antt proves them all.
use Rattle.std.specs.Prelude.{ℕ, ◌+◌, ◌*◌, List, [], ◌∷◌, ◌++◌, ◌≡◌, replicate}
use Rattle.calculus.specs.Verdicts.{refused, passed}
use Rattle.calculus.specs.Run.{valued, spent, uncounted, ended}
use Rattle.calculus.specs.File.{bytes_of, file_of}
use Rattle.calculus.specs.Recipes.{Allowed, allowed, plenty}
use Rattle.charges.specs.Prices.{Prices}
use Rattle.pricing.specs.Pricing.{Bill, uncharged, pricing}

-- Prices that tell pump and band: 100, 101, 102 cents for pump 1, up to 900, 901, 902 for pump 9. One of them may be another.
abbrev pub row : ℕ → List ℕ
row pump = (100 * pump) ∷ (100 * pump + 1) ∷ (100 * pump + 2) ∷ []

abbrev pub prices_with : List ℕ → Prices
prices_with last = row 1 ∷ row 2 ∷ row 3 ∷ row 4 ∷ row 5 ∷ row 6 ∷ row 7 ∷ row 8 ∷ last ∷ []

abbrev pub shop : Prices
shop = prices_with (row 9)

abbrev pub dear : Prices
dear = prices_with (900 ∷ 901 ∷ 1000001 ∷ [])

-- The words of a list of numbers, and of one that ends with these words.
abbrev pub cells : List ℕ → List ℕ → List ℕ
cells [] end = end
cells (n ∷ ns) end = 25 ∷ (17 + 256 * n) ∷ cells ns end

abbrev pub list_words : List ℕ → List ℕ
list_words ns = cells ns (24 ∷ 1 ∷ [])

-- A file of type {N}.
abbrev pub can : List ℕ → List ℕ
can terms = file_of (3 ∷ 1 ∷ []) terms

-- A file is priced, with what is lent: as a bill says, or refused.
abbrev pub PricedAs : Prices → List ℕ → Allowed → Bill → Type 0
PricedAs prices file x b = pricing prices (bytes_of file) x.limit x.room x.room ≡ passed b

abbrev pub Refuses : Prices → List ℕ → Allowed → ℕ → Type 0
Refuses prices file x number = pricing prices (bytes_of file) x.limit x.room x.room ≡ refused number 0

-- A value that was one from the start, with each charge and the total.
abbrev pub at_once : List ℕ → List ℕ → ℕ → Bill
at_once ns charges total = record { run = ended valued 0 uncounted (list_words ns) 0; charges = charges; total = total }

-- Ten items, the last of which is still to be added up.
abbrev pub ten : List ℕ
ten = cells (1 ∷ 2 ∷ 3 ∷ 4 ∷ 5 ∷ 6 ∷ 7 ∷ 8 ∷ 9 ∷ []) (25 ∷ 21 ∷ 1297 ∷ 1297 ∷ 24 ∷ 1 ∷ [])

pub record Tried : Type 0 where
  -- the edges of the bands: 999.9 cents and 30,099.699 are rounded up, 2,010 and 40,200 are exact
  pub edges : PricedAs shop (can (list_words (9999 ∷ 10000 ∷ 99999 ∷ 100000 ∷ []))) plenty
      (at_once (9999 ∷ 10000 ∷ 99999 ∷ 100000 ∷ []) (1000 ∷ 2010 ∷ 30100 ∷ 40200 ∷ 0 ∷ 0 ∷ 0 ∷ 0 ∷ 0 ∷ []) 73310)
  -- the largest count in the ninth pump, and pumps that give nothing
  pub largest : PricedAs shop (can (list_words (replicate 8 0 ++ 16777215 ∷ []))) plenty
      (at_once (replicate 8 0 ++ 16777215 ∷ []) (replicate 8 0 ++ 15133048 ∷ []) 15133048)
  pub empty : PricedAs shop (can (list_words [])) plenty (at_once [] (replicate 9 0) 0)
  -- ten items are 10 at the value; a run of them that is spent has no charge
  pub too_many : Refuses shop (can ten) plenty 10
  pub not_yet : PricedAs shop (can ten) (allowed 0 4096) (uncharged (ended spent 0 uncounted ten 0))
  -- 11 before 1; 9, also before 8; 8 before 10
  pub over : Refuses dear [] plenty 11
  pub no_file : Refuses shop [] plenty 1
  pub number : Refuses shop (file_of (1 ∷ []) (17 ∷ [])) plenty 9
  pub number_in_no_room : Refuses shop (file_of (1 ∷ []) (17 ∷ [])) (allowed 1000000 0) 9
  pub no_room : Refuses shop (can ten) (allowed 1000000 4) 8
