-- Cards of files tried by hand, from the file's bytes to the card. proofs/Cards.antt proves them all.
use Rattle.std.specs.Prelude.{ℕ, List, [], ◌∷◌, ◌++◌, ◌≡◌, replicate}
use Rattle.calculus.specs.Verdicts.{refused, passed}
use Rattle.calculus.specs.Run.{spent, uncounted, ended}
use Rattle.calculus.specs.File.{bytes_of}
use Rattle.pricing.specs.Pricing.{Bill, uncharged}
use Rattle.pricing.specs.Cans.{shop, dear, can, list_words, at_once, ten}
use Rattle.text.specs.Characters.{characters}
use Rattle.card.specs.Carding.{carding}

-- A file at the shop's prices under a limit of steps, in 4,096 words and so many bytes for the card: a bill with its card, or refused.
abbrev pub CardedAs : List ℕ → ℕ → ℕ → Bill → List ℕ → Type 0
CardedAs file limit room b text = carding shop (bytes_of file) limit 4096 4096 room ≡ passed (record { bill = b; text = text })

abbrev pub Refuses : List ℕ → ℕ → ℕ → ℕ → Type 0
Refuses file limit room number = carding shop (bytes_of file) limit 4096 4096 room ≡ refused number 0

-- Four items: 41 × 5 bytes are 205.
abbrev pub four : List ℕ
four = 9999 ∷ 10000 ∷ 99999 ∷ 100000 ∷ []

pub record Tried : Type 0 where
  pub edges : CardedAs (can (list_words four)) 1000000 205 (at_once four (1000 ∷ 2010 ∷ 30100 ∷ 40200 ∷ 0 ∷ 0 ∷ 0 ∷ 0 ∷ 0 ∷ []) 73310)
      (characters " 1          9999            1000        \n"
      ++ characters " 2         10000            2010        \n"
      ++ characters " 3         99999           30100        \n"
      ++ characters " 4        100000           40200        \n"
      ++ characters "TOTAL                      73310        \n")
  pub byte_short : Refuses (can (list_words four)) 1000000 204 14
  pub empty : CardedAs (can (list_words [])) 1000000 41 (at_once [] (replicate 9 0) 0)
      (characters "TOTAL                          0        \n")
  pub empty_short : Refuses (can (list_words [])) 1000000 40 14
  -- 10 before 14; a run that is spent has no card, and is no 14 in a buffer without a byte
  pub too_many : Refuses (can ten) 1000000 0 10
  pub not_yet : CardedAs (can ten) 0 0 (uncharged (ended spent 0 uncounted ten 0)) []
  -- 11 before 1, and 1 before 14
  pub over : carding dear [] 1000000 4096 4096 0 ≡ refused 11 0
  pub no_file : Refuses [] 1000000 0 1
