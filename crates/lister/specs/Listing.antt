-- Document 01, the listing: "prints end name, code, steps, words left, words wanted on one line, then the term's words on the next, or an empty
-- line. A refusal prints `refused`, number, place on one line and no other line." Document 02: "The listing's first line ends with the three":
-- calls, conversions, others.
use Rattle.std.specs.Prelude.{ℕ, List, [], ◌∷◌, ◌++◌, ◌≡◌, length}
use Rattle.calculus.specs.Verdicts.{Verdict, refused, passed}
use Rattle.calculus.specs.Run.{End, valued, spent, error, full, Result}
use Rattle.calculus.specs.File.{bytes_of, file_of, operate}
use Rattle.text.specs.Decimal.{decimal}
use Rattle.text.specs.Characters.{blank, line_feed, characters}

-- A number in decimal, a blank before it; and so each of some numbers.
unfoldable pub field : ℕ → List ℕ
field n = blank ∷ decimal n

abbrev pub fields : List ℕ → List ℕ
fields [] = []
fields (n ∷ ns) = field n ++ fields ns

-- "the term's words on the next, or an empty line": in decimal, a blank between two.
abbrev pub words_line : List ℕ → List ℕ
words_line [] = []
words_line (n ∷ ns) = decimal n ++ fields ns

-- "end name".
abbrev pub end_name : End → List ℕ
end_name valued = characters "value"
end_name spent = characters "spent"
end_name error = characters "error"
end_name full = characters "full"

-- A line: a name, and numbers after it.
abbrev pub line : List ℕ → List ℕ → List ℕ
line name ns = name ++ fields ns ++ line_feed ∷ []

-- The numbers of the first line: code, steps, words left, words wanted; calls, conversions, others.
abbrev pub first_numbers : Result → List ℕ
first_numbers r = let m = r.made in r.code ∷ m.steps ∷ length r.left ∷ r.wanted ∷ m.calls ∷ m.conversions ∷ m.others ∷ []

-- The text of a refusal, and of a run's result.
abbrev pub text_of : Verdict Result → List ℕ
text_of (refused n p) = line (characters "refused") (n ∷ p ∷ [])
text_of (passed r) = line (end_name r.end) (first_numbers r) ++ words_line r.left ++ line_feed ∷ []

-- "The listing program reads a file .., lends 1,000,000 steps and 4,096 words": 4,096 for each buffer.
unfoldable pub listing : List ℕ → List ℕ
listing bytes = text_of (operate bytes 1000000 4096 4096)

-- "the add 2 3 recipe prints `value 0 1 1 0 0 0 1`", and `1297`; hd (nil N), whose second line is empty; ms L (fn v0), four words; and the empty
-- file. proofs/Examples.antt proves them.
pub record Examples : Type 0 where
  pub sum : listing (bytes_of (1 ∷ 4 ∷ 3 ∷ 5 ∷ 1 ∷ 21 ∷ 529 ∷ 785 ∷ [])) ≡ characters "value 0 1 1 0 0 0 1\n1297\n"
  pub hd_of_nil : listing (bytes_of (file_of (1 ∷ []) (26 ∷ 24 ∷ 1 ∷ []))) ≡ characters "error 4 2 0 0 0 0 2\n\n"
  pub sealed : listing (bytes_of (file_of (2 ∷ []) (30 ∷ 2 ∷ 34 ∷ 32 ∷ []))) ≡ characters "value 0 0 4 0 0 0 0\n30 2 34 32\n"
  pub empty_file : listing [] ≡ characters "refused 1 0\n"
