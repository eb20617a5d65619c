-- The same text, by what a run is told in and the words that stand in its first buffer.
use Rattle.std.specs.Prelude.{ℕ, ◌<◌, ◌≤◌, List, [], ◌∷◌, ◌++◌, length, take}
use Rattle.calculus.specs.Verdicts.{Verdict, refused, passed}
use Rattle.ends.specs.Results.{Line}
use Rattle.text.specs.Characters.{line_feed, characters}
use Rattle.lister.specs.Listing.{end_name, line, words_line}

-- Numbers of 32 bits.
abbrev pub Short : List ℕ → Type 0
Short [] = Unit {0}
Short (n ∷ ns) = (n < 4294967296) × Short ns

-- The line of a refusal, and the first line of a result.
abbrev pub refused_line : ℕ → ℕ → List ℕ
refused_line n p = line (characters "refused") (n ∷ p ∷ [])

abbrev pub ended_line : Line → List ℕ
ended_line x =
    let m = x.made in
    line (end_name x.end) (x.code ∷ m.steps ∷ x.left ∷ x.wanted ∷ m.calls ∷ m.conversions ∷ m.others ∷ [])

-- The words that are left stand in the buffer.
abbrev pub LeftWithin : Verdict Line → List ℕ → Type 0
LeftWithin (refused n p) ws = Unit {0}
LeftWithin (passed x) ws = x.left ≤ length ws

-- The words wanted are at most the square of a run's largest capacity, which is 16,384.
abbrev pub WantedFew : Verdict Line → Type 0
WantedFew (refused n p) = Unit {0}
WantedFew (passed x) = x.wanted ≤ 268435456

-- The text of either.
abbrev pub text_by : Verdict Line → List ℕ → List ℕ
text_by (refused n p) ws = refused_line n p
text_by (passed x) ws = ended_line x ++ words_line (take x.left ws) ++ line_feed ∷ []
