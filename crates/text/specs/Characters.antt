-- A text as bytes.
use Rattle.std.specs.Prelude.{ℕ, zero, suc, List, [], ◌∷◌}
use Prim.Native.Char.{code}
use Prim.Native.String.{String, len, char_at}

-- The codes of n characters of a text, from the place i on.
abbrev pub codes : String → ℕ → ℕ → List ℕ
codes s i zero = []
codes s i (suc n) = code (char_at s i) ∷ codes s (suc i) n

-- The bytes of a text of ASCII characters.
abbrev pub characters : String → List ℕ
characters s = codes s 0 (len s)

-- A blank, and the end of a line.
abbrev pub blank : ℕ
blank = 32

abbrev pub line_feed : ℕ
line_feed = 10
