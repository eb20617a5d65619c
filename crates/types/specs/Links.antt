-- The links: one for each word of the file.
use Rattle.std.specs.Prelude.{ℕ, ◌<◌, List, ◌≡◌, get_or}

-- A place as a link. A file has at most 4,096 words, so that each place of it fits the 16 bits of a link.
abbrev pub LinkTo : ℕ → ℕ → Type 0
LinkTo p r = p < 65536 → r ≡ p

-- The links before the place are as they were.
abbrev pub KeptBefore : ℕ → List ℕ → List ℕ → Type 0
KeptBefore at before after = (i : ℕ) → i < at → get_or after i 0 ≡ get_or before i 0
