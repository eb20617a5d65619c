-- Document 01, "A file is little-endian words" and the table of refusals: the check of a file, and its run.
use Rattle.std.specs.Prelude.{ℕ, ◌+◌, ◌*◌, ◌-◌, ◌/◌, ◌%◌, Bool, ◌&&◌, List, [], ◌∷◌, ◌++◌, eqb, leb, length, get_or, take, drop, replicate}
use Rattle.calculus.specs.Trees.{Ty, ml, Term}
use Rattle.calculus.specs.Words.{size}
use Rattle.calculus.specs.Kinds.{Sort, type, term, Tree}
use Rattle.calculus.specs.Verdicts.{found, Verdict, refused, passed, and_then, unless, or_refuse}
use Rattle.calculus.specs.Reading.{later, walk, in_order, read_tree}
use Rattle.calculus.specs.Scope.{scope_due}
use Rattle.calculus.specs.Comparison.{compare_types}
use Rattle.calculus.specs.Inference.{infer}
use Rattle.calculus.specs.Faults.{fault}
use Rattle.calculus.specs.Run.{Result, run, uncounted, capacity}

-- "little-endian words".
abbrev pub word_of : ℕ → ℕ → ℕ → ℕ → ℕ
word_of a b c d = a + 256 * b + 65536 * c + 16777216 * d

unfoldable pub words_of : List ℕ → List ℕ
words_of [] = []
words_of (a ∷ []) = []
words_of (a ∷ b ∷ []) = []
words_of (a ∷ b ∷ c ∷ []) = []
words_of (a ∷ b ∷ c ∷ d ∷ more) = word_of a b c d ∷ words_of more

-- The bytes of words, the least byte first.
abbrev pub bytes_of : List ℕ → List ℕ
bytes_of [] = []
bytes_of (w ∷ ws) = (w % 256) ∷ (w / 256 % 256) ∷ (w / 65536 % 256) ∷ (w / 16777216) ∷ bytes_of ws

-- "1 | bytes not a multiple of 4, under 24 or over 16,384".
abbrev pub is_size : ℕ → Bool
is_size n = leb 24 n && leb n 16384 && eqb (n % 4) 0

-- "type count, type offset (4), term count, term offset (4 + type count), the declared type, an ML term. .. both counts are at least 1; the
-- file ends with the term."
abbrev pub type_count : List ℕ → ℕ
type_count ws = get_or ws 0 0

abbrev pub is_header : List ℕ → Bool
is_header ws =
    leb 1 (get_or ws 0 0) && eqb (get_or ws 1 0) 4 && leb 1 (get_or ws 2 0) && eqb (get_or ws 3 0) (4 + get_or ws 0 0)
    && eqb (get_or ws 3 0 + get_or ws 2 0) (length ws)

-- The words of a file of a declared type and a term, in words.
abbrev pub file_of : List ℕ → List ℕ → List ℕ
file_of types terms = length types ∷ 4 ∷ length terms ∷ (4 + length types) ∷ types ++ terms

abbrev pub type_words : List ℕ → List ℕ
type_words ws = take (type_count ws) (drop 4 ws)

abbrev pub term_words : List ℕ → List ℕ
term_words ws = drop (4 + type_count ws) ws

-- "then 3 and 4 in one walk, type before term": the words from the place p on are one node of a sort.
abbrev pub ordered : {A : Type 0} → Sort → List ℕ → ℕ → Verdict A → Verdict A
ordered s ws p v = and_then (later p (in_order s ws)) (λ n. v)

-- "then 5 over the whole term".
abbrev pub scoped : {A : Type 0} → List ℕ → ℕ → Verdict A → Verdict A
scoped ws p v = and_then (later p (walk scope_due ws ([] ∷ []))) (λ n. v)

-- A recipe: the declared type and the term.
abbrev pub Recipe : Type 0
Recipe = Ty × Term ml

-- "6 | the term has no type", "7 | its type is not the declared one", of a declared type that stands at p and a term that stands at q. Document 02:
-- "Refusal 6 carries the lowest-numbered node that has no type, or is not well formed, while all its own parts are in order. Refusal 7 carries the
-- first declared word that differs from the type found."
unfoldable pub typed : ℕ → ℕ → Ty → Term ml → Verdict Recipe
typed p q τ e =
    and_then (or_refuse (infer [] e) 6 (fault q [] e)) (λ t.
    found (compare_types τ t) (passed (τ, e)) (λ d. refused 7 (p + d)))

-- The trees that words in order are; words that are none have been refused by 3 already.
abbrev pub with_tree : {A : Type 0} → (s : Sort) → List ℕ → ℕ → (Tree s → Verdict A) → Verdict A
with_tree s ws p k = and_then (or_refuse (read_tree s ws) 3 p) k

-- Refusals 3 to 7 of the words of a declared type, which stands at 4, and of a term, which stands at `start`; or the recipe: "then 3 and 4 in
-- one walk, type before term, 3 before 4 at a word; then 5 over the whole term; 6; 7".
abbrev pub judged : List ℕ → List ℕ → ℕ → Verdict Recipe
judged types terms start =
    ordered type types 4
    (ordered (term ml) terms start
    (scoped terms start
    (with_tree type types 4 (λ τ.
    with_tree (term ml) terms start (λ e. typed 4 start τ e)))))

-- Refusals 2 to 7 of a file's words: "Order: 1, 2; then 3 and 4 ..; 8. The check alone never gives 8."
unfoldable pub check_words : List ℕ → Verdict Recipe
check_words ws = unless (is_header ws) 2 0 (judged (type_words ws) (term_words ws) (4 + type_count ws))

-- The check of a file's bytes.
unfoldable pub check : List ℕ → Verdict Recipe
check bytes = unless (is_size (length bytes)) 1 0 (check_words (words_of bytes))

-- The run of a recipe in two buffers of these lengths: "8 | term words over capacity".
unfoldable pub run_in : ℕ → ℕ → Recipe → Verdict Result
run_in limit cap x = unless (leb (size x.1) cap) 8 0 (passed (run limit cap uncounted x.1))

-- "Lent: the file, a step limit .., two word buffers": the whole operation, by the buffers' lengths.
unfoldable pub operate : List ℕ → ℕ → ℕ → ℕ → Verdict Result
operate bytes limit first second = and_then (check bytes) (λ x. run_in limit (capacity first second) x)

-- "After value, spent and full the term stands first in the first buffer; after error words left is 0. Every other word of both buffers is
-- zero." "After a refusal every buffer lent for writing, both word buffers included, is all zero".
unfoldable pub padded : ℕ → List ℕ → List ℕ
padded n ws = take n ws ++ replicate (n - length ws) 0

abbrev pub left_by : Verdict Result → List ℕ
left_by (refused n p) = []
left_by (passed r) = r.left

abbrev pub first_after : ℕ → Verdict Result → List ℕ
first_after n v = padded n (left_by v)

abbrev pub second_after : ℕ → Verdict Result → List ℕ
second_after n v = padded n []
