-- Document 01, refusals 1 and 2 in their order: what opening a file answers, and the words it leaves.
use Rattle.std.specs.Prelude.{ℕ, cond, List, [], length, Result, Ok, Err}
use Rattle.calculus.specs.Verdicts.{Verdict, passed, unless}
use Rattle.calculus.specs.File.{words_of, is_size, is_header, type_count}
use Rattle.nodes.specs.declared.refusals.Refusal.{Refusal}
use Rattle.nodes.specs.Refusals.{refusal}
use Rattle.file.specs.declared.Recipe.{Recipe}

-- The verdict that an answer stands for: a refusal's number and place, or the words of the declared type and those of the file, counted.
abbrev pub opened : Result Recipe Refusal → Verdict (ℕ × ℕ)
opened (Err r) = refusal r
opened (Ok x) = passed (x.type_count, x.count)

-- Of a file's words: "2 | a count is 0, an offset is not as above, or term offset plus term count is not the file's length in words".
abbrev pub headed : List ℕ → Verdict (ℕ × ℕ)
headed ws = unless (is_header ws) 2 0 (passed (type_count ws, length ws))

-- Of a file's bytes: "Order: 1, 2".
abbrev pub opening : List ℕ → Verdict (ℕ × ℕ)
opening bytes = unless (is_size (length bytes)) 1 0 (headed (words_of bytes))

-- The words that stand in the buffer: none where the size is refused.
abbrev pub kept : List ℕ → List ℕ
kept bytes = cond (is_size (length bytes)) (words_of bytes) []
