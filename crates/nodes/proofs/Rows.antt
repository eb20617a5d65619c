-- What a row that was looked up by a word tells of it. Assumes nothing.
use Rattle.std.proofs.Common.{ℕ, suc, ◌%◌, ◌≤◌, List, [], ◌∷◌, Option, None, Some, ◌≡◌, refl, sym, ◌∙◌, ap}
use Rattle.std.proofs.Common.{length}
use Rattle.calculus.specs.Scope.{part_count}
use Rattle.nodes.specs.declared.kinds.Sort as code
use Rattle.nodes.specs.declared.kinds.Row as code_row
use Rattle.nodes.specs.Table.{as_sorts, Row, read, row_of, told}
use Rattle.nodes.proofs.Table.{row_count, count_few}

pub as_many : (ss : List code.Sort) → length (as_sorts ss) ≡ length ss
as_many [] = refl
as_many (s ∷ ss) = ap suc (as_many ss)

pub parts_told : (w : ℕ) (r : code_row.Row) → read (Some r) ≡ row_of (w % 256) → length r.parts.now ≡ part_count w
parts_told w r e = sym (as_many r.parts.now) ∙ ap (λ (o : Option Row). told o 0 (λ x. length x.parts)) e ∙ row_count w

pub no_parts_told : (w : ℕ) → read None ≡ row_of (w % 256) → 0 ≡ part_count w
no_parts_told w e = ap (λ (o : Option Row). told o 0 (λ x. length x.parts)) e ∙ row_count w

pub few_parts : (w : ℕ) (r : code_row.Row) → read (Some r) ≡ row_of (w % 256) → length r.parts.now ≤ 3
few_parts w r e = rw (parts_told w r e) (count_few w)
