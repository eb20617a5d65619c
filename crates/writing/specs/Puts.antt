-- What a writer does to the buffer that is lent to it.
use Rattle.std.specs.Prelude.{List, ◌≡◌, length, take}
use Rattle.writing.specs.declared.Writer.{Writer}
use Rattle.writing.specs.Wrote.{Wrote, filled_to}

-- r is the writer w, of the same loan, with the items xs put.
pub record Puts {T : Type 0} (w : Writer T) (xs : List T) (r : Writer T) : Type 0 where
  pub same : r.buffer.ghost_name ≡ w.buffer.ghost_name
  pub wrote : Wrote w.buffer.now w.at xs r.at r.buffer.now

-- r is the writer w, of the same loan and at the same place, with x at each place from there on.
pub record Filled {T : Type 0} (w : Writer T) (x : T) (r : Writer T) : Type 0 where
  pub same : r.buffer.ghost_name ≡ w.buffer.ghost_name
  pub place : r.at ≡ w.at
  pub rest : r.buffer.now ≡ filled_to (length w.buffer.now) x (take w.at w.buffer.now)
