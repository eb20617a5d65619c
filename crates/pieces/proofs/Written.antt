-- What a piece writes. Assumes nothing.
use Prim.Native.Nat.{ℕ}
use mathlib.Core.List.{List, [], ◌∷◌}
use mathlib.Core.Path.{◌≡◌, refl, sym, ap, ◌∙◌}
use native.Mathlib.Omega.{arith}
use denote.Bor.{Bor}
use Rattle.calculus.specs.Trees.{Lang, Term}
use Rattle.calculus.specs.Words.{word, by, words}
use Rattle.calculus.specs.Kinds.{term}
use Rattle.nodes.specs.declared.kinds.Language.{Language}
use Rattle.nodes.specs.Table.{as_lang}
use Rattle.writing.specs.declared.Writer.{Writer}
use Rattle.writing.specs.Puts.{Puts}
use Rattle.writing.specs.Substituted as sub
use Rattle.writing.proofs.Stores.{puts_as}
use Rattle.pieces.specs.declared.became.Piece.{Piece}
use Rattle.pieces.specs.declared.became.Piece.TheVariants.{Substituted}
use Rattle.pieces.specs.Pieces.{Gives, Writes}

variable_word : (l : Lang) (x : ℕ) → x ≡ by l 16 32 → x ≡ word (by l 16 32) 0
variable_word l x e = e ∙ omega arith

-- A substitution on the words of a body writes the body with the value.
pub substituted_writes : (i : Language) (body value : Bor (List ℕ)) {x read : ℕ} {w r : Writer ℕ} → x ≡ by (as_lang i) 16 32
    → r.buffer.ghost_name ≡ w.buffer.ghost_name → sub.Substituted body.now 1 x value.now w read r → Writes (Substituted i body value) w r
substituted_writes i body value {x} {read} {w} {r} e s h =
    record {
      same = s;
      of = λ l u g.
          puts_as (ap words (sym g.5))
          (h.of g.0 0 (term l ∷ []) (g.1, tt) [] g.3 refl (variable_word l x (e ∙ ap (λ (m : Lang). by m 16 32) g.2)) g.4).1;
    }

-- Any other piece writes its words.
pub words_write : {p : Piece} {w r : Writer ℕ} {xs : List ℕ} → ((l : Lang) (u : Term l) → Gives p u → words u ≡ xs) → Puts w xs r → Writes p w r
words_write g h = record { same = h.same; of = λ l u i. puts_as (sym (g l u i)) h }
