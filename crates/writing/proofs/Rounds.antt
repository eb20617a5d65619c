-- A loop that substitutes: a turn for each word, and its two ends. Assumes nothing.
use Prim.Native.Nat.{ℕ, suc, ◌+◌, ◌-◌, ◌*◌, ◌%◌, ◌≤◌, ◌<◌}
use mathlib.Core.List.{List, [], ◌∷◌}
use mathlib.Core.Path.{◌≡◌, refl, ap, ◌∙◌, subst}
use native.Mathlib.Omega.{arith}
use lib.ListN.{length, drop, length-drop}
use Rattle.std.proofs.Common.{Some}
use Rattle.calculus.specs.Scope.{part_count}
use Rattle.nodes.specs.declared.kinds.Shape.TheVariants as shapes
use Rattle.nodes.specs.Table.{shape_of}
use Rattle.writing.specs.declared.Writer.{Writer}
use Rattle.writing.specs.Given.{most_words}
use Rattle.writing.specs.Puts.{Puts}
use Rattle.writing.specs.Substituted.{Substituted}
use Rattle.writing.proofs.Substituting.{nothing_due, too_few, replaced, passed, entered}

-- The words `rest` are left, `left` nodes are due, and y is the variable's word there: with the rest substituted from there on, the whole is. No
-- word was written for more than most_words, and no lambda was entered by more than one.
pub record Begun (ws : List ℕ) (due x : ℕ) (value : List ℕ) (w : Writer ℕ) (rest : List ℕ) (left y : ℕ) (q : Writer ℕ) : Type 0 where
  pub within : length rest ≤ length ws
  pub least : w.at ≤ q.at
  pub most : q.at ≤ w.at + most_words * (length ws - length rest)
  pub deeper : y ≤ x + 256 * (length ws - length rest)
  pub same : q.buffer.ghost_name ≡ w.buffer.ghost_name
  pub whole : (n read : ℕ) (r : Writer ℕ) → n ≡ length ws - length rest + read → Substituted rest left y value q read r
      → Substituted ws due x value w n r

pub begins : (ws : List ℕ) (due x : ℕ) (value : List ℕ) (w : Writer ℕ) → Begun ws due x value w ws due x w
begins ws due x value w =
    record {
      within = omega arith;
      least = omega arith;
      most = omega arith;
      deeper = omega arith;
      same = refl;
      whole = λ n read r e s. let z : read ≡ n = omega (arith, e) in subst (λ (k : ℕ). Substituted ws due x value w k r) z s;
    }

module _ {ws : List ℕ} {due x : ℕ} {value : List ℕ} {w : Writer ℕ} {rest : List ℕ} {left y : ℕ} {q : Writer ℕ}
    (begun : Begun ws due x value w rest left y q) where
  pub ends : left ≡ 0 → Substituted ws due x value w (length ws - length rest) q
  ends z = begun.whole _ 0 q (omega arith) (nothing_due rest left y value q z)

  pub breaks : length rest < left → Substituted ws due x value w (length ws - length rest) q
  breaks h = begun.whole _ 0 q (omega arith) (too_few rest left y value q h)

  -- One word is read, and others are left.
  module _ (first : ℕ) (us : List ℕ) (split : rest ≡ first ∷ us) (some : left ≡ 0 → ⊥) where
    turn : (us₁ : List ℕ) (left₁ y₁ gone : ℕ) (q₁ : Writer ℕ) → length us₁ + gone ≡ length us → q.at ≤ q₁.at → q₁.at ≤ q.at + most_words * suc gone
        → y₁ ≤ y + 256 → q₁.buffer.ghost_name ≡ q.buffer.ghost_name
        → ((n read : ℕ) (r : Writer ℕ) → n ≡ suc (gone + read) → Substituted us₁ left₁ y₁ value q₁ read r
        → Substituted (first ∷ us) left y value q n r)
        → Begun ws due x value w us₁ left₁ y₁ q₁
    turn us₁ left₁ y₁ gone q₁ l low high deeper same h =
        let one = ap length split in
        record {
          within = omega (arith, begun.within, one);
          least = omega (arith, begun.least, low);
          most = omega (arith, begun.most, begun.within, high, one);
          deeper = omega (arith, begun.deeper, begun.within, deeper, one);
          same = same ∙ begun.same;
          whole = λ n read r e s. begun.whole n (suc (gone + read)) r (omega (arith, e, begun.within, one)) (rw split (h _ read r refl s));
        }

    pub replaces : (q₁ : Writer ℕ) → length value ≤ most_words → first ≡ y → Puts q value q₁ → Begun ws due x value w us (left - 1) y q₁
    replaces q₁ few g p =
        turn us (left - 1) y 0 q₁ (omega arith) (omega (arith, p.wrote.place)) (omega (arith, p.wrote.place)) (omega arith) p.same
        (λ n read r e s. replaced first us left y value q some q₁ r read n (omega (arith, e)) g p s)

    module _ (q₁ : Writer ℕ) (count : ℕ) (g : first ≡ y → ⊥) (p : Puts q (first ∷ []) q₁) (count_eq : count ≡ part_count first) where
      one_put : q₁.at ≡ q.at + 1
      one_put = p.wrote.place

      pub passes : (shape_of (first % 256) ≡ Some shapes.Lambda → ⊥) → Begun ws due x value w us (left - 1 + count) y q₁
      passes h =
          turn us (left - 1 + count) y 0 q₁ (omega arith) (omega (arith, one_put)) (omega (arith, one_put)) (omega arith) p.same
          (λ n read r e s. passed first us left y value q some q₁ count g p count_eq r read n (omega (arith, e)) h s)

      pub enters : (r₁ : Writer ℕ) (read₁ : ℕ) (us₁ : List ℕ) → us₁ ≡ drop read₁ us → shape_of (first % 256) ≡ Some shapes.Lambda
          → read₁ ≤ length us → (q₁.at ≤ r₁.at) × (r₁.at ≤ q₁.at + most_words * read₁) → r₁.buffer.ghost_name ≡ q₁.buffer.ghost_name
          → Substituted us count (y + 256) value q₁ read₁ r₁ → Begun ws due x value w us₁ (left - 1) y r₁
      enters r₁ read₁ us₁ d h le bound same part =
          turn us₁ (left - 1) y read₁ r₁ (omega (arith, ap length d, length-drop read₁ us)) (omega (arith, one_put, bound))
          (omega (arith, one_put, bound)) (omega arith) (same ∙ p.same)
          (λ n read r e s. entered first us left y value q some q₁ count g p count_eq r₁ r read₁ read n us₁ e h d part s)

      -- The lambda is all that is due: its parts are the rest, and nothing is due after them.
      pub descends : shape_of (first % 256) ≡ Some shapes.Lambda → left - 1 ≡ 0 → Begun ws due x value w us count (y + 256) q₁
      descends h last =
          turn us count (y + 256) 0 q₁ (omega arith) (omega (arith, one_put)) (omega (arith, one_put)) (omega arith) p.same
          (λ n read r e s. entered first us left y value q some q₁ count g p count_eq r r read 0 n (drop read us) (omega (arith, e)) h refl s
          (nothing_due (drop read us) (left - 1) y value r last))
