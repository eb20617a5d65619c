-- What saving answers: each way out of the code is one law. Assumes nothing.
use Prim.Native.Nat.{ℕ, ◌+◌, ◌*◌, ◌≤◌, ◌<◌}
use mathlib.Core.Bool.{false, false≢true}
use mathlib.Core.List.{List}
use mathlib.Core.Path.{◌≡◌, refl, sym, ap, ◌∙◌}
use native.Mathlib.Omega.{arith}
use lib.Dec.{leb}
use lib.ListN.{length, take, drop}
use lib.Seq.{sets-eq, take_at}
use borrow.Author.Tests.{le-leb, lt-leb}
use Rattle.std.specs.Prelude.{Result, Ok, Err}
use Rattle.std.specs.Result.{is_err}
use Rattle.calculus.specs.Verdicts.{Verdict, refused, passed, and_then, unless}
use Rattle.calculus.specs.File.{bytes_of, file_of, Recipe, judged}
use Rattle.calculus.proofs.Verdicts.{not_both, passed_injective}
use Rattle.nodes.specs.declared.refusals.Refusal.{Refusal}
use Rattle.nodes.specs.Refusals as nodes
use Rattle.writing.specs.Wrote.{Wrote}
use Rattle.writing.proofs.Stores.{wrote_as}
use Rattle.checker.specs.Checks.{checked, accepting, judging}
use Rattle.saving.specs.Saving.{file_bytes, saving}
use Rattle.saving.specs.Answered.{length_of, written_by}
use Rattle.saving.specs.Parts.{FewWords, written, Answers, Writes}
use Rattle.saving.specs.Refusals.{number_of, place_of, refusal}
use Rattle.saving.specs.declared.Unsaved.{Unsaved}
use Rattle.saving.specs.declared.Unsaved.TheVariants as u
use Rattle.saving.proofs.Bytes.{bytes_length, file_length, types_part, terms_part}

-- What a verdict without its bytes came from.
pub refused_by_lem : (v : Verdict (List ℕ)) (u : Unsaved) → refusal u ≡ length_of v → v ≡ refusal u
refused_by_lem (refused n p) u q = let z : ◌≡◌ {A = Verdict (List ℕ)} (refused n p) (refusal u) = cc in z
refused_by_lem (passed file) u q = absurd (not_both (number_of u) (place_of u) (length file) q)

pub passed_by : (v : Verdict (List ℕ)) (n : ℕ) → passed n ≡ length_of v → (file : List ℕ) × (v ≡ passed file) × (n ≡ length file)
passed_by (refused m p) n q = absurd (not_both m p n (sym q))
passed_by (passed file) n q = (file, refl, passed_injective n (length file) q)

-- Words that were written to a buffer with room for them.
pub wrote_front : (b b' ws : List ℕ) (k : ℕ) → Wrote b 0 ws k b' → length ws ≤ length b → take k b' ≡ ws
wrote_front b b' ws k w h =
    ap (take k) (w.stored ∙ sets-eq ws b 0 (omega arith)) ∙ take_at ws (drop (0 + length ws) b) k (omega (arith, w.place))

-- A refusal is that of the verdict; and a file that was written is.
refused_as : {v : Verdict (List ℕ)} {u : Unsaved} {out' : List ℕ} → refusal u ≡ v → Answers v (Err u) out'
refused_as e = record { answer_is = ap length_of e; out_is = λ n q. absurd (false≢true (sym (ap is_err q))) }

written_as : {v : Verdict (List ℕ)} {out out' file : List ℕ} {n : ℕ} → v ≡ passed file → length file ≤ length out → Wrote out 0 file n out'
    → Answers v (Ok n) out'
written_as {out' = out'} {file} {n} e h w =
    record {
      answer_is = ap passed (omega (arith, w.place)) ∙ ap length_of (sym e);
      out_is = λ k q. ap (λ (i : ℕ). take i out') (sym (same q)) ∙ wrote_front _ out' file n w h ∙ ap written_by (sym e);
    }
  where
    same : {k : ℕ} → ◌≡◌ {A = Result ℕ Unsaved} (Ok n) (Ok k) → n ≡ k
    same q = cc

answers_as : {v v' : Verdict (List ℕ)} {x : Result ℕ Unsaved} {out' : List ℕ} → v ≡ v' → Answers v x out' → Answers v' x out'
answers_as e a = record { answer_is = a.answer_is ∙ ap length_of e; out_is = λ n q. a.out_is n q ∙ ap written_by e }

-- The words of the file, as the code judges them.
module _ (types terms : List ℕ) where
  file_judged : judging (file_of types terms) (length types) ≡ judged types terms (4 + length types)
  file_judged = rw (types_part types terms, terms_part types terms)

  -- 12; 3 to 7; and past them 13, or the file.
  pub too_long : (room : ℕ) → leb (file_bytes (length types) (length terms)) 16384 ≡ false → refused 12 0 ≡ saving types terms room
  unfolding saving
  too_long room h = rw h

  module _ (room : ℕ) (few : FewWords types terms) where
    writing_as : (v : Verdict Recipe) → judged types terms (4 + length types) ≡ v
        → saving types terms room
        ≡ and_then v (λ x. unless (leb (file_bytes (length types) (length terms)) room) 13 0 (passed (bytes_of (file_of types terms))))
    unfolding saving
    writing_as v q = rw (le-leb (file_bytes (length types) (length terms)) 16384 (omega arith), q)

    judged_out : (r : Refusal) → nodes.refusal r ≡ accepting (judging (file_of types terms) (length types))
        → nodes.refusal r ≡ saving types terms room
    judged_out r q = by (judged types terms (4 + length types)) refl (q ∙ ap accepting file_judged)
      where
        by : (v : Verdict Recipe) → judged types terms (4 + length types) ≡ v → nodes.refusal r ≡ accepting v
            → nodes.refusal r ≡ saving types terms room
        by (refused n p) e h =
            let z : ◌≡◌ {A = Verdict (List ℕ)} (nodes.refusal r) (refused n p) = cc in z ∙ sym (writing_as (refused n p) e)
        by (passed x) e h = absurd (not_both (nodes.number_of r) (nodes.place_of r) tt h)

    judged_in : passed tt ≡ accepting (judging (file_of types terms) (length types)) → saving types terms room
        ≡ unless (leb (file_bytes (length types) (length terms)) room) 13 0 (passed (bytes_of (file_of types terms)))
    judged_in q = by (judged types terms (4 + length types)) refl (q ∙ ap accepting file_judged)
      where
        by : (v : Verdict Recipe) → judged types terms (4 + length types) ≡ v → passed tt ≡ accepting v
            → saving types terms room ≡ unless (leb (file_bytes (length types) (length terms)) room) 13 0 (passed (bytes_of (file_of types terms)))
        by (refused n p) e h = absurd (not_both n p tt (sym h))
        by (passed x) e h = writing_as (passed x) e

-- 13, or the bytes of a file's words.
pub too_short : (ws out : List ℕ) {out' : List ℕ} → length out < 4 * length ws → Answers (written ws (length out)) (Err u.Short) out'
too_short ws out h = refused_as (sym (rw (lt-leb (4 * length ws) (length out) h)))

pub bytes_written : (ws out : List ℕ) {out' : List ℕ} {n : ℕ} → 4 * length ws ≤ length out → Wrote out 0 (bytes_of ws) n out'
    → Answers (written ws (length out)) (Ok n) out'
bytes_written ws out h w = written_as (rw (le-leb (4 * length ws) (length out) h)) (omega (arith, h, bytes_length ws)) w

-- A save that is too long.
pub refused_12 : (types terms out : List ℕ) {out' : List ℕ} → leb (file_bytes (length types) (length terms)) 16384 ≡ false
    → Writes types terms out (Err u.Long) out'
refused_12 types terms out h = refused_as (too_long types terms (length out) h)

-- The words of the file, where they were filled in.
module _ (types terms : List ℕ) {all all' : List ℕ} {count : ℕ} (few : FewWords types terms) (array : length all ≡ 4096)
    (w : Wrote all 0 (file_of types terms) count all') where
  count_is : count ≡ 4 + length types + length terms
  count_is = omega (arith, w.place, file_length types terms)

  front : take count all' ≡ file_of types terms
  front = wrote_front all all' (file_of types terms) count w (omega (arith, file_length types terms))

  judged_as : (r : Result (Unit {0}) Refusal) → checked r ≡ accepting (judging (take count all') (length types))
      → checked r ≡ accepting (judging (file_of types terms) (length types))
  judged_as r q = q ∙ ap (λ (l : List ℕ). accepting (judging l (length types))) front

  pub refused_by_check : (out : List ℕ) {out' : List ℕ} (r : Refusal) → refusal (u.Recipe r) ≡ accepting (judging (take count all') (length types))
      → Writes types terms out (Err (u.Recipe r)) out'
  refused_by_check out r q = refused_as (judged_out types terms (length out) few r (judged_as (Err r) q))

  pub judged_and_put : (out : List ℕ) {out' : List ℕ} {x : Result ℕ Unsaved}
      → passed tt ≡ accepting (judging (take count all') (length types))
      → Answers (written (take count all') (length out)) x out' → Writes types terms out x out'
  judged_and_put out q a = answers_as (as_written ∙ sym (judged_in types terms (length out) few (judged_as (Ok tt) q))) a
    where
      same_bytes : 4 * length (file_of types terms) ≡ file_bytes (length types) (length terms)
      same_bytes = omega (arith, file_length types terms)

      as_written : written (take count all') (length out)
          ≡ unless (leb (file_bytes (length types) (length terms)) (length out)) 13 0 (passed (bytes_of (file_of types terms)))
      as_written =
          ap (λ (l : List ℕ). written l (length out)) front
          ∙ ap (λ (n : ℕ). unless (leb n (length out)) 13 0 (passed (bytes_of (file_of types terms)))) same_bytes
