-- What `save` promises meets demands 1 and 2; and with what `run` promises, running, saving and running again is one run. Assumes nothing.
use Prim.Native.Nat.{ℕ, ◌+◌, ◌≤◌}
use mathlib.Core.List.{List, []}
use mathlib.Core.Logic.{◌↔◌, ◌⊎◌}
use mathlib.Core.Path.{◌≡◌, refl, sym, ap, ◌∙◌, subst}
use native.Mathlib.Omega.{arith}
use lib.ListN.{length, take, drop}
use Rattle.calculus.specs.Trees.{Ty}
use Rattle.calculus.specs.Words.{words_ty}
use Rattle.calculus.specs.Verdicts.{Verdict, refused, passed, and_then}
use Rattle.calculus.specs.Run as spec
use Rattle.calculus.specs.Counting.{later}
use Rattle.calculus.specs.Endings.{Ending}
use Rattle.calculus.specs.File.{bytes_of, file_of, Recipe, operate, padded, left_by}
use Rattle.calculus.specs.Accepted.{Accepted}
use Rattle.calculus.proofs.Comparison.{equal_by_words}
use Rattle.calculus.proofs.Verdicts.{not_both, passed_injective, refused_injective}
use Rattle.calculus.proofs.Checks.{accepted_once, operate_iff}
use Rattle.calculus.proofs.Bounds.{operate_bounded}
use Rattle.calculus.proofs.Endings.{ends_iff, ending}
use Rattle.calculus.proofs.Padding.{padded_none, padded_take, padded_drop, padded_length}
use Rattle.counts.specs.Counting.{counts_of}
use Rattle.nodes.specs.declared.refusals.Refusal.{Refusal}
use Rattle.ends.specs.declared.Report.{Report}
use Rattle.ends.specs.Results.{Line, line_of, told}
use Rattle.engine.specs.Answered as engine
use Rattle.engine.specs.Lent.{Lent, Returned, lent, room}
use Rattle.engine.proofs.Answering as answering
use Rattle.saving.specs.Saving.{saving}
use Rattle.saving.specs.Refusals.{number_of, place_of, refusal}
use Rattle.saving.specs.Answered.{spoken, length_of, written_by, Saves}
use Rattle.saving.specs.Laws.{FileOf, Exactly}
use Rattle.saving.specs.Laws as laws
use Rattle.saving.specs.declared.Unsaved.{Unsaved}
use Rattle.saving.specs.declared.Unsaved.TheVariants as u
use Rattle.std.specs.Prelude.{Ok, Err}
use Rattle.std.specs.Prelude as std
use Rattle.saving.proofs.Bytes.{file_bytes_lem}
use Rattle.saving.proofs.Saving.{refused_by_lem, passed_by}
use Rattle.saving.proofs.Laws.{exactly}
use Rattle.saving.proofs.Going.{goes_on}
use Rattle.demands_of_saves.specs.Saved.{Handed, handed, bytes_due, Finishes, refuses, writes, RefusedBy, Savable, SavedOnce, Paused, left_of}
use Rattle.demands_of_saves.specs.Saved.{written_of, ReadBack, after, AsOne, SaveRuns}
use Rattle.demands.proofs.Running as running
use Rattle.demands.proofs.Running.{Promised, ended_by, front}

-- A run depends on its buffers by their capacity alone.
run_as : (bs cs : List ℕ) (k j a b c d : ℕ) → bs ≡ cs → k ≡ j → spec.capacity a b ≡ spec.capacity c d → operate bs k a b ≡ operate cs j c d
unfolding operate
run_as bs cs k j a b c d p q r = rw (p, q, r)

-- What an answer is where the specification makes a file, or refuses.
is_file : (x : std.Result ℕ Unsaved) (v : Verdict (List ℕ)) (file : List ℕ) → spoken x ≡ length_of v → v ≡ passed file → x ≡ Ok (length file)
is_file x v file h q = by x (h ∙ ap length_of q)
  where
    by : (x : std.Result ℕ Unsaved) → spoken x ≡ passed (length file) → x ≡ Ok (length file)
    by (Err y) e = absurd (not_both (number_of y) (place_of y) (length file) e)
    by (Ok n) e = ap Ok (passed_injective n (length file) e)

is_refused : (x : std.Result ℕ Unsaved) (v : Verdict (List ℕ)) (n p : ℕ) → spoken x ≡ length_of v → v ≡ refused n p → RefusedBy x n p
is_refused x v n p h q = by x refl (h ∙ ap length_of q)
  where
    by : (y : std.Result ℕ Unsaved) → x ≡ y → spoken y ≡ refused n p → RefusedBy x n p
    by (Err y) w e =
        let i = refused_injective e in record { refusal = y; refused = w; number = i.0; place = i.1 }
    by (Ok m) w e = absurd (not_both n p m (sym e))

-- 12 and 13 are those of the lengths and of the buffer.
is_long : (y : Unsaved) → number_of y ≡ 12 → y ≡ u.Long
is_long u.Long q = refl
is_long (u.Recipe r) q = absurd (omega (arith, q, (running.numbered r).1))
is_long u.Short q = absurd (omega (arith, q))

is_short : (y : Unsaved) → number_of y ≡ 13 → y ≡ u.Short
is_short u.Long q = absurd (omega (arith, q))
is_short (u.Recipe r) q = absurd (omega (arith, q, (running.numbered r).1))
is_short u.Short q = refl

module _ (h : Handed) (x : std.Result ℕ Unsaved) (out' : List ℕ) (s : Saves h.types h.terms h.out x out') where
  abbrev verdict : Verdict (List ℕ)
  verdict = saving h.types h.terms (length h.out)

  abbrev law : Exactly h.types h.terms (length h.out)
  law = exactly h.types h.terms (length h.out)

  refuses_as : (y : Unsaved) → x ≡ Err y → verdict ≡ refusal y
  refuses_as y q = refused_by_lem verdict y (sym (ap spoken q) ∙ s.answer_is)

  -- The file that was written stands first, and zeros after it.
  record Written (n : ℕ) : Type 0 where
    file : List ℕ
    made : verdict ≡ passed file
    long : n ≡ length file
    room_is : length file ≤ length h.out
    front_is : take n out' ≡ file

  written : (n : ℕ) → x ≡ Ok n → Written n
  written n q =
      let f = passed_by verdict n (sym (ap spoken q) ∙ s.answer_is) in
      let r = ((law.saves f.0).0 f.1).1 in
      let o : out' ≡ padded (length h.out) f.0 = s.out_is ∙ ap (λ (v : Verdict (List ℕ)). padded (length h.out) (written_by v)) f.1 in
      record {
        file = f.0;
        made = f.1;
        long = f.2;
        room_is = r;
        front_is = ap (take n) o ∙ padded_take (length h.out) n f.0 r f.2;
      }

  finish : (y : std.Result ℕ Unsaved) → x ≡ y → Finishes h x out'
  finish (Err y) q =
      let r = refuses_as y q in
      refuses y q (law.no_other (number_of y) (place_of y) r)
      (s.out_is ∙ ap (λ (v : Verdict (List ℕ)). padded (length h.out) (written_by v)) r ∙ sym (padded_none (length h.out)))
  finish (Ok n) q =
      let w = written n q in
      writes n q (omega (arith, w.long, w.room_is))
      (subst (λ (l : List ℕ). FileOf h.types h.terms l) (sym w.front_is) ((law.saves w.file).0 w.made).0)
      (ap (drop n) (s.out_is ∙ ap (λ (v : Verdict (List ℕ)). padded (length h.out) (written_by v)) w.made)
      ∙ padded_drop (length h.out) n w.file w.room_is w.long)

  makes : ((n : ℕ) × (x ≡ Ok n)) ↔ (Savable h × (bytes_due h ≤ length h.out))
  makes = (
    λ q.
        let w = written q.0 q.1 in
        let f = (law.saves w.file).0 w.made in
        let e = f.0.bytes_are in
        (subst (λ (l : List ℕ). FileOf h.types h.terms l) e f.0, omega (arith, f.1, ap length e, file_bytes_lem h.types h.terms)),
    λ f.
        let file = bytes_of (file_of h.types h.terms) in
        let v = (law.saves file).1 (f.0, omega (arith, f.1, file_bytes_lem h.types h.terms)) in
        (length file, is_file x verdict file s.answer_is v),
  )

  refused_iff : (n p : ℕ) {P : Type 0} → (verdict ≡ refused n p) ↔ P → RefusedBy x n p ↔ P
  refused_iff n p i = (
    λ r. i.0 (refuses_as r.refusal r.refused ∙ rw (r.number, r.place)),
    λ q. is_refused x verdict n p s.answer_is (i.1 q),
  )

  pub saved_once : SavedOnce h x out'
  saved_once =
      record {
        finishes = finish x refl;
        writes = makes;
        twelve = (
          λ q. law.twelve.0 (refuses_as u.Long q),
          λ i. let r = is_refused x verdict 12 0 s.answer_is (law.twelve.1 i) in r.refused ∙ ap Err (is_long r.refusal r.number),
        );
        others = λ n p i. refused_iff n p (law.others n p i);
        six = λ p. refused_iff 6 p (law.six p);
        seven = λ p. refused_iff 7 p (law.seven p);
        thirteen = (
          λ q. law.thirteen.0 (refuses_as u.Short q),
          λ i. let r = is_refused x verdict 13 0 s.answer_is (law.thirteen.1 i) in r.refused ∙ ap Err (is_short r.refusal r.number),
        );
      }

-- A run, and the save of what it left.
module _ (l : Lent) (g : Returned) (run : Promised l g) (types out : List ℕ) (x : std.Result ℕ Unsaved) (out' : List ℕ)
    (s : Saves types (take (left_of g.answer) g.first) out x out') where
  abbrev due : Verdict spec.Result
  due = operate l.bytes l.limit (length l.first) (length l.second)

  module _ (p : Paused l types g.answer) where
    -- The specification's result, and its words.
    record Result : Type 0 where
      result : spec.Result
      is : due ≡ passed result
      numbers : told p.report ≡ line_of result
      terms_are : take (left_of g.answer) g.first ≡ result.left

    result_of : Result
    result_of =
        let r = answering.passed_by due p.report (ap engine.spoken (sym p.ended) ∙ run.answer_is) in
        let n : left_of g.answer ≡ length r.0.left = ap left_of p.ended ∙ ap (λ (y : Line). y.left) r.2 in
        record {
          result = r.0;
          is = r.1;
          numbers = r.2;
          terms_are = ap (λ (k : ℕ). take k g.first) n ∙ front l g r.0 r.1 run;
        }

    abbrev r : spec.Result
    r = result_of.result

    paused : laws.Paused l.bytes l.limit (length l.first) (length l.second) p.declared r
    paused =
        record {
          term = p.term;
          accepted = p.accepted;
          ran = result_of.is;
          goes = subst (λ (y : Line). spec.Open y.end) result_of.numbers p.goes;
        }

    -- What is saved are the words of the declared type, and those that the run left.
    saves : Saves (words_ty p.declared) r.left out x out'
    saves = subst (λ (ws : List ℕ). Saves ws r.left out x out') p.types_are
        (subst (λ (ws : List ℕ). Saves types ws out x out') result_of.terms_are s)

    abbrev h : Handed
    h = handed (words_ty p.declared) r.left out

    only_by : (y : Unsaved) → x ≡ Err y → (number_of y ≡ 4) ⊎ (number_of y ≡ 12) ⊎ (number_of y ≡ 13)
    only_by y q =
        goes_on.only_by l.bytes l.limit (length l.first) (length l.second) p.declared r paused (length out) (number_of y) (place_of y)
        (refuses_as h x out' saves y q)

    -- The one ending of the recipe's term has this result.
    one_result : (e : Ending l.limit (room l) p.term) → e.result ≡ r
    one_result e =
        let i = (operate_iff l.bytes l.limit (length l.first) (length l.second) r).0 result_of.is in
        let same = accepted_once l.bytes (i.0, i.1) (p.declared, p.term) i.2 p.accepted in
        let ran = (ends_iff l.limit (room l) p.term p.declared p.accepted.typed e.result).0 e.ends in
        sym (i.4 ∙ ap (λ (y : Recipe). spec.run l.limit (room l) spec.uncounted y.1) same ∙ ran)

    reads : (n : ℕ) → x ≡ Ok n → ReadBack l p.declared p.term (take n out')
    reads n q =
        let w = written h x out' saves n q in
        let f = (((exactly (words_ty p.declared) r.left (length out)).saves w.file).0 w.made).0 in
        let same = (equal_by_words.equal f.declared p.declared).1 (sym f.types_are) in
        let e = ending l.limit (room l) p.term p.declared p.accepted.typed in
        record {
          by_rules = e;
          term = f.term;
          left = ap (λ (y : spec.Result). y.left) (one_result e) ∙ f.terms_are;
          accepted = subst (λ (bs : List ℕ). Accepted bs p.declared f.term) (sym w.front_is)
              (subst (λ (σ : Ty). Accepted w.file σ f.term) same f.accepted);
        }

    -- The second run, of the file saved, in the buffers as the first left them; and a run in others, of the same capacity.
    module _ (again : ℕ) (g₂ : Returned) (run₂ : Promised (lent (take (written_of x) out') again g.first g.second) g₂)
        (m : Lent) (g₃ : Returned) (run₃ : Promised m g₃) where
      as_one : (n : ℕ) → x ≡ Ok n → 1 ≤ again → l.bytes ≡ m.bytes → l.limit + again ≡ m.limit → room l ≡ room m → AsOne p.report g₂ g₃
      as_one n q i b k c =
          let w = written h x out' saves n q in
          let one = goes_on.as_one l.bytes l.limit (length l.first) (length l.second) p.declared r paused (length out) w.file
          w.made again i in
          let y = one.0 in
          let file_is : take (written_of x) out' ≡ w.file = ap (λ (j : ℕ). take j out') (ap written_of q) ∙ w.front_is in
          let o₂ = run_as (take (written_of x) out') w.file again again (length g.first) (length g.second) _ _ file_is refl same_room
          ∙ one.1 in
          let o₃ = run_as m.bytes l.bytes m.limit (l.limit + again) (length m.first) (length m.second) _ _ (sym b) (sym k) (sym c)
          ∙ one.2 in
          let d₂ = ended_by g₂.answer (line_of y) (run₂.answer_is ∙ ap lines o₂) in
          let d₃ = ended_by g₃.answer (line_of (later r.made y)) (run₃.answer_is ∙ ap lines o₃) in
          let made : r.made ≡ counts_of p.report.made = sym (ap (λ (z : Line). z.made) result_of.numbers) in
          let n₂ : d₂.0.left ≡ length y.left = ap (λ (z : Line). z.left) d₂.2 in
          let n₃ : d₃.0.left ≡ length y.left = ap (λ (z : Line). z.left) d₃.2 in
          record {
            later = d₂.0;
            later_ended = d₂.1;
            whole = d₃.0;
            whole_ended = d₃.1;
            numbers = d₃.2 ∙ ap (λ (k : spec.Counts). after k (line_of y)) made ∙ ap (after (counts_of p.report.made)) (sym d₂.2);
            words =
                ap (λ (j : ℕ). take j g₃.first) n₃ ∙ front m g₃ (later r.made y) o₃ run₃
                ∙ sym (ap (λ (j : ℕ). take j g₂.first) n₂ ∙ front (lent (take (written_of x) out') again g.first g.second) g₂ y o₂ run₂);
          }
        where
          lines : Verdict spec.Result → Verdict Line
          lines v = and_then v (λ z. passed (line_of z))

          same_room : spec.capacity (length g.first) (length g.second) ≡ room l
          same_room = rw (run.first_is, run.second_is, padded_length (length l.first) (left_by due), padded_length (length l.second) [])

pub save_runs : (l : Lent) (g : Returned) → Promised l g → (types out : List ℕ) (x : std.Result ℕ Unsaved) (out' : List ℕ)
    → Saves types (take (left_of g.answer) g.first) out x out'
    → (again : ℕ) (g₂ : Returned) → Promised (lent (take (written_of x) out') again g.first g.second) g₂
    → (m : Lent) (g₃ : Returned) → Promised m g₃
    → SaveRuns l types g.answer x out' again g₂ m g₃
save_runs l g run types out x out' s again g₂ run₂ m g₃ run₃ =
    record {
      only_by = only_by l g run types out x out' s;
      reads = reads l g run types out x out' s;
      as_one = λ p. as_one l g run types out x out' s p again g₂ run₂ m g₃ run₃;
    }

-- What the code lends on lies within its buffers.
pub left_within : (l : Lent) (g : Returned) → Promised l g → left_of g.answer ≤ length g.first
left_within l g run = by g.answer refl
  where
    due : Verdict spec.Result
    due = operate l.bytes l.limit (length l.first) (length l.second)

    by : (a : std.Result Report Refusal) → g.answer ≡ a → left_of a ≤ length g.first
    by (Err y) q = omega arith
    by (Ok y) q =
        let r = answering.passed_by due y (ap engine.spoken (sym q) ∙ run.answer_is) in
        let n : y.left ≡ length r.0.left = ap (λ (z : Line). z.left) r.2 in
        let b = (operate_bounded l.bytes l.limit (length l.first) (length l.second) r.0 r.1).0 in
        omega (arith, n, b, ap length run.first_is, padded_length (length l.first) (left_by due))

pub written_within : (types terms out : List ℕ) (x : std.Result ℕ Unsaved) (out' : List ℕ) → Saves types terms out x out' → written_of x ≤ length out'
written_within types terms out x out' s = by x refl
  where
    v : Verdict (List ℕ)
    v = saving types terms (length out)

    by : (y : std.Result ℕ Unsaved) → x ≡ y → written_of y ≤ length out'
    by (Err y) q = omega arith
    by (Ok n) q =
        let w = written (handed types terms out) x out' s n q in
        omega (arith, w.long, w.room_is, ap length s.out_is, padded_length (length out) (written_by v))
