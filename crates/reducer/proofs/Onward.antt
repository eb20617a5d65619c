-- Where the walk stands in a term, in words; and where it goes on to past a value. Assumes nothing.
use Prim.Native.Nat.{ℕ, ◌+◌, ◌≤◌}
use mathlib.Core.Bool.{Bool, true, false}
use mathlib.Core.List.{List, [], ◌++◌}
use mathlib.Core.Logic.{◌⊎◌, inl, inr}
use mathlib.Core.Path.{◌≡◌, refl, sym, ap, ◌∙◌, subst}
use lib.Dec.{T}
use lib.ListN.{length, drop, length-append}
use lib.Seq.{drop_at}
use native.Mathlib.Omega.{arith}
use Rattle.calculus.specs.Trees.{N, L, list, ◌to◌, Lang, ml, Op2, APP, ADD, SUB, CONS, Term}
use Rattle.calculus.specs.Words.{put, put_ty, words, size}
use Rattle.calculus.specs.Kinds.{type, term}
use Rattle.calculus.specs.Reduction.{Frame, under, first, second, tested, into_ml, into_scheme, plug, Context, here, within, fill, turn}
use Rattle.calculus.specs.Reduction as calculus
use Rattle.calculus.specs.Rules.{Value, cons_v, lump_v}
use Rattle.calculus.specs.Evaluation.{Evaluated, Ready}
use Rattle.calculus.proofs.Sizes.{tree_length}
use Rattle.calculus.proofs.Splices.{put_fill}
use Rattle.calculus.specs.Splices.{words_before, words_after}
use Rattle.calculus.proofs.Turns.{turn_filled}
use Rattle.reducer.specs.declared.turns.Waiting.{Waiting}
use Rattle.reducer.specs.Standing.{Frames, root, inside, whole, Reached, length_before, length_frames, waits_for, follows, pending, Standing, Ripe}

-- The frames around a place as a context, from the root inwards.
abbrev pub context_of : {j m : Lang} → Frames m → Context j m → Context j ml
context_of root F = F
context_of (inside f A) F = context_of A (within f F)

pub context_fill : {j m : Lang} (A : Frames m) (F : Context j m) (x : Term j) → fill (context_of A F) x ≡ whole A (fill F x)
unfolding fill
context_fill root F x = refl
context_fill (inside f A) F x = context_fill A (within f F) x

pub context_evaluated : {j m : Lang} (A : Frames m) → Reached A → (F : Context j m) → Evaluated F → Evaluated (context_of A F)
context_evaluated root r F ev = ev
context_evaluated (inside f A) r F ev = context_evaluated A r.1 (within f F) (r.0, ev)

before_length : {j m l : Lang} (f : Frame m l) (F : Context j m) → length (words_before (within f F)) ≡ length_before f + length (words_before F)
unfolding words_before
before_length (under o) F = omega arith
before_length (first o b) F = omega arith
before_length {m = m} (second o a) F = omega (arith, length-append (words a) (words_before F), tree_length (term m) a [])
before_length (tested b c) F = omega arith
before_length (into_ml t) F = omega (arith, length-append (put_ty t []) (words_before F), tree_length type t [])
before_length (into_scheme t) F = omega (arith, length-append (put_ty t []) (words_before F), tree_length type t [])

pub context_length : {j m : Lang} (A : Frames m) (F : Context j m) → length (words_before (context_of A F)) ≡ length_frames A + length
    (words_before F)
context_length root F = omega arith
context_length (inside f A) F = omega (arith, context_length A (within f F), before_length f F)

-- The context of the place where the walk stands: it is as long as the words before the place.
module _ {e : Term ml} {i due : ℕ} (s : Standing e i due) where
  abbrev pub context_at : Context s.lang ml
  context_at = context_of s.around here

  pub context_place : length (words_before context_at) ≡ i
  unfolding words_before
  context_place = let F : Context s.lang s.lang = here in omega (arith, context_length s.around F, s.place)

  pub context_is : (x : Term s.lang) → fill context_at x ≡ whole s.around x
  unfolding fill
  context_is x = context_fill s.around here x

  -- The part stands there in the words.
  pub part_stands : (ws : List ℕ) → ws ≡ words e → drop i ws ≡ put s.part (words_after context_at ++ [])
  part_stands ws q =
      let w : ws ≡ words_before context_at ++ put s.part (words_after context_at ++ []) =
      q ∙ ap words (sym s.is ∙ sym (context_is s.part)) ∙ put_fill context_at s.part [] in
      ap (drop i) w ∙ drop_at (words_before context_at) _ i context_place

-- It is the turn of a node that is ripe.
pub ripe_turn : {e : Term ml} {i back due : ℕ} (r : Ripe e i back due)
    → turn e ≡ calculus.at r.standing.lang (context_at r.standing) r.standing.part
ripe_turn {e} r =
    let s = r.standing in
    let t = turn_filled (context_at s) s.part (context_evaluated s.around s.reached here tt) r.ready in
    subst (λ (x : Term ml). turn x ≡ calculus.at s.lang (context_at s) s.part) (context_is s s.part ∙ s.is) t

-- What holds of the nearest node around that waits: it stands at a place, where so many parts are due, and whatever it is, the next walk may begin
-- where it is said to.
pub record Owner {m : Lang} (A : Frames m) (w : Waiting) : Type 0 where
  pub place : w.node.place ≡ length_frames A
  pub due : w.node.due ≡ 1 + pending A
  pub resumes : (x : Term m) → Standing (whole A x) w.back.place w.back.due

abbrev pub Owns : {m : Lang} → Frames m → Waiting → Type 0
Owns root w = ⊥
Owns (inside f A) w = (waits_for f ≡ true → Owner A w) × (waits_for f ≡ false → Owns A w)

-- A walk may begin at that node, whatever stands in it.
pub owner_standing : {m : Lang} (A : Frames m) (w : Waiting) → Reached A → Owns A w
    → (x : Term m) → Standing (whole A x) w.node.place w.node.due
owner_standing root w r o x = absurd o
owner_standing {m} (inside {k = k} f A) w r o x = by (λ h. owner_standing A w r.1 (o.1 h) (plug f x)) (waits_for f) refl
  where
    by : (waits_for f ≡ false → Standing (whole A (plug f x)) w.node.place w.node.due) → (b : Bool) → waits_for f ≡ b
        → Standing (whole A (plug f x)) w.node.place w.node.due
    by outer true h = let a = o.0 h in record { lang = k; around = A; part = plug f x; is = refl; reached = r.1; place = a.place; due_is = a.due }
    by outer false h = outer h

-- No node around waits.
abbrev pub Free : {m : Lang} → Frames m → Type 0
Free root = Unit {0}
Free (inside f A) = (waits_for f ≡ false) × Free A

frame_some : {m l : Lang} (f : Frame m l) → 1 ≤ length_before f
frame_some (under o) = omega arith
frame_some (first o b) = omega arith
frame_some (second o a) = omega arith
frame_some (tested b c) = omega arith
frame_some (into_ml t) = omega arith
frame_some (into_scheme t) = omega arith

pub start_free : {m : Lang} (A : Frames m) → 0 ≡ length_frames A → Free A
start_free root h = tt
start_free (inside f A) h = absurd (omega (arith, h, frame_some f))

-- Past a value: the next part that evaluation takes;
pub record Further {m : Lang} (A : Frames m) (x : Term m) : Type 0 where
  pub lang : Lang
  pub around : Frames lang
  pub part : Term lang
  pub is : whole around part ≡ whole A x
  pub reached : Reached around
  pub place : length_frames around ≡ length_frames A + size x
  pub left : pending A ≡ 1 + pending around
  pub owns : (w : Waiting) → Owns A w → Owns around w
  pub free : Free A → Free around

-- or the end of the node that waits, whose turn it is; or of the term, which is a value.
pub record Over {m : Lang} (A : Frames m) (x : Term m) : Type 0 where
  pub none : pending A ≡ 0
  pub ripe : (w : Waiting) → Owns A w → Ripe (whole A x) w.node.place w.back.place w.back.due
  pub value : Free A → Value ml (whole A x)

-- A node that waits has its turn.
ripe_over : {m k : Lang} (f : Frame m k) (A : Frames k) (x : Term m) → waits_for f ≡ true → follows f ≡ 0 → Reached A → Ready (plug f x)
    → Over (inside f A) x
ripe_over {m} {k} f A x w z r h =
    record {
      none = rw w (omega (arith, z));
      ripe = λ u o.
          let a = o.0 w in
          record {
            here = u.node.due;
            standing = record { lang = k; around = A; part = plug f x; is = refl; reached = r; place = a.place; due_is = a.due };
            ready = h;
            resumes = a.resumes;
          };
      value = λ g. absurd (subst T (sym w ∙ g.0) tt);
    }

-- A node that is a value with its part: on from there.
module _ {m k : Lang} (f : Frame m k) (A : Frames k) (x : Term m) (w : waits_for f ≡ false) (z : follows f ≡ 0)
    (s : length_frames A + size (plug f x) ≡ length_frames A + length_before f + size x) where
  pending_is : pending (inside f A) ≡ pending A
  pending_is = rw w (omega (arith, z))

  value_on : Further A (plug f x) ⊎ Over A (plug f x) → Further (inside f A) x ⊎ Over (inside f A) x
  value_on (inl g) =
      inl
      (record {
        lang = g.lang;
        around = g.around;
        part = g.part;
        is = g.is;
        reached = g.reached;
        place = g.place ∙ s;
        left = pending_is ∙ g.left;
        owns = λ u o. g.owns u (o.1 w);
        free = λ h. g.free h.1;
      })
  value_on (inr g) = inr (record { none = pending_is ∙ g.none; ripe = λ u o. g.ripe u (o.1 w); value = λ h. g.value h.1 })

-- Past the first of two parts: the second.
to_second : {l : Lang} (o : Op2) (b : Term l) (A : Frames l) (x : Term l) → Reached A → Value l x → Further (inside (first o b) A) x
to_second {l} o b A x r v =
    record {
      lang = l;
      around = inside (second o x) A;
      part = b;
      is = refl;
      reached = (v, r);
      place = omega arith;
      left = omega arith;
      owns = λ _ h. h;
      free = λ h. h;
    }

pub onward : (m : Lang) (A : Frames m) (x : Term m) → Reached A → Value m x → Further A x ⊎ Over A x
unfolding size
onward m root x r v = inr (record { none = refl; ripe = λ _ o. absurd o; value = λ _. v })
onward m (inside (under o) A) x r v = inr (ripe_over (under o) A x refl refl r.1 v)
onward m (inside (first o b) A) x r v = inl (to_second o b A x r.1 v)
onward m (inside (second APP a) A) x r v = inr (ripe_over (second APP a) A x refl refl r.1 (refl, r.0, v))
onward m (inside (second ADD a) A) x r v = inr (ripe_over (second ADD a) A x refl refl r.1 (refl, r.0, v))
onward m (inside (second SUB a) A) x r v = inr (ripe_over (second SUB a) A x refl refl r.1 (refl, r.0, v))
onward m (inside (second CONS a) A) x r v =
    value_on (second CONS a) A x refl refl (omega arith) (onward m A (plug (second CONS a) x) r.1 (cons_v r.0 v))
onward m (inside (tested b c) A) x r v = inr (ripe_over (tested b c) A x refl refl r.1 v)
onward m (inside (into_ml N) A) x r v = inr (ripe_over (into_ml N) A x refl refl r.1 (refl, v))
onward m (inside (into_ml (L o)) A) x r v =
    value_on (into_ml (L o)) A x refl refl (omega arith) (onward ml A (plug (into_ml (L o)) x) r.1 (lump_v v))
onward m (inside (into_ml (list t)) A) x r v = inr (ripe_over (into_ml (list t)) A x refl refl r.1 (refl, v))
onward m (inside (into_ml (t to u)) A) x r v = inr (ripe_over (into_ml (t to u)) A x refl refl r.1 (refl, v))
onward m (inside (into_scheme t) A) x r v = inr (ripe_over (into_scheme t) A x refl refl r.1 v)
