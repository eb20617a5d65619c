-- The ways out of a step, and the splice: the words before the node, what it becomes, and the words after it. Assumes nothing.
use Prim.Native.Nat.{ℕ, ◌+◌, ◌-◌}
use mathlib.Core.List.{List, [], ◌++◌, append_assoc}
use mathlib.Core.Path.{◌≡◌, refl, sym, ap, ◌∙◌, subst}
use lib.ListN.{length, get_or, take, drop}
use lib.Seq.{take_at, drop_at, drop-drop, get_or-drop}
use native.Mathlib.Nat.{add-zero}
use borrow.Author.Rules.{part_to_end}
use native.Mathlib.Omega.{arith}
use Rattle.calculus.specs.Trees.{Lang, ml, Term, var, num, lam, op1, op2, if0, nil, wrong, ms, sm}
use Rattle.calculus.specs.Words.{put, words, size}
use Rattle.calculus.specs.Kinds.{term}
use Rattle.calculus.specs.Reduction.{becomes, raises, nothing, contract, Context, fill, turn, stepped, outcome, step}
use Rattle.calculus.specs.Reduction as calculus
use Rattle.calculus.proofs.Sizes.{put_append, tree_length, drop_tree}
use Rattle.calculus.proofs.Splices.{put_fill, words_fill}
use Rattle.calculus.specs.Splices.{words_before, words_after}
use Rattle.writing.specs.Spans.{span}
use Rattle.writing.specs.Wrote.{Wrote}
use Rattle.writing.proofs.Measures.{span_tree}
use Rattle.writing.proofs.Stores.{then, before, wrote_as}
use Rattle.pieces.specs.declared.became.Became.{Became}
use Rattle.pieces.specs.declared.became.Became.TheVariants.{Nothing, Raises, Becomes}
use Rattle.pieces.specs.declared.became.Piece.{Piece}
use Rattle.pieces.specs.Pieces.{Gives, Tells}
use Rattle.contraction.specs.Chosen.{OfNode}
use Rattle.writer.specs.Kept as writer
use Rattle.std.specs.Prelude.{Option, Some, None, MatchOption}
use Rattle.reducer.specs.declared.turns.Start.{Start}
use Rattle.reducer.specs.declared.turns.Turn.{Turn}
use Rattle.reducer.specs.declared.steps.Change.{Change}
use Rattle.reducer.specs.declared.steps.Move.{Move}
use Rattle.reducer.specs.declared.steps.Move.TheVariants.{Value, Raised, Next, Stuck}
use Rattle.reducer.specs.Standing.{root, Standing, Ripe}
use Rattle.reducer.specs.Placed.{beginning, WalkTold, Turns, Within}
use Rattle.reducer.specs.Moves.{PieceFits, Spliced, Moved, OneStep}
use Rattle.reducer.proofs.Onward.{context_at, context_place, context_is, part_stands, ripe_turn}

-- A term's first word is there, whatever follows.
first_word : {l : Lang} (e : Term l) (k : List ℕ) → get_or (put e k) 0 0 ≡ get_or (words e) 0 0
unfolding put
first_word (var i) k = refl
first_word (num n) k = refl
first_word (lam t b) k = refl
first_word (op1 o a) k = refl
first_word (op2 o a b) k = refl
first_word (if0 a b c) k = refl
first_word (nil t) k = refl
first_word (wrong c t) k = refl
first_word (ms t a) k = refl
first_word (sm t a) k = refl

-- The node's words, where it stands at a place.
node_words : (source : List ℕ) (place end : ℕ) → end ≡ place + span (drop place source) 1 → {l : Lang} (n : Term l) (k : List ℕ)
    → drop place source ≡ put n k → take (end - place) (drop place source) ≡ words n
node_words source place end e {l} n k h =
    let s : end - place ≡ length (words n) = omega (arith, e, span_tree (term l) n k (drop place source) h, tree_length (term l) n []) in
    ap (take (end - place)) (h ∙ put_append n [] k) ∙ take_at (words n) k (end - place) (sym s)

-- The splice: what the node becomes is written first, and the words before it and after it around that.
module _ (source : List ℕ) (t : Turn) (piece : Piece) (fits : PieceFits source t piece) (b b₀ b₂ b' : List ℕ) (after k : ℕ)
    (writes : (l : Lang) (u : Term l) → Gives piece u → Wrote b t.place (words u) after b₀)
    (next : writer.Next source t.place after t.end b₂ k b') (same : b₂ ≡ b₀) where
  abbrev place : ℕ
  place = t.place

  abbrev end : ℕ
  end = t.end

  front : Wrote b₀ 0 (take place source) next.k₁ next.b₁
  front =
      let z : place - 0 ≡ place = omega arith in
      subst (λ (v : List ℕ). Wrote v 0 (take place source) next.k₁ next.b₁) same (wrote_as (ap (λ (j : ℕ). take j source) z) next.front)

  rear : Wrote next.b₁ after (drop end source) k b'
  rear = wrote_as (part_to_end source end) next.back

  abbrev change : Change
  change = record { word = get_or source place 0; place = place; stood = end - place; stands = after - place; size = k; back = t.back }

  spliced_of : (P : List ℕ) (m : Lang) (n u : Term m) (Q : List ℕ) → source ≡ P ++ put n Q → place ≡ length P → contract n ≡ becomes u
      → (get_or source place 0 ≡ get_or (words n) 0 0) × (end - place ≡ size n) × (after - place ≡ size u) × Wrote b 0 (P ++ put u Q) k b'
  spliced_of P m n u Q q h g =
      let here : drop place source ≡ put n Q = ap (drop place) q ∙ drop_at P (put n Q) place (sym h) in
      let e : end ≡ place + size n = fits.stands.ends ∙ ap (λ (j : ℕ). place + j) (span_tree (term m) n Q (drop place source) here) in
      let before_it : take place source ≡ P = ap (take place) q ∙ take_at P (put n Q) place (sym h) in
      let after_it : drop end source ≡ Q =
      ap (λ (j : ℕ). drop j source) e ∙ sym (drop-drop (size n) place source) ∙ ap (drop (size n)) here ∙ drop_tree (term m) n Q in
      let tells = subst (Tells (Becomes piece)) g (fits.told.of m n (node_words source place end fits.stands.ends n Q here)) in
      let same : tells.0 ≡ piece = cc tells.1 in
      let became : Wrote b place (words u) after b₀ = writes m u (subst (λ (p : Piece). Gives p u) same tells.2) in
      let f : Wrote b₀ 0 P place next.b₁ =
      subst (λ (j : ℕ). Wrote b₀ 0 P j next.b₁) (front.place ∙ omega (arith, h, ap length before_it)) (wrote_as before_it front) in
      let w = then (before became f) (wrote_as after_it rear) in
      let z : (P ++ words u) ++ Q ≡ P ++ put u Q = append_assoc P (words u) Q ∙ ap (λ (v : List ℕ). P ++ v) (sym (put_append u [] Q)) in
      let d = sym (get_or-drop place source 0 0 ∙ ap (λ (j : ℕ). get_or source j 0) (add-zero place)) ∙ ap (λ (v : List ℕ). get_or v 0 0) here in
      (d ∙ first_word n Q, omega (arith, e), omega (arith, became.place, tree_length (term m) u []), wrote_as z w)

  pub spliced : Spliced source t b change b'
  spliced = record { where_it_was = refl; from_there = refl; of = spliced_of }

-- A walk may begin at the start, whatever place was told; and the node that a walk from a place finds is that of a walk from the start.
from_the_start : {ws : List ℕ} {from : Start} {r : Option Turn} → Turns ws beginning beginning r → Turns ws from beginning r
from_the_start t =
    record { of = λ e q s. t.of e q (record { lang = ml; around = root; part = e; is = refl; reached = tt; place = refl; due_is = refl }) }

pub turns_whole : {ws : List ℕ} {from : Start} {r : Option Turn} {P : Type 0} (first : Option Turn) → Turns ws from from first
    → (P → Turns ws beginning beginning r) → MatchOption first P (λ t. r ≡ Some t) → Turns ws from beginning r
turns_whole None h again m = from_the_start (again m)
turns_whole {ws} {from} (Some t) h again m = subst (Turns ws from beginning) (sym m) (record { of = λ e w s. h.of e w s })

-- What becomes of the node, if it is nothing, or an error.
module _ {m : Lang} (e : Term ml) (b : List ℕ) (r : Became) (F : Context m ml) where
  stuck_moved : r ≡ Nothing → (c : calculus.Became m) → Tells r c → Moved e Stuck b b (outcome F c)
  stuck_moved h (becomes u) t = let z : ◌≡◌ {A = ℕ} 0 1 = cc t.1 in absurd (omega arith)
  stuck_moved h (raises c) t = let z : ◌≡◌ {A = ℕ} 0 1 = cc in absurd (omega arith)
  stuck_moved h nothing t = (refl, refl)

  raised_moved : (n : ℕ) → r ≡ Raises n → (c : calculus.Became m) → Tells r c → Moved e (Raised n) b b (outcome F c)
  raised_moved n h (becomes u) t = let z : ◌≡◌ {A = ℕ} 0 1 = cc t.1 in absurd (omega arith)
  raised_moved n h (raises c) t = (ap Raised (cc), refl)
  raised_moved n h nothing t = let z : ◌≡◌ {A = ℕ} 0 1 = cc in absurd (omega arith)

module _ (source : List ℕ) (from : Start) (b : List ℕ) (x : Option Turn) (x_is : Turns source from beginning x) where
  -- A value.
  pub step_value : x ≡ None → OneStep source from b Value b
  unfolding step
  step_value h =
      record { of = λ e q s. subst (λ t. Moved e Value b b (stepped t)) (sym (subst (WalkTold e beginning) h (x_is.of e q s) refl)) (refl, refl) }

  module _ (t : Turn) (h : x ≡ Some t) (stands : Within source t) (r : Became)
      (told : OfNode (take (t.end - t.place) (drop t.place source)) r) where
    -- The node whose turn it is, and what it becomes.
    module _ (e : Term ml) (q : source ≡ words e) (s₀ : Standing e from.place from.due) where
      ripe : Ripe e t.place t.back.place t.back.due
      ripe = subst (WalkTold e beginning) h (x_is.of e q s₀)

      abbrev at : Standing e t.place ripe.here
      at = ripe.standing

      tells : Tells r (contract at.part)
      tells = told.of at.lang at.part (node_words source t.place t.end stands.ends at.part _ (part_stands at source q))

      by_node : (a : Move) (b' : List ℕ) → Moved e a b b' (outcome (context_at at) (contract at.part)) → Moved e a b b' (step e)
      unfolding step
      by_node a b' m = subst (λ t. Moved e a b b' (stepped t)) (sym (ripe_turn ripe)) m

    pub step_stuck : r ≡ Nothing → OneStep source from b Stuck b
    step_stuck g =
        record {
          of = λ e q s.
              let s₁ = at e q s in
              by_node e q s Stuck b (stuck_moved e b r (context_at s₁) g (contract s₁.part) (tells e q s));
        }

    pub step_raised : (c : ℕ) → r ≡ Raises c → OneStep source from b (Raised c) b
    step_raised c g =
        record {
          of = λ e q s.
              let s₁ = at e q s in
              by_node e q s (Raised c) b (raised_moved e b r (context_at s₁) c g (contract s₁.part) (tells e q s));
        }

    module _ (b' : List ℕ) (c : Change) (sp : Spliced source t b c b') (piece : Piece) (g : r ≡ Becomes piece) where
      next_moved : (e : Term ml) (q : source ≡ words e) (s : Standing e from.place from.due) (o : calculus.Became (at e q s).lang)
          → contract (at e q s).part ≡ o → Tells r o
          → Moved e (Next c) b b' (outcome (context_at (at e q s)) o)
      next_moved e q s₀ (becomes u) k told_so =
          let s = at e q s₀ in
          let F = context_at s in
          let f : fill F s.part ≡ e = context_is s s.part ∙ s.is in
          let stands : source ≡ words_before F ++ put s.part (words_after F ++ []) = q ∙ ap words (sym f) ∙ put_fill F s.part [] in
          let w = sp.of (words_before F) s.lang s.part u (words_after F ++ []) stands (sym (context_place s)) k in
          let v : Wrote b 0 (words (fill F u)) c.size b' = wrote_as (sym (put_fill F u [])) w.3 in (
            c,
            refl,
            record {
              splice =
                  record {
                    lang = s.lang;
                    place = F;
                    node = s.part;
                    became = u;
                    turns = ripe_turn (ripe e q s₀);
                    contracts = k;
                    was = ap words (sym f) ∙ words_fill F s.part;
                    is = words_fill F u;
                  };
              word = w.0;
              place = sp.where_it_was ∙ sym (context_place s);
              stood = w.1;
              stands = w.2;
              sized = omega (arith, v.place, tree_length (term ml) (fill F u) []);
              written = v;
              resumes =
                  rw sp.from_there
                  (subst (λ (y : Term ml). Standing y t.back.place t.back.due) (sym (context_is s u)) ((ripe e q s₀).resumes u));
            },
          )
      next_moved e q s₀ (raises i) k told_so = let z : ◌≡◌ {A = ℕ} 0 1 = cc in absurd (omega arith)
      next_moved e q s₀ nothing k told_so = let z : ◌≡◌ {A = ℕ} 0 1 = cc in absurd (omega arith)

      pub step_next : OneStep source from b (Next c) b'
      step_next = record { of = λ e q s. by_node e q s (Next c) b' (next_moved e q s (contract (at e q s).part) refl (tells e q s)) }
