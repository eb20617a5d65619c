-- The walk that finds whose turn it is: what is known before each turn of its loop, and its end. Assumes nothing.
use Prim.Native.Nat.{ℕ, ◌+◌, ◌*◌, ◌-◌, ◌≤◌, ◌<◌}
use mathlib.Core.Bool.{true, false}
use mathlib.Core.List.{List, [], ◌++◌}
use mathlib.Core.Logic.{◌⊎◌, inl, inr}
use mathlib.Core.Path.{◌≡◌, refl, sym, ap, ◌∙◌, subst}
use lib.Dec.{T}
use lib.ListN.{length, drop, length-drop, drop_of_length-le}
use lib.Seq.{drop-drop}
use native.Mathlib.Omega.{arith}
use Rattle.calculus.specs.Trees.{Lang, ml, Term}
use Rattle.calculus.specs.Words.{words}
use Rattle.calculus.specs.Kinds.{term}
use Rattle.calculus.specs.Reduction.{Frame, done, turn}
use Rattle.calculus.proofs.Sizes.{tree_length}
use Rattle.calculus.specs.Splices.{words_after}
use Rattle.calculus.proofs.Values.{value_turn}
use Rattle.writing.specs.Spans.{span}
use Rattle.writing.proofs.Measures.{span_end}
use Rattle.writing.proofs.Lengths.{span_within, span_next, span_join}
use Rattle.pieces.proofs.Showing.{size_some}
use Rattle.std.specs.Prelude.{Option, Some, None, is_some}
use Rattle.std.specs.Option.{unwrap_or}
use Rattle.reducer.specs.declared.turns.Start.{Start}
use Rattle.reducer.specs.declared.turns.Turn.{Turn}
use Rattle.reducer.specs.declared.turns.Look.{Look}
use Rattle.reducer.specs.declared.turns.Waiting.{Waiting}
use Rattle.reducer.specs.Standing.{Frames, inside, whole, waits_for, pending, Standing, Ripe}
use Rattle.reducer.specs.Placed.{Turns, Spanned, around, Last, Alone, Enters, Looked}
use Rattle.reducer.proofs.Onward.{context_at, part_stands, Owns, owner_standing, Free, start_free, Further, Over, onward}

-- The nearest node around that waits is the one that was met; or none waits.
abbrev Met : {m : Lang} → Start → Frames m → Option Waiting → Type 0
Met from A None = from.place ≡ 0 → Free A
Met from A (Some w) = Owns A w

-- The walk stands at a part.
pub record Stood (from : Start) (e : Term ml) (i due : ℕ) (o : Option Waiting) : Type 0 where
  pub standing : Standing e i due
  pub met : Met from standing.around o

-- Nothing is due any more: it is the turn of the node that was met; or all is a value.
abbrev Over_with : Start → Term ml → Option Waiting → Type 0
Over_with from e None = from.place ≡ 0 → turn e ≡ done
Over_with from e (Some w) = Ripe e w.node.place w.back.place w.back.due

pub record Came (from : Start) (e : Term ml) (due : ℕ) (o : Option Waiting) : Type 0 where
  pub none : due ≡ 0
  pub over : Over_with from e o

-- Of any words: the node that waits ends where the nodes due and those that it leaves do.
pub record Ends (ws : List ℕ) (i due : ℕ) (w : Waiting) : Type 0 where
  pub met : w.node.place < length ws
  pub ends : w.node.place + span (drop w.node.place ws) 1 ≡ i + span (drop i ws) (due + w.leaves)
  pub inside : i ≤ length ws
  pub small : w.leaves ≤ 3
  pub few : w.node.due ≤ 1 + 3 * w.node.place
  pub back_few : w.back.due ≤ 1 + 3 * w.back.place

abbrev pub EndsIf : List ℕ → ℕ → ℕ → Option Waiting → Type 0
EndsIf ws i due None = Unit {0}
EndsIf ws i due (Some w) = Ends ws i due w

-- Before each turn of the loop.
pub record Walking (ws : List ℕ) (from : Start) (i due : ℕ) (o : Option Waiting) : Type 0 where
  pub few : due ≤ 1 + 3 * i
  pub waiting : EndsIf ws i due o
  pub of : (e : Term ml) → ws ≡ words e → Standing e from.place from.due → Stood from e i due o ⊎ Came from e due o

pub walking_start : (ws : List ℕ) (from : Start) → from.due ≤ 1 + 3 * from.place → Walking ws from from.place from.due None
walking_start ws from r =
    record { few = r; waiting = tt; of = λ e q s. inl (record { standing = s; met = λ z. start_free s.around (sym z ∙ s.place) }) }

-- A node that is its own turn then waits; its frame says so.
own_frame : {m l : Lang} (f : Frame m l) (o : Option ℕ) (n : ℕ) → o ≡ Some n → is_some o ≡ waits_for f → waits_for f ≡ true
own_frame f o n h q = sym q ∙ ap is_some h

value_frame : {m l : Lang} (f : Frame m l) (o : Option ℕ) → o ≡ None → is_some o ≡ waits_for f → waits_for f ≡ false
value_frame f o h q = sym q ∙ ap is_some h

module _ {ws : List ℕ} {from : Start} {i due : ℕ} {o : Option Waiting} (w : Walking ws from i due o)
    (some : 0 < due) (within : i < length ws) (r : Look) (seen : Looked (drop i ws) r) where
  abbrev i' : ℕ
  i' = i + r.start

  inside' : i' ≤ length ws
  inside' = omega (arith, seen.within, length-drop i ws)

  past : drop r.start (drop i ws) ≡ drop i' ws
  past = drop-drop r.start i ws

  ends : i + span (drop i ws) 1 ≡ i' + span (drop i' ws) (r.takes + unwrap_or r.leaves 0)
  ends = omega (arith, seen.ends, ap (λ (v : List ℕ). span v (r.takes + unwrap_or r.leaves 0)) past)

  -- What was seen of the part where the walk stands.
  sight : {e : Term ml} → ws ≡ words e → (s : Standing e i due) → Alone r s.part ⊎ Enters r s.part
  sight q s = seen.of s.lang s.part (words_after (context_at s) ++ []) (part_stands s ws q)

  -- Into its first part.
  abbrev entered : {e : Term ml} (s : Standing e i due) (n : Enters r s.part) (due' : ℕ)
      → due' ≡ 1 + pending (inside n.frame s.around) → Standing e i' due'
  entered s n due' h =
      record {
        lang = n.lang;
        around = inside n.frame s.around;
        part = n.part;
        is = ap (whole s.around) n.is ∙ s.is;
        reached = (n.taken, s.reached);
        place = omega (arith, s.place, n.start);
        due_is = h;
      }

  -- Where the node stands, and where the next walk may begin.
  abbrev at : Start
  at = record { place = i; due = due }

  resumes : {e : Term ml} (s : Stood from e i due o) → (x : Term s.standing.lang)
      → Standing (whole s.standing.around x) (around o at).place (around o at).due
  resumes s x = by o s.met
    where
      by : (o : Option Waiting) → Met from s.standing.around o → Standing (whole s.standing.around x) (around o at).place (around o at).due
      by None m =
          let t = s.standing in
          record { lang = t.lang; around = t.around; part = x; is = refl; reached = t.reached; place = t.place; due_is = t.due_is }
      by (Some v) m = let t = s.standing in owner_standing t.around v t.reached m x

  back_few : (around o at).due ≤ 1 + 3 * (around o at).place
  back_few = by o w.waiting
    where
      by : (o : Option Waiting) → EndsIf ws i due o → (around o at).due ≤ 1 + 3 * (around o at).place
      by None p = w.few
      by (Some v) p = p.few

  module _ (n : ℕ) (h : r.leaves ≡ Some n) where
    abbrev met : Waiting
    met = record { node = at; back = around o at; leaves = n }

    own_stood : {e : Term ml} (s₁ : Stood from e i due o) → Alone r s₁.standing.part ⊎ Enters r s₁.standing.part
        → Stood from e i' (1 - 1 + r.takes) (Some met) ⊎ Came from e (1 - 1 + r.takes) (Some met)
    own_stood s₁ (inl a) =
        inr
        (record {
          none = omega (arith, a.none);
          over = record {
            here = due;
            standing = s₁.standing;
            ready = subst (λ x. Last x s₁.standing.part) h a.last;
            resumes = resumes s₁;
          };
        })
    own_stood s₁ (inr g) =
        let s = s₁.standing in
        let u = own_frame g.frame r.leaves n h g.own in
        inl
        (record {
          standing = entered s g (1 - 1 + r.takes) (rw u (omega (arith, g.takes)));
          met = (λ _. record { place = s.place; due = s.due_is; resumes = resumes s₁ }, λ z. absurd (subst T (sym u ∙ z) tt));
        })

    -- The node waits: its parts are due.
    pub walking_own : Walking ws from i' (1 - 1 + r.takes) (Some met)
    walking_own =
        let z : 1 - 1 + r.takes ≡ r.takes = omega arith in
        let k : unwrap_or r.leaves 0 ≡ n = ap (λ (x : Option ℕ). unwrap_or x 0) h in
        let f : r.takes + n ≤ 3 = omega (arith, seen.few, k) in
        record {
          few = omega (arith, f, seen.some);
          waiting = record {
            met = omega arith;
            ends = rw z (rw k at ends);
            inside = inside';
            small = omega (arith, f);
            few = w.few;
            back_few = back_few;
          };
          of = λ e q s₀. by e q (w.of e q s₀);
        }
      where
        by : (e : Term ml) → ws ≡ words e → Stood from e i due o ⊎ Came from e due o
            → Stood from e i' (1 - 1 + r.takes) (Some met) ⊎ Came from e (1 - 1 + r.takes) (Some met)
        by e q (inl s) = own_stood s (sight q s.standing)
        by e q (inr c) = absurd (omega (arith, some, c.none))

  module _ (h : r.leaves ≡ None) where
    -- Past a value on its own.
    further : {e : Term ml} (s : Stood from e i due o) (a : Alone r s.standing.part) → Further s.standing.around s.standing.part
        → Stood from e i' (due - 1 + r.takes) o
    further s a g =
        let t = s.standing in
        record {
          standing =
              record {
                lang = g.lang;
                around = g.around;
                part = g.part;
                is = g.is ∙ t.is;
                reached = g.reached;
                place = omega (arith, g.place, t.place, a.start);
                due_is = omega (arith, g.left, t.due_is, a.none);
              };
          met = by o s.met;
        }
      where
        by : (o : Option Waiting) → Met from s.standing.around o → Met from g.around o
        by None m = λ z. g.free (m z)
        by (Some v) m = g.owns v m

    all_over : {e : Term ml} (s : Stood from e i due o) (a : Alone r s.standing.part) → Over s.standing.around s.standing.part
        → Came from e (due - 1 + r.takes) o
    all_over {e} s a g =
        let t = s.standing in
        record { none = omega (arith, g.none, t.due_is, a.none); over = by o s.met }
      where
        by : (o : Option Waiting) → Met from s.standing.around o → Over_with from e o
        by None m = λ z. ap turn (sym s.standing.is) ∙ value_turn (g.value (m z))
        by (Some v) m = subst (λ (x : Term ml). Ripe x v.node.place v.back.place v.back.due) s.standing.is (g.ripe v m)

    value_alone : {e : Term ml} (s : Stood from e i due o) → Alone r s.standing.part
        → Further s.standing.around s.standing.part ⊎ Over s.standing.around s.standing.part
        → Stood from e i' (due - 1 + r.takes) o ⊎ Came from e (due - 1 + r.takes) o
    value_alone s a (inl g) = inl (further s a g)
    value_alone s a (inr g) = inr (all_over s a g)

    value_stood : {e : Term ml} (s : Stood from e i due o) → Alone r s.standing.part ⊎ Enters r s.standing.part
        → Stood from e i' (due - 1 + r.takes) o ⊎ Came from e (due - 1 + r.takes) o
    value_stood s (inl a) =
        let t = s.standing in value_alone s a (onward t.lang t.around t.part t.reached (subst (λ x. Last x t.part) h a.last))
    value_stood s (inr n) =
        let u = value_frame n.frame r.leaves h n.own in
        inl
        (record {
          standing = entered s.standing n (due - 1 + r.takes) (rw u (omega (arith, n.takes, s.standing.due_is)));
          met = by u o s.met;
        })
      where
        by : waits_for n.frame ≡ false → (o : Option Waiting) → Met from s.standing.around o → Met from (inside n.frame s.standing.around) o
        by u None m = λ z. (u, m z)
        by u (Some v) m = (λ z. absurd (subst T (sym z ∙ u) tt), λ _. m)

    ends_on : (o : Option Waiting) → EndsIf ws i due o → EndsIf ws i' (due - 1 + r.takes) o
    ends_on None p = tt
    ends_on (Some v) p =
        let k : unwrap_or r.leaves 0 ≡ 0 = ap (λ (x : Option ℕ). unwrap_or x 0) h in
        let m : i + span (drop i ws) 1 ≡ i' + span (drop i' ws) r.takes =
        ends ∙ ap (λ (n : ℕ). i' + span (drop i' ws) n) (omega (arith, k)) in
        let d : 1 + (due - 1 + v.leaves) ≡ due + v.leaves = omega arith in
        let a : due - 1 + r.takes + v.leaves ≡ r.takes + (due - 1 + v.leaves) = omega arith in
        let g = span_next ws i (i + span (drop i ws) 1) 1 (due - 1 + v.leaves) refl (v.node.place + span (drop v.node.place ws) 1) (rw d p.ends) in
        record {
          met = p.met;
          ends = rw a
              (span_join ws i' (i + span (drop i ws) 1) r.takes (due - 1 + v.leaves) m (v.node.place + span (drop v.node.place ws) 1) g);
          inside = inside';
          small = p.small;
          few = p.few;
          back_few = p.back_few;
        }

    -- The node is a value if its parts are: they are due, and then the others.
    pub walking_value : Walking ws from i' (due - 1 + r.takes) o
    walking_value =
        record {
          few = omega (arith, w.few, seen.few, seen.some);
          waiting = ends_on o w.waiting;
          of = λ e q s₀. by e q (w.of e q s₀);
        }
      where
        by : (e : Term ml) → ws ≡ words e → Stood from e i due o ⊎ Came from e due o
            → Stood from e i' (due - 1 + r.takes) o ⊎ Came from e (due - 1 + r.takes) o
        by e q (inl s) = value_stood s (sight q s.standing)
        by e q (inr c) = absurd (omega (arith, some, c.none))

-- Nothing is due, or no words are left.
module _ {ws : List ℕ} {from : Start} {i due : ℕ} {o : Option Waiting} (w : Walking ws from i due o) (over : (due ≡ 0) ⊎ (length ws ≤ i)) where
  came : (e : Term ml) → ws ≡ words e → (due ≡ 0) ⊎ (length ws ≤ i) → Stood from e i due o ⊎ Came from e due o → Came from e due o
  came e q x (inr c) = c
  came e q (inl z) (inl s) = absurd (omega (arith, z, s.standing.due_is))
  came e q (inr h) (inl s) =
      let t = s.standing in
      let none = ap length (sym (drop_of_length-le ws h) ∙ part_stands t ws q) in
      absurd (omega (arith, none, tree_length (term t.lang) t.part (words_after (context_at t) ++ []), size_some t.lang t.part))

  over_with : (e : Term ml) → ws ≡ words e → Standing e from.place from.due → Over_with from e o
  over_with e q s₀ = (came e q over (w.of e q s₀)).over

  -- No node waited.
  pub nothing_found : o ≡ None → Turns ws from from None
  nothing_found h = record { of = λ e q s₀. subst (Over_with from e) h (over_with e q s₀) }

  module _ (v : Waiting) (h : o ≡ Some v) where
    waited : Ends ws i due v
    waited = subst (EndsIf ws i due) h w.waiting

    -- Where the node that waited ends.
    end_is : (due ≡ 0) ⊎ (length ws ≤ i) → i + span (drop i ws) v.leaves ≡ v.node.place + span (drop v.node.place ws) 1
    end_is (inl z) =
        let d : due + v.leaves ≡ v.leaves = omega arith in
        sym (waited.ends ∙ ap (λ (n : ℕ). i + span (drop i ws) n) d)
    end_is (inr g) = omega (arith, waited.ends, span_end ws (due + v.leaves) i g, span_end ws v.leaves i g)

    -- The turn of the node that waited.
    abbrev turned : ℕ → Turn
    turned end = record { place = v.node.place; end = end; back = v.back }

    pub turn_spanned : (end : ℕ) → end ≡ i + span (drop i ws) v.leaves → Spanned ws (Some (turned end))
    turn_spanned end q =
        let e = q ∙ end_is over in
        let p = v.node.place in
        record {
          inside = waited.met;
          ends = e;
          last = omega (arith, e, span_within (drop p ws) 1, length-drop p ws, waited.met);
          few = waited.back_few;
        }

    pub turn_found : (end : ℕ) → Turns ws from from (Some (turned end))
    turn_found end = record { of = λ e q s₀. subst (Over_with from e) h (over_with e q s₀) }
