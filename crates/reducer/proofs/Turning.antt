-- A look at a node: whether evaluation goes into it, and where. Assumes nothing.
use Prim.Native.Nat.{ℕ, ◌+◌, ◌%◌, ◌≤◌}
use mathlib.Core.Bool.{Bool, true, false, not}
use mathlib.Core.List.{List}
use mathlib.Core.Logic.{◌⊎◌, inl, inr}
use mathlib.Core.Path.{◌≡◌, refl, sym, ap, ◌∙◌}
use lib.Dec.{eqb}
use lib.ListN.{length, get_or, drop}
use borrow.Author.Tests.{eqb-true}
use denote.Enum.Bare.{sameb}
use native.Mathlib.Omega.{arith}
use Rattle.std.specs.Prelude.{Option, Some, None, is_some}
use Rattle.std.specs.Option.{unwrap_or}
use Rattle.std.specs.Bool.{then_some}
use Rattle.calculus.specs.Trees.{Ty, Lang, ml, sc, Op2, APP, ADD, SUB, CONS, Term, var, num, lam, op1, op2, if0, nil, wrong, ms, sm}
use Rattle.calculus.specs.Words.{put, put_ty, size, size_ty}
use Rattle.calculus.specs.Kinds.{type, term}
use Rattle.calculus.specs.Scope.{part_count}
use Rattle.calculus.specs.Reduction.{is_cons, form, under, first, tested, into_ml, into_scheme}
use Rattle.calculus.specs.Rules.{Value, lam_v, num_v, nil_v}
use Rattle.nodes.specs.declared.kinds.Operator1.{Operator1}
use Rattle.nodes.specs.declared.kinds.Operator2.{Operator2}
use Rattle.nodes.specs.declared.kinds.Operator2.TheVariants.{Cons}
use Rattle.nodes.specs.declared.kinds.Shape.{Shape}
use Rattle.nodes.specs.declared.kinds.Shape.TheVariants as s
use Rattle.nodes.specs.contracts.kinds.Operator2 as operators
use Rattle.nodes.specs.Table.{Row, row_of, told, operator1, operator2, shape, shape_of}
use Rattle.nodes.proofs.Shapes.{shape_first}
use Rattle.nodes.proofs.Table.{by_rows, row_count}
use Rattle.nodes.proofs.Terms.{Shaped, a_variable, a_number, one_part, two_parts, an_if0, a_wrong, an_ms, an_sm, by_shape}
use Rattle.pieces.specs.Values.{is_lump_by}
use Rattle.pieces.proofs.Showing.{lump_at}
use Rattle.writing.specs.Spans.{span}
use Rattle.writing.proofs.Measures.{span_tree, span_none}
use Rattle.writing.proofs.Lengths.{span_next, span_parts}
use Rattle.reducer.specs.Placed.{Last, look, Alone, Enters, Looked}

-- How many parts each node of a shape has, where that is one number.
abbrev fixed : Shape → Option ℕ
fixed s.Variable = Some 0
fixed s.Number = Some 0
fixed s.Lambda = None
fixed (s.Operator1 o) = Some 1
fixed (s.Operator2 o) = Some 2
fixed s.If0 = Some 3
fixed s.Nil = None
fixed s.Wrong = None
fixed s.Boundary = Some 2
fixed s.Numbers = None
fixed s.Lump = None
fixed s.List = None
fixed s.Function = None

abbrev agrees : Option ℕ → ℕ → Bool
agrees None m = true
agrees (Some n) m = eqb m n

fixed_told : (w : ℕ) → told (row_of (w % 256)) true (λ r. agrees (fixed r.shape) (length r.parts)) ≡ true
unfolding row_of
fixed_told w = by_rows (λ o. told o true (λ r. agrees (fixed r.shape) (length r.parts))) (λ _. true) refl refl (w % 256)

shape_parts : (w : ℕ) (x : Shape) (n : ℕ) → shape_of (w % 256) ≡ Some x → fixed x ≡ Some n → part_count w ≡ n
shape_parts w x n h f = sym (row_count w) ∙ by (row_of (w % 256)) h (fixed_told w)
  where
    by : (o : Option Row) → told o None (λ r. Some r.shape) ≡ Some x → told o true (λ r. agrees (fixed r.shape) (length r.parts)) ≡ true
        → told o 0 (λ r. length r.parts) ≡ n
    by None g a = let z : ◌≡◌ {A = ℕ} 0 1 = cc in absurd (omega arith)
    by (Some r) g a =
        let e : r.shape ≡ x = ap (λ (o : Option Shape). unwrap_or o x) g in
        eqb-true (length r.parts) n (ap (λ (o : Option ℕ). agrees o (length r.parts)) (sym f ∙ ap fixed (sym e)) ∙ a)

no_parts : (w : ℕ) → shape_of (w % 256) ≡ None → part_count w ≡ 0
no_parts w h = sym (row_count w) ∙ by (row_of (w % 256)) h
  where
    by : (o : Option Row) → told o None (λ r. Some r.shape) ≡ None → told o 0 (λ r. length r.parts) ≡ 0
    by None g = refl
    by (Some r) g = let z : ◌≡◌ {A = ℕ} 0 1 = cc in absurd (omega arith)

some_own : (own : Bool) → is_some (then_some {T = ℕ} own 0) ≡ own
some_own true = refl
some_own false = refl

none_left : (own : Bool) → unwrap_or (then_some {T = ℕ} own 0) 0 ≡ 0
none_left true = refl
none_left false = refl

module _ (ws : List ℕ) (some : 1 ≤ length ws) where
  -- Past the node's word alone, where it has so many parts.
  past_word : (n takes : ℕ) (leaves : Option ℕ) → part_count (get_or ws 0 0) ≡ n → takes + unwrap_or leaves 0 ≡ n → n ≤ 3
      → ((l : Lang) (e : Term l) (k : List ℕ) → ws ≡ put e k → Alone (look 1 takes leaves) e ⊎ Enters (look 1 takes leaves) e)
      → Looked ws (look 1 takes leaves)
  past_word n takes leaves p q f o =
      record {
        ends = rw q (sym (span_parts ws n some p));
        some = omega arith;
        within = some;
        few = rw q f;
        of = o;
      }

  -- A word of no kind.
  pub look_none : {r : Option Shape} → r ≡ shape_of (get_or ws 0 0 % 256) → r ≡ None → Looked ws (look 1 0 None)
  look_none t h =
      past_word 0 0 None (no_parts (get_or ws 0 0) (sym t ∙ h)) refl (omega arith)
      (λ l e k q. absurd (none_some (sym (shape_first (term l) e k) ∙ ap (λ (v : List ℕ). shape_of (get_or v 0 0 % 256)) (sym q) ∙ sym t ∙ h)))
    where
      none_some : {y : Shape} → Some y ≡ None → ⊥
      none_some g = let z : ◌≡◌ {A = ℕ} 0 1 = cc in omega arith

  module _ {r : Option Shape} (t : r ≡ shape_of (get_or ws 0 0 % 256)) {x : Shape} (is : r ≡ Some x) where
    seen : (y : Shape) → x ≡ y → (l : Lang) (e : Term l) (k : List ℕ) → ws ≡ put e k → Shaped l y e
    seen y h l e k q = by_shape l e k ws q y (sym t ∙ is ∙ ap Some h)

    count : (y : Shape) → x ≡ y → (n : ℕ) → fixed y ≡ Some n → part_count (get_or ws 0 0) ≡ n
    count y h n f = shape_parts (get_or ws 0 0) y n (sym t ∙ is ∙ ap Some h) f

    pub look_number : x ≡ s.Number → Looked ws (look 1 0 None)
    unfolding size
    look_number h = past_word 0 0 None (count s.Number h 0 refl) refl (omega arith) (λ l e k q. by l e (seen s.Number h l e k q))
      where
        by : (l : Lang) (e : Term l) → Shaped l s.Number e → Alone (look 1 0 None) e ⊎ Enters (look 1 0 None) e
        by l e a_number = inl (record { none = refl; start = refl; last = num_v })

    pub look_variable : x ≡ s.Variable → Looked ws (look 1 0 (Some 0))
    unfolding size
    look_variable h = past_word 0 0 (Some 0) (count s.Variable h 0 refl) refl (omega arith) (λ l e k q. by l e (seen s.Variable h l e k q))
      where
        by : (l : Lang) (e : Term l) → Shaped l s.Variable e → Alone (look 1 0 (Some 0)) e ⊎ Enters (look 1 0 (Some 0)) e
        by l e a_variable = inl (record { none = refl; start = refl; last = tt })

    pub look_one : {o : Operator1} → x ≡ s.Operator1 o → Looked ws (look 1 1 (Some 0))
    look_one {o} h = past_word 1 1 (Some 0) (count (s.Operator1 o) h 1 refl) refl (omega arith) (λ l e k q. by l e o (seen (s.Operator1 o) h l e k q))
      where
        by : (l : Lang) (e : Term l) (p : Operator1) → Shaped l (s.Operator1 p) e → Alone (look 1 1 (Some 0)) e ⊎ Enters (look 1 1 (Some 0)) e
        by l e p (one_part o a) =
            inr (record { lang = l; frame = under o; part = a; is = refl; taken = tt; start = refl; takes = refl; own = refl })

    -- A cons is a value with its parts.
    pub look_two : {o : Operator2} {own : Bool} → x ≡ s.Operator2 o → own ≡ not (sameb operators.the_type o Cons)
        → Looked ws (look 1 2 (then_some own 0))
    look_two {o} {own} h g =
        past_word 2 2 (then_some own 0) (count (s.Operator2 o) h 2 refl) (rw (none_left own)) (omega arith)
        (λ l e k q. by l e o (seen (s.Operator2 o) h l e k q) g)
      where
        waits : (p : Op2) → not (sameb operators.the_type (operator2 p) Cons) ≡ not (is_cons p)
        waits APP = refl
        waits ADD = refl
        waits SUB = refl
        waits CONS = refl

        by : (l : Lang) (e : Term l) (p : Operator2) → Shaped l (s.Operator2 p) e → own ≡ not (sameb operators.the_type p Cons)
            → Alone (look 1 2 (then_some own 0)) e ⊎ Enters (look 1 2 (then_some own 0)) e
        by l e p (two_parts o a b) g =
            inr
            (record {
              lang = l;
              frame = first o b;
              part = a;
              is = refl;
              taken = tt;
              start = refl;
              takes = refl;
              own = some_own own ∙ g ∙ waits o;
            })

    -- if0: the other two parts are left.
    pub look_if0 : x ≡ s.If0 → Looked ws (look 1 1 (Some 2))
    look_if0 h = past_word 3 1 (Some 2) (count s.If0 h 3 refl) refl (omega arith) (λ l e k q. by l e (seen s.If0 h l e k q))
      where
        by : (l : Lang) (e : Term l) → Shaped l s.If0 e → Alone (look 1 1 (Some 2)) e ⊎ Enters (look 1 1 (Some 2)) e
        by l e (an_if0 a b c) =
            inr (record { lang = l; frame = tested b c; part = a; is = refl; taken = tt; start = refl; takes = refl; own = refl })

    -- A node that evaluation takes no part of.
    past_node : (start : ℕ) → start ≡ span ws 1 → start ≤ length ws → (leaves : Option ℕ) → unwrap_or leaves 0 ≡ 0
        → ((l : Lang) (e : Term l) (k : List ℕ) → ws ≡ put e k → Last leaves e) → Looked ws (look start 0 leaves)
    past_node start h w leaves z o =
        record {
          ends = rw z (omega (arith, h, span_none (drop start ws)));
          some = omega (arith, h, span_parts ws _ some refl);
          within = w;
          few = rw z (omega arith);
          of = λ l e k q. inl (record { none = refl; start = h ∙ span_tree (term l) e k ws q; last = o l e k q });
        }

    pub look_wrong : (start : ℕ) → start ≡ span ws 1 → start ≤ length ws → x ≡ s.Wrong → Looked ws (look start 0 (Some 0))
    look_wrong start g w h = past_node start g w (Some 0) refl (λ l e k q. by l e (seen s.Wrong h l e k q))
      where
        by : (l : Lang) (e : Term l) → Shaped l s.Wrong e → Last (Some 0) e
        by l e (a_wrong c t) = tt

    -- A lambda or nil: a value.
    pub look_value : (start : ℕ) → start ≡ span ws 1 → start ≤ length ws → (x ≡ s.Number → ⊥) → (x ≡ s.Variable → ⊥)
        → ((o : Operator1) → x ≡ s.Operator1 o → ⊥) → ((o : Operator2) → x ≡ s.Operator2 o → ⊥) → (x ≡ s.If0 → ⊥) → (x ≡ s.Boundary → ⊥)
        → (x ≡ s.Wrong → ⊥) → Looked ws (look start 0 None)
    look_value start g w no_number no_variable no_one no_two no_if0 no_boundary no_wrong =
        past_node start g w None refl (λ l e k q. by l e (shape_is l e k q))
      where
        shape_is : (l : Lang) (e : Term l) (k : List ℕ) → ws ≡ put e k → x ≡ shape (term l) e
        shape_is l e k q =
            ap (λ (o : Option Shape). unwrap_or o x)
            (sym is ∙ t ∙ ap (λ (v : List ℕ). shape_of (get_or v 0 0 % 256)) q ∙ shape_first (term l) e k)

        by : (l : Lang) (e : Term l) → x ≡ shape (term l) e → Value l e
        by l (var i) h = absurd (no_variable h)
        by l (num n) h = num_v
        by l (lam u b) h = lam_v
        by l (op1 o a) h = absurd (no_one (operator1 o) h)
        by l (op2 o a b) h = absurd (no_two (operator2 o) h)
        by l (if0 a b c) h = absurd (no_if0 h)
        by l (nil u) h = nil_v
        by l (wrong c u) h = absurd (no_wrong h)
        by ml (ms u a) h = absurd (no_boundary h)
        by sc (sm u a) h = absurd (no_boundary h)

    -- A lump is a value with its part.
    module _ (start : ℕ) (start_is : start ≡ 1 + span (drop 1 ws) 1) {own : Bool} (own_is : own ≡ not (is_lump_by ws)) where
      past_type : (u : Ty) (k : List ℕ) → drop 1 ws ≡ put_ty u k → start ≡ 1 + size_ty u
      past_type u k i = start_is ∙ ap (λ (j : ℕ). 1 + j) (span_tree type u k (drop 1 ws) i)

      own_by : {l : Lang} (e : Term l) (k : List ℕ) → ws ≡ put e k → is_some (then_some {T = ℕ} own 0) ≡ not (is_lump_by (put e k))
      own_by {l} e k q = some_own own ∙ own_is ∙ ap (λ (v : List ℕ). not (is_lump_by v)) q

      boundary_seen : (l : Lang) (e : Term l) (k : List ℕ) → ws ≡ put e k → Shaped l s.Boundary e
          → Alone (look start 1 (then_some own 0)) e ⊎ Enters (look start 1 (then_some own 0)) e
      unfolding form put
      boundary_seen l e k q (an_ms u a) =
          inr
          (record {
            lang = sc;
            frame = into_ml u;
            part = a;
            is = refl;
            taken = tt;
            start = past_type u (put a k) (ap (drop 1) q);
            takes = refl;
            own = own_by e k q ∙ ap not (lump_at u a k);
          })
      boundary_seen l e k q (an_sm u a) =
          inr
          (record {
            lang = ml;
            frame = into_scheme u;
            part = a;
            is = refl;
            taken = tt;
            start = past_type u (put a k) (ap (drop 1) q);
            takes = refl;
            own = own_by e k q;
          })

      pub look_boundary : start ≤ length ws → x ≡ s.Boundary → Looked ws (look start 1 (then_some own 0))
      look_boundary w h =
          record {
            ends = rw (none_left own) (sym (span_next ws 1 start 1 1 start_is (span ws 1) (span_parts ws 2 some (count s.Boundary h 2 refl))));
            some = omega (arith, start_is);
            within = w;
            few = rw (none_left own) (omega arith);
            of = λ l e k q. boundary_seen l e k q (seen s.Boundary h l e k q);
          }
