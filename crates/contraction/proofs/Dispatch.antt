-- What the rules tell of a node, whichever it is, by its row. Assumes nothing.
use Prim.Native.Nat.{ℕ, ◌/◌, ◌%◌, ◌<◌}
use mathlib.Core.List.{List, []}
use mathlib.Core.Path.{◌≡◌, refl, sym, ap, ◌∙◌, subst}
use lib.ListN.{length, get_or, drop}
use native.Mathlib.Omega.{arith}
use Rattle.std.proofs.Common.{Option, None, Some, unwrap_or}
use Rattle.calculus.specs.Trees.{Lang, ml, sc, Op1, Op2, APP, ADD, SUB, CONS, Term, op1, if0}
use Rattle.calculus.specs.Words.{put, words}
use Rattle.calculus.specs.Kinds.{Sort, type, term}
use Rattle.calculus.specs.Reduction.{contract, contract1, contract2}
use Rattle.calculus.proofs.Sizes.{tree_length}
use Rattle.nodes.specs.declared.kinds.Language.{Language}
use Rattle.nodes.specs.declared.kinds.Language.TheVariants.{Ml, Scheme}
use Rattle.nodes.specs.declared.kinds.Operator1.{Operator1}
use Rattle.nodes.specs.declared.kinds.Operator2.{Operator2}
use Rattle.nodes.specs.declared.kinds.Shape.{Shape}
use Rattle.nodes.specs.declared.kinds.Shape.TheVariants as s
use Rattle.nodes.specs.Table.{as_lang, operator1, operator2, Row, told, row_of, shape_of}
use Rattle.nodes.proofs.Shapes.{sort_first}
use Rattle.nodes.proofs.Terms.{Shaped, a_variable, a_number, a_lambda, one_part, two_parts, an_if0, a_nil, a_wrong, an_ms, an_sm, by_shape}
use Rattle.pieces.specs.declared.became.Became.{Became}
use Rattle.pieces.specs.declared.became.Became.TheVariants.{Nothing, Raises}
use Rattle.pieces.specs.Pieces.{Tells}
use Rattle.pieces.specs.Values.{Split}
use Rattle.pieces.proofs.Showing.{size_some}
use Rattle.unary.specs.Chosen.{OfOne}
use Rattle.binary.specs.Chosen.{operation, OfTwo, OfIf}
use Rattle.conversions.specs.Chosen.{OfBoundary}
use Rattle.contraction.specs.Chosen.{OfNode}

-- No words at all.
pub node_none : {ws : List ℕ} → length ws < 1 → OfNode ws Nothing
node_none h = record { of = λ l e q. absurd (omega (arith, h, ap length q, tree_length (term l) e [], size_some l e)) }

-- The rules, by the shape.
wrong_told : {ws : List ℕ} (l : Lang) (e : Term l) → ws ≡ words e → Shaped l s.Wrong e → Tells (Raises (get_or ws 0 0 / 256)) (contract e)
unfolding contract put
wrong_told ml e q (a_wrong c t) = ap Raises (ap (λ (v : List ℕ). get_or v 0 0 / 256) q ∙ omega arith)
wrong_told sc e q (a_wrong c t) = ap Raises (ap (λ (v : List ℕ). get_or v 0 0 / 256) q ∙ omega arith)

one_told : {ws : List ℕ} (b : Became) (l : Lang) {o : Operator1} (e : Term l) → ws ≡ words e → Shaped l (s.Operator1 o) e
    → ((p : Op1 l) (a : Term l) → o ≡ operator1 p → ws ≡ words (op1 p a) → Tells b (contract1 p a)) → Tells b (contract e)
unfolding contract
one_told b l e q (one_part p a) t = t p a refl q

the_operation : (p : Op2) → operation (operator2 p) ≡ p
the_operation APP = refl
the_operation ADD = refl
the_operation SUB = refl
the_operation CONS = refl

module _ {ws ps : List ℕ} (ps_is : ps ≡ drop 1 ws) where
  two_told : {o : Operator2} {x y : List ℕ} (b : Became) → Split ps x y → (l : Lang) (e : Term l) → ws ≡ words e → Shaped l (s.Operator2 o) e
      → ((u v : Term l) → x ≡ words u → y ≡ words v → Tells b (contract2 l (operation o) u v)) → Tells b (contract e)
  unfolding contract put
  two_told b d l e q (two_parts p u v) t =
      let z = d.of (term l) u (words v) (ps_is ∙ ap (drop 1) q) in rw (the_operation p) at (t u v z.0 z.1)

  if_told : {x y z k : List ℕ} (b : Became) → Split ps x k → Split k y z → (l : Lang) (e : Term l) → ws ≡ words e → Shaped l s.If0 e
      → ((u v w : Term l) → x ≡ words u → y ≡ words v → z ≡ words w → Tells b (contract (if0 u v w))) → Tells b (contract e)
  unfolding put
  if_told b d d' l e q (an_if0 u v w) t =
      let z = d.of (term l) u (put v (words w)) (ps_is ∙ ap (drop 1) q) in
      let y = d'.of (term l) v (words w) z.1 in t u v w z.0 y.0 y.1

  boundary_told : {x y : List ℕ} {b : Became} (i : Language) → Split ps x y → (e : Term (as_lang i)) → ws ≡ words e
      → Shaped (as_lang i) s.Boundary e
      → OfBoundary i x y b → Tells b (contract e)
  unfolding contract put
  boundary_told Ml d e q (an_ms t a) g = let z = d.of type t (words a) (ps_is ∙ ap (drop 1) q) in (g.of t).of a z.0 z.1
  boundary_told Scheme d e q (an_sm t a) g = let z = d.of type t (words a) (ps_is ∙ ap (drop 1) q) in (g.of t).of a z.0 z.1

other_told : (l : Lang) (x : Shape) (e : Term l) → Shaped l x e → ((o : Operator1) → x ≡ s.Operator1 o → ⊥)
    → ((o : Operator2) → x ≡ s.Operator2 o → ⊥) → (x ≡ s.If0 → ⊥) → (x ≡ s.Wrong → ⊥) → (x ≡ s.Boundary → ⊥) → Tells Nothing (contract e)
unfolding contract
other_told l x e a_variable a b c d f = refl
other_told l x e a_number a b c d f = refl
other_told l x e a_lambda a b c d f = refl
other_told l x e (one_part o y) a b c d f = absurd (a (operator1 o) refl)
other_told l x e (two_parts o y z) a b c d f = absurd (b (operator2 o) refl)
other_told l x e (an_if0 y z w) a b c d f = absurd (c refl)
other_told l x e a_nil a b c d f = refl
other_told l x e (a_wrong y t) a b c d f = absurd (d refl)
other_told l x e (an_ms t y) a b c d f = absurd (f refl)
other_told l x e (an_sm t y) a b c d f = absurd (f refl)

-- The language of a sort that is no type's.
abbrev lang_in : Sort → Lang
lang_in type = ml
lang_in (term l) = l

-- The row of a term's first word.
row_here : {ws : List ℕ} (l : Lang) (e : Term l) → ws ≡ words e → told (row_of (get_or ws 0 0 % 256)) None (λ r. Some r.sort) ≡ Some (term l)
row_here l e q = ap (λ (v : List ℕ). told (row_of (get_or v 0 0 % 256)) None (λ r. Some r.sort)) q ∙ sort_first (term l) e []

pub node_unknown : {ws : List ℕ} → None ≡ row_of (get_or ws 0 0 % 256) → OfNode ws Nothing
node_unknown h =
    record {
      of = λ l e q.
          let z : None ≡ Some (term l) = ap (λ (o : Option Row). told o None (λ r. Some r.sort)) h ∙ row_here l e q in cc;
    }

module _ (ws : List ℕ) {r : Row} (row_is : Some r ≡ row_of (get_or ws 0 0 % 256)) where
  sort_is : (l : Lang) (e : Term l) → ws ≡ words e → r.sort ≡ term l
  sort_is l e q =
      ap (λ (o : Option Sort). unwrap_or o r.sort) (ap (λ (o : Option Row). told o None (λ r. Some r.sort)) row_is ∙ row_here l e q)

  pub node_type : r.sort ≡ type → OfNode ws Nothing
  node_type h = record { of = λ l e q. let z : type ≡ term l = sym h ∙ sort_is l e q in cc }

  shape_is : {x : Shape} → r.shape ≡ x → shape_of (get_or ws 0 0 % 256) ≡ Some x
  shape_is g = ap (λ (o : Option Row). told o None (λ r. Some r.shape)) (sym row_is) ∙ ap Some g

  -- A term of the row's language and shape.
  node : (i : Language) {x : Shape} (b : Became) → r.sort ≡ term (as_lang i) → r.shape ≡ x
      → ((e : Term (as_lang i)) → ws ≡ words e → Shaped (as_lang i) x e → Tells b (contract e)) → OfNode ws b
  node i {x} b h g f =
      record {
        of = λ l e q.
            let same : as_lang i ≡ l = ap lang_in (sym h ∙ sort_is l e q) in
            subst (λ (m : Lang). (e : Term m) → ws ≡ words e → Tells b (contract e)) same
            (λ y p. f y p (by_shape (as_lang i) y [] ws p x (shape_is g))) e q;
      }

  module _ (i : Language) (sort_in : r.sort ≡ term (as_lang i)) where
    pub node_wrong : r.shape ≡ s.Wrong → OfNode ws (Raises (get_or ws 0 0 / 256))
    node_wrong g = node i _ sort_in g (λ e q h. wrong_told (as_lang i) e q h)

    pub node_one : {o : Operator1} {b : Became} → r.shape ≡ s.Operator1 o → OfOne i o ws b → OfNode ws b
    node_one g t = node i _ sort_in g (λ e q h. one_told _ (as_lang i) e q h t.of)

    module _ {ps : List ℕ} (ps_is : ps ≡ drop 1 ws) where
      pub node_two : {o : Operator2} {x y : List ℕ} {b : Became} → r.shape ≡ s.Operator2 o → Split ps x y → OfTwo i o x y b → OfNode ws b
      node_two g d t = node i _ sort_in g (λ e q h. two_told ps_is _ d (as_lang i) e q h t.of)

      pub node_if : {x y z k : List ℕ} {b : Became} → r.shape ≡ s.If0 → Split ps x k → Split k y z → OfIf i x y z b → OfNode ws b
      node_if g d d' t = node i _ sort_in g (λ e q h. if_told ps_is _ d d' (as_lang i) e q h t.of)

      pub node_boundary : {x y : List ℕ} {b : Became} → r.shape ≡ s.Boundary → Split ps x y → OfBoundary i x y b → OfNode ws b
      node_boundary g d t = node i _ sort_in g (λ e q h. boundary_told ps_is i d e q h t)

    pub node_other : ((o : Operator1) → r.shape ≡ s.Operator1 o → ⊥) → ((o : Operator2) → r.shape ≡ s.Operator2 o → ⊥) → (r.shape ≡ s.If0 → ⊥)
        → (r.shape ≡ s.Wrong → ⊥) → (r.shape ≡ s.Boundary → ⊥) → OfNode ws Nothing
    node_other a b c d f = node i _ sort_in refl (λ e q h. other_told (as_lang i) r.shape e h a b c d f)
