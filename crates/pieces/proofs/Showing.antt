-- What words show: their form, and of a term's words the parts of its own. Assumes nothing.
use Prim.Native.Nat.{ℕ, ◌/◌, ◌%◌, ◌<◌, ◌≤◌}
use mathlib.Core.List.{List, [], ◌∷◌}
use mathlib.Core.Path.{◌≡◌, refl, sym, ap, ◌∙◌, subst}
use lib.ListN.{length, get_or, drop, length-drop}
use denote.Bor.{Bor}
use borrow.Author.Tests.{eq-eqb, ne_eqb}
use native.Mathlib.Omega.{arith}
use Rattle.std.proofs.Common.{Option, None, Some}
use Rattle.calculus.specs.Trees.{Ty, N, L, list, ◌to◌, Lang, ml, sc, Static, is_fun, is_list, is_null, is_num, HD, TL, FIX, NULL?, TEST, APP}
use Rattle.calculus.specs.Trees.{ADD, SUB, CONS, Term, var, num, lam, op1, op2, if0, nil, wrong, ms, sm}
use Rattle.calculus.specs.Words.{word, put, put_ty, words, size}
use Rattle.calculus.specs.Kinds.{term}
use Rattle.calculus.specs.Reduction.{number, sealed, other, form}
use Rattle.calculus.specs.Reduction as calculus
use Rattle.calculus.proofs.Views.{view, sized}
use Rattle.nodes.specs.declared.kinds.Shape.{Shape}
use Rattle.nodes.specs.declared.kinds.Shape.TheVariants as s
use Rattle.nodes.specs.Table.{shape, shape_of, row_of}
use Rattle.nodes.proofs.Shapes.{shape_first}
use Rattle.pieces.specs.declared.values.Value.{Value}
use Rattle.pieces.specs.declared.values.Value.TheVariants.{Number, Lambda, Nil, Cons, Lump, Other}
use Rattle.pieces.specs.Pieces.{Few}
use Rattle.pieces.specs.Values.{is_lump_by, form_of, form_number, pair_form, form_by, form_at, Behind, Small}
use Rattle.pieces.specs.Values.{Shows, a_number, a_lambda, a_nil, a_cons, a_lump}
use Rattle.pieces.specs.Values.{no_value, Paired, Looks}

-- None is no Some; and of two Somes that are one the shapes are.
pub none_some : {x : Shape} → ◌≡◌ {A = Option Shape} None (Some x) → ⊥
none_some e = cc

pub the_same : {x y : Shape} → ◌≡◌ {A = Option Shape} (Some x) (Some y) → x ≡ y
the_same e = cc

-- A term has at least one word.
pub size_some : (l : Lang) (e : Term l) → 1 ≤ size e
size_some l e = omega (arith, sized (view (term l) e))

-- ms at an owner's L is told by its words.
pub lump_at : (t : Ty) (a : Term sc) (k : List ℕ) → is_lump_by (put (ms t a) k) ≡ calculus.is_lump t
unfolding put put_ty
lump_at N a k = refl
lump_at (L u) a k = eq-eqb (word 2 u % 256) 2 (omega arith)
lump_at (list t) a k = refl
lump_at (t to u) a k = refl

-- A term by its form.
data Formed : (l : Lang) → ℕ → Term l → Type 0 where
  is_number : {l : Lang} (n : ℕ) → Formed l 1 (num n)
  is_function : {l : Lang} (t : Static l) (b : Term l) → Formed l 2 (lam t b)
  is_nil : {l : Lang} (t : Static l) → Formed l 3 (nil t)
  is_cons : {l : Lang} (v w : Term l) → Formed l 4 (op2 CONS v w)
  is_lump : (o : ℕ) (v : Term sc) → Formed ml 5 (ms (L o) v)
  is_other : {l : Lang} {e : Term l} → form e ≡ other → Formed l 0 e

unfoldable formed : (l : Lang) (e : Term l) → Formed l (form_number (form e)) e
unfolding form
formed l (var i) = is_other refl
formed l (num n) = is_number n
formed l (lam t b) = is_function t b
formed l (op1 o a) = is_other refl
formed l (op2 APP a b) = is_other refl
formed l (op2 ADD a b) = is_other refl
formed l (op2 SUB a b) = is_other refl
formed l (op2 CONS a b) = is_cons a b
formed l (if0 a b c) = is_other refl
formed l (nil t) = is_nil t
formed l (wrong c t) = is_other refl
formed ml (ms N a) = is_other refl
formed ml (ms (L o) a) = is_lump o a
formed ml (ms (list t) a) = is_other refl
formed ml (ms (t to u) a) = is_other refl
formed sc (sm t a) = is_other refl

-- The form is told by the shape and the first two words.
no_pair : (w v : ℕ) → (w ≡ 25 → ⊥) → (w ≡ 40 → ⊥) → (w ≡ 30 → ⊥) → 0 ≡ pair_form w v
no_pair w v a b c = rw (ne_eqb w 25 a, ne_eqb w 40 b, ne_eqb w 30 c) refl

form_by_lem : (l : Lang) (e : Term l) (k : List ℕ) → form_number (form e) ≡ form_by (Some (shape (term l) e)) (get_or (put e k) 0 0)
    (get_or (put e k) 1 0)
unfolding form put put_ty
form_by_lem ml (var i) k = no_pair (word 16 i) (get_or k 0 0) (λ e. omega (arith, e)) (λ e. omega (arith, e)) (λ e. omega (arith, e))
form_by_lem sc (var i) k = no_pair (word 32 i) (get_or k 0 0) (λ e. omega (arith, e)) (λ e. omega (arith, e)) (λ e. omega (arith, e))
form_by_lem l (num n) k = refl
form_by_lem l (lam t b) k = refl
form_by_lem ml (op1 HD a) k = refl
form_by_lem ml (op1 TL a) k = refl
form_by_lem ml (op1 FIX a) k = refl
form_by_lem ml (op1 NULL? a) k = refl
form_by_lem sc (op1 HD a) k = refl
form_by_lem sc (op1 TL a) k = refl
form_by_lem sc (op1 (TEST is_fun) a) k = refl
form_by_lem sc (op1 (TEST is_list) a) k = refl
form_by_lem sc (op1 (TEST is_null) a) k = refl
form_by_lem sc (op1 (TEST is_num) a) k = refl
form_by_lem ml (op2 APP a b) k = refl
form_by_lem ml (op2 ADD a b) k = refl
form_by_lem ml (op2 SUB a b) k = refl
form_by_lem ml (op2 CONS a b) k = refl
form_by_lem sc (op2 APP a b) k = refl
form_by_lem sc (op2 ADD a b) k = refl
form_by_lem sc (op2 SUB a b) k = refl
form_by_lem sc (op2 CONS a b) k = refl
form_by_lem ml (if0 a b c) k = refl
form_by_lem sc (if0 a b c) k = refl
form_by_lem l (nil t) k = refl
form_by_lem ml (wrong c t) k =
    no_pair (word 29 c) (get_or (put (wrong {l = ml} c t) k) 1 0) (λ e. omega (arith, e)) (λ e. omega (arith, e)) (λ e. omega (arith, e))
form_by_lem sc (wrong c t) k = no_pair (word 44 c) (get_or k 0 0) (λ e. omega (arith, e)) (λ e. omega (arith, e)) (λ e. omega (arith, e))
form_by_lem ml (ms N a) k = refl
form_by_lem ml (ms (L o) a) k = rw (eq-eqb (word 2 o % 256) 2 (omega arith)) refl
form_by_lem ml (ms (list t) a) k = refl
form_by_lem ml (ms (t to u) a) k = refl
form_by_lem sc (sm t a) k = refl

form_at_lem : (l : Lang) (e : Term l) (ws : List ℕ) → ws ≡ words e → form_at ws ≡ form_number (form e)
unfolding form_at
form_at_lem l e ws q =
    ap (λ (v : List ℕ). form_by (shape_of (get_or v 0 0 % 256)) (get_or v 0 0) (get_or v 1 0)) q
    ∙ ap (λ (o : Option Shape). form_by o (get_or (words e) 0 0) (get_or (words e) 1 0)) (shape_first (term l) e [])
    ∙ sym (form_by_lem l e [])

-- No words have no form; and words of any shape but three have that of a cons, of a lump or none.
none_at : (ws : List ℕ) → length ws < 1 → 0 ≡ form_at ws
unfolding form_at row_of
none_at [] h = refl
none_at (w ∷ ws) h = absurd (omega (arith, h))

no_other_form : (o : Option Shape) (w v : ℕ) → (o ≡ Some s.Number → ⊥) → (o ≡ Some s.Lambda → ⊥) → (o ≡ Some s.Nil → ⊥)
    → form_by o w v ≡ pair_form w v
no_other_form None w v a b c = refl
no_other_form (Some s.Number) w v a b c = absurd (a refl)
no_other_form (Some s.Lambda) w v a b c = absurd (b refl)
no_other_form (Some s.Nil) w v a b c = absurd (c refl)
no_other_form (Some s.Variable) w v a b c = refl
no_other_form (Some (s.Operator1 x)) w v a b c = refl
no_other_form (Some (s.Operator2 x)) w v a b c = refl
no_other_form (Some s.If0) w v a b c = refl
no_other_form (Some s.Wrong) w v a b c = refl
no_other_form (Some s.Boundary) w v a b c = refl
no_other_form (Some s.Numbers) w v a b c = refl
no_other_form (Some s.Lump) w v a b c = refl
no_other_form (Some s.List) w v a b c = refl
no_other_form (Some s.Function) w v a b c = refl

-- A number's word.
number_word : (ws : List ℕ) (l : Lang) (n : ℕ) → ws ≡ words (num {l = l} n) → get_or ws 0 0 / 256 ≡ n
unfolding put
number_word ws ml n q = ap (λ (v : List ℕ). get_or v 0 0 / 256) q ∙ omega arith
number_word ws sc n q = ap (λ (v : List ℕ). get_or v 0 0 / 256) q ∙ omega arith

-- A value of a term's form, whose parts are the words behind the first, has the parts of that form.
module _ (ws : List ℕ) where
  parts_of : (l : Lang) {n : ℕ} {e : Term l} → Formed l n e → (r : Value) → form_of r ≡ n → Behind ws r → ws ≡ words e → Shows l r (form e)
  unfolding form put put_ty
  parts_of l (is_number n) (Number m) h b q = subst (λ (i : ℕ). Shows l (Number i) (number n)) (sym (b ∙ number_word ws l n q)) (a_number n)
  parts_of l (is_number n) (Lambda p) h b q = absurd (omega (arith, h))
  parts_of l (is_number n) (Nil p) h b q = absurd (omega (arith, h))
  parts_of l (is_number n) (Cons p) h b q = absurd (omega (arith, h))
  parts_of l (is_number n) (Lump o p) h b q = absurd (omega (arith, h))
  parts_of l (is_number n) Other h b q = absurd (omega (arith, h))
  parts_of l (is_function t e) (Number m) h b q = absurd (omega (arith, h))
  parts_of l (is_function t e) (Lambda p) h b q = a_lambda p t e (b ∙ ap (drop 1) q)
  parts_of l (is_function t e) (Nil p) h b q = absurd (omega (arith, h))
  parts_of l (is_function t e) (Cons p) h b q = absurd (omega (arith, h))
  parts_of l (is_function t e) (Lump o p) h b q = absurd (omega (arith, h))
  parts_of l (is_function t e) Other h b q = absurd (omega (arith, h))
  parts_of l (is_nil t) (Number m) h b q = absurd (omega (arith, h))
  parts_of l (is_nil t) (Lambda p) h b q = absurd (omega (arith, h))
  parts_of l (is_nil t) (Nil p) h b q = a_nil p t (b ∙ ap (drop 1) q)
  parts_of l (is_nil t) (Cons p) h b q = absurd (omega (arith, h))
  parts_of l (is_nil t) (Lump o p) h b q = absurd (omega (arith, h))
  parts_of l (is_nil t) Other h b q = absurd (omega (arith, h))
  parts_of l (is_cons v w) (Number m) h b q = absurd (omega (arith, h))
  parts_of l (is_cons v w) (Lambda p) h b q = absurd (omega (arith, h))
  parts_of l (is_cons v w) (Nil p) h b q = absurd (omega (arith, h))
  parts_of l (is_cons v w) (Cons p) h b q = a_cons p v w (b ∙ ap (drop 1) q)
  parts_of l (is_cons v w) (Lump o p) h b q = absurd (omega (arith, h))
  parts_of l (is_cons v w) Other h b q = absurd (omega (arith, h))
  parts_of ml (is_lump o v) (Number m) h b q = absurd (omega (arith, h))
  parts_of ml (is_lump o v) (Lambda p) h b q = absurd (omega (arith, h))
  parts_of ml (is_lump o v) (Nil p) h b q = absurd (omega (arith, h))
  parts_of ml (is_lump o v) (Cons p) h b q = absurd (omega (arith, h))
  parts_of ml (is_lump o v) (Lump u p) h b q =
      subst (λ (i : ℕ). Shows ml (Lump i p) (sealed o v)) (sym (b.0 ∙ ap (λ (x : List ℕ). get_or x 1 0) q)) (a_lump o p v (b.1 ∙ ap (drop 2) q))
  parts_of ml (is_lump o v) Other h b q = absurd (omega (arith, h))
  parts_of l (is_other f) (Number m) h b q = absurd (omega (arith, h))
  parts_of l (is_other f) (Lambda p) h b q = absurd (omega (arith, h))
  parts_of l (is_other f) (Nil p) h b q = absurd (omega (arith, h))
  parts_of l (is_other f) (Cons p) h b q = absurd (omega (arith, h))
  parts_of l (is_other f) (Lump o p) h b q = absurd (omega (arith, h))
  parts_of l (is_other f) Other h b q = rw f no_value

  pub looks_lem : {r : Value} → form_of r ≡ form_at ws → Behind ws r → (Few ws → Small r) → Looks ws r
  looks_lem {r} h b g =
      record { formed = h; parts = b; small = g; of = λ l e q. parts_of l (formed l e) r (h ∙ form_at_lem l e ws q) b q }

  -- No words; a number, a lambda and nil by the shape of the first word; and of any other shape a cons, a lump or none.
  pub none_looks : length ws < 1 → Looks ws Other
  none_looks h = looks_lem (none_at ws h) tt (λ f. tt)

  module _ {o : Option Shape} (o_is : o ≡ shape_of (get_or ws 0 0 % 256)) where
    by_shape : form_by o (get_or ws 0 0) (get_or ws 1 0) ≡ form_at ws
    unfolding form_at
    by_shape = ap (λ (x : Option Shape). form_by x (get_or ws 0 0) (get_or ws 1 0)) o_is

    looks_by : {x : Shape} {r : Value} → o ≡ Some x → form_of r ≡ form_by (Some x) (get_or ws 0 0) (get_or ws 1 0) → Behind ws r
        → (Few ws → Small r) → Looks ws r
    looks_by e h b g =
        looks_lem (h ∙ sym (ap (λ (y : Option Shape). form_by y (get_or ws 0 0) (get_or ws 1 0)) e) ∙ by_shape) b g

    few_behind : (p : Bor (List ℕ)) → p.now ≡ drop 1 ws → Few ws → Few p.now
    few_behind p e f = omega (arith, f, ap length e, length-drop 1 ws)

    pub number_looks : {n : ℕ} → o ≡ Some s.Number → get_or ws 0 0 < 4294967296 → n ≡ get_or ws 0 0 / 256 → Looks ws (Number n)
    number_looks e h b = looks_by e refl b (λ f. omega (arith, b, h))

    pub lambda_looks : (p : Bor (List ℕ)) → o ≡ Some s.Lambda → p.now ≡ drop 1 ws → Looks ws (Lambda p)
    lambda_looks p e b = looks_by e refl b (few_behind p b)

    pub nil_looks : (p : Bor (List ℕ)) → o ≡ Some s.Nil → p.now ≡ drop 1 ws → Looks ws (Nil p)
    nil_looks p e b = looks_by e refl b (few_behind p b)

    pub paired_looks : {r : Value} → (o ≡ Some s.Number → ⊥) → (o ≡ Some s.Lambda → ⊥) → (o ≡ Some s.Nil → ⊥) → Paired ws r → Looks ws r
    paired_looks a b c h =
        looks_lem (h.formed ∙ sym (no_other_form o (get_or ws 0 0) (get_or ws 1 0) a b c) ∙ by_shape) h.parts h.small
