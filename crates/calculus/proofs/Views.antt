-- Every tree is what a row of the table makes: its row, its operand and its parts, with its words, ranges and scope by them. It is the
-- inversion by the kind of the first word, for every kind at once, and gives induction over trees with one case. Assumes nothing.
use Prim.Native.Nat.{ℕ, zero, suc, ◌/◌, ◌%◌, ◌≤◌, ◌<◌}
use mathlib.Core.Bool.{Bool, true, false, cond, not}
use mathlib.Core.List.{List, [], ◌∷◌}
use mathlib.Core.Logic.{◌↔◌}
use mathlib.Core.Option.{some}
use mathlib.Core.Path.{◌≡◌, refl, sym, ap, ◌∙◌}
use lib.Dec.{T, eqb, ltb, ltb→lt}
use lib.ListN.{length}
use native.Mathlib.Omega.{arith}
use Rattle.calculus.specs.Trees.{Ty, N, L, list, ◌to◌, Lang, ml, sc, is_fun, is_list, is_null, is_num, HD, TL, FIX, NULL?, TEST, APP, ADD, SUB}
use Rattle.calculus.specs.Trees.{CONS, Term, var, num, lam, op1, op2, if0, nil, wrong, ms, sm}
use Rattle.calculus.specs.Words.{word, put, put_ty}
use Rattle.calculus.specs.Limits.{InRangeTy, InRange}
use Rattle.calculus.specs.Scope.{lambda_at, Scoped}
use Rattle.calculus.specs.Kinds.{Sort, type, term, Tree, Trees, put_tree, put_trees, Row, table, row_in, sort_of_kind, sort_of, size_tree, size_trees}
use Rattle.calculus.proofs.Sizes.{tree_length, trees_length}
use Rattle.calculus.specs.Nodes.{TreeInRange}
use Rattle.calculus.proofs.Rows.{TreesInRange, law_at}

-- Scope, of a tree of any sort and of trees in a row.
abbrev pub TreeScoped : List Lang → (s : Sort) → Tree s → Type 0
TreeScoped Γ type t = Unit {0}
TreeScoped Γ (term l) e = Scoped Γ e

abbrev pub TreesScoped : List Lang → (ss : List Sort) → Trees ss → Type 0
TreesScoped Γ [] ts = Unit {0}
TreesScoped Γ (s ∷ ss) ts = TreeScoped Γ s ts.0 × TreesScoped Γ ss ts.1

-- A word without its lambda, and the lambdas around its parts, by kind and operand.
abbrev pub free_at : List Lang → ℕ → ℕ → Bool
free_at Γ k o = cond (eqb k 16) (not (lambda_at Γ o ml)) (cond (eqb k 32) (not (lambda_at Γ o sc)) false)

abbrev pub inside_at : List Lang → ℕ → List Lang
inside_at Γ k = cond (eqb k 18) (ml ∷ Γ) (cond (eqb k 34) (sc ∷ Γ) Γ)

pub record View (s : Sort) (t : Tree s) : Type 0 where
  pub row : Row s
  pub operand : ℕ
  pub parts : Trees row.parts
  pub listed : row_in (table s) row.kind ≡ some row
  pub small : row.kind < 256
  pub home : sort_of_kind row.kind ≡ s
  pub makes : row.make operand parts ≡ t
  pub spelt : (k : List ℕ) → put_tree s t k ≡ word row.kind operand ∷ put_trees row.parts parts k
  pub fits : TreeInRange s t → (row.low ≤ operand) × (operand ≤ row.high) × TreesInRange row.parts parts
  -- in scope exactly if the word has its lambda and the parts are in scope
  pub scope : (Γ : List Lang)
      → TreeScoped Γ s t ↔ ((free_at Γ row.kind operand ≡ false) × TreesScoped (inside_at Γ row.kind) row.parts parts)

-- A tree by its kind: the operand, the parts.
unfoldable pub seen : {s : Sort} (k : ℕ) {r : Row s} (o : ℕ) (ts : Trees r.parts) → row_in (table s) k ≡ some r → T (ltb k 256) → sort_of_kind k ≡ s
    → ((ks : List ℕ) → put_tree s (r.make o ts) ks ≡ word k o ∷ put_trees r.parts ts ks)
    → (TreeInRange s (r.make o ts) → (r.low ≤ o) × (o ≤ r.high) × TreesInRange r.parts ts)
    → ((Γ : List Lang) → TreeScoped Γ s (r.make o ts) ↔ ((free_at Γ k o ≡ false) × TreesScoped (inside_at Γ k) r.parts ts))
    → View s (r.make o ts)
seen {s} k {r} o ts q h home spelt fits scope =
    let e : r.kind ≡ k = (law_at s k r q).1 in
    let b = ltb→lt k 256 h in
    record {
      row = r;
      operand = o;
      parts = ts;
      listed = ap (λ (j : ℕ). row_in (table s) j) e ∙ q;
      small = omega arith;
      home = ap sort_of_kind e ∙ home;
      makes = refl;
      spelt = λ ks. spelt ks ∙ ap (λ (j : ℕ). word j o ∷ put_trees r.parts ts ks) (sym e);
      fits = fits;
      scope = λ Γ. rw e (scope Γ);
    }

-- What is told of a node is told of its parts: of none, of one, of one behind a type, of two, of three.
pub no_part : Unit {0} ↔ Unit {0}
no_part = (λ h. tt, λ x. tt)

pub one_part : {A : Type 0} → A ↔ (A × Unit {0})
one_part = (λ h. (h, tt), λ x. x.0)

pub typed_part : {A : Type 0} → A ↔ (Unit {0} × (A × Unit {0}))
typed_part = (λ h. (tt, (h, tt)), λ x. x.1.0)

pub two_parts : {A B : Type 0} → (A × B) ↔ (A × (B × Unit {0}))
two_parts = (λ h. (h.0, (h.1, tt)), λ x. (x.0, x.1.0))

pub three_parts : {A B C : Type 0} → (A × B × C) ↔ (A × (B × (C × Unit {0})))
three_parts = (λ h. (h.0, (h.1, (h.2, tt))), λ x. (x.0, x.1.0, x.1.1.0))

-- A word that is no variable has its lambda; a variable, where there is one.
pub bound : {A B : Type 0} → A ↔ B → A ↔ ((◌≡◌ {A = Bool} false false) × B)
bound h = (λ a. (refl, h.0 a), λ x. h.1 x.1)

pub free_iff : (b : Bool) → T b ↔ ((not b ≡ false) × Unit {0})
free_iff true = (λ h. (refl, tt), λ x. tt)
free_iff false = (λ h. absurd h, λ x. let z : ◌≡◌ {A = ℕ} 0 1 = cc in absurd (omega arith))

-- The operand 0 is in the range of an operand that is 0.
pub fixed : {A : Type 0} → A → (0 ≤ 0) × (0 ≤ 0) × A
fixed a = (omega arith, omega arith, a)

unfoldable pub view_type : (t : Ty) → View type t
unfolding put_ty InRangeTy
view_type N = seen 1 0 tt refl tt refl (λ ks. refl) (λ h. fixed tt) (λ Γ. bound no_part)
view_type (L o) = seen 2 o tt refl tt refl (λ ks. refl) (λ h. (omega arith, h, tt)) (λ Γ. bound no_part)
view_type (list t) = seen 3 0 (t, tt) refl tt refl (λ ks. refl) (λ h. fixed (h, tt)) (λ Γ. bound one_part)
view_type (t to u) = seen 4 0 (t, (u, tt)) refl tt refl (λ ks. refl) (λ h. fixed (two_parts.0 h)) (λ Γ. bound typed_part)

unfoldable pub view_ml : (e : Term ml) → View (term ml) e
unfolding put InRange
view_ml (var i) = seen 16 i tt refl tt refl (λ ks. refl) (λ h. (omega arith, h, tt)) (λ Γ. free_iff (lambda_at Γ i ml))
view_ml (num n) = seen 17 n tt refl tt refl (λ ks. refl) (λ h. (omega arith, h, tt)) (λ Γ. bound no_part)
view_ml (lam t b) = seen 18 0 (t, (b, tt)) refl tt refl (λ ks. refl) (λ h. fixed (two_parts.0 h)) (λ Γ. bound typed_part)
view_ml (op2 APP a b) = seen 19 0 (a, (b, tt)) refl tt refl (λ ks. refl) (λ h. fixed (two_parts.0 h)) (λ Γ. bound two_parts)
view_ml (op1 FIX a) = seen 20 0 (a, tt) refl tt refl (λ ks. refl) (λ h. fixed (h, tt)) (λ Γ. bound one_part)
view_ml (op2 ADD a b) = seen 21 0 (a, (b, tt)) refl tt refl (λ ks. refl) (λ h. fixed (two_parts.0 h)) (λ Γ. bound two_parts)
view_ml (op2 SUB a b) = seen 22 0 (a, (b, tt)) refl tt refl (λ ks. refl) (λ h. fixed (two_parts.0 h)) (λ Γ. bound two_parts)
view_ml (if0 a b c) = seen 23 0 (a, (b, (c, tt))) refl tt refl (λ ks. refl) (λ h. fixed (three_parts.0 h)) (λ Γ. bound three_parts)
view_ml (nil t) = seen 24 0 (t, tt) refl tt refl (λ ks. refl) (λ h. fixed (h, tt)) (λ Γ. bound one_part)
view_ml (op2 CONS a b) = seen 25 0 (a, (b, tt)) refl tt refl (λ ks. refl) (λ h. fixed (two_parts.0 h)) (λ Γ. bound two_parts)
view_ml (op1 HD a) = seen 26 0 (a, tt) refl tt refl (λ ks. refl) (λ h. fixed (h, tt)) (λ Γ. bound one_part)
view_ml (op1 TL a) = seen 27 0 (a, tt) refl tt refl (λ ks. refl) (λ h. fixed (h, tt)) (λ Γ. bound one_part)
view_ml (op1 NULL? a) = seen 28 0 (a, tt) refl tt refl (λ ks. refl) (λ h. fixed (h, tt)) (λ Γ. bound one_part)
view_ml (wrong c t) = seen 29 c (t, tt) refl tt refl (λ ks. refl) (λ h. (h.0, h.1, (h.2, tt))) (λ Γ. bound one_part)
view_ml (ms t a) = seen 30 0 (t, (a, tt)) refl tt refl (λ ks. refl) (λ h. fixed (two_parts.0 h)) (λ Γ. bound typed_part)

unfoldable pub view_sc : (e : Term sc) → View (term sc) e
unfolding put InRange
view_sc (var i) = seen 32 i tt refl tt refl (λ ks. refl) (λ h. (omega arith, h, tt)) (λ Γ. free_iff (lambda_at Γ i sc))
view_sc (num n) = seen 33 n tt refl tt refl (λ ks. refl) (λ h. (omega arith, h, tt)) (λ Γ. bound no_part)
view_sc (lam t b) = seen 34 0 (b, tt) refl tt refl (λ ks. refl) (λ h. fixed (h.1, tt)) (λ Γ. bound one_part)
view_sc (op2 APP a b) = seen 35 0 (a, (b, tt)) refl tt refl (λ ks. refl) (λ h. fixed (two_parts.0 h)) (λ Γ. bound two_parts)
view_sc (op2 ADD a b) = seen 36 0 (a, (b, tt)) refl tt refl (λ ks. refl) (λ h. fixed (two_parts.0 h)) (λ Γ. bound two_parts)
view_sc (op2 SUB a b) = seen 37 0 (a, (b, tt)) refl tt refl (λ ks. refl) (λ h. fixed (two_parts.0 h)) (λ Γ. bound two_parts)
view_sc (if0 a b c) = seen 38 0 (a, (b, (c, tt))) refl tt refl (λ ks. refl) (λ h. fixed (three_parts.0 h)) (λ Γ. bound three_parts)
view_sc (nil t) = seen 39 0 tt refl tt refl (λ ks. refl) (λ h. fixed tt) (λ Γ. bound no_part)
view_sc (op2 CONS a b) = seen 40 0 (a, (b, tt)) refl tt refl (λ ks. refl) (λ h. fixed (two_parts.0 h)) (λ Γ. bound two_parts)
view_sc (op1 HD a) = seen 41 0 (a, tt) refl tt refl (λ ks. refl) (λ h. fixed (h, tt)) (λ Γ. bound one_part)
view_sc (op1 TL a) = seen 42 0 (a, tt) refl tt refl (λ ks. refl) (λ h. fixed (h, tt)) (λ Γ. bound one_part)
view_sc (op1 (TEST is_fun) a) = seen 43 0 (a, tt) refl tt refl (λ ks. refl) (λ h. (omega arith, omega arith, (h, tt))) (λ Γ. bound one_part)
view_sc (op1 (TEST is_list) a) = seen 43 1 (a, tt) refl tt refl (λ ks. refl) (λ h. (omega arith, omega arith, (h, tt))) (λ Γ. bound one_part)
view_sc (op1 (TEST is_null) a) = seen 43 2 (a, tt) refl tt refl (λ ks. refl) (λ h. (omega arith, omega arith, (h, tt))) (λ Γ. bound one_part)
view_sc (op1 (TEST is_num) a) = seen 43 3 (a, tt) refl tt refl (λ ks. refl) (λ h. (omega arith, omega arith, (h, tt))) (λ Γ. bound one_part)
view_sc (wrong c t) = seen 44 c tt refl tt refl (λ ks. refl) (λ h. (h.0, h.1, tt)) (λ Γ. bound no_part)
view_sc (sm t a) = seen 45 0 (t, (a, tt)) refl tt refl (λ ks. refl) (λ h. fixed (two_parts.0 h)) (λ Γ. bound typed_part)

unfoldable pub view : (s : Sort) (t : Tree s) → View s t
view type t = view_type t
view (term ml) e = view_ml e
view (term sc) e = view_sc e

-- With other parts a tree's word makes a tree that is in scope exactly if the word has its lambda and these parts are in scope.
abbrev pub Remakes : (s : Sort) (t : Tree s) → Type 0
Remakes s t =
    (us : Trees (view s t).row.parts) (Γ : List Lang) → TreeScoped Γ s ((view s t).row.make (view s t).operand us)
    ↔ ((free_at Γ (view s t).row.kind (view s t).operand ≡ false) × TreesScoped (inside_at Γ (view s t).row.kind) (view s t).row.parts us)

remade_type : (t : Ty) → Remakes type t
unfolding view view_type seen
remade_type N us Γ = bound no_part
remade_type (L o) us Γ = bound no_part
remade_type (list t) us Γ = bound one_part
remade_type (t to u) us Γ = bound typed_part

remade_ml : (e : Term ml) → Remakes (term ml) e
unfolding view view_ml seen
remade_ml (var i) us Γ = free_iff (lambda_at Γ i ml)
remade_ml (num n) us Γ = bound no_part
remade_ml (lam t b) us Γ = bound typed_part
remade_ml (op2 APP a b) us Γ = bound two_parts
remade_ml (op1 FIX a) us Γ = bound one_part
remade_ml (op2 ADD a b) us Γ = bound two_parts
remade_ml (op2 SUB a b) us Γ = bound two_parts
remade_ml (if0 a b c) us Γ = bound three_parts
remade_ml (nil t) us Γ = bound one_part
remade_ml (op2 CONS a b) us Γ = bound two_parts
remade_ml (op1 HD a) us Γ = bound one_part
remade_ml (op1 TL a) us Γ = bound one_part
remade_ml (op1 NULL? a) us Γ = bound one_part
remade_ml (wrong c t) us Γ = bound one_part
remade_ml (ms t a) us Γ = bound typed_part

remade_sc : (e : Term sc) → Remakes (term sc) e
unfolding view view_sc seen
remade_sc (var i) us Γ = free_iff (lambda_at Γ i sc)
remade_sc (num n) us Γ = bound no_part
remade_sc (lam t b) us Γ = bound one_part
remade_sc (op2 APP a b) us Γ = bound two_parts
remade_sc (op2 ADD a b) us Γ = bound two_parts
remade_sc (op2 SUB a b) us Γ = bound two_parts
remade_sc (if0 a b c) us Γ = bound three_parts
remade_sc (nil t) us Γ = bound no_part
remade_sc (op2 CONS a b) us Γ = bound two_parts
remade_sc (op1 HD a) us Γ = bound one_part
remade_sc (op1 TL a) us Γ = bound one_part
remade_sc (op1 (TEST is_fun) a) us Γ = bound one_part
remade_sc (op1 (TEST is_list) a) us Γ = bound one_part
remade_sc (op1 (TEST is_null) a) us Γ = bound one_part
remade_sc (op1 (TEST is_num) a) us Γ = bound one_part
remade_sc (wrong c t) us Γ = bound no_part
remade_sc (sm t a) us Γ = bound typed_part

pub remade : (s : Sort) (t : Tree s) → Remakes s t
remade type t = remade_type t
remade (term ml) e = remade_ml e
remade (term sc) e = remade_sc e

-- The kind and the operand of a tree's first word.
pub kind_of : {s : Sort} {t : Tree s} (v : View s t) → word v.row.kind v.operand % 256 ≡ v.row.kind
kind_of v = let h = v.small in omega arith

pub operand_of : {s : Sort} {t : Tree s} (v : View s t) → word v.row.kind v.operand / 256 ≡ v.operand
operand_of v = let h = v.small in omega arith

-- The sort is told by the first word.
pub sort_of_lem : {s : Sort} {t : Tree s} (v : View s t) → sort_of (word v.row.kind v.operand) ≡ s
sort_of_lem v = ap sort_of_kind (kind_of v) ∙ v.home

-- A tree is one word more than its parts.
pub sized : {s : Sort} {t : Tree s} (v : View s t) → size_tree s t ≡ suc (size_trees v.row.parts v.parts)
sized {s} {t} v = omega (arith, tree_length s t [], ap length (v.spelt []), trees_length v.row.parts v.parts [])

-- Induction over trees: a property that a tree has if its parts have it.
abbrev pub Holds : ((s : Sort) → Tree s → Type 0) → (ss : List Sort) → Trees ss → Type 0
Holds P [] ts = Unit {0}
Holds P (s ∷ ss) ts = P s ts.0 × Holds P ss ts.1

abbrev pub OfParts : ((s : Sort) → Tree s → Type 0) → (s : Sort) → Tree s → Type 0
OfParts P s t = Holds P (view s t).row.parts (view s t).parts → P s t

module _ (P : (s : Sort) → Tree s → Type 0) (node : (s : Sort) (t : Tree s) → OfParts P s t) where
  each : (n : ℕ) → ((s : Sort) (t : Tree s) → size_tree s t ≤ n → P s t) → (ss : List Sort) (ts : Trees ss) → size_trees ss ts ≤ n → Holds P ss ts
  each n p [] ts h = tt
  each n p (s ∷ ss) ts h = (p s ts.0 (omega arith), each n p ss ts.1 (omega arith))

  bounded : (n : ℕ) (s : Sort) (t : Tree s) → size_tree s t ≤ n → P s t
  bounded zero s t h = absurd (omega (arith, sized (view s t)))
  bounded (suc n) s t h =
      let v = view s t in
      node s t (each n (λ s t h. bounded n s t h) v.row.parts v.parts (omega (arith, sized v)))

  pub induction : (s : Sort) (t : Tree s) → P s t
  induction s t = bounded (size_tree s t) s t (omega arith)
