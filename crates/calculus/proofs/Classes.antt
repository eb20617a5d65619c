-- The class of a step: by the word of the node that it reduces, and however the step is derived. Assumes nothing.
use Prim.Native.Nat.{ℕ, ◌%◌, ◌<◌}
use mathlib.Core.List.{[]}
use mathlib.Core.Path.{◌≡◌, refl, sym, ap, ◌∙◌}
use native.Mathlib.Omega.{arith}
use lib.ListN.{get_or}
use Rattle.calculus.specs.Trees.{Lang, ml, sc, HD, TL, FIX, NULL?, TEST, APP, ADD, SUB, CONS, Term, var, num, lam, op1, op2, if0, nil}
use Rattle.calculus.specs.Trees.{wrong, ms, sm}
use Rattle.calculus.specs.Words.{word, by, test_number, put, words}
use Rattle.calculus.specs.Scope.{Scoped}
use Rattle.calculus.specs.Rules.{◌⟶◌, by_rule}
use Rattle.calculus.specs.Classes.{Class, call, other, kind_class, word_class, node_class, turn_class, next_class, step_class}
use Rattle.calculus.proofs.Substitution.{fill_closed}
use Rattle.calculus.proofs.Contexts.{placed}
use Rattle.calculus.proofs.Contraction.{rule_iff}
use Rattle.calculus.proofs.Turns.{turn_filled}

-- A word is of its kind's class, whatever its operand.
by_kind : (k o : ℕ) → k < 256 → word_class (word k o) ≡ kind_class k
by_kind k o h = let m : word k o % 256 ≡ k = omega arith in rw m

-- One of two kinds, by the language: what holds of both.
by_language : (P : ℕ → Type 0) (l : Lang) (a b : ℕ) → P a → P b → P (by l a b)
by_language P ml a b p q = p
by_language P sc a b p q = q

abbrev Plain : Class → ℕ → Type 0
Plain x k = word_class k ≡ x

abbrev Ranged : ℕ → ℕ → Type 0
Ranged o k = word_class (word k o) ≡ other

-- The class of a node is that of its word.
pub word_class_lem : {l : Lang} (n : Term l) → word_class (get_or (words n) 0 0) ≡ node_class n
unfolding put
word_class_lem (var {l} i) = by_language (Ranged i) l 16 32 (by_kind 16 i (omega arith)) (by_kind 32 i (omega arith))
word_class_lem (num {l} n) = by_language (Ranged n) l 17 33 (by_kind 17 n (omega arith)) (by_kind 33 n (omega arith))
word_class_lem (lam {l} t b) = by_language (Plain other) l 18 34 refl refl
word_class_lem (op1 (HD {l}) a) = by_language (Plain other) l 26 41 refl refl
word_class_lem (op1 (TL {l}) a) = by_language (Plain other) l 27 42 refl refl
word_class_lem (op1 FIX a) = refl
word_class_lem (op1 NULL? a) = refl
word_class_lem (op1 (TEST k) a) = by_kind 43 (test_number k) (omega arith)
word_class_lem (op2 {l} APP a b) = by_language (Plain call) l 19 35 refl refl
word_class_lem (op2 {l} ADD a b) = by_language (Plain other) l 21 36 refl refl
word_class_lem (op2 {l} SUB a b) = by_language (Plain other) l 22 37 refl refl
word_class_lem (op2 {l} CONS a b) = by_language (Plain other) l 25 40 refl refl
word_class_lem (if0 {l} a b c) = by_language (Plain other) l 23 38 refl refl
word_class_lem (nil {l} t) = by_language (Plain other) l 24 39 refl refl
word_class_lem (wrong {l} c t) = by_language (Ranged c) l 29 44 (by_kind 29 c (omega arith)) (by_kind 44 c (omega arith))
word_class_lem (ms t a) = refl
word_class_lem (sm t a) = refl

-- A step's class, however the step is derived, is that of the node whose turn it is.
pub step_class_lem : {l : Lang} {e r : Term l} → Scoped [] e → (a : e ⟶ r) → step_class a ≡ next_class e
step_class_lem s (by_rule {e = n} {r = r} E h) =
    let p = placed E in
    let F = p.place in
    let ready = ((rule_iff n r (fill_closed F n (rw (p.fills n) s))).1 h).0 in
    sym (ap next_class (sym (p.fills n)) ∙ ap turn_class (turn_filled F n p.evaluated ready))
