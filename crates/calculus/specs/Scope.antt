-- Document 01, "A variable's operand .. counts the lambda words between it and its own lambda, those of both languages. Its own lambda
-- must be of its own language."
use Rattle.std.specs.Prelude.{ℕ, zero, suc, ◌/◌, ◌%◌, Bool, true, false, cond, not, List, [], ◌∷◌, T, eqb, length, replicate}
use Rattle.calculus.specs.Trees.{Lang, ml, sc, Term, var, num, lam, op1, op2, if0, nil, wrong, ms, sm}
use Rattle.calculus.specs.Kinds.{row_in, table, sort_of}
use Rattle.calculus.specs.Verdicts.{found}
use Rattle.calculus.specs.Reading.{Act, opens, refuses}

abbrev pub same_lang : Lang → Lang → Bool
same_lang ml ml = true
same_lang ml sc = false
same_lang sc ml = false
same_lang sc sc = true

-- The languages of the lambdas around a place, innermost first: the one with i between is there and of the language l.
abbrev pub lambda_at : List Lang → ℕ → Lang → Bool
lambda_at [] i l = false
lambda_at (m ∷ Γ) zero l = same_lang m l
lambda_at (m ∷ Γ) (suc i) l = lambda_at Γ i l

-- Of trees: each variable in a term has its own lambda.
abbrev pub Scoped : {l : Lang} → List Lang → Term l → Type 0
Scoped Γ (var {l} i) = T (lambda_at Γ i l)
Scoped Γ (num n) = Unit {0}
Scoped Γ (lam {l} t b) = Scoped (l ∷ Γ) b
Scoped Γ (op1 o a) = Scoped Γ a
Scoped Γ (op2 o a b) = Scoped Γ a × Scoped Γ b
Scoped Γ (if0 a b c) = Scoped Γ a × Scoped Γ b × Scoped Γ c
Scoped Γ (nil t) = Unit {0}
Scoped Γ (wrong c t) = Unit {0}
Scoped Γ (ms t a) = Scoped Γ a
Scoped Γ (sm t a) = Scoped Γ a

-- Of words: a variable, of ML or of Scheme, that has no lambda of its language there.
abbrev pub is_free : List Lang → ℕ → Bool
is_free Γ w = cond (eqb (w % 256) 16) (not (lambda_at Γ (w / 256) ml)) (cond (eqb (w % 256) 32) (not (lambda_at Γ (w / 256) sc)) false)

-- The lambdas around a word's parts.
abbrev pub inside : List Lang → ℕ → List Lang
inside Γ w = cond (eqb (w % 256) 18) (ml ∷ Γ) (cond (eqb (w % 256) 34) (sc ∷ Γ) Γ)

abbrev pub part_count : ℕ → ℕ
part_count w = found (row_in (table (sort_of w)) (w % 256)) 0 (λ r. length r.parts)

-- "5 | a variable without a lambda of its language there".
abbrev pub scope_due : List Lang → ℕ → Act (List Lang)
scope_due Γ w = cond (is_free Γ w) (refuses 5) (opens (replicate (part_count w) (inside Γ w)))
