-- Operand ranges and nesting, of trees.
use Rattle.std.specs.Prelude.{ℕ, suc, max, ◌≤◌}
use Rattle.calculus.specs.Trees.{Ty, N, L, list, ◌to◌, Lang, ml, sc, Static, Term, var, num, lam, op1, op2, if0, nil, wrong, ms, sm}
use Rattle.calculus.specs.Words.{largest, last_code, last_owner}

-- Document 02, "The operand of L becomes an owner, 0 to 255."
unfoldable pub InRangeTy : Ty → Type 0
InRangeTy N = Unit {0}
InRangeTy (L o) = o ≤ last_owner
InRangeTy (list t) = InRangeTy t
InRangeTy (t to u) = InRangeTy t × InRangeTy u

abbrev pub InRangeStatic : (l : Lang) → Static l → Type 0
InRangeStatic ml t = InRangeTy t
InRangeStatic sc t = Unit {0}

-- Document 01, "Numbers: 0 to 16,777,215. Codes: 1 to 65,535. A variable's operand, 0 to 16,777,215"; and the owners in every type that is written.
unfoldable pub InRange : {l : Lang} → Term l → Type 0
InRange (var i) = i ≤ largest
InRange (num n) = n ≤ largest
InRange (lam {l} t b) = InRangeStatic l t × InRange b
InRange (op1 o a) = InRange a
InRange (op2 o a b) = InRange a × InRange b
InRange (if0 a b c) = InRange a × InRange b × InRange c
InRange (nil {l} t) = InRangeStatic l t
InRange (wrong {l} c t) = (1 ≤ c) × (c ≤ last_code) × InRangeStatic l t
InRange (ms t a) = InRangeTy t × InRange a
InRange (sm t a) = InRangeTy t × InRange a

-- Document 01, "Nesting .. a root being at 1 and a part one deeper".
unfoldable pub nesting_ty : Ty → ℕ
nesting_ty N = 1
nesting_ty (L o) = 1
nesting_ty (list t) = suc (nesting_ty t)
nesting_ty (t to u) = suc (max (nesting_ty t) (nesting_ty u))

abbrev pub nesting_static : (l : Lang) → Static l → ℕ
nesting_static ml t = nesting_ty t
nesting_static sc t = 0

unfoldable pub nesting : {l : Lang} → Term l → ℕ
nesting (var i) = 1
nesting (num n) = 1
nesting (lam {l} t b) = suc (max (nesting_static l t) (nesting b))
nesting (op1 o a) = suc (nesting a)
nesting (op2 o a b) = suc (max (nesting a) (nesting b))
nesting (if0 a b c) = suc (max (nesting a) (max (nesting b) (nesting c)))
nesting (nil {l} t) = suc (nesting_static l t)
nesting (wrong {l} c t) = suc (nesting_static l t)
nesting (ms t a) = suc (max (nesting_ty t) (nesting a))
nesting (sm t a) = suc (max (nesting_ty t) (nesting a))
