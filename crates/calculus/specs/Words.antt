-- Document 01, "Words and file": the words of a tree, in prefix order.
use Rattle.std.specs.Prelude.{ℕ, suc, ◌+◌, ◌*◌, List, [], ◌∷◌}
use Rattle.calculus.specs.Trees.{Ty, N, L, list, ◌to◌, Lang, ml, sc, Static, Test, is_fun, is_list, is_null, is_num, Op1, HD, TL, FIX, NULL?, TEST}
use Rattle.calculus.specs.Trees.{Op2, APP, ADD, SUB, CONS, Term, var, num, lam, op1, op2, if0, nil, wrong, ms, sm}

-- "A word is 32 bits: kind + 256 × operand".
abbrev pub word : ℕ → ℕ → ℕ
word kind operand = kind + 256 * operand

-- "Numbers: 0 to 16,777,215", and a variable's operand likewise; "Codes: 1 to 65,535".
abbrev pub largest : ℕ
largest = 16777215

abbrev pub last_code : ℕ
last_code = 65535

-- Document 02, "The operand of L becomes an owner, 0 to 255."
abbrev pub last_owner : ℕ
last_owner = 255

-- One of two kinds, by the language: ML's, or Scheme's.
abbrev pub by : Lang → ℕ → ℕ → ℕ
by ml a b = a
by sc a b = b

abbrev pub test_number : Test → ℕ
test_number is_fun = 0
test_number is_list = 1
test_number is_null = 2
test_number is_num = 3

-- The word of an operator.
abbrev pub word1 : {l : Lang} → Op1 l → ℕ
word1 (HD {l}) = by l 26 41
word1 (TL {l}) = by l 27 42
word1 FIX = 20
word1 NULL? = 28
word1 (TEST k) = word 43 (test_number k)

abbrev pub word2 : Lang → Op2 → ℕ
word2 l APP = by l 19 35
word2 l ADD = by l 21 36
word2 l SUB = by l 22 37
word2 l CONS = by l 25 40

-- "A node is a word followed by its parts in order (prefix order)": the words of a type, and then k.
unfoldable pub put_ty : Ty → List ℕ → List ℕ
put_ty N k = 1 ∷ k
put_ty (L o) k = word 2 o ∷ k
put_ty (list t) k = 3 ∷ put_ty t k
put_ty (t to u) k = 4 ∷ put_ty t (put_ty u k)

abbrev pub put_static : (l : Lang) → Static l → List ℕ → List ℕ
put_static ml t k = put_ty t k
put_static sc t k = k

-- The words of a term, and then k.
unfoldable pub put : {l : Lang} → Term l → List ℕ → List ℕ
put (var {l} i) k = word (by l 16 32) i ∷ k
put (num {l} n) k = word (by l 17 33) n ∷ k
put (lam {l} t b) k = by l 18 34 ∷ put_static l t (put b k)
put (op1 o a) k = word1 o ∷ put a k
put (op2 {l} o a b) k = word2 l o ∷ put a (put b k)
put (if0 {l} a b c) k = by l 23 38 ∷ put a (put b (put c k))
put (nil {l} t) k = by l 24 39 ∷ put_static l t k
put (wrong {l} c t) k = word (by l 29 44) c ∷ put_static l t k
put (ms t a) k = 30 ∷ put_ty t (put a k)
put (sm t a) k = 45 ∷ put_ty t (put a k)

abbrev pub words_ty : Ty → List ℕ
words_ty t = put_ty t []

abbrev pub words : {l : Lang} → Term l → List ℕ
words e = put e []

-- How many words a type and a term have.
unfoldable pub size_ty : Ty → ℕ
size_ty N = 1
size_ty (L o) = 1
size_ty (list t) = suc (size_ty t)
size_ty (t to u) = suc (size_ty t + size_ty u)

abbrev pub size_static : (l : Lang) → Static l → ℕ
size_static ml t = size_ty t
size_static sc t = 0

unfoldable pub size : {l : Lang} → Term l → ℕ
size (var i) = 1
size (num n) = 1
size (lam {l} t b) = suc (size_static l t + size b)
size (op1 o a) = suc (size a)
size (op2 o a b) = suc (size a + size b)
size (if0 a b c) = suc (size a + size b + size c)
size (nil {l} t) = suc (size_static l t)
size (wrong {l} c t) = suc (size_static l t)
size (ms t a) = suc (size_ty t + size a)
size (sm t a) = suc (size_ty t + size a)
