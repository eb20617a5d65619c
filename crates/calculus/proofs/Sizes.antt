-- The words of a tree and then k are its own words, as many as its size, and then k. Assumes nothing.
use Prim.Native.Nat.{ℕ, ◌+◌}
use mathlib.Core.List.{List, [], ◌∷◌, ◌++◌}
use mathlib.Core.Path.{◌≡◌, refl, sym, ap, ◌∙◌}
use lib.ListN.{length, take, drop}
use lib.Seq.{take_at, drop_at, drop-drop}
use native.Mathlib.Nat.{add-zero}
use native.Mathlib.Omega.{arith}
use Rattle.calculus.specs.Trees.{Ty, N, L, list, ◌to◌, Lang, ml, sc, Static, Term, var, num, lam, op1, op2, if0, nil, wrong, ms, sm}
use Rattle.calculus.specs.Words.{put, put_ty, put_static, size, size_ty, size_static}
use Rattle.calculus.specs.Kinds.{Sort, type, term, Tree, Trees, put_tree, put_trees, size_tree, size_trees}

-- What follows a tree's words may be cut anywhere.
pub put_ty_append : (t : Ty) (j k : List ℕ) → put_ty t (j ++ k) ≡ put_ty t j ++ k
unfolding put_ty
put_ty_append N j k = refl
put_ty_append (L o) j k = refl
put_ty_append (list t) j k = rw (put_ty_append t j k)
put_ty_append (t to u) j k = rw (put_ty_append u j k, put_ty_append t (put_ty u j) k)

static_append : (l : Lang) (t : Static l) (j k : List ℕ) → put_static l t (j ++ k) ≡ put_static l t j ++ k
static_append ml t j k = put_ty_append t j k
static_append sc t j k = refl

pub put_append : {l : Lang} (e : Term l) (j k : List ℕ) → put e (j ++ k) ≡ put e j ++ k
unfolding put
put_append (var i) j k = refl
put_append (num n) j k = refl
put_append (lam {l} t b) j k = rw (put_append b j k, static_append l t (put b j) k)
put_append (op1 o a) j k = rw (put_append a j k)
put_append (op2 o a b) j k = rw (put_append b j k, put_append a (put b j) k)
put_append (if0 a b c) j k = rw (put_append c j k, put_append b (put c j) k, put_append a (put b (put c j)) k)
put_append (nil {l} t) j k = rw (static_append l t j k)
put_append (wrong {l} c t) j k = rw (static_append l t j k)
put_append (ms t a) j k = rw (put_append a j k, put_ty_append t (put a j) k)
put_append (sm t a) j k = rw (put_append a j k, put_ty_append t (put a j) k)

-- The size is the number of words.
length_put_ty : (t : Ty) (k : List ℕ) → length (put_ty t k) ≡ size_ty t + length k
unfolding put_ty size_ty
length_put_ty N k = omega arith
length_put_ty (L o) k = omega arith
length_put_ty (list t) k = omega (arith, length_put_ty t k)
length_put_ty (t to u) k = omega (arith, length_put_ty t (put_ty u k), length_put_ty u k)

length_static : (l : Lang) (t : Static l) (k : List ℕ) → length (put_static l t k) ≡ size_static l t + length k
length_static ml t k = length_put_ty t k
length_static sc t k = omega arith

length_put : {l : Lang} (e : Term l) (k : List ℕ) → length (put e k) ≡ size e + length k
unfolding put size
length_put (var i) k = omega arith
length_put (num n) k = omega arith
length_put (lam {l} t b) k = omega (arith, length_static l t (put b k), length_put b k)
length_put (op1 o a) k = omega (arith, length_put a k)
length_put (op2 o a b) k = omega (arith, length_put a (put b k), length_put b k)
length_put (if0 a b c) k = omega (arith, length_put a (put b (put c k)), length_put b (put c k), length_put c k)
length_put (nil {l} t) k = omega (arith, length_static l t k)
length_put (wrong {l} c t) k = omega (arith, length_static l t k)
length_put (ms t a) k = omega (arith, length_put_ty t (put a k), length_put a k)
length_put (sm t a) k = omega (arith, length_put_ty t (put a k), length_put a k)

-- The same of a tree of any sort, and of trees in a row.
pub tree_append : (s : Sort) (t : Tree s) (j k : List ℕ) → put_tree s t (j ++ k) ≡ put_tree s t j ++ k
tree_append type t j k = put_ty_append t j k
tree_append (term l) e j k = put_append e j k

pub tree_length : (s : Sort) (t : Tree s) (k : List ℕ) → length (put_tree s t k) ≡ size_tree s t + length k
tree_length type t k = length_put_ty t k
tree_length (term l) e k = length_put e k

pub trees_length : (ss : List Sort) (ts : Trees ss) (k : List ℕ) → length (put_trees ss ts k) ≡ size_trees ss ts + length k
trees_length [] ts k = omega arith
trees_length (s ∷ ss) ts k = omega (arith, tree_length s ts.0 (put_trees ss ts.1 k), trees_length ss ts.1 k)

-- A tree's own words, and what stands behind them.
pub take_tree : (s : Sort) (t : Tree s) (k : List ℕ) → take (size_tree s t) (put_tree s t k) ≡ put_tree s t []
take_tree s t k =
    ap (take (size_tree s t)) (tree_append s t [] k) ∙ take_at (put_tree s t []) k (size_tree s t) (omega (arith, tree_length s t []))

pub drop_tree : (s : Sort) (t : Tree s) (k : List ℕ) → drop (size_tree s t) (put_tree s t k) ≡ k
drop_tree s t k =
    ap (drop (size_tree s t)) (tree_append s t [] k) ∙ drop_at (put_tree s t []) k (size_tree s t) (omega (arith, tree_length s t []))

-- Past a word, and past a tree, that stands at a place.
pub past_word : (p w : ℕ) (ws k : List ℕ) → drop p ws ≡ w ∷ k → drop (p + 1) ws ≡ k
past_word p w ws k q = sym (drop-drop 1 p ws) ∙ ap (drop 1) q

pub past_tree : (s : Sort) (t : Tree s) (p : ℕ) (ws k : List ℕ) → drop p ws ≡ put_tree s t k → drop (p + size_tree s t) ws ≡ k
past_tree s t p ws k q = sym (drop-drop (size_tree s t) p ws) ∙ ap (drop (size_tree s t)) q ∙ drop_tree s t k

pub past_static : (l : Lang) (t : Static l) (p : ℕ) (ws k : List ℕ) → drop p ws ≡ put_static l t k → drop (p + size_static l t) ws ≡ k
past_static ml t p ws k q = past_tree type t p ws k q
past_static sc t p ws k q = rw add-zero q
