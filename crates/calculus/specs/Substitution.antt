-- The ordinary substitution of variables that count lambdas, which moves variables on both sides: the published rules are by it. The computed
-- reduction needs none of it, because it puts closed terms in closed terms: proofs/Substitution.antt says that there `substitute` is this one.
use Rattle.std.specs.Prelude.{ℕ, suc, ◌+◌, ◌-◌, cond, eqb, leb}
use Rattle.calculus.specs.Trees.{Lang, ml, sc, Term, var, num, lam, op1, op2, if0, nil, wrong, ms, sm}

-- The term with d more lambdas around it, outside its k innermost.
unfoldable pub shift : {l : Lang} → ℕ → ℕ → Term l → Term l
shift d k (var i) = cond (leb k i) (var (i + d)) (var i)
shift d k (num n) = num n
shift d k (lam t b) = lam t (shift d (suc k) b)
shift d k (op1 o a) = op1 o (shift d k a)
shift d k (op2 o a b) = op2 o (shift d k a) (shift d k b)
shift d k (if0 a b c) = if0 (shift d k a) (shift d k b) (shift d k c)
shift d k (nil t) = nil t
shift d k (wrong c t) = wrong c t
shift d k (ms t a) = ms t (shift d k a)
shift d k (sm t a) = sm t (shift d k a)

-- "Its own lambda must be of its own language": u stands for a variable of u's language alone, and any other, e, stays.
abbrev pub for_own : (m l : Lang) → Term m → Term l → Term l
for_own ml ml u e = u
for_own ml sc u e = e
for_own sc ml u e = e
for_own sc sc u e = u

-- u for the variable with k lambdas between: under them u is shifted, and a variable further out loses the lambda that is gone.
unfoldable pub ordinary : {m : Lang} → Term m → {l : Lang} → ℕ → Term l → Term l
ordinary {m} u k (var {l} i) = cond (eqb i k) (for_own m l (shift k 0 u) (var i)) (cond (leb i k) (var i) (var (i - 1)))
ordinary u k (num n) = num n
ordinary u k (lam t b) = lam t (ordinary u (suc k) b)
ordinary u k (op1 o a) = op1 o (ordinary u k a)
ordinary u k (op2 o a b) = op2 o (ordinary u k a) (ordinary u k b)
ordinary u k (if0 a b c) = if0 (ordinary u k a) (ordinary u k b) (ordinary u k c)
ordinary u k (nil t) = nil t
ordinary u k (wrong c t) = wrong c t
ordinary u k (ms t a) = ms t (ordinary u k a)
ordinary u k (sm t a) = sm t (ordinary u k a)
