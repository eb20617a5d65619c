-- A step in words: the words before and after the place of the turn stay, and those of the node there become others. Assumes nothing.
use Prim.Native.Nat.{ℕ}
use mathlib.Core.List.{List, [], ◌++◌, append_assoc, append-nil}
use mathlib.Core.Path.{◌≡◌, refl, sym, ap, ◌∙◌, subst}
use Rattle.calculus.specs.Trees.{Lang, Term}
use Rattle.calculus.specs.Words.{put, words}
use Rattle.calculus.specs.Reduction.{Became, becomes, raises, nothing, contract, Frame, under, first, second, tested, into_ml, into_scheme, plug}
use Rattle.calculus.specs.Reduction.{Context, here, within, fill, at, turn, Outcome, value, raised, next, stuck, outcome, step}
use Rattle.calculus.specs.Splices.{words_before_open, words_after_open, words_before, words_after, Splice}
use Rattle.calculus.proofs.Sizes.{put_ty_append, put_append}
use Rattle.calculus.proofs.Turns.{step_by}

put_plug : {m l : Lang} (f : Frame m l) (x : Term m) (k : List ℕ) → put (plug f x) k ≡ words_before_open f ++ put x (words_after_open f ++ k)
unfolding put
put_plug (under o) x k = refl
put_plug (first o b) x k = rw (put_append b [] k)
put_plug (second o a) x k = rw (put_append a [] (put x k))
put_plug (tested b c) x k = rw (put_append c [] k, put_append b (words c) k)
put_plug (into_ml t) x k = rw (put_ty_append t [] (put x k))
put_plug (into_scheme t) x k = rw (put_ty_append t [] (put x k))

-- The words of a term with x at a place: those before, those of x, those after.
pub put_fill : {m l : Lang} (F : Context m l) (x : Term m) (k : List ℕ) → put (fill F x) k ≡ words_before F ++ put x (words_after F ++ k)
unfolding fill words_before words_after
put_fill here x k = refl
put_fill (within f F) x k = put_plug f (fill F x) k ∙ rw (put_fill F x (words_after_open f ++ k), append_assoc, append_assoc)

pub words_fill : {m l : Lang} (F : Context m l) (x : Term m) → words (fill F x) ≡ words_before F ++ (words x ++ words_after F)
words_fill F x = put_fill F x [] ∙ rw (append-nil, put_append x [] (words_after F))

abbrev Spliced : {l : Lang} → Term l → Outcome l → Type 0
Spliced e value = Unit {0}
Spliced e (raised c) = Unit {0}
Spliced e (next r) = Splice e r
Spliced e stuck = Unit {0}

outcome_spliced : {m l : Lang} (e : Term l) (F : Context m l) (n : Term m) → turn e ≡ at m F n → fill F n ≡ e
    → (b : Became m) → contract n ≡ b → Spliced e (outcome F b)
outcome_spliced e F n q s (becomes x) c =
    let was = ap words (sym s) ∙ words_fill F n in
    record { lang = _; place = F; node = n; became = x; turns = q; contracts = c; was = was; is = words_fill F x }
outcome_spliced e F n q s (raises c) d = tt
outcome_spliced e F n q s nothing d = tt

-- Every step is such a one.
pub step_splice : {l : Lang} (e r : Term l) → step e ≡ next r → Splice e r
step_splice e r q = subst (Spliced e) q (step_by (Spliced e) e tt (λ m F n t s. outcome_spliced e F n t s (contract n) refl))
