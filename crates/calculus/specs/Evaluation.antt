-- The places of the computed reduction to which evaluation goes; proofs/Contexts.antt says that these are the published contexts.
use Rattle.std.specs.Prelude.{false, ◌≡◌}
use Rattle.calculus.specs.Trees.{Lang, ml, sc, Term, var, num, lam, op1, op2, if0, nil, wrong, ms, sm}
use Rattle.calculus.specs.Reduction.{is_lump, is_cons, Frame, under, first, second, tested, into_ml, into_scheme, Context, here, within}
use Rattle.calculus.specs.Rules.{Value}

-- What stands before the open part of a node of two parts is a value.
abbrev pub Taken : {m l : Lang} → Frame m l → Type 0
Taken (under o) = Unit {0}
Taken (first o b) = Unit {0}
Taken (second {l} o v) = Value l v
Taken (tested b c) = Unit {0}
Taken (into_ml t) = Unit {0}
Taken (into_scheme t) = Unit {0}

abbrev pub Evaluated : {m l : Lang} → Context m l → Type 0
Evaluated here = Unit {0}
Evaluated (within f F) = Taken f × Evaluated F

-- The node is no value, and the parts of it that evaluation takes are values: nothing stands before its own turn.
abbrev pub Ready : {l : Lang} → Term l → Type 0
Ready (var i) = Unit {0}
Ready (num n) = ⊥
Ready (lam t b) = ⊥
Ready (op1 {l} o a) = Value l a
Ready (op2 {l} o a b) = (is_cons o ≡ false) × Value l a × Value l b
Ready (if0 {l} a b c) = Value l a
Ready (nil t) = ⊥
Ready (wrong c t) = Unit {0}
Ready (ms t a) = (is_lump t ≡ false) × Value sc a
Ready (sm t a) = Value ml a
