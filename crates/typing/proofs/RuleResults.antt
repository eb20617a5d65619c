-- The ways out of the rules of the operators, of if0 and of sm. Assumes nothing.
use Prim.Native.Nat.{ℕ, ◌+◌, ◌<◌, ◌≤◌}
use mathlib.Core.Bool.{Bool, true, false, cond}
use mathlib.Core.List.{List}
use mathlib.Core.Option.{Option, none, some}
use mathlib.Core.Path.{◌≡◌, refl, sym, ap, ◌∙◌, subst}
use native.Mathlib.Omega.{arith}
use Rattle.std.proofs.Common.{Option as Found, Some, None}
use Rattle.std.specs.Option.{option_and, option_map}
use Rattle.calculus.specs.Trees.{Ty, N, list, Lang, ml, sc, Static, Op1, HD, TL, NULL?, ADD, SUB}
use Rattle.calculus.specs.Inference.{same_type, result1, sum_type}
use Rattle.calculus.proofs.Inference.{same_iff}
use Rattle.calculus.specs.Verdicts.{found}
use Rattle.nodes.specs.declared.kinds.Operator1.{Operator1}
use Rattle.nodes.specs.declared.kinds.Shape.TheVariants as s
use Rattle.types.specs.References.{shape_at, former_of, Written, Means}
use Rattle.types.specs.Comparisons.{Equality}
use Rattle.types.proofs.Pairs.{same_sym}
use Rattle.types.proofs.Meanings.{written_means}
use Rattle.typing.specs.Answers.{Answer, whole, bad, Answers, EndsAt, Advances, conclusion, other, boundary_type, Crossed}
use Rattle.typing.specs.Operators.{Finds, element_of, number_of, IfSame, Finds1, Finds2, Result3}
use Rattle.typing.proofs.Formers.{is_list_lem, no_list, is_number, other_type}
use Rattle.typing.proofs.Operations.{element_means, finds_if}

-- The operators of one part, by the element type.
module _ (w ls : List ℕ) (at t : ℕ) (found : Found ℕ) (he : found ≡ element_of w t) where
  module _ (z : found ≡ None) where
    pub tl_other : Finds1 TL w ls t None
    unfolding Finds
    tl_other s lo hi few m = rw (no_list w t found he z ls lo hi s m) refl

    pub null_other : Finds1 NULL? w ls t None
    unfolding Finds
    null_other s lo hi few m = rw (no_list w t found he z ls lo hi s m) refl

  module _ (e : ℕ) (list_type : found ≡ Some e) where
    -- By the element type y.
    by_element : (o : Op1 ml) (r : Found ℕ)
        → ((y : Ty) (lo hi : ℕ) → Means w ls lo hi t (list y) → e ≡ t + 1 → Finds w ls lo hi (result1 o (list y)) r)
        → Finds1 o w ls t r
    by_element o r f s lo hi few m =
        let i = is_list_lem w t found he e list_type ls lo hi s m in
        rw i.1 (f i.0 lo hi (rw i.1 at m) i.2)

    pub one_tl : Finds1 TL w ls t (Some t)
    unfolding Finds
    one_tl = by_element TL (Some t) (λ y lo hi my k. (t, refl, my))

    pub one_null : (o : Operator1) → shape_at w at ≡ Some (s.Operator1 o) → Finds1 NULL? w ls t (Some at)
    unfolding Finds Means
    one_null o h = by_element NULL? (Some at) (λ y lo hi my k. (at, refl, ap (option_map former_of) h))

  pub one_hd : Finds1 HD w ls t found
  unfolding Finds
  one_hd = by found refl
    where
      by : (o : Found ℕ) → found ≡ o → Finds1 HD w ls t o
      by None z = λ s lo hi few m. rw (no_list w t found he z ls lo hi s m) refl
      by (Some e) z = by_element e z HD (Some e) (λ y lo hi my k. (e, refl, rw k (element_means w ls lo hi t y my)))

-- add and subtract have one rule.
module _ (w ls : List ℕ) (t u : ℕ) where
  sum : (s v : Ty) (lo hi : ℕ) → Means w ls lo hi t s → Means w ls lo hi u v
      → Finds w ls lo hi (sum_type ml s v) (option_and (number_of w u) (number_of w t))
  unfolding Finds
  sum s v lo hi m mu = by (number_of w u) refl (number_of w t) refl
    where
      none_found : (b : Bool) → Finds w ls lo hi (cond b none none) None
      none_found true = refl
      none_found false = refl

      by : (g : Found ℕ) → g ≡ number_of w u → (h : Found ℕ) → h ≡ number_of w t → Finds w ls lo hi (sum_type ml s v) (option_and g h)
      by None eg h eh = rw (other_type w u None eg ls lo hi refl v mu) (none_found (same_type ml s N))
      by (Some p) eg None eh = rw (other_type w t None eh ls lo hi refl s m) refl
      by (Some p) eg (Some i) eh =
          let k = is_number w t (Some i) eh ls lo hi i refl in
          let e = k.1 s m in
          let q = (is_number w u (Some p) eg ls lo hi p refl).1 v mu in
          rw (e, q, (same_iff ml N N).1 refl) (i, refl, rw k.0 (rw e at m))

  pub added : (r : Found ℕ) → r ≡ option_and (number_of w u) (number_of w t) → Finds2 ADD w ls t u r
  added r e s v lo hi few m mu = rw e (sum s v lo hi m mu)

  pub subtracted : (r : Found ℕ) → r ≡ option_and (number_of w u) (number_of w t) → Finds2 SUB w ls t u r
  subtracted r e s v lo hi few m mu = rw e (sum s v lo hi m mu)

-- if0.
module _ (w ls : List ℕ) (t u v : ℕ) (f : Found ℕ) (ef : f ≡ number_of w t) where
  pub three_test : f ≡ None → Result3 w ls t u v None
  unfolding Finds
  three_test n a b c lo hi few ma mb mc = rw (other_type w t f ef ls lo hi n a ma) refl

  pub three_rule : (p : ℕ) → f ≡ Some p → (r : Found ℕ) → IfSame w ls u v u r → Result3 w ls t u v r
  three_rule p one r same a b c lo hi few ma mb mc =
      rw ((is_number w t f ef ls lo hi p one).1 a ma, (same_iff ml N N).1 refl)
      (finds_if w ls lo hi u r b (same_type ml b c) (same b c lo hi lo hi few mb mc) (λ y. mb))

-- A boundary whose term is bad.
pub crossed_bad : (l : Lang) (w ls : List ℕ) (at f : ℕ) → Crossed l w ls at (bad f) (bad f)
unfolding Answers
crossed_bad l w ls at f = record { advances = λ end h. tt; is = by }
  where
    by : (τ : Ty) (o : Option (Static (other l))) (lo hi fault next : ℕ) → Written w (at + 1) τ
        → Answers (other l) w ls lo hi fault next o (bad f)
        → Answers l w ls lo hi (found o fault (λ u. at)) next (found o none (λ u. boundary_type l τ u)) (bad f)
    by τ none lo hi fault next x a = cc
    by τ (some u) lo hi fault next x a = let c = a.1 in let z : ◌≡◌ {A = ℕ} 0 1 = cc in absurd (omega arith)

-- sm: the type of the ML term in it is the written one, or another.
module _ (w ls : List ℕ) (at : ℕ) where
  module _ (t next : ℕ) (s : Bool) (same : Equality w ls (at + 1) t s) where
    declared : (τ u : Ty) (lo hi : ℕ) → Written w (at + 1) τ → Means w ls lo hi t u → s ≡ same_type ml u τ
    declared τ u lo hi x m = same τ u 0 0 lo hi (omega arith) (written_means w ls 0 0 (at + 1) τ (omega arith) x) m ∙ same_sym τ u

    sm_told : (r : Answer sc) → ((end : ℕ) → (at < next) × (next ≤ end) → Advances at end r)
        → ((lo hi n : ℕ) → n ≡ next → Answers sc w ls lo hi at n (cond s (some tt) none) r) → Crossed sc w ls at (whole t next) r
    unfolding Answers
    sm_told r g f = record { advances = g; is = by }
      where
        by : (τ : Ty) (o : Option Ty) (lo hi fault n : ℕ) → Written w (at + 1) τ → Answers ml w ls lo hi fault n o (whole t next)
            → Answers sc w ls lo hi (found o fault (λ u. at)) n (found o none (λ u. boundary_type sc τ u)) r
        by τ none lo hi fault n x a = let z : ◌≡◌ {A = ℕ} 0 1 = cc in absurd (omega arith)
        by τ (some u) lo hi fault n x a =
            let c = a.1 in
            let p : a.0 ≡ t = cc in
            let q : n ≡ next = cc in
            let m : Means w ls lo hi t u = subst (λ (i : ℕ). Means w ls lo hi i u) p a.2 in
            subst (λ (b : Bool). Answers sc w ls lo hi at n (cond b (some tt) none) r) (declared τ u lo hi x m) (f lo hi n q)

    pub sm_same : s ≡ true → Crossed sc w ls at (whole t next) (whole tt next)
    unfolding Answers
    sm_same y = sm_told (whole tt next) (λ end h. h) (λ lo hi n q. rw y (tt, ap (whole tt) (sym q), tt))

    pub sm_differ : s ≡ false → Crossed sc w ls at (whole t next) (bad at)
    unfolding Answers
    sm_differ y = sm_told (bad at) (λ end h. tt) (λ lo hi n q. rw y refl)

-- ms: the type is written behind it.
pub ms_whole : (w ls : List ℕ) (at n : ℕ) → Crossed ml w ls at (whole tt n) (whole (at + 1) n)
unfolding Answers
ms_whole w ls at n = record { advances = λ end h. h; is = by }
  where
    by : (τ : Ty) (o : Option Unit) (lo hi fault next : ℕ) → Written w (at + 1) τ → Answers sc w ls lo hi fault next o (whole tt n)
        → Answers ml w ls lo hi (found o fault (λ u. at)) next (found o none (λ u. boundary_type ml τ u)) (whole (at + 1) n)
    by τ none lo hi fault next x a = let z : ◌≡◌ {A = ℕ} 0 1 = cc in absurd (omega arith)
    by τ (some u) lo hi fault next x a =
        let c = a.1 in
        let q : n ≡ next = cc in (at + 1, ap (whole (at + 1)) q, written_means w ls lo hi (at + 1) τ (omega arith) x)

-- The answer for a node by the reference to its type.
pub answered : (w ls : List ℕ) (lo hi at : ℕ) (r : Found ℕ) (next : ℕ) (o : Option Ty) → Finds w ls lo hi o r
    → Answers ml w ls lo hi at next o (conclusion at r next)
unfolding Finds Answers
answered w ls lo hi at r next none f = rw f refl
answered w ls lo hi at r next (some s) f = rw f.1 (f.0, refl, f.2)

pub passed : (at : ℕ) (r : Found ℕ) (next : ℕ) → EndsAt next (conclusion at r next)
passed at None next = tt
passed at (Some t) next = refl
