-- The ways out of the rules of fix, application and cons. Assumes nothing.
use Prim.Native.Nat.{ℕ, ◌+◌}
use mathlib.Core.Bool.{Bool, true, false, cond}
use mathlib.Core.List.{List}
use mathlib.Core.Option.{none, some, none-ne-some}
use mathlib.Core.Path.{◌≡◌, refl, sym, ◌∙◌, subst}
use native.Mathlib.Omega.{arith}
use Rattle.std.proofs.Common.{Option as Found, Some, None}
use Rattle.calculus.specs.Trees.{Ty, N, L, list, ◌to◌, ml, FIX, APP, CONS}
use Rattle.calculus.specs.Inference.{same_type, element as elementType, result2}
use Rattle.calculus.proofs.Inference.{same_iff}
use Rattle.types.specs.References.{Means, codomain}
use Rattle.types.proofs.Pairs.{some_is, none_some, same_lists, not_same}
use Rattle.types.proofs.Meanings.{written_means, argument_written, element_written}
use Rattle.types.proofs.Frames.{means_codomain}
use Rattle.typing.specs.Operators.{Finds, argument_end, ArgumentEnd, element_of, IfSame, Finds1, Finds2}
use Rattle.typing.proofs.Formers.{is_list_lem, no_list}

-- The argument type and the element type, as references.
pub argument_means : (w ls : List ℕ) (lo hi t : ℕ) (x y : Ty) → Means w ls lo hi t (x to y) → Means w ls lo hi (t + 1) x
argument_means w ls lo hi t x y m = written_means w ls lo hi (t + 1) x (omega arith) (argument_written w ls lo hi t x y m)

pub element_means : (w ls : List ℕ) (lo hi t : ℕ) (x : Ty) → Means w ls lo hi t (list x) → Means w ls lo hi (t + 1) x
element_means w ls lo hi t x m = written_means w ls lo hi (t + 1) x (omega arith) (element_written w ls lo hi t x m)

-- What `if_same` answers, where the type is the one that p means.
pub finds_if : (w ls : List ℕ) (lo hi p : ℕ) (r : Found ℕ) (s : Ty) (b : Bool) → r ≡ cond b (Some p) None → (b ≡ true → Means w ls lo hi p s)
    → Finds w ls lo hi (cond b (some s) none) r
unfolding Finds
finds_if w ls lo hi p r s true q f = (p, q, f refl)
finds_if w ls lo hi p r s false q f = q

-- fix and application: the argument type of the function type at t ends before `end`.
module _ (w ls : List ℕ) (t : ℕ) (found : Found ℕ) (a : ArgumentEnd w t found) where
  no_arrow : found ≡ None → (s v : Ty) (lo hi : ℕ) → Means w ls lo hi t (s to v) → ⊥
  no_arrow z s v lo hi m = none_some (sym z ∙ a.is (s to v) ls lo hi m)

  pub fix_other : found ≡ None → Finds1 FIX w ls t None
  unfolding Finds
  fix_other z N lo hi few m = refl
  fix_other z (L o) lo hi few m = refl
  fix_other z (list s) lo hi few m = refl
  fix_other z (s to v) lo hi few m = absurd (no_arrow z s v lo hi m)

  pub apply_other : (u : ℕ) → found ≡ None → Finds2 APP w ls t u None
  unfolding Finds
  apply_other u z N v lo hi few m mu = refl
  apply_other u z (L o) v lo hi few m mu = refl
  apply_other u z (list s) v lo hi few m mu = refl
  apply_other u z (s to x) v lo hi few m mu = absurd (no_arrow z s x lo hi m)

  module _ (end : ℕ) (is_end : found ≡ Some end) (c : ℕ) (ec : c ≡ codomain w ls t end) (r : Found ℕ) where
    arrow : (s : Ty) (lo hi : ℕ) → Means w ls lo hi t s → Some end ≡ argument_end t s
    arrow s lo hi m = sym is_end ∙ a.is s ls lo hi m

    result_means : (s v : Ty) (lo hi : ℕ) → Means w ls lo hi t (s to v) → Means w ls lo hi c v
    result_means s v lo hi m = rw ec (means_codomain w ls lo hi t end s v m (some_is (arrow (s to v) lo hi m)))

    pub fix_rule : IfSame w ls (t + 1) c (t + 1) r → Finds1 FIX w ls t r
    fix_rule same N lo hi few m = absurd (none_some (sym (arrow N lo hi m)))
    fix_rule same (L o) lo hi few m = absurd (none_some (sym (arrow (L o) lo hi m)))
    fix_rule same (list s) lo hi few m = absurd (none_some (sym (arrow (list s) lo hi m)))
    fix_rule same (s to v) lo hi few m =
        let x = argument_means w ls lo hi t s v m in
        finds_if w ls lo hi (t + 1) r s (same_type ml s v) (same s v lo hi lo hi few x (result_means s v lo hi m)) (λ y. x)

    pub apply_rule : (u : ℕ) → IfSame w ls (t + 1) u c r → Finds2 APP w ls t u r
    apply_rule u same N v lo hi few m mu = absurd (none_some (sym (arrow N lo hi m)))
    apply_rule u same (L o) v lo hi few m mu = absurd (none_some (sym (arrow (L o) lo hi m)))
    apply_rule u same (list s) v lo hi few m mu = absurd (none_some (sym (arrow (list s) lo hi m)))
    apply_rule u same (s to x) v lo hi few m mu =
        finds_if w ls lo hi c r x (same_type ml s v) (same s v lo hi lo hi few (argument_means w ls lo hi t s x m) mu)
        (λ y. result_means s x lo hi m)

-- cons: u is the second type, and e the place of its element type.
module _ (w ls : List ℕ) (t u : ℕ) (found : Found ℕ) (he : found ≡ element_of w u) where
  pub cons_other : found ≡ None → Finds2 CONS w ls t u None
  unfolding Finds
  cons_other z s v lo hi few m mu = not_list s v (no_list w u found he z ls lo hi v mu)
    where
      not_list : (s v : Ty) → elementType ml v ≡ none → Finds w ls lo hi (result2 ml CONS s v) None
      not_list s N q = rw (not_same N (list s) (λ e. omega (arith, e))) refl
      not_list s (L o) q = rw (not_same (L o) (list s) (λ e. omega (arith, e))) refl
      not_list s (list v) q = absurd (none-ne-some v (sym q))
      not_list s (u to v) q = rw (not_same (u to v) (list s) (λ e. omega (arith, e))) refl

  pub cons_rule : (e : ℕ) → found ≡ Some e → (r : Found ℕ) → IfSame w ls e t u r → Finds2 CONS w ls t u r
  cons_rule e n r same s v lo hi few m mu =
      let i = is_list_lem w u found he e n ls lo hi v mu in
      let x = i.0 in
      let mx : Means w ls lo hi u (list x) = rw i.1 at mu in
      let me : Means w ls lo hi e x = subst (λ (j : ℕ). Means w ls lo hi j x) (sym i.2) (element_means w ls lo hi u x mx) in
      rw (i.1, same_lists x s)
      (finds_if w ls lo hi u r (list s) (same_type ml x s) (same x s lo hi lo hi few me m)
      (λ y. subst (λ (a : Ty). Means w ls lo hi u (list a)) ((same_iff ml x s).0 y) mx))
