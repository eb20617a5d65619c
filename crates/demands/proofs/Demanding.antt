-- What the operations promise meets the demands. Assumes nothing.
use Prim.Native.Nat.{ℕ}
use mathlib.Core.Bool.{cond}
use mathlib.Core.List.{List}
use mathlib.Core.Logic.Iff
use mathlib.Core.Logic.{◌↔◌}
use mathlib.Core.Path.{◌≡◌, refl, sym, ap, ◌∙◌, subst}
use lib.Dec.{eqb}
use Rattle.calculus.specs.Verdicts.{Verdict, refused, passed}
use Rattle.calculus.specs.File.{check}
use Rattle.calculus.specs.File as calculus
use Rattle.calculus.proofs.Verdicts.{not_both}
use Rattle.calculus.proofs.Checks.{check_iff, accepted_once}
use Rattle.calculus.proofs.Mismatches.{points}
use Rattle.calculus.proofs.Refusing.{Numbered, number_in_table}
use Rattle.calculus.proofs.Demands.{typed_safe, from_every_term}
use Rattle.nodes.specs.declared.refusals.Refusal.{Refusal}
use Rattle.nodes.specs.declared.refusals.Refusal.TheVariants as r
use Rattle.nodes.specs.Refusals.{number_of, place_of, refusal}
use Rattle.std.specs.Prelude.{Result, Ok, Err}
use Rattle.checker.specs.Checks.{checked, accepting}
use Rattle.demands.specs.Demanded.{RecipeOf, Checks, Twice}
use Rattle.engine.specs.Lent.{Lent, Returned}
use Rattle.demands.proofs.Running.{Promised, once, grow}
use Rattle.demands.proofs.Leaving.{leaves}

-- A refusal is its number and place.
abbrev pub numbered : ℕ → ℕ → Refusal
numbered n p =
    cond (eqb n 1) r.Bytes (cond (eqb n 2) r.Header (cond (eqb n 3) (r.Word p) (cond (eqb n 4) (r.Nesting p)
    (cond (eqb n 5) (r.Variable p) (cond (eqb n 6) (r.Untyped p) (cond (eqb n 7) (r.Mistyped p) r.Capacity))))))

pub numbered_is : (x : Refusal) → numbered (number_of x) (place_of x) ≡ x
numbered_is r.Bytes = refl
numbered_is r.Header = refl
numbered_is (r.Word p) = refl
numbered_is (r.Nesting p) = refl
numbered_is (r.Variable p) = refl
numbered_is (r.Untyped p) = refl
numbered_is (r.Mistyped p) = refl
numbered_is r.Capacity = refl

-- What a verdict refuses with, if it refuses.
abbrev spoken_of : {A : Type 0} → Verdict A → Refusal → Refusal
spoken_of (refused n p) x = numbered n p
spoken_of (passed a) x = x

refusal_injective : {A : Type 0} (x y : Refusal) → ◌≡◌ {A = Verdict A} (refusal x) (refusal y) → x ≡ y
refusal_injective x y q = sym (numbered_is x) ∙ ap (λ (v : Verdict _). spoken_of v x) q ∙ numbered_is y

module _ (bytes : List ℕ) where
  accepted_recipe : (v : Verdict calculus.Recipe) → check bytes ≡ v → passed tt ≡ accepting v → RecipeOf bytes
  accepted_recipe (refused n p) q h = absurd (not_both n p tt (sym h))
  accepted_recipe (passed x) q h = (x.0, x.1, (check_iff bytes x.0 x.1).0 q)

  is_accepted : (c : Result (Unit {0}) Refusal) → checked c ≡ passed tt → c ≡ Ok tt
  is_accepted (Err x) h = absurd (not_both (number_of x) (place_of x) tt h)
  is_accepted (Ok u) h = refl

  refused_check : (x : Refusal) (v : Verdict calculus.Recipe) → refusal x ≡ accepting v → v ≡ refusal x
  refused_check x (refused n p) h =
      let same : ◌≡◌ {A = Verdict (Unit {0})} (refused n p) (refusal x) = sym h in
      let m : n ≡ number_of x = cc in
      let l : p ≡ place_of x = cc in
      rw (m, l)
  refused_check x (passed y) h = absurd (not_both (number_of x) (place_of x) tt h)

  is_refused : (c : Result (Unit {0}) Refusal) (x : Refusal) → checked c ≡ refusal x → c ≡ Err x
  is_refused (Err y) x h = ap Err (refusal_injective y x h)
  is_refused (Ok u) x h = absurd (not_both (number_of x) (place_of x) tt (sym h))

  one_recipe : (x y : RecipeOf bytes) → (x.0 ≡ y.0) × (x.1 ≡ y.1)
  one_recipe x y =
      let same = accepted_once bytes (x.0, x.1) (y.0, y.1) x.2 y.2 in
      (ap (λ (z : calculus.Recipe). z.0) same, ap (λ (z : calculus.Recipe). z.1) same)

  module _ (c : Result (Unit {0}) Refusal) (h : checked c ≡ accepting (check bytes)) where
    accepts_iff : (c ≡ Ok tt) ↔ RecipeOf bytes
    accepts_iff = (
      λ q. accepted_recipe (check bytes) refl (ap checked (sym q) ∙ h),
      λ x. is_accepted c (h ∙ ap accepting ((check_iff bytes x.0 x.1).1 x.2)),
    )

    refuses_iff : (x : Refusal) → (c ≡ Err x) ↔ (check bytes ≡ refusal x)
    refuses_iff x = (
      λ q. refused_check x (check bytes) (ap checked (sym q) ∙ h),
      λ q. is_refused c x (h ∙ ap accepting q),
    )

    pub checks : Checks bytes c
    checks =
        record {
          accepts = accepts_iff;
          one = one_recipe;
          refuses = refuses_iff;
          in_table = λ x q. subst Numbered ((refuses_iff x).0 q) (number_in_table bytes);
          six = λ p. Iff.trans (refuses_iff (r.Untyped p)) (points.six bytes p);
          seven = λ p. Iff.trans (refuses_iff (r.Mistyped p)) (points.seven bytes p);
        }

pub twice : (c : Result (Unit {0}) Refusal) (l m : Lent) (g h : Returned) → l.bytes ≡ m.bytes → checked c ≡ accepting (check l.bytes)
    → Promised l g → Promised m h
    → Twice c l g m h
twice c l m g h b k p q =
    record {
      checks = checks l.bytes c k;
      first = once l g p;
      second = once m h q;
      safe = λ τ e a. typed_safe e τ a.typed;
      leaves = λ τ e a x q n. leaves l g p τ e a x q n;
      from_every_term = from_every_term;
      grows = λ x i j a f. grow l m g h x b i j p q a f;
    }
