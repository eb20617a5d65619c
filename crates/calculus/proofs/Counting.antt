-- What is counted over the steps of a reduction: the same however they are derived, and the three add up to the steps. Assumes nothing.
use Prim.Native.Nat.{ℕ, zero, suc, ◌+◌}
use mathlib.Core.List.{[]}
use mathlib.Core.Path.{◌≡◌, refl, sym, ap, ◌∙◌}
use native.Mathlib.Nat.{zero-add, add-zero, add_assoc}
use native.Mathlib.Omega.{arith}
use Rattle.calculus.specs.Trees.{Ty, ml, Term}
use Rattle.calculus.specs.Typing.{Typed}
use Rattle.calculus.specs.Reduction.{Outcome, value, raised, next, stuck, step}
use Rattle.calculus.specs.Rules.{◌⟶◌, Steps, stay, then}
use Rattle.calculus.specs.Classes.{Class, call, conversion, other, next_class, step_class, indicator, among}
use Rattle.calculus.specs.Run.{End, valued, spent, error, full, Counts, uncounted, counted}
use Rattle.calculus.specs.Counting.{counts, together, own_step, AddsUp, Counted}
use Rattle.calculus.proofs.Typing.{typed_scoped}
use Rattle.calculus.proofs.Keeping.{next_typed}
use Rattle.calculus.proofs.Classes.{step_class_lem}

-- Counts are the same whose four numbers are.
pub same_counts : {m n : Counts} → m.steps ≡ n.steps → m.calls ≡ n.calls → m.conversions ≡ n.conversions → m.others ≡ n.others → m ≡ n
same_counts {m} {n} p q r s =
    let h : record { steps = m.steps; calls = m.calls; conversions = m.conversions; others = m.others } ≡ n = rw (p, q, r, s) in h

-- Nothing added; one step more, at either end.
pub none_together : (m : Counts) → together uncounted m ≡ m
none_together m = same_counts (zero-add _) (zero-add _) (zero-add _) (zero-add _)

pub together_none : (m : Counts) → together m uncounted ≡ m
together_none m = same_counts (add-zero _) (add-zero _) (add-zero _) (add-zero _)

pub counted_together : (x : Class) (m n : Counts) → counted x (together m n) ≡ together m (counted x n)
counted_together x m n = same_counts (add_assoc _ _ _) (add_assoc _ _ _) (add_assoc _ _ _) (add_assoc _ _ _)

pub then_together : {n : ℕ} {e f r : Term ml} (m : Counts) (a : e ⟶ f) (p : Steps n f r)
    → together (counted (step_class a) m) (counts p) ≡ together m (counts (then a p))
then_together m a p = same_counts (omega arith) (add_assoc _ _ _) (add_assoc _ _ _) (add_assoc _ _ _)

-- How many steps of a class the computed reduction has among its first n.
abbrev follow : Outcome ml → (Term ml → ℕ) → ℕ
follow value k = 0
follow (raised c) k = 0
follow (next r) k = k r
follow stuck k = 0

unfoldable tally : Class → ℕ → Term ml → ℕ
tally x zero e = 0
tally x (suc n) e = indicator x (next_class e) + follow (step e) (tally x n)

among_tally : (τ : Ty) (x : Class) {n : ℕ} {e r : Term ml} → Typed [] e τ → (p : Steps n e r) → among x p ≡ tally x n e
unfolding tally
among_tally τ x h stay = refl
among_tally τ x {e = e} h (then a p) =
    let i = next_typed τ h a in
    rw (step_class_lem (typed_scoped [] e τ h) a, i.0, among_tally τ x i.1 p)

-- However n steps of a term that has a type are derived, as many of each class are among them.
pub counts_once : (τ : Ty) {n : ℕ} {e r s : Term ml} → Typed [] e τ → (p : Steps n e r) (q : Steps n e s) → counts p ≡ counts q
counts_once τ h p q = same_counts refl (same call) (same conversion) (same other)
  where
    same : (x : Class) → among x p ≡ among x q
    same x = among_tally τ x h p ∙ sym (among_tally τ x h q)

-- A step is of one class, so the three add up.
one_class : (x : Class) → indicator call x + indicator conversion x + indicator other x ≡ 1
one_class call = refl
one_class conversion = refl
one_class other = refl

pub adds_up_more : (x : Class) (m : Counts) → AddsUp m → AddsUp (counted x m)
adds_up_more x m h = omega (arith, h, one_class x)

counts_add_up : {n : ℕ} {e r : Term ml} (p : Steps n e r) → AddsUp (counts p)
counts_add_up stay = refl
counts_add_up (then a p) = omega (arith, counts_add_up p, one_class (step_class a))

own_adds_up : (x : End) → AddsUp (own_step x)
own_adds_up valued = refl
own_adds_up spent = refl
own_adds_up error = refl
own_adds_up full = refl

-- What a run counts that ends so after the steps p.
pub counted_over : (τ : Ty) {n : ℕ} {e t : Term ml} → Typed [] e τ → (p : Steps n e t) (x : End) → Counted e x (together (counts p) (own_step x))
counted_over τ {n} {t = t} h p x =
    record {
      reductions = n;
      last = t;
      reached = p;
      each = λ r q. ap (λ (m : Counts). together m (own_step x)) (counts_once τ h p q);
      adds_up = omega (arith, counts_add_up p, own_adds_up x);
    }
