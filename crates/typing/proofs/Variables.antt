-- The ways out of the search for a variable's lambda, and of the rule of variables. Assumes nothing.
use Prim.Native.Nat.{ℕ, zero, suc, ◌-◌, ◌/◌, ◌%◌, ◌≤◌, ◌<◌}
use mathlib.Core.Bool.{Bool, true, false}
use mathlib.Core.List.{List, [], ◌∷◌}
use mathlib.Core.Option.{Option, none, some}
use mathlib.Core.Path.{◌≡◌, refl, sym, ap, ◌∙◌, subst}
use lib.ListN.{length, get_or}
use native.Mathlib.Numerals.{sub-one}
use native.Mathlib.Omega.{arith}
use Rattle.std.proofs.Common.{Option as Found, Some, None, Result, Ok, ok_or}
use Rattle.std.specs.Bool.{then_some}
use Rattle.calculus.specs.Trees.{Lang, ml, sc, Static}
use Rattle.calculus.specs.Kinds.{Sort, term}
use Rattle.calculus.specs.Typing.{Entry, of, Lambdas}
use Rattle.calculus.specs.Inference.{entry_type, type_at}
use Rattle.nodes.specs.Table.{same_sort, Row, row_of, told}
use Rattle.types.proofs.Pairs.{some_is, none_some}
use Rattle.typing.specs.declared.Fault.{Fault}
use Rattle.typing.specs.Variables.{sort_at, Binds, Scope, Behind, LambdaOf, Bound, Variable}

abbrev fault_or : Found ℕ → ℕ → Result ℕ Fault
fault_or r at = ok_or r (record { at = at })

-- The sort of a word by its row.
pub row_sort : (w : List ℕ) (p : ℕ) (o : Found Row) → o ≡ row_of (get_or w p 0 % 256) → sort_at w p ≡ told o None (λ r. Some r.sort)
row_sort w p o e = ap (λ (x : Found Row). told x None (λ r. Some r.sort)) (sym e)

module _ (l : Lang) (w ls : List ℕ) (scope between : ℕ) where
  -- The answer r is the lambda of the variable.
  abbrev Looks : Found ℕ → Lambdas → Type 0
  Looks r Γ = (hi : ℕ) → hi ≤ length w → Scope w ls hi scope Γ → Behind l w (type_at l Γ between) r

  pub no_scope : scope ≡ 0 → LambdaOf l w ls scope between None
  unfolding Scope
  no_scope z = record { there = λ p q. absurd (none_some q); is = go }
    where
      go : (Γ : Lambdas) → Looks None Γ
      go [] hi few s = refl
      go (x ∷ Γ) hi few s = absurd (omega (arith, s.0))

  module _ (inside : scope ≡ 0 → ⊥) where
    pub scope_past_end : length w ≤ scope → LambdaOf l w ls scope between None
    unfolding Scope
    scope_past_end h = record { there = λ p q. absurd (none_some q); is = go }
      where
        go : (Γ : Lambdas) → Looks None Γ
        go [] hi few s = refl
        go (x ∷ Γ) hi few s = absurd (omega (arith, s.1))

    -- The innermost lambda is the one.
    innermost : (r : Found ℕ) → between ≡ 0 → ((p : ℕ) → r ≡ Some p → p < length w)
        → ((x : Entry) → Binds w scope x → Behind l w (entry_type l x) r) → LambdaOf l w ls scope between r
    unfolding Scope
    innermost r z h f = record { there = h; is = go }
      where
        go : (Γ : Lambdas) → Looks r Γ
        go [] hi few s = absurd (inside s)
        go (x ∷ Γ) hi few s = subst (λ (j : ℕ). Behind l w (type_at l (x ∷ Γ) j) r) (sym z) (f x s.2)

    pub no_kind : sort_at w scope ≡ None → between ≡ 0 → LambdaOf l w ls scope between None
    no_kind n z = innermost None z (λ p q. absurd (none_some q)) go
      where
        go : (x : Entry) → Binds w scope x → Behind l w (entry_type l x) None
        go (of m t) b = absurd (none_some (sym n ∙ b.0))

    pub by_sort : scope < length w → (y : Sort) → sort_at w scope ≡ Some y → between ≡ 0
        → LambdaOf l w ls scope between (then_some (same_sort y (term l)) scope)
    by_sort here y q z = innermost (then_some (same_sort y (term l)) scope) z (there (same_sort y (term l))) (go l)
      where
        there : (b : Bool) → (p : ℕ) → then_some b scope ≡ Some p → p < length w
        there true p e = omega (arith, here, some_is e)
        there false p e = absurd (none_some e)

        sort_is : {m : Lang} → sort_at w scope ≡ Some (term m) → y ≡ term m
        sort_is b = some_is (sym q ∙ b)

        go : (l : Lang) (x : Entry) → Binds w scope x → Behind l w (entry_type l x) (then_some (same_sort y (term l)) scope)
        go ml (of ml t) b = rw (sort_is b.0) (scope, refl, b.1)
        go ml (of sc t) b = rw (sort_is b.0) refl
        go sc (of ml t) b = rw (sort_is b.0) refl
        go sc (of sc t) b = rw (sort_is b.0) (scope, refl, tt)

    -- It is further out.
    pub outer : (between ≡ 0 → ⊥) → (p : ℕ) (r : Found ℕ) → p ≡ get_or ls scope 0 → LambdaOf l w ls p (between - 1) r
        → LambdaOf l w ls scope between r
    unfolding Scope
    outer n p r k rest = record { there = rest.there; is = go }
      where
        past : (x : Entry) (Γ : Lambdas) (i : ℕ) → (i ≡ 0 → ⊥) → type_at l Γ (i - 1) ≡ type_at l (x ∷ Γ) i
        past x Γ zero n = absurd (n refl)
        past x Γ (suc i) n = ap (type_at l Γ) (sub-one (suc i))

        go : (Γ : Lambdas) → Looks r Γ
        go [] hi few s = absurd (inside s)
        go (x ∷ Γ) hi few s =
            subst (λ (o : Option (Static l)). Behind l w o r) (past x Γ between n)
            (rest.is Γ scope (omega (arith, s.1)) (subst (λ (j : ℕ). Scope w ls scope j Γ) (sym k) s.3))

-- A variable, by its lambda.
pub bound : (l : Lang) (w ls : List ℕ) (scope at between : ℕ) (r : Found ℕ) → LambdaOf l w ls scope between r → at < length w
    → between ≡ get_or w at 0 / 256 → Variable l w ls scope at (ok_or r (record { at = at }))
bound l w ls scope at between r a i q = record { there = by_there r a.there; is = λ Γ s. by (type_at l Γ _) r (behind Γ s) }
  where
    behind : (Γ : Lambdas) → Scope w ls at scope Γ → Behind l w (type_at l Γ (get_or w at 0 / 256)) r
    behind Γ s = subst (λ (n : ℕ). Behind l w (type_at l Γ n) r) q (a.is Γ at (omega arith) s)

    by_there : (r : Found ℕ) → ((p : ℕ) → r ≡ Some p → p < length w) → (p : ℕ) → fault_or r at ≡ Ok p → p < length w
    by_there None f p z = let y : ◌≡◌ {A = ℕ} 0 1 = cc in absurd (omega arith)
    by_there (Some n) f p z = let y : n ≡ p = cc in f p (ap Some y)

    by : (o : Option (Static l)) (r : Found ℕ) → Behind l w o r → Bound l w at o (fault_or r at)
    by none r b = rw b refl
    by (some t) r b = (b.0, rw b.1 refl, b.2)
