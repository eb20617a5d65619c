-- The fault of a term that has no type is its lowest-numbered node that has none while all its parts have one. Assumes nothing.
use Prim.Native.Nat.{ℕ, ◌+◌, ◌≤◌, ◌<◌}
use mathlib.Core.List.{List, [], ◌∷◌}
use mathlib.Core.Logic.{◌⊎◌, inl, inr}
use mathlib.Core.Option.{Option, none, some, none-ne-some}
use mathlib.Core.Path.{◌≡◌, refl, sym, ◌∙◌}
use lib.ListN.{drop}
use native.Mathlib.Omega.{arith}
use Rattle.calculus.specs.Trees.{Lang, Static, numbers, Term, var, num, lam, op1, op2, if0, nil, wrong, ms, sm}
use Rattle.calculus.specs.Words.{put, size}
use Rattle.calculus.specs.Kinds.{type, term}
use Rattle.calculus.specs.Verdicts.{found}
use Rattle.calculus.specs.Typing.{of, Lambdas, Typed}
use Rattle.calculus.specs.Inference.{infer}
use Rattle.calculus.specs.Faults.{Node, node, parts_at, parts, Among, itself, inside, further, HasType, AllTyped, Faulty, LowestFault, fault}
use Rattle.calculus.proofs.Sizes.{past_word, past_tree, past_static}
use Rattle.calculus.proofs.Inference.{infer_iff}

-- The fault of nodes in a row: that of the first that has no type; where all have one, p.
abbrev inferred : (x : Node) → Option (Static x.lang)
inferred x = infer x.lambdas x.tree

abbrev fault_of : Node → ℕ
fault_of x = fault x.place x.lambdas x.tree

abbrev first : ℕ → List Node → ℕ
first p [] = p
first p (x ∷ xs) = found (inferred x) (fault_of x) (λ t. first p xs)

fault_first : {l : Lang} (p : ℕ) (Γ : Lambdas) (e : Term l) → fault p Γ e ≡ first p (parts_at p Γ e)
unfolding fault
fault_first p Γ (var i) = refl
fault_first p Γ (num n) = refl
fault_first p Γ (lam t b) = refl
fault_first p Γ (op1 o a) = refl
fault_first p Γ (op2 o a b) = refl
fault_first p Γ (if0 a b c) = refl
fault_first p Γ (nil t) = refl
fault_first p Γ (wrong c t) = refl
fault_first p Γ (ms t a) = refl
fault_first p Γ (sm t a) = refl

-- Cases on whether a node has a type.
untyped : (x : Node) → inferred x ≡ none → ¬ HasType x
untyped x q h = none-ne-some h.0 (sym q ∙ (infer_iff x.lambdas x.tree h.0).1 h.1)

by_type : (x : Node) (P : ℕ → Type 0) (a b : ℕ) → (¬ HasType x → P a) → (HasType x → P b) → P (found (inferred x) a (λ t. b))
by_type x P a b ne h = cases (inferred x) refl
  where
    cases : (o : Option (Static x.lang)) → inferred x ≡ o → P (found o a (λ t. b))
    cases none q = ne (untyped x q)
    cases (some τ) q = h (τ, (infer_iff x.lambdas x.tree τ).0 q)

all_first : (p : ℕ) (xs : List Node) → AllTyped xs → first p xs ≡ p
all_first p [] h = refl
all_first p (x ∷ xs) h = by_type x (λ n. n ≡ p) _ _ (λ ne. absurd (ne h.0)) (λ y. all_first p xs h.1)

-- The parts of what has a type have types.
parts_typed : {l : Lang} (p : ℕ) (Γ : Lambdas) (e : Term l) (τ : Static l) → Typed Γ e τ → AllTyped (parts_at p Γ e)
parts_typed p Γ (var i) τ h = tt
parts_typed p Γ (num n) τ h = tt
parts_typed p Γ (lam t b) τ h = ((h.0, h.1), tt)
parts_typed p Γ (op1 o a) τ h = ((h.0, h.1), tt)
parts_typed p Γ (op2 o a b) τ h = ((h.0, h.2), ((h.1, h.3), tt))
parts_typed p Γ (if0 {l} a b c) τ h = ((numbers l, h.0), ((τ, h.1), ((τ, h.2), tt)))
parts_typed p Γ (nil t) τ h = tt
parts_typed p Γ (wrong c t) τ h = tt
parts_typed p Γ (ms t a) τ h = ((tt, h.0), tt)
parts_typed p Γ (sm t a) τ h = ((t, h), tt)

none_faulty : {z : Node} {xs : List Node} → AllTyped xs → Among z xs → ¬ Faulty z
none_faulty h itself f = f.0 h.0
none_faulty h (inside {x} d) f = none_faulty (parts_typed x.place x.lambdas x.tree h.0.0 h.0.1) d f
none_faulty h (further d) f = none_faulty h.1 d f

-- A term that has a type has no faulty node.
pub typed_no_fault : (x z : Node) → HasType x → Among z (x ∷ []) → ¬ Faulty z
typed_no_fault x z h d f = none_faulty {xs = x ∷ []} (h, tt) d f

-- Induction over nodes: a property that a node has if its parts have it.
abbrev Each : (Node → Type 0) → List Node → Type 0
Each P [] = Unit {0}
Each P (x ∷ xs) = P x × Each P xs

module _ (P : Node → Type 0) (of_parts : (x : Node) → Each P (parts x) → P x) where
  at_term : {l : Lang} (p : ℕ) (Γ : Lambdas) (e : Term l) → P (node p Γ e)
  at_term p Γ (var i) = of_parts (node p Γ (var i)) tt
  at_term p Γ (num n) = of_parts (node p Γ (num n)) tt
  at_term p Γ (lam {l} t b) = of_parts (node p Γ (lam t b)) (at_term _ (of l t ∷ Γ) b, tt)
  at_term p Γ (op1 o a) = of_parts (node p Γ (op1 o a)) (at_term _ Γ a, tt)
  at_term p Γ (op2 o a b) = of_parts (node p Γ (op2 o a b)) (at_term _ Γ a, (at_term _ Γ b, tt))
  at_term p Γ (if0 a b c) = of_parts (node p Γ (if0 a b c)) (at_term _ Γ a, (at_term _ Γ b, (at_term _ Γ c, tt)))
  at_term p Γ (nil t) = of_parts (node p Γ (nil t)) tt
  at_term p Γ (wrong c t) = of_parts (node p Γ (wrong c t)) tt
  at_term p Γ (ms t a) = of_parts (node p Γ (ms t a)) (at_term _ Γ a, tt)
  at_term p Γ (sm t a) = of_parts (node p Γ (sm t a)) (at_term _ Γ a, tt)

  induction : (x : Node) → P x
  induction x = at_term x.place x.lambdas x.tree

-- A faulty node stands at the fault.
abbrev FaultAt : List Node → ℕ → Type 0
FaultAt xs p = (z : Node) × Among z xs × Faulty z × (z.place ≡ p)

abbrev Located : Node → Type 0
Located x = ¬ HasType x → (xs : List Node) → FaultAt (x ∷ xs) (fault_of x)

parts_located : (p : ℕ) (xs : List Node) → Each Located xs → AllTyped xs ⊎ FaultAt xs (first p xs)
parts_located p [] h = inl tt
parts_located p (x ∷ xs) h =
    by_type x (λ n. AllTyped (x ∷ xs) ⊎ FaultAt (x ∷ xs) n) _ _ (λ ne. inr (h.0 ne xs)) (λ y. go_on_lem y (parts_located p xs h.1))
  where
    go_on_lem : HasType x → AllTyped xs ⊎ FaultAt xs (first p xs) → AllTyped (x ∷ xs) ⊎ FaultAt (x ∷ xs) (first p xs)
    go_on_lem y (inl a) = inl (y, a)
    go_on_lem y (inr r) = inr (r.0, further r.1, r.2, r.3)

located : (x : Node) → Located x
located x = induction Located node_located x
  where
    node_located : (x : Node) → Each Located (parts x) → Located x
    node_located x h ne xs = by_parts (parts_located x.place (parts x) h)
      where
        is_first : fault_of x ≡ first x.place (parts x)
        is_first = fault_first x.place x.lambdas x.tree

        by_parts : AllTyped (parts x) ⊎ FaultAt (parts x) (first x.place (parts x)) → FaultAt (x ∷ xs) (fault_of x)
        by_parts (inl a) = (x, itself, (ne, a), sym (is_first ∙ all_first x.place (parts x) a))
        by_parts (inr r) = (r.0, inside r.1, r.2, r.3 ∙ sym is_first)

-- Nodes that stand one behind the other, from the place p to the place q.
abbrev Laid : ℕ → ℕ → List Node → Type 0
Laid p q [] = p ≤ q
Laid p q (x ∷ xs) = (p ≤ x.place) × Laid (x.place + size x.tree) q xs

parts_laid : {l : Lang} (p : ℕ) (Γ : Lambdas) (e : Term l) → Laid (p + 1) (p + size e) (parts_at p Γ e)
unfolding size
parts_laid p Γ (var i) = omega arith
parts_laid p Γ (num n) = omega arith
parts_laid p Γ (lam t b) = (omega arith, omega arith)
parts_laid p Γ (op1 o a) = (omega arith, omega arith)
parts_laid p Γ (op2 o a b) = (omega arith, (omega arith, omega arith))
parts_laid p Γ (if0 a b c) = (omega arith, (omega arith, (omega arith, omega arith)))
parts_laid p Γ (nil t) = omega arith
parts_laid p Γ (wrong c t) = omega arith
parts_laid p Γ (ms t a) = (omega arith, omega arith)
parts_laid p Γ (sm t a) = (omega arith, omega arith)

laid_end : (p q : ℕ) (xs : List Node) → Laid p q xs → p ≤ q
laid_end p q [] h = h
laid_end p q (x ∷ xs) h = omega (arith, h.0, laid_end (x.place + size x.tree) q xs h.1)

among_from : {z : Node} {xs : List Node} (p q : ℕ) → Laid p q xs → Among z xs → p ≤ z.place
among_from p q h itself = h.0
among_from p q h (inside {x} d) = omega (arith, h.0, among_from _ _ (parts_laid x.place x.lambdas x.tree) d)
among_from p q h (further {x} d) = omega (arith, h.0, among_from _ q h.1 d)

-- The fault stands inside its term.
abbrev Held : Node → Type 0
Held x = fault_of x < x.place + size x.tree

first_held : (r p q : ℕ) (xs : List Node) → r < q → Laid p q xs → Each Held xs → first r xs < q
first_held r p q [] lt h i = lt
first_held r p q (x ∷ xs) lt h i =
    by_type x (λ n. n < q) _ _ (λ ne. omega (arith, i.0, laid_end _ q xs h.1)) (λ y. first_held r (x.place + size x.tree) q xs lt h.1 i.1)

held : (x : Node) → Held x
held x = induction Held node_held x
  where
    node_held : (x : Node) → Each Held (parts x) → Held x
    node_held x h =
        let laid = parts_laid x.place x.lambdas x.tree in
        let lt = first_held x.place _ _ (parts x) (omega (arith, laid_end _ _ (parts x) laid)) laid h in
        omega (arith, lt, fault_first x.place x.lambdas x.tree)

pub fault_within : {l : Lang} (p : ℕ) (Γ : Lambdas) (e : Term l) → fault p Γ e < p + size e
fault_within p Γ e = held (node p Γ e)

-- No faulty node stands before it.
first_lowest : {z : Node} {xs : List Node} (r p q : ℕ) → Laid p q xs → Among z xs → Faulty z → first r xs ≤ z.place
first_lowest {z} r p q h itself f =
    by_type z (λ n. n ≤ z.place) _ _
    (λ ne. omega (arith, fault_first z.place z.lambdas z.tree, all_first z.place (parts z) f.1))
    (λ y. absurd (f.0 y))
first_lowest {z} r p q h (inside {x} d) f =
    by_type x (λ n. n ≤ z.place) _ _
    (λ ne. let laid = parts_laid x.place x.lambdas x.tree in
    omega (arith, fault_first x.place x.lambdas x.tree, first_lowest x.place _ _ laid d f))
    (λ y. absurd (none_faulty (parts_typed x.place x.lambdas x.tree y.0 y.1) d f))
first_lowest {z} r p q h (further {x} d) f =
    by_type x (λ n. n ≤ z.place) _ _ (λ ne. omega (arith, held x, among_from _ q h.1 d)) (λ y. first_lowest r _ q h.1 d f)

-- The fault of a term that has no type is the place of its lowest-numbered faulty node.
pub fault_lowest : {l : Lang} (p : ℕ) (Γ : Lambdas) (e : Term l) → infer Γ e ≡ none → LowestFault (node p Γ e) (fault p Γ e)
fault_lowest p Γ e q =
    record {
      faulty = located (node p Γ e) (untyped (node p Γ e) q) [];
      lowest = λ z d f. rw q at (first_lowest {xs = node p Γ e ∷ []} p p (p + size e) (omega arith, omega arith) d f);
    }

-- A term that has a lowest fault has no type, and that fault is it.
pub lowest_untyped : {l : Lang} (p : ℕ) (Γ : Lambdas) (e : Term l) (r : ℕ) → LowestFault (node p Γ e) r → (infer Γ e ≡ none) × (fault p Γ e ≡ r)
lowest_untyped {l} p Γ e r f = by (infer Γ e) refl
  where
    by : (o : Option (Static l)) → infer Γ e ≡ o → (infer Γ e ≡ none) × (fault p Γ e ≡ r)
    by none q =
        let own = fault_lowest p Γ e q in
        let z = f.faulty in
        let y = own.faulty in
        (q, omega (arith, f.lowest y.0 y.1 y.2, y.3, own.lowest z.0 z.1 z.2, z.3))
    by (some τ) q = let z = f.faulty in absurd (typed_no_fault (node p Γ e) z.0 (τ, (infer_iff Γ e τ).0 q) z.1 z.2)

-- A node's place is where its words stand.
abbrev StandsIn : List ℕ → Node → Type 0
StandsIn ws x = (k : List ℕ) × (drop x.place ws ≡ put x.tree k)

parts_stand : {l : Lang} (p : ℕ) (Γ : Lambdas) (e : Term l) (ws k : List ℕ) → drop p ws ≡ put e k → Each (StandsIn ws) (parts_at p Γ e)
unfolding put
parts_stand p Γ (var i) ws k q = tt
parts_stand p Γ (num n) ws k q = tt
parts_stand p Γ (lam {l} t b) ws k q = ((_, past_static l t (p + 1) ws _ (past_word p _ ws _ q)), tt)
parts_stand p Γ (op1 o a) ws k q = ((_, past_word p _ ws _ q), tt)
parts_stand p Γ (op2 {l} o a b) ws k q =
    let i = past_word p _ ws _ q in
    ((_, i), ((_, past_tree (term l) a (p + 1) ws _ i), tt))
parts_stand p Γ (if0 {l} a b c) ws k q =
    let i = past_word p _ ws _ q in
    let j = past_tree (term l) a (p + 1) ws _ i in
    ((_, i), ((_, j), ((_, past_tree (term l) b (p + 1 + size a) ws _ j), tt)))
parts_stand p Γ (nil t) ws k q = tt
parts_stand p Γ (wrong c t) ws k q = tt
parts_stand p Γ (ms t a) ws k q = ((_, past_tree type t (p + 1) ws _ (past_word p _ ws _ q)), tt)
parts_stand p Γ (sm t a) ws k q = ((_, past_tree type t (p + 1) ws _ (past_word p _ ws _ q)), tt)

among_stands : {z : Node} {xs : List Node} (ws : List ℕ) → Each (StandsIn ws) xs → Among z xs → StandsIn ws z
among_stands ws h itself = h.0
among_stands ws h (inside {x} d) = among_stands ws (parts_stand x.place x.lambdas x.tree ws h.0.0 h.0.1) d
among_stands ws h (further d) = among_stands ws h.1 d

pub node_stands : (ws k : List ℕ) (x z : Node) → drop x.place ws ≡ put x.tree k → Among z (x ∷ [])
    → (j : List ℕ) × (drop z.place ws ≡ put z.tree j)
node_stands ws k x z q d = among_stands {xs = x ∷ []} ws ((k, q), tt) d
