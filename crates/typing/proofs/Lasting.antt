-- The lambdas around a place, and the types that references mean, hang on links before the places that come later. Assumes nothing.
use Prim.Native.Nat.{ℕ, ◌+◌, ◌≤◌, ◌<◌}
use mathlib.Core.List.{List, [], ◌∷◌}
use mathlib.Core.Option.{Option, none, some}
use mathlib.Core.Path.{◌≡◌, refl, sym, ap, ◌∙◌, subst}
use lib.ListN.{get_or, drop}
use native.Mathlib.Omega.{arith}
use Rattle.calculus.specs.Trees.{Lang, ml, sc, Static, Term, lam}
use Rattle.calculus.specs.Words.{put, size}
use Rattle.calculus.specs.Typing.{of, Lambdas}
use Rattle.calculus.specs.Inference.{infer}
use Rattle.calculus.specs.Faults.{fault}
use Rattle.calculus.proofs.Sizes.{past_word}
use Rattle.types.proofs.Frames.{means_widen, means_frame}
use Rattle.types.specs.Links.{KeptBefore, LinkTo}
use Rattle.typing.specs.Answers.{Reference, Answer, whole, bad, Refers, WrittenStatic, EndsAt, Advances, Answers}
use Rattle.typing.specs.Variables.{Binds, Scope}
use Rattle.typing.specs.Infers.{Told}

pub scope_later : (w ls ls' : List ℕ) (hi hi' p : ℕ) (Γ : Lambdas) → hi ≤ hi' → KeptBefore hi ls ls' → Scope w ls hi p Γ → Scope w ls' hi' p Γ
unfolding Scope
scope_later w ls ls' hi hi' p [] h k s = s
scope_later w ls ls' hi hi' p (x ∷ Γ) h k s = (
  s.0,
  omega (arith, s.1),
  s.2,
  subst (λ (q : ℕ). Scope w ls' p q Γ) (sym (k p s.1))
      (scope_later w ls ls' p p (get_or ls p 0) Γ (omega arith) (λ i j. k i (omega (arith, s.1))) s.3),
)

scope_below : (w ls : List ℕ) (hi p : ℕ) (Γ : Lambdas) → 0 < hi → Scope w ls hi p Γ → p < hi
unfolding Scope
scope_below w ls hi p [] h s = omega (arith, s)
scope_below w ls hi p (x ∷ Γ) h s = s.1

-- Inside the lambda at a place.
pub scope_inside : (w ls ls' : List ℕ) (at scope hi : ℕ) (l : Lang) (t : Static l) (Γ : Lambdas) → 0 < at → at < hi → at < 65536
    → KeptBefore at ls ls' → LinkTo scope (get_or ls' at 0) → Binds w at (of l t) → Scope w ls at scope Γ → Scope w ls' hi at (of l t ∷ Γ)
unfolding Scope
scope_inside w ls ls' at scope hi l t Γ a b c k own bind s = (
  a,
  b,
  bind,
  subst (λ (q : ℕ). Scope w ls' at q Γ) (sym (own (omega (arith, scope_below w ls at scope Γ a s))))
      (scope_later w ls ls' at at scope Γ (omega arith) k s),
)

pub binds_static : (l : Lang) (t : Static l) (b : Term l) (w k : List ℕ) (at : ℕ) → drop at w ≡ put (lam t b) k → WrittenStatic l w (at + 1) t
unfolding put
binds_static ml t b w k at d = (put b k, past_word at _ w _ d)
binds_static sc t b w k at d = tt

pub refers_later : (l : Lang) (w ls ls' : List ℕ) (lo hi lo' hi' : ℕ) (p : Reference l) (t : Static l) → lo' ≤ lo → hi ≤ hi' → KeptBefore hi ls ls'
    → Refers l w ls lo hi p t → Refers l w ls' lo' hi' p t
refers_later ml w ls ls' lo hi lo' hi' p t a b k m = means_widen w ls' lo hi lo' hi' p t a b (means_frame w ls ls' lo hi p t (λ i x y. k i y) m)
refers_later sc w ls ls' lo hi lo' hi' p t a b k m = tt

-- The same answer by more links, up to a place that is the same.
pub answers_wider : (l : Lang) (w ls : List ℕ) (lo hi lo' hi' fault next next' : ℕ) (o : Option (Static l)) (r : Answer l) → lo' ≤ lo → hi ≤ hi'
    → next ≡ next' → Answers l w ls lo hi fault next o r → Answers l w ls lo' hi' fault next' o r
unfolding Answers
answers_wider l w ls lo hi lo' hi' fault next next' none r a b q x = x
answers_wider l w ls lo hi lo' hi' fault next next' (some t) r a b q x =
    (x.0, x.1 ∙ ap (whole x.0) q, refers_later l w ls ls lo hi lo' hi' x.0 t a b (λ i j. refl) x.2)

-- What the answer for a part tells: it has no static type, and this is its fault; or it has one, and ends before n.
pub record GoodPart (l : Lang) (w ls : List ℕ) (p : ℕ) (Γ : Lambdas) (a : Term l) (t : Reference l) (n : ℕ) : Type 0 where
  pub static : Static l
  pub typed : infer Γ a ≡ some static
  pub ends : n ≡ p + size a
  pub refers : Refers l w ls p n t static

module _ {l : Lang} {w ls : List ℕ} {p : ℕ} {Γ : Lambdas} {a : Term l} {r : Answer l} (h : Told l w ls p Γ a r) where
  pub no_part : {b : ℕ} → r ≡ bad b → (infer Γ a ≡ none) × (r ≡ bad (fault p Γ a))
  unfolding Answers
  no_part {b} z = by (infer Γ a) h.answer
    where
      by : (o : Option (Static l)) → Answers l w ls p (p + size a) (fault p Γ a) (p + size a) o r → (o ≡ none) × (r ≡ bad (fault p Γ a))
      by none x = (refl, x)
      by (some t) x = let c = x.1 in let y : ◌≡◌ {A = ℕ} 0 1 = cc in absurd (omega arith)

  pub good_part : {t : Reference l} {n : ℕ} → r ≡ whole t n → GoodPart l w ls p Γ a t n
  unfolding Answers
  good_part {t} {n} z = by (infer Γ a) refl h.answer
    where
      by : (o : Option (Static l)) → infer Γ a ≡ o → Answers l w ls p (p + size a) (fault p Γ a) (p + size a) o r → GoodPart l w ls p Γ a t n
      by none q x = let y : ◌≡◌ {A = ℕ} 0 1 = cc in absurd (omega arith)
      by (some s) q x =
          let c = x.1 in
          let e : x.0 ≡ t = cc in
          let f : p + size a ≡ n = cc in
          record {
            static = s;
            typed = q;
            ends = sym f;
            refers = subst (λ (i : ℕ). Refers l w ls p i t s) f (subst (λ (i : Reference l). Refers l w ls p (p + size a) i s) e x.2);
          }

-- Where an answer passes to the place past the term.
pub passes_on : {l : Lang} (at end next : ℕ) (r : Answer l) → at < next → next ≤ end → EndsAt next r → Advances at end r
passes_on at end next (whole p n) a b q = (omega arith, omega arith)
passes_on at end next (bad f) a b q = tt

pub advances_later : {l : Lang} (at start end : ℕ) (r : Answer l) → at ≤ start → Advances start end r → Advances at end r
advances_later at start end (whole p n) a q = (omega (arith, q.0), q.1)
advances_later at start end (bad f) a q = tt

pub advanced : {l : Lang} (at end n : ℕ) {t : Reference l} {r : Answer l} → r ≡ whole t n → Advances at end r → (at < n) × (n ≤ end)
advanced at end n z a = subst (Advances at end) z a
