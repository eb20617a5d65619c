-- The walk over the parts of a node, in either language, and the ways out at a part that is bad. Assumes nothing.
use Prim.Native.Nat.{ℕ, ◌+◌, ◌≤◌, ◌<◌}
use mathlib.Core.List.{List, ◌∷◌}
use mathlib.Core.Path.{◌≡◌, refl, sym, ◌∙◌, subst}
use lib.ListN.{length, get_or, set, drop}
use native.Mathlib.Omega.{arith}
use Rattle.std.proofs.lemmas.List.{get_or-set_same, get_or-set_other, length-set}
use Rattle.calculus.specs.Trees.{Lang, ml, sc, Static, Term, lam, if0, ms, sm}
use Rattle.calculus.specs.Words.{put, size, size_ty, size_static}
use Rattle.calculus.specs.Kinds.{type, term}
use Rattle.calculus.specs.Typing.{of, Lambdas}
use Rattle.calculus.specs.Inference.{infer}
use Rattle.calculus.specs.Faults.{fault}
use Rattle.calculus.proofs.Sizes.{past_word, past_tree, past_static}
use Rattle.nodes.specs.declared.kinds.Shape.TheVariants as s
use Rattle.nodes.proofs.Terms as node
use Rattle.nodes.proofs.Terms.{Shaped}
use Rattle.types.specs.Links.{LinkTo, KeptBefore}
use Rattle.types.specs.References.{Written}
use Rattle.types.specs.Comparisons.{TypeEnd}
use Rattle.typing.specs.Answers.{Reference, Answer, whole, bad, Advances, Answers, other, Crossed}
use Rattle.typing.specs.Variables.{Scope}
use Rattle.typing.specs.Infers.{Told, Infers}
use Rattle.typing.proofs.Lasting.{scope_later, scope_inside, binds_static, answers_wider, no_part}
use Rattle.typing.proofs.Lasting.{GoodPart, good_part, advances_later, advanced}
use Rattle.typing.proofs.Telling.{Several, several_two, several_three, Parted, parted_one, parted_more}
use Rattle.typing.proofs.Telling.{Of, AtNode, sort_told, as_if0}

-- The walk over the parts of the node at `at` has come to the place p.
pub record ComeTo (w ls : List ℕ) (at p : ℕ) (now : List ℕ) : Type 0 where
  pub past : at < p
  pub within : p ≤ length w
  pub same : length now ≡ length ls
  pub kept : KeptBefore at ls now

-- What there is to show of a term.
abbrev pub Goal : (l : Lang) → List ℕ → List ℕ → ℕ → ℕ → List ℕ → Answer l → Term l → Type 0
Goal l w ls at scope after r e =
    (Γ : Lambdas) (k : List ℕ) → drop at w ≡ put e k → Scope w ls at scope Γ
    → Answers l w after at (at + size e) (fault at Γ e) (at + size e) (infer Γ e) r

-- The part at p is inferred.
module _ {l : Lang} {w ls : List ℕ} {at p : ℕ} {before : List ℕ} (G : ComeTo w ls at p before) {inner : ℕ} {after : List ℕ} {r : Answer l}
    (I : Infers l w p inner before after r) where
  pub further : {t : Reference l} {n : ℕ} → r ≡ whole t n → ComeTo w ls at n after
  further {t} {n} z =
      let b = advanced p (length w) n z I.advances in
      record {
        past = omega (arith, G.past, b.0);
        within = b.1;
        same = I.same ∙ G.same;
        kept = λ i h. I.kept i (omega (arith, G.past)) ∙ G.kept i h;
      }

  -- An answer for the whole node.
  pub whole_node : {l' : Lang} {r' : Answer l'} {scope : ℕ} → Advances at (length w) r' → ((e : Term l') (k : List ℕ) → drop at w ≡ put e k
      → Goal l' w ls at scope after r' e) → Infers l' w at scope ls after r'
  whole_node a f =
      record {
        same = I.same ∙ G.same;
        kept = λ i h. I.kept i (omega (arith, G.past)) ∙ G.kept i h;
        advances = a;
        is = λ e Γ k d s. record { answer = f e k d Γ k d s };
      }

module _ {l : Lang} {w ls : List ℕ} {at p : ℕ} {before : List ℕ} (G : ComeTo w ls at p before) {scope : ℕ} {after : List ℕ} {r : Answer l}
    (I : Infers l w p scope before after r) where
  pub part : {p' : ℕ} → p ≡ p' → (a : Term l) (Γ : Lambdas) (k : List ℕ) → drop p' w ≡ put a k → Scope w ls at scope Γ → Told l w after p' Γ a r
  part q a Γ k d s =
      subst (λ (i : ℕ). Told l w after i Γ a r) q
      (I.is a Γ k (subst (λ (i : ℕ). drop i w ≡ put a k) (sym q) d)
      (scope_later w ls before at p scope Γ (omega (arith, G.past)) G.kept s))

module _ {w : List ℕ} {at : ℕ} (N : AtNode w at) where
  pub begun : (start : ℕ) → at < start → start ≤ length w → (ls : List ℕ) → ComeTo w ls at start ls
  begun start a b ls = record { past = a; within = b; same = refl; kept = λ i h. refl }

  -- Right behind the node's word.
  pub behind_it : (ls : List ℕ) → ComeTo w ls at (at + 1) ls
  behind_it ls = begun (at + 1) (omega arith) (omega (arith, N.within)) ls

  -- A boundary.
  pub a_boundary : {start : ℕ} → TypeEnd w (at + 1) start → {l : Lang} {ls ls' : List ℕ} {scope : ℕ} {r1 : Answer (other l)}
      → Infers (other l) w start scope ls ls' r1 → Of l w at (Shaped l s.Boundary)
      → {r : Answer l} → Crossed l w ls' at r1 r → Infers l w at scope ls ls' r
  unfolding infer fault size put
  a_boundary {start} S {l} {ls} {ls'} {scope} {r1} I seen {r} f =
      whole_node (came ls) I (f.advances (length w) (advances_later at start (length w) r1 (omega (arith, S.least)) I.advances))
      (λ e k d. by l I f e (seen e k d))
    where
      came : (ls : List ℕ) → ComeTo w ls at start ls
      came ls = begun start (omega (arith, S.least)) S.most ls

      by : (l : Lang) {r1 : Answer (other l)} → Infers (other l) w start scope ls ls' r1 → {r : Answer l} → Crossed l w ls' at r1 r
          → (e : Term l) → Shaped l s.Boundary e → Goal l w ls at scope ls' r e
      by ml {r1} I {r} f e (node.an_ms τ a) Γ k d s =
          let p = at + 1 + size_ty τ in
          let y : Written w (at + 1) τ = (put a k, past_word at _ w _ d) in
          let x = part (came ls) I (S.is τ y) a Γ k (past_tree type τ (at + 1) w _ y.1) s in
          f.is τ (infer Γ a) at (at + size (ms τ a)) (fault p Γ a) (at + size (ms τ a)) y
          (answers_wider sc w ls' p (p + size a) at (at + size (ms τ a)) (fault p Γ a) (p + size a) (at + size (ms τ a)) (infer Γ a) r1 (omega arith)
          (omega arith) (omega arith) x.answer)
      by sc {r1} I {r} f e (node.an_sm τ a) Γ k d s =
          let p = at + 1 + size_ty τ in
          let y : Written w (at + 1) τ = (put a k, past_word at _ w _ d) in
          let x = part (came ls) I (S.is τ y) a Γ k (past_tree type τ (at + 1) w _ y.1) s in
          f.is τ (infer Γ a) at (at + size (sm τ a)) (fault p Γ a) (at + size (sm τ a)) y
          (answers_wider ml w ls' p (p + size a) at (at + size (sm τ a)) (fault p Γ a) (p + size a) (at + size (sm τ a)) (infer Γ a) r1 (omega arith)
          (omega arith) (omega arith) x.answer)

  -- The body of a lambda is inferred, inside it.
  module _ (scope x : ℕ) (ls : List ℕ) (linked : length ls ≡ length w) (link : LinkTo scope x) where
    abbrev pub entered : List ℕ
    entered = set ls at x

    own : get_or entered at 0 ≡ x
    own = get_or-set_same ls at x 0 (omega (arith, linked, N.within))

    others : KeptBefore at ls entered
    others i h = get_or-set_other ls at i x 0 (λ e. omega (arith, e, h))

    pub inside : {start : ℕ} → at < start → start ≤ length w → ComeTo w ls at start entered
    inside a b = record { past = a; within = b; same = length-set ls at x; kept = others }

    module _ {l : Lang} {start : ℕ} {ls2 : List ℕ} {r1 : Answer l} (I : Infers l w start at entered ls2 r1) where
      pub body : (t : Static l) → start ≡ at + 1 + size_static l t → (b : Term l) (Γ : Lambdas) (k : List ℕ) → drop at w ≡ put (lam t b) k
          → Scope w ls at scope Γ → Told l w ls2 start (of l t ∷ Γ) b r1
      unfolding put
      body t q b Γ k d s =
          I.is b (of l t ∷ Γ) k (subst (λ (i : ℕ). drop i w ≡ put b k) (sym q) (past_static l t (at + 1) w _ (past_word at _ w _ d)))
          (scope_inside w ls entered at scope start l t Γ N.behind (omega (arith, q)) (omega (arith, N.within, N.few)) others
          (λ h. own ∙ link h) (sort_told w at (lam t b) k d, binds_static l t b w k at d) s)

  -- The first part of an operator or an if0 is inferred.
  module _ {l : Lang} {scope : ℕ} {ls ls2 : List ℕ} {r1 : Answer l} (I : Infers l w (at + 1) scope ls ls2 r1) where
    pub first : (a : Term l) (Γ : Lambdas) (j : List ℕ) → drop (at + 1) w ≡ put a j → Scope w ls at scope Γ → Told l w ls2 (at + 1) Γ a r1
    first a Γ j d s = part (behind_it ls) I refl a Γ j d s

    pub one_bad : {b : ℕ} → r1 ≡ bad b → Of l w at (Parted l) → Infers l w at scope ls ls2 (bad b)
    unfolding infer fault size put Answers
    one_bad {b} z seen = whole_node (behind_it ls) I tt (λ e k d. by e (seen e k d))
      where
        by : (e : Term l) → Parted l e → Goal l w ls at scope ls2 (bad b) e
        by e (parted_one o a) Γ k d s = let x = no_part (first a Γ k (past_word at _ w _ d) s) z in rw x.0 (sym z ∙ x.1)
        by e (parted_more (several_two o a c)) Γ k d s =
            let x = no_part (first a Γ (put c k) (past_word at _ w _ d) s) z in rw x.0 (sym z ∙ x.1)
        by e (parted_more (several_three a c f)) Γ k d s =
            let x = no_part (first a Γ (put c (put f k)) (past_word at _ w _ d) s) z in rw x.0 (sym z ∙ x.1)

-- The first part is whole.
pub record One (l : Lang) (ls2 : List ℕ) (t : Reference l) (second : ℕ) (w : List ℕ) (at : ℕ) (ls : List ℕ) (scope : ℕ) : Type 0 where
  pub node : AtNode w at
  pub infers : Infers l w (at + 1) scope ls ls2 (whole t second)

pub one_of : {w : List ℕ} {at : ℕ} → AtNode w at → {l : Lang} {scope : ℕ} {ls ls2 : List ℕ} {r : Answer l} → Infers l w (at + 1) scope ls ls2 r
    → {t : Reference l} {second : ℕ} → r ≡ whole t second → One l ls2 t second w at ls scope
one_of {w} {at} N {l} {scope} {ls} {ls2} I T = record { node = N; infers = subst (Infers l w (at + 1) scope ls ls2) T I }

module _ {l : Lang} {ls2 : List ℕ} {t : Reference l} {second : ℕ} {w : List ℕ} {at : ℕ} {ls : List ℕ} {scope : ℕ}
    (A : One l ls2 t second w at ls scope) where
  pub reached_1 : ComeTo w ls at second ls2
  reached_1 = further (behind_it A.node ls) A.infers refl

  pub first_good : (a : Term l) (Γ : Lambdas) (j : List ℕ) → drop (at + 1) w ≡ put a j → Scope w ls at scope Γ
      → GoodPart l w ls2 (at + 1) Γ a t second
  first_good a Γ j d s = good_part (first A.node A.infers a Γ j d s) refl

  pub two_bad : {ls3 : List ℕ} {r2 : Answer l} → Infers l w second scope ls2 ls3 r2 → {b : ℕ} → r2 ≡ bad b → Of l w at (Several l)
      → Infers l w at scope ls ls3 (bad b)
  unfolding infer fault size put Answers
  two_bad {ls3} {r2} J {b} z seen = whole_node reached_1 J tt (λ e k d. by e (seen e k d))
    where
      by : (e : Term l) → Several l e → Goal l w ls at scope ls3 (bad b) e
      by e (several_two o a c) Γ k d s =
          let y = past_word at _ w _ d in
          let g = first_good a Γ (put c k) y s in
          let x = no_part (part reached_1 J g.ends c Γ k (past_tree (term l) a (at + 1) w (put c k) y) s) z in
          rw (g.typed, x.0) (sym z ∙ x.1)
      by e (several_three a c f) Γ k d s =
          let y = past_word at _ w _ d in
          let g = first_good a Γ (put c (put f k)) y s in
          let x = no_part (part reached_1 J g.ends c Γ (put f k) (past_tree (term l) a (at + 1) w (put c (put f k)) y) s) z in
          rw (g.typed, x.0) (sym z ∙ x.1)

-- The second is whole, too.
pub record Two (l : Lang) (ls3 : List ℕ) (t u : Reference l) (third : ℕ) (w : List ℕ) (at : ℕ) (ls : List ℕ) (scope : ℕ) : Type 0 where
  pub now : List ℕ
  pub second : ℕ
  pub one : One l now t second w at ls scope
  pub infers : Infers l w second scope now ls3 (whole u third)

pub two_of : {l : Lang} {ls2 : List ℕ} {t : Reference l} {second : ℕ} {w : List ℕ} {at : ℕ} {ls : List ℕ} {scope : ℕ}
    → One l ls2 t second w at ls scope → {ls3 : List ℕ} {r : Answer l} → Infers l w second scope ls2 ls3 r
    → {u : Reference l} {third : ℕ} → r ≡ whole u third → Two l ls3 t u third w at ls scope
two_of {l} {ls2} {t} {second} {w} {at} {ls} {scope} A {ls3} J U =
    record { now = ls2; second = second; one = A; infers = subst (Infers l w second scope ls2 ls3) U J }

module _ {l : Lang} {ls3 : List ℕ} {t u : Reference l} {third : ℕ} {w : List ℕ} {at : ℕ} {ls : List ℕ} {scope : ℕ}
    (A : Two l ls3 t u third w at ls scope) where
  pub reached_2 : ComeTo w ls at third ls3
  reached_2 = further (reached_1 A.one) A.infers refl

  pub three_bad : {ls4 : List ℕ} {r3 : Answer l} → Infers l w third scope ls3 ls4 r3 → {b : ℕ} → r3 ≡ bad b → Of l w at (Shaped l s.If0)
      → Infers l w at scope ls ls4 (bad b)
  unfolding infer fault size put Answers
  three_bad {ls4} {r3} K {b} z seen = whole_node reached_2 K tt (λ e k d. as_if0 (λ e. Goal l w ls at scope ls4 (bad b) e) one e (seen e k d))
    where
      one : (a c f : Term l) → Goal l w ls at scope ls4 (bad b) (if0 a c f)
      one a c f Γ k d s =
          let y = past_word at _ w _ d in
          let g = first_good A.one a Γ (put c (put f k)) y s in
          let y' = past_tree (term l) a (at + 1) w (put c (put f k)) y in
          let i = good_part (part (reached_1 A.one) A.infers g.ends c Γ (put f k) y' s) refl in
          let y'' = past_tree (term l) c (at + 1 + size a) w (put f k) y' in
          let x = no_part (part reached_2 K i.ends f Γ k y'' s) z in
          rw (g.typed, i.typed, x.0) (sym z ∙ x.1)
