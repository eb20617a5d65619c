-- The ways out of the typing at a node whose parts are whole. Assumes nothing.
use Prim.Native.Nat.{ℕ, suc, ◌+◌, ◌≤◌, ◌<◌}
use mathlib.Core.List.{List, ◌∷◌}
use mathlib.Core.Logic.{inl}
use mathlib.Core.Option.{Option}
use mathlib.Core.Path.{◌≡◌, refl, sym, ap, ◌∙◌, subst}
use lib.ListN.{length, get_or, set, drop}
use native.Mathlib.Omega.{arith}
use Rattle.std.proofs.Common.{Option as Found, Some}
use Rattle.calculus.specs.Trees.{Ty, ◌to◌, Lang, ml, sc, Static, Op1, HD, TL, FIX, NULL?, TEST, Op2, APP, ADD, SUB, CONS, Term, lam, op1, op2, if0}
use Rattle.calculus.specs.Words.{put, size, size_ty, size_static}
use Rattle.calculus.specs.Kinds.{term}
use Rattle.calculus.specs.Typing.{of}
use Rattle.calculus.specs.Inference.{infer, result1, result2, result3}
use Rattle.calculus.specs.Faults.{fault}
use Rattle.calculus.proofs.Sizes.{past_word, past_tree}
use Rattle.nodes.specs.declared.kinds.Operator1.{Operator1}
use Rattle.nodes.specs.declared.kinds.Operator2.{Operator2}
use Rattle.nodes.specs.declared.kinds.Shape.TheVariants as s
use Rattle.nodes.specs.Table.{operator1, operator2}
use Rattle.nodes.proofs.Terms as node
use Rattle.nodes.proofs.Terms.{Shaped}
use Rattle.types.specs.Links.{LinkTo}
use Rattle.types.specs.References.{shape_at, Written, Means}
use Rattle.types.specs.Comparisons.{TypeEnd}
use Rattle.types.proofs.Meanings.{tree_shape, means_in}
use Rattle.types.proofs.Frames.{means_widen, means_frame}
use Rattle.typing.specs.Answers.{Reference, Answer, whole, bad, Refers, EndsAt, Answers, conclusion}
use Rattle.typing.specs.Operators.{Finds, as_op2, Finds1, Finds2, Result1, Result3}
use Rattle.typing.proofs.RuleResults.{answered, passed}
use Rattle.typing.specs.Infers.{Infers}
use Rattle.typing.proofs.Lasting.{refers_later, no_part, good_part, passes_on}
use Rattle.typing.proofs.Telling.{Of, AtNode, parted_1, several_2, as_lambda, as_one_part, as_two_parts, as_if0}
use Rattle.typing.proofs.OverParts.{ComeTo, Goal, further, whole_node, part, behind_it, inside, body, one_bad, One, one_of, reached_1, first_good}
use Rattle.typing.proofs.OverParts.{two_bad, Two, two_of, reached_2, three_bad}

-- The answer r for an operator of one part, and of two, and for if0, by what the parts' references mean.
pub record Concluded1 (l : Lang) (w ls : List ℕ) (x : Operator1) (at : ℕ) (t : Reference l) (next : ℕ) (r : Answer l) : Type 0 where
  pub passes : EndsAt next r
  pub is : (o : Op1 l) (a : Static l) → x ≡ operator1 o → shape_at w at ≡ Some (s.Operator1 x) → Refers l w ls at next t a
      → Answers l w ls at next at next (result1 o a) r

pub record Concluded2 (l : Lang) (w ls : List ℕ) (x : Operator2) (at : ℕ) (t u : Reference l) (next : ℕ) (r : Answer l) : Type 0 where
  pub passes : EndsAt next r
  pub is : (o : Op2) (a b : Static l) → x ≡ operator2 o → Refers l w ls at next t a → Refers l w ls at next u b
      → Answers l w ls at next at next (result2 l o a b) r

pub record Concluded3 (l : Lang) (w ls : List ℕ) (at : ℕ) (t u v : Reference l) (next : ℕ) (r : Answer l) : Type 0 where
  pub passes : EndsAt next r
  pub is : (a b c : Static l) → Refers l w ls at next t a → Refers l w ls at next u b → Refers l w ls at next v c
      → Answers l w ls at next at next (result3 l a b c) r

-- ML's rules answer so.
module _ (w ls : List ℕ) (at next : ℕ) (p : Found ℕ) (r : Answer ml) (e : r ≡ conclusion at p next) where
  to_next : EndsAt next r
  to_next = subst (EndsAt next) (sym e) (passed at p next)

  found_to : (o : Option Ty) → Finds w ls at next o p → Answers ml w ls at next at next o r
  found_to o f = subst (Answers ml w ls at next at next o) (sym e) (answered w ls at next at p next o f)

module _ {w ls : List ℕ} {at next : ℕ} {r : Answer ml} (p : Found ℕ) (e : r ≡ conclusion at p next) (h : next ≤ length w) where
  pub by_result1 : {t : ℕ} {x : Operator1} → Result1 x w ls at t p → Concluded1 ml w ls x at t next r
  by_result1 {t} {x} f =
      record {
        passes = to_next w ls at next p r e;
        is = λ o a q k m. found_to w ls at next p r e (result1 o a) (finds o q k a at next h m);
      }
    where
      finds : (o : Op1 ml) → x ≡ operator1 o → shape_at w at ≡ Some (s.Operator1 x) → Finds1 o w ls t p
      finds HD q k = subst (λ (y : Operator1). Result1 y w ls at t p) q f
      finds TL q k = subst (λ (y : Operator1). Result1 y w ls at t p) q f
      finds FIX q k = subst (λ (y : Operator1). Result1 y w ls at t p) q f
      finds NULL? q k = subst (λ (y : Operator1). Result1 y w ls at t p) q f x k

  pub by_result2 : {t u : ℕ} {x : Operator2} → Finds2 (as_op2 x) w ls t u p → Concluded2 ml w ls x at t u next r
  by_result2 {t} {u} {x} f =
      record {
        passes = to_next w ls at next p r e;
        is = λ o a b q m n.
            found_to w ls at next p r e (result2 ml o a b) (subst (λ (i : Op2). Finds2 i w ls t u p) (ap as_op2 q ∙ same o) f a b at next h m n);
      }
    where
      same : (o : Op2) → as_op2 (operator2 o) ≡ o
      same APP = refl
      same ADD = refl
      same SUB = refl
      same CONS = refl

  pub by_result3 : {t u v : ℕ} → Result3 w ls t u v p → Concluded3 ml w ls at t u v next r
  by_result3 f =
      record {
        passes = to_next w ls at next p r e;
        is = λ a b c m n k. found_to w ls at next p r e (result3 ml a b c) (f a b c at next h m n k);
      }

-- Scheme asks nothing of its operators.
module _ (w ls : List ℕ) (at next : ℕ) where
  pub scheme1 : (x : Operator1) → Concluded1 sc w ls x at tt next (whole tt next)
  unfolding Answers
  scheme1 x = record { passes = refl; is = by }
    where
      by : (o : Op1 sc) (a : Static sc) → x ≡ operator1 o → shape_at w at ≡ Some (s.Operator1 x) → Refers sc w ls at next tt a
          → Answers sc w ls at next at next (result1 o a) (whole tt next)
      by HD a q k m = (tt, refl, tt)
      by TL a q k m = (tt, refl, tt)
      by (TEST x) a q k m = (tt, refl, tt)

  pub scheme2 : (x : Operator2) → Concluded2 sc w ls x at tt tt next (whole tt next)
  unfolding Answers
  scheme2 x = record { passes = refl; is = by }
    where
      by : (o : Op2) (a b : Static sc) → x ≡ operator2 o → Refers sc w ls at next tt a → Refers sc w ls at next tt b
          → Answers sc w ls at next at next (result2 sc o a b) (whole tt next)
      by APP a b q m n = (tt, refl, tt)
      by ADD a b q m n = (tt, refl, tt)
      by SUB a b q m n = (tt, refl, tt)
      by CONS a b q m n = (tt, refl, tt)

  pub scheme3 : Concluded3 sc w ls at tt tt tt next (whole tt next)
  unfolding Answers
  scheme3 = record { passes = refl; is = λ a b c m n k. (tt, refl, tt) }

-- One part.
module _ {l : Lang} {ls2 : List ℕ} {t : Reference l} {second : ℕ} {w : List ℕ} {at : ℕ} {ls : List ℕ} {scope : ℕ}
    (A : One l ls2 t second w at ls scope) where
  pub an_operator_1 : (x : Operator1) {r : Answer l} → Concluded1 l w ls2 x at t second r → Of l w at (Shaped l (s.Operator1 x))
      → Infers l w at scope ls ls2 r
  unfolding infer fault size put
  an_operator_1 x {r} f seen =
      whole_node (behind_it A.node ls) A.infers (passes_on at (length w) second r (reached_1 A).past (reached_1 A).within f.passes)
      (λ e k d. as_one_part (λ e. Goal l w ls at scope ls2 r e) x one e (seen e k d))
    where
      shape_is : (o : Op1 l) (a : Term l) (k : List ℕ) → drop at w ≡ put (op1 o a) k → x ≡ operator1 o → shape_at w at ≡ Some (s.Operator1 x)
      shape_is o a k d q =
          tree_shape (term l) w at (op1 o a) k A.node.behind d ∙ ap (λ (y : Operator1). Some (s.Operator1 y)) (sym q)

      one : (o : Op1 l) (a : Term l) → x ≡ operator1 o → Goal l w ls at scope ls2 r (op1 o a)
      one o a q Γ k d s =
          let g = first_good A a Γ k (past_word at _ w _ d) s in
          let n : second ≡ at + suc (size a) = omega (arith, g.ends) in
          rw g.typed
          (subst (λ (i : ℕ). Answers l w ls2 at i at i (result1 o g.static) r) n
          (f.is o g.static q (shape_is o a k d q)
          (refers_later l w ls2 ls2 (at + 1) second at second t g.static (omega arith) (omega arith) (λ i j. refl) g.refers)))

-- Two parts.
module _ {l : Lang} {ls3 : List ℕ} {t u : Reference l} {third : ℕ} {w : List ℕ} {at : ℕ} {ls : List ℕ} {scope : ℕ}
    (A : Two l ls3 t u third w at ls scope) where
  pub an_operator_2 : (x : Operator2) {r : Answer l} → Concluded2 l w ls3 x at t u third r → Of l w at (Shaped l (s.Operator2 x))
      → Infers l w at scope ls ls3 r
  unfolding infer fault size put
  an_operator_2 x {r} f seen =
      whole_node (reached_1 A.one) A.infers (passes_on at (length w) third r (reached_2 A).past (reached_2 A).within f.passes)
      (λ e k d. as_two_parts (λ e. Goal l w ls at scope ls3 r e) x one e (seen e k d))
    where
      one : (o : Op2) (a c : Term l) → x ≡ operator2 o → Goal l w ls at scope ls3 r (op2 o a c)
      one o a c q Γ k d s =
          let y = past_word at _ w _ d in
          let g = first_good A.one a Γ (put c k) y s in
          let p = at + 1 + size a in
          let j = good_part (part (reached_1 A.one) A.infers g.ends c Γ k (past_tree (term l) a (at + 1) w (put c k) y) s) refl in
          let n : third ≡ at + suc (size a + size c) = omega (arith, j.ends) in
          let m = refers_later l w A.now ls3 (at + 1) A.second at third t g.static (omega arith) (omega (arith, g.ends, j.ends))
          A.infers.kept g.refers in
          let m' = refers_later l w ls3 ls3 p third at third u j.static (omega arith) (omega arith) (λ i v. refl) j.refers in
          rw (g.typed, j.typed)
          (subst (λ (i : ℕ). Answers l w ls3 at i at i (result2 l o g.static j.static) r) n
          (f.is o g.static j.static q m m'))

  -- Three.
  pub an_if0 : {ls4 : List ℕ} {r3 : Answer l} (K : Infers l w third scope ls3 ls4 r3) {v : Reference l} {next : ℕ} → r3 ≡ whole v next
      → {r : Answer l} → Concluded3 l w ls4 at t u v next r → Of l w at (Shaped l s.If0) → Infers l w at scope ls ls4 r
  unfolding infer fault size put
  an_if0 {ls4} K {v} {next} z {r} f seen =
      whole_node (reached_2 A) K (passes_on at (length w) next r reached_3.past reached_3.within f.passes)
      (λ e k d. as_if0 (λ e. Goal l w ls at scope ls4 r e) one e (seen e k d))
    where
      reached_3 : ComeTo w ls at next ls4
      reached_3 = further (reached_2 A) K z

      one : (a c e : Term l) → Goal l w ls at scope ls4 r (if0 a c e)
      one a c e Γ k d s =
          let y = past_word at _ w _ d in
          let g = first_good A.one a Γ (put c (put e k)) y s in
          let p = at + 1 + size a in
          let y' = past_tree (term l) a (at + 1) w (put c (put e k)) y in
          let j = good_part (part (reached_1 A.one) A.infers g.ends c Γ (put e k) y' s) refl in
          let p' = p + size c in
          let i = good_part (part (reached_2 A) K j.ends e Γ k (past_tree (term l) c p w (put e k) y') s) z in
          let n : next ≡ at + suc (size a + size c + size e) = omega (arith, i.ends) in
          let m = refers_later l w A.now ls4 (at + 1) A.second at next t g.static (omega arith) (omega (arith, g.ends, i.ends))
          (λ z h. K.kept z (omega (arith, h, g.ends, j.ends)) ∙ A.infers.kept z h) g.refers in
          let m' = refers_later l w ls3 ls4 p third at next u j.static (omega arith) (omega (arith, j.ends, i.ends)) K.kept j.refers in
          let m'' = refers_later l w ls4 ls4 p' next at next v i.static (omega arith) (omega arith) (λ z h. refl) i.refers in
          rw (g.typed, j.typed, i.typed)
          (subst (λ (z : ℕ). Answers l w ls4 at z at z (result3 l g.static j.static i.static) r) n
          (f.is g.static j.static i.static m m' m''))

-- A lambda: its body is inferred, inside it.
module _ {w : List ℕ} {at : ℕ} (N : AtNode w at) (scope x : ℕ) (ls : List ℕ) (linked : length ls ≡ length w) (link : LinkTo scope x) where
  lambda_bad : {l : Lang} {start : ℕ} {ls2 : List ℕ} {r1 : Answer l} → Infers l w start at (set ls at x) ls2 r1 → at < start → start ≤ length w
      → ((t : Static l) (b : Term l) (k : List ℕ) → drop at w ≡ put (lam t b) k → start ≡ at + 1 + size_static l t) → Of l w at (Shaped l s.Lambda)
      → {b : ℕ} → r1 ≡ bad b → Infers l w at scope ls ls2 (bad b)
  unfolding infer fault size put Answers
  lambda_bad {l} {start} {ls2} {r1} I past within starts seen {b} z =
      whole_node (inside N scope x ls linked link past within) I tt
      (λ e k d. as_lambda (λ e. Goal l w ls at scope ls2 (bad b) e) one e (seen e k d))
    where
      one : (τ : Static l) (c : Term l) → Goal l w ls at scope ls2 (bad b) (lam τ c)
      one τ c Γ k d s =
          let q = starts τ c k d in
          let y = no_part (body N scope x ls linked link I τ q c Γ k d s) z in
          rw y.0 (sym z ∙ y.1 ∙ ap (λ (p : ℕ). bad (fault p (of l τ ∷ Γ) c)) q)

  module _ {start : ℕ} (S : TypeEnd w (at + 1) start) {ls2 : List ℕ} {r1 : Answer ml} (I : Infers ml w start at (set ls at x) ls2 r1) where
    came : ComeTo w ls at start (set ls at x)
    came = inside N scope x ls linked link (omega (arith, S.least)) S.most

    pub ml_lambda_bad : Of ml w at (Shaped ml s.Lambda) → {b : ℕ} → r1 ≡ bad b → Infers ml w at scope ls ls2 (bad b)
    unfolding put
    ml_lambda_bad seen z = lambda_bad I (omega (arith, S.least)) S.most (λ t b k d. S.is t (put b k, past_word at _ w _ d)) seen z

    pub an_ml_lambda : {t second : ℕ} → r1 ≡ whole t second → Of ml w at (Shaped ml s.Lambda) → {ls' : List ℕ} → length ls' ≡ length ls2
        → ((i : ℕ) → (i ≡ at → ⊥) → get_or ls' i 0 ≡ get_or ls2 i 0) → LinkTo t (get_or ls' at 0) → Infers ml w at scope ls ls' (whole at second)
    unfolding infer fault size put Answers Means
    an_ml_lambda {t} {second} z seen {ls'} same kept own =
        record {
          same = same ∙ G.same;
          kept = λ i j. kept i (λ q. omega (arith, q)) ∙ G.kept i j;
          advances = (G.past, G.within);
          is = λ e Γ k d s. record { answer = by e (seen e k d) Γ k d s };
        }
      where
        G : ComeTo w ls at second ls2
        G = further came I z

        by : (e : Term ml) → Shaped ml s.Lambda e → Goal ml w ls at scope ls' (whole at second) e
        by e (node.a_lambda {t = τ} {b = b}) Γ k d s =
            let p = at + 1 + size_ty τ in
            let y : Written w (at + 1) τ = (put b k, past_word at _ w _ d) in
            let g = good_part (body N scope x ls linked link I τ (S.is τ y) b Γ k d s) z in
            let u = g.static in
            let n : second ≡ at + suc (size_ty τ + size b) = omega (arith, g.ends, S.is τ y) in
            let inner = means_in w ls2 start second t u g.refers in
            let m = means_widen w ls' start second (at + 1) second t u (omega (arith, S.least)) (omega arith)
            (means_frame w ls2 ls' start second t u (λ n x y. kept n (λ z. omega (arith, x, z, S.least))) g.refers) in
            let refers : Means w ls' at second at (τ to u) = (
              y,
              inl (
                tree_shape (term ml) w at (lam τ b) k N.behind d,
                omega arith,
                G.past,
                subst (λ (n : ℕ). Means w ls' (at + 1) second n u) (sym (own (omega (arith, inner.1, N.few)))) m,
              ),
            ) in
            rw g.typed (at, ap (whole at) n, subst (λ (i : ℕ). Means w ls' at i at (τ to u)) n refers)

  pub a_scheme_lambda : {ls2 : List ℕ} {r : Answer sc} → Infers sc w (at + 1) at (set ls at x) ls2 r → Of sc w at (Shaped sc s.Lambda)
      → Infers sc w at scope ls ls2 r
  unfolding infer fault size put Answers
  a_scheme_lambda {ls2} {r} I seen = by r I
    where
      came : ComeTo w ls at (at + 1) (set ls at x)
      came = inside N scope x ls linked link (omega arith) (omega (arith, N.within))

      one : {n : ℕ} → Infers sc w (at + 1) at (set ls at x) ls2 (whole tt n) → (e : Term sc) → Shaped sc s.Lambda e
          → Goal sc w ls at scope ls2 (whole tt n) e
      one {n} I e (node.a_lambda {t = τ} {b = c}) Γ k d s =
          let g = good_part (body N scope x ls linked link I τ (omega arith) c Γ k d s) refl in
          rw g.typed (tt, ap (whole tt) (omega (arith, g.ends)), tt)

      by : (r : Answer sc) → Infers sc w (at + 1) at (set ls at x) ls2 r → Infers sc w at scope ls ls2 r
      by (whole v n) I = whole_node came I ((further came I refl).past, (further came I refl).within) (λ e k d. one I e (seen e k d))
      by (bad b) I = lambda_bad I (omega arith) (omega (arith, N.within)) (λ t b k d. omega arith) seen refl

-- In Scheme a node's answer is that of its last part.
module _ {w : List ℕ} {at : ℕ} {ls ls' : List ℕ} {scope : ℕ} where
  pub scheme_operator_1 : (x : Operator1) → AtNode w at → {r : Answer sc} → Infers sc w (at + 1) scope ls ls' r
      → Of sc w at (Shaped sc (s.Operator1 x))
      → Infers sc w at scope ls ls' r
  scheme_operator_1 x N {r} K seen = by r K
    where
      by : (r : Answer sc) → Infers sc w (at + 1) scope ls ls' r → Infers sc w at scope ls ls' r
      by (whole v next) K = an_operator_1 (one_of N K refl) x (scheme1 w ls' at next x) seen
      by (bad b) K = one_bad N K refl (parted_1 sc w at x seen)

  pub scheme_operator_2 : (x : Operator2) {ls2 : List ℕ} {second : ℕ} → One sc ls2 tt second w at ls scope → {r : Answer sc}
      → Infers sc w second scope ls2 ls' r → Of sc w at (Shaped sc (s.Operator2 x)) → Infers sc w at scope ls ls' r
  scheme_operator_2 x {ls2} {second} A {r} K seen = by r K
    where
      by : (r : Answer sc) → Infers sc w second scope ls2 ls' r → Infers sc w at scope ls ls' r
      by (whole v next) K = an_operator_2 (two_of A K refl) x (scheme2 w ls' at next x) seen
      by (bad b) K = two_bad A K refl (several_2 sc w at x seen)

  pub scheme_if0 : {ls3 : List ℕ} {third : ℕ} → Two sc ls3 tt tt third w at ls scope → {r : Answer sc}
      → Infers sc w third scope ls3 ls' r → Of sc w at (Shaped sc s.If0) → Infers sc w at scope ls ls' r
  scheme_if0 {ls3} {third} A {r} K seen = by r K
    where
      by : (r : Answer sc) → Infers sc w third scope ls3 ls' r → Infers sc w at scope ls ls' r
      by (whole v next) K = an_if0 A K refl (scheme3 w ls' at next) seen
      by (bad b) K = three_bad A K refl seen
