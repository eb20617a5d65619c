-- What a value becomes that is brought into the other language, at each type. Assumes nothing.
use Prim.Native.Nat.{ℕ}
use mathlib.Core.List.{List, [], ◌∷◌, ◌++◌}
use mathlib.Core.Path.{◌≡◌, refl, sym, ap, ◌∙◌}
use borrow.Author.Tests.{eq-eqb, ne_eqb}
use native.Mathlib.Omega.{arith}
use denote.Bor.{Bor}
use Rattle.calculus.specs.Trees.{Ty, N, list, ◌to◌, Lang, ml, sc, Term, num, ms, sm, cons}
use Rattle.calculus.specs.Words.{word, put, put_ty, words, words_ty}
use Rattle.calculus.specs.Kinds.{type, term}
use Rattle.calculus.specs.Reduction.{becomes, on_lambda, on_list, on_lump, to_ml, to_scheme}
use Rattle.calculus.proofs.Sizes.{put_ty_append, put_append}
use Rattle.nodes.specs.declared.kinds.Language.{Language}
use Rattle.nodes.specs.declared.kinds.Language.TheVariants.{Ml, Scheme}
use Rattle.nodes.specs.Table.{as_lang}
use Rattle.pieces.specs.declared.became.Became.{Became}
use Rattle.pieces.specs.declared.became.Became.TheVariants.{Nothing, Becomes}
use Rattle.pieces.specs.declared.became.Piece.TheVariants.{Word, Part, Led, Function}
use Rattle.pieces.specs.declared.became.Piece.TheVariants as piece
use Rattle.pieces.specs.declared.codes.Wrong.{Wrong}
use Rattle.pieces.specs.declared.codes.Wrong.TheVariants.{NoNumber, NoFunction, NoList}
use Rattle.pieces.specs.declared.values.Value.{Value}
use Rattle.pieces.specs.declared.values.Value.TheVariants.{Number, Lambda, Nil, Cons, Lump}
use Rattle.pieces.specs.Codes.{code}
use Rattle.pieces.specs.Languages.{other}
use Rattle.pieces.specs.Pieces.{cons_words, Tells}
use Rattle.pieces.specs.Values.{Split, Looks}
use Rattle.pieces.proofs.Looks.{lambda_shown, nil_shown, cons_shown, lump_shown, on_shown, no_number, no_lambda, no_list, no_lump}
use Rattle.conversions.specs.Chosen.{Misfit, AtType, AtLump, AtList, AtFunction}

-- A value that has not the type.
pub misfit_ml : {w : Wrong} (p : Bor (List ℕ)) → Misfit Ml w p.now (Becomes (Led (word 29 (code w)) p))
unfolding put
misfit_ml {w} p = record { of = λ t q. (_, refl, ap (λ (v : List ℕ). word 29 (code w) ∷ v) (sym q)) }

pub misfit_scheme : {w : Wrong} {ts : List ℕ} → Misfit Scheme w ts Nothing
misfit_scheme = record { of = λ t q. refl }

-- At the type N.
pub number_number : (i : Language) {ts vs : List ℕ} {n : ℕ} {r : Became} → Looks vs (Number n) → Tells r (becomes (num {l = as_lang i} n))
    → AtType i ts vs r N
unfolding to_ml to_scheme
number_number Ml s t = record { of = λ v p q. rw (on_shown _ _ (s.of sc v q)) t }
number_number Scheme s t = record { of = λ v p q. rw (on_shown _ _ (s.of ml v q)) t }

pub number_other : (i : Language) {ts vs : List ℕ} {v : Value} {r : Became} → Looks vs v → ((n : ℕ) → v ≡ Number n → ⊥)
    → Misfit i NoNumber ts r
    → AtType i ts vs r N
unfolding to_ml to_scheme
number_other Ml s h m = record { of = λ v p q. rw (no_number _ _ (s.of sc v q) h) (m.of N p) }
number_other Scheme s h m = record { of = λ v p q. rw (no_number _ _ (s.of ml v q) h) (m.of N p) }

-- At an owner's L.
pub lump_ml : {w : ℕ} {vs : List ℕ} → AtLump Ml w vs Nothing
unfolding to_ml
lump_ml = record { of = λ o e v q. refl }

pub lump_other : {w : ℕ} {vs : List ℕ} {v : Value} → Looks vs v → ((u : ℕ) (p : Bor (List ℕ)) → v ≡ Lump u p → ⊥) → AtLump Scheme w vs Nothing
unfolding to_scheme
lump_other s h = record { of = λ o e v q. rw (no_lump _ _ (s.of ml v q) h) refl }

pub lump_kept : {w u : ℕ} {vs : List ℕ} {p : Bor (List ℕ)} → Looks vs (Lump u p) → (u ≡ w → ⊥) → AtLump Scheme w vs Nothing
unfolding to_scheme on_lump
lump_kept s h =
    record {
      of = λ o e v q.
          let z = lump_shown (s.of ml v q) in rw (z.2, ne_eqb o z.0 (λ y. h (omega (arith, z.3, e, y)))) refl;
    }

pub lump_opened : {w u : ℕ} {vs : List ℕ} {p : Bor (List ℕ)} → Looks vs (Lump u p) → u ≡ w → AtLump Scheme w vs (Becomes (Part p))
unfolding to_scheme on_lump
lump_opened s h =
    record {
      of = λ o e v q.
          let z = lump_shown (s.of ml v q) in rw (z.2, eq-eqb o z.0 (omega (arith, z.3, e, h))) (_, refl, sym z.4);
    }

-- At a type {t}.
pub nil_ml : {ts vs : List ℕ} {p ps : Bor (List ℕ)} → Looks vs (Nil p) → AtList Ml ts ps.now vs (Becomes (Led 24 ps))
unfolding to_ml on_list put
nil_ml s =
    record {
      of = λ t e. record { of = λ v p q. rw (nil_shown (s.of sc v q)).1 (_, refl, ap (λ (x : List ℕ). 24 ∷ x) (sym e)) };
    }

pub nil_scheme : {ts ps vs : List ℕ} {p : Bor (List ℕ)} → Looks vs (Nil p) → AtList Scheme ts ps vs (Becomes (Word 39))
unfolding to_scheme on_list put
nil_scheme s = record { of = λ t e. record { of = λ v p q. rw (nil_shown (s.of ml v q)).1 (_, refl, refl) } }

cons_words_lem : (q m : ℕ) (l : Lang) (t : Ty) (a b : Term l)
    → q ∷ m ∷ put_ty t (put a (m ∷ 3 ∷ put_ty t (put b []))) ≡ q ∷ ((m ∷ put_ty t []) ++ (put a [] ++ ((m ∷ 3 ∷ put_ty t []) ++ put b [])))
cons_words_lem q m l t a b =
    ap (λ (v : List ℕ). q ∷ m ∷ v)
    (put_ty_append t [] (put a (m ∷ 3 ∷ put_ty t (put b [])))
    ∙ ap (λ (v : List ℕ). put_ty t [] ++ v)
    (put_append a [] (m ∷ 3 ∷ put_ty t (put b [])) ∙ ap (λ (v : List ℕ). put a [] ++ (m ∷ 3 ∷ v)) (put_ty_append t [] (put b []))))

module _ {x y z : List ℕ} (t : Ty) (e : x ≡ words_ty t) where
  cons_in_ml : (a b : Term sc) → y ≡ words a → z ≡ words b → words (cons (ms t a) (ms (list t) b)) ≡ cons_words Ml x y z
  unfolding put put_ty
  cons_in_ml a b h g = rw (e, h, g) (cons_words_lem 25 30 sc t a b)

  cons_in_scheme : (a b : Term ml) → y ≡ words a → z ≡ words b → words (cons (sm t a) (sm (list t) b)) ≡ cons_words Scheme x y z
  unfolding put put_ty
  cons_in_scheme a b h g = rw (e, h, g) (cons_words_lem 40 45 ml t a b)

pub cons_brought : (i : Language) {ts vs : List ℕ} {a p q ps : Bor (List ℕ)} → Looks vs (Cons a) → Split a.now p.now q.now
    → AtList i ts ps.now vs (Becomes (piece.Cons i ps p q))
unfolding to_ml to_scheme on_list
cons_brought Ml s d =
    record {
      of = λ t e. record {
        of = λ v p q.
            let z = cons_shown (s.of sc v q) in
            let y = d.of (term sc) z.0 (words z.1) z.3 in rw z.2 (_, refl, cons_in_ml t e z.0 z.1 y.0 y.1);
      };
    }
cons_brought Scheme s d =
    record {
      of = λ t e. record {
        of = λ v p q.
            let z = cons_shown (s.of ml v q) in
            let y = d.of (term ml) z.0 (words z.1) z.3 in rw z.2 (_, refl, cons_in_scheme t e z.0 z.1 y.0 y.1);
      };
    }

pub list_other : (i : Language) {ts ps vs : List ℕ} {v : Value} {r : Became} → Looks vs v → ((p : Bor (List ℕ)) → v ≡ Nil p → ⊥)
    → ((p : Bor (List ℕ)) → v ≡ Cons p → ⊥) → Misfit i NoList ts r → AtList i ts ps vs r
unfolding to_ml to_scheme
list_other Ml s h g m = record { of = λ t e. record { of = λ v p q. rw (no_list _ _ _ (s.of sc v q) h g) (m.of (list t) p) } }
list_other Scheme s h g m = record { of = λ t e. record { of = λ v p q. rw (no_list _ _ _ (s.of ml v q) h g) (m.of (list t) p) } }

-- At a type t to u.
function_words_lem : (x y z : ℕ) (l : Lang) (t u : Ty) (v : Term l) (k : List ℕ)
    → x ∷ put_ty u (y ∷ put v (z ∷ put_ty t k)) ≡ (x ∷ put_ty u []) ++ ((y ∷ put v []) ++ ((z ∷ put_ty t []) ++ k))
function_words_lem x y z l t u v k =
    ap (λ (w : List ℕ). x ∷ w)
    (put_ty_append u [] (y ∷ put v (z ∷ put_ty t k))
    ∙ ap (λ (w : List ℕ). put_ty u [] ++ (y ∷ w)) (put_append v [] (z ∷ put_ty t k) ∙ ap (λ (w : List ℕ). put v [] ++ (z ∷ w))
    (put_ty_append t [] k)))

pub function_brought : (i : Language) {ts ps : List ℕ} {b f u vs : Bor (List ℕ)} → Looks vs.now (Lambda b) → Split ps f.now u.now
    → AtFunction i ts ps vs.now (Becomes (Function i f u vs))
unfolding to_ml to_scheme on_lambda put
function_brought Ml s d =
    record {
      of = λ t u e. record {
        of = λ v p q.
            let z = d.of type t (words_ty u) e in
            let y = put_ty_append t [] _ ∙ ap (λ (w : List ℕ). put_ty t [] ++ w) (function_words_lem 30 35 45 sc t u v (16 ∷ [])) in
            rw (lambda_shown (s.of sc v q)).2 (_, refl, rw (z.0, z.1, q) (ap (λ (w : List ℕ). 18 ∷ w) y));
      };
    }
function_brought Scheme s d =
    record {
      of = λ t u e. record {
        of = λ v p q.
            let z = d.of type t (words_ty u) e in
            rw (lambda_shown (s.of ml v q)).2
            (_, refl, rw (z.0, z.1, q) (ap (λ (w : List ℕ). 34 ∷ w) (function_words_lem 45 19 30 ml t u v (32 ∷ []))));
      };
    }

pub function_other : (i : Language) {ts ps vs : List ℕ} {v : Value} {r : Became} → Looks vs v → ((p : Bor (List ℕ)) → v ≡ Lambda p → ⊥)
    → Misfit i NoFunction ts r → AtFunction i ts ps vs r
unfolding to_ml to_scheme
function_other Ml s h m = record { of = λ t u e. record { of = λ v p q. rw (no_lambda _ _ (s.of sc v q) h) (m.of (t to u) p) } }
function_other Scheme s h m = record { of = λ t u e. record { of = λ v p q. rw (no_lambda _ _ (s.of ml v q) h) (m.of (t to u) p) } }
