-- What its part shows tells of an operator of one part. Assumes nothing.
use Prim.Native.Nat.{ℕ, zero, suc, ◌/◌, ◌<◌}
use mathlib.Core.Bool.{Bool, true, false, not}
use mathlib.Core.List.{List, ◌∷◌}
use mathlib.Core.Path.{◌≡◌, refl, sym, ap, ◌∙◌}
use lib.ListN.{length, get_or, drop}
use native.Mathlib.Omega.{arith}
use denote.Bor.{Bor}
use mir.Val.{bool_byte}
use Rattle.calculus.specs.Trees.{Lang, ml, sc, Test, is_fun, is_list, is_null, is_num, Op1, HD, TL, FIX, NULL?, TEST, Term, num, op1, fix}
use Rattle.calculus.specs.Words.{word, by, put, put_ty, words, test_number}
use Rattle.calculus.specs.Kinds.{term, test_of}
use Rattle.calculus.specs.Reduction.{Form, form, becomes, amiss, answer, on_lambda, on_list, contract1}
use Rattle.nodes.specs.declared.kinds.Language.{Language}
use Rattle.nodes.specs.declared.kinds.Language.TheVariants.{Ml, Scheme}
use Rattle.nodes.specs.declared.kinds.Operator1.{Operator1}
use Rattle.nodes.specs.declared.kinds.Operator1.TheVariants.{Hd, Tl, Fix, Null}
use Rattle.nodes.specs.declared.kinds.Operator1.TheVariants as code
use Rattle.nodes.specs.Table.{as_lang, operator1}
use Rattle.pieces.specs.declared.became.Became.{Became}
use Rattle.pieces.specs.declared.became.Became.TheVariants.{Nothing, Becomes}
use Rattle.pieces.specs.declared.became.Piece.TheVariants.{Part, Led, Led2, Substituted}
use Rattle.pieces.specs.declared.values.Value.{Value}
use Rattle.pieces.specs.declared.values.Value.TheVariants.{Number, Lambda, Nil, Cons}
use Rattle.pieces.specs.Pieces.{Tells}
use Rattle.pieces.specs.Values.{Split, BodyOf, Shows, a_number, a_lambda, a_nil, a_cons, no_value, Looks}
use Rattle.pieces.proofs.Looks.{lambda_shown, nil_shown, cons_shown, no_lambda, no_list}
use Rattle.unary.specs.Chosen.{OfHead, OfTail, OfFix, OfNull, OfTest, Tested, OfOne}

-- hd and tl.
module _ {i : Language} where
  pub head_cons : {p q : Bor (List ℕ)} {k : List ℕ} → Split p.now q.now k → OfHead i (Cons p) (Becomes (Part q))
  unfolding contract1 on_list
  head_cons d =
      record { of = λ a s. let z = cons_shown s in rw z.2 (_, refl, sym (d.of (term (as_lang i)) z.0 (words z.1) z.3).0) }

  pub head_nil : {p : Bor (List ℕ)} → OfHead i (Nil p) (Becomes (Led (word (by (as_lang i) 29 44) 4) p))
  unfolding contract1 on_list put
  head_nil =
      record { of = λ a s. let z = nil_shown s in rw z.1 (_, refl, ap (λ (v : List ℕ). word (by (as_lang i) 29 44) 4 ∷ v) (sym z.2)) }

  pub tail_cons : {p r : Bor (List ℕ)} {k : List ℕ} → Split p.now k r.now → OfTail i (Cons p) (Becomes (Part r))
  unfolding contract1 on_list
  tail_cons d =
      record { of = λ a s. let z = cons_shown s in rw z.2 (_, refl, sym (d.of (term (as_lang i)) z.0 (words z.1) z.3).1) }

  module _ {v : Value} {r : Became} (h : (p : Bor (List ℕ)) → v ≡ Nil p → ⊥) (g : (p : Bor (List ℕ)) → v ≡ Cons p → ⊥)
      (t : Tells r (amiss (as_lang i) 3)) where
    pub head_other : OfHead i v r
    unfolding contract1
    head_other = record { of = λ a s. rw (no_list _ _ _ s h g) t }

    pub tail_other : OfTail i v r
    unfolding contract1
    tail_other = record { of = λ a s. rw (no_list _ _ _ s h g) t }

pub tail_nil_ml : {p : Bor (List ℕ)} → OfTail Ml (Nil p) (Becomes (Led2 (word 29 4) 3 p))
unfolding contract1 on_list put put_ty
tail_nil_ml = record { of = λ a s. let z = nil_shown s in rw z.1 (_, refl, ap (λ (v : List ℕ). word 29 4 ∷ 3 ∷ v) (sym z.2)) }

pub tail_nil_scheme : {p : Bor (List ℕ)} {r : Became} → Tells r (amiss sc 4) → OfTail Scheme (Nil p) r
unfolding contract1 on_list amiss
tail_nil_scheme t = record { of = λ a s. rw (nil_shown s).1 t }

-- fix, and null? of ML.
pub fix_lambda : {p body node : Bor (List ℕ)} → BodyOf ml p.now body.now → OfFix node.now (Lambda p) (Becomes (Substituted Ml body node))
unfolding contract1 on_lambda
fix_lambda g =
    record { of = λ a q s. let z = lambda_shown s in rw z.2 (_, refl, (fix a, z.1, refl, g.of z.0 z.1 z.3, q, refl)) }

pub fix_other : {v : Value} {ws : List ℕ} → ((p : Bor (List ℕ)) → v ≡ Lambda p → ⊥) → OfFix ws v Nothing
unfolding contract1
fix_other h = record { of = λ a q s. rw (no_lambda _ _ s h) refl }

pub null_nil : {p : Bor (List ℕ)} {r : Became} → Tells r (becomes (num {l = ml} 0)) → OfNull (Nil p) r
unfolding contract1 on_list
null_nil t = record { of = λ a s. rw (nil_shown s).1 t }

pub null_cons : {p : Bor (List ℕ)} {r : Became} → Tells r (becomes (num {l = ml} 1)) → OfNull (Cons p) r
unfolding contract1 on_list
null_cons t = record { of = λ a s. rw (cons_shown s).2 t }

pub null_other : {v : Value} → ((p : Bor (List ℕ)) → v ≡ Nil p → ⊥) → ((p : Bor (List ℕ)) → v ≡ Cons p → ⊥) → OfNull v Nothing
unfolding contract1
null_other h g = record { of = λ a s. rw (no_list _ _ _ s h g) refl }

-- Scheme's tests.
no_function : {v : Value} {f : Form sc} → Shows sc v f → ((p : Bor (List ℕ)) → v ≡ Lambda p → ⊥) → answer is_fun f ≡ 1
unfolding answer
no_function (a_number n) h = refl
no_function (a_lambda p t b g) h = absurd (h p refl)
no_function (a_nil p t g) h = refl
no_function (a_cons p x y g) h = refl
no_function no_value h = refl

no_nil : {v : Value} {f : Form sc} → Shows sc v f → ((p : Bor (List ℕ)) → v ≡ Nil p → ⊥) → answer is_null f ≡ 1
unfolding answer
no_nil (a_number n) h = refl
no_nil (a_lambda p t b g) h = refl
no_nil (a_nil p t g) h = absurd (h p refl)
no_nil (a_cons p x y g) h = refl
no_nil no_value h = refl

neither : {v : Value} {f : Form sc} → Shows sc v f → ((p : Bor (List ℕ)) → v ≡ Nil p → ⊥) → ((p : Bor (List ℕ)) → v ≡ Cons p → ⊥)
    → answer is_list f ≡ 1
unfolding answer
neither (a_number n) h i = refl
neither (a_lambda p t b g) h i = refl
neither (a_nil p t g) h i = absurd (h p refl)
neither (a_cons p x y g) h i = absurd (i p refl)
neither no_value h i = refl

no_digits : {v : Value} {f : Form sc} → Shows sc v f → ((n : ℕ) → v ≡ Number n → ⊥) → answer is_num f ≡ 1
unfolding answer
no_digits (a_number n) h = absurd (h n refl)
no_digits (a_lambda p t b g) h = refl
no_digits (a_nil p t g) h = refl
no_digits (a_cons p x y g) h = refl
no_digits no_value h = refl

module _ {v : Value} where
  pub is_no_function : ((p : Bor (List ℕ)) → v ≡ Lambda p → ⊥) → OfTest 0 v false
  is_no_function h = record { of = λ a s. no_function s h }

  pub is_no_list : ((p : Bor (List ℕ)) → v ≡ Nil p → ⊥) → ((p : Bor (List ℕ)) → v ≡ Cons p → ⊥) → OfTest 1 v false
  is_no_list h g = record { of = λ a s. neither s h g }

  pub is_not_nil : ((p : Bor (List ℕ)) → v ≡ Nil p → ⊥) → OfTest 2 v false
  is_not_nil h = record { of = λ a s. no_nil s h }

pub is_function : {p : Bor (List ℕ)} → OfTest 0 (Lambda p) true
unfolding answer
is_function = record { of = λ a s. rw (lambda_shown s).2 refl }

pub nil_is_list : {p : Bor (List ℕ)} → OfTest 1 (Nil p) true
unfolding answer
nil_is_list = record { of = λ a s. rw (nil_shown s).1 refl }

pub cons_is_list : {p : Bor (List ℕ)} → OfTest 1 (Cons p) true
unfolding answer
cons_is_list = record { of = λ a s. rw (cons_shown s).2 refl }

pub is_nil : {p : Bor (List ℕ)} → OfTest 2 (Nil p) true
unfolding answer
is_nil = record { of = λ a s. rw (nil_shown s).1 refl }

module _ {test : ℕ} (h : (test ≡ 0 → ⊥) × (test ≡ 1 → ⊥) × (test ≡ 2 → ⊥)) where
  last : (n : ℕ) → (n ≡ 0 → ⊥) × (n ≡ 1 → ⊥) × (n ≡ 2 → ⊥) → test_of n ≡ is_num
  last zero g = absurd (g.0 refl)
  last (suc zero) g = absurd (g.1 refl)
  last (suc (suc zero)) g = absurd (g.2 refl)
  last (suc (suc (suc n))) g = refl

  digits : {n : ℕ} {f : Form sc} → Shows sc (Number n) f → answer is_num f ≡ 0
  unfolding answer
  digits (a_number n) = refl

  pub is_number : {n : ℕ} → OfTest test (Number n) true
  is_number = record { of = λ a s. rw (last test h) (digits s) }

  pub is_no_number : {v : Value} → ((n : ℕ) → v ≡ Number n → ⊥) → OfTest test v false
  is_no_number g = record { of = λ a s. rw (last test h) (no_digits s g) }

pub tested : {test : ℕ} {v : Value} {r : Became} (b : Bool) → OfTest test v b → Tells r (becomes (num {l = sc} (bool_byte (not b)))) → Tested test v r
unfolding contract1
tested true s t = record { of = λ a h. rw (s.of a h) t }
tested false s t = record { of = λ a h. rw (s.of a h) t }

the_test : (k : Test) → test_of (test_number k) ≡ k
the_test is_fun = refl
the_test is_list = refl
the_test is_null = refl
the_test is_num = refl

-- Whichever operator it is.
head_only : (r : Became) (l : Lang) (p : Op1 l) (a : Term l) → Hd ≡ operator1 p → Tells r (contract1 HD a) → Tells r (contract1 p a)
head_only r l HD a e t = t
head_only r l TL a e t = cc
head_only r l FIX a e t = cc
head_only r l NULL? a e t = cc
head_only r l (TEST k) a e t = cc

tail_only : (r : Became) (l : Lang) (p : Op1 l) (a : Term l) → Tl ≡ operator1 p → Tells r (contract1 TL a) → Tells r (contract1 p a)
tail_only r l HD a e t = cc
tail_only r l TL a e t = t
tail_only r l FIX a e t = cc
tail_only r l NULL? a e t = cc
tail_only r l (TEST k) a e t = cc

null_only : {v : Value} {r : Became} → OfNull v r → (l : Lang) (p : Op1 l) (a : Term l) → Null ≡ operator1 p → Shows l v (form a)
    → Tells r (contract1 p a)
null_only t l HD a e s = cc
null_only t l TL a e s = cc
null_only t l FIX a e s = cc
null_only t l NULL? a e s = t.of a s
null_only t l (TEST k) a e s = cc

module _ {ws : List ℕ} {v : Value} {r : Became} where
  fix_only : OfFix ws v r → (l : Lang) (p : Op1 l) (a : Term l) → Fix ≡ operator1 p → ws ≡ words (op1 p a) → Shows l v (form a)
      → Tells r (contract1 p a)
  fix_only t l HD a e q s = cc
  fix_only t l TL a e q s = cc
  fix_only t l FIX a e q s = t.of a q s
  fix_only t l NULL? a e q s = cc
  fix_only t l (TEST k) a e q s = cc

  test_only : Tested (get_or ws 0 0 / 256) v r → (l : Lang) (p : Op1 l) (a : Term l) → code.Test ≡ operator1 p → ws ≡ words (op1 p a)
      → Shows l v (form a) → Tells r (contract1 p a)
  unfolding put
  test_only t l HD a e q s = cc
  test_only t l TL a e q s = cc
  test_only t l FIX a e q s = cc
  test_only t l NULL? a e q s = cc
  test_only t l (TEST k) a e q s =
      let z : get_or ws 0 0 / 256 ≡ test_number k = ap (λ (x : List ℕ). get_or x 0 0 / 256) q ∙ omega arith in
      rw (the_test k) at (rw z at (t.of a s))

module _ (i : Language) {ps ws : List ℕ} {v : Value} (s : Looks ps v) (ps_is : ps ≡ drop 1 ws) where
  shown : (p : Op1 (as_lang i)) (a : Term (as_lang i)) → ws ≡ words (op1 p a) → Shows (as_lang i) v (form a)
  unfolding put
  shown p a q = s.of (as_lang i) a (ps_is ∙ ap (drop 1) q)

  pub one_head : {r : Became} → OfHead i v r → OfOne i Hd ws r
  one_head t = record { of = λ p a e q. head_only _ (as_lang i) p a e (t.of a (shown p a q)) }

  pub one_tail : {r : Became} → OfTail i v r → OfOne i Tl ws r
  one_tail t = record { of = λ p a e q. tail_only _ (as_lang i) p a e (t.of a (shown p a q)) }

  pub one_fix : {r : Became} → OfFix ws v r → OfOne i Fix ws r
  one_fix t = record { of = λ p a e q. fix_only t (as_lang i) p a e q (shown p a q) }

  pub one_null : {r : Became} → OfNull v r → OfOne i Null ws r
  one_null t = record { of = λ p a e q. null_only t (as_lang i) p a e (shown p a q) }

  pub one_test : {r : Became} → Tested (get_or ws 0 0 / 256) v r → OfOne i code.Test ws r
  one_test t = record { of = λ p a e q. test_only t (as_lang i) p a e q (shown p a q) }

-- No words at all.
pub one_none : {i : Language} {o : Operator1} {ws : List ℕ} → length ws < 1 → OfOne i o ws Nothing
unfolding put
one_none h = record { of = λ p a e q. absurd (omega (arith, h, ap length q)) }
