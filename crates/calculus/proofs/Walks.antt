-- Laws of `walk`, for any meaning f of the words: the first word, what is due in two lists, how far an answer reaches; and the ways out of
-- code that walks with the number of words gone by, `a`, carried along. Assumes nothing.
use Prim.Native.Nat.{ℕ, suc, ◌+◌, ◌-◌, ◌≤◌}
use mathlib.Core.List.{List, [], ◌∷◌, ◌++◌, append_assoc}
use mathlib.Core.Path.{◌≡◌, refl, sym, ap, ◌∙◌}
use lib.ListN.{length, get_or, drop}
use lib.Seq.{drop-drop}
use native.Mathlib.Nat.{zero-add, add_assoc}
use native.Mathlib.Omega.{arith}
use Rattle.calculus.specs.Verdicts.{Verdict, refused, passed, and_then}
use Rattle.calculus.proofs.Verdicts.{not_both}
use Rattle.calculus.specs.Reading.{Act, opens, refuses, later, acted, walk}

pub later_zero : (v : Verdict ℕ) → later 0 v ≡ v
later_zero (refused r p) = rw zero-add
later_zero (passed n) = rw zero-add

pub later_later : (a b : ℕ) (v : Verdict ℕ) → later a (later b v) ≡ later (a + b) v
later_later a b (refused r p) = rw add_assoc
later_later a b (passed n) = rw add_assoc

pub later_passed : (a : ℕ) (v : Verdict ℕ) (n : ℕ) → later a v ≡ passed n → (m : ℕ) × (v ≡ passed m)
later_passed a (refused r p) n q = absurd (not_both r (a + p) n q)
later_passed a (passed m) n q = (m, refl)

-- The number that an answer carries: how many words, or the place.
abbrev pub reach : Verdict ℕ → ℕ
reach (refused r p) = p
reach (passed n) = n

pub reach_later : (a : ℕ) (v : Verdict ℕ) → reach (later a v) ≡ a + reach v
reach_later a (refused r p) = refl
reach_later a (passed n) = refl

module _ {D : Type 0} (f : D → ℕ → Act D) where
  pub walk_done : (ws : List ℕ) → walk f ws [] ≡ passed 0
  unfolding walk
  walk_done [] = refl
  walk_done (w ∷ ws) = refl

  pub walk_end : (ws : List ℕ) (d : D) (ds : List D) → length ws ≡ 0 → walk f ws (d ∷ ds) ≡ refused 3 0
  unfolding walk
  walk_end [] d ds h = refl
  walk_end (w ∷ ws) d ds h = absurd (omega (arith, h))

  pub walk_step : (ws : List ℕ) (d : D) (ds : List D) → (length ws ≡ 0 → ⊥)
      → walk f ws (d ∷ ds) ≡ acted (f d (get_or ws 0 0)) (λ ps. walk f (drop 1 ws) (ps ++ ds))
  unfolding walk
  walk_step [] d ds h = absurd (h refl)
  walk_step (w ∷ ws) d ds h = refl

  -- After an answer: the rest of what is due, from where the answer ended.
  abbrev pub after : List ℕ → List D → Verdict ℕ → Verdict ℕ
  after ws ds v = and_then v (λ n. later n (walk f (drop n ws) ds))

  after_later : (w : ℕ) (ws : List ℕ) (ds : List D) (v : Verdict ℕ) → later 1 (after ws ds v) ≡ after (w ∷ ws) ds (later 1 v)
  after_later w ws ds (refused r p) = refl
  after_later w ws ds (passed n) =
      later_later 1 n (walk f (drop n ws) ds) ∙ ap (λ (l : List ℕ). later (1 + n) (walk f l ds)) (drop-drop n 1 (w ∷ ws))

  after_acted : (ws : List ℕ) (ds : List D) (a : Act D) (x y : List D → Verdict ℕ)
      → ((ps : List D) → later 1 (y ps) ≡ after ws ds (later 1 (x ps))) → acted a y ≡ after ws ds (acted a x)
  after_acted ws ds (opens ps) x y h = h ps
  after_acted ws ds (refuses r) x y h = refl

  -- What is due in two lists, one after the other.
  pub walk_append : (ws : List ℕ) (ds es : List D) → walk f ws (ds ++ es) ≡ after ws es (walk f ws ds)
  unfolding walk
  walk_append [] [] es = sym (later_zero (walk f [] es))
  walk_append [] (d ∷ ds) es = refl
  walk_append (w ∷ ws) [] es = sym (later_zero (walk f (w ∷ ws) es))
  walk_append (w ∷ ws) (d ∷ ds) es =
      after_acted (w ∷ ws) es (f d w) (λ ps. walk f ws (ps ++ ds)) (λ ps. walk f ws (ps ++ (ds ++ es)))
      (λ ps.
      ap (λ (l : List D). later 1 (walk f ws l)) (sym (append_assoc ps ds es))
      ∙ ap (later 1) (walk_append ws (ps ++ ds) es)
      ∙ after_later w ws es (walk f ws (ps ++ ds)))

  reach_acted : (n : ℕ) (a : Act D) (x : List D → Verdict ℕ) → ((ps : List D) → reach (x ps) ≤ n) → reach (acted a x) ≤ suc n
  reach_acted n (opens ps) x h = omega (arith, reach_later 1 (x ps), h ps)
  reach_acted n (refuses r) x h = omega arith

  -- An answer's number is at most the number of words.
  pub walk_reach : (ws : List ℕ) (ds : List D) → reach (walk f ws ds) ≤ length ws
  unfolding walk
  walk_reach [] [] = omega arith
  walk_reach [] (d ∷ ds) = omega arith
  walk_reach (w ∷ ws) [] = omega arith
  walk_reach (w ∷ ws) (d ∷ ds) = reach_acted (length ws) (f d w) (λ ps. walk f ws (ps ++ ds)) (λ ps. walk_reach ws (ps ++ ds))

  -- The same of an answer that counts from a.
  pub reach_from : (a : ℕ) (ws : List ℕ) (ds : List D) (v : Verdict ℕ) → v ≡ later a (walk f ws ds) → (a ≤ reach v) × (reach v ≤ a + length ws)
  reach_from a ws ds v e =
      let r : reach v ≡ a + reach (walk f ws ds) = ap reach e ∙ reach_later a (walk f ws ds) in
      let h = walk_reach ws ds in
      (omega (arith, r), omega (arith, r, h))

  -- The ways out, at a word where d is due, and then ds.
  module _ (a : ℕ) (ws : List ℕ) (d : D) (ds : List D) (some : length ws ≡ 0 → ⊥) where
    -- the word is refused
    pub stops : (r : ℕ) → f d (get_or ws 0 0) ≡ refuses r → later a (walk f ws (d ∷ ds)) ≡ refused r (a + 0)
    stops r e = rw (walk_step ws d ds some, e)

    opened : (ps : List D) → f d (get_or ws 0 0) ≡ opens ps
        → later a (walk f ws (d ∷ ds)) ≡ later (a + 1) (after (drop 1 ws) ds (walk f (drop 1 ws) ps))
    opened ps e = rw (walk_step ws d ds some, e, walk_append (drop 1 ws) ps ds) (later_later a 1 (after (drop 1 ws) ds (walk f (drop 1 ws) ps)))

    -- its parts are refused
    pub parts_stop : (ps : List D) (v : Verdict ℕ) (r p : ℕ) → f d (get_or ws 0 0) ≡ opens ps
        → v ≡ later (a + 1) (walk f (drop 1 ws) ps) → v ≡ refused r p → later a (walk f ws (d ∷ ds)) ≡ v
    parts_stop ps v r p e q z = opened ps e ∙ stopped (walk f (drop 1 ws) ps) (sym q ∙ z) ∙ sym z
      where
        stopped : (x : Verdict ℕ) → later (a + 1) x ≡ refused r p → later (a + 1) (after (drop 1 ws) ds x) ≡ refused r p
        stopped (refused s u) g = g
        stopped (passed n) g = absurd (not_both r p (a + 1 + n) (sym g))

    -- its parts take the words up to the place e, and the rest of what is due goes on there
    pub parts_pass : (ps : List D) (v : Verdict ℕ) (e : ℕ) → f d (get_or ws 0 0) ≡ opens ps
        → v ≡ later (a + 1) (walk f (drop 1 ws) ps) → v ≡ passed e → later a (walk f ws (d ∷ ds)) ≡ later e (walk f (drop (e - a) ws) ds)
    parts_pass ps v e o q z = opened ps o ∙ going (walk f (drop 1 ws) ps) (sym q ∙ z)
      where
        going : (x : Verdict ℕ) → later (a + 1) x ≡ passed e → later (a + 1) (after (drop 1 ws) ds x) ≡ later e (walk f (drop (e - a) ws) ds)
        going (refused s u) g = absurd (not_both s (a + 1 + u) e g)
        going (passed n) g =
            let i : a + 1 + n ≡ e = cc in
            let j : 1 + n ≡ e - a = omega arith in
            later_later (a + 1) n (walk f (drop n (drop 1 ws)) ds)
            ∙ ap (λ (l : List ℕ). later (a + 1 + n) (walk f l ds)) (drop-drop n 1 ws)
            ∙ ap (λ (m : ℕ). later (a + 1 + n) (walk f (drop m ws) ds)) j
            ∙ ap (λ (m : ℕ). later m (walk f (drop (e - a) ws) ds)) i
