-- Document 01, "A refusal carries its number and a place": the place is in the file, or one past its last word, and the check's number is one of
-- 1 to 7. Assumes nothing.
use Prim.Native.Nat.{ℕ, ◌+◌, ◌-◌, ◌≤◌}
use mathlib.Core.Bool.{Bool, true, false}
use mathlib.Core.List.{List, []}
use mathlib.Core.Logic.{inl, inr}
use mathlib.Core.Path.{◌≡◌, refl, sym, ap, subst}
use lib.Dec.{leb}
use lib.ListN.{length, drop, length-drop}
use lib.Seq.{length-take-le}
use native.Mathlib.Omega.{arith}
use Rattle.calculus.specs.Trees.{Ty, ml, Term}
use Rattle.calculus.specs.Kinds.{type, term}
use Rattle.calculus.specs.Verdicts.{Verdict, refused, passed, and_then, unless}
use Rattle.calculus.specs.Faults.{fault}
use Rattle.calculus.specs.File.{words_of, is_size, is_header, type_count, type_words, term_words, Recipe, typed, judged, check_words, check, run_in}
use Rattle.calculus.specs.File.{operate}
use Rattle.calculus.specs.Words.{size_ty, size}
use Rattle.calculus.specs.Run.{Result, uncounted, run, capacity}
use Rattle.calculus.proofs.Verdicts.{not_both}
use Rattle.calculus.proofs.Sizes.{tree_length}
use Rattle.calculus.proofs.Ordering.{Proper, refusing, passing, proper_bounds}
use Rattle.calculus.proofs.Comparison.{differ_apart}
use Rattle.calculus.proofs.Faults.{fault_within}
use Rattle.calculus.proofs.Files.{header_iff}
use Rattle.calculus.proofs.Checks.{Ways, ways, judged_typed, Answer, untyped, as_declared, mistyped, answer}

-- A refusal's place is at most b.
abbrev pub PlaceWithin : {A : Type 0} → ℕ → Verdict A → Type 0
PlaceWithin b (refused n p) = p ≤ b
PlaceWithin b (passed a) = Unit {0}

-- "The check alone never gives 8": a refusal's number is one of 1 to 7.
abbrev pub Numbered : {A : Type 0} → Verdict A → Type 0
Numbered (refused n p) = (1 ≤ n) × (n ≤ 7)
Numbered (passed a) = Unit {0}

-- Both of them, by the bounds that a verdict keeps.
proper_within : {A : Type 0} {l m b : ℕ} {v : Verdict A} → Proper l m b v → PlaceWithin b v
proper_within (refusing n p h) = h.2
proper_within passing = tt

proper_number : {A : Type 0} {b : ℕ} {v : Verdict A} → Proper 1 7 b v → Numbered v
proper_number (refusing n p h) = (h.0, h.1)
proper_number passing = tt

proper_from : {A : Type 0} {l b : ℕ} {v : Verdict A} → 1 ≤ l → Proper l 7 b v → Proper 1 7 b v
proper_from l (refusing n p h) = refusing n p (omega arith)
proper_from l passing = passing

proper_unless : {A : Type 0} (b n p : ℕ) → (1 ≤ n) × (n ≤ 7) × (p ≤ b) → (t : Bool) {v : Verdict A} → (t ≡ true → Proper 1 7 b v)
    → Proper 1 7 b (unless t n p v)
proper_unless b n p h true f = f refl
proper_unless b n p h false f = refusing n p h

-- Of a type, which stands at p, and of a term, which stands at q: the fault stands in the term, the difference in the type.
proper_typed : (b p q : ℕ) (τ : Ty) (e : Term ml) → p + size_ty τ ≤ b → q + size e ≤ b → Proper 3 7 b (typed p q τ e)
proper_typed b p q τ e m n = by (answer p q τ e)
  where
    by : {v : Verdict Recipe} → Answer p q τ e v → Proper 3 7 b v
    by (untyped i) = refusing 6 (fault q [] e) (omega (arith, fault_within q [] e))
    by (as_declared i) = passing
    by (mistyped t d i c) = refusing 7 (p + d) (omega (arith, (differ_apart τ t d c).0))

-- Of the words of a type, which stands at 4, and of those of a term: one of 3 to 7.
proper_judged : (types terms : List ℕ) (start b : ℕ) → 4 + length types ≤ b → start + length terms ≤ b → Proper 3 7 b (judged types terms start)
proper_judged types terms start b n m = by (ways types terms start b n m)
  where
    by : Ways types terms start b → Proper 3 7 b (judged types terms start)
    by (inl x) =
        let s = x.2 in
        subst (Proper 3 7 b) (sym (judged_typed types terms start s))
        (proper_typed b 4 start x.0 x.1
        (omega (arith, n, ap length s.types_are, tree_length type x.0 []))
        (omega (arith, m, ap length s.terms_are, tree_length (term ml) x.1 [])))
    by (inr d) = subst (Proper 3 7 b) (sym d.is) (refusing d.number d.place (d.least, omega (arith, d.most), d.near))

pub judged_refused : (types terms : List ℕ) (start b n p : ℕ) → 4 + length types ≤ b → start + length terms ≤ b
    → judged types terms start ≡ refused n p → (3 ≤ n) × (n ≤ 7) × (p ≤ b)
judged_refused types terms start b n p k m q = proper_bounds (subst (Proper 3 7 b) q (proper_judged types terms start b k m))

-- The declared type ends where the term starts, and the term where the file ends.
proper_words : (ws : List ℕ) → Proper 1 7 (length ws) (check_words ws)
unfolding check_words
proper_words ws =
    proper_unless (length ws) 2 0 (omega arith) (is_header ws) (λ h. let i = (header_iff ws).0 h in behind (omega (arith, i.0.1, i.1)))
  where
    behind : 4 + type_count ws ≤ length ws → Proper 1 7 (length ws) (judged (type_words ws) (term_words ws) (4 + type_count ws))
    behind b =
        let start = 4 + type_count ws in
        let l : length (drop 4 ws) ≡ length ws - 4 = length-drop 4 ws in
        let n : 4 + length (type_words ws) ≤ length ws = omega (arith, length-take-le (type_count ws) (drop 4 ws) (omega arith)) in
        let m : start + length (term_words ws) ≤ length ws = omega (arith, length-drop start ws) in
        proper_from (omega arith) (proper_judged (type_words ws) (term_words ws) start (length ws) n m)

pub words_within : (ws : List ℕ) → PlaceWithin (length ws) (check_words ws)
words_within ws = proper_within (proper_words ws)

proper_check : (bytes : List ℕ) → Proper 1 7 (length (words_of bytes)) (check bytes)
unfolding check
proper_check bytes = proper_unless (length (words_of bytes)) 1 0 (omega arith) (is_size (length bytes)) (λ h. proper_words (words_of bytes))

-- Of every file that is refused.
pub place_in_file : (bytes : List ℕ) → PlaceWithin (length (words_of bytes)) (check bytes)
place_in_file bytes = proper_within (proper_check bytes)

pub number_in_table : (bytes : List ℕ) → Numbered (check bytes)
number_in_table bytes = proper_number (proper_check bytes)

-- And of every run that is refused: one of 1 to 8.
pub operate_number : (bytes : List ℕ) (limit first second n p : ℕ) → operate bytes limit first second ≡ refused n p → (1 ≤ n) × (n ≤ 8)
unfolding operate run_in
operate_number bytes limit first second n p = by (check bytes) (number_in_table bytes)
  where
    fitting : (b : Bool) (r : Result) → unless b 8 0 (passed r) ≡ refused n p → (1 ≤ n) × (n ≤ 8)
    fitting true r q = absurd (not_both n p r (sym q))
    fitting false r q = let e : 8 ≡ n = cc in (omega (arith, e), omega (arith, e))

    by : (v : Verdict Recipe) → Numbered v → and_then v (λ x. run_in limit (capacity first second) x) ≡ refused n p → (1 ≤ n) × (n ≤ 8)
    by (refused m o) h q = let e : m ≡ n = cc in (omega (arith, h.0, e), omega (arith, h.1, e))
    by (passed x) h q = fitting (leb (size x.1) (capacity first second)) (run limit (capacity first second) uncounted x.1) q
