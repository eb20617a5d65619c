-- The ways out of comparing the types that x and y begin with. Assumes nothing.
use Prim.Native.Nat.{ℕ, suc, ◌+◌, ◌-◌, ◌%◌, ◌≤◌, ◌<◌}
use mathlib.Core.List.{List, []}
use mathlib.Core.Option.{Option, none, some, none-ne-some}
use mathlib.Core.Path.{◌≡◌, refl, sym, ap, ◌∙◌, subst, subst₂}
use lib.ListN.{length, get_or, take, drop, length-drop}
use borrow.Author.Rules.{part_to_end}
use native.Mathlib.Nat.{pos_of_ne-zero}
use native.Mathlib.Omega.{arith}
use Rattle.std.proofs.Common.{Option as Found, Some, Result, Ok, Err, IsErrAnd}
use Rattle.std.specs.Result.{result_unwrap_or}
use Rattle.calculus.specs.Trees.{Ty, N, L, list, ◌to◌}
use Rattle.calculus.specs.Words.{word, put_ty, words_ty, size_ty}
use Rattle.calculus.specs.Kinds.{type}
use Rattle.calculus.specs.Comparison.{further_on, compare_types}
use Rattle.calculus.proofs.Comparison.{equal_iff, compare_lists, compare_arguments, compare_results}
use Rattle.calculus.proofs.Sizes.{tree_length, past_tree}
use Rattle.calculus.proofs.Views.{view, sized}
use Rattle.nodes.specs.declared.kinds.Shape.{Shape}
use Rattle.nodes.specs.declared.kinds.Shape.TheVariants as s
use Rattle.nodes.specs.Table.{shape, shape_of}
use Rattle.nodes.proofs.Shapes.{shape_first}
use Rattle.types.specs.Comparisons.{differ_at, InBoth, matching, Matched, TypeEnd}
use Rattle.types.specs.declared.Difference.{Difference}
use Rattle.types.proofs.Pairs.{other_firsts, one_shape}

-- What an answer for two types says of them.
pub if_differ : (t u : Ty) (at : ℕ) (d : Difference) (r : Result ℕ Difference) → r ≡ Err d → r ≡ matching at t (compare_types t u)
    → (n : ℕ) × (compare_types t u ≡ some n) × (d.at ≡ at + n)
if_differ t u at d r h e = by (compare_types t u) refl
  where
    by : (o : Option ℕ) → compare_types t u ≡ o → (n : ℕ) × (compare_types t u ≡ some n) × (d.at ≡ at + n)
    by none q = let y : r ≡ Ok (at + size_ty t) = e ∙ rw q in let z : ◌≡◌ {A = ℕ} 0 1 = cc in absurd (omega arith)
    by (some n) q =
        let y : r ≡ differ_at (at + n) = e ∙ rw q in
        let z : d ≡ record { at = at + n } = cc in (n, q, ap (λ (x : Difference). x.at) z)

pub if_same_lem : (t u : Ty) (at n : ℕ) (r : Result ℕ Difference) → r ≡ Ok n → r ≡ matching at t (compare_types t u)
    → (compare_types t u ≡ none) × (n ≡ at + size_ty t) × (t ≡ u)
if_same_lem t u at n r h e = by (compare_types t u) refl
  where
    by : (o : Option ℕ) → compare_types t u ≡ o → (compare_types t u ≡ none) × (n ≡ at + size_ty t) × (t ≡ u)
    by none q = let y : r ≡ Ok (at + size_ty t) = e ∙ rw q in let z : n ≡ at + size_ty t = cc in (q, z, (equal_iff t u).0 q)
    by (some d) q = let y : r ≡ differ_at (at + d) = e ∙ rw q in let z : ◌≡◌ {A = ℕ} 0 1 = cc in absurd (omega arith)

-- An error that is passed on.
pub passed_on : {A E : Type 0} {e : E} (r : Result A E) → IsErrAnd r (λ d. d ≡ e) → r ≡ Err e
passed_on (Ok x) h = absurd h
passed_on (Err d) h = ap Err h

-- The place past a type that is the same.
pub same_in : (at a b n : ℕ) (r : Result ℕ Difference) → InBoth at a b r → r ≡ Ok n → (at < n) × (n ≤ at + a) × (n ≤ at + b)
same_in at a b n r h e = subst (InBoth at a b) e h

type_length : (x : List ℕ) (t : Ty) (k : List ℕ) → x ≡ put_ty t k → 0 < length x
type_length x t k e = omega (arith, ap length e, tree_length type t k, sized (view type t))

-- The table's shape of the first word.
shape_is : (x : List ℕ) (t : Ty) (k : List ℕ) → x ≡ put_ty t k → shape_of (get_or x 0 0 % 256) ≡ Some (shape type t)
shape_is x t k e = ap (λ (l : List ℕ). shape_of (get_or l 0 0 % 256)) e ∙ shape_first type t k

first_is : (x : List ℕ) (t : Ty) (k : List ℕ) → x ≡ put_ty t k → get_or x 0 0 ≡ get_or (words_ty t) 0 0
first_is x t k e =
    let v = view type t in
    ap (λ (z : List ℕ). get_or z 0 0) (e ∙ v.spelt k) ∙ sym (ap (λ (z : List ℕ). get_or z 0 0) (v.spelt []))

-- x and y begin with one word, of a shape.
pub record OneWord (x y : List ℕ) (h : Found Shape) : Type 0 where
  pub more_x : length x ≡ 0 → ⊥
  pub more_y : length y ≡ 0 → ⊥
  pub word : get_or x 0 0 ≡ get_or y 0 0
  pub known : h ≡ shape_of (get_or x 0 0 % 256)

module _ (x y : List ℕ) (at : ℕ) where
  pub no_x : length x ≡ 0 → Matched x y at (differ_at at)
  no_x z = record { within = tt; is = λ t u k l p q. absurd (omega (arith, type_length x t k p)) }

  pub no_y : length y ≡ 0 → Matched x y at (differ_at at)
  no_y z = record { within = tt; is = λ t u k l p q. absurd (omega (arith, type_length y u l q)) }

  -- Types that differ in their first words.
  pub other_words : (get_or x 0 0 ≡ get_or y 0 0 → ⊥) → Matched x y at (differ_at at)
  other_words d =
      record {
        within = tt;
        is = λ t u k l p q. rw (other_firsts t u (λ e. d (first_is x t k p ∙ e ∙ sym (first_is y u l q)))) (ap differ_at (omega arith));
      }

  module _ {h : Found Shape} (F : OneWord x y h) where
    -- The answer is right where x and y are these types; by cases on the shape, which both have.
    abbrev Right : Result ℕ Difference → Ty → Ty → Type 0
    Right r t u = (k l : List ℕ) → x ≡ put_ty t k → y ≡ put_ty u l → r ≡ matching at t (compare_types t u)

    by_shape : (r : Result ℕ Difference) → (h ≡ Some s.Numbers → Right r N N) → (h ≡ Some s.Lump → (o u : ℕ) → Right r (L o) (L u))
        → (h ≡ Some s.List → (t u : Ty) → Right r (list t) (list u)) → (h ≡ Some s.Function → (s t u v : Ty) → Right r (s to t) (u to v))
        → (t u : Ty) → Right r t u
    by_shape r a b c d t u k l p q =
        one_shape (Right r) h a b c d t u (F.known ∙ shape_is x t k p)
        (F.known ∙ ap (λ (j : ℕ). shape_of (j % 256)) F.word ∙ shape_is y u l q) k l p q

    -- Lumps of one word have one owner.
    one_owner : (o u : ℕ) (k l : List ℕ) → x ≡ put_ty (L o) k → y ≡ put_ty (L u) l → L o ≡ L u
    unfolding put_ty
    one_owner o u k l p q =
        let a : get_or x 0 0 ≡ word 2 o = ap (λ (z : List ℕ). get_or z 0 0) p in
        let b : get_or y 0 0 ≡ word 2 u = ap (λ (z : List ℕ). get_or z 0 0) q in
        ap L (omega (arith, a, b, F.word))

    -- N and L have no parts.
    pub no_parts : (h ≡ Some s.List → ⊥) → (h ≡ Some s.Function → ⊥) → Matched x y at (Ok (at + 1))
    unfolding size_ty
    no_parts n12 n13 =
        record {
          within = (omega arith, omega (arith, pos_of_ne-zero F.more_x), omega (arith, pos_of_ne-zero F.more_y));
          is =
              by_shape (Ok (at + 1)) (λ e k l p q. rw ((equal_iff N N).1 refl))
              (λ e o u k l p q. rw ((equal_iff (L o) (L u)).1 (one_owner o u k l p q)))
              (λ e. absurd (n12 e)) (λ e. absurd (n13 e));
        }

    module _ (n10 : h ≡ Some s.Numbers → ⊥) (n11 : h ≡ Some s.Lump → ⊥) {r : Result ℕ Difference}
        (m : Matched (take (length x - 1) (drop 1 x)) (take (length y - 1) (drop 1 y)) (at + 1) r) where
      part : Matched (drop 1 x) (drop 1 y) (at + 1) r
      part = subst₂ (λ (a b : List ℕ). Matched a b (at + 1) r) (part_to_end x 1) (part_to_end y 1) m

      -- The first parts differ.
      pub first_differ : (d : Difference) → r ≡ Err d → Matched x y at (Err d)
      unfolding put_ty
      first_differ d g =
          record {
            within = tt;
            is =
                by_shape (Err d) (λ e. absurd (n10 e)) (λ e. absurd (n11 e))
                (λ e t u k l p q.
                let a = if_differ t u _ d r g (part.is t u k l (ap (drop 1) p) (ap (drop 1) q)) in
                rw (compare_lists t u, a.1) (ap differ_at (omega (arith, a.2))))
                (λ e s t u v k l p q.
                let a = if_differ s u _ d r g (part.is s u (put_ty t k) (put_ty v l) (ap (drop 1) p) (ap (drop 1) q)) in
                rw (compare_arguments s t u v a.0 a.1) (ap differ_at (omega (arith, a.2))));
          }

      module _ (n : ℕ) (g : r ≡ Ok n) where
        pub ends : (at + 1 < n) × (n ≤ at + length x) × (n ≤ at + length y)
        ends =
            let b = same_in _ _ _ n r part.within g in
            let nx = pos_of_ne-zero F.more_x in
            let ny = pos_of_ne-zero F.more_y in
            (b.0, omega (arith, b.1, length-drop 1 x, nx), omega (arith, b.2, length-drop 1 y, ny))

        -- The element types are the same.
        same_elements : (h ≡ Some s.Function → ⊥) → Matched x y at (Ok n)
        unfolding put_ty size_ty
        same_elements n13 =
            record {
              within = (omega (arith, ends), ends.1, ends.2);
              is =
                  by_shape (Ok n) (λ e. absurd (n10 e)) (λ e. absurd (n11 e))
                  (λ e t u k l p q.
                  let a = if_same_lem t u _ n r g (part.is t u k l (ap (drop 1) p) (ap (drop 1) q)) in
                  let z : n ≡ at + suc (size_ty t) = omega (arith, a.1) in
                  rw (compare_lists t u, a.0) (ap Ok z))
                  (λ e. absurd (n13 e));
            }

        -- The argument types are the same, and the result types stand past them.
        pub functions : (h ≡ Some s.List → ⊥) → (r2 : Result ℕ Difference)
            → Matched (take (length x - (n - at)) (drop (n - at) x)) (take (length y - (n - at)) (drop (n - at) y)) n r2
            → Matched x y at r2
        unfolding put_ty size_ty
        functions n12 r2 m2 =
            record {
              within = further r2 rest.within;
              is =
                  by_shape r2 (λ e. absurd (n10 e)) (λ e. absurd (n11 e)) (λ e. absurd (n12 e))
                  (λ e s t u v k l p q.
                  let dx : drop 1 x ≡ put_ty s (put_ty t k) = ap (drop 1) p in
                  let dy : drop 1 y ≡ put_ty u (put_ty v l) = ap (drop 1) q in
                  let a = if_same_lem s u _ n r g (part.is s u (put_ty t k) (put_ty v l) dx dy) in
                  let nx : n - at ≡ 1 + size_ty s = omega (arith, a.1) in
                  let ny : n - at ≡ 1 + size_ty u = omega (arith, a.1, ap size_ty a.2) in
                  let ex : drop (n - at) x ≡ put_ty t k = rw nx (past_tree type s 1 x (put_ty t k) dx) in
                  let ey : drop (n - at) y ≡ put_ty v l = rw ny (past_tree type u 1 y (put_ty v l) dy) in
                  let c : compare_types (s to t) (u to v) ≡ further_on (suc (size_ty s)) (compare_types t v) =
                  ap (λ (z : Ty). compare_types (s to t) (z to v)) (sym a.2) ∙ compare_results s t v in
                  rest.is t v k l ex ey ∙ behind s t (compare_types t v) a.1 ∙ ap (matching at (s to t)) (sym c));
            }
          where
            rest : Matched (drop (n - at) x) (drop (n - at) y) n r2
            rest = subst₂ (λ (a b : List ℕ). Matched a b n r2) (part_to_end x (n - at)) (part_to_end y (n - at)) m2

            behind : (s t : Ty) (o : Option ℕ) → n ≡ at + 1 + size_ty s → matching n t o ≡ matching at (s to t) (further_on (suc (size_ty s)) o)
            behind s t none e = ap Ok (omega (arith, e))
            behind s t (some d) e = ap differ_at (omega (arith, e))

            further : (z : Result ℕ Difference) → InBoth n (length (drop (n - at) x)) (length (drop (n - at) y)) z → InBoth at (length x) (length y) z
            further (Ok j) b =
                (omega (arith, b.0, ends), omega (arith, b.1, length-drop (n - at) x, ends), omega (arith, b.2, length-drop (n - at) y, ends))
            further (Err d) b = tt

      -- Lists are as their element types are.
      pub lists : (h ≡ Some s.Function → ⊥) → Matched x y at r
      lists n13 = by r refl
        where
          by : (o : Result ℕ Difference) → r ≡ o → Matched x y at o
          by (Ok n) g = same_elements n g n13
          by (Err d) g = first_differ d g

-- A type is the same as itself, so that comparing it with itself finds its end.
module _ (w : List ℕ) (at : ℕ) (h : at ≤ length w) (r : Result ℕ Difference)
    (m : Matched (take (length w - at) (drop at w)) (take (length w - at) (drop at w)) at r) where
  itself : Matched (drop at w) (drop at w) at r
  itself = subst₂ (λ (a b : List ℕ). Matched a b at r) (part_to_end w at) (part_to_end w at) m

  type_ends : (n : ℕ) → r ≡ Ok n → TypeEnd w at n
  type_ends n g =
      let b = same_in _ _ _ n r itself.within g in
      record {
        least = omega (arith, b.0);
        most = omega (arith, b.1, length-drop at w);
        is = λ t x. (if_same_lem t t _ n r g (itself.is t t x.0 x.0 x.1 x.1)).1;
      }

  no_type : (d : Difference) → r ≡ Err d → TypeEnd w at at
  no_type d g =
      record {
        least = omega arith;
        most = h;
        is = λ t x.
            let a = if_differ t t _ d r g (itself.is t t x.0 x.0 x.1 x.1) in
            absurd (none-ne-some a.0 (sym ((equal_iff t t).1 refl) ∙ a.1));
      }

  pub type_end_lem : TypeEnd w at (result_unwrap_or r at)
  type_end_lem = by r refl
    where
      by : (o : Result ℕ Difference) → r ≡ o → TypeEnd w at (result_unwrap_or o at)
      by (Ok n) g = type_ends n g
      by (Err d) g = no_type d g
