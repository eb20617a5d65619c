-- Of which words a file is made, and by what the others are refused. Assumes nothing.
use Prim.Native.Nat.{ℕ, ◌+◌, ◌*◌, ◌/◌, ◌%◌, ◌≤◌, ◌<◌}
use mathlib.Core.Bool.{Bool, true, false}
use mathlib.Core.List.{List, [], ◌∷◌}
use mathlib.Core.Logic.Iff
use mathlib.Core.Logic.{◌↔◌, inl, inr}
use mathlib.Core.Path.{◌≡◌, refl, sym, ap, ◌∙◌, subst}
use native.Mathlib.Omega.{arith}
use lib.Dec.{leb}
use lib.ListN.{length}
use borrow.Author.Tests.{leb-true, leb-false, le-leb, lt-leb}
use Rattle.calculus.specs.Trees.{Ty, ml, Term}
use Rattle.calculus.specs.Words.{words_ty, words, size, size_ty}
use Rattle.calculus.specs.Kinds.{type, term}
use Rattle.calculus.specs.Limits.{InRangeTy, nesting_ty}
use Rattle.calculus.specs.Verdicts.{Verdict, refused, passed, and_then, unless}
use Rattle.calculus.specs.Reading.{walk, in_order}
use Rattle.calculus.specs.File.{words_of, bytes_of, file_of, Recipe, judged, check_words, check, is_header}
use Rattle.calculus.specs.Accepted.{file_words, Accepted}
use Rattle.calculus.proofs.Verdicts.{not_both, passed_injective, refused_injective}
use Rattle.calculus.proofs.Sizes.{tree_append, tree_length}
use Rattle.calculus.proofs.Views.{view, sized}
use Rattle.calculus.proofs.Nesting.{Ordered, ordered_passes}
use Rattle.calculus.proofs.Files.{size_iff, header_iff}
use Rattle.calculus.proofs.Checks.{judged_iff}
use Rattle.calculus.proofs.Mismatches.{points}
use Rattle.calculus.proofs.Refusing.{judged_refused}
use Rattle.saving.specs.Saving.{file_bytes, saving}
use Rattle.saving.specs.Laws.{FileOf, Numbered, Exactly, Judges, Bytes, Resaves}
use Rattle.saving.proofs.Bytes.{words_back, file_length, file_bytes_lem, types_part, terms_part}

types_length : (τ : Ty) → length (words_ty τ) ≡ size_ty τ
types_length τ = omega (arith, tree_length type τ [])

terms_length : (e : Term ml) → length (words e) ≡ size e
terms_length e = omega (arith, tree_length (term ml) e [])

-- The file of the words of a type and of a term, in words.
file_words_lem : (τ : Ty) (e : Term ml) → file_of (words_ty τ) (words e) ≡ file_words τ e
file_words_lem τ e = rw (types_length τ, terms_length e, tree_append type τ [] (words e))

file_of_lem : (types terms : List ℕ) (τ : Ty) (e : Term ml) → types ≡ words_ty τ → terms ≡ words e → file_of types terms ≡ file_words τ e
file_of_lem types terms τ e p q = rw (p, q) (file_words_lem τ e)

module _ (types terms : List ℕ) where
  abbrev file : List ℕ
  file = bytes_of (file_of types terms)

  abbrev bytes : ℕ
  bytes = file_bytes (length types) (length terms)

  abbrev start : ℕ
  start = 4 + length types

  -- Words that are judged well make a file.
  judged_file : (x : Recipe) → bytes ≤ 16384 → judged types terms start ≡ passed x → FileOf types terms file
  judged_file x few q =
      let j = (judged_iff types terms start x).0 q in
      let τ = x.0 in
      let e = x.1 in
      let s = j.0 in
      let n = file_bytes_lem types terms in
      let τ_long : length types ≡ size_ty τ = ap length s.types_are ∙ types_length τ in
      let e_long : length terms ≡ size e = ap length s.terms_are ∙ terms_length e in
      record {
        bytes_are = refl;
        declared = τ;
        term = e;
        types_are = s.types_are;
        terms_are = s.terms_are;
        accepted =
            record {
              filed =
                  record {
                    least = omega (arith, n, τ_long, e_long, sized (view type τ), sized (view (term ml) e));
                    most = omega (arith, n, few);
                    whole = omega (arith, n);
                    spelt = words_back (file_of types terms) ∙ file_of_lem types terms τ e s.types_are s.terms_are;
                    order = s.order;
                  };
              typed = j.1;
            };
      }

  -- Words of a file are judged well.
  file_judged : (bs : List ℕ) (f : FileOf types terms bs) → judged types terms start ≡ passed (f.declared, f.term)
  file_judged bs f =
      let a = f.accepted in
      (judged_iff types terms start (f.declared, f.term)).1 (
        record { types_are = f.types_are; terms_are = f.terms_are; order = a.filed.order },
        a.typed,
      )

  file_few : (bs : List ℕ) → FileOf types terms bs → bytes ≤ 16384
  file_few bs f = omega (arith, f.accepted.filed.most, ap length f.bytes_are, file_bytes_lem types terms)

  -- What comes of the words handed in, and of a buffer of so many bytes.
  data Way (room : ℕ) : Verdict (List ℕ) → Type 0 where
    long : 16384 < bytes → Way room (refused 12 0)
    out : (n p : ℕ) → bytes ≤ 16384 → judged types terms start ≡ refused n p → (3 ≤ n) × (n ≤ 7) × (p ≤ 4 + length types + length terms)
        → Way room (refused n p)
    short : FileOf types terms file → room < bytes → Way room (refused 13 0)
    made : FileOf types terms file → bytes ≤ room → Way room (passed file)

  way : (room : ℕ) → Way room (saving types terms room)
  unfolding saving
  way room = by (leb bytes 16384) refl
    where
      fitting : FileOf types terms file → (b : Bool) → leb bytes room ≡ b → Way room (unless b 13 0 (passed file))
      fitting f true e = made f (leb-true bytes room e)
      fitting f false e = short f (leb-false bytes room e)

      judging : bytes ≤ 16384 → (v : Verdict Recipe) → judged types terms start ≡ v
          → Way room (and_then v (λ x. unless (leb bytes room) 13 0 (passed file)))
      judging few (refused n p) e =
          out n p few e (judged_refused types terms start (4 + length types + length terms) n p (omega arith) (omega arith) e)
      judging few (passed x) e = fitting (judged_file x few e) (leb bytes room) refl

      by : (b : Bool) → leb bytes 16384 ≡ b
          → Way room (unless b 12 0 (and_then (judged types terms start) (λ x. unless (leb bytes room) 13 0 (passed file))))
      by true e = judging (leb-true bytes 16384 e) (judged types terms start) refl
      by false e = long (leb-false bytes 16384 e)

  module _ (room : ℕ) where
    saves : (bs : List ℕ) → (saving types terms room ≡ passed bs) ↔ (FileOf types terms bs × (length bs ≤ room))
    unfolding saving
    saves bs = (λ q. by (way room) q, λ h. back h.0 h.1)
      where
        by : {v : Verdict (List ℕ)} → Way room v → v ≡ passed bs → FileOf types terms bs × (length bs ≤ room)
        by (long h) q = absurd (not_both 12 0 bs q)
        by (out n p h e i) q = absurd (not_both n p bs q)
        by (short f h) q = absurd (not_both 13 0 bs q)
        by (made f h) q =
            let e = passed_injective file bs q in
            subst (λ (l : List ℕ). FileOf types terms l × (length l ≤ room)) e (f, omega (arith, h, file_bytes_lem types terms))

        back : FileOf types terms bs → length bs ≤ room → saving types terms room ≡ passed bs
        back f h =
            let fits : bytes ≤ room = omega (arith, h, ap length f.bytes_are, file_bytes_lem types terms) in
            rw (le-leb bytes 16384 (file_few bs f), file_judged bs f, le-leb bytes room fits) (ap passed (sym f.bytes_are))

    twelve : (saving types terms room ≡ refused 12 0) ↔ (16384 < bytes)
    unfolding saving
    twelve = (λ q. by (way room) q, back)
      where
        by : {v : Verdict (List ℕ)} → Way room v → v ≡ refused 12 0 → 16384 < bytes
        by (long h) q = h
        by (out n p h e i) q = absurd (omega (arith, i.1, (refused_injective q).0))
        by (short f h) q = absurd (omega (arith, (refused_injective q).0))
        by (made f h) q = absurd (not_both 12 0 file (sym q))

        back : 16384 < bytes → saving types terms room ≡ refused 12 0
        back h = rw (lt-leb bytes 16384 h)

    others : (n p : ℕ) → n ≤ 7 → (saving types terms room ≡ refused n p) ↔ ((bytes ≤ 16384) × (judged types terms start ≡ refused n p))
    unfolding saving
    others n p small = (λ q. by (way room) q, λ h. back h.0 h.1)
      where
        by : {v : Verdict (List ℕ)} → Way room v → v ≡ refused n p → (bytes ≤ 16384) × (judged types terms start ≡ refused n p)
        by (long h) q = absurd (omega (arith, small, (refused_injective q).0))
        by (out m o h e i) q = let z = refused_injective q in (h, e ∙ rw (z.0, z.1))
        by (short f h) q = absurd (omega (arith, small, (refused_injective q).0))
        by (made f h) q = absurd (not_both n p file (sym q))

        back : bytes ≤ 16384 → judged types terms start ≡ refused n p → saving types terms room ≡ refused n p
        back h e = rw (le-leb bytes 16384 h, e)

    -- What is said of the words judged is said of the save, where the file would not be too long.
    of_words : (n p : ℕ) {P : Type 0} → n ≤ 7 → (judged types terms start ≡ refused n p) ↔ P
        → (saving types terms room ≡ refused n p) ↔ ((bytes ≤ 16384) × P)
    of_words n p small i = Iff.trans (others n p small) (Iff.and Iff.rfl i)

    thirteen : (saving types terms room ≡ refused 13 0) ↔ (FileOf types terms file × (room < bytes))
    unfolding saving
    thirteen = (λ q. by (way room) q, λ h. back h.0 h.1)
      where
        by : {v : Verdict (List ℕ)} → Way room v → v ≡ refused 13 0 → FileOf types terms file × (room < bytes)
        by (long h) q = absurd (omega (arith, (refused_injective q).0))
        by (out n p h e i) q = absurd (omega (arith, i.1, (refused_injective q).0))
        by (short f h) q = (f, h)
        by (made f h) q = absurd (not_both 13 0 file (sym q))

        back : FileOf types terms file → room < bytes → saving types terms room ≡ refused 13 0
        back f h = rw (le-leb bytes 16384 (file_few file f), file_judged file f, lt-leb bytes room h)

    no_other : (n p : ℕ) → saving types terms room ≡ refused n p → Numbered types terms n p
    no_other n p q = by (way room) q
      where
        by : {v : Verdict (List ℕ)} → Way room v → v ≡ refused n p → Numbered types terms n p
        by (long h) q = let z = refused_injective q in inr (inl (sym z.0), sym z.1)
        by (out m o h e i) q = let z = refused_injective q in inl (omega (arith, i.0, z.0), omega (arith, i.1, z.0), omega (arith, i.2, z.1))
        by (short f h) q = let z = refused_injective q in inr (inr (sym z.0), sym z.1)
        by (made f h) q = absurd (not_both n p file (sym q))

    pub exactly : Exactly types terms room
    exactly =
        record {
          saves = saves;
          twelve = twelve;
          others = others;
          six = λ p. of_words 6 p (omega arith) (points.six_of_words types terms p);
          seven = λ p. of_words 7 p (omega arith) (points.seven_of_words types terms p);
          thirteen = thirteen;
          no_other = no_other;
        }

  -- The check of the file to be written.
  as_checked : 1 ≤ length types → 1 ≤ length terms → bytes ≤ 16384 → check file ≡ judged types terms start
  unfolding check check_words
  as_checked a b c =
      let n = file_bytes_lem types terms in
      let ends : 4 + length types + length terms ≡ length (file_of types terms) = sym (file_length types terms) in
      let h : is_header (file_of types terms) ≡ true = (header_iff (file_of types terms)).1 ((((a, refl), b), refl), ends) in
      rw (
        (size_iff (length file)).1 ((omega (arith, n), omega (arith, n)), omega (arith, n)),
        words_back (file_of types terms),
        h,
        types_part types terms,
        terms_part types terms,
      )

-- Where type or term is empty the words run out.
no_type : (terms : List ℕ) (from : ℕ) → judged [] terms from ≡ refused 3 4
unfolding in_order walk
no_type terms from = refl

no_term : (τ : Ty) (from : ℕ) → InRangeTy τ → nesting_ty τ ≤ 256 → judged (words_ty τ) [] from ≡ refused 3 from
unfolding in_order walk
no_term τ from g h =
    let t : Ordered type (words_ty τ) = record { tree = τ; spelt = refl; ranged = g; nests = h } in
    rw (ordered_passes type (words_ty τ) t) (ap (refused 3) (omega arith))

pub judges : Judges
judges = record { as_checked = as_checked; no_type = no_type; no_term = no_term }

-- The bytes of words that were read.
bytes_back : (bs : List ℕ) → Bytes bs → length bs % 4 ≡ 0 → bytes_of (words_of bs) ≡ bs
unfolding words_of
bytes_back [] h n = refl
bytes_back (a ∷ []) h n = absurd (omega arith)
bytes_back (a ∷ b ∷ []) h n = absurd (omega arith)
bytes_back (a ∷ b ∷ c ∷ []) h n = absurd (omega arith)
bytes_back (a ∷ b ∷ c ∷ d ∷ more) h n =
    let w = a + 256 * b + 65536 * c + 16777216 * d in
    let q₁ : w / 256 ≡ b + 256 * c + 65536 * d = omega (arith, h.0) in
    let q₂ : w / 65536 ≡ c + 256 * d = omega (arith, h.0, h.1.0) in
    let e₀ : w % 256 ≡ a = omega (arith, h.0) in
    let e₁ : w / 256 % 256 ≡ b = rw q₁ (omega (arith, h.1.0)) in
    let e₂ : w / 65536 % 256 ≡ c = rw q₂ (omega (arith, h.1.1.0)) in
    let e₃ : w / 16777216 ≡ d = omega (arith, h.0, h.1.0, h.1.1.0) in
    rw (e₀, e₁, e₂, e₃, bytes_back more h.1.1.1.1 (omega arith))

pub resaves : Resaves
resaves = record { same = λ bytes τ e room b a n. (saves (words_ty τ) (words e) room bytes).1 (file_is bytes τ e b a, n) }
  where
    file_is : (bytes : List ℕ) (τ : Ty) (e : Term ml) → Bytes bytes → Accepted bytes τ e → FileOf (words_ty τ) (words e) bytes
    file_is bytes τ e b a =
        record {
          bytes_are = sym (bytes_back bytes b a.filed.whole) ∙ ap bytes_of (a.filed.spelt ∙ sym (file_words_lem τ e));
          declared = τ;
          term = e;
          types_are = refl;
          terms_are = refl;
          accepted = a;
        }
