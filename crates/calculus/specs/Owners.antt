-- Document 02, "Lumps with owners": of types, of the published typing and of the published reduction. proofs/Owners.antt proves it.
use Rattle.std.specs.Prelude.{ℕ, ◌%◌, cond, List, [], ◌∷◌, ◌++◌, ◌↔◌, ◌≡◌, eqb, length, take, drop}
use Rattle.calculus.specs.Trees.{Ty, N, L, list, ◌to◌, Lang, ml, sc, Static, Term, var, num, lam, op1, op2, if0, nil, wrong, ms, sm, app}
use Rattle.calculus.specs.Words.{words_ty}
use Rattle.calculus.specs.Scope.{Scoped}
use Rattle.calculus.specs.Typing.{Lambdas, Typed}
use Rattle.calculus.specs.Rules.{Value, ◌⊢◌⇒◌, Steps}
use Rattle.calculus.specs.Run.{End, Counts, ended}
use Rattle.calculus.specs.Endings.{Ends}
use Rattle.calculus.specs.File.{words_of}
use Rattle.calculus.specs.Accepted.{Accepted}

-- The owners in a type, in the order of its words; and the type without them, as it was written before: with owner 0 for each.
unfoldable pub owners : Ty → List ℕ
owners N = []
owners (L o) = o ∷ []
owners (list t) = owners t
owners (t to u) = owners t ++ owners u

unfoldable pub ownerless : Ty → Ty
ownerless N = N
ownerless (L o) = L 0
ownerless (list t) = list (ownerless t)
ownerless (t to u) = ownerless t to ownerless u

pub record Owners : Type 0 where
  -- "Files written so far say owner 0": the word of L that they have.
  pub so_far : words_ty (L 0) ≡ 2 ∷ []
  -- "Types are equal only if the owners are too": exactly if they were equal before there were owners, and the owners are.
  pub equal : (t u : Ty) → (t ≡ u) ↔ ((ownerless t ≡ ownerless u) × (owners t ≡ owners u))
  -- The values of an owner's L are the ms at that owner's L of a Scheme value.
  pub values : (o : ℕ) (v : Term ml) → Typed [] v (L o) → (Value ml v ↔ ((w : Term sc) × Value sc w × (v ≡ ms (L o) w)))
  -- "sm at an owner's L takes an ms at that same owner's L", and nothing else, whatever type it has.
  pub own : (o : ℕ) (e : Term ml) (r : Term sc) → Scoped [] e → (sc ⊢ sm (L o) e ⇒ r) ↔ (Value sc r × (e ≡ ms (L o) r))
  -- "A Scheme script may still unseal a value and have it sealed for another owner."
  pub resealed : (o u : ℕ) (v : Term sc) → Value sc v → Typed [] v tt
      → Typed [] (ms (L u) (sm (L o) (ms (L o) v))) (L u) × Steps 1 (ms (L u) (sm (L o) (ms (L o) v))) (ms (L u) v)
  -- What takes one owner's lump is not given another's: neither a function of ML nor sm.
  pub not_given : (o u : ℕ) → ¬ (o ≡ u) → (Γ : Lambdas) (e : Term ml) → Typed Γ e (L u)
      → (¬ Typed Γ (sm (L o) e) tt) × ((f : Term ml) (t : Ty) → Typed Γ f (L o to t) → (τ : Ty) → ¬ Typed Γ (app f e) τ)

-- A term without its owners: every type that is written in it.
abbrev pub ownerless_static : (l : Lang) → Static l → Static l
ownerless_static ml t = ownerless t
ownerless_static sc t = tt

unfoldable pub ownerless_term : {l : Lang} → Term l → Term l
ownerless_term (var i) = var i
ownerless_term (num n) = num n
ownerless_term (lam {l} t b) = lam (ownerless_static l t) (ownerless_term b)
ownerless_term (op1 o a) = op1 o (ownerless_term a)
ownerless_term (op2 o a b) = op2 o (ownerless_term a) (ownerless_term b)
ownerless_term (if0 a b c) = if0 (ownerless_term a) (ownerless_term b) (ownerless_term c)
ownerless_term (nil {l} t) = nil (ownerless_static l t)
ownerless_term (wrong {l} c t) = wrong c (ownerless_static l t)
ownerless_term (ms t a) = ms (ownerless t) (ownerless_term a)
ownerless_term (sm t a) = sm (ownerless t) (ownerless_term a)

-- A word without its owner, if it has one; and words without theirs.
abbrev pub ownerless_word : ℕ → ℕ
ownerless_word w = cond (eqb (w % 256) 2) 2 w

unfoldable pub ownerless_words : List ℕ → List ℕ
ownerless_words [] = []
ownerless_words (w ∷ ws) = ownerless_word w ∷ ownerless_words ws

-- A file's words without their owners, of which the header's four have none; and a file that is another one without its owners.
abbrev pub ownerless_file : List ℕ → List ℕ
ownerless_file ws = take 4 ws ++ ownerless_words (drop 4 ws)

pub record Ownerless (bytes bare : List ℕ) : Type 0 where
  pub long : length bare ≡ length bytes
  pub spelt : words_of bare ≡ ownerless_file (words_of bytes)

-- What owners do: they refuse recipes, and change no run. A file that is accepted is accepted without them. A term that has its type has it without
-- them, makes the same steps, and ends the same under every limit and capacity, with the same counts, but for the owners in the words left.
pub record OwnersRefuseOnly : Type 0 where
  pub accepted : (bytes bare : List ℕ) → Ownerless bytes bare → (τ : Ty) (e : Term ml) → Accepted bytes τ e
      → Accepted bare (ownerless τ) (ownerless_term e)
  pub typed : (τ : Ty) (e : Term ml) → Typed [] e τ → Typed [] (ownerless_term e) (ownerless τ)
  pub steps : (n : ℕ) (e r : Term ml) → Steps n e r → Steps n (ownerless_term e) (ownerless_term r)
  pub ends : (limit cap : ℕ) (e : Term ml) (end : End) (code : ℕ) (made : Counts) (left : List ℕ) (wanted : ℕ)
      → Ends limit cap e (ended end code made left wanted)
      → Ends limit cap (ownerless_term e) (ended end code made (ownerless_words left) wanted)
