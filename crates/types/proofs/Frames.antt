-- A reference's meaning hangs on no link outside its own, and a type has no more arrows in a row than its reference has places to go. Assumes
-- nothing.
use Prim.Native.Nat.{ℕ, suc, ◌+◌, ◌-◌, ◌≤◌, ◌<◌}
use mathlib.Core.List.{List}
use mathlib.Core.Logic.{inl, inr}
use mathlib.Core.Path.{◌≡◌, sym, subst}
use lib.ListN.{length, get_or}
use native.Mathlib.Omega.{arith}
use Rattle.calculus.specs.Trees.{Ty, N, L, list, ◌to◌}
use Rattle.calculus.specs.Words.{size_ty}
use Rattle.types.specs.References.{Means, codomain, arrows}
use Rattle.types.proofs.Meanings.{Codomain, written_means, written_in}

-- A wider range of links.
pub means_widen : (w ls : List ℕ) (lo hi lo' hi' p : ℕ) (t : Ty) → lo' ≤ lo → hi ≤ hi' → Means w ls lo hi p t → Means w ls lo' hi' p t
unfolding Means
means_widen w ls lo hi lo' hi' p N a b m = m
means_widen w ls lo hi lo' hi' p (L o) a b m = m
means_widen w ls lo hi lo' hi' p (list t) a b m = m
means_widen w ls lo hi lo' hi' p (t to u) a b m = (m.0, by (λ x. means_widen w ls (p + 1) hi (p + 1) hi' (get_or ls p 0) u (omega arith) b x) m.1)
  where
    by : (Means w ls (p + 1) hi (get_or ls p 0) u → Means w ls (p + 1) hi' (get_or ls p 0) u)
        → Codomain w ls lo hi p (size_ty t) u → Codomain w ls lo' hi' p (size_ty t) u
    by f (inl x) = inl (x.0, omega (arith, x.1), omega (arith, x.2), f x.3)
    by f (inr x) = inr x

-- Other links outside the range.
pub means_frame : (w ls ls' : List ℕ) (lo hi p : ℕ) (t : Ty) → ((i : ℕ) → lo ≤ i → i < hi → get_or ls' i 0 ≡ get_or ls i 0)
    → Means w ls lo hi p t → Means w ls' lo hi p t
unfolding Means
means_frame w ls ls' lo hi p N f m = m
means_frame w ls ls' lo hi p (L o) f m = m
means_frame w ls ls' lo hi p (list t) f m = m
means_frame w ls ls' lo hi p (t to u) f m =
    (m.0, by (λ h x. means_frame w ls ls' (p + 1) hi (get_or ls p 0) u (λ i a b. f i (omega arith) b) x) m.1)
  where
    by : (lo ≤ p → Means w ls (p + 1) hi (get_or ls p 0) u → Means w ls' (p + 1) hi (get_or ls p 0) u)
        → Codomain w ls lo hi p (size_ty t) u → Codomain w ls' lo hi p (size_ty t) u
    by g (inl x) = inl (x.0, x.1, x.2, subst (λ (j : ℕ). Means w ls' (p + 1) hi j u) (sym (f p x.1 x.2)) (g x.1 x.3))
    by g (inr x) = inr x

-- The result type of a function type.
pub means_codomain : (w ls : List ℕ) (lo hi p end : ℕ) (t u : Ty) → Means w ls lo hi p (t to u) → end ≡ p + 1 + size_ty t
    → Means w ls lo hi (codomain w ls p end) u
unfolding Means codomain
means_codomain w ls lo hi p end t u m e = by m.1
  where
    by : Codomain w ls lo hi p (size_ty t) u → Means w ls lo hi (codomain w ls p end) u
    by (inl x) = rw x.0 (means_widen w ls (p + 1) hi lo hi (get_or ls p 0) u (omega (arith, x.1)) (omega arith) x.3)
    by (inr x) = rw (x.0, e) (written_means w ls lo hi (p + 1 + size_ty t) u (omega arith) x.1)

arrows_size : (t : Ty) → arrows t ≤ size_ty t
unfolding arrows size_ty
arrows_size N = omega arith
arrows_size (L o) = omega arith
arrows_size (list t) = omega arith
arrows_size (t to u) = omega (arith, arrows_size u)

pub means_arrows : (w ls : List ℕ) (lo hi p : ℕ) (t : Ty) → hi ≤ length w → Means w ls lo hi p t → arrows t ≤ (hi - lo) + length w
unfolding Means arrows
means_arrows w ls lo hi p N h m = omega arith
means_arrows w ls lo hi p (L o) h m = omega arith
means_arrows w ls lo hi p (list t) h m = omega arith
means_arrows w ls lo hi p (t to u) h m = by (λ x. means_arrows w ls (p + 1) hi (get_or ls p 0) u h x) m.1
  where
    by : (Means w ls (p + 1) hi (get_or ls p 0) u → arrows u ≤ (hi - (p + 1)) + length w)
        → Codomain w ls lo hi p (size_ty t) u → suc (arrows u) ≤ (hi - lo) + length w
    by f (inl x) = omega (arith, f x.3, x.1, x.2)
    by f (inr x) = omega (arith, written_in w (p + 1 + size_ty t) u x.1, arrows_size u)
