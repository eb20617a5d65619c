-- What a run leaves: the words of a term that the published reduction reaches, which is sound. Assumes nothing.
use Prim.Native.Nat.{ℕ}
use mathlib.Core.Path.{◌≡◌, refl, sym, ap, ◌∙◌, subst}
use lib.ListN.{length, take}
use Rattle.calculus.specs.Trees.{Ty, ml, Term}
use Rattle.calculus.specs.Words.{words}
use Rattle.calculus.specs.Rules.{Steps}
use Rattle.calculus.specs.Run.{error, Result}
use Rattle.calculus.specs.Endings.{Ends, by_value, by_limit, by_error, by_full}
use Rattle.calculus.specs.File.{Recipe, operate}
use Rattle.calculus.specs.Accepted.{Accepted}
use Rattle.calculus.proofs.Checks.{accepted_once, operate_iff}
use Rattle.calculus.proofs.Endings.{ends_iff}
use Rattle.calculus.proofs.Demands.{typed_safe}
use Rattle.ends.specs.declared.Report.{Report}
use Rattle.std.specs.Prelude.{Ok}
use Rattle.ends.specs.Results.{Line, end_of}
use Rattle.engine.specs.Answered.{spoken}
use Rattle.engine.specs.Lent.{Lent, Returned, room}
use Rattle.engine.proofs.Answering.{passed_by}
use Rattle.demands.specs.Demanded.{Leaves}
use Rattle.demands.proofs.Running.{Promised, front}

-- Where a run of e stopped, that did not end as an error.
record Stopped (e : Term ml) (r : Result) : Type 0 where
  term : Term ml
  reached : Steps r.made.steps e term
  left : r.left ≡ words term

stopped : {limit cap : ℕ} {e : Term ml} {r : Result} → Ends limit cap e r → ¬ (r.end ≡ error) → Stopped e r
stopped (by_value {t = t} p c i v) n = record { term = t; reached = p; left = refl }
stopped (by_limit {t} p c v) n = record { term = t; reached = p; left = refl }
stopped (by_error p c i x) n = absurd (n refl)
stopped (by_full {t = t} p c i a o) n = record { term = t; reached = p; left = refl }

pub leaves : (l : Lent) (g : Returned) → Promised l g → (τ : Ty) (e : Term ml) → Accepted l.bytes τ e → (x : Report) → g.answer ≡ Ok x
    → ¬ (end_of x.end ≡ error) → Leaves τ e x g
leaves l g h τ e a x q n =
    let v = operate l.bytes l.limit (length l.first) (length l.second) in
    let r = passed_by v x (ap spoken (sym q) ∙ h.answer_is) in
    let i = (operate_iff l.bytes l.limit (length l.first) (length l.second) r.0).0 r.1 in
    let ended = (ends_iff l.limit (room l) i.1 i.0 i.2.typed r.0).1 (sym i.4) in
    let no_error : ¬ (r.0.end ≡ error) = λ z. n (ap (λ (y : Line). y.end) r.2 ∙ z) in
    let s = subst (λ (y : Recipe). Stopped y.1 r.0) (accepted_once l.bytes (i.0, i.1) (τ, e) i.2 a) (stopped ended no_error) in
    record {
      term = s.term;
      reached = subst (λ (k : ℕ). Steps k e s.term) (sym (ap (λ (y : Line). y.made.steps) r.2)) s.reached;
      left = ap (λ (y : Line). take y.left g.first) r.2 ∙ front l g r.0 r.1 h ∙ s.left;
      sound = (typed_safe e τ a.typed).reached r.0.made.steps s.term s.reached;
    }
