-- Owners refuse recipes and change no run, of what `check` and `run` promise. Assumes nothing.
use Prim.Native.Nat.{ℕ}
use mathlib.Core.List.{List, [], ◌∷◌}
use mathlib.Core.Path.{◌≡◌, refl, sym, ap, ◌∙◌, subst₂}
use native.Mathlib.Omega.{arith}
use lib.ListN.{length, take}
use Rattle.calculus.specs.Verdicts.{Verdict, passed, and_then}
use Rattle.calculus.specs.Run as spec
use Rattle.calculus.specs.Run.{ended}
use Rattle.calculus.specs.Endings.{Ends}
use Rattle.calculus.specs.File.{check}
use Rattle.calculus.specs.Owners.{ownerless, ownerless_term, ownerless_words, Ownerless}
use Rattle.calculus.proofs.Checks.{operate_iff}
use Rattle.calculus.proofs.Endings.{ends_iff}
use Rattle.calculus.proofs.Ownerless.{sized, owners_refuse_only}
use Rattle.std.specs.Prelude.{Result, Ok}
use Rattle.nodes.specs.declared.refusals.Refusal.{Refusal}
use Rattle.checker.specs.Checks.{checked, accepting}
use Rattle.ends.specs.declared.Report.{Report}
use Rattle.ends.specs.Results.{Line, line_of}
use Rattle.engine.specs.Answered.{spoken}
use Rattle.engine.specs.Lent.{Lent, Returned, room, operated}
use Rattle.engine.proofs.Answering.{passed_by}
use Rattle.demands.specs.Owned.{SameOwnerless, WithoutOwners}
use Rattle.demands.proofs.Running.{Promised, ended_by, front, once}
use Rattle.demands.proofs.Demanding.{checks}

-- A result without the owners in the words left.
abbrev ownerlessly : spec.Result → spec.Result
ownerlessly r = ended r.end r.code r.made (ownerless_words r.left) r.wanted

left_length : (ws : List ℕ) → length (ownerless_words ws) ≡ length ws
unfolding ownerless_words
left_length [] = refl
left_length (w ∷ ws) = omega (arith, left_length ws)

same_line : (r : spec.Result) → line_of (ownerlessly r) ≡ line_of r
same_line r = rw (left_length r.left)

module _ (l m : Lent) (o : Ownerless l.bytes m.bytes) (i : l.limit ≡ m.limit) (k : room l ≡ room m) where
  -- The run of the file without owners is that of the other, without the owners in the words left.
  ownerless_run : (r : spec.Result) → operated l ≡ passed r → operated m ≡ passed (ownerlessly r)
  ownerless_run r q =
      let x = (operate_iff l.bytes l.limit (length l.first) (length l.second) r).0 q in
      let e = x.1 in
      let a = owners_refuse_only.accepted l.bytes m.bytes o x.0 e x.2 in
      let by_rules = (ends_iff l.limit (room l) e x.0 x.2.typed r).1 (sym x.4) in
      let made = owners_refuse_only.ends l.limit (room l) e r.end r.code r.made r.left r.wanted by_rules in
      let there = subst₂ (λ (n cap : ℕ). Ends n cap (ownerless_term e) (ownerlessly r)) i k made in
      let ran = (ends_iff m.limit (room m) (ownerless_term e) (ownerless x.0) a.typed (ownerlessly r)).0 there in
      (operate_iff m.bytes m.limit (length m.first) (length m.second) (ownerlessly r)).1
      (ownerless x.0, ownerless_term e, a, omega (arith, sized e, x.3, k), sym ran)

  same_ownerless : (g h : Returned) → Promised l g → Promised m h → (x : Report) → g.answer ≡ Ok x → SameOwnerless x g h
  same_ownerless g h p q x a =
      let r = passed_by (operated l) x (ap spoken (sym a) ∙ p.answer_is) in
      let t = ownerless_run r.0 r.1 in
      let d = ended_by h.answer (line_of (ownerlessly r.0))
      (q.answer_is ∙ ap (λ (v : Verdict spec.Result). and_then v (λ y. passed (line_of y))) t) in
      let n : x.left ≡ length r.0.left = ap (λ (y : Line). y.left) r.2 in
      record {
        report = d.0;
        ended = d.1;
        numbers = d.2 ∙ same_line r.0 ∙ sym r.2;
        words =
            ap (λ (z : ℕ). take z h.first) (n ∙ sym (left_length r.0.left)) ∙ front m h (ownerlessly r.0) t q
            ∙ ap ownerless_words (sym (front l g r.0 r.1 p) ∙ ap (λ (z : ℕ). take z g.first) (sym n));
      }

pub without_owners : (c : Result (Unit {0}) Refusal) (l m : Lent) (g h : Returned) → checked c ≡ accepting (check m.bytes) → Promised l g
    → Promised m h
    → WithoutOwners l g c m h
without_owners c l m g h k p q =
    record {
      first = once l g p;
      second = once m h q;
      accepts = (checks m.bytes c k).accepts;
      accepted = λ o x.
          (checks m.bytes c k).accepts.1
          (ownerless x.0, ownerless_term x.1, owners_refuse_only.accepted l.bytes m.bytes o x.0 x.1 x.2);
      same = λ o i j x a. same_ownerless l m o i j g h p q x a;
      over = λ o j a.
          let x = (once l g p).exact.over.0 a in
          let e = owners_refuse_only.accepted l.bytes m.bytes o x.0 x.1 x.2 in
          (once m h q).exact.over.1 (ownerless x.0, ownerless_term x.1, e, omega (arith, sized x.1, x.3, j));
    }
