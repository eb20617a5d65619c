-- `types::Types::compare_within` meets its contract: each way out is one law of Comparing. The measure is the room. Assumes nothing.
use Rattle.std.proofs.Common.{ℕ, List, ◌≡◌, Option, Some, sym, ap, ◌∙◌, arith}
use Rattle.std.specs.Option.{option_map}
use Rattle.nodes.specs.declared.kinds.Shape.{Shape}
use Rattle.types.specs.declared.Former.{Former}
use Rattle.types.specs.References.{shape_at, former_of, former_at}
use Rattle.types.proofs.Pairs.{some_is, none_some, other_former}
use Rattle.types.proofs.Matching.{passed_on}
use Rattle.types.proofs.Formers.{one_way, two_ways}
use Rattle.types.proofs.Comparing.{OneFormer, other_formers, lumps, no_parts, no_type, differ, lists, functions}
use Rattle.types.proofs.Types.+compare_within.Goals as goal
use Rattle.types.proofs.Types.+compare_within.Goals.{then-room-eq0-via-then-room-eq0, then-room-eq0-via-else-room-eq0+then-ne}
use Rattle.types.proofs.Types.+compare_within.Goals.{Else-ne, After-compare_behind, After-compare_behind-2}

-- The former of a shape that stands at a place.
at_place : (w : List ℕ) (p : ℕ) {x : Option Shape} {h : Option Former} → h ≡ option_map former_of x → x ≡ shape_at w p → h ≡ former_at w p
at_place w p e k = e ∙ ap (option_map former_of) k

pub returns-then-room-eq0 : goal.returns-then-room-eq0
returns-then-room-eq0 t c =
    elim c.then-room-eq0.branch [
      | then-room-eq0-via-then-room-eq0 w ↦ λ s u lo hi lo' hi' mp mq less. absurd (omega (arith, w.if-room-eq0.true))
      | then-room-eq0-via-else-room-eq0+then-ne w ↦
          other_formers _ _ _ _ _ _ (at_place _ _ c.formed-former.ensures c.shape_at-first.ensures.value) _
          (at_place _ _ w.formed.ensures c.shape_at-second.ensures.value) (two_ways _ _ (sym w.ne.ensures ∙ w.if-ne.true))
    ]

-- Both references have types that are formed in one way.
same : {t : ℕ} (c : Else-ne t) → c.formed-former.result ≡ c.formed.result
same c = one_way _ _ (sym c.if-ne.ensures)

pub returns-in-Lump : goal.returns-in-Lump
returns-in-Lump t c =
    lumps _ _ _ _ _ _ (at_place _ _ c.formed-former.ensures c.shape_at-first.ensures.value) _
    (at_place _ _ c.formed.ensures c.shape_at-second.ensures.value) (same (goal.at.returns-in-Lump t c).Else-ne)
    (c.in-Some.is ∙ ap Some c.in-Lump.is) _ c.compare_lumps.ensures

pub returns-in_default-former : goal.returns-in_default-former
returns-in_default-former t c =
    let d = c.in_default-former in
    let q = sym c.in-Some.is in
    no_parts _ _ _ _ _ _ (at_place _ _ c.formed-former.ensures c.shape_at-first.ensures.value) _
    (at_place _ _ c.formed.ensures c.shape_at-second.ensures.value) (same (goal.at.returns-in_default-former t c).Else-ne)
    (λ e. absurd (d.not-Lump (some_is (q ∙ e)))) (λ e. d.not-List (some_is (q ∙ e))) (λ e. d.not-Function (some_is (q ∙ e)))

pub returns-in_default : goal.returns-in_default
returns-in_default t c = no_type _ _ _ _ _ _ (at_place _ _ c.formed-former.ensures c.shape_at-first.ensures.value) _
    (at_place _ _ c.formed.ensures c.shape_at-second.ensures.value) (λ u e. none_some (sym c.in_default.is ∙ e)) _

-- Lists.
lists_compared : {t : ℕ} (c : After-compare_behind t) →
    OneFormer c.args.self.now.words.now c.args.p c.args.q c.formed-former.result c.formed.result c.compare_behind.result
lists_compared c =
    let h = c.in-Some.is ∙ ap Some c.in-List.is in
    record {
      first = at_place _ _ c.formed-former.ensures c.shape_at-first.ensures.value;
      second = at_place _ _ c.formed.ensures c.shape_at-second.ensures.value;
      same = one_way _ _ (sym c.if-ne.ensures);
      no_number = other_former h (λ e. omega (arith, e));
      no_lump = other_former h (λ e. omega (arith, e));
      matched = c.compare_behind.ensures;
    }

pub returns-in_err-compare_behind-in-List : goal.returns-in_err-compare_behind-in-List
returns-in_err-compare_behind-in-List t c =
    rw (passed_on _ c.from_residual.ensures.1)
    (differ _ _ _ _ _ (lists_compared (goal.at.returns-in_err-compare_behind-in-List t c).After-compare_behind) _
    c.in_err-compare_behind-in-List.was)

pub returns-in-List : goal.returns-in-List
returns-in-List t c =
    let h = c.in-Some.is ∙ ap Some c.in-List.is in
    lists _ _ _ _ _ (lists_compared (goal.at.returns-in-List t c).After-compare_behind) _
    c.in_ok-compare_behind-in-List.was (other_former h (λ e. omega (arith, e)))

-- Functions.
functions_compared : {t : ℕ} (c : After-compare_behind-2 t) →
    OneFormer c.args.self.now.words.now c.args.p c.args.q c.formed-former.result c.formed.result c.compare_behind-2.result
functions_compared c =
    let h = c.in-Some.is ∙ ap Some c.in-Function.is in
    record {
      first = at_place _ _ c.formed-former.ensures c.shape_at-first.ensures.value;
      second = at_place _ _ c.formed.ensures c.shape_at-second.ensures.value;
      same = one_way _ _ (sym c.if-ne.ensures);
      no_number = other_former h (λ e. omega (arith, e));
      no_lump = other_former h (λ e. omega (arith, e));
      matched = c.compare_behind-2.ensures;
    }

pub returns-in_err-end : goal.returns-in_err-end
returns-in_err-end t c =
    rw (passed_on _ c.from_residual-in_err-end.ensures.1)
    (differ _ _ _ _ _ (functions_compared (goal.at.returns-in_err-end t c).After-compare_behind-2) _ c.in_err-end.was)

pub returns : goal.returns
returns t c =
    let h = c.in-Some.is ∙ ap Some c.in-Function.is in
    functions _ _ _ _ _ (functions_compared (goal.at.returns t c).After-compare_behind-2) _
    c.in_ok-end.was (other_former h (λ e. omega (arith, e))) _ _ _ c.codomain_by-t.ensures c.codomain_by-u.ensures
    c.compare_within.ensures
