-- `pricing::items::read` meets its contract. Assumes nothing.
use Prim.Native.Nat.{ℕ, ◌-◌, ◌/◌, ◌≤◌}
use mathlib.Core.List.{List}
use mathlib.Core.Path.{◌≡◌, sym, ap, ◌∙◌, subst}
use native.Mathlib.Omega.{arith}
use lib.ListN.{length, get_or, take, drop, replicate, length-drop}
use borrow.Author.Rules.{rules, part_to_end}
use Rattle.writing.specs.Spans.{span}
use Rattle.pricing.proofs.Reading.{Reading, next, ends}
use Rattle.pricing.proofs.items.read.Goals as goal
use Rattle.pricing.proofs.items.read.Goals.{in_default, in_default-2}

pub skip-requires : goal.skip-requires
skip-requires c =
    let rest = c.loop-rest.rest.now in
    let item-is : take (length rest - 1) (drop 1 rest) ≡ drop 1 rest = part_to_end rest 1 in
    omega (arith, c.requires, c.loop-rest.invariant.bound, ap length item-is, length-drop 1 rest)

pub loop-rest-preserved : goal.loop-rest-preserved
loop-rest-preserved c =
    let rest = c.loop-rest.rest.now in
    let item = take (length rest - 1) (drop 1 rest) in
    let n = c.skip.result in
    let item-is : item ≡ drop 1 rest = part_to_end rest 1 in
    let rest-is : take (length item - n) (drop n item) ≡ drop n (drop 1 rest) = part_to_end item n ∙ ap (drop n) item-is in
    let l = c.loop-rest in
    record {
      same = c.put.ensures.same ∙ l.invariant.same;
      bound =
          omega (
            arith,
            l.invariant.bound,
            c.put.ensures.wrote.place,
            ap length rest-is,
            length-drop n (drop 1 rest),
            length-drop 1 rest,
            c.in-25.len_at_least,
          );
      reads =
          subst (λ (ws : List ℕ). Reading c.args.words.now ws c.new-items.result c.put.new.self) (sym rest-is)
          (next l.invariant.reads c.in-25.len_at_least (search rules)
          (c.number_at.ensures.value ∙ ap (λ (ws : List ℕ). get_or ws 0 0 / 256) item-is) c.put.ensures
          (c.skip.ensures.is ∙ ap (λ (ws : List ℕ). span ws 1) item-is));
    }

pub returns : goal.returns
returns c =
    let rest = c.loop-rest.rest.now in
    let no_more : 1 ≤ length rest → get_or rest 0 0 ≡ 25 → ⊥ =
    (elim c.if-rest-lt1.branch [
      | in_default w ↦ λ h k. omega (arith, w.in_default, h, k)
      | in_default-2 w ↦ λ h k. omega (arith, w.in_default, h, k)
    ]) in
    let same = c.loop-rest.invariant.same in
    let first : c.new-items.result.buffer.now ≡ replicate 9 0 = search rules in
    let read = ends c.loop-rest.invariant.reads no_more c.new-items.ensures.1 first in
    search rules
