-- `file::open` meets its contract: the two tests in their order, and the array after each. Assumes nothing.
use Rattle.std.proofs.Common.{◌≡◌, false, true, sym, ap, ◌∙◌, length, take, ◌/◌}
use Rattle.calculus.specs.File.{is_size, words_of, padded}
use Rattle.calculus.proofs.Padding.{padded_none}
use Rattle.file.specs.Opening.{headed}
use Rattle.file.proofs.Opening.{front_is}
use Rattle.file.proofs.open.Goals as goal

pub returns-then-not-is_size-clause-buffer : goal.returns-then-not-is_size-clause-buffer
returns-then-not-is_size-clause-buffer c =
    let unfit : is_size (length c.args.file.now) ≡ false = sym c.is_size.ensures ∙ c.if-not-is_size.true in
    rw unfit (c.fill.ensures.after (λ y e. e) ∙ rw c.requires (padded_none 4096))

pub returns-clause-answer : goal.returns-clause-answer
returns-clause-answer c =
    let fit : is_size (length c.args.file.now) ≡ true = sym c.is_size.ensures ∙ c.if-not-is_size.false in
    let left : c.words.new.out ≡ padded 4096 (words_of c.args.file.now) = rw c.requires at c.words.ensures in
    let front : take (length c.args.file.now / 4) c.words.new.out ≡ words_of c.args.file.now = rw left (front_is _ fit) in
    rw fit (c.header.ensures ∙ ap headed front)
