-- The cards that are proved: each computes. Assumes nothing.
use mathlib.Core.Path.{refl}
use Rattle.calculus.specs.Words.{put, put_ty, size, size_ty}
use Rattle.calculus.specs.Kinds.{row_for}
use Rattle.calculus.specs.Reading.{walk, in_order, read, read_tree}
use Rattle.calculus.specs.Comparison.{first_difference}
use Rattle.calculus.specs.Inference.{infer}
use Rattle.calculus.specs.Faults.{fault}
use Rattle.calculus.specs.Reduction.{form, on_number, contract2, on_numbers, amiss, contract, fill, turn, step}
use Rattle.calculus.specs.Run.{run}
use Rattle.calculus.specs.File.{words_of, typed, check_words, check, run_in}
use Rattle.charges.specs.Prices.{charges, total, within, all_within}
use Rattle.pricing.specs.Items.{items, items_in}
use Rattle.pricing.specs.Pricing.{billed, pricing}
use Rattle.text.specs.Decimal.{decimal}
use Rattle.layout.specs.Layout.{pump_line, last_line, pump_lines, card}
use Rattle.card.specs.Carding.{carding}
use Rattle.card.specs.Cards.{Tried}

pub tried : Tried
unfolding carding card pump_lines pump_line last_line decimal pricing billed run_in check check_words typed words_of run step turn fill contract
    contract2
    on_numbers amiss on_number form infer fault first_difference read read_tree in_order walk row_for put put_ty size size_ty items items_in
    charges total within all_within
tried =
    record {
      edges = refl;
      byte_short = refl;
      empty = refl;
      empty_short = refl;
      too_many = refl;
      not_yet = refl;
      over = refl;
      no_file = refl;
    }
