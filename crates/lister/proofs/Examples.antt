-- The listing's examples: each computes. Assumes nothing.
use mathlib.Core.Path.{refl}
use Rattle.calculus.specs.Words.{put, put_ty, size, size_ty}
use Rattle.calculus.specs.Kinds.{row_for}
use Rattle.calculus.specs.Reading.{walk, in_order, read, read_tree}
use Rattle.calculus.specs.Comparison.{first_difference}
use Rattle.calculus.specs.Inference.{infer}
use Rattle.calculus.specs.Faults.{fault}
use Rattle.calculus.specs.Reduction.{form, on_number, on_list, contract1, contract2, on_numbers, contract, fill, turn, step}
use Rattle.calculus.specs.Run.{run}
use Rattle.calculus.specs.File.{words_of, typed, check_words, check, run_in, operate}
use Rattle.text.specs.Decimal.{decimal}
use Rattle.lister.specs.Listing.{field, listing, Examples}

pub examples : Examples
unfolding listing field decimal operate run_in check check_words typed words_of run step turn fill contract
    contract2 contract1 on_numbers on_list on_number form infer fault first_difference read read_tree in_order walk row_for put put_ty size size_ty
examples = record { sum = refl; hd_of_nil = refl; sealed = refl; empty_file = refl }
