-- The files that are proved: each computes. Assumes nothing.
use mathlib.Core.Path.{refl}
use Rattle.calculus.specs.Words.{put, put_ty, size, size_ty}
use Rattle.calculus.specs.Kinds.{row_for}
use Rattle.calculus.specs.Reading.{walk, in_order, read, read_tree}
use Rattle.calculus.specs.Comparison.{first_difference}
use Rattle.calculus.specs.Inference.{infer}
use Rattle.calculus.specs.Faults.{fault}
use Rattle.calculus.specs.Reduction.{substitute, form, on_number, on_lambda, on_list, on_lump, amiss, answer, contract1, contract2}
use Rattle.calculus.specs.Reduction.{on_numbers, to_ml, to_scheme, contract, fill, turn, step}
use Rattle.calculus.specs.Run.{run}
use Rattle.calculus.specs.File.{words_of, typed, check_words, check, run_in, operate}
use Rattle.saving.specs.Saving.{saving}
use Rattle.saving.specs.Files.{Tried, TooDeep}

pub tried : Tried
unfolding saving typed infer fault first_difference read read_tree in_order walk row_for put_ty size size_ty
tried =
    record {
      sum = refl;
      short = refl;
      largest = refl;
      long_type = refl;
      long_term = refl;
      longest = refl;
      no_type = refl;
      no_term = refl;
      no_kind = refl;
      nested = refl;
      unbound = refl;
      untyped = refl;
      mistyped = refl;
    }

pub too_deep : TooDeep
unfolding saving operate run_in check check_words typed words_of run step turn fill contract to_scheme to_ml contract2 contract1 on_numbers answer
    amiss on_lump on_list on_lambda on_number form substitute infer fault first_difference read read_tree in_order walk row_for put put_ty size
    size_ty
too_deep = record { spent_after_one = refl; refused_by_four = refl }
