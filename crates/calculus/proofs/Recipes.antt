-- The recipes that are proved: each computes. Assumes nothing.
use mathlib.Core.Path.{refl}
use Rattle.calculus.specs.Words.{put, put_ty, size, size_ty}
use Rattle.calculus.specs.Kinds.{row_for}
use Rattle.calculus.specs.Reading.{walk, in_order, read, read_tree}
use Rattle.calculus.specs.Comparison.{first_difference}
use Rattle.calculus.specs.Inference.{infer}
use Rattle.calculus.specs.Faults.{fault}
use Rattle.calculus.specs.Reduction.{substitute, form, on_number, on_lambda, on_list, on_lump, amiss, answer, contract1, contract2}
use Rattle.calculus.specs.Reduction.{on_numbers, to_ml, to_scheme, contract, fill, turn, step}
use Rattle.calculus.specs.Run.{run}
use Rattle.calculus.specs.File.{words_of, typed, check_words, check, run_in, operate}
use Rattle.calculus.specs.Recipes.{Starred, Classified, SavedBefore, Owned, Refused, Pointed}

pub starred : Starred
unfolding operate run_in check check_words typed words_of run step turn fill contract to_scheme to_ml contract2 contract1 on_numbers answer amiss
    on_lump on_list on_lambda on_number form substitute infer fault first_difference read read_tree in_order walk row_for put put_ty size size_ty
starred =
    record {
      sum = refl;
      difference = refl;
      over = refl;
      no_number = refl;
      function = refl;
      function_spent = refl;
      function_served = refl;
      function_full = refl;
      unsealed = refl;
      sealed = refl;
      endless = refl;
      no_list = refl;
      hd_of_nil = refl;
      no_number_tested = refl;
      own_code = refl;
    }

pub classified : Classified
unfolding operate run_in check check_words typed words_of run step turn fill contract to_ml contract2 amiss on_number on_lambda form infer fault
    first_difference read
    read_tree in_order walk row_for put put_ty size size_ty
classified = record { failed_call = refl; failed_conversion = refl; own_step_lem = refl }

pub saved_before : SavedBefore
unfolding operate run_in check check_words typed words_of run step turn fill contract amiss on_number form infer fault first_difference read
    read_tree in_order walk
    row_for put put_ty size size_ty
saved_before = record { goes_on = refl }

pub owned : Owned
unfolding operate run_in check check_words typed words_of run step turn fill contract to_scheme to_ml contract2 on_lump on_lambda on_number form
    substitute
    infer fault first_difference read read_tree in_order walk row_for put put_ty size size_ty
owned =
    record {
      resealed = refl;
      handed_over = refl;
      declared_otherwise = refl;
      last = refl;
      larger_declared = refl;
      larger_inside = refl;
    }

pub refused : Refused
unfolding operate run_in check check_words typed words_of infer fault first_difference read read_tree in_order walk row_for size size_ty put_ty
refused =
    record {
      empty_file = refl;
      header = refl;
      no_kind = refl;
      nested = refl;
      unbound = refl;
      untyped = refl;
      mistyped = refl;
      no_room = refl;
      other_language = refl;
      kind_first = refl;
    }

pub pointed : Pointed
unfolding operate run_in check check_words typed words_of infer fault first_difference read read_tree in_order walk row_for size size_ty put_ty
pointed = record { part_first = refl; node_itself = refl; lowest = refl; at_boundary = refl; in_result = refl; in_owner = refl }
