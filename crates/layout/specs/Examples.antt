-- Cards laid out by hand. proofs/Examples.antt proves them.
use Rattle.std.specs.Prelude.{[], ◌∷◌, ◌++◌, ◌≡◌}
use Rattle.text.specs.Characters.{characters}
use Rattle.layout.specs.Layout.{card}

pub record Examples : Type 0 where
  -- "An empty list has the last line alone."
  pub empty : card [] [] 0
      ≡ characters "TOTAL                          0        \n"
  -- a pump that gives nothing has its line
  pub three : card (9999 ∷ 0 ∷ 100000 ∷ []) (1000 ∷ 0 ∷ 30200 ∷ []) 31200
      ≡ characters " 1          9999            1000        \n"
      ++ characters " 2             0               0        \n"
      ++ characters " 3        100000           30200        \n"
      ++ characters "TOTAL                      31200        \n"
  -- the widest numbers: 10 digits of pulses, 13 of a charge, 14 of a total
  pub widest : card (4294967295 ∷ []) (4294967295000 ∷ []) 38654705655000
      ≡ characters " 1    4294967295   4294967295000        \n"
      ++ characters "TOTAL             38654705655000        \n"
