-- Document 01, "Recipes tried by hand": those with a star, and the small inputs of the table of refusals, from the file's bytes to the
-- result; three recipes that tell classes of steps apart; one that an earlier engine saved; six with lumps of owners; and six whose refusal points
-- at a mismatch. proofs/Recipes.antt proves them all.
use Rattle.std.specs.Prelude.{ℕ, List, [], ◌∷◌, ◌++◌, ◌≡◌, replicate}
use Rattle.calculus.specs.Verdicts.{refused, passed}
use Rattle.calculus.specs.Run.{End, valued, spent, error, full, Counts, ended}
use Rattle.calculus.specs.File.{bytes_of, file_of, operate}

-- What is lent: a limit of steps, and two buffers of one length.
pub record Allowed : Type 0 where
  pub limit : ℕ
  pub room : ℕ

abbrev pub allowed : ℕ → ℕ → Allowed
allowed k n = record { limit = k; room = n }

-- "Steps plentiful unless given": what the listing lends.
abbrev pub plenty : Allowed
plenty = allowed 1000000 4096

-- Steps made, and how many of them are calls, conversions and others.
abbrev pub counting : ℕ → ℕ → ℕ → ℕ → Counts
counting n calls conversions others = record { steps = n; calls = calls; conversions = conversions; others = others }

-- A file that is run, with what is lent, ends: with an end, a code, what was counted, words left and words wanted.
abbrev pub EndsAs : List ℕ → Allowed → End → ℕ → Counts → List ℕ → ℕ → Type 0
EndsAs file x end code made left wanted = operate (bytes_of file) x.limit x.room x.room ≡ passed (ended end code made left wanted)

-- A file is refused, with a number and a place.
abbrev pub Refuses : List ℕ → Allowed → ℕ → ℕ → Type 0
Refuses file x number place = operate (bytes_of file) x.limit x.room x.room ≡ refused number place

-- (ms (N to N) (fn v0)) applied to 7.
abbrev pub converted_words : List ℕ
converted_words = 19 ∷ 30 ∷ 4 ∷ 1 ∷ 1 ∷ 34 ∷ 32 ∷ 1809 ∷ []

-- The recipes with a star.
pub record Starred : Type 0 where
  -- add 2 3: value 5, 1 step; subtract 2 3: 0, 1; add 16,777,215 1: error 5, 2
  pub sum : EndsAs (file_of (1 ∷ []) (21 ∷ 529 ∷ 785 ∷ [])) plenty valued 0 (counting 1 0 0 1) (1297 ∷ []) 0
  pub difference : EndsAs (file_of (1 ∷ []) (22 ∷ 529 ∷ 785 ∷ [])) plenty valued 0 (counting 1 0 0 1) (17 ∷ []) 0
  pub over : EndsAs (file_of (1 ∷ []) (21 ∷ 4294967057 ∷ 273 ∷ [])) plenty error 5 (counting 2 0 0 2) [] 0
  -- ms N (fn 0): error 1, 2 steps
  pub no_number : EndsAs (file_of (1 ∷ []) (30 ∷ 1 ∷ 34 ∷ 33 ∷ [])) plenty error 1 (counting 2 0 1 1) [] 0
  -- value 7, 5 steps; limit 4, spent; capacity 12 serves, 11 is full after 0 steps, wanting 12
  pub function : EndsAs (file_of (1 ∷ []) converted_words) plenty valued 0 (counting 5 2 3 0) (1809 ∷ []) 0
  pub function_spent : EndsAs (file_of (1 ∷ []) converted_words) (allowed 4 4096) spent 0 (counting 4 2 2 0) (30 ∷ 1 ∷ 1825 ∷ []) 0
  pub function_served : EndsAs (file_of (1 ∷ []) converted_words) (allowed 1000000 12) valued 0 (counting 5 2 3 0) (1809 ∷ []) 0
  pub function_full : EndsAs (file_of (1 ∷ []) converted_words) (allowed 1000000 11) full 0 (counting 0 0 0 0) converted_words 12
  -- ms N (sm L (ms L 4)): 4, 2 steps
  pub unsealed : EndsAs (file_of (1 ∷ []) (30 ∷ 1 ∷ 45 ∷ 2 ∷ 30 ∷ 2 ∷ 1057 ∷ [])) plenty valued 0 (counting 2 0 2 0) (1041 ∷ []) 0
  -- ms L (fn v0), limit 0: value, 0 steps
  pub sealed : EndsAs (file_of (2 ∷ []) (30 ∷ 2 ∷ 34 ∷ 32 ∷ [])) (allowed 0 4096) valued 0 (counting 0 0 0 0) (30 ∷ 2 ∷ 34 ∷ 32 ∷ []) 0
  -- fix (fn N v0), under limit 3: spent with its own four words left
  pub endless : EndsAs (file_of (1 ∷ []) (20 ∷ 18 ∷ 1 ∷ 16 ∷ [])) (allowed 3 4096) spent 0 (counting 3 3 0 0) (20 ∷ 18 ∷ 1 ∷ 16 ∷ []) 0
  -- ms {N} (cons 1 2): error 3, 4 steps; hd (nil N): error 4, 2
  pub no_list : EndsAs (file_of (3 ∷ 1 ∷ []) (30 ∷ 3 ∷ 1 ∷ 40 ∷ 289 ∷ 545 ∷ [])) plenty error 3 (counting 4 0 3 1) [] 0
  pub hd_of_nil : EndsAs (file_of (1 ∷ []) (26 ∷ 24 ∷ 1 ∷ [])) plenty error 4 (counting 2 0 0 2) [] 0
  -- ms N (if0 nil 1 2), by document 02: error 1, 2 steps; ms N (add (fn v0) (wrong 300)): error 300, 1 step
  pub no_number_tested : EndsAs (file_of (1 ∷ []) (30 ∷ 1 ∷ 38 ∷ 39 ∷ 289 ∷ 545 ∷ [])) plenty error 1 (counting 2 0 0 2) [] 0
  pub own_code : EndsAs (file_of (1 ∷ []) (30 ∷ 1 ∷ 36 ∷ 34 ∷ 32 ∷ 76844 ∷ [])) plenty error 300 (counting 1 0 0 1) [] 0

-- Document 02, "Where the steps went", counts by the node and not by what it becomes: a call that makes wrong 2, a conversion that makes wrong 1, and
-- an error's own step, an other under an ms too.
pub record Classified : Type 0 where
  -- ms N (1 applied to 2); ms N (nil); ms N (wrong 300)
  pub failed_call : EndsAs (file_of (1 ∷ []) (30 ∷ 1 ∷ 35 ∷ 289 ∷ 545 ∷ [])) plenty error 2 (counting 2 1 0 1) [] 0
  pub failed_conversion : EndsAs (file_of (1 ∷ []) (30 ∷ 1 ∷ 39 ∷ [])) plenty error 1 (counting 2 0 1 1) [] 0
  pub own_step_lem : EndsAs (file_of (1 ∷ []) (30 ∷ 1 ∷ 76844 ∷ [])) plenty error 300 (counting 1 0 0 1) [] 0

-- Document 02: "A file saved before the change is read and continued under the new reduction from the term it holds." The file
-- recipes/saved-before.bin, whose term tests a list: add 12 (ms N (if0 (cons 5 nil) 0 (add (hd (cons 5 nil)) 1))).
pub record SavedBefore : Type 0 where
  pub goes_on : EndsAs
      (file_of (1 ∷ []) (21 ∷ 3089 ∷ 30 ∷ 1 ∷ 38 ∷ 40 ∷ 1313 ∷ 39 ∷ 33 ∷ 36 ∷ 41 ∷ 40 ∷ 1313 ∷ 39 ∷ 289 ∷ []))
      plenty error 1 (counting 2 0 0 2) [] 0

-- Document 02, "Lumps with owners". ms N (sm L9 ((fn L9 v0) applied to e)): the function takes owner 9's lumps.
abbrev pub taken_by9 : List ℕ → List ℕ
taken_by9 e = 30 ∷ 1 ∷ 45 ∷ 2306 ∷ 19 ∷ 18 ∷ 2306 ∷ 16 ∷ e

pub record Owned : Type 0 where
  -- "A Scheme script may still unseal a value and have it sealed for another owner": e is ms L9 (sm L7 (ms L7 4)), value 4, 4 steps
  pub resealed : EndsAs (file_of (1 ∷ []) (taken_by9 (30 ∷ 2306 ∷ 45 ∷ 1794 ∷ 30 ∷ 1794 ∷ 1057 ∷ []))) plenty
      valued 0 (counting 4 1 3 0) (1041 ∷ []) 0
  -- Owner 7's lump is not owner 9's: e is ms L7 4; and ms L7 4 at the declared type L9
  pub handed_over : Refuses (file_of (1 ∷ []) (taken_by9 (30 ∷ 1794 ∷ 1057 ∷ []))) plenty 6 9
  pub declared_otherwise : Refuses (file_of (2306 ∷ []) (30 ∷ 1794 ∷ 1057 ∷ [])) plenty 7 4
  -- "an owner, 0 to 255 .. A larger owner is refusal 3": ms L255 4 is a value; 256 declared, and at the ms
  pub last : EndsAs (file_of (65282 ∷ []) (30 ∷ 65282 ∷ 1057 ∷ [])) plenty valued 0 (counting 0 0 0 0) (30 ∷ 65282 ∷ 1057 ∷ []) 0
  pub larger_declared : Refuses (file_of (65538 ∷ []) (30 ∷ 65538 ∷ 1057 ∷ [])) plenty 3 4
  pub larger_inside : Refuses (file_of (65282 ∷ []) (30 ∷ 65538 ∷ 1057 ∷ [])) plenty 3 6

-- The small inputs of the table of refusals, fn N (ms N v0) with Scheme v0, and "3 before 4 at a word".
pub record Refused : Type 0 where
  pub empty_file : Refuses [] plenty 1 0
  pub header : Refuses (1 ∷ 4 ∷ 1 ∷ 6 ∷ 1 ∷ 17 ∷ []) plenty 2 0
  pub no_kind : Refuses (1 ∷ 4 ∷ 1 ∷ 5 ∷ 1 ∷ 99 ∷ []) plenty 3 5
  pub nested : Refuses (file_of (1 ∷ []) (replicate 256 20 ++ 17 ∷ [])) plenty 4 261
  pub unbound : Refuses (1 ∷ 4 ∷ 1 ∷ 5 ∷ 1 ∷ 16 ∷ []) plenty 5 5
  pub untyped : Refuses (file_of (1 ∷ []) (19 ∷ 17 ∷ 17 ∷ [])) plenty 6 5
  pub mistyped : Refuses (1 ∷ 4 ∷ 1 ∷ 5 ∷ 2 ∷ 17 ∷ []) plenty 7 4
  pub no_room : Refuses (1 ∷ 4 ∷ 1 ∷ 5 ∷ 1 ∷ 17 ∷ []) (allowed 1000000 0) 8 0
  pub other_language : Refuses (file_of (4 ∷ 1 ∷ 1 ∷ []) (18 ∷ 1 ∷ 30 ∷ 1 ∷ 32 ∷ [])) plenty 5 11
  pub kind_first : Refuses (file_of (1 ∷ []) (replicate 256 20 ++ 99 ∷ [])) plenty 3 261

-- Document 02, "Point at the mismatch".
pub record Pointed : Type 0 where
  -- if0 (nil N) (hd 3) 1: hd, because all parts of a node come before it; if0 (nil N) 0 1: if0 itself
  pub part_first : Refuses (file_of (1 ∷ []) (23 ∷ 24 ∷ 1 ∷ 26 ∷ 785 ∷ 273 ∷ [])) plenty 6 8
  pub node_itself : Refuses (file_of (1 ∷ []) (23 ∷ 24 ∷ 1 ∷ 17 ∷ 273 ∷ [])) plenty 6 5
  -- add (hd 3) (tl 4): the lower of two
  pub lowest : Refuses (file_of (1 ∷ []) (21 ∷ 26 ∷ 785 ∷ 27 ∷ 1041 ∷ [])) plenty 6 6
  -- ms N (sm N (nil N)): sm
  pub at_boundary : Refuses (file_of (1 ∷ []) (30 ∷ 1 ∷ 45 ∷ 1 ∷ 24 ∷ 1 ∷ [])) plenty 6 7
  -- fn N (fn N 0), declared N to (N to {N}): the word of the list; fn N (ms L4 0), declared N to L3: the owner's word
  pub in_result : Refuses (file_of (4 ∷ 1 ∷ 4 ∷ 1 ∷ 3 ∷ 1 ∷ []) (18 ∷ 1 ∷ 18 ∷ 1 ∷ 17 ∷ [])) plenty 7 8
  pub in_owner : Refuses (file_of (4 ∷ 1 ∷ 770 ∷ []) (18 ∷ 1 ∷ 30 ∷ 1026 ∷ 33 ∷ [])) plenty 7 6
