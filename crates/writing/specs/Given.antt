-- What contracts on words take as given, and the bounds that keep every place within 64 bits: each has its reason here, once.
use Rattle.std.specs.Prelude.{ℕ}

-- The words of a term, 2^20. The terms of a run have at most 16,384 words, its capacity: the words that a next term wants may be their square
-- (calculus, proofs/Bounds.antt), but it is no term of the run unless it fits. Any number from 16,384 on would do; this one leaves room for a
-- larger capacity, and products of two such numbers are still far from 2^64.
abbrev pub most_words : ℕ
most_words = 1048576

-- The words that a node becomes, 2^41: 2^20 words of a body, each of them a value of 2^20 words, and as many again, so that no sum is tight.
abbrev pub most_piece : ℕ
most_piece = 2199023255552

-- A place that is written at, 2^45: past sixteen such pieces.
abbrev pub most_place : ℕ
most_place = 35184372088832

-- A place or a count, 2^62: a word has four bytes, so that the bytes up to such a place are a number of 64 bits too; and half of it, where as many
-- words may still come.
abbrev pub most_count : ℕ
most_count = 4611686018427387904

abbrev pub half_count : ℕ
half_count = 2305843009213693952

-- A variable's word inside lambdas, 2^32 less 256: the word of one lambda more is a word too.
abbrev pub most_variable : ℕ
most_variable = 4294967040
