-- Two texts of the same length, whose bytes are read in pairs: one byte of each text, from the
-- first to the last.
use Rattle.std.specs.Prelude.{ℕ, List, length}

-- the two texts, and how many pairs of their bytes have been read
pub record ReadPairs : Type 0 where
  pub one : List ℕ
  pub other : List ℕ
  pub read : ℕ

-- two texts of which this many pairs have been read
abbrev pub after_reads : ℕ → List ℕ → List ℕ → ReadPairs
after_reads read one other = record { one = one; other = other; read = read }

-- the same texts after each pair has been read once
abbrev pub all_read : ReadPairs → ReadPairs
all_read pairs = after_reads (length pairs.one) pairs.one pairs.other
