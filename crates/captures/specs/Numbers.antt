-- Numbers in either byte order.
use Rattle.std.specs.Prelude.{ℕ, List}
use Rattle.byteorder.specs.Endian.{big_number, little_number}
use Rattle.captures.specs.declared.numbers.Order.{Order}
use Rattle.captures.specs.declared.numbers.Order.TheVariants.{Big, Little}

-- the number in this many bytes at the front
abbrev pub number_in : Order → ℕ → List ℕ → ℕ
number_in Big count bytes = big_number count bytes
number_in Little count bytes = little_number count bytes
