-- Where the records of a capture are.
use Rattle.std.specs.Prelude.{◌≡◌, ◌+◌, ◌-◌, ℕ, List, take, drop}
use Rattle.captures.specs.declared.numbers.Order.{Order}
use Rattle.captures.specs.Numbers.{number_in}

-- the length of the header of a record, in a pcap file
abbrev pub RECORD_LENGTH : ℕ
RECORD_LENGTH = 16

-- the smallest number of bytes of a block
abbrev pub BLOCK_LENGTH : ℕ
BLOCK_LENGTH = 12

-- the bytes of a packet, in a pcap file: they follow the four numbers of its record, the third of
-- which is their count
abbrev pub packet_bytes : Order → List ℕ → List ℕ
packet_bytes order bytes = take (number_in order 4 (drop 8 bytes)) (drop 16 bytes)

-- the length of a record with its packet
abbrev pub record_length : Order → List ℕ → ℕ
record_length order bytes = RECORD_LENGTH + number_in order 4 (drop 8 bytes)

-- a block of this length has the length in its last four bytes too, as it has after its type
-- (pcapng)
abbrev pub IsEndedBy : ℕ → Order → List ℕ → Type 0
IsEndedBy length order block = number_in order 4 (drop (length - 4) block) ≡ length

-- the bytes of a block of this length between its type and length and the length at its end
abbrev pub block_body : ℕ → List ℕ → List ℕ
block_body length block = take (length - BLOCK_LENGTH) (drop 8 block)
