-- What the division keeps true from one step to the next.
use Rattle.std.specs.Prelude.{◌≡◌, drop, fold, length}
use Rattle.stun_extra.specs.Crc32.{ONES, after_byte}
use Rattle.stun_extra.proofs.crc32.crc32.Given as goal

-- what is left leads to the remainder after all bytes
abbrev pub invariant-loop-eight : goal.invariant-loop-eight
invariant-loop-eight l = fold after_byte l.remainder l.left ≡ fold after_byte ONES l.bytes

abbrev pub decreases-loop-eight : goal.decreases-loop-eight
decreases-loop-eight l = length l.left

abbrev pub invariant-loop-byte : goal.invariant-loop-byte
invariant-loop-byte l =
    fold after_byte l.remainder (drop l.byte-index l.byte-items) ≡ fold after_byte ONES l.bytes
