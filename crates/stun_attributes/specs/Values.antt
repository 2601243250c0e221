-- How further values of one form are read, in addition to those of `stun_extra`. A value whose
-- length differs from that of its type is malformed.
use Rattle.std.specs.Prelude.{◌≡◌, ◌<◌, ◌^◌, ◌+◌, ℕ, List, length, Option, Some, None, ◌==◌, ◌&&◌}
use Rattle.std.specs.Prelude.{◌||◌, if◌then◌else◌}
use Rattle.std.proofs.Common.{arith, rules, ◌/◌, ◌%◌, ◌*◌}
use Rattle.byteorder.specs.Endian.{big_bytes, big_number}
use Rattle.stun_types.specs.Attribute.{TypedValue}

-- the value of an attribute of this type, if it has exactly this number of bytes
abbrev pub value_of_length : ℕ → ℕ → TypedValue → Option (List ℕ)
value_of_length kind count attribute =
    if attribute.kind == kind && (length attribute.value == count) then Some attribute.value
    else None

-- the 16-bit number that is the value of an attribute of this type. Two bytes of padding follow it,
-- which some senders include in the length of the value
abbrev pub short_of : ℕ → TypedValue → Option ℕ
short_of kind attribute =
    if attribute.kind == kind && (length attribute.value == 2 || (length attribute.value == 4))
    then Some (big_number 2 attribute.value) else None

-- ---- what is written is read again

pub value_of_length-written : (kind count : ℕ) (value : List ℕ) → length value ≡ count
    → value_of_length kind count (record { kind = kind; value = value }) ≡ Some value
value_of_length-written kind count value whole = search rules

pub short_of-written : (kind number : ℕ) → number < 2 ^ 16
    → short_of kind (record { kind = kind; value = big_bytes 2 number }) ≡ Some number
short_of-written kind number fits =
    let read : number / 256 % 256 * 256 + (number % 256 * 1 + 0) ≡ number = omega (arith, fits) in
    rw read (search rules)
