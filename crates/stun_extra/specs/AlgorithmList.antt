-- PASSWORD-ALGORITHMS with algorithms of every number and with their parameters (RFC 8489, section
-- 14.11). An entry consists of the number of an algorithm and the length of its parameters, of 2
-- bytes each, and the parameters, which are padded to a multiple of 4 bytes. So it has the form of
-- an attribute whose kind is the number, and whose value is the parameters.
use Rattle.std.specs.Prelude.{ℕ, Bool, List, length, Option, Some, None, ◌==◌, ◌&&◌}
use Rattle.std.specs.Prelude.{if◌then◌else◌, Result, Ok, Err, nat_lt}
use Rattle.stun_base.specs.Attributes.{PASSWORD_ALGORITHMS}
use Rattle.stun_base.specs.declared.wire.error.StunWriteError.{StunWriteError}
use Rattle.stun_base.specs.declared.wire.error.StunWriteError.TheVariants.{TooLarge}
use Rattle.stun_types.specs.Attribute.{TypedValue}
use Rattle.stun_types.specs.Walk.{attributes_length, attributes_of, walk_from}

-- the entry of an algorithm with these parameters, of at most 65535 bytes
abbrev pub entry_answer : ℕ → List ℕ → Result TypedValue StunWriteError
entry_answer number parameters =
    if nat_lt 65535 (length parameters) then Err TooLarge
    else Ok (record { kind = number; value = parameters })

-- the entries in bytes, one after the other, up to the first that is not whole; their padding is
-- ignored
abbrev pub entries_in : List ℕ → List TypedValue
entries_in bytes = attributes_of (walk_from 0 bytes)

-- whether the entries fill the bytes
abbrev pub are_filled : List ℕ → Bool
are_filled bytes = attributes_length (walk_from 0 bytes) == length bytes

-- the entries in a PASSWORD-ALGORITHMS; there may be none
abbrev pub algorithm_list_in : TypedValue → Option (List TypedValue)
algorithm_list_in attribute =
    if attribute.kind == PASSWORD_ALGORITHMS && are_filled attribute.value
    then Some (entries_in attribute.value) else None
