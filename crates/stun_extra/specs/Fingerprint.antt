-- FINGERPRINT (RFC 8489, section 14.7): the last attribute of a message, whose value is the CRC-32
-- of the bytes before it, XORed with a number. The length in the header of these bytes includes
-- FINGERPRINT already.
use Rattle.std.specs.Prelude.{ℕ, ◌+◌, Bool, List, length, take, bit_xor}
use Rattle.std.specs.Prelude.{◌==◌, ◌&&◌, Option, Some, None, if◌then◌else◌}
use Rattle.byteorder.specs.Endian.{big_bytes, big_number}
use Rattle.stun_base.specs.Attributes.{FINGERPRINT}
use Rattle.stun_base.specs.declared.wire.error.StunWriteError.{StunWriteError}
use Rattle.stun_base.specs.declared.wire.error.StunWriteError.TheVariants.{AttributeExists}
use Rattle.stun_types.specs.Attribute.{TypedValue}
use Rattle.stun_types.specs.Integrity.{first_of}
use Rattle.stun_types.specs.Message.{with_length}
use Rattle.stun_types.specs.Visible.{has_kind, visible}
use Rattle.stun_types.specs.Walk.{Member, walk}
use Rattle.stun_types.specs.Writing.{length_with, size_refusal, with_attribute}
use Rattle.stun_extra.specs.Crc32.{crc32}
use Rattle.stun_extra.specs.declared.fingerprint.Fingerprint.{Fingerprint}
use Rattle.stun_extra.specs.declared.fingerprint.Fingerprint.TheVariants.{Right, Wrong}
use Rattle.stun_extra.specs.declared.fingerprint.Fingerprint.TheVariants.{Misplaced, Absent}

-- the number with which the CRC-32 of a message is XORed
abbrev pub FINGERPRINT_XOR : ℕ
FINGERPRINT_XOR = 0x5354554E

-- the number in a FINGERPRINT that follows these bytes of a message
abbrev pub fingerprint_word : List ℕ → ℕ
fingerprint_word bytes = bit_xor (crc32 bytes) FINGERPRINT_XOR

-- the FINGERPRINT to add at the end of a message. The length field that its CRC-32 covers includes
-- the FINGERPRINT, whose value has 4 bytes
abbrev pub fingerprint_attribute : List ℕ → TypedValue
fingerprint_attribute message = record {
  kind = FINGERPRINT;
  value = big_bytes 4 (fingerprint_word (with_length message (length_with message 4)));
}

-- the message with its new length, then its FINGERPRINT
abbrev pub with_fingerprint : List ℕ → List ℕ
with_fingerprint message = with_attribute message (fingerprint_attribute message)

-- why a FINGERPRINT is refused in a writer with this room: the first reason that applies
abbrev pub fingerprint_refusal : List ℕ → ℕ → Option StunWriteError
fingerprint_refusal message room =
    if has_kind FINGERPRINT (walk message) then Some (AttributeExists (record { 0 = FINGERPRINT }))
    else size_refusal message room 4

-- whether an attribute has the four bytes of a CRC-32, and the message ends with it
abbrev pub is_in_place : List ℕ → Member → Bool
is_in_place message m = (length m.1.value == 4) && (m.0 + 8 == length message)

-- the state of an attribute that is read as the FINGERPRINT of a message
abbrev pub fingerprint_at : List ℕ → Member → Fingerprint
fingerprint_at message m =
    if is_in_place message m
    then if big_number 4 m.1.value == fingerprint_word (take m.0 message) then Right else Wrong
    else Misplaced

-- the state of an attribute, or `Absent` if there is none
abbrev pub fingerprint_if : List ℕ → Option Member → Fingerprint
fingerprint_if message None = Absent
fingerprint_if message (Some m) = fingerprint_at message m

-- the state of the FINGERPRINT of a message: only the first one counts
abbrev pub fingerprint_in : List ℕ → Fingerprint
fingerprint_in message = fingerprint_if message (first_of FINGERPRINT (visible message))
