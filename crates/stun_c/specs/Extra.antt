-- The results of the calls over `stun_extra`: FINGERPRINT, types that are not known, and streams.
use Rattle.std.specs.Prelude.{ℕ, ℤ, pos, ◌+◌, ◌-◌, List, [], ◌++◌, length, map, take, drop}
use Rattle.std.specs.Prelude.{nat_lt, ◌==◌, if◌then◌else◌, Option, Some, None, Result, Ok, Err}
use Rattle.std.specs.Option.{option_or}
use Rattle.stun_base.specs.Attributes.{FINGERPRINT}
use Rattle.stun_base.specs.MessageType.{class_in, class_number}
use Rattle.stun_base.specs.declared.wire.attribute_type.AttributeType.{AttributeType}
use Rattle.stun_base.specs.declared.wire.message_type.MessageClass.TheVariants.{Error}
use Rattle.stun_types.specs.Attribute.{TypedValue}
use Rattle.stun_types.specs.Message.{refusal}
use Rattle.stun_types.specs.Writing.{empty_answer, with_attribute}
use Rattle.stun_extra.specs.Fingerprint.{fingerprint_in, with_fingerprint}
use Rattle.stun_extra.specs.Unknown.{UNKNOWN_ATTRIBUTES, spelled_types, types_of}
use Rattle.stun_extra.specs.Unknown.{unknown_attribute_error, unknown_attributes_in, unknown_types}
use Rattle.stun_extra.specs.declared.fingerprint.Fingerprint.{Fingerprint}
use Rattle.stun_extra.specs.declared.fingerprint.Fingerprint.TheVariants.{Right, Wrong}
use Rattle.stun_extra.specs.declared.fingerprint.Fingerprint.TheVariants.{Misplaced, Absent}
use Rattle.stun_extra.specs.declared.framing.Frame.{Frame}
use Rattle.stun_extra.specs.declared.framing.Frame.TheVariants.{Need, Message as Whole}
use Rattle.stun_extra.specs.declared.framing.Frame.TheVariants.{NotStun as NoFrame}
use Rattle.stun_numbers.specs.declared.refusal.Refusal.{Refusal}
use Rattle.stun_numbers.specs.declared.refusal.Refusal.TheVariants.{NotStun, BadArgument}
use Rattle.stun_numbers.specs.declared.refusal.Refusal.TheVariants.{MalformedAttribute}
use Rattle.stun_numbers.specs.declared.refusal.Refusal.TheVariants.{AttributeExists}
use Rattle.stun_numbers.specs.Refusals.{refusal_number, refusal_or, message_refusal}
use Rattle.stun_c.specs.Answers.{unless_no_message}
use Rattle.stun_c.specs.Reading.{value_at}
use Rattle.stun_c.specs.Writing.{fit_refusal, shows_kind}

-- ---- FINGERPRINT (RFC 8489, section 14.7)

-- the number for the state of a FINGERPRINT
abbrev pub fingerprint_number : Fingerprint → ℕ
fingerprint_number Absent = 0
fingerprint_number Right = 1
fingerprint_number Wrong = 2
fingerprint_number Misplaced = 3

-- the result of `stunp_check_fingerprint`
abbrev pub fingerprint_answer : List ℕ → ℤ
fingerprint_answer bytes =
    unless_no_message (refusal bytes) (pos (fingerprint_number (fingerprint_in bytes)))

-- why FINGERPRINT cannot end the first `count` bytes of a buffer, if it cannot: the buffer is
-- shorter, they are not a message, and then the errors of the library's call (law
-- `fingerprint_is_refused`)
abbrev pub ending_refusal : List ℕ → ℕ → Option Refusal
ending_refusal buffer count =
    if nat_lt (length buffer) count then Some BadArgument
    else option_or (message_refusal (refusal (take count buffer)))
    (if shows_kind FINGERPRINT (take count buffer) then Some AttributeExists
    else fit_refusal (take count buffer) (length buffer - count) 4)

-- the message that `stunp_add_fingerprint` makes
abbrev pub fingerprinted_message : List ℕ → ℕ → Result (List ℕ) Refusal
fingerprinted_message buffer count =
    refusal_or (ending_refusal buffer count) (Ok (with_fingerprint (take count buffer)))

-- ---- types that are not known (sections 6.3.1 and 14.13)

-- the largest number of types that a caller may list as known
abbrev pub MOST_KNOWN : ℕ
MOST_KNOWN = 256

-- why no types are returned, if none are: too many are known, and then the errors of the message
abbrev pub known_refusal : List ℕ → List ℕ → Option Refusal
known_refusal bytes known =
    if nat_lt MOST_KNOWN (length known) then Some BadArgument
    else message_refusal (refusal bytes)

-- a message's types that must be understood and are not known, in their order, each once
abbrev pub unknown_of : List ℕ → List ℕ → List AttributeType
unknown_of bytes known = unknown_types (types_of known) bytes

-- the number of types, or why they are not returned
abbrev pub told_number : Option Refusal → List AttributeType → ℤ
told_number None types = pos (length types)
told_number (Some refusal) types = refusal_number refusal

-- the caller's numbers after types are written to their front, as many as there is room for
abbrev pub numbers_after : List AttributeType → List ℕ → List ℕ
numbers_after types numbers =
    take (length numbers) (map (λ kind. kind.0) types) ++ drop (length types) numbers

-- the caller's numbers, if there is no error
abbrev pub types_after : Option Refusal → List AttributeType → List ℕ → List ℕ
types_after None types numbers = numbers_after types numbers
types_after (Some refusal) types numbers = numbers

-- the front of the answer to a request: an error response with its method and its ID, and the error
unfoldable pub refused_front : List ℕ → List ℕ
refused_front request =
    with_attribute (empty_answer Error request) unknown_attribute_error

-- UNKNOWN-ATTRIBUTES of types (section 14.13)
abbrev pub types_attribute : List AttributeType → TypedValue
types_attribute types = record { kind = UNKNOWN_ATTRIBUTES; value = spelled_types types }

-- the answer to a request with types that are not known
unfoldable pub unknown_answer : List ℕ → List AttributeType → List ℕ
unknown_answer request types = with_attribute (refused_front request) (types_attribute types)

-- the answer to a message with such types, which must be a request: nothing if there are none
abbrev pub answer_made : List ℕ → List AttributeType → Result (List ℕ) Refusal
answer_made message types =
    if class_number (class_in message) == 0
    then if length types == 0 then Ok [] else Ok (unknown_answer message types)
    else Err BadArgument

-- the answer that `stunp_refuse_unknown` makes
abbrev pub unknown_made : List ℕ → List ℕ → Result (List ℕ) Refusal
unknown_made request known =
    refusal_or (known_refusal request known) (answer_made request (unknown_of request known))

-- types, unless their attribute is malformed
abbrev pub unless_odd : Option (List AttributeType) → Result (List AttributeType) Refusal
unless_odd None = Err MalformedAttribute
unless_odd (Some types) = Ok types

-- the types in a value of UNKNOWN-ATTRIBUTES
abbrev pub types_of_value : Result (List ℕ) Refusal → Result (List AttributeType) Refusal
types_of_value (Ok value) =
    unless_odd (unknown_attributes_in (record { kind = UNKNOWN_ATTRIBUTES; value = value }))
types_of_value (Err refusal) = Err refusal

-- the types in the attribute at an offset of a message, or why there are none
abbrev pub types_at : List ℕ → ℕ → Result (List AttributeType) Refusal
types_at bytes place = types_of_value (value_at bytes place)

-- the result of `stunp_read_types` for these types
abbrev pub held_number : Result (List AttributeType) Refusal → ℤ
held_number (Ok types) = pos (length types)
held_number (Err refusal) = refusal_number refusal

-- the caller's numbers after they are written to the front
abbrev pub held_after : Result (List AttributeType) Refusal → List ℕ → List ℕ
held_after (Ok types) numbers = numbers_after types numbers
held_after (Err refusal) numbers = numbers

-- ---- streams (section 6.2.2)

-- how many bytes the first item of a stream has, or how many bytes are needed to know that: those
-- that have arrived and those that it needs
abbrev pub wanted_number : ℕ → Frame → ℤ
wanted_number there (Need more) = pos (there + more)
wanted_number there (Whole n) = pos n
wanted_number there NoFrame = refusal_number NotStun
