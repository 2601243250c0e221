-- How the calls that write a message change the caller's buffer: bytes, or the first error.
use Rattle.std.specs.Prelude.{ℕ, ◌-◌, ◌^◌, Bool, List, [], length, take, find}
use Rattle.std.specs.Prelude.{nat_lt, nat_le, not, ◌==◌, ◌&&◌, ◌||◌, if◌then◌else◌}
use Rattle.std.specs.Prelude.{is_some, Option, Some, None, Result, Ok, Err}
use Rattle.std.specs.Option.{option_or}
use Rattle.std.specs.Str.{is_utf8}
use Rattle.byteorder.specs.Endian.{big_bytes, big_number}
use Rattle.stun_base.specs.Algorithm.{digest_length}
use Rattle.stun_base.specs.Attributes.{ERROR_CODE}
use Rattle.stun_base.specs.Header.{transaction_id_field}
use Rattle.stun_base.specs.MessageType.{class_of_bits, type_number}
use Rattle.stun_base.specs.declared.keys.algorithm.IntegrityAlgorithm.{IntegrityAlgorithm}
use Rattle.stun_extra.specs.AttributeTypes.{XOR_PEER_ADDRESS}
use Rattle.stun_types.specs.Attribute.{attribute_length}
use Rattle.stun_types.specs.ErrorCode.{error_value}
use Rattle.stun_types.specs.Grammar.{spelled_message}
use Rattle.stun_types.specs.Limits.{TEXT_LIMIT, max_length}
use Rattle.stun_types.specs.Visible.{visible}
use Rattle.stun_types.specs.Writing.{is_set_apart, length_with, with_attribute, with_integrity}
use Rattle.stun_types.specs.XorMappedAddress.{xor_bytes, xor_key, xor_port, xored_value}
use Rattle.stun_numbers.specs.declared.refusal.Refusal.{Refusal}
use Rattle.stun_numbers.specs.declared.refusal.Refusal.TheVariants.{BadArgument, NotText}
use Rattle.stun_numbers.specs.declared.refusal.Refusal.TheVariants.{TextTooLong, BufferTooSmall}
use Rattle.stun_numbers.specs.declared.refusal.Refusal.TheVariants.{NotAllowed, AttributeExists}
use Rattle.stun_numbers.specs.declared.refusal.Refusal.TheVariants.{MessageTooLong}
use Rattle.stun_numbers.specs.Refusals.{refusal_or}
use Rattle.stun_numbers.specs.Messages.{base_refusal}

-- the message that `stunp_begin` makes: a header without attributes (RFC 8489, section 5)
abbrev pub begun_message : ℕ → ℕ → List ℕ → Result (List ℕ) Refusal
begun_message class method id =
    if nat_lt class 4 && nat_lt method 4096 && (length id == 12)
    then Ok (spelled_message (type_number (class_of_bits class) method) (big_number 12 id) [])
    else Err BadArgument

-- XOR-RELAYED-ADDRESS (RFC 8656, section 18.5)
abbrev pub XOR_RELAYED_ADDRESS : ℕ
XOR_RELAYED_ADDRESS = 0x0016

-- whether a message has a visible attribute of a type
abbrev pub shows_kind : ℕ → List ℕ → Bool
shows_kind kind message = is_some (find (λ m. m.1.kind == kind) (visible message))

-- why a value of n bytes does not fit after a message with this much room: first the length field,
-- then the room
abbrev pub fit_refusal : List ℕ → ℕ → ℕ → Option Refusal
fit_refusal message room n =
    if nat_lt max_length (length_with message n) then Some MessageTooLong
    else if nat_lt room (attribute_length n) then Some BufferTooSmall else None

-- the types of TURN that a message may have more than once: XOR-RELAYED-ADDRESS, because the
-- response to a client that asks for both families of addresses has one of each (RFC 8656, section
-- 7.2), and XOR-PEER-ADDRESS, because a CreatePermission has any number of peers (section 10.1)
abbrev pub may_repeat : ℕ → Bool
may_repeat kind = (kind == XOR_PEER_ADDRESS) || (kind == XOR_RELAYED_ADDRESS)

-- why an attribute is not added: the first reason that applies
abbrev pub adding_refusal : List ℕ → ℕ → ℕ → ℕ → Option Refusal
adding_refusal buffer count kind n =
    option_or (base_refusal buffer count)
    (if is_set_apart kind then Some NotAllowed
    else if not (may_repeat kind) && shows_kind kind (take count buffer) then Some AttributeExists
    else fit_refusal (take count buffer) (length buffer - count) n)

-- a message with one more attribute, after it in its buffer
abbrev pub added_attribute : List ℕ → ℕ → ℕ → List ℕ → Result (List ℕ) Refusal
added_attribute buffer count kind value =
    refusal_or (adding_refusal buffer count kind (length value))
    (Ok (with_attribute (take count buffer) (record { kind = kind; value = value })))

-- the message that `stunp_add` makes, with a type that must be a number of 16 bits
abbrev pub added_number : List ℕ → ℕ → ℕ → List ℕ → Result (List ℕ) Refusal
added_number buffer count kind value =
    if nat_lt kind 65536 then added_attribute buffer count kind value else Err BadArgument

-- the family of an address of this many octets (section 14.2)
abbrev pub family_of_count : ℕ → ℕ
family_of_count count = if count == 4 then 1 else 2

-- the value of an address that is XORed for an ID (section 14.2)
unfoldable pub hidden_value : List ℕ → ℕ → ℕ → List ℕ
hidden_value octets port id =
    xored_value
    (record {
      family = family_of_count (length octets);
      port = xor_port port;
      octets = xor_bytes octets (xor_key id);
    })

-- whether there are as many octets as an address has, and a port of 16 bits
abbrev pub is_address : List ℕ → ℕ → Bool
is_address octets port = nat_lt port 65536 && ((length octets == 4) || (length octets == 16))

-- the message that `stunp_add_xor_mapped_address` makes with its type: it has an attribute with a
-- value like that of XOR-MAPPED-ADDRESS
abbrev pub added_address : List ℕ → ℕ → ℕ → List ℕ → ℕ → Result (List ℕ) Refusal
added_address buffer count kind octets port =
    if is_address octets port
    then added_attribute buffer count kind
    (hidden_value octets port (transaction_id_field (take count buffer))) else Err BadArgument

-- the message that `stunp_add_xor_address` makes, with a type that must be a number of 16 bits
abbrev pub added_numbered_address : List ℕ → ℕ → ℕ → List ℕ → ℕ → Result (List ℕ) Refusal
added_numbered_address buffer count kind octets port =
    if nat_lt kind 65536 then added_address buffer count kind octets port else Err BadArgument

-- the value of an address that is not XORed (section 14.1): the same form
abbrev pub plain_value : List ℕ → ℕ → List ℕ
plain_value octets port =
    xored_value (record { family = family_of_count (length octets); port = port; octets = octets })

-- the message that `stunp_add_address` makes, with a type that must be a number of 16 bits
abbrev pub added_plain_address : List ℕ → ℕ → ℕ → List ℕ → ℕ → Result (List ℕ) Refusal
added_plain_address buffer count kind octets port =
    if is_address octets port then added_number buffer count kind (plain_value octets port)
    else Err BadArgument

-- whether numbers are written in this many bytes
abbrev pub is_size : ℕ → Bool
is_size size = (size == 1) || (size == 2) || (size == 4) || (size == 8)

-- whether this number is written in this many bytes
abbrev pub has_size : ℕ → ℕ → Bool
has_size size number = is_size size && nat_lt number (256 ^ size)

-- the message that `stunp_add_number` makes: that of `stunp_add`, with the number in this many
-- bytes
abbrev pub added_sized : List ℕ → ℕ → ℕ → ℕ → ℕ → Result (List ℕ) Refusal
added_sized buffer count kind size number =
    if has_size size number then added_number buffer count kind (big_bytes size number)
    else Err BadArgument

-- why an error cannot be written: its code, then its reason (section 14.8)
abbrev pub error_argument_refusal : ℕ → List ℕ → Option Refusal
error_argument_refusal code reason =
    if nat_lt code 300 || nat_le 700 code then Some BadArgument
    else if not (is_utf8 reason) then Some NotText
    else if nat_lt TEXT_LIMIT (length reason) then Some TextTooLong else None

-- the message that `stunp_add_error` makes
abbrev pub added_error : List ℕ → ℕ → ℕ → List ℕ → Result (List ℕ) Refusal
added_error buffer count code reason =
    refusal_or (error_argument_refusal code reason)
    (added_attribute buffer count ERROR_CODE
    (error_value (record { code = code; reason = reason })))

-- why an integrity attribute is not added: the first reason that applies
abbrev pub digest_refusal : List ℕ → ℕ → IntegrityAlgorithm → Option Refusal
digest_refusal buffer count algorithm =
    option_or (base_refusal buffer count)
    (fit_refusal (take count buffer) (length buffer - count) (digest_length algorithm))

-- the message that `stunp_sign` makes, with its integrity attribute (sections 14.5 and 14.6)
abbrev pub signed_message : List ℕ → ℕ → Option IntegrityAlgorithm → List ℕ
    → Result (List ℕ) Refusal
signed_message buffer count None key = Err BadArgument
signed_message buffer count (Some algorithm) key =
    refusal_or (digest_refusal buffer count algorithm)
    (Ok (with_integrity (take count buffer) algorithm key))
