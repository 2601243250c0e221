-- The results of the calls that read a message, and the caller's numbers and buffers after them.
use Rattle.std.specs.Prelude.{ℕ, ℤ, pos, ◌+◌, ◌-◌, List, length, take, drop, find, nat_lt, not}
use Rattle.std.specs.Prelude.{◌||◌, Option, Some, None, Result, Ok, Err, if◌then◌else◌}
use Rattle.std.specs.Str.{is_utf8}
use Rattle.byteorder.specs.Endian.{big_number}
use Rattle.stun_base.specs.Attributes.{ERROR_CODE, XOR_MAPPED_ADDRESS}
use Rattle.stun_base.specs.Header.{HEADER_LENGTH, header_refusal, length_field}
use Rattle.stun_base.specs.Header.{transaction_id_field, type_field}
use Rattle.stun_base.specs.MessageType.{class_in, class_number, method_of}
use Rattle.stun_base.specs.declared.wire.error.StunParseError.{StunParseError}
use Rattle.stun_base.specs.declared.wire.error.StunParseError.TheVariants.{MissingAttribute}
use Rattle.stun_types.specs.Attribute.{ATTRIBUTE_HEADER_LENGTH, TypedValue, first_attribute}
use Rattle.stun_types.specs.Attribute.{has_attribute}
use Rattle.stun_types.specs.ErrorCode.{CodeAndReason, error_of}
use Rattle.stun_types.specs.Integrity.{first_of}
use Rattle.stun_types.specs.Message.{refusal}
use Rattle.stun_types.specs.Reading.{attribute_answer}
use Rattle.stun_types.specs.Visible.{visible}
use Rattle.stun_types.specs.Walk.{Member}
use Rattle.stun_types.specs.XorMappedAddress.{XoredAddress, xor_bytes, xor_key, xor_port, xored_of}
use Rattle.stun_numbers.specs.declared.refusal.Refusal.{Refusal}
use Rattle.stun_numbers.specs.declared.refusal.Refusal.TheVariants.{BadArgument, MalformedAttribute}
use Rattle.stun_numbers.specs.declared.refusal.Refusal.TheVariants.{MissingAttribute as NotFound}
use Rattle.stun_numbers.specs.declared.refusal.Refusal.TheVariants.{NotText}
use Rattle.stun_numbers.specs.Refusals.{refusal_number, refusal_of_parse, refusal_or}
use Rattle.stun_numbers.specs.Refusals.{message_refusal}
use Rattle.stun_c.specs.declared.header.Header.{Header}
use Rattle.stun_c.specs.Answers.{unless_no_message}
use Rattle.stun_c.specs.Writing.{is_size}

-- the two bits of the class (RFC 8489, section 5)
abbrev pub class_answer : List ℕ → ℤ
class_answer bytes = unless_no_message (refusal bytes) (pos (class_number (class_in bytes)))

-- the method
abbrev pub method_answer : List ℕ → ℤ
method_answer bytes = unless_no_message (refusal bytes) (pos (method_of (type_field bytes)))

-- the fields of a header, with the length of the message that it begins
abbrev pub header_in : List ℕ → Header
header_in bytes = record {
  message_class = class_number (class_in bytes);
  method = method_of (type_field bytes);
  length = HEADER_LENGTH + length_field bytes;
  id = take 12 (drop 8 bytes);
}

-- the result of `stunp_read_header`: what follows the header is ignored
abbrev pub header_answer : List ℕ → ℤ
header_answer bytes = unless_no_message (header_refusal bytes) (pos 0)

-- the caller's header afterwards
abbrev pub header_after : Option StunParseError → List ℕ → Header → Header
header_after (Some error) bytes header = header
header_after None bytes header = header_in bytes

-- the bytes of the transaction ID
abbrev pub id_of_message : List ℕ → Result (List ℕ) Refusal
id_of_message bytes =
    refusal_or (message_refusal (refusal bytes)) (Ok (take 12 (drop 8 bytes)))

-- the first visible attribute after an offset (sections 14.5 to 14.7)
abbrev pub next_member : ℕ → List ℕ → Option Member
next_member place bytes = find (λ m. nat_lt place m.0) (visible bytes)

-- the offset at which the value of an attribute begins, or 0
abbrev pub place_number : Option Member → ℤ
place_number None = pos 0
place_number (Some m) = pos (m.0 + ATTRIBUTE_HEADER_LENGTH)

-- the offset of the attribute whose value begins at an offset
abbrev pub attribute_place : ℕ → ℕ
attribute_place place = place - ATTRIBUTE_HEADER_LENGTH

-- the result of `stunp_next`
abbrev pub next_answer : List ℕ → ℕ → ℤ
next_answer bytes place = unless_no_message (refusal bytes) (place_number (next_member place bytes))

-- a number of the caller, which is set for the attribute that is found
abbrev pub number_after : {E : Type 0} → (TypedValue → ℕ) → Option E → Option Member → ℕ → ℕ
number_after part (Some error) found number = number
number_after part None None number = number
number_after part None (Some m) number = part m.1

-- why no attribute of a type is looked for: first the type, then the message
abbrev pub finding_refusal : ℕ → List ℕ → Option Refusal
finding_refusal kind bytes =
    if nat_lt kind 65536 then message_refusal (refusal bytes) else Some BadArgument

-- the result of `stunp_find` for the attribute that it finds, if there is one: where its value
-- begins
abbrev pub find_answer : Option Refusal → Option Member → ℤ
find_answer (Some refusal) found = refusal_number refusal
find_answer None None = refusal_number NotFound
find_answer None (Some m) = pos (m.0 + ATTRIBUTE_HEADER_LENGTH)

-- the reading of the first attribute of a type, if there is one
abbrev pub read_member : {A : Type 0} → ℕ → (TypedValue → Option A) → Option Member
    → Result A StunParseError
read_member kind reading None = Err (MissingAttribute (record { 0 = kind }))
read_member kind reading (Some m) = attribute_answer (reading m.1)

-- the error that a message reports (section 14.8)
abbrev pub error_in : List ℕ → Result CodeAndReason StunParseError
error_in bytes = read_member ERROR_CODE error_of (first_of ERROR_CODE (visible bytes))

-- its code, or why there is none
abbrev pub code_number : Result CodeAndReason StunParseError → ℤ
code_number (Ok error) = pos error.code
code_number (Err error) = refusal_number (refusal_of_parse error)

-- the result of `stunp_error_code`
abbrev pub error_answer : List ℕ → ℤ
error_answer bytes = unless_no_message (refusal bytes) (code_number (error_in bytes))

-- the address that a message reports, still XORed with its ID (section 14.2)
abbrev pub address_in : List ℕ → Result XoredAddress StunParseError
address_in bytes =
    read_member XOR_MAPPED_ADDRESS xored_of (first_of XOR_MAPPED_ADDRESS (visible bytes))

-- its octets, with the XOR undone, or why there are none
abbrev pub shown_octets : Result XoredAddress StunParseError → ℕ → Result (List ℕ) Refusal
shown_octets (Ok address) id = Ok (xor_bytes address.octets (xor_key id))
shown_octets (Err error) id = Err (refusal_of_parse error)

-- the octets that `stunp_xor_mapped_address` writes
abbrev pub octets_of_message : List ℕ → Result (List ℕ) Refusal
octets_of_message bytes =
    refusal_or (message_refusal (refusal bytes))
    (shown_octets (address_in bytes) (transaction_id_field bytes))

-- the caller's port, which is set if the octets of the address were written
abbrev pub port_after : {E : Type 0} → Result (List ℕ) Refusal → Result XoredAddress E → ℕ → ℕ
port_after (Ok octets) (Ok address) port = xor_port address.port
port_after (Ok octets) (Err error) port = port
port_after (Err refusal) address port = port

-- the address in an attribute of any type, still XORed: XOR-MAPPED-ADDRESS, XOR-PEER-ADDRESS and
-- XOR-RELAYED-ADDRESS have the same form (RFC 8656, sections 18.3 and 18.5)
abbrev pub hidden_in : TypedValue → Option XoredAddress
hidden_in attribute = xored_of (record { kind = XOR_MAPPED_ADDRESS; value = attribute.value })

-- an address, unless it is malformed
abbrev pub unless_malformed : Option XoredAddress → Result XoredAddress Refusal
unless_malformed None = Err MalformedAttribute
unless_malformed (Some address) = Ok address

-- the address in the attribute at an offset of a message, still XORed: the offset is after the
-- header, and the attribute is whole
abbrev pub address_at : List ℕ → ℕ → Result XoredAddress Refusal
address_at bytes place =
    if nat_lt place HEADER_LENGTH || not (has_attribute (drop place bytes)) then Err BadArgument
    else unless_malformed (hidden_in (first_attribute (drop place bytes)))

-- its octets, with the XOR undone for an ID, or why there are none
abbrev pub octets_shown : Result XoredAddress Refusal → ℕ → Result (List ℕ) Refusal
octets_shown (Ok address) id = Ok (xor_bytes address.octets (xor_key id))
octets_shown (Err refusal) id = Err refusal

-- the octets that `stunp_read_xor_address` writes
abbrev pub octets_at : List ℕ → ℕ → Result (List ℕ) Refusal
octets_at bytes place = octets_shown (address_at bytes place) (transaction_id_field bytes)

-- the octets of an address that is not XORed (RFC 8489, section 14.1), or why there are none
abbrev pub plain_octets : Result XoredAddress Refusal → Result (List ℕ) Refusal
plain_octets (Ok address) = Ok address.octets
plain_octets (Err refusal) = Err refusal

-- the caller's port, which is set if the octets of such an address were written
abbrev pub plain_port_after : Result (List ℕ) Refusal → Result XoredAddress Refusal → ℕ → ℕ
plain_port_after (Ok octets) (Ok address) port = address.port
plain_port_after (Ok octets) (Err refusal) port = port
plain_port_after (Err refusal) address port = port

-- a value with as many bytes as numbers have. Any other value is malformed
abbrev pub sized_value : List ℕ → Result (List ℕ) Refusal
sized_value value = if is_size (length value) then Ok value else Err MalformedAttribute

-- the bytes of the number in the attribute at an offset of a message, or why there are none
abbrev pub sized_at : List ℕ → ℕ → Result (List ℕ) Refusal
sized_at bytes place =
    if nat_lt place HEADER_LENGTH || not (has_attribute (drop place bytes)) then Err BadArgument
    else sized_value (first_attribute (drop place bytes)).value

-- the caller's number, which is set from these bytes
abbrev pub sized_after : Result (List ℕ) Refusal → ℕ → ℕ
sized_after (Ok value) number = big_number (length value) value
sized_after (Err refusal) number = number

-- the value of the attribute at an offset of a message: the offset is after the header, and the
-- attribute is whole
abbrev pub value_at : List ℕ → ℕ → Result (List ℕ) Refusal
value_at bytes place =
    if nat_lt place HEADER_LENGTH || not (has_attribute (drop place bytes)) then Err BadArgument
    else Ok (first_attribute (drop place bytes)).value

-- a value that is a text
abbrev pub as_text : Result (List ℕ) Refusal → Result (List ℕ) Refusal
as_text (Ok value) = if is_utf8 value then Ok value else Err NotText
as_text (Err refusal) = Err refusal

-- the text in the attribute at an offset of a message, or why there is none
abbrev pub text_at : List ℕ → ℕ → Result (List ℕ) Refusal
text_at bytes place = as_text (value_at bytes place)

-- the result of `stunp_read_text` for a text in the attribute at an offset: where its value begins
abbrev pub text_answer : Result (List ℕ) Refusal → ℕ → ℤ
text_answer (Ok text) place = pos (place + ATTRIBUTE_HEADER_LENGTH)
text_answer (Err refusal) place = refusal_number refusal

-- the caller's length, which is set for the text
abbrev pub text_length_after : Result (List ℕ) Refusal → ℕ → ℕ
text_length_after (Ok text) number = length text
text_length_after (Err refusal) number = number
