-- The header of a message (RFC 8489, section 5). Its 20 bytes are the type, the number of bytes
-- after the header, the magic cookie and the transaction ID. Numbers are in network order, as
-- byteorder reads them.
use Rattle.std.specs.Prelude.{◌≤◌, ◌^◌, ◌%◌, ℕ, Bool, IsTrue, List, length, drop}
use Rattle.std.specs.Prelude.{Option, Some, None, nat_lt, ◌&&◌, ◌==◌, if◌then◌else◌}
use Rattle.byteorder.specs.Endian.{big_number}
use Rattle.stun_base.specs.declared.wire.error.StunParseError.{StunParseError}
use Rattle.stun_base.specs.declared.wire.error.StunParseError.TheVariants.{Truncated, NotStun}

-- the number of bytes of a header (section 5)
abbrev pub HEADER_LENGTH : ℕ
HEADER_LENGTH = 20

-- the value of the cookie field (section 5)
abbrev pub MAGIC_COOKIE : ℕ
MAGIC_COOKIE = 0x2112A442

-- the type, in the first two bytes
abbrev pub type_field : List ℕ → ℕ
type_field bytes = big_number 2 bytes

-- the number of bytes after the header, in the next two
abbrev pub length_field : List ℕ → ℕ
length_field bytes = big_number 2 (drop 2 bytes)

-- the cookie, in the next four
abbrev pub cookie_field : List ℕ → ℕ
cookie_field bytes = big_number 4 (drop 4 bytes)

-- the ID of the transaction, in the last twelve
abbrev pub transaction_id_field : List ℕ → ℕ
transaction_id_field bytes = big_number 12 (drop 8 bytes)

-- the fields of a header without its cookie
pub record HeaderFields : Type 0 where
  pub message_type : ℕ
  pub data_length : ℕ
  pub transaction_id : ℕ

-- the fields of the header that the bytes begin with
abbrev pub header_of : List ℕ → HeaderFields
header_of bytes = record {
  message_type = type_field bytes;
  data_length = length_field bytes;
  transaction_id = transaction_id_field bytes;
}

-- whether the fields are those of a STUN message (sections 5 and 14). The two top bits of the type
-- are zero, the cookie is the magic cookie, and the length is a multiple of 4
abbrev pub is_stun : List ℕ → Bool
is_stun bytes =
    nat_lt (type_field bytes) (2 ^ 14) && (cookie_field bytes == MAGIC_COOKIE)
    && (length_field bytes % 4 == 0)

-- the bytes begin with a header
pub record BeginsWithHeader (bytes : List ℕ) : Type 0 where
  pub is_whole : HEADER_LENGTH ≤ length bytes
  pub fields : IsTrue (is_stun bytes)

-- why bytes do not begin with a header: too few bytes are reported before wrong fields
abbrev pub header_refusal : List ℕ → Option StunParseError
header_refusal bytes =
    if nat_lt (length bytes) HEADER_LENGTH then Some Truncated
    else if is_stun bytes then None else Some NotStun
