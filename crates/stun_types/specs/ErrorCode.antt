-- ERROR-CODE (RFC 8489, section 14.8). Its value consists of 21 reserved bits, the hundreds digit
-- of the code in 3 bits, the remainder of the code modulo 100 in 8 bits, and a reason phrase. The
-- reserved bits are zero when written, and ignored when read.
use Rattle.std.specs.Prelude.{ℕ, ◌+◌, ◌*◌, ◌/◌, ◌%◌, ◌<◌, ◌≤◌, List, [], ◌∷◌, length}
use Rattle.std.specs.Prelude.{drop, slice_index, codes, nat_le, nat_lt, ◌==◌, ◌&&◌}
use Rattle.std.specs.Prelude.{◌||◌, if◌then◌else◌, Option, Some, None, IsUtf8}
use Rattle.stun_base.specs.Attributes.{ERROR_CODE}
use Rattle.stun_base.specs.declared.wire.error.StunWriteError.{StunWriteError}
use Rattle.stun_base.specs.declared.wire.error.StunWriteError.TheVariants.{NotAllowed, TooLarge}
use Rattle.stun_types.specs.Attribute.{TypedValue}
use Rattle.stun_types.specs.Limits.{TEXT_LIMIT}
use Rattle.stun_types.specs.Text.{short_text}

-- an error: its code and the bytes of its reason phrase
pub record CodeAndReason : Type 0 where
  pub code : ℕ
  pub reason : List ℕ

-- the reason phrase of a code for which none was set
abbrev pub default_reason : ℕ → List ℕ
default_reason code =
    if code == 400 then codes "Bad Request"
    else (if code == 401 then codes "Unauthorized"
    else (if code == 438 then codes "Stale Nonce" else []))

-- the reason why an error cannot be written, if there is one: the code is tested before the reason
-- phrase
abbrev pub error_refusal : CodeAndReason → Option StunWriteError
error_refusal error =
    if nat_lt error.code 300 || nat_le 700 error.code then Some NotAllowed
    else (if nat_lt TEXT_LIMIT (length error.reason) then Some TooLarge else None)

-- an error that can be written
pub record IsError (error : CodeAndReason) : Type 0 where
  pub from_300 : 300 ≤ error.code
  pub below_700 : error.code < 700
  pub text : IsUtf8 error.reason
  pub short : length error.reason ≤ TEXT_LIMIT

-- the number of bytes before the reason: reserved bits, class and number
abbrev pub CODE_LENGTH : ℕ
CODE_LENGTH = 4

-- the value of the attribute
abbrev pub error_value : CodeAndReason → List ℕ
error_value error = 0 ∷ 0 ∷ (error.code / 100) ∷ (error.code % 100) ∷ error.reason

-- the hundreds digit: the three bits after the 21 reserved ones
abbrev pub class_field : List ℕ → ℕ
class_field value = slice_index value 2 % 8

-- the remainder of the code modulo 100
abbrev pub number_field : List ℕ → ℕ
number_field value = slice_index value 3

-- the code in a value, if its class is 3 to 6 and its number is less than 100
abbrev pub code_in : List ℕ → Option ℕ
code_in value =
    if nat_le 3 (class_field value) && nat_le (class_field value) 6
    && nat_le (number_field value) 99
    then Some (100 * class_field value + number_field value) else None

-- the error with a code and a reason, if both are present
abbrev pub error_with : Option ℕ → Option (List ℕ) → Option CodeAndReason
error_with (Some code) (Some reason) = Some (record { code = code; reason = reason })
error_with (Some code) None = None
error_with None reason = None

-- the error in an attribute of this type, if it is well formed
abbrev pub error_of : TypedValue → Option CodeAndReason
error_of attribute =
    if attribute.kind == ERROR_CODE && nat_le CODE_LENGTH (length attribute.value)
    then
    error_with (code_in attribute.value) (short_text TEXT_LIMIT (drop CODE_LENGTH attribute.value))
    else None
