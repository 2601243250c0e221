-- The type field of a header (RFC 8489, section 5). Its bits, from the top, are M11..M7 C1 M6..M4
-- C0 M3..M0, where M is the method and C the class.
use Rattle.std.specs.Prelude.{ℕ, Bool, true, false, IsTrue, ◌+◌, ◌*◌}
use Rattle.std.specs.Prelude.{◌/◌, ◌%◌, ◌==◌, if◌then◌else◌, List}
use Rattle.stun_base.specs.declared.wire.message_type.MessageClass.{MessageClass}
use Rattle.stun_base.specs.Header.{type_field}
use Rattle.stun_base.specs.declared.wire.message_type.MessageClass.TheVariants.{Request, Indication}
use Rattle.stun_base.specs.declared.wire.message_type.MessageClass.TheVariants.{Success, Error}

-- the two bits C1 C0 of a class
abbrev pub class_number : MessageClass → ℕ
class_number Request = 0
class_number Indication = 1
class_number Success = 2
class_number Error = 3

-- the class that two bits C1 C0 stand for
abbrev pub class_of_bits : ℕ → MessageClass
class_of_bits bits =
    if bits == 0 then Request else if bits == 1 then Indication else if bits == 2 then Success
    else Error

-- the class of a type: C1 is the bit with the value 256, and C0 the bit with the value 16
abbrev pub class_of : ℕ → MessageClass
class_of number = class_of_bits (number / 256 % 2 * 2 + number / 16 % 2)

-- the method of a type: the other bits of the type, joined together
abbrev pub method_of : ℕ → ℕ
method_of number = number % 16 + number / 32 % 8 * 16 + number / 512 % 32 * 128

-- the type of a class and a method
abbrev pub type_number : MessageClass → ℕ → ℕ
type_number class method =
    method % 16 + class_number class % 2 * 16 + method / 16 % 8 * 32 + class_number class / 2 * 256
    + method / 128 * 512

-- ---- kinds of classes
abbrev pub is_request : MessageClass → Bool
is_request Request = true
is_request Indication = false
is_request Success = false
is_request Error = false

abbrev pub is_indication : MessageClass → Bool
is_indication Request = false
is_indication Indication = true
is_indication Success = false
is_indication Error = false

abbrev pub is_success : MessageClass → Bool
is_success Request = false
is_success Indication = false
is_success Success = true
is_success Error = false

abbrev pub is_error : MessageClass → Bool
is_error Request = false
is_error Indication = false
is_error Success = false
is_error Error = true

-- success and error are responses
abbrev pub is_response : MessageClass → Bool
is_response Request = false
is_response Indication = false
is_response Success = true
is_response Error = true

abbrev pub IsResponse : MessageClass → Type 0
IsResponse class = IsTrue (is_response class)

-- ---- in a message
-- the class that the type field of bytes names
abbrev pub class_in : List ℕ → MessageClass
class_in bytes = class_of (type_field bytes)
