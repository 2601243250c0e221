-- The errors: their numbers, as `include/stunp.h` has them, and those for the library's errors.
use Rattle.std.specs.Prelude.{Bool, ℤ, pos, neg_ℤ, if◌then◌else◌, Option, Some, None, Result, Err}
use Rattle.stun_base.specs.declared.wire.error.StunParseError.{StunParseError}
use Rattle.stun_base.specs.declared.wire.error.StunParseError.TheVariants as Parse
use Rattle.stun_base.specs.declared.wire.error.StunWriteError.{StunWriteError}
use Rattle.stun_base.specs.declared.wire.error.StunWriteError.TheVariants as Write
use Rattle.stun_numbers.specs.declared.refusal.Refusal.{Refusal}
use Rattle.stun_numbers.specs.declared.refusal.Refusal.TheVariants.{Truncated, NotStun, TooLarge}
use Rattle.stun_numbers.specs.declared.refusal.Refusal.TheVariants.{NoIntegrity, MalformedIntegrity}
use Rattle.stun_numbers.specs.declared.refusal.Refusal.TheVariants.{IntegrityFailed, BadArgument}
use Rattle.stun_numbers.specs.declared.refusal.Refusal.TheVariants.{NotText, TextTooLong}
use Rattle.stun_numbers.specs.declared.refusal.Refusal.TheVariants.{BufferTooSmall, NotAllowed}
use Rattle.stun_numbers.specs.declared.refusal.Refusal.TheVariants.{Closed, AttributeExists}
use Rattle.stun_numbers.specs.declared.refusal.Refusal.TheVariants.{MessageTooLong}
use Rattle.stun_numbers.specs.declared.refusal.Refusal.TheVariants.{MissingAttribute}
use Rattle.stun_numbers.specs.declared.refusal.Refusal.TheVariants.{MalformedAttribute, OutOfMemory}
use Rattle.stun_numbers.specs.declared.refusal.Refusal.TheVariants.{EmptyHandle, FullHandle}
use Rattle.stun_numbers.specs.declared.refusal.Refusal.TheVariants.{AlreadyInProgress}
use Rattle.stun_numbers.specs.declared.refusal.Refusal.TheVariants.{ProtocolViolation, Unauthorized}
use Rattle.stun_numbers.specs.declared.refusal.Refusal.TheVariants.{BadRequest, StaleNonce}
use Rattle.stun_numbers.specs.declared.refusal.Refusal.TheVariants.{UnsupportedFeature, NoWait}
use Rattle.stun_numbers.specs.declared.refusal.Refusal.TheVariants.{TooManyAddresses, CannotSign, WrongHandle}

-- the number of an error
abbrev pub refusal_number : Refusal → ℤ
refusal_number Truncated = neg_ℤ (pos 1)
refusal_number NotStun = neg_ℤ (pos 2)
refusal_number TooLarge = neg_ℤ (pos 3)
refusal_number NoIntegrity = neg_ℤ (pos 4)
refusal_number MalformedIntegrity = neg_ℤ (pos 5)
refusal_number IntegrityFailed = neg_ℤ (pos 6)
refusal_number BadArgument = neg_ℤ (pos 7)
refusal_number NotText = neg_ℤ (pos 8)
refusal_number TextTooLong = neg_ℤ (pos 9)
refusal_number BufferTooSmall = neg_ℤ (pos 10)
refusal_number NotAllowed = neg_ℤ (pos 11)
refusal_number Closed = neg_ℤ (pos 12)
refusal_number AttributeExists = neg_ℤ (pos 13)
refusal_number MessageTooLong = neg_ℤ (pos 14)
refusal_number MissingAttribute = neg_ℤ (pos 15)
refusal_number MalformedAttribute = neg_ℤ (pos 16)
refusal_number OutOfMemory = neg_ℤ (pos 17)
refusal_number EmptyHandle = neg_ℤ (pos 18)
refusal_number FullHandle = neg_ℤ (pos 19)
refusal_number AlreadyInProgress = neg_ℤ (pos 20)
refusal_number ProtocolViolation = neg_ℤ (pos 21)
refusal_number Unauthorized = neg_ℤ (pos 22)
refusal_number BadRequest = neg_ℤ (pos 23)
refusal_number StaleNonce = neg_ℤ (pos 24)
refusal_number UnsupportedFeature = neg_ℤ (pos 25)
refusal_number NoWait = neg_ℤ (pos 26)
refusal_number TooManyAddresses = neg_ℤ (pos 27)
refusal_number CannotSign = neg_ℤ (pos 28)
refusal_number WrongHandle = neg_ℤ (pos 29)

-- the error for a failed parse
abbrev pub refusal_of_parse : StunParseError → Refusal
refusal_of_parse Parse.Truncated = Truncated
refusal_of_parse Parse.NotStun = NotStun
refusal_of_parse Parse.TooLarge = TooLarge
refusal_of_parse (Parse.MissingAttribute _) = MissingAttribute
refusal_of_parse Parse.InvalidAttributeData = MalformedAttribute

-- the error for a failed write: if `long`, a `TooLarge` is about the message, and otherwise about a
-- text
abbrev pub refusal_of_write : Bool → StunWriteError → Refusal
refusal_of_write long Write.NotAllowed = NotAllowed
refusal_of_write long Write.MessageIntegrityExists = Closed
refusal_of_write long (Write.AttributeExists _) = AttributeExists
refusal_of_write long Write.TooLarge = if long then MessageTooLong else TextTooLong
refusal_of_write long Write.TooSmall = BufferTooSmall
refusal_of_write long Write.IntegrityFailed = CannotSign
refusal_of_write long Write.OutOfMemory = OutOfMemory

-- the error for a failed parse, if there is one
abbrev pub message_refusal : Option StunParseError → Option Refusal
message_refusal None = None
message_refusal (Some error) = Some (refusal_of_parse error)

-- a result, or the error if there is one
abbrev pub refusal_or : {V : Type 0} → Option Refusal → Result V Refusal → Result V Refusal
refusal_or None answer = answer
refusal_or (Some refusal) answer = Err refusal
