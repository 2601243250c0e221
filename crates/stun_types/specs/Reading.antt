-- The results of reading attributes.
use Rattle.std.specs.Prelude.{Option, Some, None, Result, Ok, Err}
use Rattle.stun_base.specs.declared.wire.error.StunParseError.{StunParseError}
use Rattle.stun_base.specs.declared.wire.error.StunParseError.TheVariants.{InvalidAttributeData}

-- the result of reading: the attribute, or the error that it is malformed
abbrev pub attribute_answer : {A : Type 0} → Option A → Result A StunParseError
attribute_answer (Some value) = Ok value
attribute_answer None = Err InvalidAttributeData
