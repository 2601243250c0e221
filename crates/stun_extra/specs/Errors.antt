-- ERROR-CODE (RFC 8489, section 14.8), as an attribute to write.
use Rattle.std.specs.Prelude.{ℕ, List}
use Rattle.stun_base.specs.Attributes.{ERROR_CODE}
use Rattle.stun_types.specs.Attribute.{TypedValue}
use Rattle.stun_types.specs.ErrorCode.{error_value}

-- ERROR-CODE with a code and a reason phrase
abbrev pub error_code_attribute : ℕ → List ℕ → TypedValue
error_code_attribute code reason =
    record { kind = ERROR_CODE; value = error_value (record { code = code; reason = reason }) }
