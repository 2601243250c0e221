-- The codes of error responses (RFC 8489, section 14.8).
use Rattle.std.specs.Prelude.{ℕ}
use Rattle.stun_ice.specs.declared.received.Refusal.{Refusal}
use Rattle.stun_ice.specs.declared.received.Refusal.TheVariants.{BadRequest, Unauthenticated}
use Rattle.stun_ice.specs.declared.received.Refusal.TheVariants.{UnknownAttribute}

-- the code of the error response to a check that is refused
-- its own law: the three are numbers of the registry of error codes (RFC 8489, section 14.8)
abbrev pub code_of : Refusal → ℕ
code_of BadRequest = 400
code_of Unauthenticated = 401
code_of UnknownAttribute = 420
