-- The codes of error responses and their reason phrases (RFC 8489, section 14.8).
use Rattle.std.specs.Prelude.{ℕ, List, codes}
use Rattle.stun_endpoint.specs.declared.received.Refusal.{Refusal}
use Rattle.stun_endpoint.specs.declared.received.Refusal.TheVariants.{BadRequest, StaleNonce}
use Rattle.stun_endpoint.specs.declared.received.Refusal.TheVariants.{Unauthenticated}
use Rattle.stun_endpoint.specs.declared.received.Refusal.TheVariants.{UnknownAttribute}

abbrev pub code_of : Refusal → ℕ
code_of BadRequest = 400
code_of Unauthenticated = 401
code_of UnknownAttribute = 420
code_of StaleNonce = 438

abbrev pub phrase_of : Refusal → List ℕ
phrase_of BadRequest = codes "Bad Request"
phrase_of Unauthenticated = codes "Unauthenticated"
phrase_of UnknownAttribute = codes "Unknown Attribute"
phrase_of StaleNonce = codes "Stale Nonce"
