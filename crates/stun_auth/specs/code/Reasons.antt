-- The reasons of a server as the code groups them.
use Rattle.stun_judging.specs.declared.refusal.VerdictRefusal.TheVariants as Refused
use Rattle.stun_auth.specs.Reasons.{ServerRefusal}

abbrev pub unauthorized : ServerRefusal
unauthorized = Refused.Unauthorized

abbrev pub bad_request : ServerRefusal
bad_request = Refused.BadRequest

abbrev pub stale_nonce : ServerRefusal
stale_nonce = Refused.StaleNonce
