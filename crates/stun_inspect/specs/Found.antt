-- What `verify` finds in a message, and how it ends if that is the only one.
use Rattle.stun_cli.specs.declared.status.Status.{Status}
use Rattle.stun_cli.specs.declared.status.Status.TheVariants.{Good as Succeeded, Bad}
use Rattle.stun_cli.specs.declared.verdict.Verdict.{Verdict}
use Rattle.stun_cli.specs.declared.verdict.Verdict.TheVariants.{Valid, OtherDigest, NoIntegrity}
use Rattle.stun_cli.specs.declared.verdict.Verdict.TheVariants.{MalformedIntegrity}
use Rattle.stun_cli.specs.declared.verdict.Verdict.TheVariants.{NotAMessage as Refused, BadInput}
use Rattle.stun_inspect.specs.declared.found.Found.{Found}
use Rattle.stun_inspect.specs.declared.found.Found.TheVariants.{Good, Invalid, Unsigned}
use Rattle.stun_inspect.specs.declared.found.Found.TheVariants.{NotAMessage}

-- the finding for a verdict. A message without a visible integrity attribute is unsigned, which by
-- itself is not a fault (RFC 8489, section 9.2.3.1)
abbrev pub found_of : Verdict → Found
found_of (Valid algorithm) = Good
found_of OtherDigest = Invalid
found_of NoIntegrity = Unsigned
found_of MalformedIntegrity = Invalid
found_of (Refused error) = NotAMessage
found_of BadInput = NotAMessage

-- the status if an input has only one message. It is bad for an unsigned message too, because
-- nothing is known about it
abbrev pub status_of_found : Found → Status
status_of_found Good = Succeeded
status_of_found Invalid = Bad
status_of_found Unsigned = Bad
status_of_found NotAMessage = Bad
