-- The refusals of a client as the code groups them.
use Rattle.stun_auth.specs.declared.client.challenge.ChallengeRefusal.{ChallengeRefusal}
use Rattle.stun_auth.specs.declared.client.challenge.ChallengeRefusal.TheVariants as Refused

-- the refusals by their names
abbrev pub ClientRefusal : Type 0
ClientRefusal = ChallengeRefusal

abbrev pub unsupported_feature : ClientRefusal
unsupported_feature = Refused.UnsupportedFeature
