-- A client that must hash the name of its user, and its server (RFC 8489, sections 9.2 and 14.4).
use Rattle.std.specs.Prelude.{◌≡◌, ℕ, List, [], ◌∷◌, Some, codes}
use Rattle.std.specs.Global.{Vec}
use Rattle.std.specs.declared.net.socket_addr.SocketAddr.{SocketAddr}
use Rattle.std.specs.declared.result.Result.TheVariants.{Ok}
use Rattle.stun_base.specs.Credentials.{NameAndPassword}
use Rattle.stun_base.specs.declared.keys.algorithm.IntegrityAlgorithm.TheVariants.{Sha1, Sha256}
use Rattle.stun_judging.specs.declared.algorithm_set.AlgorithmSet.TheVariants.{Both}
use Rattle.stun_judging.specs.declared.feature.Feature.TheVariants.{Required}
use Rattle.stun_auth.specs.declared.server.reason.LongTermServerAuthErrorReason.TheVariants.{
  Unauthorized,
}
use Rattle.stun_judging.specs.Additions.{Page}
use Rattle.stun_auth.specs.Client.{ClientSettings, initial}
use Rattle.stun_judging.specs.Reading.{UNAUTHORIZED, reading_of}
use Rattle.stun_auth.specs.ClientStep.{client_step}
use Rattle.stun_judging.specs.Registered.{new_registered, with_user}
use Rattle.stun_auth.specs.Validation.{ServerSeen, new_server}
use Rattle.stun_proto.specs.declared.replay.call.ServerCall.TheVariants as Call
use Rattle.stun_proto.specs.Negotiation.{Meeting, client_request, failure, request}
use Rattle.stun_proto.specs.Serving.{Refused, Signed, Validated, replies}

-- the client's user
abbrev pub a_user : NameAndPassword
a_user = record { username = codes "user"; password = codes "pass" }

-- a new server of a realm, once both algorithms are supported and the user is added: names may be
-- hashed, and nonces last for an hour
abbrev pub a_server : ServerSeen
a_server = record (new_server (codes "realm")) {
  registered = with_user (record (new_registered (codes "realm")) { algorithms = Both }) a_user;
}

-- a client that supports both, and must hash its name
abbrev pub a_client : ClientSettings
a_client = record {
  supported = Sha1 ∷ Sha256 ∷ [];
  feature = Required;
  credentials = Some a_user;
}

-- they meet: with the IDs 7 and 8, at 0 and after a second, with no calls in between
abbrev pub a_meeting : SocketAddr → List ℕ → List ℕ → Meeting
a_meeting from words more = record {
  settings = a_client;
  from = from;
  first = record { id = 7; now = 0; words = words; before = [] };
  second = record { id = 8; now = 1_000_000_000; words = more; before = [] };
}

-- what the server replies to the three calls that its client causes, whatever vectors hold their
-- messages: the first request is challenged, the challenge is signed, and the request that the
-- client signs once it has read the challenge is validated
pub record IsServed (from : SocketAddr) (words more : List ℕ) : Type 0 where
  pub challenge : Page
  pub again : Page
  pub signed_again :
      client_request 8 (client_step a_client initial (reading_of challenge.bytes)).state ≡ Ok again
  pub replied : (first error second : Vec ℕ)
      → first.items ≡ request 7 → error.items ≡ failure UNAUTHORIZED 7 → second.items ≡ again.bytes
      → replies a_server
      (Call.Validate from 0 first words ∷ Call.Sign from error
      ∷ Call.Validate from 1_000_000_000 second more ∷ [])
      ≡ Refused Unauthorized ∷ Signed challenge.bytes ∷ Validated Sha256 ∷ []
