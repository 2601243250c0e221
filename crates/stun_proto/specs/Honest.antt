-- How the meeting of a ready client with its server ends, if no signing is refused (RFC 8489,
-- section 9.2).
use Rattle.std.specs.Prelude.{◌≡◌, ℕ, ◌≤◌, List, length, true, Option, Some, None, IsOk}
use Rattle.std.specs.Option.{is_some}
use Rattle.std.specs.declared.result.Result.TheVariants.{Ok}
use Rattle.std.specs.FinMap as map
use Rattle.std.specs.declared.net.socket_addr.SocketAddr.{SocketAddr}
use Rattle.stun_base.specs.Credentials.{NameAndPassword}
use Rattle.stun_base.specs.Keys.{userhash_of}
use Rattle.stun_base.specs.Moments.{moment_after}
use Rattle.stun_base.specs.declared.keys.algorithm.IntegrityAlgorithm.{IntegrityAlgorithm}
use Rattle.stun_types.specs.Limits.{TEXT_LIMIT, USERNAME_LIMIT}
use Rattle.stun_auth.specs.declared.client.answer.LongTermClientAuthErrorReason.TheVariants.{
  UnsupportedFeature,
}
use Rattle.stun_judging.specs.Algorithms.{algorithms_of}
use Rattle.stun_auth.specs.Client.{Challenge, authenticated, initial}
use Rattle.stun_judging.specs.Registered.{Registered}
use Rattle.stun_auth.specs.Seen.{PlaceSeen}
use Rattle.stun_auth.specs.Validation.{ServerSeen, client_at, sight}
use Rattle.stun_proto.specs.Best.{best}
use Rattle.stun_proto.specs.Matching.{AreJoined, AreOfOthers, AreTexts, IsRegistered}
use Rattle.stun_proto.specs.Negotiation.{Meeting, Met, whole_negotiation}
use Rattle.stun_proto.specs.declared.replay.negotiation.Outcome.TheVariants.{Validated}
use Rattle.stun_proto.specs.declared.replay.negotiation.Outcome.TheVariants.{ClientRefused}

-- no two registered users have the same hash
abbrev pub HaveOwnHashes : Registered → Type 0
HaveOwnHashes users = (a b : List ℕ) → is_some (map.get users.secrets a) ≡ true
    → is_some (map.get users.secrets b) ≡ true
    → userhash_of a users.realm ≡ userhash_of b users.realm → a ≡ b

-- a new client is ready: it has a registered user's credentials, comes from an address that has no
-- record, and sends its second request in time
pub record IsReady (m : Meeting) (who : NameAndPassword) (server : ServerSeen) : Type 0 where
  pub credentials : m.settings.credentials ≡ Some who
  pub registered : IsRegistered server.registered who
  pub hashes : HaveOwnHashes server.registered
  pub new_address : map.get server.places m.from ≡ None
  -- the calls in between are calls for other addresses. None of them changes users or settings, and
  -- none forgets expired nonces, so the record of this address stays
  pub others_first : AreOfOthers m.from m.first.before
  pub others_second : AreOfOthers m.from m.second.before
  -- the second request is read while the nonce is current
  pub in_time : m.second.now ≤ moment_after m.first.now server.expiry

-- the client is ready, and every message of the meeting can be signed
pub record IsHonest (m : Meeting) (who : NameAndPassword) (server : ServerSeen) : Type 0 where
  pub ready : IsReady m who server
  pub signed : IsOk (whole_negotiation m initial server).ending

-- both sides have agreed on an algorithm
pub record AgreesOn (from : SocketAddr) (who : NameAndPassword) (a : IntegrityAlgorithm)
    (met : Met) : Type 0 where
  pub ending : met.ending ≡ Ok (Validated a)
  pub server_client : client_at met.server from
      ≡ Some (record { name = who.username; algorithm = a })
  pub joined : (c : Challenge) × (p : PlaceSeen) × (met.client ≡ authenticated c)
      × AreJoined (sight met.server from) p c who

-- the client gives up and stores nothing, and the server has a record of the client's address,
-- without a client
pub record GivesUp (from : SocketAddr) (met : Met) : Type 0 where
  pub ending : met.ending ≡ Ok (ClientRefused UnsupportedFeature)
  pub client : met.client ≡ initial
  pub server_place : (p : PlaceSeen) × (map.get met.server.places from ≡ Some p) × (p.client ≡ None)

abbrev pub ComesTo : SocketAddr → NameAndPassword → Option IntegrityAlgorithm → Met → Type 0
ComesTo from who (Some a) met = AgreesOn from who a met
ComesTo from who None met = GivesUp from met

-- the strongest algorithm that a client and a server support, if there is one
abbrev pub strongest : Meeting → ServerSeen → Option IntegrityAlgorithm
strongest m server =
    best m.settings.supported (algorithms_of server.registered.algorithms) m.settings.feature
    server.feature

-- a client that is honest in this sense and its server agree on the strongest algorithm of both, if
-- there is one; otherwise the client gives up
abbrev pub StrongestIsAgreed : Type 0
StrongestIsAgreed = (m : Meeting) (who : NameAndPassword) (server : ServerSeen)
    → AreTexts server.registered.realm who.username → IsHonest m who server
    → ComesTo m.from who (strongest m server) (whole_negotiation m initial server)

-- ---- signings that succeed

-- realm and user name fit their attributes (sections 14.3 and 14.9), and a nonce is made of sixteen
-- random words
pub record AreShort (its_realm its_name its_words : List ℕ) : Type 0 where
  pub realm : length its_realm ≤ TEXT_LIMIT
  pub username : length its_name ≤ USERNAME_LIMIT
  pub words : length its_words ≤ 16

-- then no signing is refused
abbrev pub ShortNamesAreSigned : Type 0
ShortNamesAreSigned = (m : Meeting) (who : NameAndPassword) (server : ServerSeen)
    → AreTexts server.registered.realm who.username
    → AreShort server.registered.realm who.username m.first.words → IsReady m who server
    → IsHonest m who server
