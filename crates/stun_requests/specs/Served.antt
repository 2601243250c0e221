-- How a server judges the requests that a client writes (RFC 8489, sections 9.2.3 and 9.2.4).
use Rattle.std.specs.Prelude.{◌≡◌, ◌<◌, ℕ, Bool, true, List, Some, None, Ok, IsUtf8}
use Rattle.std.specs.declared.net.socket_addr.SocketAddr.{SocketAddr}
use Rattle.stun_base.specs.Credentials.{NameAndPassword}
use Rattle.stun_base.specs.declared.keys.algorithm.IntegrityAlgorithm.{IntegrityAlgorithm}
use Rattle.stun_judging.specs.Registered.{Registered}
use Rattle.stun_judging.specs.Verdict.{ClientSeen}
use Rattle.stun_client.specs.Judging.{long_term}
use Rattle.stun_client.specs.declared.preferences.Preferences.{Preferences}
use Rattle.stun_client_endpoint.specs.Bodies.{Body}
use Rattle.stun_client_endpoint.specs.Written.{Form, request_bytes}
use Rattle.stun_endpoint.specs.Judged.{Realm, key_of_client}
use Rattle.stun_endpoint.specs.Nonces.{current_nonce}
use Rattle.stun_endpoint.specs.Received.{answered, challenge_answer, outcome_of_accepted}
use Rattle.stun_endpoint.specs.Received.{received_by, received_for}
use Rattle.stun_endpoint.specs.Settings.{Settings}
use Rattle.stun_endpoint.specs.declared.received.Refusal.TheVariants.{Unauthenticated}
use Rattle.stun_exchanges.specs.Agreement.{AgreeOn}
use Rattle.stun_exchanges.specs.Exchange.{IsRegisteredUser, IsServer, IsWithinPeriod, meant_for}
use Rattle.stun_exchanges.specs.Exchange.{realm_knowing}
use Rattle.stun_requests.specs.ReadBack.{AreOrdinary}

-- a client sends the FINGERPRINT that a server requires
abbrev pub IsPrinted : Settings → Form → Type 0
IsPrinted s form = s.requires_fingerprint ≡ true → form.has_fingerprint ≡ true

-- each request without a signature is challenged with the nonce that is current at its source
abbrev pub RequestsAreChallenged : Type 0
RequestsAreChallenged =
    (s : Settings) (realm : Realm) (from : SocketAddr) (now : ℕ) (form : Form)
    (who : NameAndPassword) (p : Preferences) (accepts_unsigned : Bool) (method id : ℕ)
    (body : Body) (bytes : List ℕ) → method < 4096 → AreOrdinary body → IsPrinted s form
    → request_bytes form (long_term who p accepts_unsigned) None method id body ≡ Ok bytes
    → received_by s realm from now bytes
    ≡ answered (challenge_answer s Unauthenticated (current_nonce s from now) from bytes)

-- each request that is signed for the challenge of a server, by one of its users, is accepted as
-- that user's with the algorithm on which both agree, in the epoch of the challenge and in the next
-- one
abbrev pub RequestsAreAccepted : Type 0
RequestsAreAccepted =
    (s : Settings) (users : Registered) (from : SocketAddr) (made now : ℕ) (form : Form)
    (who : NameAndPassword) (p : Preferences) (accepts_unsigned : Bool) (a : IntegrityAlgorithm)
    (method id : ℕ) (body : Body) (bytes : List ℕ) → IsServer s → IsRegisteredUser s users who
    → IsUtf8 who.username → AgreeOn p s.algorithms s.feature a → IsWithinPeriod s made now
    → method < 4096 → AreOrdinary body → IsPrinted s form
    → request_bytes form (long_term who p accepts_unsigned)
    (Some (meant_for s p who (current_nonce s from made) a)) method id body ≡ Ok bytes
    → let client : ClientSeen = record { name = who.username; algorithm = a } in
    received_for s (Some users) from now bytes
    ≡ outcome_of_accepted s (key_of_client (realm_knowing s users) client) from bytes client
