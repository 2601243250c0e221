-- A session that continues: a request is signed for a challenge of the server, and arrives while
-- the nonce lasts or after that (RFC 8489, sections 9.2.3 to 9.2.5).
use Rattle.std.specs.Prelude.{◌≡◌, ◌≢◌, ◌⊎◌, ℕ, zero, suc, List, Bool, true, false, Option, Some}
use Rattle.std.specs.Prelude.{None, ⊤}
use Rattle.std.specs.declared.net.socket_addr.SocketAddr.{SocketAddr}
use Rattle.stun_base.specs.Credentials.{NameAndPassword}
use Rattle.stun_base.specs.MessageType.{class_in}
use Rattle.stun_base.specs.declared.keys.algorithm.IntegrityAlgorithm.{IntegrityAlgorithm}
use Rattle.stun_base.specs.declared.wire.message_type.MessageClass.TheVariants.{Request}
use Rattle.stun_judging.specs.Reading.{reading_of}
use Rattle.stun_judging.specs.Registered.{Registered}
use Rattle.stun_judging.specs.Verdict.{ClientSeen, IsAcceptedOffering}
use Rattle.stun_judging.specs.Signed.{ReadsAs}
use Rattle.stun_client.specs.Challenge.{added_under}
use Rattle.stun_client.specs.Challenges.{Answered, is_one}
use Rattle.stun_client.specs.Standing.{StandingSeen, after_answer, after_success, confirmed}
use Rattle.stun_client.specs.Standing.{gives_way, is_ignored}
use Rattle.stun_client.specs.declared.preferences.Preferences.{Preferences}
use Rattle.stun_endpoint.specs.Judged.{Realm, key_of_client}
use Rattle.stun_endpoint.specs.Nonces.{current_nonce, epoch_of, nonce_in}
use Rattle.stun_endpoint.specs.Received.{answered, challenge_answer, outcome_of_accepted}
use Rattle.stun_endpoint.specs.Received.{received_by, received_for}
use Rattle.stun_endpoint.specs.Responding.{drop_reason}
use Rattle.stun_endpoint.specs.Settings.{Settings}
use Rattle.stun_endpoint.specs.declared.received.Refusal.TheVariants.{StaleNonce}
use Rattle.stun_exchanges.specs.Agreement.{AgreeOn, meant_by}
use Rattle.stun_exchanges.specs.Exchange.{IsRegisteredUser, IsServer, IsWithinPeriod, SendsRequired}
use Rattle.stun_exchanges.specs.Exchange.{meant_for, realm_knowing}
use Rattle.stun_sessions.specs.Responses.{IsShortRequest, OutcomeEnds}

-- ---- the nonce has expired

-- a nonce is not one that a secret makes for an address in an epoch or in the one before
abbrev pub IsNotUnder : Settings → List ℕ → SocketAddr → ℕ → List ℕ → Type 0
IsNotUnder s secret from zero nonce = nonce ≢ nonce_in s secret from 0
IsNotUnder s secret from (suc e) nonce =
    (nonce ≢ nonce_in s secret from (suc e)) × (nonce ≢ nonce_in s secret from e)

abbrev pub IsNotPrevious : Settings → Option (List ℕ) → SocketAddr → ℕ → List ℕ → Type 0
IsNotPrevious s None from epoch nonce = ⊤
IsNotPrevious s (Some secret) from epoch nonce = IsNotUnder s secret from epoch nonce

-- the nonce that was current at one time is not among those accepted at another. It has then
-- expired: two nonces of an address are the same only if their digests begin with the same bytes
pub record IsForgotten (s : Settings) (from : SocketAddr) (made now : ℕ) : Type 0 where
  pub current : IsNotUnder s s.secret from (epoch_of s now) (current_nonce s from made)
  pub previous : IsNotPrevious s s.previous from (epoch_of s now) (current_nonce s from made)

-- a client that would be accepted with it is answered with a 438, which has the current nonce
abbrev pub ForgottenAreStale : Type 0
ForgottenAreStale =
    (s : Settings) (realm : Realm) (from : SocketAddr) (made now : ℕ) (bytes : List ℕ)
    (client : ClientSeen) → drop_reason s.requires_fingerprint bytes ≡ None
    → class_in bytes ≡ Request
    → IsAcceptedOffering realm.users realm.feature (current_nonce s from made) realm.offered
    (reading_of bytes) client
    → IsForgotten s from made now
    → received_by s realm from now bytes
    ≡ answered (challenge_answer s StaleNonce (current_nonce s from now) from bytes)

-- ---- one request of a session

-- a request of a registered user reads as signed for the challenge which the server means with the
-- nonce that was current at a time. Its client requires FINGERPRINT or does not
pub record IsInSession (s : Settings) (users : Registered) (who : NameAndPassword)
    (p : Preferences) (a : IntegrityAlgorithm) (from : SocketAddr) (made : ℕ) (required : Bool)
    (bytes : List ℕ) : Type 0 where
  pub built : IsServer s
  pub registered : IsRegisteredUser s users who
  pub agree : AgreeOn p s.algorithms s.feature a
  pub message : IsShortRequest bytes
  pub class : class_in bytes ≡ Request
  pub undropped : drop_reason s.requires_fingerprint bytes ≡ None
  pub sends : SendsRequired required bytes
  pub reads : ReadsAs Request None
      (added_under true (meant_by p who s.realm s.algorithms (current_nonce s from made) a))
      (reading_of bytes)

-- the client of an accepted request
abbrev pub client_named : NameAndPassword → IntegrityAlgorithm → ClientSeen
client_named who a = record { name = who.username; algorithm = a }

-- while the nonce lasts, the request is accepted as the user's, and each response to it is signed
-- with the key of the challenge
abbrev pub OneExchangeEach : Type 0
OneExchangeEach =
    (s : Settings) (users : Registered) (who : NameAndPassword) (p : Preferences)
    (a : IntegrityAlgorithm) (from : SocketAddr) (made now : ℕ) (required : Bool) (bytes : List ℕ)
    → IsInSession s users who p a from made required bytes → IsWithinPeriod s made now
    → let outcome = received_for s (Some users) from now bytes in
    let challenge = meant_for s p who (current_nonce s from made) a in
    (outcome ≡ outcome_of_accepted s (key_of_client (realm_knowing s users) (client_named who a))
    from bytes (client_named who a))
    × OutcomeEnds required bytes challenge.challenge.key a outcome

-- ---- which challenge new requests are signed for

-- a new request is signed for the current challenge (`started` of `stun_client_calls`). It is the
-- one that was answered last, unless that was the current one already. When requests succeed it
-- stays current, or is replaced by the challenge of the one that succeeds, if it is weaker
abbrev pub ChallengesStay : Type 0
ChallengesStay =
    (standing : StandingSeen) (c : Answered)
    → (is_one (Some c) standing.current ≡ false
    → (after_answer standing c).current ≡ Some c)
    × ((other : Answered) → gives_way standing.current other ≡ false
    → (after_success standing (Some other)).current ≡ standing.current)
    × ((other : Option Answered) → ((after_success standing other).current ≡ standing.current)
    ⊎ ((after_success standing other).current ≡ other))

-- a challenge is one that this server means, with its current settings, with some nonce of its own
pub record IsMeantHere (s : Settings) (who : NameAndPassword) (p : Preferences)
    (a : IntegrityAlgorithm) (challenge : Option Answered) : Type 0 where
  pub secret : List ℕ
  pub from : SocketAddr
  pub epoch : ℕ
  pub is : challenge ≡ Some (meant_for s p who (nonce_in s secret from epoch) a)

-- what a success has confirmed last is such a challenge, or nothing was confirmed
abbrev pub IsConfirmedBy : Settings → NameAndPassword → Preferences → IntegrityAlgorithm
    → StandingSeen
    → Type 0
IsConfirmedBy s who p a standing =
    (confirmed standing ≡ None) ⊎ IsMeantHere s who p a (confirmed standing)

-- no challenge of a server is replaced by another one of the same server, if its settings do not
-- change
abbrev pub ChallengesOfOneStay : Type 0
ChallengesOfOneStay =
    (s : Settings) (who : NameAndPassword) (p : Preferences) (a : IntegrityAlgorithm)
    (standing : StandingSeen) (other : Option Answered)
    → IsMeantHere s who p a standing.current → IsMeantHere s who p a other
    → (after_success standing other).current ≡ standing.current

-- and none is ignored if what a success has confirmed last, if anything, is another one of the same
-- server
abbrev pub ChallengesOfOneAreHeeded : Type 0
ChallengesOfOneAreHeeded =
    (s : Settings) (who : NameAndPassword) (p : Preferences) (a : IntegrityAlgorithm)
    (standing : StandingSeen) (secret : List ℕ) (from : SocketAddr) (epoch : ℕ)
    → IsConfirmedBy s who p a standing
    → is_ignored standing (meant_for s p who (nonce_in s secret from epoch) a) ≡ false
