-- How the code judges a message that needs a nonce: the record, the verdict, the client, and the
-- record after it.
use Rattle.std.specs.Prelude.{[]}
use Rattle.std.specs.Prelude.{◌≡◌, ℕ, List, if◌then◌else◌, Option, Some, None}
use Rattle.std.specs.FinMap as map
use Rattle.std.specs.String.{string_bytes}
use Rattle.std.specs.declared.net.socket_addr.SocketAddr.{SocketAddr}
use Rattle.std.specs.declared.result.Result.TheVariants.{Ok, Err}
use Rattle.stun_judging.specs.declared.feature.Feature.{Feature}
use Rattle.stun_auth.specs.declared.server.reason.LongTermServerValidation.TheVariants.{Validated}
use Rattle.stun_auth.specs.declared.server.validation.Judgement.{Judgement}
use Rattle.stun_auth.specs.declared.server.validation.Judgement.TheVariants.{Refused, Known, New}
use Rattle.stun_auth.specs.declared.server.validation.Renewal.{Renewal}
use Rattle.stun_auth.specs.code.Places.{client_seen}
use Rattle.stun_auth.specs.Places.{PlacesSeen, with_change}
use Rattle.stun_judging.specs.Reading.{Reading}
use Rattle.stun_auth.specs.Reasons.{server_reason}
use Rattle.stun_judging.specs.Registered.{Registered}
use Rattle.stun_judging.specs.Verdict.{ClientSeen, verdict}
use Rattle.stun_auth.specs.Seen.{PlaceSeen, renewed_place}
use Rattle.stun_judging.specs.Nonces.{nonce_of}
use Rattle.stun_auth.specs.Server.{has_current_nonce}
use Rattle.stun_auth.specs.Validation.{Answer, ServerSeen, answer_to, with_accepted}
use Rattle.stun_base.specs.Moments.{moment_after}

-- a new nonce and when it expires
abbrev pub renewal_seen : {A : Type 0} → Renewal A → List ℕ × ℕ
renewal_seen renewal = (string_bytes renewal.nonce.text, renewal.expires)

-- the record that a message is judged under: with the new nonce if one was made, or else as it is
-- stored
abbrev pub place_with : Option PlaceSeen → Option (List ℕ × ℕ) → PlaceSeen
place_with None None = renewed_place None [] 0
place_with None (Some new) = renewed_place None new.0 new.1
place_with (Some place) None = place
place_with (Some place) (Some new) = renewed_place (Some place) new.0 new.1

-- the answer for an outcome
abbrev pub judgement_answer : {A : Type 0} → Judgement A → Answer
judgement_answer (Refused refusal) = Err (server_reason refusal)
judgement_answer (Known a) = Ok (Validated a)
judgement_answer (New client) = Ok (Validated client.algorithm)

-- the client that is not stored yet
abbrev pub client_in : {A : Type 0} → Judgement A → Option ClientSeen
client_in (Refused refusal) = None
client_in (Known a) = None
client_in (New client) = Some (client_seen client)

-- the record after a message: only another client changes it
abbrev pub place_left : {A : Type 0} → PlaceSeen → Judgement A → PlaceSeen
place_left place (Refused refusal) = place
place_left place (Known a) = place
place_left place (New client) = record place { client = Some (client_seen client) }

-- the records after a message
abbrev pub places_left : {A : Type 0} → PlacesSeen → SocketAddr → Option (List ℕ × ℕ) → Judgement A
    → PlacesSeen
places_left places from None judged = with_change places from (λ p. place_left p judged)
places_left places from (Some new) judged =
    map.insert places from (place_left (renewed_place (map.get places from) new.0 new.1) judged)

-- the nonce that is made for a server's address if none is current
abbrev pub new_nonce : ServerSeen → ℕ → List ℕ → Option PlaceSeen → Option (List ℕ × ℕ)
new_nonce s now words place =
    if has_current_nonce now place then None
    else Some (nonce_of s.registered.algorithms s.feature words, moment_after now s.expiry)

-- the answer of an outcome and the record after it are those of the verdict
pub record IsJudged {A : Type 0} (users : Registered) (feature : Feature) (r : Reading)
    (place : PlaceSeen) (judged : Judgement A) : Type 0 where
  pub answer : judgement_answer judged
      ≡ answer_to (verdict users feature place.nonce place.offered r)
  pub left : place_left place judged
      ≡ with_accepted place (verdict users feature place.nonce place.offered r)

-- the verdict leaves the record unchanged
abbrev pub ChangesNoPlace : Registered → Feature → Reading → PlaceSeen → Type 0
ChangesNoPlace users feature r place =
    with_accepted place (verdict users feature place.nonce place.offered r) ≡ place
