-- A server, its answer to a message, and its state after it (RFC 8489, section 9.2.4).
use Rattle.std.specs.Prelude.{◌≡◌, ◌↔◌, ℕ, List, Bool, not, ◌&&◌, ◌||◌}
use Rattle.std.specs.Prelude.{if◌then◌else◌, Option, Some, None, false}
use Rattle.std.specs.Option.{option_and_then}
use Rattle.std.specs.declared.result.Result.{Result}
use Rattle.std.specs.declared.result.Result.TheVariants.{Ok, Err}
use Rattle.std.specs.FinMap as map
use Rattle.std.specs.declared.net.socket_addr.SocketAddr.{SocketAddr}
use Rattle.stun_base.specs.Address.{address_cmp}
use Rattle.stun_base.specs.declared.keys.algorithm.IntegrityAlgorithm.{IntegrityAlgorithm}
use Rattle.stun_judging.specs.declared.feature.Feature.{Feature}
use Rattle.stun_judging.specs.declared.feature.Feature.TheVariants.{Auto}
use Rattle.stun_judging.specs.declared.refusal.VerdictRefusal.{VerdictRefusal}
use Rattle.stun_auth.specs.declared.server.reason.LongTermServerAuthErrorReason.{
  LongTermServerAuthErrorReason,
}
use Rattle.stun_auth.specs.declared.server.reason.LongTermServerAuthErrorReason.TheVariants.{
  IntegrityFailed,
}
use Rattle.stun_auth.specs.declared.server.reason.LongTermServerValidation.{
  LongTermServerValidation,
}
use Rattle.stun_auth.specs.declared.server.reason.LongTermServerValidation.TheVariants.{Validated}
use Rattle.stun_base.specs.MessageType.{is_response}
use Rattle.stun_judging.specs.Reading.{Reading, verified_under, is_malformed}
use Rattle.stun_auth.specs.Reasons.{server_reason}
use Rattle.stun_judging.specs.Realm.{RealmSeen}
use Rattle.stun_judging.specs.Registered.{Registered, key_at, new_registered}
use Rattle.stun_judging.specs.Verdict.{ClientSeen, IsAccepted, verdict}
use Rattle.stun_auth.specs.Seen.{PlaceSeen}
use Rattle.stun_auth.specs.Server.{Sight, has_current_nonce, current_place}

-- the users with the realm and the supported algorithms, the settings, and the record of each
-- address that has one
pub record ServerSeen : Type 0 where
  pub registered : Registered
  pub feature : Feature
  pub expiry : ℕ
  pub places : map.FinMap address_cmp PlaceSeen

-- the shortest time for which a nonce may be valid, in nanoseconds: 30 seconds
abbrev pub MINIMUM_EXPIRY : ℕ
MINIMUM_EXPIRY = 30000000000

-- HMAC-SHA1 alone, hashed names if the client sends them, nonces of an hour, no users and no
-- records
abbrev pub new_server : List ℕ → ServerSeen
new_server realm =
    record {
      registered = new_registered realm;
      feature = Auto;
      expiry = 3600000000000;
      places = map.empty;
    }

-- the users and the use of hashed names alone
abbrev pub realm_of : ServerSeen → RealmSeen
realm_of s = record { registered = s.registered; feature = s.feature }

-- the part of the server that concerns one address
abbrev pub sight : ServerSeen → SocketAddr → Sight
sight s a =
    record {
      registered = s.registered;
      feature = s.feature;
      expiry = s.expiry;
      place = map.get s.places a;
    }

-- the client that a server knows at an address
abbrev pub client_at : ServerSeen → SocketAddr → Option ClientSeen
client_at s a = option_and_then (λ (p : PlaceSeen). p.client) (map.get s.places a)

-- the answer to a message
abbrev pub Answer : Type 0
Answer = Result LongTermServerValidation LongTermServerAuthErrorReason

-- the algorithm whose digest verifies under the key that the registered user of a client has for
-- the client's algorithm
abbrev pub verified_for_client : Registered → Reading → ClientSeen → Option IntegrityAlgorithm
verified_for_client users r c = option_and_then (verified_under r) (key_at users c.name c.algorithm)

-- the algorithm for the client of a record, if there is one
abbrev pub client_verified : Registered → Reading → Option PlaceSeen → Option IntegrityAlgorithm
client_verified users r place =
    option_and_then (verified_for_client users r)
    (option_and_then (λ (p : PlaceSeen). p.client) place)

-- the algorithm, or that no digest verifies
abbrev pub validated_or_failed : Option IntegrityAlgorithm → Answer
validated_or_failed None = Err IntegrityFailed
validated_or_failed (Some a) = Ok (Validated a)

-- whether a message needs a nonce
abbrev pub needs_nonce : Reading → Bool
needs_nonce r = not (is_response r.class || is_malformed r)

-- a verdict as an answer
abbrev pub answer_to : Result ClientSeen VerdictRefusal → Answer
answer_to (Ok client) = Ok (Validated client.algorithm)
answer_to (Err refusal) = Err (server_reason refusal)

-- the record with the client that is accepted, if one is
abbrev pub with_accepted : PlaceSeen → Result ClientSeen VerdictRefusal → PlaceSeen
with_accepted place (Ok client) = record place { client = Some client }
with_accepted place (Err refusal) = place

-- the verdict at a record
abbrev pub verdict_at : Sight → PlaceSeen → Reading → Result ClientSeen VerdictRefusal
verdict_at s place r = verdict s.registered s.feature place.nonce place.offered r

-- the answer at a time with random words
abbrev pub answer : Sight → ℕ → List ℕ → Reading → Answer
answer s now words r =
    if is_response r.class then validated_or_failed (client_verified s.registered r s.place)
    else answer_to (verdict_at s (current_place s now words) r)

-- the record after a message
abbrev pub place_after : Sight → ℕ → List ℕ → Reading → Option PlaceSeen
place_after s now words r =
    if needs_nonce r
    then Some (with_accepted (current_place s now words)
    (verdict_at s (current_place s now words) r))
    else s.place

-- whether random words are read: if a nonce is needed and none is current
abbrev pub draws : Sight → ℕ → Reading → Bool
draws s now r = needs_nonce r && not (has_current_nonce now s.place)

-- a message changes nothing at its address: no nonce is made for it, and the record is unchanged
pub record ChangesNothing (s : Sight) (now : ℕ) (words : List ℕ) (r : Reading) : Type 0 where
  pub no_nonce : draws s now r ≡ false
  pub same_place : place_after s now words r ≡ s.place

-- the records with this one at an address
abbrev pub put_place : map.FinMap address_cmp PlaceSeen → SocketAddr → Option PlaceSeen
    → map.FinMap address_cmp PlaceSeen
put_place places a None = places
put_place places a (Some place) = map.insert places a place

-- the server after a message
abbrev pub after_validation : ServerSeen → SocketAddr → ℕ → List ℕ → Reading → ServerSeen
after_validation s from now words r =
    record s { places = put_place s.places from (place_after (sight s from) now words r) }

-- a message is accepted with an algorithm: a client is accepted with it at the record whose nonce
-- is current
abbrev pub AcceptedWith : Sight → ℕ → List ℕ → Reading → IntegrityAlgorithm → Type 0
AcceptedWith s now words r a =
    (name : List ℕ)
    × IsAccepted s.registered s.feature (current_place s now words).nonce
    (current_place s now words).offered
    r (record { name = name; algorithm = a })

-- a request or an indication is validated if and only if it is accepted
abbrev pub ValidatesAccepted : Sight → ℕ → List ℕ → Reading → Answer → Type 0
ValidatesAccepted s now words r given =
    (is_response r.class ≡ false) → (a : IntegrityAlgorithm)
    → (given ≡ Ok (Validated a)) ↔ AcceptedWith s now words r a
