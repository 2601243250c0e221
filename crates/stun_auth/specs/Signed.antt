-- What signing adds to a message of a client and of a server, by attribute (RFC 8489, sections 9.2.3
-- to 9.2.5). ClientSigning.antt and ServerSigning.antt list what is added, in the order in which it
-- is written or refused. Here it is a record, each of whose fields is what a reader finds of its
-- type. `laws::sides_add_by_attribute` says that both add the same.
use Rattle.std.specs.Prelude.{◌≡◌, ℕ, ◌≤◌, Bool, false, ◌||◌, if◌then◌else◌}
use Rattle.std.specs.Prelude.{List, length, Option, Some, None}
use Rattle.std.specs.List.{AllByRecursion}
use Rattle.std.specs.Option.{IfSome, IsSomeAnd, option_map}
use Rattle.stun_base.specs.declared.keys.algorithm.IntegrityAlgorithm.{IntegrityAlgorithm}
use Rattle.stun_types.specs.Limits.{TEXT_LIMIT, USERNAME_LIMIT}
use Rattle.stun_types.specs.Visible.{has_kind}
use Rattle.stun_types.specs.Walk.{walk}
use Rattle.stun_types.specs.Writing.{IsOpen}
use Rattle.stun_judging.specs.Algorithms.{is_sha256, algorithms_of}
use Rattle.stun_auth.specs.Client.{Challenge, ClientState}
use Rattle.stun_auth.specs.ClientSigning.{kept_challenge}
use Rattle.stun_judging.specs.Registered.{Registered, key_at}
use Rattle.stun_judging.specs.Verdict.{ClientSeen}
use Rattle.stun_auth.specs.Seen.{PlaceSeen}
use Rattle.stun_auth.specs.Server.{Sight}
use Rattle.stun_judging.specs.Signed.{Added, nothing, additions_of, HasRoomFor, kinds_in, only_if}
use Rattle.stun_judging.specs.Signed.{plain_name, hashed_name, is_listed}

-- a request has the identity; a message of any class names the algorithms, and has the digest
abbrev pub added_under : Bool → Challenge → Added
added_under request c = record {
  nonce = only_if request c.nonce;
  realm = only_if request c.realm;
  username = if request then plain_name c.naming else None;
  userhash = if request then hashed_name c.naming else None;
  algorithms = only_if (is_listed c.algorithms) c.algorithms;
  algorithm = only_if (is_sha256 c.algorithm || is_listed c.algorithms) c.algorithm;
  integrity = Some (record { algorithm = c.algorithm; key = c.key });
}

-- what a client adds, if it has answered a challenge
abbrev pub added_if_kept : Bool → Option Challenge → Added
added_if_kept request None = nothing
added_if_kept request (Some c) = added_under request c

-- what a client adds to a request, and to a message of another class
abbrev pub added_by_client : Bool → ClientState → Added
added_by_client request state = added_if_kept request (kept_challenge state)

-- ---- the server

-- what is added to a message to an address without a client: a response has the challenge with the
-- algorithms that are offered
abbrev pub added_without_client : Bool → Registered → List ℕ → Added
added_without_client response users nonce = record {
  nonce = only_if response nonce;
  realm = only_if response users.realm;
  username = None;
  userhash = None;
  algorithms = only_if response (algorithms_of users.algorithms);
  algorithm = None;
  integrity = None;
}

-- what is added to a message to a client, under the key of its user
abbrev pub added_under_key : Bool → Registered → List ℕ → IntegrityAlgorithm → List ℕ → Added
added_under_key response users nonce algorithm key = record {
  nonce = only_if response nonce;
  realm = only_if response users.realm;
  username = None;
  userhash = None;
  algorithms = None;
  algorithm = only_if (is_sha256 algorithm) algorithm;
  integrity = Some (record { algorithm = algorithm; key = key });
}

-- what is added to a message to an address with this nonce and this client. If the client's user or
-- key was removed, the message cannot be signed, and nothing is added
abbrev pub added_for : Bool → Registered → List ℕ → Option ClientSeen → Option Added
added_for response users nonce None = Some (added_without_client response users nonce)
added_for response users nonce (Some c) =
    option_map (added_under_key response users nonce c.algorithm) (key_at users c.name c.algorithm)

-- without a nonce nothing is added
abbrev pub added_at : Bool → Registered → Option PlaceSeen → Option Added
added_at response users None = Some nothing
added_at response users (Some p) = added_for response users p.nonce p.client

-- what a server adds to a message to an address: nothing if the client's user or key was removed
abbrev pub added_by_server : Sight → Bool → Option Added
added_by_server s response = added_at response s.registered s.place

-- ---- unchecked signings

-- a message is signable, like `IsSignable`, with what a client adds. Its nonce and realm were read
-- in a message, so they are within their limits at every client
pub record IsSignableByClient (a : Added) (message : List ℕ) (room : ℕ) : Type 0 where
  pub is_open : IsOpen message
  pub none_there : AllByRecursion (λ kind. has_kind kind (walk message) ≡ false)
      (kinds_in (additions_of a))
  pub username : IfSome a.username (λ text. length text ≤ USERNAME_LIMIT)
  pub has_room : HasRoomFor a message room

-- a message is signable, like `IsSignable`, with what a server adds. The server made its nonces, so
-- they are within their limit at every server, and it names no user
pub record IsSignableByServer (a : Added) (message : List ℕ) (room : ℕ) : Type 0 where
  pub is_open : IsOpen message
  pub none_there : AllByRecursion (λ kind. has_kind kind (walk message) ≡ false)
      (kinds_in (additions_of a))
  pub realm : IfSome a.realm (λ text. length text ≤ TEXT_LIMIT)
  pub has_room : HasRoomFor a message room

-- what the caller of an unchecked signing at a client must know
abbrev pub IsSignableAtClient : Bool → ClientState → List ℕ → ℕ → Type 0
IsSignableAtClient request state message room =
    IsSignableByClient (added_by_client request state) message room

-- what the caller of an unchecked signing at a server must know: the client's user and key are
-- still there, and the message is signable
abbrev pub IsSignableAtServer : Sight → Bool → List ℕ → ℕ → Type 0
IsSignableAtServer s response message room =
    IsSomeAnd (added_by_server s response) (λ a. IsSignableByServer a message room)
