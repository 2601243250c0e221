-- The nonce and the realm that a client keeps, and a server's nonces, are within their limits: who
-- signs unchecked is not asked for them.
use Rattle.std.proofs.Common.{ℕ, ◌≤◌, Bool, true, false, List, length, Option, None, Some}
use Rattle.std.specs.Option.{IfSome, IsSomeAnd, option_map}
use Rattle.stun_auth.specs.Client.{Challenge, ClientState}
use Rattle.stun_auth.specs.ClientSigning.{kept_challenge}
use Rattle.stun_judging.specs.Registered.{Registered, key_at}
use Rattle.stun_judging.specs.Verdict.{ClientSeen}
use Rattle.stun_auth.specs.Seen.{PlaceSeen}
use Rattle.stun_auth.specs.Server.{Sight}
use Rattle.stun_judging.specs.Signed.{Added, IsSignable, nothing, only_if}
use Rattle.stun_auth.specs.Signed.{IsSignableAtClient, IsSignableByClient, IsSignableByServer}
use Rattle.stun_auth.specs.Signed.{IsSignableAtServer, added_at, added_by_client, added_by_server}
use Rattle.stun_auth.specs.Signed.{added_for, added_if_kept, added_under_key, added_without_client}
use Rattle.stun_auth.specs.code.ClientKept.{KeepsShortTexts}

pub by_client : (a : Added) (message : List ℕ) (room : ℕ) → IsSignable a message room
    → IsSignableByClient a message room
by_client a message room signable = record {
  is_open = signable.is_open;
  none_there = signable.none_there;
  username = signable.texts.username;
  has_room = signable.has_room;
}

pub by_server : (a : Added) (message : List ℕ) (room : ℕ) → IsSignable a message room
    → IsSignableByServer a message room
by_server a message room signable = record {
  is_open = signable.is_open;
  none_there = signable.none_there;
  realm = signable.texts.realm;
  has_room = signable.has_room;
}

only_short : (there : Bool) (text : List ℕ) → length text ≤ 763
    → IfSome (only_if there text) (λ t. length t ≤ 763)
only_short true text short = short
only_short false text short = tt

-- ---- the client

short_nonce : (request : Bool) (kept : Option Challenge)
    → IfSome kept (λ c. (length c.nonce ≤ 763) × (length c.realm ≤ 763))
    → IfSome (added_if_kept request kept).nonce (λ text. length text ≤ 763)
short_nonce request None short = tt
short_nonce request (Some c) short = only_short request c.nonce short.0

short_realm : (request : Bool) (kept : Option Challenge)
    → IfSome kept (λ c. (length c.nonce ≤ 763) × (length c.realm ≤ 763))
    → IfSome (added_if_kept request kept).realm (λ text. length text ≤ 763)
short_realm request None short = tt
short_realm request (Some c) short = only_short request c.realm short.1

pub client_signable : (request : Bool) (state : ClientState) (message : List ℕ) (room : ℕ)
    → KeepsShortTexts state
    → IsSignableAtClient request state message room
    → IsSignable (added_by_client request state) message room
client_signable request state message room short may = record {
  is_open = may.is_open;
  none_there = may.none_there;
  texts = record {
    nonce = short_nonce request (kept_challenge state) short;
    realm = short_realm request (kept_challenge state) short;
    username = may.username;
  };
  has_room = may.has_room;
}

-- ---- the server

module _ (message : List ℕ) (room : ℕ) where
  whole : (a : Added) → IfSome a.nonce (λ text. length text ≤ 763)
      → IfSome a.username (λ text. length text ≤ 513)
      → IsSignableByServer a message room → IsSignable a message room
  whole a nonce username may = record {
    is_open = may.is_open;
    none_there = may.none_there;
    texts = record { nonce = nonce; realm = may.realm; username = username };
    has_room = may.has_room;
  }

  under : (response : Bool) (users : Registered) (nonce : List ℕ) (c : ClientSeen)
      (key : Option (List ℕ)) → length nonce ≤ 763
      → IsSomeAnd (option_map (added_under_key response users nonce c.algorithm) key)
      (λ a. IsSignableByServer a message room)
      → IsSomeAnd (option_map (added_under_key response users nonce c.algorithm) key)
      (λ a. IsSignable a message room)
  under response users nonce c None short may = absurd may
  under response users nonce c (Some key) short may =
      whole (added_under_key response users nonce c.algorithm key) (only_short response nonce short)
      tt may

  for_client : (response : Bool) (users : Registered) (nonce : List ℕ) (client : Option ClientSeen)
      → length nonce ≤ 763
      → IsSomeAnd (added_for response users nonce client) (λ a. IsSignableByServer a message room)
      → IsSomeAnd (added_for response users nonce client) (λ a. IsSignable a message room)
  for_client response users nonce None short may =
      whole (added_without_client response users nonce) (only_short response nonce short) tt may
  for_client response users nonce (Some c) short may =
      under response users nonce c (key_at users c.name c.algorithm) short may

  at_place : (response : Bool) (users : Registered) (place : Option PlaceSeen)
      → IfSome place (λ p. length p.nonce ≤ 763)
      → IsSomeAnd (added_at response users place) (λ a. IsSignableByServer a message room)
      → IsSomeAnd (added_at response users place) (λ a. IsSignable a message room)
  at_place response users None short may = whole nothing tt tt may
  at_place response users (Some p) short may = for_client response users p.nonce p.client short may

pub server_signable : (s : Sight) (response : Bool) (message : List ℕ) (room : ℕ)
    → IfSome s.place (λ p. length p.nonce ≤ 763)
    → IsSignableAtServer s response message room
    → IsSomeAnd (added_by_server s response) (λ a. IsSignable a message room)
server_signable s response message room short may =
    at_place message room response s.registered s.place short may
