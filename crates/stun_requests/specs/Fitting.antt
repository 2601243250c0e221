-- Each request that a client is asked to start can be written, with a signature and without one
-- (RFC 8489, sections 5 and 14).
use Rattle.std.specs.Prelude.{◌≡◌, ◌≤◌, ◌<◌, ◌^◌, ◌++◌, ◌∷◌, [], ℕ, Bool, List, length, Option, None}
use Rattle.std.specs.Prelude.{Ok}
use Rattle.std.specs.Net.Addr.{ipv4_octets, ipv6_octets}
use Rattle.std.specs.Net.Socket.{socket_ip}
use Rattle.std.specs.Option.{IfSome}
use Rattle.std.specs.declared.net.ip_addr.IpAddr.{IpAddr}
use Rattle.std.specs.declared.net.ip_addr.IpAddr.TheVariants.{V4, V6}
use Rattle.std.specs.declared.net.socket_addr.SocketAddr.{SocketAddr}
use Rattle.stun_base.specs.Credentials.{NameAndPassword}
use Rattle.stun_types.specs.Limits.{TEXT_LIMIT, USERNAME_LIMIT}
use Rattle.stun_judging.specs.Signed.{hashed_name, plain_name}
use Rattle.stun_client.specs.Challenge.{Challenge}
use Rattle.stun_client.specs.Challenges.{Answered}
use Rattle.stun_client.specs.Judging.{long_term}
use Rattle.stun_client.specs.declared.preferences.Preferences.{Preferences}
use Rattle.stun_client_endpoint.specs.Bodies.{BODY_LIMIT, Body, body_length, body_refusal}
use Rattle.stun_client_endpoint.specs.Bodies.{body_size_refusal, of_peer, with_value}
use Rattle.stun_client_endpoint.specs.Written.{Form, request_bytes}
use Rattle.stun_requests.specs.ReadBack.{AreOrdinary}

-- ---- bodies

-- an address has 4 or 16 bytes, as each `SocketAddr` has
abbrev pub IsWhole : IpAddr → Type 0
IsWhole (V4 ip) = length (ipv4_octets ip) ≡ 4
IsWhole (V6 ip) = length (ipv6_octets ip) ≡ 16

-- a body is one that the calls of `Body` build: `new` has no attribute, and `add` and
-- `add_xor_peer_address` add one that they do not refuse. The number of a type has 16 bits
pub data IsBuiltBody : Body → Type 0 where
  new : IsBuiltBody []
  adds : (body after : Body) (kind : ℕ) (value : List ℕ) → IsBuiltBody body → kind < 2 ^ 16
      → body_refusal body kind (length value) ≡ None
      → after ≡ body ++ with_value (record { kind = kind; value = value }) ∷ [] → IsBuiltBody after
  adds_peer : (body after : Body) (address : SocketAddr) → IsBuiltBody body
      → IsWhole (socket_ip address) → body_size_refusal body 20 ≡ None
      → after ≡ body ++ of_peer address ∷ [] → IsBuiltBody after

-- such a body has attributes that `Body` accepts, of at most 60,000 bytes together
abbrev pub BuiltAreOrdinary : Type 0
BuiltAreOrdinary = (body : Body) → IsBuiltBody body → AreOrdinary body × (body_length body ≤ BODY_LIMIT)

-- ---- challenges

-- the largest number of bytes of a list of algorithms for which there is always room. A server of
-- this library sends at most 8
abbrev pub LIST_LIMIT : ℕ
LIST_LIMIT = 2600

-- the texts of a challenge are within their limits, a hash has its length, and the list is not too
-- long
pub record IsShort (c : Challenge) : Type 0 where
  pub nonce : length c.nonce ≤ TEXT_LIMIT
  pub realm : length c.realm ≤ TEXT_LIMIT
  pub username : IfSome (plain_name c.naming) (λ name. length name ≤ USERNAME_LIMIT)
  pub userhash : IfSome (hashed_name c.naming) (λ hash. length hash ≡ 32)
  pub offered : length c.offered ≤ LIST_LIMIT

-- ---- requests

-- a request can be written
pub record IsWritten (form : Form) (who : NameAndPassword) (p : Preferences)
    (accepts_unsigned : Bool) (challenge : Option Answered) (method id : ℕ) (body : Body)
    : Type 0 where
  pub bytes : List ℕ
  pub is : request_bytes form (long_term who p accepts_unsigned) challenge method id body ≡ Ok bytes

-- this holds with each body that `Body` builds, with SOFTWARE within its limit, and for no
-- challenge or any such challenge
abbrev pub RequestsAreWritten : Type 0
RequestsAreWritten =
    (form : Form) (who : NameAndPassword) (p : Preferences) (accepts_unsigned : Bool)
    (challenge : Option Answered) (method id : ℕ) (body : Body) → method < 4096 → IsBuiltBody body
    → IfSome form.software (λ text. length text ≤ TEXT_LIMIT)
    → IfSome challenge (λ c. IsShort c.challenge)
    → IsWritten form who p accepts_unsigned challenge method id body
