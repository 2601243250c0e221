-- The body of a request that a caller passes as encoded attributes (RFC 8489, section 14).
use Rattle.std.specs.Prelude.{◌≡◌, ◌≢◌, ℕ, List, [], ◌∷◌, ◌++◌, true, false, ◌&&◌, ◌==◌}
use Rattle.std.specs.Prelude.{length, drop, if◌then◌else◌, Option, Some, None, Result, Ok, Err}
use Rattle.std.specs.declared.net.socket_addr.SocketAddr.{SocketAddr}
use Rattle.byteorder.specs.Endian.{big_number}
use Rattle.stun_types.specs.Attribute.{TypedValue, attribute_length, first_attribute}
use Rattle.stun_types.specs.Attribute.{has_attribute}
use Rattle.stun_extra.specs.AttributeTypes.{XOR_PEER_ADDRESS}
use Rattle.stun_client_endpoint.specs.Bodies.{Body, body_refusal, body_size_refusal, of_peer}
use Rattle.stun_client_endpoint.specs.Bodies.{with_value}
use Rattle.stun_client_endpoint.specs.declared.body.BodyError.{BodyError}
use Rattle.stun_client_endpoint.specs.declared.body.BodyError.TheVariants as BodyErrors
use Rattle.stun_handles.specs.Addresses.{ipv4, ipv6}
use Rattle.stun_numbers.specs.declared.refusal.Refusal.{Refusal}
use Rattle.stun_numbers.specs.declared.refusal.Refusal.TheVariants.{BadArgument, MessageTooLong}
use Rattle.stun_numbers.specs.declared.refusal.Refusal.TheVariants.{NotAllowed, OutOfMemory}

-- the address of XOR-PEER-ADDRESS, which is not XORed yet: a family, a port and the octets, as in
-- MAPPED-ADDRESS (section 14.1)
abbrev pub peer_of : List ℕ → Option SocketAddr
peer_of value =
    if (length value == 8) && (big_number 2 value == 1)
    then Some (ipv4 (drop 4 value) (big_number 2 (drop 2 value)))
    else if (length value == 20) && (big_number 2 value == 2)
    then Some (ipv6 (drop 4 value) (big_number 2 (drop 2 value)))
    else None

abbrev pub refusal_of_attribute : BodyError → Refusal
refusal_of_attribute BodyErrors.NotAllowed = NotAllowed
refusal_of_attribute BodyErrors.TooLarge = MessageTooLong
refusal_of_attribute BodyErrors.OutOfMemory = OutOfMemory

-- a body with one more attribute, unless that is refused
abbrev pub unless_refused : Option BodyError → Body → Result Body Refusal
unless_refused None body = Ok body
unless_refused (Some error) body = Err (refusal_of_attribute error)

abbrev pub with_peer : Body → Option SocketAddr → Result Body Refusal
with_peer body None = Err BadArgument
with_peer body (Some address) =
    unless_refused (body_size_refusal body 20) (body ++ of_peer address ∷ [])

abbrev pub with_attribute : Body → TypedValue → Result Body Refusal
with_attribute body a =
    if a.kind == XOR_PEER_ADDRESS then with_peer body (peer_of a.value)
    else unless_refused (body_refusal body a.kind (length a.value)) (body ++ with_value a ∷ [])

-- the result of reading bytes after those of a body: the body with their attributes, or the first
-- error
pub data Reads : Body → List ℕ → Result Body Refusal → Type 0 where
  ends : (body : Body) → Reads body [] (Ok body)
  breaks_off : (body : Body) (bytes : List ℕ) → bytes ≢ [] → has_attribute bytes ≡ false
      → Reads body bytes (Err BadArgument)
  stops : (body : Body) (bytes : List ℕ) (refusal : Refusal) → has_attribute bytes ≡ true
      → with_attribute body (first_attribute bytes) ≡ Err refusal → Reads body bytes (Err refusal)
  goes_on : (body next : Body) (bytes : List ℕ) (result : Result Body Refusal)
      → has_attribute bytes ≡ true → with_attribute body (first_attribute bytes) ≡ Ok next
      → Reads next (drop (attribute_length (length (first_attribute bytes).value)) bytes) result
      → Reads body bytes result
