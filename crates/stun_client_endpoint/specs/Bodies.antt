-- The body of a request: the attributes that its user adds (RFC 8489, section 14).
use Rattle.std.specs.Prelude.{ℕ, ◌+◌, ◌==◌, Bool, List, [], ◌∷◌, length, nat_le, sum_by}
use Rattle.std.specs.Prelude.{if◌then◌else◌, Option, Some, None}
use Rattle.std.specs.List.{list_any}
use Rattle.std.specs.Net.Socket.{socket_ip, socket_port}
use Rattle.std.specs.declared.net.socket_addr.SocketAddr.{SocketAddr}
use Rattle.stun_types.specs.Attribute.{TypedValue, attribute_length}
use Rattle.stun_types.specs.XorMappedAddress.{xored_address, xored_value}
use Rattle.stun_extra.specs.AttributeTypes.{XOR_PEER_ADDRESS}
use Rattle.stun_client_endpoint.specs.declared.body.BodyError.{BodyError}
use Rattle.stun_client_endpoint.specs.declared.body.BodyError.TheVariants.{NotAllowed, TooLarge}

-- an attribute of a body: its type and its value, or an address for XOR-PEER-ADDRESS, whose value
-- depends on the transaction ID (RFC 8656, section 18.3)
pub data Piece : Type 0 where
  with_value : TypedValue → Piece
  of_peer : SocketAddr → Piece

abbrev pub Body : Type 0
Body = List Piece

-- the types that a client writes itself, those whose values depend on the transaction ID, and
-- ERROR-CODE, which no request has
abbrev pub RESERVED : List ℕ
RESERVED =
    0x0006 ∷ 0x0008 ∷ 0x0012 ∷ 0x0014 ∷ 0x0015 ∷ 0x0016 ∷ 0x001C ∷ 0x001D ∷ 0x001E ∷ 0x0020
    ∷ 0x8002 ∷ 0x8022 ∷ 0x8028 ∷ 0x0009 ∷ []

abbrev pub is_reserved : ℕ → Bool
is_reserved kind = list_any (λ other. other == kind) RESERVED

-- the largest number of bytes of a body
abbrev pub BODY_LIMIT : ℕ
BODY_LIMIT = 60000

-- how many bytes an attribute of a body takes at most
abbrev pub piece_length : Piece → ℕ
piece_length (with_value attribute) = attribute_length (length attribute.value)
piece_length (of_peer address) = attribute_length 20

abbrev pub body_length : Body → ℕ
body_length body = sum_by piece_length body

-- whether one more attribute fits, whose value has n bytes
abbrev pub fits : Body → ℕ → Bool
fits body n = nat_le (body_length body + attribute_length n) BODY_LIMIT

-- why an attribute is not added: the first reason that applies
abbrev pub body_size_refusal : Body → ℕ → Option BodyError
body_size_refusal body n = if fits body n then None else Some TooLarge

abbrev pub body_refusal : Body → ℕ → ℕ → Option BodyError
body_refusal body kind n = if is_reserved kind then Some NotAllowed else body_size_refusal body n

-- the attribute of a message with this transaction ID
abbrev pub attribute_for : ℕ → Piece → TypedValue
attribute_for id (with_value attribute) = attribute
attribute_for id (of_peer address) = record {
  kind = XOR_PEER_ADDRESS;
  value = xored_value (xored_address (socket_ip address) (socket_port address) id);
}
