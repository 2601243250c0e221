-- How a piece of a body is stored.
use Rattle.std.specs.Prelude.{ℕ, List, Option, Some, None}
use Rattle.std.specs.declared.net.socket_addr.SocketAddr.{SocketAddr}
use Rattle.stun_client_endpoint.specs.Bodies.{Piece, of_peer, with_value}

-- an attribute with its type and its value, unless there is an address
abbrev pub piece_of : ℕ → List ℕ → Option SocketAddr → Piece
piece_of kind value None = with_value (record { kind = kind; value = value })
piece_of kind value (Some address) = of_peer address
