-- The addresses that an agent has validated: a set, as its addresses in ascending order.
use Rattle.std.specs.Prelude.{Bool, not, List}
use Rattle.std.specs.List.{filter, list_any}
use Rattle.std.specs.declared.net.socket_addr.SocketAddr.{SocketAddr}
use Rattle.std.specs.BTreeSet.{insert_key}
use Rattle.stun_base.specs.Address.{address_cmp, same_address}

abbrev pub Peers : Type 0
Peers = List SocketAddr

-- whether an address is among them
abbrev pub is_peer : SocketAddr → Peers → Bool
is_peer address peers = list_any (same_address address) peers

-- the addresses with another one, in its position, unless they have it already
abbrev pub with_peer : SocketAddr → Peers → Peers
with_peer address peers = insert_key address_cmp peers address

-- the addresses without this one
abbrev pub without_peer : SocketAddr → Peers → Peers
without_peer address peers = filter (λ peer. not (same_address address peer)) peers
