-- The order of socket addresses, as `SocketAddr` derives it.
use Rattle.std.specs.Prelude.{Bool}
use Rattle.std.specs.declared.cmp.Ordering.{Ordering}
use Rattle.std.specs.declared.cmp.Ordering.TheVariants.{Less, Greater}
use Rattle.std.specs.Ordering.{nat_cmp, ordering_then, eq_by_cmp}
use Rattle.std.specs.Cmp.Lexicographic.{slice_cmp}
use Rattle.std.specs.declared.net.socket_addr.SocketAddrV4.{SocketAddrV4}
use Rattle.std.specs.declared.net.socket_addr.SocketAddrV6.{SocketAddrV6}
use Rattle.std.specs.declared.net.socket_addr.SocketAddr.{SocketAddr}
use Rattle.std.specs.declared.net.socket_addr.SocketAddr.TheVariants.{V4, V6}

-- the order by address, and then by port
abbrev pub v4_cmp : SocketAddrV4 → SocketAddrV4 → Ordering
v4_cmp a b = ordering_then (slice_cmp nat_cmp a.ip.octets b.ip.octets) (nat_cmp a.port b.port)

-- the order by address, port, flow information and scope
abbrev pub v6_cmp : SocketAddrV6 → SocketAddrV6 → Ordering
v6_cmp a b =
    ordering_then (slice_cmp nat_cmp a.ip.segments b.ip.segments)
    (ordering_then (nat_cmp a.port b.port)
    (ordering_then (nat_cmp a.flowinfo b.flowinfo) (nat_cmp a.scope_id b.scope_id)))

-- IPv4 before IPv6
abbrev pub address_cmp : SocketAddr → SocketAddr → Ordering
address_cmp (V4 a) (V4 b) = v4_cmp a b
address_cmp (V4 a) (V6 b) = Less
address_cmp (V6 a) (V4 b) = Greater
address_cmp (V6 a) (V6 b) = v6_cmp a b

-- whether two addresses are the same
abbrev pub same_address : SocketAddr → SocketAddr → Bool
same_address a b = eq_by_cmp address_cmp a b
