-- Socket addresses. The two spellings of an IPv4 address count as the same address (RFC 4291,
-- section 2.5.5.2).
use Rattle.std.specs.Prelude.{◌≡◌, ℕ, List, [], ◌∷◌, ◌++◌, Bool, ◌&&◌, ◌==◌, take}
use Rattle.std.specs.Prelude.{if◌then◌else◌}
use Rattle.std.specs.Net.Addr.{IsIpv4Mapped, MatchIp, ipv4_octets, ipv6_octets, ipv6_segments}
use Rattle.std.specs.Net.Addr.{low_octets}
use Rattle.std.specs.Net.Socket.{socket_ip, socket_port}
use Rattle.std.specs.Str.{bytes_eq}
use Rattle.std.specs.declared.net.ip_addr.IpAddr.{IpAddr}
use Rattle.std.specs.declared.net.ipv6_addr.Ipv6Addr.{Ipv6Addr}
use Rattle.std.specs.declared.net.ip_addr.IpAddr.TheVariants.{V4, V6}
use Rattle.std.specs.declared.net.socket_addr.SocketAddr.{SocketAddr}
use Rattle.stun_base.specs.Attributes.{XOR_MAPPED_ADDRESS}
use Rattle.stun_base.specs.Header.{transaction_id_field}
use Rattle.stun_types.specs.Attribute.{TypedValue}
use Rattle.stun_types.specs.XorMappedAddress.{XoredAddress, xor_bytes, xor_key, xor_port}
use Rattle.stun_types.specs.XorMappedAddress.{xored_value}

-- the sixteen octets of an address. An IPv4 address has the octets of the IPv6 address
-- ::ffff:a.b.c.d
abbrev pub address_octets : IpAddr → List ℕ
address_octets (V4 ip) =
    0 ∷ 0 ∷ 0 ∷ 0 ∷ 0 ∷ 0 ∷ 0 ∷ 0 ∷ 0 ∷ 0 ∷ 255 ∷ 255 ∷ [] ++ ipv4_octets ip
address_octets (V6 ip) = ipv6_octets ip

-- whether two addresses have the same port and octets
abbrev pub is_same_address : SocketAddr → SocketAddr → Bool
is_same_address one other =
    (socket_port one == socket_port other)
    && bytes_eq (address_octets (socket_ip one)) (address_octets (socket_ip other))

-- the IPv4 address inside an IPv6 address, or the address itself
abbrev pub IsUnmapped : SocketAddr → SocketAddr → Ipv6Addr → Type 0
IsUnmapped given canonical a =
    MatchIp (socket_ip canonical)
    (λ ip. IsIpv4Mapped (ipv6_segments a) × (ipv4_octets ip ≡ low_octets a))
    (λ ip. ¬ (IsIpv4Mapped (ipv6_segments a)) × (canonical ≡ given))

-- An address in the spelling of its family. It has the same port. An IPv4 address that is spelled
-- as IPv6 becomes IPv4; any other address is unchanged, with its scope
pub record IsCanonical (given canonical : SocketAddr) : Type 0 where
  pub port : socket_port canonical ≡ socket_port given
  pub ip : MatchIp (socket_ip given) (λ ip. canonical ≡ given) (IsUnmapped given canonical)

-- whether segments are those of ::ffff:a.b.c.d
abbrev pub is_mapped : List ℕ → Bool
is_mapped segments = bytes_eq (take 6 segments) (0 ∷ 0 ∷ 0 ∷ 0 ∷ 0 ∷ 0xffff ∷ [])

-- an address as it is in XOR-MAPPED-ADDRESS: an IPv4 address in either spelling is IPv4
abbrev pub xored_canonical : IpAddr → ℕ → ℕ → XoredAddress
xored_canonical (V4 ip) port id =
    record { family = 1; port = xor_port port; octets = xor_bytes (ipv4_octets ip) (xor_key id) }
xored_canonical (V6 ip) port id =
    if is_mapped (ipv6_segments ip)
    then
    record { family = 1; port = xor_port port; octets = xor_bytes (low_octets ip) (xor_key id) }
    else
    record { family = 2; port = xor_port port; octets = xor_bytes (ipv6_octets ip) (xor_key id) }

-- XOR-MAPPED-ADDRESS with the address that a request came from (RFC 8489, section 14.2)
abbrev pub mapped_address : SocketAddr → List ℕ → TypedValue
mapped_address from request = record {
  kind = XOR_MAPPED_ADDRESS;
  value = xored_value (xored_canonical (socket_ip from) (socket_port from)
      (transaction_id_field request));
}
