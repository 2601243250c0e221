-- Addresses that are not XORed, as in MAPPED-ADDRESS (RFC 8489, section 14.1): a reserved byte,
-- zero when written and ignored when read, the family, the port and the octets of an address.
use Rattle.std.specs.Prelude.{◌≡◌, ◌<◌, ◌^◌, ℕ, List, ◌∷◌, ◌++◌, length, drop, slice_index}
use Rattle.std.specs.Prelude.{Option, Some, None, nat_le, ◌==◌, ◌&&◌, if◌then◌else◌}
use Rattle.std.proofs.Common.{arith, rules, refl, ◌/◌, ◌%◌, ap}
use Rattle.std.specs.Net.Addr.{MatchIp, ipv4_octets, ipv6_octets, ipv6_segments, segments_of}
use Rattle.std.specs.declared.net.ip_addr.IpAddr.{IpAddr}
use Rattle.std.specs.declared.net.ip_addr.IpAddr.TheVariants.{V4, V6}
use Rattle.byteorder.specs.Endian.{big_bytes, big_number}
use Rattle.stun_types.specs.Attribute.{TypedValue}
use Rattle.stun_types.proofs.XorLemmas.{segments_of-octets_of}
use Rattle.stun_attributes.specs.declared.address.Address.{Address}

-- 1 for IPv4 and 2 for IPv6
abbrev pub family_of_ip : IpAddr → ℕ
family_of_ip (V4 ip) = 0x01
family_of_ip (V6 ip) = 0x02

-- the octets of an address, 4 or 16
abbrev pub octets_of_ip : IpAddr → List ℕ
octets_of_ip (V4 ip) = ipv4_octets ip
octets_of_ip (V6 ip) = ipv6_octets ip

-- the value: a zero, the family, the port, the octets
abbrev pub address_value : Address → List ℕ
address_value address =
    0 ∷ family_of_ip address.ip ∷ big_bytes 2 address.port ++ octets_of_ip address.ip

-- the address of a family with these octets, if they are as many as it has
abbrev pub ip_of : ℕ → List ℕ → Option IpAddr
ip_of family octets =
    if family == 0x01 && (length octets == 4) then Some (V4 (record { octets = octets }))
    else (if family == 0x02 && (length octets == 16)
    then Some (V6 (record { segments = segments_of octets })) else None)

-- the address with a port, if there is an address
abbrev pub with_port : ℕ → Option IpAddr → Option Address
with_port port (Some ip) = Some (record { ip = ip; port = port })
with_port port None = None

-- the address in an attribute of this type, if it is well formed
abbrev pub address_of : ℕ → TypedValue → Option Address
address_of kind attribute =
    if attribute.kind == kind && nat_le 4 (length attribute.value)
    then with_port (big_number 2 (drop 2 attribute.value))
    (ip_of (slice_index attribute.value 1) (drop 4 attribute.value))
    else None

-- a port of 16 bits, and as many octets as the family has
abbrev pub IsAddress : Address → Type 0
IsAddress address =
    (address.port < 2 ^ 16)
    × MatchIp address.ip (λ ip. length (ipv4_octets ip) ≡ 4) (λ ip. length (ipv6_octets ip) ≡ 16)

-- a port is read from its two bytes
port-written : (port : ℕ) (rest : List ℕ) → port < 2 ^ 16
    → big_number 2 ((port / 256 % 256) ∷ (port % 256) ∷ rest) ≡ port
port-written port rest fits = omega arith

-- the octets of an address are read again
ip_of-written : (ip : IpAddr)
    → MatchIp ip (λ ip. length (ipv4_octets ip) ≡ 4) (λ ip. length (ipv6_octets ip) ≡ 16)
    → ip_of (family_of_ip ip) (octets_of_ip ip) ≡ Some ip
ip_of-written (V4 ip) whole = rw whole refl
ip_of-written (V6 ip) whole =
    rw whole
    (ap (λ segments. Some (V6 (record { segments = segments })))
    (segments_of-octets_of (ipv6_segments ip)))

-- an address that is written is read again
pub address_of-written : (kind : ℕ) (address : Address) → IsAddress address
    → address_of kind (record { kind = kind; value = address_value address }) ≡ Some address
address_of-written kind address fits =
    let port = port-written address.port (octets_of_ip address.ip) fits.0 in
    let ip = ip_of-written address.ip fits.1 in
    rw (port, ip) (search rules)
