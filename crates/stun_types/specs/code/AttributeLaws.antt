-- How many octets an address has.
use Rattle.std.specs.Prelude.{◌≡◌, length}
use Rattle.std.specs.Net.Addr.{MatchIp, ipv4_octets, ipv6_octets}
use Rattle.std.specs.declared.net.ip_addr.IpAddr.{IpAddr}

-- an address has as many octets as its family
abbrev pub HasOctets : IpAddr → Type 0
HasOctets ip =
    MatchIp ip (λ ipv4. length (ipv4_octets ipv4) ≡ 4) (λ ipv6. length (ipv6_octets ipv6) ≡ 16)
