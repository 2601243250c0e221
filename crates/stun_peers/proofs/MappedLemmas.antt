-- The address in the answer to a check is the one that the check came from.
use Rattle.std.proofs.Common.{◌≡◌, ◌≤◌, ◌<◌, ◌^◌, ◌*◌, ◌-◌, ℕ, Bool, true, false, List, [], ◌∷◌}
use Rattle.std.proofs.Common.{◌++◌, length, take, drop, inl, inr, refl, sym, ◌∙◌, ap, arith}
use Rattle.std.proofs.Common.{length-drop}
use Rattle.std.specs.Prelude.{bit_xor, ◌&&◌, if◌then◌else◌}
use Rattle.std.specs.Net.Addr.{ipv4_octets, ipv6_octets, ipv6_segments, low_octets, octets_of}
use Rattle.std.specs.Net.Socket.{IsSocketAddr, socket_ip, socket_port}
use Rattle.std.specs.declared.net.ip_addr.IpAddr.TheVariants as Ip
use Rattle.std.specs.declared.net.ipv6_addr.Ipv6Addr.{Ipv6Addr}
use Rattle.std.specs.declared.net.socket_addr.SocketAddr.{SocketAddr}
use Rattle.std.specs.declared.net.socket_addr.SocketAddr.TheVariants.{V4, V6}
use Rattle.std.specs.declared.net.socket_addr.SocketAddrV6.{SocketAddrV6}
use Rattle.std.specs.Int.Bits.{xor_assoc, xor_self, xor_zero_r}
use Rattle.std.proofs.lemmas.Bool.{eq-eqb}
use Rattle.std.proofs.lemmas.List.{take-append-drop}
use Rattle.std.proofs.lemmas.Slice.Eq.{bytes_eq-Decides}
use Rattle.stun_types.specs.XorMappedAddress.{IsHidden, IsXored, XoredAddress, xor_bytes, xor_key}
use Rattle.stun_types.specs.XorMappedAddress.{xor_port}
use Rattle.stun_types.proofs.XorLemmas.{hidden_ip}
use Rattle.stun_extra.specs.CanonicalAddress.{address_octets, is_mapped, is_same_address}
use Rattle.stun_extra.specs.CanonicalAddress.{xored_canonical}
use lib.Bits.{xor_lt}

length-xor_bytes : (xs ks : List ℕ) → length xs ≤ length ks → length (xor_bytes xs ks) ≡ length xs
length-xor_bytes [] ks long = refl
length-xor_bytes (x ∷ xs) [] long = absurd (omega (arith, long))
length-xor_bytes (x ∷ xs) (k ∷ ks) long =
    let rest = length-xor_bytes xs ks (omega (arith, long)) in omega (arith, rest)

length-octets_of : (segments : List ℕ) → length (octets_of segments) ≡ 2 * length segments
length-octets_of [] = refl
length-octets_of (s ∷ segments) =
    let rest = length-octets_of segments in omega (arith, rest)

-- octets that are as many as those of a family
four : (port id : ℕ) (octets : List ℕ) → port < 2 ^ 16 → length octets ≡ 4
    → IsXored (record { family = 1; port = xor_port port; octets = xor_bytes octets (xor_key id) })
four port id octets fits count = (
  xor_lt 16 port 0x2112 fits (omega arith),
  inl (refl, length-xor_bytes octets (xor_key id) (omega (arith, count)) ∙ count),
)

sixteen : (port id : ℕ) (octets : List ℕ) → port < 2 ^ 16 → length octets ≡ 16
    → IsXored (record { family = 2; port = xor_port port; octets = xor_bytes octets (xor_key id) })
sixteen port id octets fits count = (
  xor_lt 16 port 0x2112 fits (omega arith),
  inr (refl, length-xor_bytes octets (xor_key id) (omega (arith, count)) ∙ count),
)

either : (b : Bool) (one other : XoredAddress) → IsXored one → IsXored other
    → IsXored (if b then one else other)
either true one other first second = first
either false one other first second = second

-- an address of the network can be said
pub xored : (from : SocketAddr) (id : ℕ) → IsSocketAddr from
    → IsXored (xored_canonical (socket_ip from) (socket_port from) id)
xored (V4 a) id is = four a.port id (ipv4_octets a.ip) is.1 is.0.0
xored (V6 a) id is =
    let segments = ipv6_segments a.ip in
    let all = length-octets_of segments in
    let last = length-octets_of (drop 6 segments) in
    let two = length-drop 6 segments in
    either (is_mapped segments)
    (record {
      family = 1;
      port = xor_port a.port;
      octets = xor_bytes (low_octets a.ip) (xor_key id);
    })
    (record {
      family = 2;
      port = xor_port a.port;
      octets = xor_bytes (ipv6_octets a.ip) (xor_key id);
    }) (four a.port id (low_octets a.ip) is.1 (omega (arith, last, two, is.0.0)))
    (sixteen a.port id (ipv6_octets a.ip) is.1 (omega (arith, all, is.0.0)))

-- ---- and it is read again

port_again : (n : ℕ) → xor_port (xor_port n) ≡ n
port_again n = xor_assoc n 0x2112 0x2112
    ∙ (ap (λ (k : ℕ). bit_xor n k) (xor_self 0x2112) ∙ xor_zero_r n)

same_address : (one other : SocketAddr) → socket_port one ≡ socket_port other
    → address_octets (socket_ip one) ≡ address_octets (socket_ip other)
    → is_same_address one other ≡ true
same_address one other port octets =
    let ports = eq-eqb (socket_port one) (socket_port other) port in
    let texts =
    (bytes_eq-Decides (address_octets (socket_ip one)) (address_octets (socket_ip other))).1
    octets in
    λ i. ports i && texts i

-- an IPv4 address that is spelled as IPv6
spelled : (ip : Ipv6Addr) → is_mapped (ipv6_segments ip) ≡ true
    → 0 ∷ 0 ∷ 0 ∷ 0 ∷ 0 ∷ 0 ∷ 0 ∷ 0 ∷ 0 ∷ 0 ∷ 255 ∷ 255 ∷ [] ++ low_octets ip ≡ ipv6_octets ip
spelled ip is =
    let segments = ipv6_segments ip in
    let begins : take 6 segments ≡ 0 ∷ 0 ∷ 0 ∷ 0 ∷ 0 ∷ 0xffff ∷ [] =
    (bytes_eq-Decides (take 6 segments) (0 ∷ 0 ∷ 0 ∷ 0 ∷ 0 ∷ 0xffff ∷ [])).0 is in
    sym (ap (λ (front : List ℕ). octets_of (front ++ drop 6 segments)) begins)
    ∙ ap octets_of (take-append-drop 6 segments)

back_of : (a : SocketAddrV6) (address : SocketAddr) (id : ℕ) (b : Bool) → IsSocketAddr (V6 a)
    → is_mapped (ipv6_segments a.ip) ≡ b
    → let said : XoredAddress = if b
    then
    record {
      family = 1;
      port = xor_port a.port;
      octets = xor_bytes (low_octets a.ip) (xor_key id);
    }
    else
    record {
      family = 2;
      port = xor_port a.port;
      octets = xor_bytes (ipv6_octets a.ip) (xor_key id);
    } in
    IsHidden id said (socket_ip address) → socket_port address ≡ xor_port said.port
    → is_same_address address (V6 a) ≡ true
back_of a address id true is mapped hidden port =
    let segments = ipv6_segments a.ip in
    let four : length (low_octets a.ip) ≡ 4 =
    omega (arith, length-octets_of (drop 6 segments), length-drop 6 segments, is.0.0) in
    let ip =
    hidden_ip (Ip.V4 (record { octets = low_octets a.ip })) (socket_ip address) a.port id four
    hidden in
    same_address address (V6 a) (port ∙ port_again a.port)
    (ap address_octets ip ∙ spelled a.ip mapped)
back_of a address id false is mapped hidden port =
    let sixteen : length (ipv6_octets a.ip) ≡ 16 =
    omega (arith, length-octets_of (ipv6_segments a.ip), is.0.0) in
    let ip = hidden_ip (Ip.V6 a.ip) (socket_ip address) a.port id sixteen hidden in
    same_address address (V6 a) (port ∙ port_again a.port) (ap address_octets ip)

pub mapped_back : (from address : SocketAddr) (id : ℕ) → IsSocketAddr from
    → let said = xored_canonical (socket_ip from) (socket_port from) id in
    IsHidden id said (socket_ip address) → socket_port address ≡ xor_port said.port
    → is_same_address address from ≡ true
mapped_back (V4 a) address id is hidden port =
    let ip = hidden_ip (Ip.V4 a.ip) (socket_ip address) a.port id is.0.0 hidden in
    same_address address (V4 a) (port ∙ port_again a.port) (ap address_octets ip)
mapped_back (V6 a) address id is hidden port =
    back_of a address id (is_mapped (ipv6_segments a.ip)) is refl hidden port
