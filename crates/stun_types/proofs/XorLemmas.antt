-- Bytes xor a key, step by step and twice, and the address that is hidden and shown again.
use Rattle.std.proofs.Common.{◌≡◌, ℕ, zero, suc, ◌+◌, ◌*◌, ◌/◌, ◌%◌, ◌<◌, ◌≤◌, List, [], ◌∷◌}
use Rattle.std.proofs.Common.{◌++◌, length, take, get_or, bit_xor, refl, ap, ◌∙◌, arith, add-one}
use Rattle.std.specs.Int.Bits.{xor_assoc, xor_self, xor_zero_r}
use Rattle.std.specs.Net.Addr.{ipv4_octets, ipv6_octets, ipv6_segments, octets_of, segments_of}
use Rattle.std.specs.declared.net.ip_addr.IpAddr.{IpAddr}
use Rattle.std.specs.declared.net.ip_addr.IpAddr.TheVariants.{V4, V6}
use Rattle.std.specs.declared.net.ipv4_addr.Ipv4Addr.{Ipv4Addr}
use Rattle.std.specs.declared.net.ipv6_addr.Ipv6Addr.{Ipv6Addr}
use Rattle.stun_types.specs.code.AttributeLaws.{HasOctets}
use Rattle.stun_types.specs.XorMappedAddress.{IsHidden, xor_bytes, xor_key, xored_address}

-- one byte more, at a successor
xor_bytes-suc : (xs ks : List ℕ) (i : ℕ) → i < length xs → i < length ks
    → xor_bytes (take (suc i) xs) ks
    ≡ xor_bytes (take i xs) ks ++ bit_xor (get_or xs i 0) (get_or ks i 0) ∷ []
xor_bytes-suc [] ks i within keyed = absurd (omega arith)
xor_bytes-suc (x ∷ xs) [] i within keyed = absurd (omega arith)
xor_bytes-suc (x ∷ xs) (k ∷ ks) zero within keyed = refl
xor_bytes-suc (x ∷ xs) (k ∷ ks) (suc i) within keyed =
    ap (λ rest. bit_xor x k ∷ rest) (xor_bytes-suc xs ks i (omega arith) (omega arith))

-- one byte more
pub xor_bytes-more : (xs ks : List ℕ) (i : ℕ) → i < length xs → i < length ks
    → xor_bytes (take (i + 1) xs) ks
    ≡ xor_bytes (take i xs) ks ++ bit_xor (get_or xs i 0) (get_or ks i 0) ∷ []
xor_bytes-more xs ks i within keyed = rw (add-one i) (xor_bytes-suc xs ks i within keyed)

-- what is hidden twice is as it was
pub xor_bytes-twice : (xs ks : List ℕ) → length xs ≤ length ks → xor_bytes (xor_bytes xs ks) ks ≡ xs
xor_bytes-twice [] ks long = refl
xor_bytes-twice (x ∷ xs) [] long = absurd (omega arith)
xor_bytes-twice (x ∷ xs) (k ∷ ks) long =
    let first : bit_xor (bit_xor x k) k ≡ x = xor_assoc x k k ∙ ap (λ n. bit_xor x n) (xor_self k)
    ∙ xor_zero_r x in
    rw (first, xor_bytes-twice xs ks (omega arith))

-- segments are those of their octets
pub segments_of-octets_of : (segments : List ℕ) → segments_of (octets_of segments) ≡ segments
segments_of-octets_of [] = refl
segments_of-octets_of (s ∷ segments) =
    let first : s / 256 * 256 + s % 256 ≡ s = omega arith in
    rw (first, segments_of-octets_of segments)

-- addresses of the same octets or segments are equal
same_ipv4 : (one other : Ipv4Addr) → ipv4_octets one ≡ ipv4_octets other → one ≡ other
same_ipv4 one other octets = λ i. record { octets = octets i }

same_ipv6 : (one other : Ipv6Addr) → ipv6_segments one ≡ ipv6_segments other → one ≡ other
same_ipv6 one other segments = λ i. record { segments = segments i }

-- the address that is hidden under the id under which it was hidden
pub hidden_ip : (ip other : IpAddr) (port id : ℕ) → HasOctets ip
    → IsHidden id (xored_address ip port id) other → other ≡ ip
hidden_ip (V4 ip) (V4 other) port id whole hidden =
    let octets : ipv4_octets other ≡ ipv4_octets ip =
    hidden.1 ∙ xor_bytes-twice (ipv4_octets ip) (xor_key id) (omega (arith, whole)) in
    ap V4 (same_ipv4 other ip octets)
hidden_ip (V4 ip) (V6 other) port id whole hidden = absurd (omega (arith, hidden.0))
hidden_ip (V6 ip) (V4 other) port id whole hidden = absurd (omega (arith, hidden.0))
hidden_ip (V6 ip) (V6 other) port id whole hidden =
    let count : length (ipv6_octets ip) ≤ length (xor_key id) = omega (arith, whole) in
    let segments : ipv6_segments other ≡ ipv6_segments ip =
    hidden.1
    ∙ ap segments_of (xor_bytes-twice (ipv6_octets ip) (xor_key id) count)
    ∙ segments_of-octets_of (ipv6_segments ip) in
    ap V6 (same_ipv6 other ip segments)
