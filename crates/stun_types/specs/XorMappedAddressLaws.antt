-- An XORed address that is written is read again.
use Rattle.std.specs.Prelude.{◌≡◌, ℕ, ◌/◌, ◌%◌, ◌^◌, ◌<◌, ◌⊎◌, List, ◌∷◌, length, true, Some}
use Rattle.std.proofs.Common.{arith, rules, refl, inl, inr}
use Rattle.byteorder.specs.Endian.{big_number}
use Rattle.stun_base.specs.Attributes.{XOR_MAPPED_ADDRESS}
use Rattle.stun_types.specs.XorMappedAddress.{IsXored, XoredAddress, has_octets}
use Rattle.stun_types.specs.XorMappedAddress.{xored_of, xored_value}

-- a port is read from its two bytes
port-reads_back : (port : ℕ) (rest : List ℕ) → port < 2 ^ 16
    → big_number 2 ((port / 256 % 256) ∷ (port % 256) ∷ rest) ≡ port
port-reads_back port rest fits = omega arith

-- an address of either family has as many octets as the family
has_octets-holds : (family count : ℕ) → ((family ≡ 1) × (count ≡ 4)) ⊎ ((family ≡ 2) × (count ≡ 16))
    → has_octets family count ≡ true
has_octets-holds family count (inl ipv4) = rw (ipv4.0, ipv4.1) refl
has_octets-holds family count (inr ipv6) = rw (ipv6.0, ipv6.1) refl

-- an address that is written is read again
pub xored_of-written : (address : XoredAddress) → IsXored address
    → xored_of (record { kind = XOR_MAPPED_ADDRESS; value = xored_value address }) ≡ Some address
xored_of-written address fits =
    rw (
      has_octets-holds address.family (length address.octets) fits.1,
      port-reads_back address.port address.octets fits.0,
    ) (search rules)
