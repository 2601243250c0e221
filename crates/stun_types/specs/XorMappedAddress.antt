-- XOR-MAPPED-ADDRESS (RFC 8489, section 14.2). Its value consists of a reserved byte, the family,
-- and the port and the octets of an address. The port and the octets are XORed with the magic
-- cookie, and octets of IPv6 also with the transaction ID. The reserved byte is zero when written,
-- and ignored when read.
use Rattle.std.specs.Prelude.{◌≡◌, ℕ, ◌<◌, ◌^◌, ◌⊎◌, Bool, List, [], ◌∷◌, ◌++◌}
use Rattle.std.specs.Prelude.{length, drop, slice_index, bit_xor, nat_le, ◌==◌}
use Rattle.std.specs.Prelude.{◌&&◌, ◌||◌, if◌then◌else◌, Option, Some, None}
use Rattle.std.specs.Net.Addr.{ipv4_octets, ipv6_octets, ipv6_segments, segments_of}
use Rattle.std.specs.declared.net.ip_addr.IpAddr.{IpAddr}
use Rattle.std.specs.declared.net.ip_addr.IpAddr.TheVariants.{V4, V6}
use Rattle.byteorder.specs.Endian.{big_bytes, big_number}
use Rattle.stun_base.specs.Attributes.{XOR_MAPPED_ADDRESS}
use Rattle.stun_base.specs.Header.{MAGIC_COOKIE}
use Rattle.stun_types.specs.Attribute.{TypedValue}

-- an address of a message: its family, and its port and octets XORed with the key
pub record XoredAddress : Type 0 where
  pub family : ℕ
  pub port : ℕ
  pub octets : List ℕ

-- a port, XORed with the first half of the magic cookie
abbrev pub xor_port : ℕ → ℕ
xor_port port = bit_xor port 0x2112

-- the key: the magic cookie, then the transaction ID
abbrev pub xor_key : ℕ → List ℕ
xor_key id = big_bytes 4 MAGIC_COOKIE ++ big_bytes 12 id

-- each byte XORed with the byte of the key at its index
abbrev pub xor_bytes : List ℕ → List ℕ → List ℕ
xor_bytes [] key = []
xor_bytes (x ∷ xs) [] = []
xor_bytes (x ∷ xs) (k ∷ ks) = bit_xor x k ∷ xor_bytes xs ks

-- an address and a port, XORed
abbrev pub xored_address : IpAddr → ℕ → ℕ → XoredAddress
xored_address (V4 ip) port id =
    record { family = 1; port = xor_port port; octets = xor_bytes (ipv4_octets ip) (xor_key id) }
xored_address (V6 ip) port id =
    record { family = 2; port = xor_port port; octets = xor_bytes (ipv6_octets ip) (xor_key id) }

-- an XORed address is this address, XORed with the key of an ID
abbrev pub IsHidden : ℕ → XoredAddress → IpAddr → Type 0
IsHidden id hidden (V4 ip) =
    (hidden.family ≡ 1) × (ipv4_octets ip ≡ xor_bytes hidden.octets (xor_key id))
IsHidden id hidden (V6 ip) =
    (hidden.family ≡ 2) × (ipv6_segments ip ≡ segments_of (xor_bytes hidden.octets (xor_key id)))

-- the number of bytes before the octets: a zero byte, the family and the port
abbrev pub FAMILY_AND_PORT_LENGTH : ℕ
FAMILY_AND_PORT_LENGTH = 4

-- the value: a zero, the family, the port, the octets
abbrev pub xored_value : XoredAddress → List ℕ
xored_value address = 0 ∷ address.family ∷ big_bytes 2 address.port ++ address.octets

-- the port has 16 bits, and there are as many octets as an address of the family has
abbrev pub IsXored : XoredAddress → Type 0
IsXored address =
    (address.port < 2 ^ 16)
    × (((address.family ≡ 1) × (length address.octets ≡ 4))
    ⊎ ((address.family ≡ 2) × (length address.octets ≡ 16)))

-- whether an address of a family has this many octets: 4 of family 1 (IPv4), 16 of family 2 (IPv6)
abbrev pub has_octets : ℕ → ℕ → Bool
has_octets family count = (family == 1 && (count == 4)) || (family == 2 && (count == 16))

-- the address in an attribute of this type, if it is well formed
abbrev pub xored_of : TypedValue → Option XoredAddress
xored_of attribute =
    if attribute.kind == XOR_MAPPED_ADDRESS
    && nat_le FAMILY_AND_PORT_LENGTH (length attribute.value)
    && has_octets (slice_index attribute.value 1)
    (length (drop FAMILY_AND_PORT_LENGTH attribute.value))
    then Some (record {
      family = slice_index attribute.value 1;
      port = big_number 2 (drop 2 attribute.value);
      octets = drop FAMILY_AND_PORT_LENGTH attribute.value;
    })
    else None
