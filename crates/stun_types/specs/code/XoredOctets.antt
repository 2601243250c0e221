-- The octets of an address, XORed with the key.
use Rattle.std.specs.Prelude.{◌≡◌, ◌==◌, ℕ, List, length, if◌then◌else◌}
use Rattle.std.proofs.Common.{refl}
use Rattle.stun_types.specs.declared.attribute.xor_mapped_address.XoredOctets.{XoredOctets}
use Rattle.stun_types.specs.declared.attribute.xor_mapped_address.XoredOctets.TheVariants.{V4, V6}

-- 1 for IPv4 and 2 for IPv6
abbrev pub family_of_octets : XoredOctets → ℕ
family_of_octets (V4 octets) = 1
family_of_octets (V6 octets) = 2

-- the octets, of either family
abbrev pub octets_of : XoredOctets → List ℕ
octets_of (V4 octets) = octets
octets_of (V6 octets) = octets

-- as many octets as the family has
abbrev pub HasOctetsOfFamily : XoredOctets → Type 0
HasOctetsOfFamily (V4 octets) = length octets ≡ 4
HasOctetsOfFamily (V6 octets) = length octets ≡ 16

-- the octets of an address of this family
abbrev pub with_family : ℕ → List ℕ → XoredOctets
with_family family octets = if family == 1 then V4 octets else V6 octets

-- an address consists of its family and its octets
pub with_family-of : (xored : XoredOctets)
    → with_family (family_of_octets xored) (octets_of xored) ≡ xored
with_family-of (V4 octets) = refl
with_family-of (V6 octets) = refl
