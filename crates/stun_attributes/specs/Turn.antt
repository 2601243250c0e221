-- The values of TURN's attributes (RFC 8656, section 18), byte by byte, besides those that
-- `stun_extra` has. Reserved bits are zero when written, and ignored when read. Values that are one
-- number, empty or any bytes are read as `Values` says.
use Rattle.std.specs.Prelude.{◌≡◌, ℕ, Bool, true, false, List, [], ◌∷◌, length, slice_index}
use Rattle.std.specs.Prelude.{Option, Some, None, nat_le, ◌==◌, ◌&&◌, if◌then◌else◌}
use Rattle.std.proofs.Common.{rules, refl}
use Rattle.stun_types.specs.Attribute.{TypedValue}
use Rattle.stun_attributes.specs.AttributeTypes.{EVEN_PORT}
use Rattle.stun_attributes.specs.declared.address_family.AddressFamily.{AddressFamily}
use Rattle.stun_attributes.specs.declared.address_family.AddressFamily.TheVariants.{Ipv4, Ipv6}

-- REQUESTED-ADDRESS-FAMILY and ADDITIONAL-ADDRESS-FAMILY (sections 18.6 and 18.11): the number of
-- the family, and three reserved bytes
abbrev pub family_number : AddressFamily → ℕ
family_number Ipv4 = 0x01
family_number Ipv6 = 0x02

-- the family with a number, if there is one
abbrev pub numbered_family : ℕ → Option AddressFamily
numbered_family number =
    if number == 0x01 then Some Ipv4 else (if number == 0x02 then Some Ipv6 else None)

abbrev pub family_value : AddressFamily → List ℕ
family_value family = family_number family ∷ 0 ∷ 0 ∷ 0 ∷ []

-- the family in an attribute of this type
abbrev pub family_of : ℕ → TypedValue → Option AddressFamily
family_of kind attribute =
    if attribute.kind == kind && (length attribute.value == 4)
    then numbered_family (slice_index attribute.value 0) else None

-- EVEN-PORT (section 18.7): the highest bit asks for the next port too, and seven bits are reserved
abbrev pub even_port_value : Bool → List ℕ
even_port_value requested = (if requested then 0x80 else 0) ∷ []

-- that bit of an attribute of this type
abbrev pub even_port_of : TypedValue → Option Bool
even_port_of attribute =
    if attribute.kind == EVEN_PORT && (length attribute.value == 1)
    then Some (nat_le 0x80 (slice_index attribute.value 0)) else None

-- ---- what is written is read again

pub family_of-written : (kind : ℕ) (family : AddressFamily) → Unit {0}
    → family_of kind (record { kind = kind; value = family_value family }) ≡ Some family
family_of-written kind Ipv4 holds = search rules
family_of-written kind Ipv6 holds = search rules

pub even_port_of-written : (requested : Bool) → Unit {0}
    → even_port_of (record { kind = EVEN_PORT; value = even_port_value requested }) ≡ Some requested
even_port_of-written true holds = refl
even_port_of-written false holds = refl
