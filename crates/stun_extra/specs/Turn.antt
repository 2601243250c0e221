-- The values of TURN's attributes (RFC 8656, section 18), byte by byte. Reserved bits are zero when
-- written, and ignored when read. Values that consist only of a number or of bytes, and empty
-- values, are read as `Values` says.
use Rattle.std.specs.Prelude.{◌≡◌, ◌≤◌, ◌<◌, ◌^◌, ℕ, Bool, List, [], ◌∷◌, ◌++◌, length}
use Rattle.std.specs.Prelude.{slice_index, Option, Some, None, nat_le, nat_lt, ◌==◌, ◌&&◌}
use Rattle.std.specs.Prelude.{if◌then◌else◌}
use Rattle.std.proofs.Common.{arith, rules, ◌/◌, ◌%◌, ◌+◌, ◌*◌}
use Rattle.std.proofs.lemmas.Bool.Decides.{nat_tests}
use Rattle.byteorder.specs.Endian.{big_bytes, big_number}
use Rattle.stun_base.specs.Attributes.{XOR_MAPPED_ADDRESS}
use Rattle.stun_types.specs.Attribute.{TypedValue}
use Rattle.stun_types.specs.XorMappedAddress.{IsXored, XoredAddress, xored_of, xored_value}
use Rattle.stun_types.specs.XorMappedAddressLaws.{xored_of-written}
use Rattle.stun_extra.specs.AttributeTypes.{CHANNEL_NUMBER, REQUESTED_TRANSPORT}

-- whether RFC 8656 allows a channel with this number (section 12)
abbrev pub is_channel_number : ℕ → Bool
is_channel_number number = nat_le 0x4000 number && nat_lt number 0x5000

-- whether RFC 5766 (section 11) allows a channel with this number. Its range includes the range of
-- RFC 8656, and clients of RFC 5766 still bind such channels
abbrev pub is_any_channel_number : ℕ → Bool
is_any_channel_number number = nat_le 0x4000 number && nat_lt number 0x8000

-- a channel number that RFC 5766 allows
abbrev pub IsAnyChannel : ℕ → Type 0
IsAnyChannel number = (0x4000 ≤ number) × (number < 0x8000)

-- CHANNEL-NUMBER (section 18.1): the number, and two reserved bytes
abbrev pub channel_value : ℕ → List ℕ
channel_value channel = big_bytes 2 channel ++ 0 ∷ 0 ∷ []

-- the channel number in a CHANNEL-NUMBER, if RFC 5766 allows it
abbrev pub channel_of : TypedValue → Option ℕ
channel_of attribute =
    if attribute.kind == CHANNEL_NUMBER && (length attribute.value == 4)
    && is_any_channel_number (big_number 2 attribute.value)
    then Some (big_number 2 attribute.value) else None

-- REQUESTED-TRANSPORT (section 18.8): the number of the protocol, and three reserved bytes
abbrev pub transport_value : ℕ → List ℕ
transport_value protocol = protocol ∷ 0 ∷ 0 ∷ 0 ∷ []

-- the number of the protocol in an attribute of this type
abbrev pub transport_of : TypedValue → Option ℕ
transport_of attribute =
    if attribute.kind == REQUESTED_TRANSPORT && (length attribute.value == 4)
    then Some (slice_index attribute.value 0) else None

-- XOR-PEER-ADDRESS and XOR-RELAYED-ADDRESS (sections 18.3 and 18.5): an attribute of this type is
-- read like XOR-MAPPED-ADDRESS
abbrev pub xored_address_of : ℕ → TypedValue → Option XoredAddress
xored_address_of kind attribute =
    if attribute.kind == kind
    then xored_of (record { kind = XOR_MAPPED_ADDRESS; value = attribute.value }) else None

-- ---- what is written is read again

pub channel_of-written : (channel : ℕ) → IsAnyChannel channel
    → channel_of (record { kind = CHANNEL_NUMBER; value = channel_value channel }) ≡ Some channel
channel_of-written channel fits =
    let read : channel / 256 % 256 * 256 + (channel % 256 * 1 + 0) ≡ channel =
    omega (arith, fits) in
    let low = fits.0 in
    let high = fits.1 in
    rw read (grind (arith, nat_tests))

pub transport_of-written : (protocol : ℕ) → protocol < 2 ^ 8
    → transport_of (record { kind = REQUESTED_TRANSPORT; value = transport_value protocol })
    ≡ Some protocol
transport_of-written protocol fits = search rules

pub xored_address_of-written : (kind : ℕ) (address : XoredAddress) → IsXored address
    → xored_address_of kind (record { kind = kind; value = xored_value address }) ≡ Some address
xored_address_of-written kind address fits =
    let read = xored_of-written address fits in
    search rules
