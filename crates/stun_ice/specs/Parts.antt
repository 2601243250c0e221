-- The parts of a check (RFC 8445, section 7.1), and of its answer. Of several attributes of one
-- type, the first visible one counts, and a malformed attribute counts as absent.
use Rattle.std.specs.Prelude.{ℕ, List, [], ◌∷◌, Bool, Option}
use Rattle.std.specs.Option.{is_some, option_and_then, option_map}
use Rattle.stun_base.specs.Attributes.{ERROR_CODE, USERNAME, XOR_MAPPED_ADDRESS}
use Rattle.stun_base.specs.declared.wire.attribute_type.AttributeType.{AttributeType}
use Rattle.stun_types.specs.ErrorCode.{CodeAndReason, error_of}
use Rattle.stun_types.specs.Integrity.{first_of}
use Rattle.stun_types.specs.Visible.{visible}
use Rattle.stun_types.specs.XorMappedAddress.{XoredAddress, xored_of}
use Rattle.stun_extra.specs.AttributeTypes.{ICE_CONTROLLED, ICE_CONTROLLING, PRIORITY}
use Rattle.stun_extra.specs.AttributeTypes.{USE_CANDIDATE}
use Rattle.stun_extra.specs.Unknown.{types_of}
use Rattle.stun_extra.specs.Values.{number_of}
use Rattle.stun_ice.specs.declared.role.Role.{Role}
use Rattle.stun_ice.specs.declared.role.Role.TheVariants.{Controlling, Controlled}

-- the types of attributes that must be understood and that an agent understands: those of STUN (RFC
-- 8489, section 18.3), PRIORITY and USE-CANDIDATE (section 16.1)
abbrev pub UNDERSTOOD : List AttributeType
UNDERSTOOD =
    types_of (0x0006 ∷ 0x0024 ∷ 0x0008 ∷ 0x0025 ∷ 0x0020 ∷ 0x0009 ∷ 0x000A ∷ 0x001C ∷ 0x0001 ∷ 0x0014
    ∷ 0x0015 ∷ 0x001D ∷ 0x001E ∷ [])

-- the bytes of USERNAME
abbrev pub username_in : List ℕ → Option (List ℕ)
username_in bytes = option_map (λ m. m.1.value) (first_of USERNAME (visible bytes))

-- the number in PRIORITY (section 7.1.1)
abbrev pub priority_in : List ℕ → Option ℕ
priority_in bytes = option_and_then (λ m. number_of PRIORITY 4 m.1) (first_of PRIORITY (visible bytes))

-- whether there is a USE-CANDIDATE (section 7.1.2)
abbrev pub has_use_candidate : List ℕ → Bool
has_use_candidate bytes = is_some (first_of USE_CANDIDATE (visible bytes))

-- the tie-breaker of the sender, if the check states that it has this role (section 7.1.3)
abbrev pub rival : Role → List ℕ → Option ℕ
rival Controlling bytes =
    option_and_then (λ m. number_of ICE_CONTROLLING 8 m.1)
    (first_of ICE_CONTROLLING (visible bytes))
rival Controlled bytes =
    option_and_then (λ m. number_of ICE_CONTROLLED 8 m.1)
    (first_of ICE_CONTROLLED (visible bytes))

-- the address in XOR-MAPPED-ADDRESS
abbrev pub mapped_address_in : List ℕ → Option XoredAddress
mapped_address_in bytes =
    option_and_then (λ m. xored_of m.1) (first_of XOR_MAPPED_ADDRESS (visible bytes))

-- the error in ERROR-CODE
abbrev pub error_in : List ℕ → Option CodeAndReason
error_in bytes = option_and_then (λ m. error_of m.1) (first_of ERROR_CODE (visible bytes))
