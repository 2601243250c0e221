-- Laws of writing and reading attributes.
use Rattle.std.specs.Prelude.{◌≡◌, ℕ, ◌%◌, ◌^◌, ◌<◌, List, [], ◌∷◌, length, slice_index, take, Some}
use Rattle.stun_base.specs.Attributes.{ERROR_CODE, XOR_MAPPED_ADDRESS}
use Rattle.stun_types.specs.Attribute.{TypedValue, attribute_length}
use Rattle.stun_types.specs.ErrorCode.{CodeAndReason, error_of, error_value}
use Rattle.stun_types.specs.Grammar.{spelled_attribute}
use Rattle.stun_types.specs.PasswordAlgorithms.{entries, spelled_entries}
use Rattle.stun_types.specs.XorMappedAddress.{XoredAddress, xored_of, xored_value}
use Rattle.stun_types.specs.declared.attribute.password_algorithm.PasswordAlgorithmValue.{
  PasswordAlgorithmValue,
}

-- a written attribute has as many bytes as `attribute_length` says
abbrev pub TakesWhatIsSpelled : TypedValue → Type 0
TakesWhatIsSpelled attribute =
    length (spelled_attribute attribute) ≡ attribute_length (length attribute.value)

-- an error is read as the same error whatever its 21 reserved bits are
abbrev pub IgnoresReservedBits : ℕ → ℕ → ℕ → List ℕ → Type 0
IgnoresReservedBits a b c rest =
    error_of (record { kind = ERROR_CODE; value = a ∷ b ∷ c ∷ rest })
    ≡ error_of (record { kind = ERROR_CODE; value = 0 ∷ 0 ∷ (c % 8) ∷ rest })

-- an address is read as the same address whatever its first byte is
abbrev pub IgnoresFirstByte : ℕ → List ℕ → Type 0
IgnoresFirstByte a rest =
    xored_of (record { kind = XOR_MAPPED_ADDRESS; value = a ∷ rest })
    ≡ xored_of (record { kind = XOR_MAPPED_ADDRESS; value = 0 ∷ rest })

-- the 21 reserved bits of a written error are zero
abbrev pub WritesReservedZeros : CodeAndReason → Type 0
WritesReservedZeros error =
    (take 2 (error_value error) ≡ 0 ∷ 0 ∷ []) × (slice_index (error_value error) 2 < 2 ^ 3)

-- the first byte of a written address is zero
abbrev pub WritesFirstZero : XoredAddress → Type 0
WritesFirstZero address = take 1 (xored_value address) ≡ 0 ∷ []

-- if bytes are read as a list of algorithms, then writing this list gives the same bytes
abbrev pub ReadsSpelledEntries : List ℕ → List PasswordAlgorithmValue → Type 0
ReadsSpelledEntries bytes list = entries bytes ≡ Some list → spelled_entries list ≡ bytes
