-- Whether the keyed digest of a message verifies (RFC 8489, sections 14.5, 14.6 and 9.2.4).
use Rattle.std.specs.Prelude.{◌≡◌, ℕ, ◌+◌, ◌-◌, ◌%◌, Bool, List, length, take, find, nat_eq}
use Rattle.std.specs.Prelude.{nat_le, ◌==◌, ◌&&◌, ◌||◌, Option, Some, None, if◌then◌else◌}
use Rattle.std.specs.Prelude.{Result, IfOk, IfErr}
use Rattle.std.specs.Option.{option_and_then, option_map, option_or}
use Rattle.std.specs.Cmp.Lexicographic.{pointwise}
use Rattle.stun_base.specs.declared.wire.error.StunParseError.TheVariants.{MissingAttribute}
use Rattle.stun_base.specs.declared.wire.error.StunParseError.TheVariants.{InvalidAttributeData}
use Rattle.stun_base.specs.declared.wire.error.ValidateError.{ValidateError}
use Rattle.stun_base.specs.declared.wire.error.ValidateError.TheVariants.{Parse, IntegrityFailed}
use Rattle.stun_base.specs.declared.keys.algorithm.IntegrityAlgorithm.{IntegrityAlgorithm}
use Rattle.stun_base.specs.declared.keys.algorithm.IntegrityAlgorithm.TheVariants.{Sha1, Sha256}
use Rattle.stun_base.specs.Attributes.{MESSAGE_INTEGRITY, MESSAGE_INTEGRITY_SHA256}
use Rattle.stun_base.specs.Header.{HEADER_LENGTH}
use Rattle.stun_base.specs.Algorithm.{digest, digest_length}
use Rattle.stun_types.specs.Attribute.{TypedValue, ATTRIBUTE_HEADER_LENGTH}
use Rattle.stun_types.specs.Message.{with_length}
use Rattle.stun_types.specs.Walk.{Member}
use Rattle.stun_types.specs.Visible.{visible}

-- the first member of a type
abbrev pub first_of : ℕ → List Member → Option Member
first_of kind members = find (λ m. m.1.kind == kind) members

-- the deciding attribute, whose digest decides whether the message is signed:
-- MESSAGE-INTEGRITY-SHA256 if it is visible, and otherwise MESSAGE-INTEGRITY
abbrev pub deciding : List ℕ → Option Member
deciding bytes =
    option_or (first_of MESSAGE_INTEGRITY_SHA256 (visible bytes))
    (first_of MESSAGE_INTEGRITY (visible bytes))

-- the bytes that are covered by an integrity attribute at an offset, whose value has this many
-- bytes (sections 14.5 and 14.6): the bytes before the attribute, with the length field of a
-- message that ends after the attribute
abbrev pub covered_bytes : List ℕ → ℕ → ℕ → List ℕ
covered_bytes bytes place count =
    with_length (take place bytes) (place + ATTRIBUTE_HEADER_LENGTH + count - HEADER_LENGTH)

-- the algorithm of an integrity attribute
abbrev pub integrity_algorithm : TypedValue → IntegrityAlgorithm
integrity_algorithm attribute = if attribute.kind == MESSAGE_INTEGRITY_SHA256 then Sha256 else Sha1

-- the algorithm of the deciding attribute
abbrev pub deciding_algorithm : List ℕ → Option IntegrityAlgorithm
deciding_algorithm bytes = option_map (λ m. integrity_algorithm m.1) (deciding bytes)

-- whether the value of an integrity attribute is the whole digest, under a key, of the bytes that
-- the attribute covers
abbrev pub is_digest : List ℕ → List ℕ → Member → Bool
is_digest bytes key m =
    (length m.1.value == digest_length (integrity_algorithm m.1))
    && pointwise nat_eq m.1.value
    (digest (integrity_algorithm m.1) key (covered_bytes bytes m.0 (length m.1.value)))

-- the algorithm of an integrity attribute, if its value is the digest under the key for this
-- algorithm
abbrev pub verified_at : (IntegrityAlgorithm → List ℕ) → List ℕ → Member → Option IntegrityAlgorithm
verified_at keys bytes m =
    if is_digest bytes (keys (integrity_algorithm m.1)) m then Some (integrity_algorithm m.1)
    else None

-- the algorithm whose digest verifies, if there is one, with a key for each algorithm (section
-- 9.2.2)
abbrev pub verified_by : (IntegrityAlgorithm → List ℕ) → List ℕ → Option IntegrityAlgorithm
verified_by keys bytes = option_and_then (verified_at keys bytes) (deciding bytes)

-- the algorithm whose digest verifies, if there is one, with the same key for both algorithms
-- (section 9.1)
abbrev pub verified_algorithm : List ℕ → List ℕ → Option IntegrityAlgorithm
verified_algorithm bytes key = verified_by (λ _. key) bytes

-- the smallest number of bytes of a truncated SHA-256 digest (section 14.6)
abbrev pub LEAST_SHA256_LENGTH : ℕ
LEAST_SHA256_LENGTH = 16

-- whether the value of an integrity attribute is well formed: a whole digest, or a SHA-256 digest
-- that is truncated to 16, 20, 24 or 28 bytes
abbrev pub is_well_formed : TypedValue → Bool
is_well_formed attribute =
    if attribute.kind == MESSAGE_INTEGRITY_SHA256 then
    nat_le LEAST_SHA256_LENGTH (length attribute.value)
    && nat_le (length attribute.value) (digest_length Sha256)
    && (length attribute.value % 4 == 0)
    else length attribute.value == digest_length Sha1

-- whether an attribute is a well-formed MESSAGE-INTEGRITY or MESSAGE-INTEGRITY-SHA256
abbrev pub is_integrity : TypedValue → Bool
is_integrity attribute =
    ((attribute.kind == MESSAGE_INTEGRITY) || (attribute.kind == MESSAGE_INTEGRITY_SHA256))
    && is_well_formed attribute

-- the reason why no digest verifies, given the deciding attribute
abbrev pub deciding_refusal : Option Member → ValidateError
deciding_refusal None = Parse (MissingAttribute (record { 0 = MESSAGE_INTEGRITY }))
deciding_refusal (Some m) =
    if is_well_formed m.1 then IntegrityFailed else Parse InvalidAttributeData

-- the reason why no digest of a message verifies
abbrev pub integrity_refusal : List ℕ → ValidateError
integrity_refusal bytes = deciding_refusal (deciding bytes)

-- the result of a call that verifies a message, where `verified` is the algorithm whose digest
-- verifies, if there is one
pub record Verifies (message : List ℕ) (verified : Option IntegrityAlgorithm)
    (result : Result IntegrityAlgorithm ValidateError) : Type 0 where
  pub ok : IfOk result (λ algorithm. verified ≡ Some algorithm)
  pub refused : IfErr result (λ error.
      (verified ≡ None) × (error ≡ integrity_refusal message))
