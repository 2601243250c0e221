-- The part of a message that follows the deciding attribute (RFC 8489, sections 14.5 to 14.7).
use Rattle.std.specs.Prelude.{◌≡◌, ◌⊎◌, ℕ, ◌+◌, Some, None, List, length, take, filter, not, ◌==◌}
use Rattle.stun_base.specs.Attributes.{FINGERPRINT, MESSAGE_INTEGRITY_SHA256}
use Rattle.stun_types.specs.Attribute.{attribute_length}
use Rattle.stun_types.specs.Integrity.{deciding, first_of}
use Rattle.stun_types.specs.Message.{with_length}
use Rattle.stun_types.specs.Visible.{visible}
use Rattle.stun_types.specs.Walk.{Member}

-- two messages have the same bytes up to the end of the deciding attribute, except for the length
-- field. After the attribute, the messages may differ
pub record AgreeUpToIntegrity (bytes others : List ℕ) : Type 0 where
  -- the same attribute decides in both messages, with the same type and value at the same offset:
  -- MESSAGE-INTEGRITY-SHA256 if it is visible (section 14.6), or else MESSAGE-INTEGRITY (section
  -- 14.5)
  pub decider : Member
  pub decides : deciding bytes ≡ Some decider
  pub decides_other : deciding others ≡ Some decider
  -- all bytes before it are the same, except for the length field (section 5). In place of that
  -- field, the digest covers the length up to the end of this attribute (sections 14.5 and 14.6)
  pub same_before : with_length (take decider.0 bytes) 0 ≡ with_length (take decider.0 others) 0

-- the offset after an attribute and its padding (section 14)
abbrev pub place_behind : Member → ℕ
place_behind m = m.0 + attribute_length (length m.1.value)

-- the other bytes begin like a message, up to the end of its deciding attribute and except for the
-- length field. Any bytes may follow, but if the deciding attribute is MESSAGE-INTEGRITY, no
-- MESSAGE-INTEGRITY-SHA256 may be visible in the other bytes, because it would decide instead
pub record IsContinuedAnew (bytes others : List ℕ) (m : Member) : Type 0 where
  pub decides : deciding bytes ≡ Some m
  -- the header without its length, and all attributes up to this one with its padding (sections 5
  -- and 14)
  pub same_up_to_end : with_length (take (place_behind m) bytes) 0
      ≡ with_length (take (place_behind m) others) 0
  -- by section 14.6, MESSAGE-INTEGRITY-SHA256 may follow MESSAGE-INTEGRITY, and is then visible
  pub none_stronger : (m.1.kind ≡ MESSAGE_INTEGRITY_SHA256)
      ⊎ (first_of MESSAGE_INTEGRITY_SHA256 (visible others) ≡ None)

-- the attributes other than FINGERPRINT. After the deciding attribute, only FINGERPRINT can be
-- visible (section 14.7)
abbrev pub besides_fingerprint : List Member → List Member
besides_fingerprint members = filter (λ m. not (m.1.kind == FINGERPRINT)) members
