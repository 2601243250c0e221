-- The offsets of a walk.
use Rattle.std.specs.Prelude.{◌≤◌, ℕ, ◌+◌, List, length}
use Rattle.stun_base.specs.Header.{HEADER_LENGTH}
use Rattle.stun_types.specs.Attribute.{ATTRIBUTE_HEADER_LENGTH}
use Rattle.stun_types.specs.Walk.{Member}

-- a member is after the header, and its value ends within the bytes
pub record IsInside (bytes : List ℕ) (m : Member) : Type 0 where
  pub behind_header : HEADER_LENGTH ≤ m.0
  pub whole : m.0 + ATTRIBUTE_HEADER_LENGTH + length m.1.value ≤ length bytes
