-- The source of the types of an UNKNOWN-ATTRIBUTES: a message that has attributes of these types,
-- or a message that has the attribute.
use Rattle.std.specs.Prelude.{◌≡◌, ◌%◌, List, length}
use Rattle.stun_base.specs.declared.wire.attribute_type.AttributeType.{AttributeType}
use Rattle.stun_extra.specs.Unknown.{types_in, unknown_types}
use Rattle.stun_extra.specs.declared.unknown.attribute.Source.{Source}
use Rattle.stun_extra.specs.declared.unknown.attribute.Source.TheVariants.{OfMessage, Received}

-- the types
abbrev pub source_types : Source → List AttributeType
source_types (OfMessage message known) = unknown_types known.now message.now
source_types (Received bytes) = types_in bytes.now

-- the received bytes have 2 bytes for each type
abbrev pub IsEven : Source → Type 0
IsEven (OfMessage message known) = Unit {0}
IsEven (Received bytes) = length bytes.now % 2 ≡ 0
