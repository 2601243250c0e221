-- The source of the entries of a PASSWORD-ALGORITHMS: a program's own list, or the bytes of a
-- message, from an offset on.
use Rattle.std.specs.Prelude.{◌≡◌, ◌+◌, List, length}
use Rattle.stun_types.specs.Attribute.{TypedValue}
use Rattle.stun_types.specs.Walk.{attributes_length, attributes_of, walk_from}
use Rattle.stun_extra.specs.declared.attribute.algorithm_list.Source.{Source}
use Rattle.stun_extra.specs.declared.attribute.algorithm_list.Source.TheVariants.{Listed, Received}

-- the entries
abbrev pub source_entries : Source → List TypedValue
source_entries (Listed list) = list.now
source_entries (Received bytes place) = attributes_of (walk_from place bytes.now)

-- the received entries end where the bytes end
abbrev pub IsFilled : Source → Type 0
IsFilled (Listed list) = Unit {0}
IsFilled (Received bytes place) =
    place + attributes_length (walk_from place bytes.now) ≡ length bytes.now
