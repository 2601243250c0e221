-- The types that were returned, and those that are left.
use Rattle.std.specs.Prelude.{ℕ, ◌/◌, ◌%◌, Bool, List, filter, not, slice_index, ◌==◌, ◌&&◌}
use Rattle.std.specs.Prelude.{false, Option, Some, None}
use Rattle.std.specs.Int.{bit_at}
use Rattle.stun_base.specs.declared.wire.attribute_type.AttributeType.{AttributeType}
use Rattle.stun_types.specs.Walk.{Member}
use Rattle.stun_extra.specs.Unknown.{is_unknown, kinds_of, without_repeats, types_of}

-- whether the bit of a type is set, of 64 in each word
abbrev pub is_set : List ℕ → ℕ → Bool
is_set words kind = bit_at (slice_index words (kind / 64)) (kind % 64) == 1

-- whether a type was returned; there are no words before the first
abbrev pub is_told : Option (List ℕ) → ℕ → Bool
is_told None kind = false
is_told (Some words) kind = is_set words kind

-- whether the iterator should return a type
abbrev pub is_new : List AttributeType → Option (List ℕ) → ℕ → Bool
is_new known words kind = is_unknown known kind && not (is_told words kind)

-- the types to return of the attributes that are left
unfoldable pub left_to_tell : List AttributeType → Option (List ℕ) → List Member → List AttributeType
left_to_tell known words left =
    types_of
    (filter (λ kind. not (is_told words kind))
    (without_repeats (filter (is_unknown known) (kinds_of left))))
