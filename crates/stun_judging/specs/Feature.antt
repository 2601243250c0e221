-- Whether a feature is used: user names that are sent as their hash (RFC 8489, section 9.2).
use Rattle.std.specs.Prelude.{Bool, true, false}
use Rattle.stun_judging.specs.declared.feature.Feature.{Feature}
use Rattle.stun_judging.specs.declared.feature.Feature.TheVariants.{Auto, Required, Disabled}

-- whether names must be hashed
abbrev pub is_required : Feature → Bool
is_required Auto = false
is_required Required = true
is_required Disabled = false

-- whether user names may be sent as their hash
abbrev pub is_possible : Feature → Bool
is_possible Auto = true
is_possible Required = true
is_possible Disabled = false
