-- Which entry of a list is chosen.
use Rattle.std.specs.Prelude.{if◌then◌else◌, Option, Some, None}
use Rattle.stun_base.specs.declared.keys.algorithm.IntegrityAlgorithm.{IntegrityAlgorithm}
use Rattle.stun_client.specs.Preferences.{supports}
use Rattle.stun_client.specs.declared.preferences.Preferences.{Preferences}

-- an algorithm, if it is supported
abbrev pub if_supported : Preferences → Option IntegrityAlgorithm → Option IntegrityAlgorithm
if_supported p None = None
if_supported p (Some a) = if supports p a then Some a else None
