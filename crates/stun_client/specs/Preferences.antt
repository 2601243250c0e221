-- What a client supports (RFC 8489, section 9.2.5).
use Rattle.std.specs.Prelude.{Bool}
use Rattle.stun_base.specs.declared.keys.algorithm.IntegrityAlgorithm.{IntegrityAlgorithm}
use Rattle.stun_judging.specs.Algorithms.{contains}
use Rattle.stun_client.specs.declared.preferences.Preferences.{Preferences}

-- whether a client supports an algorithm
abbrev pub supports : Preferences → IntegrityAlgorithm → Bool
supports p a = contains a p.algorithms
