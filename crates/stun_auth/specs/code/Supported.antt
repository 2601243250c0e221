-- The list of supported algorithms as the struct of the code stores it.
use Rattle.std.specs.Prelude.{List, [], ◌∷◌}
use Rattle.stun_base.specs.declared.keys.algorithm.IntegrityAlgorithm.{IntegrityAlgorithm}
use Rattle.stun_base.specs.declared.keys.algorithm.IntegrityAlgorithm.TheVariants.{Sha1, Sha256}
use Rattle.stun_auth.specs.declared.supported.Supported.{Supported}
use Rattle.stun_auth.specs.declared.supported.Supported.TheVariants.{Only, Both}

-- the other of the two algorithms
abbrev pub other : IntegrityAlgorithm → IntegrityAlgorithm
other Sha1 = Sha256
other Sha256 = Sha1

-- the list of the supported algorithms
abbrev pub in_order : Supported → List IntegrityAlgorithm
in_order (Only algorithm) = algorithm ∷ []
in_order (Both first) = first ∷ other first ∷ []
