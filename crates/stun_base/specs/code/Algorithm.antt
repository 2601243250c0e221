-- The length of a digest, computed.
use Rattle.std.specs.Prelude.{◌≡◌, ℕ, List, length}
use Rattle.std.proofs.Common.{refl}
use Rattle.sha1.specs.Sha1.{sha1, digest_bytes as sha1_bytes}
use Rattle.sha2.specs.Sha256.{sha256, digest_bytes as sha256_bytes}
use Rattle.stun_base.specs.Hmac.{hmac}
use Rattle.stun_base.specs.declared.keys.algorithm.IntegrityAlgorithm.{IntegrityAlgorithm}
use Rattle.stun_base.specs.declared.keys.algorithm.IntegrityAlgorithm.TheVariants.{Sha1, Sha256}
use Rattle.stun_base.specs.Algorithm.{digest, digest_length}

-- a digest has its length, whatever the key and the text
pub length-digest : (algorithm : IntegrityAlgorithm) (key text : List ℕ)
    → length (digest algorithm key text) ≡ digest_length algorithm
unfolding hmac sha1 sha256 sha1_bytes sha256_bytes
length-digest Sha1 key text = refl
length-digest Sha256 key text = refl
