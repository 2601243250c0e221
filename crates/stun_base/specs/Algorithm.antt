-- The digests of message integrity (RFC 8489, sections 14.5 and 14.6).
use Rattle.std.specs.Prelude.{ℕ, List}
use Rattle.sha1.specs.Sha1.{sha1}
use Rattle.sha2.specs.Sha256.{sha256}
use Rattle.stun_base.specs.Hmac.{hmac}
use Rattle.stun_base.specs.declared.keys.algorithm.IntegrityAlgorithm.{IntegrityAlgorithm}
use Rattle.stun_base.specs.declared.keys.algorithm.IntegrityAlgorithm.TheVariants.{Sha1, Sha256}

-- the number of bytes of a digest (sections 14.5 and 14.6)
abbrev pub digest_length : IntegrityAlgorithm → ℕ
digest_length Sha1 = 20
digest_length Sha256 = 32

-- the digest of a text under a key (sections 14.5 and 14.6)
abbrev pub digest : IntegrityAlgorithm → List ℕ → List ℕ → List ℕ
digest Sha1 key text = hmac sha1 key text
digest Sha256 key text = hmac sha256 key text

-- the strength of a digest: HMAC-SHA1 is weaker than HMAC-SHA256
abbrev pub strength : IntegrityAlgorithm → ℕ
strength Sha1 = 0
strength Sha256 = 1
