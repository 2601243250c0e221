-- The keys of credentials of either kind (RFC 8489, section 9).
use Rattle.std.specs.Prelude.{ℕ, List, codes}
use Rattle.stun_base.specs.Keys.{short_term_key, long_term_key_of}
use Rattle.stun_base.specs.declared.keys.algorithm.IntegrityAlgorithm.{IntegrityAlgorithm}
use Rattle.stun_base.specs.declared.keys.credentials.MessageIntegrityCredentials.{
  MessageIntegrityCredentials,
}
use Rattle.stun_base.specs.declared.keys.credentials.MessageIntegrityCredentials.TheVariants.{ShortTerm}
use Rattle.stun_base.specs.declared.keys.credentials.MessageIntegrityCredentials.TheVariants.{LongTerm}

-- the key for each algorithm: the password's bytes (section 9.1.1), or the long-term key (section
-- 9.2.2)
abbrev pub keys_of : {A : Type 0} → MessageIntegrityCredentials A → IntegrityAlgorithm → List ℕ
keys_of (ShortTerm password) = short_term_key password
keys_of (LongTerm user) = long_term_key_of user

-- the text of credentials that `Debug` writes: their kind, and none of their texts
abbrev pub kind_shown : {A : Type 0} → MessageIntegrityCredentials A → List ℕ
kind_shown (ShortTerm password) = codes "ShortTerm(..)"
kind_shown (LongTerm user) = codes "LongTerm(..)"
