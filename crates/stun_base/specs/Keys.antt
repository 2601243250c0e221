-- The keys that are derived from credentials, and the hashes of user names (RFC 8489). A text is
-- the list of its bytes, exactly as the caller passes them.
pub mod OfCredentials
use Rattle.std.specs.Prelude.{ℕ, List, ◌++◌, Bool, ◌&&◌, codes}
use Rattle.std.specs.Str.{is_utf8}
use Rattle.md5.specs.Md5.{md5}
use Rattle.sha2.specs.Sha256.{sha256}
use Rattle.stun_base.specs.Credentials.{UserAtRealm}
use Rattle.stun_base.specs.declared.keys.algorithm.IntegrityAlgorithm.{IntegrityAlgorithm}
use Rattle.stun_base.specs.declared.keys.algorithm.IntegrityAlgorithm.TheVariants.{Sha1, Sha256}

-- two texts with a colon between them (section 9.2.2)
abbrev pub with_colon : List ℕ → List ℕ → List ℕ
with_colon front back = front ++ codes ":" ++ back

-- the long-term key of a user at a realm: MD5 for HMAC-SHA1, SHA-256 for HMAC-SHA256 (sections
-- 9.2.2 and 18.5.1)
abbrev pub long_term_key : IntegrityAlgorithm → List ℕ → List ℕ → List ℕ → List ℕ
long_term_key Sha1 username realm password = md5 (with_colon (with_colon username realm) password)
long_term_key Sha256 username realm password =
    sha256 (with_colon (with_colon username realm) password)

-- whether a user's name, realm and password are all UTF-8
abbrev pub are_utf8 : List ℕ → List ℕ → List ℕ → Bool
are_utf8 username realm password = is_utf8 username && is_utf8 realm && is_utf8 password

-- the long-term key of a user at a realm, for each algorithm
abbrev pub long_term_key_of : UserAtRealm → IntegrityAlgorithm → List ℕ
long_term_key_of user algorithm = long_term_key algorithm user.username user.realm user.password

-- the short-term key: the password's bytes, for either algorithm (section 9.1.1)
abbrev pub short_term_key : List ℕ → IntegrityAlgorithm → List ℕ
short_term_key password algorithm = password

-- the hash of a user name and a realm, which a client sends instead of the name (section 14.4)
abbrev pub userhash_of : List ℕ → List ℕ → List ℕ
userhash_of username realm = sha256 (with_colon username realm)
