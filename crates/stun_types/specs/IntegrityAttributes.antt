-- MESSAGE-INTEGRITY and MESSAGE-INTEGRITY-SHA256 as attributes (RFC 8489, sections 14.5 and 14.6).
use Rattle.std.specs.Prelude.{◌≡◌, ℕ, ◌%◌, ◌≤◌, List, length, Option}
use Rattle.std.specs.Prelude.{Some, None, ◌==◌, ◌&&◌, if◌then◌else◌}
use Rattle.std.proofs.Common.{rules}
use Rattle.stun_base.specs.Attributes.{MESSAGE_INTEGRITY, MESSAGE_INTEGRITY_SHA256}
use Rattle.stun_base.specs.Algorithm.{digest_length}
use Rattle.stun_base.specs.declared.keys.algorithm.IntegrityAlgorithm.TheVariants.{Sha1, Sha256}
use Rattle.stun_types.specs.Attribute.{TypedValue}
use Rattle.stun_types.specs.Integrity.{LEAST_SHA256_LENGTH, is_well_formed}

-- the digest in an attribute of this type, if it has the length of the type
abbrev pub digest_of : ℕ → TypedValue → Option (List ℕ)
digest_of kind attribute =
    if attribute.kind == kind && is_well_formed attribute then Some attribute.value else None

-- 16 to 32 bytes, a multiple of 4
pub record IsSha256Digest (hmac : List ℕ) : Type 0 where
  pub least : LEAST_SHA256_LENGTH ≤ length hmac
  pub most : length hmac ≤ digest_length Sha256
  pub in_fours : length hmac % 4 ≡ 0

-- a digest that is written is read again
pub digest_of-written : (hmac : List ℕ) → length hmac ≡ digest_length Sha1
    → digest_of MESSAGE_INTEGRITY (record { kind = MESSAGE_INTEGRITY; value = hmac }) ≡ Some hmac
digest_of-written hmac whole = search rules

-- a SHA-256 digest that is written is read again, even a truncated one
pub digest_of-written_sha256 : (hmac : List ℕ) → IsSha256Digest hmac
    → digest_of MESSAGE_INTEGRITY_SHA256 (record { kind = MESSAGE_INTEGRITY_SHA256; value = hmac })
    ≡ Some hmac
digest_of-written_sha256 hmac fits =
    let least = fits.least in
    let most = fits.most in
    let in_fours = fits.in_fours in
    search rules
