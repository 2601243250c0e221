-- USERHASH (RFC 8489, section 14.4).
use Rattle.std.specs.Prelude.{◌≡◌, ℕ, List, length, Option, Some, None, ◌==◌, ◌&&◌, if◌then◌else◌}
use Rattle.std.proofs.Common.{rules}
use Rattle.stun_base.specs.Attributes.{USERHASH}
use Rattle.stun_types.specs.Attribute.{TypedValue}

-- the number of bytes of a hash: that of a SHA-256 digest
abbrev pub USERHASH_LENGTH : ℕ
USERHASH_LENGTH = 32

-- the hash in an attribute of this type: a value of exactly 32 bytes
abbrev pub hash_of : TypedValue → Option (List ℕ)
hash_of attribute =
    if attribute.kind == USERHASH && (length attribute.value == USERHASH_LENGTH)
    then Some attribute.value else None

-- a hash that is written is read again
pub hash_of-written : (hash : List ℕ) → length hash ≡ USERHASH_LENGTH
    → hash_of (record { kind = USERHASH; value = hash }) ≡ Some hash
hash_of-written hash whole = search rules
