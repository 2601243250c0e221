-- A key that is longer than a block of HMAC and its hash give the same digests (RFC 2104, section 2).
use Rattle.std.proofs.Common.{◌≡◌, ◌≤◌, ℕ, ◌-◌, List, ◌++◌, Bool, true, false, length, take}
use Rattle.std.proofs.Common.{refl, ◌∙◌, ap, arith, ltb-false, Option, Some, None}
use Rattle.std.specs.Prelude.{cond, nat_lt, replicate}
use Rattle.std.proofs.Math.Seq.{take-append_seam}
use Rattle.sha1.specs.Sha1.{sha1, digest_bytes as sha1_bytes}
use Rattle.sha2.specs.Sha256.{sha256, digest_bytes as sha256_bytes}
use Rattle.stun_base.specs.Algorithm.{digest, digest_length}
use Rattle.stun_base.specs.Hmac.{block_of, hmac, key_block, short_key, xor_pad}
use Rattle.stun_base.specs.declared.keys.algorithm.IntegrityAlgorithm.{IntegrityAlgorithm}
use Rattle.stun_base.specs.declared.keys.algorithm.IntegrityAlgorithm.TheVariants.{Sha1, Sha256}
use Rattle.stun_types.specs.Integrity.{verified_algorithm}
use Rattle.stun_types.specs.Writing.{IsOpen, covered_at_end, integrity_kind, length_with, max_length}
use Rattle.stun_types.specs.Writing.{with_attribute, with_integrity}
use Rattle.stun_types.proofs.SigningLemmas.{verified_by-signed}
use Rattle.stun_c_endpoint.specs.Told.{block_told, hash_by, key_length_told}

-- ---- a key that is hashed is not hashed again

not_longer : (n : ℕ) → n ≤ 64 → nat_lt 64 n ≡ false
not_longer n short = grind (arith, short)

length-hash : (a : IntegrityAlgorithm) (bytes : List ℕ) → length (hash_by a bytes) ≡ digest_length a
unfolding sha1 sha256 sha1_bytes sha256_bytes
length-hash Sha1 bytes = refl
length-hash Sha256 bytes = refl

hash-short : (a : IntegrityAlgorithm) (bytes : List ℕ) → length (hash_by a bytes) ≤ 64
hash-short Sha1 bytes = omega (arith, length-hash Sha1 bytes)
hash-short Sha256 bytes = omega (arith, length-hash Sha256 bytes)

short-if : (a : IntegrityAlgorithm) (key : List ℕ) (b : Bool) → nat_lt 64 (length key) ≡ b
    → short_key (hash_by a) (cond b (hash_by a key) key) ≡ cond b (hash_by a key) key
short-if a key true is =
    ap (λ b. cond b (hash_by a (hash_by a key)) (hash_by a key))
    (not_longer (length (hash_by a key)) (hash-short a key))
short-if a key false is = ap (λ b. cond b (hash_by a key) key) is

short-again : (a : IntegrityAlgorithm) (key : List ℕ)
    → short_key (hash_by a) (short_key (hash_by a) key) ≡ short_key (hash_by a) key
short-again a key = short-if a key (nat_lt 64 (length key)) refl

block-if : (a : IntegrityAlgorithm) (key : List ℕ) (b : Bool) → nat_lt 64 (length key) ≡ b
    → length (cond b (hash_by a key) key) ≤ 64
block-if a key true is = hash-short a key
block-if a key false is = ltb-false 64 (length key) is

-- the key of a reply is not longer than its block
pub told_key_short : (o : Option IntegrityAlgorithm) (key : List ℕ) → key_length_told o key ≤ 64
told_key_short None key = omega arith
told_key_short (Some a) key = block-if a key (nat_lt 64 (length key)) refl

-- ---- digests

by_block : (hash : List ℕ → List ℕ) (key other text : List ℕ)
    → key_block hash key ≡ key_block hash other → hmac hash key text ≡ hmac hash other text
unfolding hmac
by_block hash key other text same =
    ap (λ block. hash (xor_pad 0x5c block ++ hash (xor_pad 0x36 block ++ text))) same

digest-short : (a : IntegrityAlgorithm) (key text : List ℕ)
    → digest a (short_key (hash_by a) key) text ≡ digest a key text
digest-short Sha1 key text =
    by_block sha1 (short_key sha1 key) key text (ap block_of (short-again Sha1 key))
digest-short Sha256 key text =
    by_block sha256 (short_key sha256 key) key text (ap block_of (short-again Sha256 key))

-- ---- messages

signed-short : (page : List ℕ) (a : IntegrityAlgorithm) (key : List ℕ)
    → with_integrity page a (short_key (hash_by a) key) ≡ with_integrity page a key
signed-short page a key =
    ap (λ value. with_attribute page (record { kind = integrity_kind a; value = value }))
    (digest-short a key (covered_at_end page a))

-- the bytes of the block that are the key
told_key : (a : IntegrityAlgorithm) (key : List ℕ)
    → take (key_length_told (Some a) key) (block_told (Some a) key) ≡ short_key (hash_by a) key
told_key a key =
    take-append_seam (short_key (hash_by a) key)
    (replicate (64 - length (short_key (hash_by a) key)) 0)

-- what is signed by the key of a block verifies under the key
pub told_key_verifies : (a : IntegrityAlgorithm) (key page : List ℕ) → IsOpen page
    → length_with page (digest_length a) ≤ max_length
    → verified_algorithm
    (with_integrity page a (take (key_length_told (Some a) key) (block_told (Some a) key))) key
    ≡ Some a
told_key_verifies a key page is_open short =
    ap (λ k. verified_algorithm (with_integrity page a k) key) (told_key a key)
    ∙ ap (λ message. verified_algorithm message key) (signed-short page a key)
    ∙ verified_by-signed page a (λ _. key) is_open short
