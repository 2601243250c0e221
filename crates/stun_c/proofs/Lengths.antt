-- How many bytes each call writes.
use Rattle.std.proofs.Common.{◌≡◌, ℕ, ◌+◌, List, length, length-append, refl, arith, ap, ◌∙◌, ◌≤◌}
use Rattle.md5.specs.Md5.{md5, digest_bytes as md5_bytes}
use Rattle.sha2.specs.Sha256.{sha256, digest_bytes as sha256_bytes}
use Rattle.stun_base.specs.Algorithm.{digest_length}
use Rattle.stun_base.specs.code.Algorithm.{length-digest}
use Rattle.stun_base.specs.Keys.{long_term_key, userhash_of}
use Rattle.stun_base.specs.declared.keys.algorithm.IntegrityAlgorithm.{IntegrityAlgorithm}
use Rattle.stun_base.specs.declared.keys.algorithm.IntegrityAlgorithm.TheVariants.{Sha1, Sha256}
use Rattle.byteorder.specs.Endian.{big_number}
use Rattle.stun_base.specs.MessageType.{type_number}
use Rattle.stun_base.specs.declared.wire.message_type.MessageClass.TheVariants.{Request}
use Rattle.stun_types.specs.Attribute.{TypedValue, attribute_length, padded_length}
use Rattle.stun_types.specs.Grammar.{spelled_attribute}
use Rattle.stun_types.specs.Message.{with_length}
use Rattle.stun_types.specs.Writing.{with_attribute, with_integrity, length_with}
use Rattle.stun_types.specs.Writing.{integrity_attribute, covered_at_end}
use Rattle.stun_types.proofs.AddingLemmas.{length-spelled_attribute}
use Rattle.stun_types.proofs.SigningLemmas.{length-with_length}
use Rattle.stun_c.specs.Requests.{binding_request, key_length}
use Rattle.stun_c.proofs.Sizes.{request_length}

pub length-long_term_key : (algorithm : IntegrityAlgorithm) (username realm password : List ℕ)
    → length (long_term_key algorithm username realm password) ≡ key_length algorithm
unfolding md5 md5_bytes sha256 sha256_bytes
length-long_term_key Sha1 username realm password = refl
length-long_term_key Sha256 username realm password = refl

pub length-userhash_of : (username realm : List ℕ) → length (userhash_of username realm) ≡ 32
unfolding sha256 sha256_bytes
length-userhash_of username realm = refl

-- an attribute after a message, and the digest of an algorithm
pub length-with_attribute : (message : List ℕ) (attribute : TypedValue) → 20 ≤ length message
    → length (with_attribute message attribute)
    ≡ length message + attribute_length (length attribute.value)
length-with_attribute message attribute long =
    let raised = with_length message (length_with message (length attribute.value)) in
    let same : length raised ≡ length message =
    length-with_length message (length_with message (length attribute.value)) long in
    length-append raised (spelled_attribute attribute)
    ∙ (ap (λ n. n + length (spelled_attribute attribute)) same
    ∙ ap (λ n. length message + n) (length-spelled_attribute attribute))

length-with_integrity : (message : List ℕ) (algorithm : IntegrityAlgorithm) (key : List ℕ)
    → 20 ≤ length message
    → length (with_integrity message algorithm key) ≡ length message + 4 + digest_length algorithm
length-with_integrity message Sha1 key long =
    let whole : attribute_length (length (integrity_attribute message Sha1 key).value) ≡ 24 =
    ap attribute_length (length-digest Sha1 key (covered_at_end message Sha1)) in
    let sum : length message + 24 ≡ length message + 4 + 20 = omega arith in
    length-with_attribute message (integrity_attribute message Sha1 key) long
    ∙ (ap (λ n. length message + n) whole ∙ sum)
length-with_integrity message Sha256 key long =
    let whole : attribute_length (length (integrity_attribute message Sha256 key).value) ≡ 36 =
    ap attribute_length (length-digest Sha256 key (covered_at_end message Sha256)) in
    let sum : length message + 36 ≡ length message + 4 + 32 = omega arith in
    length-with_attribute message (integrity_attribute message Sha256 key) long
    ∙ (ap (λ n. length message + n) whole ∙ sum)

-- the request: its header, its USERNAME and its digest
pub length-signed : (algorithm : IntegrityAlgorithm) (id username key : List ℕ)
    → length (with_integrity (binding_request id username) algorithm key)
    ≡ 28 + padded_length (length username) + digest_length algorithm
length-signed algorithm id username key =
    let front : length (binding_request id username) ≡ 24 + padded_length (length username) =
    request_length (type_number Request 0x001) (big_number 12 id) username in
    let all =
    length-with_integrity (binding_request id username) algorithm key (rw front (omega arith)) in
    all ∙ (ap (λ n. n + 4 + digest_length algorithm) front ∙ omega arith)
