-- What an integrity attribute at the end of a message covers.
use Rattle.std.proofs.Common.{◌≡◌, ℕ, ◌+◌, ◌-◌, ◌≤◌, List, ◌++◌, length, arith, ap, sym, ◌∙◌}
use Rattle.std.proofs.lemmas.List.{take_all}
use Rattle.stun_base.specs.Algorithm.{digest, digest_length}
use Rattle.stun_base.specs.code.Algorithm.{length-digest}
use Rattle.stun_base.specs.declared.keys.algorithm.IntegrityAlgorithm.{IntegrityAlgorithm}
use Rattle.stun_base.specs.declared.keys.algorithm.IntegrityAlgorithm.TheVariants.{Sha1, Sha256}
use Rattle.stun_types.specs.Message.{with_length}
use Rattle.stun_types.specs.Grammar.{spelled_attribute}
use Rattle.stun_types.specs.Writing.{covered_at_end, integrity_attribute}
use Rattle.stun_types.specs.Writing.{integrity_kind, length_with, with_integrity}

-- a message whose length is raised by the attribute is what the attribute covers
pub with_length-raised : (message : List ℕ) (algorithm : IntegrityAlgorithm) → 20 ≤ length message
    → with_length message (length_with message (digest_length algorithm))
    ≡ covered_at_end message algorithm
with_length-raised message Sha1 long =
    let all = take_all (length message) message (omega arith) in
    let stated : length message - 20 + 24 ≡ length message + 4 + 20 - 20 = omega arith in
    rw (all, stated)
with_length-raised message Sha256 long =
    let all = take_all (length message) message (omega arith) in
    let stated : length message - 20 + 36 ≡ length message + 4 + 32 - 20 = omega arith in
    rw (all, stated)

-- raised to a length, then the digest of all that as the integrity attribute
pub with_integrity-signed : (message : List ℕ) (algorithm : IntegrityAlgorithm)
    (key raised : List ℕ) → 20 ≤ length message
    → raised ≡ with_length message (length_with message (digest_length algorithm))
    → raised
    ++ spelled_attribute
    (record { kind = integrity_kind algorithm; value = digest algorithm key raised })
    ≡ with_integrity message algorithm key
with_integrity-signed message algorithm key raised long is_raised =
    let covers : raised ≡ covered_at_end message algorithm = is_raised
    ∙ with_length-raised message algorithm long in
    let whole = length-digest algorithm key (covered_at_end message algorithm) in
    let back : with_length message
    (length_with message (length (integrity_attribute message algorithm key).value))
    ≡ covered_at_end message algorithm =
    ap (λ n. with_length message (length_with message n)) whole
    ∙ with_length-raised message algorithm long in
    ap (λ text. text
    ++ spelled_attribute
    (record { kind = integrity_kind algorithm; value = digest algorithm key text })) covers
    ∙ ap (λ text. text ++ spelled_attribute (integrity_attribute message algorithm key)) (sym back)
