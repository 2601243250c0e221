-- How long a request is, and that its integrity attribute fits after it.
use Rattle.std.proofs.Common.{◌≡◌, ◌≤◌, ℕ, ◌+◌, List, [], ◌∷◌, ◌++◌}
use Rattle.std.proofs.Common.{length, length-append, rules, arith}
use Rattle.std.specs.Prelude.{None}
use Rattle.std.proofs.lemmas.List.{length-replicate}
use Rattle.stun_base.specs.Attributes.{USERNAME}
use Rattle.stun_base.specs.declared.keys.algorithm.IntegrityAlgorithm.{IntegrityAlgorithm}
use Rattle.stun_base.specs.declared.keys.algorithm.IntegrityAlgorithm.TheVariants.{Sha1, Sha256}
use Rattle.stun_types.specs.Attribute.{padded_length}
use Rattle.stun_types.specs.Grammar.{spelled_message}
use Rattle.stun_types.specs.Writing.{IsOpen, signing_refusal}

-- a header and one attribute
pub request_length : (kind id : ℕ) (name : List ℕ)
    → length (spelled_message kind id ([] ++ record { kind = USERNAME; value = name } ∷ []))
    ≡ 24 + padded_length (length name)
request_length kind id name = simp (length-append, length-replicate) (omega arith)

-- a short message with room after it is signed
pub signing_fits : (message : List ℕ) (room : ℕ) (algorithm : IntegrityAlgorithm) → IsOpen message
    → length message ≤ 540 → 36 ≤ room
    → signing_refusal message room algorithm ≡ None
signing_fits message room Sha1 is_open short wide =
    let unsigned = is_open.no_integrity in
    search rules
signing_fits message room Sha256 is_open short wide =
    let unsigned = is_open.no_integrity in
    search rules
