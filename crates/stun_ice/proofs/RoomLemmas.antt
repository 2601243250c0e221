-- An answer to a check is short, and takes its end.
use Rattle.std.proofs.Common.{◌≡◌, ◌≤◌, ◌+◌, ◌-◌, ℕ, List, []}
use Rattle.std.proofs.Common.{◌∷◌, ◌++◌, length, length-append, Option, Some, None, sym}
use Rattle.std.proofs.Common.{ap, arith, refl, subst}
use Rattle.std.proofs.lemmas.List.{append-nil}
use Rattle.stun_base.specs.declared.keys.algorithm.IntegrityAlgorithm.{IntegrityAlgorithm}
use Rattle.stun_base.specs.declared.keys.algorithm.IntegrityAlgorithm.TheVariants.{Sha1}
use Rattle.stun_base.specs.declared.wire.attribute_type.AttributeType.{AttributeType}
use Rattle.stun_types.specs.Attribute.{TypedValue, attribute_length}
use Rattle.stun_types.specs.Grammar.{spelled_attribute, spelled_message}
use Rattle.stun_types.specs.Limits.{LENGTH_LIMIT}
use Rattle.stun_types.specs.Writing.{IsOpen}
use Rattle.stun_types.proofs.AddingLemmas.{length-spelled_attribute}
use Rattle.stun_extra.specs.Fingerprint.{fingerprint_refusal}
use Rattle.stun_base.specs.Header.{transaction_id_field, type_field}
use Rattle.stun_base.specs.MessageType.{method_of, type_number}
use Rattle.stun_base.specs.declared.wire.message_type.MessageClass.TheVariants.{Error}
use Rattle.stun_extra.specs.Unknown.{UNKNOWN_ATTRIBUTES, refusing_answer, spelled_types}
use Rattle.stun_extra.specs.Unknown.{unknown_attribute_error, unknown_types}
use Rattle.stun_extra.proofs.UnknownLemmas.{length_of_types}
use Rattle.stun_extra.proofs.RoomLemmas.{few_unknown, open_ends, open_signs, signed_ends}
use Rattle.stun_ice.specs.Agent.{Agent, ending_refusal}
use Rattle.stun_ice.specs.Answers.{with_signature}

-- the end of a check
pub check_ends : (password page : List ℕ) → IsOpen page → length page ≤ 65000
    → ending_refusal password page ≡ None
check_ends password page is_open short =
    let first = open_signs page Sha1 is_open short in
    let second = signed_ends page Sha1 password is_open short in
    rw (first, second) refl

-- the end of an answer
pub answer_ends : (a : Agent) (signature : Option IntegrityAlgorithm) (page after : List ℕ)
    → after ≡ with_signature a signature page → IsOpen page → length page ≤ 60000
    → fingerprint_refusal after (LENGTH_LIMIT - length after) ≡ None
answer_ends a None page after is is_open short =
    subst (λ (bytes : List ℕ). fingerprint_refusal bytes (LENGTH_LIMIT - length bytes) ≡ None) (sym is)
    (open_ends page is_open (omega (arith, short)))
answer_ends a (Some algorithm) page after is is_open short =
    subst (λ (bytes : List ℕ). fingerprint_refusal bytes (LENGTH_LIMIT - length bytes) ≡ None) (sym is)
    (signed_ends page algorithm a.password is_open (omega (arith, short)))

-- the answer to a check with unknown types is short
length_two : (message_type id : ℕ) (one other : TypedValue)
    → length (spelled_message message_type id (one ∷ other ∷ []))
    ≡ 20 + attribute_length (length one.value) + attribute_length (length other.value)
length_two message_type id one other =
    let sum = length-append (spelled_attribute one) (spelled_attribute other ++ []) in
    let last = ap length (append-nil (spelled_attribute other)) in
    omega (arith, sum, last, length-spelled_attribute one, length-spelled_attribute other)

pub refusal_short : (known : List AttributeType) (request : List ℕ) → length request ≤ LENGTH_LIMIT
    → length (refusing_answer known request) ≤ 33000
unfolding refusing_answer
refusal_short known request short =
    let types = unknown_types known request in
    omega (
      arith,
      length_two (type_number Error (method_of (type_field request)))
          (transaction_id_field request) unknown_attribute_error
          (record { kind = UNKNOWN_ATTRIBUTES; value = spelled_types types }),
      length_of_types types,
      few_unknown known request short,
    )
