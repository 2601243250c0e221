-- What writing does to a message.
use Rattle.std.specs.Prelude.{◌≡◌, ◌<◌, ◌≤◌, ◌^◌, ℕ, ◌+◌, ◌-◌, Bool, false, ◌||◌, ◌==◌}
use Rattle.std.specs.Prelude.{nat_lt, if◌then◌else◌, List, [], ◌∷◌, ◌++◌, length}
use Rattle.std.specs.Prelude.{Option, Some, None, MatchOption, Result, Err, IsOkUnless}
use Rattle.stun_base.specs.Attributes.{MESSAGE_INTEGRITY, MESSAGE_INTEGRITY_SHA256, FINGERPRINT}
use Rattle.stun_base.specs.Header.{HEADER_LENGTH, type_field, transaction_id_field}
use Rattle.stun_base.specs.Algorithm.{digest_length, digest}
use Rattle.stun_base.specs.MessageType.{method_of, type_number}
use Rattle.stun_base.specs.declared.keys.algorithm.IntegrityAlgorithm.{IntegrityAlgorithm}
use Rattle.stun_base.specs.declared.keys.algorithm.IntegrityAlgorithm.TheVariants.{Sha1, Sha256}
use Rattle.stun_base.specs.declared.wire.error.StunWriteError.{StunWriteError}
use Rattle.stun_base.specs.declared.wire.message_type.MessageClass.{MessageClass}
use Rattle.stun_base.specs.declared.wire.error.StunWriteError.TheVariants.{NotAllowed, TooLarge}
use Rattle.stun_base.specs.declared.wire.error.StunWriteError.TheVariants.{MessageIntegrityExists}
use Rattle.stun_base.specs.declared.wire.error.StunWriteError.TheVariants.{AttributeExists}
use Rattle.stun_base.specs.declared.wire.error.StunWriteError.TheVariants.{OutOfMemory, TooSmall}
use Rattle.stun_types.specs.Attribute.{TypedValue, attribute_length}
use Rattle.stun_types.specs.Grammar.{spelled_message, spelled_attribute}
use Rattle.stun_types.specs.Integrity.{covered_bytes, verified_by}
use Rattle.stun_types.specs.Message.{IsMessage, with_length}
use Rattle.stun_types.specs.Visible.{has_kind, visible}
use Rattle.stun_types.specs.Walk.{walk}
pub use Rattle.stun_types.specs.Limits.{max_length}

-- the length of the message with one more attribute, whose value has n bytes (RFC 8489, section 5)
abbrev pub length_with : List ℕ → ℕ → ℕ
length_with message n = length message - HEADER_LENGTH + attribute_length n

-- the message with the new length, then the attribute
abbrev pub with_attribute : List ℕ → TypedValue → List ℕ
with_attribute message attribute =
    with_length message (length_with message (length attribute.value))
    ++ spelled_attribute attribute

-- the type of the integrity attribute of an algorithm (section 18.3)
abbrev pub integrity_kind : IntegrityAlgorithm → ℕ
integrity_kind Sha1 = MESSAGE_INTEGRITY
integrity_kind Sha256 = MESSAGE_INTEGRITY_SHA256

-- the bytes that are covered by an integrity attribute at the end of a message
abbrev pub covered_at_end : List ℕ → IntegrityAlgorithm → List ℕ
covered_at_end message algorithm = covered_bytes message (length message) (digest_length algorithm)

-- the integrity attribute at the end of a message: its value is the digest of the bytes that it
-- covers (sections 14.5 and 14.6)
abbrev pub integrity_attribute : List ℕ → IntegrityAlgorithm → List ℕ → TypedValue
integrity_attribute message algorithm key = record {
  kind = integrity_kind algorithm;
  value = digest algorithm key (covered_at_end message algorithm);
}

-- the message with the new length, then its integrity attribute
abbrev pub with_integrity : List ℕ → IntegrityAlgorithm → List ℕ → List ℕ
with_integrity message algorithm key =
    with_attribute message (integrity_attribute message algorithm key)

-- the types of the integrity attributes, which only the calls that sign a message write, and the
-- type of FINGERPRINT (sections 14.5 to 14.7)
abbrev pub is_set_apart : ℕ → Bool
is_set_apart kind =
    (kind == MESSAGE_INTEGRITY) || (kind == MESSAGE_INTEGRITY_SHA256) || (kind == FINGERPRINT)

-- whether a message has an integrity attribute
abbrev pub has_integrity : List ℕ → Bool
has_integrity message =
    has_kind MESSAGE_INTEGRITY (walk message) || has_kind MESSAGE_INTEGRITY_SHA256 (walk message)

-- a message to which an attribute or an integrity attribute can be added: none of its attributes
-- hides the attributes after it
pub record IsOpen (message : List ℕ) : Type 0 where
  pub is_message : IsMessage message
  pub no_integrity : has_integrity message ≡ false
  pub no_fingerprint : has_kind FINGERPRINT (walk message) ≡ false

-- the second message is the first with one more attribute at its end, which is visible
pub record HasOneMore (before after : List ℕ) (attribute : TypedValue) : Type 0 where
  pub is_message : IsMessage after
  pub type_is : type_field after ≡ type_field before
  pub transaction_id_is : transaction_id_field after ≡ transaction_id_field before
  pub walk_is : walk after ≡ walk before ++ (length before, attribute) ∷ []
  pub visible_is : visible after ≡ visible before ++ (length before, attribute) ∷ []

-- an attribute that can be added to a message: its type has 16 bits, and with this attribute the
-- message has at most the greatest length
pub record IsAddable (message : List ℕ) (attribute : TypedValue) : Type 0 where
  pub kind : attribute.kind < 2 ^ 16
  pub value : length_with message (length attribute.value) ≤ max_length

-- the reason why a value of n bytes is refused by a writer with this much room, if there is one:
-- the length field is tested before the room
abbrev pub size_refusal : List ℕ → ℕ → ℕ → Option StunWriteError
size_refusal message room n =
    if nat_lt max_length (length_with message n) then Some TooLarge
    else (if nat_lt room (attribute_length n) then Some TooSmall else None)

-- the reason why an attribute is refused: the first that applies
abbrev pub attribute_refusal : List ℕ → ℕ → ℕ → ℕ → Option StunWriteError
attribute_refusal message room kind n =
    if is_set_apart kind then Some NotAllowed
    else (if has_integrity message then Some MessageIntegrityExists
    else (if has_kind kind (walk message) then Some (AttributeExists (record { 0 = kind }))
    else size_refusal message room n))

-- the reason why an attribute is refused if the message may already have an attribute of its type:
-- the first reason that applies
abbrev pub another_refusal : List ℕ → ℕ → ℕ → ℕ → Option StunWriteError
another_refusal message room kind n =
    if is_set_apart kind then Some NotAllowed
    else (if has_integrity message then Some MessageIntegrityExists
    else size_refusal message room n)

-- the reason why an integrity attribute is refused: the first that applies
abbrev pub signing_refusal : List ℕ → ℕ → IntegrityAlgorithm → Option StunWriteError
signing_refusal message room algorithm =
    if has_integrity message then Some MessageIntegrityExists
    else size_refusal message room (digest_length algorithm)

-- the result of a call that may fail: the call fails for this reason or, if there is none, only if
-- an allocation fails
abbrev pub RefusedBy : Option StunWriteError → Result (Unit {0}) StunWriteError → Type 0
RefusedBy refusal result =
    MatchOption refusal (IsOkUnless result OutOfMemory) (λ reason. result ≡ Err reason)

-- if the message was open, the call has added this attribute to it
abbrev pub GainsOne : List ℕ → List ℕ → TypedValue → Type 0
GainsOne before after attribute = IsOpen before → HasOneMore before after attribute

-- if the message was open, the call has added the integrity attribute for an algorithm, under a
-- key, and no other attribute
abbrev pub GainsIntegrity : List ℕ → List ℕ → IntegrityAlgorithm → List ℕ → Type 0
GainsIntegrity before after algorithm key =
    GainsOne before after (integrity_attribute before algorithm key)

-- if the message was open, it verifies after the call with this algorithm, whatever the keys for
-- other algorithms are, as long as this key is the one for this algorithm
abbrev pub VerifiesAfter : List ℕ → List ℕ → IntegrityAlgorithm → List ℕ → Type 0
VerifiesAfter before after algorithm key =
    IsOpen before → (keys : IntegrityAlgorithm → List ℕ) → keys algorithm ≡ key
    → verified_by keys after ≡ Some algorithm

-- a spelled message is spelled with one more attribute after the call
abbrev pub SpellsOneMore : List ℕ → List ℕ → TypedValue → Type 0
SpellsOneMore before after attribute =
    (kind id : ℕ) (list : List TypedValue) → before ≡ spelled_message kind id list
    → after ≡ spelled_message kind id (list ++ attribute ∷ [])

-- a message of a class and a method, without attributes
abbrev pub empty_message : MessageClass → ℕ → ℕ → List ℕ
empty_message class method id = spelled_message (type_number class method) id []

-- a message without attributes that has this class, and the method and the ID of the message that
-- it answers
abbrev pub empty_answer : MessageClass → List ℕ → List ℕ
empty_answer class message =
    empty_message class (method_of (type_field message)) (transaction_id_field message)
