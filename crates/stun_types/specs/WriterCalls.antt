-- The clauses that several calls of a writer share. Each record takes the ghost members of the
-- writer: its bytes, its room, and the number of reserved bytes.
use Rattle.std.specs.Prelude.{◌≡◌, ◌<◌, ◌≤◌, ◌↔◌, ℕ, ◌+◌, List, [], length, Option, None}
use Rattle.std.specs.Prelude.{Result, IfOk, IsErrOf, IsOk, IsOkUnless, OnErr, OnOk}
use Rattle.stun_base.specs.Header.{HEADER_LENGTH}
use Rattle.stun_base.specs.Algorithm.{digest_length}
use Rattle.stun_base.specs.declared.keys.algorithm.IntegrityAlgorithm.{IntegrityAlgorithm}
use Rattle.stun_base.specs.declared.wire.error.StunWriteError.{StunWriteError}
use Rattle.stun_base.specs.declared.wire.error.StunWriteError.TheVariants.{OutOfMemory, TooSmall}
use Rattle.stun_types.specs.Attribute.{TypedValue, attribute_length}
use Rattle.stun_types.specs.Walk.{walk}
use Rattle.stun_types.specs.Writing.{GainsIntegrity, GainsOne, IsOpen, RefusedBy}
use Rattle.stun_types.specs.Writing.{SpellsOneMore, VerifiesAfter, signing_refusal}
use Rattle.stun_types.specs.Writing.{with_attribute, with_integrity}

-- a call that begins a message without attributes in an empty writer
pub record Begins {W : Type 0} (grants : Type 0) (bytes_of : W → List ℕ) (room_of reserved_of : W → ℕ) (writer : W)
    (message : List ℕ) (result : Result W StunWriteError) : Type 0 where
  pub bytes : IfOk result (λ built. bytes_of built ≡ message)
  pub «open» : IfOk result (λ built. IsOpen (bytes_of built))
  pub empty : IfOk result (λ built. walk (bytes_of built) ≡ [])
  pub room : IfOk result (λ built. room_of built + HEADER_LENGTH ≡ room_of writer)
  -- it fails with TooSmall if and only if the header does not fit
  pub too_small : IsErrOf result TooSmall ↔ (room_of writer < HEADER_LENGTH)
  -- if the header fits, the call fails only if an allocation fails
  pub otherwise_memory : HEADER_LENGTH ≤ room_of writer → IsOkUnless result OutOfMemory
  -- it succeeds if the bytes are reserved already
  pub succeeds : HEADER_LENGTH ≤ reserved_of writer → IsOk result
  -- it succeeds if the header fits and no allocation fails
  pub granted : grants → HEADER_LENGTH ≤ room_of writer → IsOk result

-- a call that adds an attribute, unless there is a reason why the attribute is refused
pub record AddsAttribute {W : Type 0} (grants : Type 0) (bytes_of : W → List ℕ) (room_of reserved_of : W → ℕ)
    (old new : W) (refusal : Option StunWriteError) (attribute : TypedValue)
    (result : Result (Unit {0}) StunWriteError) : Type 0 where
  -- it fails with the first reason that applies and, if there is none, only if an allocation fails
  pub refused : RefusedBy refusal result
  pub bytes : OnOk result (bytes_of new ≡ with_attribute (bytes_of old) attribute)
  -- it succeeds if the bytes are reserved already and there is no reason
  pub succeeds : refusal ≡ None
      → attribute_length (length attribute.value) ≤ reserved_of old → IsOk result
  -- it also succeeds if there is no reason and no allocation fails
  pub granted : grants → refusal ≡ None → IsOk result
  -- a reader finds the earlier attributes, followed by this one
  pub added : OnOk result (GainsOne (bytes_of old) (bytes_of new) attribute)
  pub «open» : OnOk result (IsOpen (bytes_of old) → IsOpen (bytes_of new))
  pub spelled : OnOk result (SpellsOneMore (bytes_of old) (bytes_of new) attribute)
  pub room : OnOk result (room_of new + attribute_length (length attribute.value) ≡ room_of old)
  pub reserved : OnOk result (reserved_of old
      ≤ reserved_of new + attribute_length (length attribute.value))
  -- after an error, the bytes and the room are unchanged
  pub err : OnErr result ((bytes_of new ≡ bytes_of old) × (room_of new ≡ room_of old))
  -- after an error, reserved bytes stay reserved
  pub kept : OnErr result (reserved_of old ≤ reserved_of new)

-- a call that signs a message with an algorithm and a key, unless there is a reason to refuse it
pub record Signs {W : Type 0} (grants : Type 0) (bytes_of : W → List ℕ) (room_of reserved_of : W → ℕ) (old new : W)
    (algorithm : IntegrityAlgorithm) (key : List ℕ)
    (result : Result (Unit {0}) StunWriteError) : Type 0 where
  -- it fails with the first reason that applies and, if there is none, only if an allocation fails
  pub refused : RefusedBy (signing_refusal (bytes_of old) (room_of old) algorithm) result
  -- it succeeds if the bytes are reserved already and there is no reason
  pub succeeds : signing_refusal (bytes_of old) (room_of old) algorithm ≡ None
      → attribute_length (digest_length algorithm) ≤ reserved_of old → IsOk result
  -- it also succeeds if there is no reason and no allocation fails
  pub granted : grants → signing_refusal (bytes_of old) (room_of old) algorithm ≡ None
      → IsOk result
  pub bytes : OnOk result (bytes_of new ≡ with_integrity (bytes_of old) algorithm key)
  -- a reader finds the earlier attributes, followed by the integrity attribute
  pub added : OnOk result (GainsIntegrity (bytes_of old) (bytes_of new) algorithm key)
  -- the integrity attribute has the digest that a reader compares
  pub stands : OnOk result (VerifiesAfter (bytes_of old) (bytes_of new) algorithm key)
  pub room : OnOk result (room_of new + attribute_length (digest_length algorithm) ≡ room_of old)
  -- after an error, the bytes and the room are unchanged
  pub err : OnErr result ((bytes_of new ≡ bytes_of old) × (room_of new ≡ room_of old))
  -- after an error, reserved bytes stay reserved
  pub kept : OnErr result (reserved_of old ≤ reserved_of new)

-- a call that signs a message without looking for a reason to refuse it, so that only an
-- allocation can fail
pub record SignsUnchecked {W E : Type 0} (grants : Type 0) (bytes_of : W → List ℕ) (room_of reserved_of : W → ℕ)
    (old new : W) (algorithm : IntegrityAlgorithm) (key : List ℕ)
    (result : Result (Unit {0}) E) : Type 0 where
  -- it succeeds if the bytes are reserved already
  pub succeeds : attribute_length (digest_length algorithm) ≤ reserved_of old → IsOk result
  -- it also succeeds if no allocation fails
  pub granted : grants → IsOk result
  pub bytes : OnOk result (bytes_of new ≡ with_integrity (bytes_of old) algorithm key)
  -- a reader finds the earlier attributes, followed by the integrity attribute
  pub added : OnOk result (GainsIntegrity (bytes_of old) (bytes_of new) algorithm key)
  -- the integrity attribute has the digest that a reader compares
  pub stands : OnOk result (VerifiesAfter (bytes_of old) (bytes_of new) algorithm key)
  pub room : OnOk result (room_of new + attribute_length (digest_length algorithm) ≡ room_of old)
  -- after an error, the bytes and the room are unchanged
  pub err : OnErr result ((bytes_of new ≡ bytes_of old) × (room_of new ≡ room_of old))
  -- after an error, reserved bytes stay reserved
  pub kept : OnErr result (reserved_of old ≤ reserved_of new)
