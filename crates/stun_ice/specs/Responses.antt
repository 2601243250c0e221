-- The outcome of the answer to a check (RFC 8445, section 7.2.5).
use Rattle.std.specs.Prelude.{◌≡◌, ℕ, List, [], ◌∷◌, Bool, true, false, ◌==◌}
use Rattle.std.specs.Prelude.{if◌then◌else◌, Option, Some, None}
use Rattle.std.specs.declared.net.socket_addr.SocketAddr.{SocketAddr}
use Rattle.stun_base.specs.Header.{transaction_id_field, type_field}
use Rattle.stun_base.specs.MessageType.{class_in, method_of}
use Rattle.stun_base.specs.declared.keys.algorithm.IntegrityAlgorithm.{IntegrityAlgorithm}
use Rattle.stun_base.specs.declared.keys.algorithm.IntegrityAlgorithm.TheVariants.{Sha1, Sha256}
use Rattle.stun_base.specs.declared.wire.attribute_type.AttributeType.{AttributeType}
use Rattle.stun_base.specs.declared.wire.message_type.MessageClass.{MessageClass}
use Rattle.stun_base.specs.declared.wire.message_type.MessageClass.TheVariants.{Request}
use Rattle.stun_base.specs.declared.wire.message_type.MessageClass.TheVariants.{Indication}
use Rattle.stun_base.specs.declared.wire.message_type.MessageClass.TheVariants.{Success, Error}
use Rattle.stun_types.specs.ErrorCode.{CodeAndReason}
use Rattle.stun_types.specs.Integrity.{verified_algorithm}
use Rattle.stun_types.specs.Message.{refusal}
use Rattle.stun_types.specs.XorMappedAddress.{XoredAddress}
use Rattle.stun_extra.specs.CanonicalAddress.{is_same_address}
use Rattle.stun_extra.specs.Fingerprint.{fingerprint_in}
use Rattle.stun_extra.specs.Unknown.{unknown_types}
use Rattle.stun_extra.specs.declared.fingerprint.Fingerprint.TheVariants.{Right}
use Rattle.stun_ice.specs.Agent.{Agent, Peer, SentCheck}
use Rattle.stun_ice.specs.Parts.{UNDERSTOOD, error_in, mapped_address_in}
use Rattle.stun_ice.specs.Roles.{is_same_role}
use Rattle.stun_ice.specs.declared.received.Failure.TheVariants.{Error as ErrorFailure}
use Rattle.stun_ice.specs.declared.received.Failure.TheVariants.{Malformed, NotUnderstood}
use Rattle.stun_ice.specs.declared.received.Failure.TheVariants.{OtherPath}
use Rattle.stun_ice.specs.declared.received.Mapped.{Mapped}
use Rattle.stun_ice.specs.declared.received.Outcome.{Outcome}
use Rattle.stun_ice.specs.declared.received.Outcome.TheVariants.{Failed, RoleConflict, Valid}
use Rattle.stun_ice.specs.declared.role.Role.{Role}

-- whether a response has the ID of a check
abbrev pub is_answered : SentCheck → List ℕ → Bool
is_answered check bytes = check.id == transaction_id_field bytes

-- whether a digest has the algorithm with which an agent signs its checks
abbrev pub is_by_sha1 : Option IntegrityAlgorithm → Bool
is_by_sha1 (Some Sha1) = true
is_by_sha1 (Some Sha256) = false
is_by_sha1 None = false

-- the algorithm of a digest that verifies under the password of the peer, if that is known
abbrev pub peer_algorithm : Option Peer → List ℕ → Option IntegrityAlgorithm
peer_algorithm None bytes = None
peer_algorithm (Some peer) bytes = verified_algorithm bytes peer.password

-- whether a response is signed by the peer (section 7.2.2)
abbrev pub is_signed : Agent → List ℕ → Bool
is_signed a bytes = is_by_sha1 (peer_algorithm a.peer bytes)

-- ---- when a pair is valid

-- a datagram from an address makes the pair of a check valid: it is a success response to the
-- check, with a valid FINGERPRINT, and comes from the address that the check was sent to. Its
-- digest verifies under the password of the peer, the agent understands all attributes that it must
-- understand, and XOR-MAPPED-ADDRESS has the address from which the peer saw the check arrive
pub record IsValid (a : Agent) (check : SentCheck) (from : SocketAddr) (bytes : List ℕ)
    (mapped : Mapped) : Type 0 where
  pub message : refusal bytes ≡ None
  pub fingerprint : fingerprint_in bytes ≡ Right
  pub class : class_in bytes ≡ Success
  pub method : method_of (type_field bytes) ≡ 1
  pub id : transaction_id_field bytes ≡ check.id
  pub digest : peer_algorithm a.peer bytes ≡ Some Sha1
  pub path : is_same_address from check.to ≡ true
  pub understood : unknown_types UNDERSTOOD bytes ≡ []
  pub address : mapped_address_in bytes ≡ Some mapped.attribute
  pub of_id : mapped.id ≡ transaction_id_field bytes

-- ---- in which order a response is judged

-- a success must have the address (section 7.2.5.3)
abbrev pub of_address : List ℕ → Option XoredAddress → Outcome
of_address bytes None = Failed Malformed
of_address bytes (Some address) =
    Valid (record { attribute = address; id = transaction_id_field bytes })

abbrev pub of_success : List ℕ → Outcome
of_success bytes = of_address bytes (mapped_address_in bytes)

-- a 487 switches the role of an agent that still has the role of the check (section 7.2.5.1). Any
-- other error ends the check as failed (section 7.2.5.2.4)
abbrev pub of_error : Role → Role → Option CodeAndReason → Outcome
of_error role sent None = Failed Malformed
of_error role sent (Some error) =
    if error.code == 487 then RoleConflict (is_same_role role sent)
    else Failed (ErrorFailure error.code)

abbrev pub of_response : Role → SentCheck → List ℕ → MessageClass → Outcome
of_response role check bytes Success = of_success bytes
of_response role check bytes Error = of_error role check.role (error_in bytes)
of_response role check bytes Request = of_error role check.role (error_in bytes)
of_response role check bytes Indication = of_error role check.role (error_in bytes)

-- before the class is considered, all attributes must be understood (RFC 8489, sections 6.3.3 and
-- 6.3.4)
abbrev pub of_unknown : Role → SentCheck → List ℕ → List AttributeType → Outcome
of_unknown role check bytes [] = of_response role check bytes (class_in bytes)
of_unknown role check bytes (kind ∷ kinds) = Failed (NotUnderstood kind)

-- before its attributes are read, the source of the response is compared with the address that the
-- check was sent to (section 7.2.5.2.1)
abbrev pub of_path : Role → SentCheck → SocketAddr → List ℕ → Outcome
of_path role check from bytes =
    if is_same_address from check.to
    then of_unknown role check bytes (unknown_types UNDERSTOOD bytes)
    else Failed OtherPath
