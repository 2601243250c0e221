-- The outcome of a datagram (RFC 8445, sections 7.2.5, 7.3 and 11). It is a function of the agent,
-- the check that may be answered, the source and the datagram.
use Rattle.std.specs.Prelude.{ℕ, List, Bool, true, false, if◌then◌else◌, Option, Some, None}
use Rattle.std.specs.Option.{is_some}
use Rattle.std.specs.declared.net.socket_addr.SocketAddr.{SocketAddr}
use Rattle.stun_base.specs.Header.{header_refusal}
use Rattle.stun_base.specs.MessageType.{class_in}
use Rattle.stun_base.specs.declared.wire.message_type.MessageClass.{MessageClass}
use Rattle.stun_base.specs.declared.wire.message_type.MessageClass.TheVariants.{Request}
use Rattle.stun_base.specs.declared.wire.message_type.MessageClass.TheVariants.{Indication}
use Rattle.stun_base.specs.declared.wire.message_type.MessageClass.TheVariants.{Success, Error}
use Rattle.stun_types.specs.Message.{refusal}
use Rattle.stun_extra.specs.Binding.{is_binding}
use Rattle.stun_extra.specs.Fingerprint.{fingerprint_in}
use Rattle.stun_extra.specs.Unknown.{is_empty, unknown_types}
use Rattle.stun_extra.specs.declared.fingerprint.Fingerprint.{Fingerprint}
use Rattle.stun_extra.specs.declared.fingerprint.Fingerprint.TheVariants.{Right, Wrong}
use Rattle.stun_extra.specs.declared.fingerprint.Fingerprint.TheVariants.{Misplaced, Absent}
use Rattle.stun_ice.specs.Agent.{Agent, SentCheck}
use Rattle.stun_ice.specs.Answers.{answer_of}
use Rattle.stun_ice.specs.Checks.{judged_of, role_of, verdict_of}
use Rattle.stun_ice.specs.Parts.{UNDERSTOOD}
use Rattle.stun_ice.specs.Responses.{is_answered, is_signed, of_path}
use Rattle.stun_ice.specs.Roles.{opposite}
use Rattle.stun_ice.specs.declared.checker.receiving.Judgement.{Judgement}
use Rattle.stun_ice.specs.declared.checker.receiving.Judgement.TheVariants.{Check, Response}
use Rattle.stun_ice.specs.declared.checker.receiving.Judgement.TheVariants.{Indication as Keepalive}
use Rattle.stun_ice.specs.declared.checker.receiving.Judgement.TheVariants.{Dropped}
use Rattle.stun_ice.specs.declared.received.DropReason.{DropReason}
use Rattle.stun_ice.specs.declared.received.DropReason.TheVariants.{NotStun, Malformed, NotAsked}
use Rattle.stun_ice.specs.declared.received.DropReason.TheVariants.{WrongFingerprint, OtherMethod}
use Rattle.stun_ice.specs.declared.received.DropReason.TheVariants.{UnknownAttribute}
use Rattle.stun_ice.specs.declared.received.DropReason.TheVariants.{WrongSignature}
use Rattle.stun_ice.specs.declared.received.Judged.{Judged}
use Rattle.stun_ice.specs.declared.received.Outcome.{Outcome}
use Rattle.stun_ice.specs.declared.received.Outcome.TheVariants.{Failed, RoleConflict, Valid}
use Rattle.stun_ice.specs.declared.received.Received.{Received}
use Rattle.stun_ice.specs.declared.received.Received.TheVariants as code
use Rattle.stun_ice.specs.declared.role.Role.{Role}

-- ---- how a datagram is judged

-- why bytes that are not a message are dropped
abbrev pub no_message : List ℕ → DropReason
no_message bytes = if is_some (header_refusal bytes) then NotStun else Malformed

-- an indication keeps a path open (section 11). It is dropped if it has an attribute that the agent
-- must understand but does not (RFC 8489, section 6.3.2)
abbrev pub of_indication : List ℕ → Judgement
of_indication bytes =
    if is_empty (unknown_types UNDERSTOOD bytes) then Keepalive bytes else Dropped UnknownAttribute

-- a response must answer the check and be signed by the peer
abbrev pub by_response : Agent → Option SentCheck → SocketAddr → List ℕ → Judgement
by_response a None from bytes = Dropped NotAsked
by_response a (Some check) from bytes =
    if is_answered check bytes
    then if is_signed a bytes then Response (of_path a.role check from bytes)
    else Dropped WrongSignature
    else Dropped NotAsked

-- the outcome of a message, by its class
abbrev pub by_class : Agent → Option SentCheck → SocketAddr → List ℕ → MessageClass → Judgement
by_class a check from bytes Request = Check bytes (verdict_of a bytes)
by_class a check from bytes Indication = of_indication bytes
by_class a check from bytes Success = by_response a check from bytes
by_class a check from bytes Error = by_response a check from bytes

-- a message must have a valid FINGERPRINT and the method Binding
abbrev pub by_fingerprint : Agent → Option SentCheck → SocketAddr → List ℕ → Fingerprint
    → Judgement
by_fingerprint a check from bytes Right =
    if is_binding bytes then by_class a check from bytes (class_in bytes) else Dropped OtherMethod
by_fingerprint a check from bytes Wrong = Dropped WrongFingerprint
by_fingerprint a check from bytes Misplaced = Dropped WrongFingerprint
by_fingerprint a check from bytes Absent = Dropped WrongFingerprint

-- the outcome of a datagram, before an answer is written
abbrev pub judgement_of : Agent → Option SentCheck → SocketAddr → List ℕ → Judgement
judgement_of a check from bytes =
    if is_some (refusal bytes) then Dropped (no_message bytes)
    else by_fingerprint a check from bytes (fingerprint_in bytes)

-- whether a datagram is judged as a check of the peer: all others get no answer
abbrev pub is_check : Judgement → Bool
is_check (Check bytes verdict) = true
is_check (Response outcome) = false
is_check (Keepalive bytes) = false
is_check (Dropped reason) = false

-- ---- what is returned to the caller

-- what is returned to the caller for a datagram: a check with its answer and its outcome, the end
-- of the agent's own check, an indication, or why the datagram is dropped
pub data Given : Type 0 where
  checked : List ℕ → List ℕ → Judged → Given
  responded : Outcome → Given
  indicated : List ℕ → Given
  dropped : DropReason → Given

abbrev pub given : Agent → SocketAddr → Judgement → Given
given a from (Check bytes verdict) =
    checked bytes (answer_of a from bytes verdict) (judged_of a.role verdict)
given a from (Response outcome) = responded outcome
given a from (Keepalive bytes) = indicated bytes
given a from (Dropped reason) = dropped reason

-- the result of `receive`, as this type
-- its own law: each variant has the parts of the same name
abbrev pub given_of : {A : Type 0} → Received A → Given
given_of (code.Check message answer judged) = checked message answer.items judged
given_of (code.Response outcome) = responded outcome
given_of (code.Indication message) = indicated message
given_of (code.Dropped reason) = dropped reason

-- ---- the role of the agent afterwards

abbrev pub role_after_outcome : Role → Outcome → Role
role_after_outcome role (Valid mapped) = role
role_after_outcome role (RoleConflict switched) = if switched then opposite role else role
role_after_outcome role (Failed failure) = role

-- the role of an agent after a datagram, given its role before it
abbrev pub role_left : Role → Judgement → Role
role_left role (Check bytes verdict) = role_of role verdict
role_left role (Response outcome) = role_after_outcome role outcome
role_left role (Keepalive bytes) = role
role_left role (Dropped reason) = role
