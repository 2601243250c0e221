-- How a server of every kind responds: why it drops a datagram, what it understands, and the
-- responses that it writes by itself (RFC 8489, sections 6.3 and 14.8).
use Rattle.std.specs.Prelude.{ℕ, List, Bool, ◌&&◌}
use Rattle.std.specs.Prelude.{if◌then◌else◌, Option, Some, None}
use Rattle.std.specs.Option.{is_none, is_some}
use Rattle.std.specs.declared.net.socket_addr.SocketAddr.{SocketAddr}
use Rattle.stun_base.specs.Header.{header_refusal, transaction_id_field, type_field}
use Rattle.stun_base.specs.MessageType.{class_in, is_request, method_of}
use Rattle.stun_base.specs.declared.wire.attribute_type.AttributeType.{AttributeType}
use Rattle.stun_types.specs.Message.{refusal}
pub use Rattle.stun_extra.specs.Binding.{is_binding}
use Rattle.stun_extra.specs.Fingerprint.{fingerprint_in}
pub use Rattle.stun_extra.specs.Unknown.{is_empty}
use Rattle.stun_extra.specs.Unknown.{refusing_answer, unknown_types}
use Rattle.stun_extra.specs.declared.fingerprint.Fingerprint.{Fingerprint}
use Rattle.stun_extra.specs.declared.fingerprint.Fingerprint.TheVariants.{Right, Wrong}
use Rattle.stun_extra.specs.declared.fingerprint.Fingerprint.TheVariants.{Misplaced, Absent}
use Rattle.stun_endpoint.specs.Answers.{Ending, Signature, binding_page, error_page}
use Rattle.stun_endpoint.specs.Answers.{is_fingerprinted, with_end}
use Rattle.stun_endpoint.specs.Refusals.{code_of, phrase_of}
use Rattle.stun_endpoint.specs.declared.received.DropReason.{DropReason}
use Rattle.stun_endpoint.specs.declared.received.DropReason.TheVariants.{NotStun, Malformed}
use Rattle.stun_endpoint.specs.declared.received.DropReason.TheVariants.{WrongFingerprint}
use Rattle.stun_endpoint.specs.declared.received.DropReason.TheVariants.{MissingFingerprint}
use Rattle.stun_endpoint.specs.declared.received.Refusal.{Refusal}
use Rattle.stun_endpoint.specs.declared.received.Refusal.TheVariants as refused

-- a response to send: its bytes, its destination, and how it refuses the request, if it does
pub record Answer : Type 0 where
  pub to : SocketAddr
  pub refusal : Option Refusal
  pub bytes : List ℕ

-- what is needed to respond to a request: its method, its ID, the destination of the response, and
-- what each response ends with
pub record Reply : Type 0 where
  pub method : ℕ
  pub id : ℕ
  pub to : SocketAddr
  pub ending : Ending

-- the outcome of a datagram at a server of any kind: `R` describes a request that is returned to
-- the caller, and `I` an indication
pub data OutcomeOf (R I : Type 0) : Type 0 where
  answered : Answer → OutcomeOf R I
  requested : R → OutcomeOf R I
  indicated : I → OutcomeOf R I
  responded : List ℕ → OutcomeOf R I
  dropped : DropReason → OutcomeOf R I

-- ---- why a datagram is dropped, whatever its class is

-- why a message is dropped because of its FINGERPRINT (sections 7.3 and 14.7). One that is not the
-- last attribute, or whose value does not have 4 bytes, is as wrong as one with another CRC. There
-- must be one if the server requires it
abbrev pub fault_of : Bool → Fingerprint → Option DropReason
fault_of required Right = None
fault_of required Wrong = Some WrongFingerprint
fault_of required Misplaced = Some WrongFingerprint
fault_of required Absent = if required then Some MissingFingerprint else None

-- why a datagram that is not a message is dropped: it has no header, or is not what its header says
-- header
abbrev pub no_message : List ℕ → DropReason
no_message bytes = if is_some (header_refusal bytes) then NotStun else Malformed

-- why a datagram is dropped, if it is: it is not a message, or because of its FINGERPRINT (section
-- 7.3), at a server that requires FINGERPRINT or does not
abbrev pub drop_reason : Bool → List ℕ → Option DropReason
drop_reason required bytes =
    if is_some (refusal bytes) then Some (no_message bytes)
    else fault_of required (fingerprint_in bytes)

-- the outcome of a datagram, unless there is a reason to drop it
abbrev pub unless_dropped : {R I : Type 0} → OutcomeOf R I → Option DropReason → OutcomeOf R I
unless_dropped outcome None = outcome
unless_dropped outcome (Some why) = dropped why

-- whether a datagram is a request that is not dropped: all others get no response
abbrev pub is_undropped_request : Bool → List ℕ → Bool
is_undropped_request required bytes =
    is_none (drop_reason required bytes) && is_request (class_in bytes)

-- ---- what a server understands, and what it adds to its responses

pub record Responding : Type 0 where
  -- the types of attributes that are understood
  pub known : List AttributeType
  -- the text of SOFTWARE
  pub software : Option (List ℕ)
  -- whether the server itself responds to a Binding request
  pub answers_binding : Bool
  -- whether a message without FINGERPRINT is dropped
  pub requires_fingerprint : Bool

-- the end of each response to a request, which has this signature or is not signed
abbrev pub ending_by : Responding → Option Signature → List ℕ → Ending
ending_by s by request = record {
  software = s.software;
  signature = by;
  has_fingerprint = is_fingerprinted request;
}

-- the means to respond to a request
abbrev pub reply_by : Responding → Option Signature → SocketAddr → List ℕ → Reply
reply_by s by from request = record {
  method = method_of (type_field request);
  id = transaction_id_field request;
  to = from;
  ending = ending_by s by request;
}

-- ---- the responses that a server writes by itself

-- the 420 to an accepted request, with the types that are not understood (section 6.3.1)
unfoldable pub unknown_by : Responding → Option Signature → SocketAddr → List ℕ → Answer
unknown_by s by from request = record {
  to = from;
  refusal = Some refused.UnknownAttribute;
  bytes = with_end (ending_by s by request) (refusing_answer s.known request);
}

-- the success response to an accepted Binding request
unfoldable pub binding_by : Responding → Option Signature → SocketAddr → List ℕ → Answer
binding_by s by from request = record {
  to = from;
  refusal = None;
  bytes = with_end (ending_by s by request) (binding_page from request);
}

-- the server's own response to an accepted request, if it has one. A request with attributes that
-- are not understood gets a 420, and a Binding request its answer. All others are returned to the
-- caller
abbrev pub own_answer : Responding → Option Signature → SocketAddr → List ℕ → Option Answer
own_answer s by from request =
    if is_empty (unknown_types s.known request)
    then if s.answers_binding && is_binding request then Some (binding_by s by from request)
    else None
    else Some (unknown_by s by from request)

-- an error response that is not signed, with ERROR-CODE alone
unfoldable pub refusal_by : Responding → Refusal → SocketAddr → List ℕ → Answer
refusal_by s refusal from request = record {
  to = from;
  refusal = Some refusal;
  bytes = with_end (ending_by s None request)
      (error_page request (code_of refusal) (phrase_of refusal));
}
