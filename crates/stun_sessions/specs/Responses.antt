-- The responses of a server that end a request, at the client that has signed it (RFC 8489,
-- sections 6.3 and 9.2.4).
use Rattle.std.specs.Prelude.{◌≡◌, ◌≢◌, ◌≤◌, ◌<◌, ◌^◌, ℕ, List, length, Bool, false, Some, None}
use Rattle.std.specs.declared.net.socket_addr.SocketAddr.{SocketAddr}
use Rattle.stun_base.specs.Attributes.{ERROR_CODE}
use Rattle.stun_base.specs.Header.{transaction_id_field, type_field}
use Rattle.stun_base.specs.MessageType.{method_of}
use Rattle.stun_base.specs.declared.keys.algorithm.IntegrityAlgorithm.{IntegrityAlgorithm}
use Rattle.stun_base.specs.declared.wire.attribute_type.AttributeType.{AttributeType}
use Rattle.stun_base.specs.declared.wire.message_type.MessageClass.TheVariants as Class
use Rattle.stun_types.specs.Attribute.{TypedValue}
use Rattle.stun_types.specs.ErrorCode.{CodeAndReason, IsError}
use Rattle.stun_types.specs.Integrity.{deciding_algorithm}
use Rattle.stun_types.specs.Message.{refusal}
use Rattle.stun_types.specs.Writing.{IsAddable, empty_message, is_set_apart, with_attribute}
use Rattle.stun_judging.specs.Verdict.{ClientSeen}
use Rattle.stun_extra.specs.Errors.{error_code_attribute}
use Rattle.stun_extra.specs.Unknown.{refusing_answer}
use Rattle.stun_endpoint.specs.Answers.{with_end}
use Rattle.stun_endpoint.specs.Received.{Outcome, answered, dropped, indicated, outcome_of_accepted}
use Rattle.stun_endpoint.specs.Received.{requested, responded}
use Rattle.stun_endpoint.specs.Settings.{Settings}
use Rattle.stun_exchanges.specs.Agreement.{IsSignedAnswer}
use Rattle.stun_exchanges.specs.Exchange.{IsPage, IsResponseTo, IsServer, SendsRequired}

-- ---- responses that are begun

-- the response that `Reply::success` begins, with the method and the ID of the request
abbrev pub success_begun : List ℕ → List ℕ
success_begun request =
    empty_message Class.Success (method_of (type_field request)) (transaction_id_field request)

-- the response that `Reply::error` begins
abbrev pub error_begun : List ℕ → CodeAndReason → List ℕ
error_begun request error =
    with_attribute
    (empty_message Class.Error (method_of (type_field request)) (transaction_id_field request))
    (error_code_attribute error.code error.reason)

-- an error that ends its request: the server itself asks for credentials with 401 and 438
pub record IsFinal (error : CodeAndReason) : Type 0 where
  pub written : IsError error
  pub not_unauthenticated : error.code ≢ 401
  pub not_stale : error.code ≢ 438

-- a request as it arrives: its ID has 96 bits, and it is at most as long as a message can be
pub record IsShortRequest (request : List ℕ) : Type 0 where
  pub identified : transaction_id_field request < 2 ^ 96
  pub message : refusal request ≡ None
  pub short : length request ≤ 65552

abbrev pub SuccessesBegin : Type 0
SuccessesBegin =
    (request : List ℕ) → transaction_id_field request < 2 ^ 96
    → IsPage request (success_begun request)

abbrev pub ErrorsArePages : Type 0
ErrorsArePages =
    (request : List ℕ) (error : CodeAndReason) → transaction_id_field request < 2 ^ 96
    → IsFinal error → IsPage request (error_begun request error)

-- an attribute that the caller may add to a response that is begun
pub record IsMore (page : List ℕ) (attribute : TypedValue) : Type 0 where
  pub fits : IsAddable page attribute
  pub plain : is_set_apart attribute.kind ≡ false
  pub no_code : attribute.kind ≢ ERROR_CODE
  pub short : length (with_attribute page attribute) ≤ 60000

abbrev pub AddingKeepsPages : Type 0
AddingKeepsPages =
    (request page : List ℕ) (attribute : TypedValue) → IsPage request page → IsMore page attribute
    → IsPage request (with_attribute page attribute)

-- the 420 of a server that understands these types
abbrev pub UnknownIsPage : Type 0
UnknownIsPage =
    (known : List AttributeType) (request : List ℕ) → IsShortRequest request
    → IsPage request (refusing_answer known request)

-- ---- answers

-- a response answers a request at the client that has signed it with a key, and ends it there
pub record EndsAtClient (required : Bool) (request key : List ℕ) (a : IntegrityAlgorithm)
    (response : List ℕ) : Type 0 where
  pub answers : IsResponseTo required request response
  pub signed : IsSignedAnswer required response key a

-- the outcome of an accepted request ends it: the answer of the server itself, or whatever page the
-- caller ends with `Reply::finish`
abbrev pub OutcomeEnds : Bool → List ℕ → List ℕ → IntegrityAlgorithm → Outcome → Type 0
OutcomeEnds required request key a (answered answer) =
    EndsAtClient required request key a answer.bytes
OutcomeEnds required request key a (requested accepted) =
    (page : List ℕ) → IsPage request page
    → EndsAtClient required request key a (with_end accepted.reply.ending page)
OutcomeEnds required request key a (indicated bytes) = ⊥
OutcomeEnds required request key a (responded bytes) = ⊥
OutcomeEnds required request key a (dropped why) = ⊥

abbrev pub AcceptedAreAnswered : Type 0
AcceptedAreAnswered =
    (s : Settings) (key : List ℕ) (from : SocketAddr) (request : List ℕ) (client : ClientSeen)
    (required : Bool) (a : IntegrityAlgorithm) → IsServer s → IsShortRequest request
    → SendsRequired required request → deciding_algorithm request ≡ Some a
    → OutcomeEnds required request key a (outcome_of_accepted s key from request client)
