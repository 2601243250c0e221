-- A client and a server that meet (RFC 8489, sections 9.2.3 to 9.2.5), computed step by step over
-- the bytes of their messages: a request, its challenge, the request with credentials, its success.
-- All are Binding messages, without attributes except those of signing and ERROR-CODE.
use Rattle.std.specs.Prelude.{ℕ, List, [], ◌∷◌, true}
use Rattle.std.specs.declared.result.Result.{Result}
use Rattle.std.specs.declared.result.Result.TheVariants.{Ok, Err}
use Rattle.std.specs.declared.net.socket_addr.SocketAddr.{SocketAddr}
use Rattle.stun_base.specs.MessageType.{type_number}
use Rattle.stun_base.specs.declared.keys.algorithm.IntegrityAlgorithm.{IntegrityAlgorithm}
use Rattle.stun_base.specs.declared.wire.error.StunWriteError.{StunWriteError}
use Rattle.stun_base.specs.declared.wire.message_type.MessageClass.TheVariants as Class
use Rattle.stun_types.specs.ErrorCode.{CodeAndReason, default_reason}
use Rattle.stun_types.specs.Grammar.{spelled_message}
use Rattle.stun_auth.specs.declared.client.answer.LongTermClientAuthErrorReason.TheVariants
    as Client
use Rattle.stun_auth.specs.declared.client.answer.LongTermClientValidation.TheVariants as Read
use Rattle.stun_auth.specs.declared.server.reason.LongTermServerAuthErrorReason.TheVariants
    as Server
use Rattle.stun_auth.specs.declared.server.reason.LongTermServerValidation.TheVariants as Served
use Rattle.stun_judging.specs.Additions.{Page, added_all, page_of}
use Rattle.stun_auth.specs.Client.{ClientSettings, ClientState}
use Rattle.stun_auth.specs.ClientSigning.{client_additions}
use Rattle.stun_auth.specs.ClientStep.{ClientAnswer, ClientStep, client_step}
use Rattle.stun_judging.specs.Reading.{UNAUTHORIZED, Reading, reading_of}
use Rattle.stun_auth.specs.Server.{Sight}
use Rattle.stun_auth.specs.ServerSigning.{after_signing, server_signed}
use Rattle.stun_judging.specs.Signed.{error_attribute}
use Rattle.stun_auth.specs.Validation.{Answer, ServerSeen, after_validation, answer, sight}
use Rattle.stun_proto.specs.Serving.{after_calls}
use Rattle.stun_proto.specs.declared.replay.call.ServerCall.{ServerCall}
use Rattle.stun_proto.specs.declared.replay.negotiation.Outcome.{Outcome}
use Rattle.stun_proto.specs.declared.replay.negotiation.Outcome.TheVariants.{Validated}
use Rattle.stun_proto.specs.declared.replay.negotiation.Outcome.TheVariants.{AlreadyValidated}
use Rattle.stun_proto.specs.declared.replay.negotiation.Outcome.TheVariants.{ServerRefused}
use Rattle.stun_proto.specs.declared.replay.negotiation.Outcome.TheVariants.{ClientRefused}

-- ---- who meets

-- A request and its answer: the ID, the time at which the server reads the request, and the random
-- words of a nonce. `before` has the server's calls just before the 401 is read, or before the
-- second request is
pub record Round : Type 0 where
  pub id : ℕ
  pub now : ℕ
  pub words : List ℕ
  pub before : List ServerCall

-- the client's settings, its address, and its two requests
pub record Meeting : Type 0 where
  pub settings : ClientSettings
  pub from : SocketAddr
  pub first : Round
  pub second : Round

-- how a run ends, with an outcome or with a signing that is refused, and how both sides are left
pub record Met : Type 0 where
  pub ending : Result Outcome StunWriteError
  pub client : ClientState
  pub server : ServerSeen

-- ---- messages before they are signed

-- the method of a Binding (section 18.2)
abbrev pub BINDING : ℕ
BINDING = 1

-- a Binding request without attributes
unfoldable pub request : ℕ → List ℕ
request id = spelled_message (type_number Class.Request BINDING) id []

-- its success, without attributes
unfoldable pub success : ℕ → List ℕ
success id = spelled_message (type_number Class.Success BINDING) id []

-- the error of a code, with the phrase of that code (section 14.8)
abbrev pub error : ℕ → CodeAndReason
error code = record { code = code; reason = default_reason code }

-- its error, with ERROR-CODE alone
unfoldable pub failure : ℕ → ℕ → List ℕ
failure code id =
    spelled_message (type_number Class.Error BINDING) id (error_attribute (error code) ∷ [])

-- ---- signed messages

-- a request that the client signs
unfoldable pub client_request : ℕ → ClientState → Result Page StunWriteError
client_request id state = added_all (client_additions true state) (page_of (request id))

-- a response that the server signs
unfoldable pub server_response : List ℕ → Sight → Result Page StunWriteError
server_response message s = server_signed s true (page_of message)

-- ---- the steps, the last ones first

-- a signing is refused
abbrev pub ending_unwritten : StunWriteError → ClientState → ServerSeen → Met
ending_unwritten reason state server =
    record { ending = Err reason; client = state; server = server }

abbrev pub ending_with : Outcome → ClientState → ServerSeen → Met
ending_with outcome state server = record { ending = Ok outcome; client = state; server = server }

-- the success: read by the client
abbrev pub outcome_of_success : IntegrityAlgorithm → ClientAnswer → Outcome
outcome_of_success a (Ok (Read.Validated b)) = Validated a
outcome_of_success a (Ok (Read.ResendRequest b)) = ClientRefused Client.Unauthorized
outcome_of_success a (Err reason) = ClientRefused reason

abbrev pub success_read : IntegrityAlgorithm → ServerSeen → ClientStep → Met
success_read a server step = ending_with (outcome_of_success a step.answer) step.state server

-- signed by the server
abbrev pub success_sent : Meeting → IntegrityAlgorithm → ClientState → ServerSeen
    → Result Page StunWriteError → Met
success_sent m a state server (Err reason) = ending_unwritten reason state server
success_sent m a state server (Ok page) =
    success_read a (after_signing server m.from true)
    (client_step m.settings state (reading_of page.bytes))

-- the second request: answered by the server
abbrev pub second_answered : Meeting → ClientState → ServerSeen → Answer → Met
second_answered m state server (Err reason) = ending_with (ServerRefused reason) state server
second_answered m state server (Ok (Served.Validated a)) =
    success_sent m a state server (server_response (success m.second.id) (sight server m.from))

abbrev pub second_read : Meeting → ClientState → ServerSeen → Reading → Met
second_read m state server r =
    second_answered m state (after_validation server m.from m.second.now m.second.words r)
    (answer (sight server m.from) m.second.now m.second.words r)

-- signed by the client, and read by the server after the second list of calls
abbrev pub second_asked : Meeting → ClientState → ServerSeen → Result Page StunWriteError → Met
second_asked m state server (Err reason) = ending_unwritten reason state server
second_asked m state server (Ok page) =
    second_read m state (after_calls server m.second.before) (reading_of page.bytes)

-- the challenge: answered by the client
abbrev pub challenge_answered : Meeting → ServerSeen → ClientState → ClientAnswer → Met
challenge_answered m server state (Ok (Read.ResendRequest a)) =
    second_asked m state server (client_request m.second.id state)
challenge_answered m server state (Ok (Read.Validated a)) =
    ending_with (ClientRefused Client.Unauthorized) state server
challenge_answered m server state (Err reason) = ending_with (ClientRefused reason) state server

abbrev pub challenge_read : Meeting → ServerSeen → ClientStep → Met
challenge_read m server step = challenge_answered m server step.state step.answer

-- signed by the server, and read by the client after the first list of calls
abbrev pub challenge_sent : Meeting → ClientState → ServerSeen → Result Page StunWriteError → Met
challenge_sent m state server (Err reason) = ending_unwritten reason state server
challenge_sent m state server (Ok page) =
    challenge_read m (after_calls (after_signing server m.from true) m.first.before)
    (client_step m.settings state (reading_of page.bytes))

-- the first request: answered by the server
abbrev pub first_answered : Meeting → ClientState → ServerSeen → Answer → Met
first_answered m state server (Ok (Served.Validated a)) =
    ending_with (AlreadyValidated a) state server
first_answered m state server (Err Server.Unauthorized) =
    challenge_sent m state server
    (server_response (failure UNAUTHORIZED m.first.id) (sight server m.from))
first_answered m state server (Err reason) = ending_with (ServerRefused reason) state server

abbrev pub first_read : Meeting → ClientState → ServerSeen → Reading → Met
first_read m state server r =
    first_answered m state (after_validation server m.from m.first.now m.first.words r)
    (answer (sight server m.from) m.first.now m.first.words r)

-- signed by the client, and read by the server
abbrev pub first_asked : Meeting → ClientState → ServerSeen → Result Page StunWriteError → Met
first_asked m state server (Err reason) = ending_unwritten reason state server
first_asked m state server (Ok page) = first_read m state server (reading_of page.bytes)

-- ---- the whole run
abbrev pub whole_negotiation : Meeting → ClientState → ServerSeen → Met
whole_negotiation m state server = first_asked m state server (client_request m.first.id state)
