-- A client and a server whose calls their users make one by one, each on what the other side has
-- sent, in order: what the clauses of these calls say, and that the two are in a meeting as
-- `negotiate` runs it, of Binding messages without other attributes. Each definition of the meeting
-- is what is left from one call on, the last call first.
use Rattle.std.specs.Prelude.{◌≡◌, ℕ, List, true}
use Rattle.std.specs.declared.result.Result.{Result}
use Rattle.std.specs.declared.result.Result.TheVariants.{Ok, Err}
use Rattle.std.specs.declared.net.socket_addr.SocketAddr.{SocketAddr}
use Rattle.stun_base.specs.Credentials.{NameAndPassword}
use Rattle.stun_base.specs.declared.keys.algorithm.IntegrityAlgorithm.{IntegrityAlgorithm}
use Rattle.stun_base.specs.declared.wire.error.StunWriteError.{StunWriteError}
use Rattle.stun_auth.specs.declared.client.answer.LongTermClientAuthErrorReason.TheVariants
    as Client
use Rattle.stun_auth.specs.declared.client.answer.LongTermClientValidation.TheVariants as Read
use Rattle.stun_auth.specs.declared.server.reason.LongTermServerAuthErrorReason.TheVariants
    as Server
use Rattle.stun_auth.specs.declared.server.reason.LongTermServerValidation.TheVariants as Served
use Rattle.stun_judging.specs.Additions.{Page, added_all, page_of}
use Rattle.stun_auth.specs.Client.{ClientSettings, ClientState, initial}
use Rattle.stun_auth.specs.ClientSigning.{client_additions}
use Rattle.stun_auth.specs.ClientStep.{ClientAnswer, client_step}
use Rattle.stun_judging.specs.Reading.{UNAUTHORIZED, reading_of}
use Rattle.stun_auth.specs.ServerSigning.{after_signing, server_signed}
use Rattle.stun_auth.specs.Validation.{Answer, ServerSeen, after_validation, answer, sight}
use Rattle.stun_proto.specs.Honest.{ComesTo, IsHonest, strongest}
use Rattle.stun_proto.specs.Matching.{AreTexts}
use Rattle.stun_proto.specs.Negotiation.{Meeting, Met, Round, ending_with, failure}
use Rattle.stun_proto.specs.Negotiation.{whole_negotiation}
use Rattle.stun_proto.specs.Negotiation.{outcome_of_success, request, success, ending_unwritten}
use Rattle.stun_proto.specs.ServerLoop.{AreMade}
use Rattle.stun_proto.specs.Serving.{Reply}
use Rattle.stun_proto.specs.Signing.{if_signed}
use Rattle.stun_proto.specs.declared.replay.negotiation.Outcome.TheVariants.{AlreadyValidated}
use Rattle.stun_proto.specs.declared.replay.negotiation.Outcome.TheVariants.{ServerRefused}
use Rattle.stun_proto.specs.declared.replay.negotiation.Outcome.TheVariants.{ClientRefused}

-- ---- what the clauses of one call say

-- the client's `sign_outgoing_message`, clause `answer`, of a Binding request without attributes in
-- a vector
abbrev pub ClientSigns : ClientState → ℕ → Result Page StunWriteError → Type 0
ClientSigns state id signed =
    signed ≡ added_all (client_additions true state) (page_of (request id))

-- the client's `validate_incoming_message`, clauses `answer` and `state`
pub record ClientReads (settings : ClientSettings) (state : ClientState) (page : Page)
    (given : ClientAnswer) (after : ClientState) : Type 0 where
  pub answered : given ≡ (client_step settings state (reading_of page.bytes)).answer
  pub left : after ≡ (client_step settings state (reading_of page.bytes)).state

-- the server's `sign_outgoing_message`, clauses `answer`, `signed` and `refused`, of a response in
-- a vector
pub record ServerSigns (server : ServerSeen) (to : SocketAddr) (message : List ℕ)
    (signed : Result Page StunWriteError) (after : ServerSeen) : Type 0 where
  pub answered : signed ≡ server_signed (sight server to) true (page_of message)
  pub left : after ≡ if_signed signed server (after_signing server to true)

-- the server's `validate_incoming_message`, clauses `answer` and `state`
pub record ServerReads (server : ServerSeen) (from : SocketAddr) (round : Round) (page : Page)
    (given : Answer) (after : ServerSeen) : Type 0 where
  pub answered : given ≡ answer (sight server from) round.now round.words (reading_of page.bytes)
  pub left : after ≡ after_validation server from round.now round.words (reading_of page.bytes)

-- ---- the meeting

-- the server has signed the success: the client reads it
abbrev pub SuccessSigned : Meeting → IntegrityAlgorithm → ClientState
    → Result Page StunWriteError → ServerSeen → Met → Type 0
SuccessSigned m a state (Err reason) server met = met ≡ ending_unwritten reason state server
SuccessSigned m a state (Ok page) server met =
    (given : ClientAnswer) × (after : ClientState) × ClientReads m.settings state page given after
    × (met ≡ ending_with (outcome_of_success a given) after server)

-- the server has read the second request: it signs the success
abbrev pub SecondRead : Meeting → ClientState → Answer → ServerSeen → Met → Type 0
SecondRead m state (Err reason) server met = met ≡ ending_with (ServerRefused reason) state server
SecondRead m state (Ok (Served.Validated a)) server met =
    (signed : Result Page StunWriteError) × (after : ServerSeen)
    × ServerSigns server m.from (success m.second.id) signed after
    × SuccessSigned m a state signed after met

-- the client has signed the second request: the server reads it, after the calls that come before
abbrev pub SecondSigned : Meeting → ClientState
    → Result Page StunWriteError → ServerSeen → Met → Type 0
SecondSigned m state (Err reason) server met = met ≡ ending_unwritten reason state server
SecondSigned m state (Ok page) server met =
    (told : List Reply) × (called : ServerSeen) × AreMade server m.second.before told called
    × (given : Answer) × (after : ServerSeen) × ServerReads called m.from m.second page given after
    × SecondRead m state given after met

-- the client has read the challenge: it signs the second request
abbrev pub ChallengeRead : Meeting → ClientAnswer → ClientState → ServerSeen → Met → Type 0
ChallengeRead m (Ok (Read.ResendRequest a)) state server met =
    (signed : Result Page StunWriteError) × ClientSigns state m.second.id signed
    × SecondSigned m state signed server met
ChallengeRead m (Ok (Read.Validated a)) state server met =
    met ≡ ending_with (ClientRefused Client.Unauthorized) state server
ChallengeRead m (Err reason) state server met =
    met ≡ ending_with (ClientRefused reason) state server

-- the server has signed the challenge: the client reads it, after the calls that come before
abbrev pub ChallengeSigned : Meeting → ClientState
    → Result Page StunWriteError → ServerSeen → Met → Type 0
ChallengeSigned m state (Err reason) server met = met ≡ ending_unwritten reason state server
ChallengeSigned m state (Ok page) server met =
    (told : List Reply) × (called : ServerSeen) × AreMade server m.first.before told called
    × (given : ClientAnswer) × (after : ClientState) × ClientReads m.settings state page given after
    × ChallengeRead m given after called met

-- the server has read the first request: it signs the challenge
abbrev pub FirstRead : Meeting → ClientState → Answer → ServerSeen → Met → Type 0
FirstRead m state (Ok (Served.Validated a)) server met =
    met ≡ ending_with (AlreadyValidated a) state server
FirstRead m state (Err Server.Unauthorized) server met =
    (signed : Result Page StunWriteError) × (after : ServerSeen)
    × ServerSigns server m.from (failure UNAUTHORIZED m.first.id) signed after
    × ChallengeSigned m state signed after met
FirstRead m state (Err reason) server met = met ≡ ending_with (ServerRefused reason) state server

-- the client has signed the first request: the server reads it
abbrev pub FirstSigned : Meeting → ClientState
    → Result Page StunWriteError → ServerSeen → Met → Type 0
FirstSigned m state (Err reason) server met = met ≡ ending_unwritten reason state server
FirstSigned m state (Ok page) server met =
    (given : Answer) × (after : ServerSeen) × ServerReads server m.from m.first page given after
    × FirstRead m state given after met

-- how both sides have met by their own calls, from the first one on
abbrev pub HaveMet : Meeting → ClientState → ServerSeen → Met → Type 0
HaveMet m state server met =
    (signed : Result Page StunWriteError) × ClientSigns state m.first.id signed
    × FirstSigned m state signed server met

-- ---- the law

-- so they end as `negotiate` ends: the same outcome, and both sides the same
abbrev pub MeetingsAreNegotiated : Type 0
MeetingsAreNegotiated =
    (m : Meeting) (state : ClientState) (server : ServerSeen) (met : Met)
    → HaveMet m state server met → met ≡ whole_negotiation m state server

-- and a client that is honest and its server agree on the strongest algorithm of both
abbrev pub MeetingsAgree : Type 0
MeetingsAgree =
    (m : Meeting) (who : NameAndPassword) (server : ServerSeen) (met : Met)
    → AreTexts server.registered.realm who.username → IsHonest m who server
    → HaveMet m initial server met → ComesTo m.from who (strongest m server) met
