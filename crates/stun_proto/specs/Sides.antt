-- The state of both sides of a meeting after its first steps, as long as another step follows: the
-- server has read a message, or signed one, or made a call, or the client has read a message. What
-- a client signs leaves it unchanged. Each definition is of what is left from one step on, the last
-- step first, and begins with the sides as they are at that step.
use Rattle.std.specs.Prelude.{◌≡◌, ◌≤◌, ◌⊎◌, ℕ, List, true, IsOk, length, take}
use Rattle.std.specs.declared.result.Result.TheVariants.{Ok, Err}
use Rattle.stun_auth.specs.declared.server.reason.LongTermServerAuthErrorReason.TheVariants.{
  Unauthorized,
}
use Rattle.stun_judging.specs.Additions.{Page}
use Rattle.stun_auth.specs.Client.{ClientState}
use Rattle.stun_auth.specs.ClientStep.{IsResend, client_step}
use Rattle.stun_judging.specs.Reading.{UNAUTHORIZED, reading_of}
use Rattle.stun_auth.specs.ServerSigning.{after_signing}
use Rattle.stun_auth.specs.Validation.{ServerSeen, after_validation, answer, sight}
use Rattle.stun_proto.specs.Negotiation.{Meeting, client_request, failure, server_response, success}
use Rattle.stun_proto.specs.Serving.{after_calls}
use Rattle.stun_proto.specs.declared.replay.call.ServerCall.{ServerCall}

pub record Sides : Type 0 where
  pub client : ClientState
  pub server : ServerSeen

abbrev pub sides : ClientState → ServerSeen → Sides
sides client server = record { client = client; server = server }

-- after the first of some calls: none of them, some, or all
abbrev pub PassesCalls : ClientState → ServerSeen → List ServerCall → Sides → Type 0
PassesCalls state server calls x =
    (k : ℕ) × (k ≤ length calls) × (x ≡ sides state (after_calls server (take k calls)))

-- the second request was accepted: the server signs the success. The client that reads it ends the
-- run, and takes no memory unless it takes the success for a challenge
abbrev pub PassesAccepted : Meeting → ClientState → ServerSeen → Sides → Type 0
PassesAccepted m state server x =
    (x ≡ sides state server)
    ⊎ ((page : Page) × (server_response (success m.second.id) (sight server m.from) ≡ Ok page)
    × IsResend (client_step m.settings state (reading_of page.bytes)).answer
    × (x ≡ sides state (after_signing server m.from true)))

-- the client must ask again: it signs the second request, the server makes the second list of
-- calls, and reads the request
abbrev pub PassesResend : Meeting → ClientState → ServerSeen → Sides → Type 0
PassesResend m state server x =
    let now = m.second.now in
    let words = m.second.words in
    let called = after_calls server m.second.before in
    (x ≡ sides state server)
    ⊎ ((page : Page) × (client_request m.second.id state ≡ Ok page)
    × (PassesCalls state server m.second.before x
    ⊎ (IsOk (answer (sight called m.from) now words (reading_of page.bytes))
    × PassesAccepted m state (after_validation called m.from now words (reading_of page.bytes)) x)))

-- the first request must be challenged: the server signs the 401 and makes the first list of calls,
-- and the client reads the 401
abbrev pub PassesUnauthorized : Meeting → ClientState → ServerSeen → Sides → Type 0
PassesUnauthorized m state server x =
    let signed = after_signing server m.from true in
    (x ≡ sides state server)
    ⊎ ((page : Page)
    × (server_response (failure UNAUTHORIZED m.first.id) (sight server m.from) ≡ Ok page)
    × (PassesCalls state signed m.first.before x
    ⊎ (IsResend (client_step m.settings state (reading_of page.bytes)).answer
    × PassesResend m (client_step m.settings state (reading_of page.bytes)).state
    (after_calls signed m.first.before) x)))

-- ---- the whole run: the client signs the first request, and the server reads it
abbrev pub Passes : Meeting → ClientState → ServerSeen → Sides → Type 0
Passes m state server x =
    let now = m.first.now in
    let words = m.first.words in
    (x ≡ sides state server)
    ⊎ ((page : Page) × (client_request m.first.id state ≡ Ok page)
    × (answer (sight server m.from) now words (reading_of page.bytes) ≡ Err Unauthorized)
    × PassesUnauthorized m state (after_validation server m.from now words (reading_of page.bytes))
    x)
