-- A client and a server that meet in two exchanges (RFC 8489, sections 9.2.3 to 9.2.5).
use Rattle.std.specs.Prelude.{◌≡◌, ◌≤◌, ◌<◌, ℕ, Bool, true, false, List, length, Option, Some, None}
use Rattle.std.specs.Prelude.{IsUtf8}
use Rattle.std.specs.Option.{IfSome, IsSome}
use Rattle.std.specs.declared.net.socket_addr.SocketAddr.{SocketAddr}
use Rattle.stun_base.specs.Credentials.{NameAndPassword}
use Rattle.stun_base.specs.Moments.{last_moment}
use Rattle.stun_base.specs.declared.keys.algorithm.IntegrityAlgorithm.{IntegrityAlgorithm}
use Rattle.stun_types.specs.Limits.{USERNAME_LIMIT}
use Rattle.stun_judging.specs.Registered.{Registered}
use Rattle.stun_judging.specs.Verdict.{ClientSeen}
use Rattle.stun_extra.specs.CanonicalAddress.{is_same_address}
use Rattle.stun_client.specs.Challenges.{Answered}
use Rattle.stun_client.specs.Judging.{long_term}
use Rattle.stun_client.specs.Outcomes.{outcome_of}
use Rattle.stun_client.specs.Standing.{is_ignored}
use Rattle.stun_client.specs.declared.preferences.Preferences.{Preferences}
use Rattle.stun_client_endpoint.specs.Bodies.{Body}
use Rattle.stun_client_endpoint.specs.Written.{Form}
use Rattle.stun_client_endpoint.specs.declared.ended.RequestEnd.TheVariants as how
use Rattle.stun_client_endpoint.specs.declared.told.Received.TheVariants.{Consumed}
use Rattle.stun_client_requests.specs.Numbers.{known_at}
use Rattle.stun_client_requests.specs.Requests.{bytes_at, datum_of, number_at}
use Rattle.stun_client_requests.specs.declared.numbers.Known.TheVariants.{Ended}
use Rattle.stun_client_calls.specs.Clients.{Client, chosen, refusal_to_start, started}
use Rattle.stun_client_calls.specs.Endpoints.{EndSeen}
use Rattle.stun_client_calls.specs.Messages.{AskedSeen, message_for}
use Rattle.stun_client_calls.specs.Options.{Options, round_trip}
use Rattle.stun_client_calls.specs.Receiving.{Memory, received}
use Rattle.stun_client_calls.specs.Runs.{Calls, Event, next_number}
use Rattle.stun_client_runs.specs.Kept.{IsClient}
use Rattle.stun_endpoint.specs.Judged.{key_of_client}
use Rattle.stun_endpoint.specs.Nonces.{current_nonce}
use Rattle.stun_endpoint.specs.Received.{answered, challenge_answer, outcome_of_accepted}
use Rattle.stun_endpoint.specs.Received.{received_for}
use Rattle.stun_endpoint.specs.Settings.{Settings}
use Rattle.stun_endpoint.specs.declared.received.Refusal.TheVariants.{StaleNonce, Unauthenticated}
use Rattle.stun_exchanges.specs.Agreement.{AgreeOn, IsSignedAnswer}
use Rattle.stun_exchanges.specs.Exchange.{IsRegisteredUser, IsResponseTo, IsServer, IsWithinPeriod}
use Rattle.stun_exchanges.specs.Exchange.{meant_for, realm_knowing}
use Rattle.stun_sessions.specs.Sessions.{IsForgotten}
use Rattle.stun_requests.specs.Fitting.{IsBuiltBody}
use Rattle.stun_requests.specs.Served.{IsPrinted}

-- ---- who meets

-- the parts of a client: the address that the datagrams of its server come from, in either spelling
-- of IPv4; its user; its preferences; whether it accepts unsigned responses; what each of its
-- requests has; and whether each response must have a FINGERPRINT
pub record ClientSide : Type 0 where
  pub server : SocketAddr
  pub who : NameAndPassword
  pub preferences : Preferences
  pub accepts_unsigned : Bool
  pub form : Form
  pub requires_fingerprint : Bool

pub record IsClientOf (side : ClientSide) (c : Client) : Type 0 where
  pub client : IsClient c
  pub hears : is_same_address side.server c.server ≡ true
  pub identity : c.identity ≡ long_term side.who side.preferences side.accepts_unsigned
  pub form_is : c.form ≡ side.form
  pub required_is : c.requires_fingerprint ≡ side.requires_fingerprint

-- a client and a server can meet: the server was built, the user is registered in a table of its
-- realm, the name is a text of at most 513 bytes, both agree on an algorithm, and the client sends
-- the FINGERPRINT that one of them requires
pub record CanMeet (s : Settings) (users : Registered) (side : ClientSide)
    (a : IntegrityAlgorithm) : Type 0 where
  pub built : IsServer s
  pub known : IsRegisteredUser s users side.who
  pub text : IsUtf8 side.who.username
  pub short : length side.who.username ≤ USERNAME_LIMIT
  pub agree : AgreeOn side.preferences s.algorithms s.feature a
  pub printed : IsPrinted s side.form
  pub required : side.requires_fingerprint ≡ true → side.form.has_fingerprint ≡ true

-- the challenge that a server means if it writes it at a time, to a client at an address
abbrev pub challenge_at : Settings → ClientSide → IntegrityAlgorithm → SocketAddr → ℕ → Answered
challenge_at s side a from time =
    meant_for s side.preferences side.who (current_nonce s from time) a

-- ---- a request

-- the options of a request that is exchanged with the server: it is signed with the credentials of
-- its client, and its responses come from the address that the datagrams of the server come from
pub record IsForServer (side : ClientSide) (o : Options) : Type 0 where
  pub signed : o.is_signed ≡ true
  pub from_server : is_same_address side.server o.from ≡ true

-- a request has such options, with any plan, or none
abbrev pub IsMeetable : ClientSide → Option Options → Type 0
IsMeetable side options = IfSome options (IsForServer side)

-- the request with a number is outstanding. Its current message has these bytes, and is signed for
-- this challenge, or for none
pub record IsSignedFor (number : ℕ) (signed_for : Option Answered) (c : Client) (bytes : List ℕ)
    : Type 0 where
  pub asked : AskedSeen
  pub stored : datum_of number c.requests ≡ Some asked
  pub signed : asked.signed_for ≡ signed_for
  pub sent : bytes_at number c.requests ≡ Some bytes

-- it can be sent again for a challenge at a time: its first plan is not over, another message
-- became the current one less often than it may, and of the 2 ^ 64 - 1 numbers for transaction IDs
-- one is left. If an earlier message is signed for the challenge, no current message has its ID.
-- That the message fits is not a premise (`requests_can_be_written` of `stun_requests`)
pub record CanGoOn (c : Client) (a : AskedSeen) (d : Answered) (now : ℕ) : Type 0 where
  pub instant : now ≤ last_moment
  pub in_time : now ≤ a.until
  pub often : a.turns < c.turns
  pub left : IsSome (chosen c)
  pub apart : IfSome (message_for d a.earlier)
      (λ e. number_at e.1.id c.requests.table.attached ≡ None)

-- after a response a client sends a request again, signed for a challenge, whether or not there was
-- memory for the former message. The client is then one after calls that began with the start of
-- the request
pub record IsSentAgain (side : ClientSide) (begun : Client) (number : ℕ) (d : Answered)
    (later : Client) (response : List ℕ) (now : ℕ) (memory : Memory) : Type 0 where
  pub next : Client
  pub consumed : received memory side.server response now later ≡ (Consumed, next)
  pub events : List Event
  pub calls : Calls begun events next
  pub bytes : List ℕ
  pub signed : IsSignedFor number (Some d) next bytes

-- a response ends a request for which this is stored: the request is stored as answered, with the
-- response and its outcome, signed with this algorithm, and with the time since the bytes of its
-- current message were returned, if that was once. `poll` returns this end
pub record IsEndedBy (side : ClientSide) (number : ℕ) (a : IntegrityAlgorithm) (asked : AskedSeen)
    (later : Client) (response : List ℕ) (now : ℕ) (memory : Memory) : Type 0 where
  pub next : Client
  pub consumed : received memory side.server response now later ≡ (Consumed, next)
  pub end : EndSeen
  pub there : known_at number next.requests.numbers.known ≡ Some (Ended end)
  pub end_is : end.end ≡ how.Answered (outcome_of later.understood response) (Some a)
  pub response_is : end.response ≡ response
  pub round_trip_is : end.round_trip ≡ round_trip now asked.handed_out

-- a server accepts bytes as a user's with this algorithm, whatever they ask for
abbrev pub IsAcceptedAs : Settings → Registered → SocketAddr → ℕ → List ℕ → List ℕ
    → IntegrityAlgorithm → Type 0
IsAcceptedAs s users from now bytes name a =
    let client : ClientSeen = record { name = name; algorithm = a } in
    received_for s (Some users) from now bytes
    ≡ outcome_of_accepted s (key_of_client (realm_knowing s users) client) from bytes client

-- ---- the meeting

-- the exchanges of a client and a server for a request that is outstanding, whose bytes come from
-- an address
pub record Meets (s : Settings) (users : Registered) (from : SocketAddr) (side : ClientSide)
    (a : IntegrityAlgorithm) (begun : Client) (number : ℕ) (later : Client) (bytes : List ℕ)
    : Type 0 where
  -- without a signature it is challenged
  pub challenged : (time : ℕ) → IsSignedFor number None later bytes
      → received_for s (Some users) from time bytes
      ≡ answered (challenge_answer s Unauthenticated (current_nonce s from time) from bytes)
  -- after the challenge it is sent again, signed for it. A challenge that is weaker than what a
  -- success has confirmed is ignored on purpose
  pub renewed : (time now : ℕ) (memory : Memory) (unsigned : IsSignedFor number None later bytes)
      → let response =
      (challenge_answer s Unauthenticated (current_nonce s from time) from bytes).bytes in
      let d = challenge_at s side a from time in
      CanGoOn later unsigned.asked d now
      → is_ignored later.standing d ≡ false
      → IsSentAgain side begun number d later response now memory
  -- signed for a challenge of the server, it is accepted while the nonce lasts
  pub accepted : (time now : ℕ)
      → IsSignedFor number (Some (challenge_at s side a from time)) later bytes
      → IsWithinPeriod s time now → IsAcceptedAs s users from now bytes side.who.username a
  -- once that nonce has expired, it is answered with a 438, after which it is sent again in the
  -- same way, signed for the nonce that is then current
  pub stale : (time now : ℕ)
      → IsSignedFor number (Some (challenge_at s side a from time)) later bytes
      → IsForgotten s from time now
      → received_for s (Some users) from now bytes
      ≡ answered (challenge_answer s StaleNonce (current_nonce s from now) from bytes)
  pub refreshed : (time then_at now : ℕ) (memory : Memory)
      (signed : IsSignedFor number (Some (challenge_at s side a from time)) later bytes)
      → IsForgotten s from time then_at
      → let response =
      (challenge_answer s StaleNonce (current_nonce s from then_at) from bytes).bytes in
      let d = challenge_at s side a from then_at in
      CanGoOn later signed.asked d now
      → is_ignored later.standing d ≡ false
      → IsSentAgain side begun number d later response now memory
  -- and each signed answer ends it with its result. The server's answers are signed
  -- (`answers_of_a_server_are_signed` of `stun_exchanges`)
  pub ended : (time now : ℕ) (response : List ℕ) (memory : Memory)
      → (signed : IsSignedFor number (Some (challenge_at s side a from time)) later bytes)
      → IsResponseTo side.requires_fingerprint bytes response
      → IsSignedAnswer side.requires_fingerprint response
      (challenge_at s side a from time).challenge.key a
      → IsEndedBy side number a signed.asked later response now memory

-- a request that is signed, and answered by the server, is started at a client that can meet a
-- server, and a sequence of calls follows, including those for other requests with any options
abbrev pub ClientsMeetServers : Type 0
ClientsMeetServers =
    (s : Settings) (users : Registered) (from : SocketAddr) (side : ClientSide)
    (a : IntegrityAlgorithm) (c later : Client) (method : ℕ) (body : Body)
    (options : Option Options) (start : ℕ) (events : List Event) (bytes : List ℕ)
    → CanMeet s users side a → IsClientOf side c → IsMeetable side options → method < 4096
    → IsBuiltBody body → refusal_to_start c method body options ≡ None
    → Calls (started method body options start c) events later
    → bytes_at (next_number c) later.requests ≡ Some bytes
    → Meets s users from side a (started method body options start c) (next_number c) later bytes
