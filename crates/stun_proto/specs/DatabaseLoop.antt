-- A server whose users are in a database. For each message the caller looks up the user whom the
-- message means, and passes that user (`validate_incoming_message_of`, `sign_outgoing_message_of`).
-- What the clauses of these calls say, and that the calls are a run of the server that has the
-- whole database (RFC 8489, section 9.2.4).
use Rattle.std.specs.FinMap as map
use Rattle.std.specs.Prelude.{◌≡◌, ◌&&◌, ℕ, List, [], ◌∷◌, ◌++◌, not, Option, Some, None, ⊤}
use Rattle.std.specs.Prelude.{map as list_map}
use Rattle.std.specs.List.{filter}
use Rattle.std.specs.declared.result.Result.{Result}
use Rattle.std.specs.declared.result.Result.TheVariants.{Ok}
use Rattle.std.specs.Global.{Vec}
use Rattle.std.specs.Option.{is_some, option_and_then}
use Rattle.std.specs.declared.net.socket_addr.SocketAddr.{SocketAddr}
use Rattle.stun_base.specs.MessageType.{class_in, is_response}
use Rattle.stun_base.specs.declared.wire.error.StunParseError.{StunParseError}
use Rattle.stun_base.specs.declared.wire.error.StunWriteError.{StunWriteError}
use Rattle.stun_types.specs.Message.{refusal}
use Rattle.stun_judging.specs.Additions.{Page}
use Rattle.stun_auth.specs.Forgetting.{place_kept}
use Rattle.stun_auth.specs.ForgettingSteps.{after_step, is_looked_at, next_address}
use Rattle.stun_judging.specs.Named.{just}
use Rattle.stun_auth.specs.Handed.{meant_user, with_users}
use Rattle.stun_judging.specs.Reading.{reading_of}
use Rattle.stun_judging.specs.Registered.{Registered, RegisteredUser, UserSecret, name_cmp}
use Rattle.stun_judging.specs.Registered.{user_named}
use Rattle.stun_judging.specs.Verdict.{ClientSeen}
use Rattle.stun_auth.specs.ServerSigning.{after_signing}
use Rattle.stun_auth.specs.Validation.{ServerSeen, after_validation, answer, client_at, sight}
use Rattle.stun_proto.specs.Headline.{ValidatesEachCall}
use Rattle.stun_proto.specs.Replies.{message_read}
use Rattle.stun_proto.specs.ServerLoop.{IsMade, IsSignedInSome, Told, signed_or_refused}
use Rattle.stun_proto.specs.Serving.{Reply, NotAMessage, Done, after_calls, replies}
use Rattle.stun_proto.specs.Serving.{reply_of_answer}
use Rattle.stun_proto.specs.Signing.{written_anew}
use Rattle.stun_proto.specs.declared.replay.call.ServerCall.{ServerCall}
use Rattle.stun_proto.specs.declared.replay.call.ServerCall.TheVariants as Call

-- ---- the server and its database

-- the users of a database, by name
abbrev pub Secrets : Type 0
Secrets = map.FinMap name_cmp UserSecret

-- a server, whatever users it has itself, and the users of the database
pub record Stored : Type 0 where
  pub server : ServerSeen
  pub secrets : Secrets

-- the users of the database at the realm of the server, with its algorithms
abbrev pub all_users : Stored → Registered
all_users s = record s.server.registered { secrets = s.secrets }

-- the server that has all of them
abbrev pub whole : Stored → ServerSeen
whole s = with_users s.server (all_users s)

-- the server with the one user who is passed, or with none if the database has no such user
abbrev pub with_passed : Stored → Option RegisteredUser → ServerSeen
with_passed s user = with_users s.server (just s.server.registered user)

-- the registered user who is the client of an address
abbrev pub client_user : Stored → SocketAddr → Option RegisteredUser
client_user s address =
    option_and_then (λ (c : ClientSeen). user_named (all_users s) c.name)
    (client_at (whole s) address)

-- ---- calls

-- A message is judged or signed with the user whom it means; expired addresses are forgotten,
-- within a number of addresses; the database changes; or any other call is made, of settings or of
-- addresses
pub data StoredCall : Type 0 where
  ValidateOf : SocketAddr → ℕ → Vec ℕ → List ℕ → StoredCall
  SignOf : SocketAddr → Vec ℕ → StoredCall
  ForgetWithin : ℕ → Option SocketAddr → ℕ → StoredCall
  Changed : Secrets → List ServerCall → StoredCall
  Other : ServerCall → StoredCall

-- the addresses that `forget_expired_within` forgets
abbrev pub forgotten : ServerSeen → ℕ → Option SocketAddr → ℕ → List SocketAddr
forgotten s now from most =
    filter (λ a. is_looked_at from (next_address s from most) a
    && not (is_some (place_kept now (map.get s.places a)))) (map.keys s.places)

-- how a call of the loop is made: the calls of the run that it is, their replies, and what it
-- leaves
pub record Made : Type 0 where
  pub calls : List ServerCall
  pub given : List Reply
  pub after : Stored

-- bytes that are not a message reach no call of the server
abbrev pub IfAMessage : Stored → ServerCall → Option StunParseError → Made → Type 0 → Type 0
IfAMessage s call (Some error) made called =
    made ≡ record { calls = call ∷ []; given = NotAMessage error ∷ []; after = s }
IfAMessage s call None made called = called

-- a call of settings or of addresses
abbrev pub LooksAtNoUser : ServerCall → Type 0
LooksAtNoUser (Call.Validate from now message words) = ⊥
LooksAtNoUser (Call.Sign to message) = ⊥
LooksAtNoUser (Call.AddUser name password) = ⊥
LooksAtNoUser (Call.RemoveUser name) = ⊥
LooksAtNoUser (Call.AddIntegrity algorithm) = ⊤
LooksAtNoUser (Call.SetIntegrity algorithm) = ⊤
LooksAtNoUser (Call.SetAnonymous feature) = ⊤
LooksAtNoUser (Call.RemoveClient address) = ⊤
LooksAtNoUser (Call.SetExpiry expiry) = ⊤
LooksAtNoUser (Call.ForgetExpired now) = ⊤
LooksAtNoUser (Call.Forget address) = ⊤

-- what the clauses of one call say
abbrev pub IsMadeOf : Stored → StoredCall → Made → Type 0
-- `validate_incoming_message_of`, clauses `answer` and `state`, with the user whom the message
-- means; without such a user `validate_incoming_message` of a server without users
IsMadeOf s (ValidateOf from now message words) made =
    let r = reading_of message.items in
    let passed = with_passed s (meant_user (whole s) from r) in
    IfAMessage s (Call.Validate from now message words) (refusal message.items) made
    (made ≡ record {
      calls = Call.Validate from now message words ∷ [];
      given = reply_of_answer (answer (sight passed from) now words r) ∷ [];
      after = record s {
        server = with_users (after_validation passed from now words r) s.server.registered;
      };
    })
-- `sign_outgoing_message_of`, clauses `answer`, `signed` and `refused`, with the user who is the
-- client of the address, of a message that was built by `add_attribute` alone, in any writer
IsMadeOf s (SignOf to message) made =
    let response = is_response (class_in message.items) in
    let passed = with_passed s (client_user s to) in
    IfAMessage s (Call.Sign to message) (refusal message.items) made
    ((written_anew message.items ≡ Ok message.items)
    × (signed : Result Page StunWriteError)
    × IsSignedInSome (sight passed to) response message.items signed
    × let told = signed_or_refused passed (after_signing passed to response) signed in
    (made ≡ record {
      calls = Call.Sign to message ∷ [];
      given = told.reply ∷ [];
      after = record s { server = with_users told.server s.server.registered };
    }))
-- `forget_expired_within`, clause `state`
IsMadeOf s (ForgetWithin now from most) made = made ≡ record {
  calls = list_map Call.Forget (forgotten s.server now from most);
  given = list_map (λ a. Done) (forgotten s.server now from most);
  after = record s { server = after_step s.server now from most };
}
-- the database changes by calls that add and remove users; the server is not called
IsMadeOf s (Changed secrets calls) made =
    (after_calls (whole s) calls ≡ whole (record s { secrets = secrets }))
    × (made ≡ record {
      calls = calls;
      given = replies (whole s) calls;
      after = record s { secrets = secrets };
    })
-- every other call, as the clauses of the server's own call say
IsMadeOf s (Other call) made =
    LooksAtNoUser call × (next : Told) × IsMade s.server call next
    × (made ≡ record {
      calls = call ∷ [];
      given = next.reply ∷ [];
      after = record s { server = next.server };
    })

-- ---- a loop
abbrev pub AreMadeOf : Stored → List StoredCall → List ServerCall → List Reply → Stored → Type 0
AreMadeOf s [] calls given last = (calls ≡ []) × (given ≡ []) × (last ≡ s)
AreMadeOf s (call ∷ more) calls given last =
    (made : Made) × (later : List ServerCall) × (rest : List Reply)
    × (calls ≡ made.calls ++ later) × (given ≡ made.given ++ rest)
    × IsMadeOf s call made × AreMadeOf made.after more later rest last

-- The calls are a run of `serve` of the server that has the whole database: the same replies, and
-- the same server after them. So the first sentence applies to them
abbrev pub StoredCallsAreServed : Type 0
StoredCallsAreServed =
    (start last : Stored) (made : List StoredCall) (calls : List ServerCall) (given : List Reply)
    → AreMadeOf start made calls given last
    → (given ≡ replies (whole start) calls) × (whole last ≡ after_calls (whole start) calls)
    × ValidatesEachCall message_read replies (whole start) calls given
