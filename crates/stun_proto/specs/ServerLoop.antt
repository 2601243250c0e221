-- A server whose calls its user makes one by one, in a loop: what the clauses of these calls say,
-- and that the calls are a run of `serve`.
use Rattle.std.specs.Prelude.{◌≡◌, ◌≢◌, ◌<◌, Bool, ℕ, List, [], ◌∷◌, length, Option, Some}
use Rattle.std.specs.Prelude.{None, Result, Ok, Err, string_bytes, if◌then◌else◌}
use Rattle.std.specs.Duration.{as_nanos}
use Rattle.stun_base.specs.Credentials.{NameAndPassword}
use Rattle.stun_base.specs.declared.wire.error.StunParseError.{StunParseError}
use Rattle.stun_base.specs.declared.wire.error.StunWriteError.{StunWriteError}
use Rattle.stun_base.specs.declared.wire.error.StunWriteError.TheVariants.{TooSmall}
use Rattle.stun_base.specs.MessageType.{class_in, is_response}
use Rattle.stun_types.specs.Attribute.{TypedValue}
use Rattle.stun_types.specs.Message.{refusal}
use Rattle.stun_types.specs.Walk.{attributes_of, walk}
use Rattle.stun_types.specs.Writing.{IsOpen}
use Rattle.stun_judging.specs.Additions.{Page}
use Rattle.stun_judging.specs.Algorithms.{only, with_algorithm}
use Rattle.stun_auth.specs.Forgetting.{after_forgetting, without_place}
use Rattle.stun_auth.specs.Places.{with_change, with_client}
use Rattle.stun_judging.specs.Reading.{reading_of}
use Rattle.stun_judging.specs.Registered.{with_user, without_user}
use Rattle.stun_auth.specs.Server.{Sight}
use Rattle.stun_auth.specs.ServerSigning.{after_signing, server_signed}
use Rattle.stun_auth.specs.Validation.{ServerSeen, after_validation, answer, sight}
use Rattle.stun_proto.specs.declared.replay.call.ServerCall.{ServerCall}
use Rattle.stun_proto.specs.declared.replay.call.ServerCall.TheVariants as Call
use Rattle.stun_proto.specs.Headline.{ValidatesEachCall}
use Rattle.stun_proto.specs.Replies.{message_read}
use Rattle.stun_proto.specs.Serving.{Reply, NotAMessage, SignRefused, Signed, Done, TooShort}
use Rattle.stun_proto.specs.Serving.{after_calls, is_too_short, replies, reply_of_answer}
use Rattle.stun_proto.specs.Signing.{refusal_at, spelled_anew, written_anew}

-- ---- one call

-- the reply to a call, and the server after it
pub record Told : Type 0 where
  pub reply : Reply
  pub server : ServerSeen

abbrev pub reply_with : Reply → ServerSeen → Told
reply_with reply server = record { reply = reply; server = server }

-- bytes that are not a message reach no call of the server: `Message::from_bytes` refuses them
abbrev pub IfMessage : ServerSeen → Option StunParseError → Told → Type 0 → Type 0
IfMessage s (Some error) after called = after ≡ reply_with (NotAMessage error) s
IfMessage s None after called = called

-- a signing that succeeds, and one that is refused
abbrev pub signed_or_refused : ServerSeen → ServerSeen → Result Page StunWriteError → Told
signed_or_refused s signed (Ok page) = reply_with (Signed page.bytes) signed
signed_or_refused s signed (Err error) = reply_with (SignRefused error) s

-- the result of signing a message in some writer, whatever its room. A call that answers `TooSmall`
-- leaves the server unchanged, and is no call of the loop: the message may be signed in a larger
-- writer
abbrev pub IsSignedInSome : Sight → Bool → List ℕ → Result Page StunWriteError → Type 0
IsSignedInSome s response message signed =
    (room : ℕ)
    × (signed ≡ server_signed s response (record { bytes = message; room = room }))
    × (signed ≢ Err TooSmall)

-- What the clauses of the server's own calls say of the reply and of the server after it. A call
-- that answers `OutOfMemory` leaves the server unchanged, and is no call of the loop
abbrev pub IsMade : ServerSeen → ServerCall → Told → Type 0
-- `validate_incoming_message`, clauses `answer` and `state`
IsMade s (Call.Validate from now message words) after =
    let r = reading_of message.items in
    IfMessage s (refusal message.items) after
    (after ≡ reply_with (reply_of_answer (answer (sight s from) now words r))
    (after_validation s from now words r))
-- `sign_outgoing_message`, clauses `answer`, `signed` and `refused`, of a message which `serve`
-- writes anew as it is: one that was built by `add_attribute` alone
IsMade s (Call.Sign to message) after =
    let response = is_response (class_in message.items) in
    IfMessage s (refusal message.items) after
    ((written_anew message.items ≡ Ok message.items)
    × (signed : Result Page StunWriteError)
    × IsSignedInSome (sight s to) response message.items signed
    × (after ≡ signed_or_refused s (after_signing s to response) signed))
-- each of the others: its one clause, or `ok`, or `state`
IsMade s (Call.AddUser name password) after =
    let user : NameAndPassword =
    record { username = string_bytes name; password = string_bytes password } in
    after ≡ reply_with Done (record s { registered = with_user s.registered user })
IsMade s (Call.RemoveUser name) after =
    after ≡ reply_with Done
    (record s { registered = without_user s.registered (string_bytes name) })
IsMade s (Call.AddIntegrity algorithm) after =
    let all = with_algorithm algorithm s.registered.algorithms in
    after ≡ reply_with Done (record s { registered = record s.registered { algorithms = all } })
IsMade s (Call.SetIntegrity algorithm) after =
    after
    ≡ reply_with Done
    (record s { registered = record s.registered { algorithms = only algorithm } })
IsMade s (Call.SetAnonymous feature) after =
    after ≡ reply_with Done (record s { feature = feature })
IsMade s (Call.RemoveClient address) after =
    after ≡ reply_with Done (record s { places = with_change s.places address (with_client None) })
-- an expiry below the least one is not passed to the call, which requires at least that
IsMade s (Call.SetExpiry expiry) after =
    after ≡ (if is_too_short expiry then reply_with TooShort s
    else reply_with Done (record s { expiry = as_nanos expiry }))
IsMade s (Call.ForgetExpired now) after = after ≡ reply_with Done (after_forgetting s now)
IsMade s (Call.Forget address) after = after ≡ reply_with Done (without_place s address)

-- ---- a loop

-- calls that are made one after the other, and the replies to them: each begins with the server
-- that the one before left
abbrev pub AreMade : ServerSeen → List ServerCall → List Reply → ServerSeen → Type 0
AreMade s [] [] last = last ≡ s
AreMade s [] (r ∷ given) last = ⊥
AreMade s (call ∷ calls) [] last = ⊥
AreMade s (call ∷ calls) (r ∷ given) last =
    (after : ServerSeen) × IsMade s call (reply_with r after) × AreMade after calls given last

-- they are a run of `serve`: the same replies, and the same server after them
abbrev pub CallsAreServed : Type 0
CallsAreServed =
    (start last : ServerSeen) (calls : List ServerCall) (given : List Reply)
    → AreMade start calls given last
    → (given ≡ replies start calls) × (last ≡ after_calls start calls)

-- a message that was built by `add_attribute` alone: it is spelled with its attributes, none of
-- which was refused after those before it
pub record IsBuiltUp (message : List ℕ) (attributes : List TypedValue) : Type 0 where
  pub is_open : IsOpen message
  pub spelled_so : message ≡ spelled_anew message attributes
  pub found : attributes_of (walk message) ≡ attributes
  pub allowed : (k : ℕ) → k < length attributes → refusal_at message attributes k ≡ None

-- `serve` writes it anew as it is
abbrev pub BuiltAreWrittenSo : Type 0
BuiltAreWrittenSo =
    (message : List ℕ) (attributes : List TypedValue) → IsBuiltUp message attributes
    → written_anew message ≡ Ok message

-- so the first sentence applies to such calls
abbrev pub CallsAreValidated : Type 0
CallsAreValidated =
    (start last : ServerSeen) (calls : List ServerCall) (given : List Reply)
    → AreMade start calls given last
    → ValidatesEachCall message_read replies start calls given
