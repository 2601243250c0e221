-- What a server answers to a list of calls, and what they leave (RFC 8489, section 9.2.4).
use Rattle.std.specs.Prelude.{ℕ, List, [], ◌∷◌, map, nat_lt, Bool}
use Rattle.std.specs.Prelude.{if◌then◌else◌, Option, Some, None, string_bytes}
use Rattle.std.specs.Duration.{as_nanos}
use Rattle.std.specs.declared.result.Result.{Result}
use Rattle.std.specs.declared.result.Result.TheVariants.{Ok, Err}
use Rattle.std.specs.declared.time.Duration.{Duration}
use Rattle.stun_base.specs.declared.keys.algorithm.IntegrityAlgorithm.{IntegrityAlgorithm}
use Rattle.stun_base.specs.declared.wire.error.StunParseError.{StunParseError}
use Rattle.stun_base.specs.declared.wire.error.StunWriteError.{StunWriteError}
use Rattle.stun_types.specs.Message.{refusal}
use Rattle.stun_judging.specs.declared.feature.Feature.{Feature}
use Rattle.stun_auth.specs.declared.server.reason.LongTermServerAuthErrorReason.{
  LongTermServerAuthErrorReason,
}
use Rattle.stun_auth.specs.declared.server.reason.LongTermServerValidation.TheVariants as Validation
use Rattle.stun_judging.specs.Additions.{Page}
use Rattle.stun_judging.specs.Algorithms.{only, with_algorithm}
use Rattle.stun_auth.specs.Forgetting.{places_kept, without_place}
use Rattle.stun_auth.specs.Validation.{MINIMUM_EXPIRY}
use Rattle.stun_auth.specs.Places.{PlacesSeen, with_change, with_client}
use Rattle.stun_base.specs.MessageType.{class_in, is_response}
use Rattle.stun_judging.specs.Reading.{reading_of}
use Rattle.stun_judging.specs.Registered.{Registered, with_user, without_user}
use Rattle.stun_auth.specs.ServerSigning.{after_signing}
use Rattle.stun_auth.specs.Validation.{Answer, ServerSeen, after_validation, answer, sight}
use Rattle.stun_proto.specs.Signing.{if_signed, signing}
use Rattle.stun_proto.specs.declared.replay.call.ServerCall.{ServerCall}
use Rattle.stun_proto.specs.declared.replay.call.ServerCall.TheVariants as Call
use Rattle.stun_proto.specs.declared.replay.call.ServerReply.{ServerReply}
use Rattle.stun_proto.specs.declared.replay.call.ServerReply.TheVariants as code

-- ---- replies

-- what is answered: why bytes are no message; that a message is accepted, and with which algorithm,
-- or why it is refused; a signed message, or why signing is refused; that a call is done; that an
-- expiry is too short
pub data Reply : Type 0 where
  NotAMessage : StunParseError → Reply
  Validated : IntegrityAlgorithm → Reply
  Refused : LongTermServerAuthErrorReason → Reply
  Signed : List ℕ → Reply
  SignRefused : StunWriteError → Reply
  Done : Reply
  TooShort : Reply

-- a reply that the code gives
abbrev pub reply_of : {A : Type 0} → ServerReply A → Reply
reply_of (code.NotAMessage error) = NotAMessage error
reply_of (code.Validated algorithm) = Validated algorithm
reply_of (code.Refused reason) = Refused reason
reply_of (code.Signed bytes) = Signed bytes.items
reply_of (code.SignRefused error) = SignRefused error
reply_of code.Done = Done
reply_of code.TooShort = TooShort

abbrev pub replies_of : {A : Type 0} → List (ServerReply A) → List Reply
replies_of replies = map reply_of replies

-- a server's answer as a reply
abbrev pub reply_of_answer : Answer → Reply
reply_of_answer (Ok (Validation.Validated algorithm)) = Validated algorithm
reply_of_answer (Err reason) = Refused reason

-- a signed message, or why signing is refused, as a reply
abbrev pub reply_of_signing : Result Page StunWriteError → Reply
reply_of_signing (Ok page) = Signed page.bytes
reply_of_signing (Err error) = SignRefused error

-- the reply, if the bytes are a message
abbrev pub reply_unless : Option StunParseError → Reply → Reply
reply_unless (Some error) reply = NotAMessage error
reply_unless None reply = reply

-- ---- what a call changes

-- the users with the realm and the supported algorithms
abbrev pub registered_after : Registered → ServerCall → Registered
registered_after r (Call.Validate from now message words) = r
registered_after r (Call.Sign to message) = r
registered_after r (Call.AddUser name password) =
    with_user r (record { username = string_bytes name; password = string_bytes password })
registered_after r (Call.RemoveUser name) = without_user r (string_bytes name)
registered_after r (Call.AddIntegrity algorithm) =
    record r { algorithms = with_algorithm algorithm r.algorithms }
registered_after r (Call.SetIntegrity algorithm) = record r { algorithms = only algorithm }
registered_after r (Call.SetAnonymous feature) = r
registered_after r (Call.RemoveClient address) = r
registered_after r (Call.SetExpiry expiry) = r
registered_after r (Call.ForgetExpired now) = r
registered_after r (Call.Forget address) = r

-- whether names may be hashed
abbrev pub feature_after : Feature → ServerCall → Feature
feature_after f (Call.Validate from now message words) = f
feature_after f (Call.Sign to message) = f
feature_after f (Call.AddUser name password) = f
feature_after f (Call.RemoveUser name) = f
feature_after f (Call.AddIntegrity algorithm) = f
feature_after f (Call.SetIntegrity algorithm) = f
feature_after f (Call.SetAnonymous feature) = feature
feature_after f (Call.RemoveClient address) = f
feature_after f (Call.SetExpiry expiry) = f
feature_after f (Call.ForgetExpired now) = f
feature_after f (Call.Forget address) = f

-- whether a nonce would last for less time than a server accepts
abbrev pub is_too_short : Duration → Bool
is_too_short expiry = nat_lt (as_nanos expiry) MINIMUM_EXPIRY

-- how long nonces last
abbrev pub expiry_after : ℕ → ServerCall → ℕ
expiry_after e (Call.Validate from now message words) = e
expiry_after e (Call.Sign to message) = e
expiry_after e (Call.AddUser name password) = e
expiry_after e (Call.RemoveUser name) = e
expiry_after e (Call.AddIntegrity algorithm) = e
expiry_after e (Call.SetIntegrity algorithm) = e
expiry_after e (Call.SetAnonymous feature) = e
expiry_after e (Call.RemoveClient address) = e
expiry_after e (Call.SetExpiry expiry) = if is_too_short expiry then e else as_nanos expiry
expiry_after e (Call.ForgetExpired now) = e
expiry_after e (Call.Forget address) = e

-- the records, if the bytes are a message
abbrev pub places_unless : Option StunParseError → PlacesSeen → PlacesSeen → PlacesSeen
places_unless (Some error) before after = before
places_unless None before after = after

-- the records of all addresses
abbrev pub places_after : ServerSeen → ServerCall → PlacesSeen
places_after s (Call.Validate from now message words) =
    places_unless (refusal message.items) s.places
    (after_validation s from now words (reading_of message.items)).places
places_after s (Call.Sign to message) =
    places_unless (refusal message.items) s.places
    (if_signed (signing (sight s to) message.items) s.places
    (after_signing s to (is_response (class_in message.items))).places)
places_after s (Call.AddUser name password) = s.places
places_after s (Call.RemoveUser name) = s.places
places_after s (Call.AddIntegrity algorithm) = s.places
places_after s (Call.SetIntegrity algorithm) = s.places
places_after s (Call.SetAnonymous feature) = s.places
places_after s (Call.RemoveClient address) = with_change s.places address (with_client None)
places_after s (Call.SetExpiry expiry) = s.places
places_after s (Call.ForgetExpired now) = places_kept now s.places
places_after s (Call.Forget address) = (without_place s address).places

-- ---- one call

abbrev pub reply : ServerSeen → ServerCall → Reply
reply s (Call.Validate from now message words) =
    reply_unless (refusal message.items)
    (reply_of_answer (answer (sight s from) now words (reading_of message.items)))
reply s (Call.Sign to message) =
    reply_unless (refusal message.items) (reply_of_signing (signing (sight s to) message.items))
reply s (Call.AddUser name password) = Done
reply s (Call.RemoveUser name) = Done
reply s (Call.AddIntegrity algorithm) = Done
reply s (Call.SetIntegrity algorithm) = Done
reply s (Call.SetAnonymous feature) = Done
reply s (Call.RemoveClient address) = Done
reply s (Call.SetExpiry expiry) = if is_too_short expiry then TooShort else Done
reply s (Call.ForgetExpired now) = Done
reply s (Call.Forget address) = Done

abbrev pub after_call : ServerSeen → ServerCall → ServerSeen
after_call s call = record {
  registered = registered_after s.registered call;
  feature = feature_after s.feature call;
  expiry = expiry_after s.expiry call;
  places = places_after s call;
}

-- ---- a list of calls

-- the reply to each call, over the calls before it
abbrev pub replies : ServerSeen → List ServerCall → List Reply
replies s [] = []
replies s (call ∷ calls) = reply s call ∷ replies (after_call s call) calls

-- the server after all calls
abbrev pub after_calls : ServerSeen → List ServerCall → ServerSeen
after_calls s [] = s
after_calls s (call ∷ calls) = after_calls (after_call s call) calls
