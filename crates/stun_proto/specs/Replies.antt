-- What one address can tell of a run by its own calls and the replies to them, so that a reader
-- need not know when a signing succeeds, nor why a message is refused.
use Rattle.std.specs.Prelude.{ℕ, List, [], ◌∷◌, Bool, true, false}
use Rattle.std.specs.Prelude.{if◌then◌else◌, Option, None, Some}
use Rattle.std.specs.Option.{option_map, option_map_or}
use Rattle.std.specs.declared.net.socket_addr.SocketAddr.{SocketAddr}
use Rattle.stun_base.specs.declared.wire.error.StunParseError.{StunParseError}
use Rattle.stun_types.specs.Message.{refusal}
use Rattle.stun_auth.specs.Forgetting.{place_kept}
use Rattle.stun_auth.specs.Places.{with_client}
use Rattle.stun_base.specs.MessageType.{is_response}
use Rattle.stun_judging.specs.Reading.{Reading, reading_of}
use Rattle.stun_judging.specs.Registered.{RegisteredUser}
use Rattle.stun_auth.specs.Seen.{PlaceSeen}
use Rattle.stun_auth.specs.Server.{Sight, current_place}
use Rattle.stun_judging.specs.Verdict.{named_user}
use Rattle.stun_auth.specs.Validation.{needs_nonce}
use Rattle.stun_proto.specs.declared.replay.call.ServerCall.{ServerCall}
use Rattle.stun_proto.specs.declared.replay.call.ServerCall.TheVariants as Call
use Rattle.stun_proto.specs.Isolation.{concerns}
use Rattle.stun_proto.specs.Serving.{Reply, NotAMessage, Validated, Refused, Signed, SignRefused}
use Rattle.stun_proto.specs.Serving.{Done, TooShort, expiry_after, feature_after, registered_after}
use Rattle.stun_proto.specs.Signing.{place_offered}

-- ---- what bytes say

-- what bytes say, if they are a message. The definitions below take it as an argument: they depend
-- on what is read of a message, and not on how it is read from its bytes
abbrev pub Reads : Type 0
Reads = List ℕ → Option Reading

abbrev pub read_unless : Option StunParseError → Reading → Option Reading
read_unless (Some error) r = None
read_unless None r = Some r

-- how this library reads
abbrev pub message_read : Reads
message_read bytes = read_unless (refusal bytes) (reading_of bytes)

-- ---- what replies say

-- whether a message was signed
abbrev pub is_signed : Reply → Bool
is_signed (NotAMessage error) = false
is_signed (Validated algorithm) = false
is_signed (Refused reason) = false
is_signed (Signed bytes) = true
is_signed (SignRefused error) = false
is_signed Done = false
is_signed TooShort = false

-- the record with the named user as its client, if the message was validated
abbrev pub client_by_reply : PlaceSeen → Option RegisteredUser → Reply → PlaceSeen
client_by_reply place who (NotAMessage error) = place
client_by_reply place who (Validated algorithm) =
    record place {
      client =
          Some (record {
            name = option_map_or (λ (user : RegisteredUser). user.username) who [];
            algorithm = algorithm;
          });
    }
client_by_reply place who (Refused reason) = place
client_by_reply place who (Signed bytes) = place
client_by_reply place who (SignRefused error) = place
client_by_reply place who Done = place
client_by_reply place who TooShort = place

-- the record after a message: if it needs a nonce, the current nonce stays, or else one is made
abbrev pub place_by_answer : Sight → ℕ → List ℕ → Reading → Reply → Option PlaceSeen
place_by_answer s now words m r =
    if needs_nonce m
    then Some (client_by_reply (current_place s now words) (named_user s.registered s.feature m) r)
    else s.place

-- the same, if the bytes are a message
abbrev pub place_by_message : Sight → ℕ → List ℕ → Option Reading → Reply → Option PlaceSeen
place_by_message s now words None r = s.place
place_by_message s now words (Some m) r = place_by_answer s now words m r

-- the record after a message that was signed: what a response offered is kept
abbrev pub place_by_signing : Sight → Option Reading → Option PlaceSeen
place_by_signing s None = s.place
place_by_signing s (Some m) = place_offered s (is_response m.class)

-- The record of an address after a call. It is changed by:
--
-- - a message that needs a nonce;
-- - a response that was signed;
-- - the call that removes its client;
-- - the one that forgets expired nonces, if no client is known;
-- - the one that forgets the address
abbrev pub place_by_reply : Reads → Sight → ServerCall → Reply → Option PlaceSeen
place_by_reply read s (Call.Validate from now message words) r =
    place_by_message s now words (read message.items) r
place_by_reply read s (Call.Sign to message) r =
    if is_signed r then place_by_signing s (read message.items) else s.place
place_by_reply read s (Call.AddUser name password) r = s.place
place_by_reply read s (Call.RemoveUser name) r = s.place
place_by_reply read s (Call.AddIntegrity algorithm) r = s.place
place_by_reply read s (Call.SetIntegrity algorithm) r = s.place
place_by_reply read s (Call.SetAnonymous feature) r = s.place
place_by_reply read s (Call.RemoveClient address) r = option_map (with_client None) s.place
place_by_reply read s (Call.SetExpiry expiry) r = s.place
place_by_reply read s (Call.ForgetExpired now) r = place_kept now s.place
place_by_reply read s (Call.Forget address) r = None

-- what an address can tell after a call of its own, or one that concerns every address
abbrev pub sight_by_reply : Reads → Sight → ServerCall → Reply → Sight
sight_by_reply read s call r = record {
  registered = registered_after s.registered call;
  feature = feature_after s.feature call;
  expiry = expiry_after s.expiry call;
  place = place_by_reply read s call r;
}

-- what an address can tell after calls and the replies to them: a call of another address leaves it
-- unchanged
abbrev pub sight_by_replies : Reads → SocketAddr → Sight → List ServerCall → List Reply → Sight
sight_by_replies read a s [] given = s
sight_by_replies read a s (call ∷ calls) [] = s
sight_by_replies read a s (call ∷ calls) (r ∷ given) =
    if concerns a call then sight_by_replies read a (sight_by_reply read s call r) calls given
    else sight_by_replies read a s calls given
