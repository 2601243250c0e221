-- What a run looks like from one address: the calls for this address, and the record of the address
-- after them.
use Rattle.std.specs.Prelude.{◌≡◌, List, [], ◌∷◌, Bool, true, if◌then◌else◌, Option, Some, None}
use Rattle.std.specs.Option.{option_map}
use Rattle.std.specs.declared.net.socket_addr.SocketAddr.{SocketAddr}
use Rattle.stun_base.specs.Address.{same_address}
use Rattle.stun_base.specs.declared.wire.error.StunParseError.{StunParseError}
use Rattle.stun_types.specs.Message.{refusal}
use Rattle.stun_auth.specs.Forgetting.{place_kept}
use Rattle.stun_auth.specs.Places.{with_client}
use Rattle.stun_base.specs.MessageType.{class_in, is_response}
use Rattle.stun_judging.specs.Reading.{reading_of}
use Rattle.stun_auth.specs.Seen.{PlaceSeen}
use Rattle.stun_auth.specs.Server.{Sight}
use Rattle.stun_auth.specs.Validation.{ServerSeen, place_after}
use Rattle.stun_proto.specs.declared.replay.call.ServerCall.{ServerCall}
use Rattle.stun_proto.specs.declared.replay.call.ServerCall.TheVariants as Call
use Rattle.stun_proto.specs.Signing.{if_signed, place_offered, signing}
use Rattle.stun_proto.specs.Serving.{Reply, registered_after, feature_after, expiry_after, replies}

-- whether a call is for this address, or concerns every address because it changes users or
-- settings, or forgets what has expired
abbrev pub concerns : SocketAddr → ServerCall → Bool
concerns a (Call.Validate from now message words) = same_address from a
concerns a (Call.Sign to message) = same_address to a
concerns a (Call.AddUser name password) = true
concerns a (Call.RemoveUser name) = true
concerns a (Call.AddIntegrity algorithm) = true
concerns a (Call.SetIntegrity algorithm) = true
concerns a (Call.SetAnonymous feature) = true
concerns a (Call.RemoveClient address) = same_address address a
concerns a (Call.SetExpiry expiry) = true
concerns a (Call.ForgetExpired now) = true
concerns a (Call.Forget address) = same_address address a

-- the calls for an address, and the calls that concern every address, in their order
abbrev pub own_calls : SocketAddr → List ServerCall → List ServerCall
own_calls a [] = []
own_calls a (call ∷ calls) = if concerns a call then call ∷ own_calls a calls else own_calls a calls

-- the replies to these calls
abbrev pub own_replies : SocketAddr → List ServerCall → List Reply → List Reply
own_replies a [] given = []
own_replies a (call ∷ calls) [] = []
own_replies a (call ∷ calls) (r ∷ given) =
    if concerns a call then r ∷ own_replies a calls given else own_replies a calls given

-- the record, if the bytes are a message
abbrev pub place_unless : Option StunParseError → Option PlaceSeen → Option PlaceSeen
    → Option PlaceSeen
place_unless (Some error) before after = before
place_unless None before after = after

-- the record of an address after a call of its own
abbrev pub own_place_after : Sight → ServerCall → Option PlaceSeen
own_place_after s (Call.Validate from now message words) =
    place_unless (refusal message.items) s.place
    (place_after s now words (reading_of message.items))
own_place_after s (Call.Sign to message) =
    place_unless (refusal message.items) s.place
    (if_signed (signing s message.items) s.place
    (place_offered s (is_response (class_in message.items))))
own_place_after s (Call.AddUser name password) = s.place
own_place_after s (Call.RemoveUser name) = s.place
own_place_after s (Call.AddIntegrity algorithm) = s.place
own_place_after s (Call.SetIntegrity algorithm) = s.place
own_place_after s (Call.SetAnonymous feature) = s.place
own_place_after s (Call.RemoveClient address) = option_map (with_client None) s.place
own_place_after s (Call.SetExpiry expiry) = s.place
own_place_after s (Call.ForgetExpired now) = place_kept now s.place
own_place_after s (Call.Forget address) = None

-- what an address can tell after a call of its own, or one that concerns every address
abbrev pub sight_after : Sight → ServerCall → Sight
sight_after s call = record {
  registered = registered_after s.registered call;
  feature = feature_after s.feature call;
  expiry = expiry_after s.expiry call;
  place = own_place_after s call;
}

-- what an address can tell after its own calls. No call for another address affects it
abbrev pub sight_over : Sight → List ServerCall → Sight
sight_over s [] = s
sight_over s (call ∷ calls) = sight_over (sight_after s call) calls

-- the replies to each address are those that this run gives, from the same start, to the address's
-- own calls alone
abbrev pub IsolatedBy : (ServerSeen → List ServerCall → List Reply) → ServerSeen → List ServerCall
    → List Reply → Type 0
IsolatedBy run start calls given =
    (a : SocketAddr) → own_replies a calls given ≡ run start (own_calls a calls)

-- the run of this library's server
abbrev pub IsIsolated : ServerSeen → List ServerCall → List Reply → Type 0
IsIsolated = IsolatedBy replies
