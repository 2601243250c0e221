-- Which messages of a run are accepted (RFC 8489, section 9.2.4).
use Rattle.std.specs.Prelude.{◌≡◌, ◌↔◌, ℕ, List, take, slice_get, false, Some, None}
use Rattle.std.specs.declared.net.socket_addr.SocketAddr.{SocketAddr}
use Rattle.std.specs.declared.vec.Vec.{Vec}
use Rattle.std.specs.declared.alloc.Global.{Global}
use Rattle.stun_base.specs.declared.keys.algorithm.IntegrityAlgorithm.{IntegrityAlgorithm}
use Rattle.stun_types.specs.Message.{refusal}
use Rattle.stun_base.specs.MessageType.{class_in, is_response}
use Rattle.stun_judging.specs.Reading.{reading_of}
use Rattle.stun_auth.specs.Validation.{AcceptedWith, ServerSeen, sight}
use Rattle.stun_proto.specs.declared.replay.call.ServerCall.{ServerCall}
use Rattle.stun_proto.specs.declared.replay.call.ServerCall.TheVariants as Call
use Rattle.stun_proto.specs.Isolation.{own_calls, sight_over}
use Rattle.stun_proto.specs.Serving.{Reply, Validated}

-- At each index of the list: a request or an indication from an address is validated with an
-- algorithm if and only if it has all of these:
--
-- - a realm;
-- - the nonce that is current at the address;
-- - algorithms that agree;
-- - the digest under the key of the present user whom it names.
--
-- All of this is judged by the record of the address that its own earlier calls leave.
abbrev pub ValidatesEachAccepted : ServerSeen → List ServerCall → List Reply → Type 0
ValidatesEachAccepted start calls given =
    (i : ℕ) (a : SocketAddr) (now : ℕ) (message : Vec ℕ Global) (words : List ℕ)
    (algorithm : IntegrityAlgorithm)
    → slice_get calls i ≡ Some (Call.Validate a now message words)
    → refusal message.items ≡ None → is_response (class_in message.items) ≡ false
    → (slice_get given i ≡ Some (Validated algorithm))
    ↔ AcceptedWith (sight_over (sight start a) (own_calls a (take i calls))) now words
    (reading_of message.items) algorithm
