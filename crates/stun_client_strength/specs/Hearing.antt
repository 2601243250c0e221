-- Which message of a client a datagram answers (RFC 8489, section 6.3).
use Rattle.std.specs.Prelude.{ℕ, List, Option, None, if◌then◌else◌}
use Rattle.std.specs.Option.{is_some}
use Rattle.std.specs.declared.net.socket_addr.SocketAddr.{SocketAddr}
use Rattle.stun_base.specs.MessageType.{class_in, is_response}
use Rattle.stun_types.specs.Message.{refusal}
use Rattle.stun_client.specs.Judging.{Verdict, judged}
use Rattle.stun_client_calls.specs.Clients.{Client, identity_for}
use Rattle.stun_client_calls.specs.Receiving.{Met, heard_in}

-- the message that a datagram from an address answers, if it is a response to a message of an
-- outstanding request, and comes from the address that answers this request
abbrev pub message_answered : Client → SocketAddr → List ℕ → Option Met
message_answered c from bytes =
    if is_some (refusal bytes) then None
    else if is_response (class_in bytes) then heard_in from bytes c
    else None

-- the judgement of the response, with the identity of the client for the request
abbrev pub response_verdict : Client → List ℕ → Met → Verdict
response_verdict c bytes m =
    judged c.requires_fingerprint m.is_current (identity_for c m.asked) c.standing m.signed_for
    bytes
