-- The outcome of a datagram at a server without credentials (RFC 8489, section 6.3). It is a
-- function of what the server understands, the source and the datagram, and so of no earlier
-- datagram.
use Rattle.std.specs.Prelude.{List, ℕ, if◌then◌else◌, Option, Some, None}
use Rattle.std.specs.declared.net.socket_addr.SocketAddr.{SocketAddr}
use Rattle.stun_base.specs.MessageType.{class_in}
use Rattle.stun_base.specs.declared.wire.message_type.MessageClass.{MessageClass}
use Rattle.stun_base.specs.declared.wire.message_type.MessageClass.TheVariants.{Request}
use Rattle.stun_base.specs.declared.wire.message_type.MessageClass.TheVariants.{Indication}
use Rattle.stun_base.specs.declared.wire.message_type.MessageClass.TheVariants.{Success, Error}
use Rattle.stun_extra.specs.Unknown.{unknown_types}
use Rattle.stun_endpoint.specs.Responding.{Answer, OutcomeOf, Reply, Responding, drop_reason}
use Rattle.stun_endpoint.specs.Responding.{is_empty, own_answer, reply_by}
pub use Rattle.stun_endpoint.specs.Responding.{answered, dropped, indicated, requested, responded}
pub use Rattle.stun_endpoint.specs.Responding.{unless_dropped}
use Rattle.stun_endpoint.specs.declared.received.DropReason.TheVariants.{UnknownAttribute}

-- a request that is returned to the caller: the message, and the means to respond
pub record OpenRequest : Type 0 where
  pub message : List ℕ
  pub reply : Reply

-- the outcome of a datagram
abbrev pub OpenOutcome : Type 0
OpenOutcome = OutcomeOf OpenRequest (List ℕ)

-- a request gets the server's own response, or else is returned to the caller
abbrev pub or_requested : Responding → SocketAddr → List ℕ → Option Answer → OpenOutcome
or_requested s from bytes (Some answer) = answered answer
or_requested s from bytes None =
    requested (record { message = bytes; reply = reply_by s None from bytes })

-- nobody is asked for credentials, and nothing is signed. An indication whose attributes are not
-- understood is dropped (section 6.3.2). A response is for a client on the same socket
abbrev pub by_class_openly : Responding → SocketAddr → List ℕ → MessageClass → OpenOutcome
by_class_openly s from bytes Request =
    or_requested s from bytes (own_answer s None from bytes)
by_class_openly s from bytes Indication =
    if is_empty (unknown_types s.known bytes) then indicated bytes else dropped UnknownAttribute
by_class_openly s from bytes Success = responded bytes
by_class_openly s from bytes Error = responded bytes

abbrev pub received_openly : Responding → SocketAddr → List ℕ → OpenOutcome
received_openly s from bytes =
    unless_dropped (by_class_openly s from bytes (class_in bytes)) (drop_reason s.requires_fingerprint bytes)
