-- An event of a run as a value: what its equality compares.
use Rattle.std.specs.Prelude.{ℕ, List}
use Rattle.std.specs.declared.time.Duration.{Duration}
use Rattle.std.specs.declared.net.socket_addr.SocketAddr.{SocketAddr}
use Rattle.stun_proto.specs.declared.replay.event.AgentEvent.{AgentEvent}
use Rattle.stun_proto.specs.declared.replay.event.AgentEvent.TheVariants as Event

-- an event, with its bytes as a list
pub data EventValue : Type 0 where
  Send : List ℕ → SocketAddr → EventValue
  SendRequest : List ℕ → SocketAddr → EventValue
  Receive : List ℕ → SocketAddr → EventValue
  Cancel : ℕ → EventValue
  CancelRetransmissions : ℕ → EventValue
  Configure : ℕ → Duration → ℕ → Duration → Duration → EventValue
  ValidatePeer : SocketAddr → EventValue

abbrev pub event_value : AgentEvent → EventValue
event_value (Event.Send bytes to) = Send bytes.items to
event_value (Event.SendRequest bytes to) = SendRequest bytes.items to
event_value (Event.Receive bytes from) = Receive bytes.items from
event_value (Event.Cancel id) = Cancel id
event_value (Event.CancelRetransmissions id) = CancelRetransmissions id
event_value (Event.Configure id initial retransmits last max) =
    Configure id initial retransmits last max
event_value (Event.ValidatePeer address) = ValidatePeer address
