-- What is sent: bytes, their transport and their addresses.
use Rattle.std.specs.Prelude.{ℕ, List, ◌++◌, codes}
use Rattle.std.specs.Borrow.{Bor}
use Rattle.std.specs.Fmt.{decimal}
use Rattle.std.specs.Net.Text.{socket_text}
use Rattle.std.specs.declared.net.socket_addr.SocketAddr.{SocketAddr}
use Rattle.stun_base.specs.Data.{data_bytes}
use Rattle.stun_base.specs.Transport.{transport_name}
use Rattle.stun_base.specs.declared.wire.data.Data.{Data}
use Rattle.stun_base.specs.declared.wire.transport.TransportType.{TransportType}
use Rattle.stun_agent.specs.declared.calls.transmit.Transmit.{Transmit}

-- the four parts of a `Transmit`
abbrev pub parts : {T : Type 0} → Transmit T → T × TransportType × SocketAddr × SocketAddr
parts t = (t.«data», t.transport, t.from, t.to)

-- bytes, transport, sender and receiver
abbrev pub Datagram : Type 0
Datagram = List ℕ × TransportType × SocketAddr × SocketAddr

-- the datagram whose bytes are borrowed
abbrev pub lent_datagram : Transmit (Bor (List ℕ)) → Datagram
lent_datagram t = (t.«data».now, t.transport, t.from, t.to)

-- the datagram whose bytes are borrowed or owned
abbrev pub datagram : {A : Type 0} → Transmit (Data A) → Datagram
datagram t = (data_bytes t.«data», t.transport, t.from, t.to)

-- the text of this many bytes that a transport carries between two addresses
abbrev pub text_of_datagram : TransportType → SocketAddr → SocketAddr → ℕ → List ℕ
text_of_datagram transport from to count =
    codes "Transmit(" ++ transport_name transport ++ codes ": " ++ socket_text from ++ codes " -> "
    ++ socket_text to ++ codes " of "
    ++ decimal count ++ codes " bytes)"
