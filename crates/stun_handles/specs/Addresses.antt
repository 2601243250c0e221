-- The addresses that callers pass and receive: 4 octets or 16 in network order, and a port.
use Rattle.std.specs.Prelude.{ℕ, List, ◌++◌, take, replicate, ◌==◌}
use Rattle.std.specs.Prelude.{if◌then◌else◌, Option, Some, None}
use Rattle.std.specs.Net.Addr.{segments_of, octets_of}
use Rattle.std.specs.declared.net.socket_addr.SocketAddr.{SocketAddr}
use Rattle.std.specs.declared.net.socket_addr.SocketAddr.TheVariants.{V4, V6}
use Rattle.stun_handles.specs.declared.address.Address.{Address}

-- the IPv4 address of these octets, with a port
abbrev pub ipv4 : List ℕ → ℕ → SocketAddr
ipv4 octets port = V4 (record { ip = record { octets = octets }; port = port })

-- the IPv6 address of these octets, with a port, without flow information and scope
abbrev pub ipv6 : List ℕ → ℕ → SocketAddr
ipv6 octets port =
    V6 (record {
      ip = record { segments = segments_of octets };
      port = port;
      flowinfo = 0;
      scope_id = 0;
    })

-- the address of a caller, if its length is that of an address
abbrev pub socket_address : Address → Option SocketAddr
socket_address a =
    if a.length == 4 then Some (ipv4 (take 4 a.octets) a.port)
    else if a.length == 16 then Some (ipv6 a.octets a.port) else None

-- an address as a caller receives it: zeros after four octets
abbrev pub caller_address : SocketAddr → Address
caller_address (V4 a) = record { octets = a.ip.octets ++ replicate 12 0; port = a.port; length = 4 }
caller_address (V6 a) = record { octets = octets_of a.ip.segments; port = a.port; length = 16 }

-- an address as a caller receives it: with the length 0 if there is none
abbrev pub start_for : Option SocketAddr → Address
start_for None = record { octets = replicate 16 0; port = 0; length = 0 }
start_for (Some address) = caller_address address
