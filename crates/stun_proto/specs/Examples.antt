-- One request and its plan, spelled out (RFC 8489, section 6.2.1).
use Rattle.std.specs.Prelude.{ℕ, ◌*◌, List, [], ◌∷◌}
use Rattle.std.specs.declared.net.socket_addr.SocketAddr.{SocketAddr}
use Rattle.stun_proto.specs.Steps.{Step, Transmitted, TimedOut}

-- a Binding request without attributes, with the ID 7: type 0x0001, length 0, magic cookie, ID
-- (section 5)
abbrev pub example_request : List ℕ
example_request =
    0x00 ∷ 0x01 ∷ 0 ∷ 0 ∷ 0x21 ∷ 0x12 ∷ 0xA4 ∷ 0x42 ∷ 0 ∷ 0 ∷ 0 ∷ 0 ∷ 0 ∷ 0 ∷ 0 ∷ 0 ∷ 0 ∷ 0 ∷ 0
    ∷ 7 ∷ []

-- this many milliseconds, in nanoseconds
abbrev pub ms : ℕ → ℕ
ms n = n * 1000000

-- the request is sent to an address
abbrev pub sent_at_ms : ℕ → SocketAddr → Step
sent_at_ms milliseconds to = Transmitted (ms milliseconds) 7 to example_request

-- over UDP with the default settings, from time 0: each timeout is twice the one before, and after
-- the seventh transmission 8 seconds pass
abbrev pub udp_steps : SocketAddr → List Step
udp_steps to =
    sent_at_ms 0 to ∷ sent_at_ms 500 to ∷ sent_at_ms 1500 to ∷ sent_at_ms 3500 to
    ∷ sent_at_ms 7500 to
    ∷ sent_at_ms 15500 to ∷ sent_at_ms 31500 to
    ∷ TimedOut (ms 39500) 7 ∷ []

-- over TCP it is sent once, and ends at the same time (section 6.2.2)
abbrev pub tcp_steps : SocketAddr → List Step
tcp_steps to = sent_at_ms 0 to ∷ TimedOut (ms 39500) 7 ∷ []
