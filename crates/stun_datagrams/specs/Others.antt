-- Datagrams at a server without credentials, and at one with short-term credentials (RFC 8489,
-- sections 6.3 and 9.1.3): the outcome of each in a list.
use Rattle.std.specs.Prelude.{ℕ, List, map}
use Rattle.std.specs.declared.net.socket_addr.SocketAddr.{SocketAddr}
use Rattle.stun_endpoint.specs.Open.{OpenOutcome, received_openly}
use Rattle.stun_endpoint.specs.Responding.{Responding}
use Rattle.stun_endpoint.specs.ShortTerm.{Keys, ShortTermOutcome, received_signed}

-- a datagram: its source and its bytes
pub record OpenDatagram : Type 0 where
  pub from : SocketAddr
  pub bytes : List ℕ

abbrev pub open_outcomes : Responding → List OpenDatagram → List OpenOutcome
open_outcomes s datagrams = map (λ (d : OpenDatagram). received_openly s d.from d.bytes) datagrams

-- a datagram: its source, its bytes, and the users at its time
pub record ShortTermDatagram : Type 0 where
  pub from : SocketAddr
  pub bytes : List ℕ
  pub users : Keys

abbrev pub short_term_outcomes : Responding → List ShortTermDatagram → List ShortTermOutcome
short_term_outcomes s datagrams =
    map (λ (d : ShortTermDatagram). received_signed s d.users d.from d.bytes) datagrams
