-- The contents of the map of outstanding requests, and how one of them is changed.
use Rattle.std.specs.Prelude.{ℕ, Bool, true, nat_le, List, Option}
use Rattle.std.specs.Option.{option_map_or}
use Rattle.std.specs.declared.net.socket_addr.SocketAddr.{SocketAddr}
use Rattle.stun_base.specs.declared.wire.transport.TransportType.{TransportType}
use Rattle.stun_agent.specs.declared.state.transaction.Change.{Change}
use Rattle.stun_agent.specs.declared.state.transaction.Change.TheVariants.{Silence, Cancel}
use Rattle.stun_agent.specs.declared.state.transaction.Change.TheVariants.{Configure}
use Rattle.stun_agent.specs.Tables.{Attached}
use Rattle.stun_agent.specs.Timing.{settings_of}
use Rattle.stun_agent.specs.Transactions.{Transaction, Transactions, repeats}
use Rattle.stun_agent.specs.Transactions.{without_retransmissions, with_cancellation, with_settings}

-- a request under its ID, with the datum of its owner
pub record LeafSeen (D : Type 0) : Type 0 where
  pub entry : ℕ × Transaction
  pub datum : D

-- the outstanding requests with the data of their owner, and the transport that carries them
pub record Outstanding (D : Type 0) : Type 0 where
  pub transport : TransportType
  pub requests : Transactions
  pub attached : Attached D

-- what is sent of a transaction, and where
abbrev pub contents : Transaction → List ℕ × SocketAddr
contents t = (t.bytes, t.to)

-- the bytes of the request that is sent, if there is one, fit into a room, if that is limited
abbrev pub has_room : Option ℕ → Option (ℕ × ℕ) → Bool
has_room room sent =
    option_map_or (λ most. option_map_or (λ s. nat_le s.1 most) sent true) room true

-- what is returned for a request that ends: its ID, and whether it was still retransmitted
abbrev pub id_and_repeats : ℕ × Transaction → ℕ × Bool
id_and_repeats e = (e.0, repeats e.1.sending)

-- a transaction after a change by its user
abbrev pub changed_transaction : Change → Transaction → Transaction
changed_transaction Silence t = without_retransmissions t
changed_transaction Cancel t = with_cancellation t
changed_transaction (Configure settings) t = with_settings (settings_of settings) t
