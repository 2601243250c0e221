-- What calls leave of the transactions, beside what they count.
use Rattle.std.proofs.Common.{ℕ, ◌≡◌, List, length, ap, refl}
use Rattle.std.specs.Prelude.{Option, Some, None}
use Rattle.std.specs.Option.{option_map, option_map_or}
use Rattle.std.specs.declared.net.socket_addr.SocketAddr.{SocketAddr}
use Rattle.stun_base.specs.Header.{transaction_id_field}
use Rattle.stun_agent.specs.Agent.{Agent, with_transactions, with_validated, with_tally}
use Rattle.stun_agent.specs.Agent.{tally_of_sent, tally_of_end, sent_by_poll}
use Rattle.stun_agent.specs.Agent.{after_poll_transmit, ended_by_poll, after_poll}
use Rattle.stun_agent.specs.Statistics.{response_received}
use Rattle.stun_agent.specs.Transactions.{Transaction, without, after_slots, round_trip}

-- counting leaves transport and transactions
pub sent_transport : (sent : Option (ℕ × Transaction)) (a : Agent)
    → (tally_of_sent sent a).transport ≡ a.transport
sent_transport None a = refl
sent_transport (Some e) a = refl

pub sent_transactions : (sent : Option (ℕ × Transaction)) (a : Agent)
    → (tally_of_sent sent a).transactions ≡ a.transactions
sent_transactions None a = refl
sent_transactions (Some e) a = refl

-- transmission
pub transmit_transport : (now : ℕ) (a : Agent) → (after_poll_transmit now a).transport ≡ a.transport
transmit_transport now a = sent_transport (sent_by_poll now a) _

pub transmit_transactions : (now : ℕ) (a : Agent)
    → (after_poll_transmit now a).transactions
    ≡ after_slots a.transport now (option_map (λ (x : ℕ × Transaction). x.0) (sent_by_poll now a))
    a.transactions
transmit_transactions now a = sent_transactions (sent_by_poll now a) _

-- an end
pub poll_transport : (now : ℕ) (a : Agent) (e : ℕ × Transaction) → ended_by_poll now a ≡ Some e
    → (after_poll now a).transport ≡ a.transport
poll_transport now a e f =
    ap (λ o.
    (option_map_or
    (λ (x : ℕ × Transaction). with_tally (tally_of_end x.1)
    (with_transactions a (without x.0 a.transactions))) o a).transport) f

pub poll_transactions : (now : ℕ) (a : Agent) (e : ℕ × Transaction) → ended_by_poll now a ≡ Some e
    → (after_poll now a).transactions ≡ without e.0 a.transactions
poll_transactions now a e f =
    ap (λ o.
    (option_map_or
    (λ (x : ℕ × Transaction). with_tally (tally_of_end x.1)
    (with_transactions a (without x.0 a.transactions))) o a).transactions) f

-- the agent after a response, by the request that it takes
abbrev pub response_taken : Option ℕ → List ℕ → SocketAddr → Agent → Option Transaction → Agent
response_taken moment bytes from agent found =
    option_map_or
    (λ t. with_tally (response_received (length bytes) (round_trip moment t))
    (with_validated from
    (with_transactions agent (without (transaction_id_field bytes) agent.transactions))))
    found
    agent
