-- A response to no request, and the ends of plans.
use Rattle.std.proofs.Common.{ℕ, ◌≡◌, ◌+◌, ◌-◌, ◌^◌, List, length}
use Rattle.std.proofs.Common.{ap, refl, arith, false, true, min}
use Rattle.std.specs.Prelude.{Option, Some, None}
use Rattle.std.specs.Duration.{max_nanos}
use Rattle.std.specs.Option.{is_some, option_map_or}
use Rattle.std.specs.declared.net.socket_addr.SocketAddr.{SocketAddr}
use Rattle.stun_base.specs.Header.{transaction_id_field}
use Rattle.stun_base.specs.MessageType.{IsResponse}
use Rattle.stun_base.specs.declared.wire.message_type.MessageClass.{MessageClass}
use Rattle.stun_base.specs.declared.wire.message_type.MessageClass.TheVariants.{Request, Indication}
use Rattle.stun_base.specs.declared.wire.message_type.MessageClass.TheVariants.{Success, Error}
use Rattle.stun_base.specs.declared.wire.transport.TransportType.TheVariants.{Udp, Tcp}
use Rattle.stun_agent.specs.Agent.{Agent, takes_by_class, answered_request, after_class}
use Rattle.stun_agent.specs.Agent.{after_response}
use Rattle.stun_agent.specs.Agent.{with_tally, with_validated, with_transactions}
use Rattle.stun_agent.specs.Statistics.{response_received}
use Rattle.stun_agent.specs.Timing.{Settings, planned_end, sum_of_timeouts, repetitions}
use Rattle.stun_agent.specs.Transactions.{Transaction, without, round_trip}
use Rattle.stun_agent.proofs.TimingLemmas.{sum_of_timeouts-zero}

ignored : (moment : Option ℕ) (bytes : List ℕ) (from : SocketAddr) (agent : Agent)
    → answered_request bytes from agent ≡ None
    → (is_some (answered_request bytes from agent) ≡ false)
    × (after_response moment bytes from agent ≡ agent)
ignored moment bytes from agent none =
    (ap is_some none, by (answered_request bytes from agent) none)
  where
    by : (found : Option Transaction) → found ≡ None
        → option_map_or
        (λ t. with_tally (response_received (length bytes) (round_trip moment t))
        (with_validated from
        (with_transactions agent (without (transaction_id_field bytes) agent.transactions))))
        found agent
        ≡ agent
    by None h = refl
    by (Some t) h = cc

pub unanswering_ignored : (class : MessageClass) (moment : Option ℕ) (bytes : List ℕ)
    (from : SocketAddr) (agent : Agent) → IsResponse class
    → answered_request bytes from agent ≡ None → (takes_by_class class bytes from agent ≡ false)
    × (after_class class moment bytes from agent ≡ agent)
unanswering_ignored Request moment bytes from agent response none =
    absurd (let clash : false ≡ true = response in cc)
unanswering_ignored Indication moment bytes from agent response none =
    absurd (let clash : false ≡ true = response in cc)
unanswering_ignored Success moment bytes from agent response none =
    ignored moment bytes from agent none
unanswering_ignored Error moment bytes from agent response none =
    ignored moment bytes from agent none

capped : (start sum last : ℕ) → min (start + (sum + last)) (2 ^ 64 - 1)
    ≡ min (start + (0 + min (last + sum) max_nanos)) (2 ^ 64 - 1)
capped start sum last = omega arith

pub same_end : (settings : Settings) (start : ℕ)
    → planned_end Udp settings start ≡ planned_end Tcp settings start
same_end settings start =
    rw sum_of_timeouts-zero
    (capped start (sum_of_timeouts settings (repetitions settings)) settings.last_wait)
