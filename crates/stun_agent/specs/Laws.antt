-- Laws of an agent for every sequence of calls, even if the times that are passed go back (RFC
-- 8489, section 6.2).
use Rattle.std.specs.Prelude.{◌≡◌, ◌≢◌, ◌≤◌, ◌<◌, ◌+◌, ℕ, false, max, List}
use Rattle.std.specs.Prelude.{[], Option, Some, None, IfSome, length}
use Rattle.std.specs.declared.net.socket_addr.SocketAddr.{SocketAddr}
use Rattle.stun_base.specs.Header.{transaction_id_field}
use Rattle.stun_base.specs.MessageType.{IsResponse, class_in}
use Rattle.stun_base.specs.Moments.{moment_after}
use Rattle.stun_base.specs.declared.wire.transport.TransportType.TheVariants.{Udp, Tcp}
use Rattle.stun_agent.specs.declared.agent.StunAgentPollRet.TheVariants.{WaitUntil}
use Rattle.stun_agent.specs.Agent.{Agent, takes_message, after_message, poll_answer, after_poll}
use Rattle.stun_agent.specs.Agent.{ended_by_poll, sent_by_poll, request_refusal, after_send_request}
use Rattle.stun_agent.specs.Statistics.{LeavesOutstanding, IsNotFull}
use Rattle.stun_agent.specs.Calls.{AgentCall, after_agent_call, after_agent_calls}
use Rattle.stun_agent.specs.Calls.{is_outstanding, begins, ends, one_if, count}
use Rattle.stun_agent.specs.Calls.{repetitions_until_end, most_transmissions_allowed}
use Rattle.stun_agent.specs.Timing.{Settings, timeout, planned_end}
use Rattle.stun_agent.specs.Transactions.{Transaction, at, an_hour}

-- a request is retransmitted only once its current timeout has passed, counted from the end of the
-- timeout before or, for the first timeout, from the time at which the request was sent
abbrev pub IsNeverEarly : Type 0
IsNeverEarly =
    (now : ℕ) (agent : Agent) (e : ℕ × Transaction) → sent_by_poll now agent ≡ Some e
    → moment_after e.1.last (timeout e.1.settings e.1.slot) ≤ now

-- nothing is retransmitted at this time, and nothing ends
pub record IsQuiet (moment : ℕ) (agent : Agent) : Type 0 where
  pub sends_nothing : sent_by_poll moment agent ≡ None
  pub ends_nothing : ended_by_poll moment agent ≡ None

-- a time to wait until: it is in the next hour, and until then all is quiet
pub record IsWait (now until : ℕ) (agent : Agent) : Type 0 where
  pub not_past : now ≤ until
  pub within_an_hour : until ≤ now + an_hour
  pub quiet : (moment : ℕ) → now ≤ moment → moment < until → IsQuiet moment agent

-- if a poll says to wait, it changes nothing, and all is quiet until the time that it returns
abbrev pub WaitsAsTold : Type 0
WaitsAsTold =
    (now until : ℕ) (agent : Agent) → poll_answer now agent ≡ WaitUntil until
    → (after_poll now agent ≡ agent) × IsWait now until agent

-- a response to no outstanding request is not accepted, and changes nothing
abbrev pub IgnoresUnknown : Type 0
IgnoresUnknown =
    (moment : Option ℕ) (bytes : List ℕ) (from : SocketAddr) (agent : Agent)
    → IsResponse (class_in bytes) → at (transaction_id_field bytes) agent.transactions ≡ None
    → (takes_message bytes from agent ≡ false) × (after_message moment bytes from agent ≡ agent)

-- a response that does not come from the address that its request was sent to is not accepted, and
-- changes nothing
abbrev pub IgnoresElsewhere : Type 0
IgnoresElsewhere =
    (moment : Option ℕ) (bytes : List ℕ) (from : SocketAddr) (agent : Agent) (t : Transaction)
    → IsResponse (class_in bytes) → at (transaction_id_field bytes) agent.transactions ≡ Some t
    → from ≢ t.to
    → (takes_message bytes from agent ≡ false) × (after_message moment bytes from agent ≡ agent)

-- a request ends at the same time over UDP and over TCP
abbrev pub EndsAlike : Type 0
EndsAlike = (settings : Settings) (start : ℕ)
    → planned_end Udp settings start ≡ planned_end Tcp settings start

-- for every sequence of calls: each request that was sent is outstanding or has ended exactly once
abbrev pub EndsOnce : Type 0
EndsOnce =
    (id : ℕ) (calls : List AgentCall) (start : Agent) → start.transactions ≡ []
    → count begins id calls start
    ≡ count ends id calls start + one_if (is_outstanding id (after_agent_calls calls start))

-- for every sequence of calls: from the time at which a request is sent until it ends, the request
-- is never transmitted more often than its settings ever allow, and only once over TCP
abbrev pub IsTransmittedAtMost : Type 0
IsTransmittedAtMost =
    (earlier later : List AgentCall) (start : Agent) (bytes : List ℕ) (to : SocketAddr) (now : ℕ)
    → start.transactions ≡ []
    → request_refusal (after_agent_calls earlier start) bytes to ≡ None
    → let begun = after_send_request (after_agent_calls earlier start) bytes to now in
    let id = transaction_id_field bytes in
    (1 + repetitions_until_end id later begun ≤ max 1 (most_transmissions_allowed id later begun))
    × (start.transport ≡ Tcp → repetitions_until_end id later begun ≡ 0)

-- while no counter is full, the statistics show how many requests are outstanding
abbrev pub KeepsCount : Type 0
KeepsCount =
    (call : AgentCall) (agent : Agent)
    → IfSome agent.statistics (λ stats. LeavesOutstanding stats (length agent.transactions))
    → IfSome (after_agent_call call agent).statistics
    (λ stats. IsNotFull stats
    → LeavesOutstanding stats (length (after_agent_call call agent).transactions))
