-- What the steps of a run add to the counters of its agent (RFC 8489, section 6.2).
use Rattle.std.specs.Prelude.{ℕ, ◌≡◌, ◌≤◌, Bool, true, false, List}
use Rattle.std.specs.Prelude.{filter, length, sum_by, Option, Some, None}
use Rattle.stun_base.specs.declared.wire.message_type.MessageClass.{MessageClass}
use Rattle.stun_base.specs.MessageType.{class_in, is_indication, is_response}
use Rattle.stun_agent.specs.Agent.{Agent}
use Rattle.stun_agent.specs.Statistics.{Statistics, last_count, saturating_sum}
use Rattle.stun_proto.specs.declared.replay.event.AgentEvent.{AgentEvent}
use Rattle.stun_proto.specs.Run.{IsDriven}
use Rattle.stun_proto.specs.Steps.{Step, Transmitted, Sent, Received, Refused, TimedOut, Cancelled}

-- ---- which steps are counted
-- the number of steps of a kind
abbrev pub count_of : (Step → Bool) → List Step → ℕ
count_of is_such steps = length (filter is_such steps)

-- a request times out
abbrev pub is_time_out : Step → Bool
is_time_out (Transmitted moment id to bytes) = false
is_time_out (Sent moment to bytes) = false
is_time_out (Received moment accepted) = false
is_time_out (Refused moment error) = false
is_time_out (TimedOut moment id) = true
is_time_out (Cancelled moment id) = false

-- a request ends because its user canceled it
abbrev pub is_cancellation : Step → Bool
is_cancellation (Transmitted moment id to bytes) = false
is_cancellation (Sent moment to bytes) = false
is_cancellation (Received moment accepted) = false
is_cancellation (Refused moment error) = false
is_cancellation (TimedOut moment id) = false
is_cancellation (Cancelled moment id) = true

-- a message of such a class is sent, which awaits no answer
abbrev pub is_sent : (MessageClass → Bool) → Step → Bool
is_sent is_such (Transmitted moment id to bytes) = false
is_sent is_such (Sent moment to bytes) = is_such (class_in bytes)
is_sent is_such (Received moment accepted) = false
is_sent is_such (Refused moment error) = false
is_sent is_such (TimedOut moment id) = false
is_sent is_such (Cancelled moment id) = false

-- how many bytes a step sends: those of a request, each time that it is sent
abbrev pub sent_bytes : Step → ℕ
sent_bytes (Transmitted moment id to bytes) = length bytes
sent_bytes (Sent moment to bytes) = length bytes
sent_bytes (Received moment accepted) = 0
sent_bytes (Refused moment error) = 0
sent_bytes (TimedOut moment id) = 0
sent_bytes (Cancelled moment id) = 0

-- ---- what they add
-- a counter of 64 bits grows by this much, and stays at its greatest number once it is there
abbrev pub Adds : ℕ → ℕ → ℕ → Type 0
Adds old more new = old ≤ last_count → new ≡ saturating_sum old more

-- the counters that the steps alone decide
pub record AreCounted (steps : List Step) (old new : Statistics) : Type 0 where
  pub timed_out : Adds old.transactions_timed_out (count_of is_time_out steps)
      new.transactions_timed_out
  pub cancelled : Adds old.transactions_cancelled (count_of is_cancellation steps)
      new.transactions_cancelled
  pub indications_sent : Adds old.indications_sent (count_of (is_sent is_indication) steps)
      new.indications_sent
  pub responses_sent : Adds old.responses_sent (count_of (is_sent is_response) steps)
      new.responses_sent
  pub bytes_sent : Adds old.bytes_sent (sum_by sent_bytes steps) new.bytes_sent

-- the same if the agent counts; an agent that does not count has no counters, before and after
abbrev pub CountsSteps : List Step → Option Statistics → Option Statistics → Type 0
CountsSteps steps None new = new ≡ None
CountsSteps steps (Some old) None = ⊥
CountsSteps steps (Some old) (Some new) = AreCounted steps old new

-- each run counts its steps
abbrev pub RunsCountSteps : Type 0
RunsCountSteps = (until : ℕ) (a b : Agent) (events : List (ℕ × AgentEvent)) (steps : List Step)
    → IsDriven until a events steps b
    → CountsSteps steps a.statistics b.statistics
