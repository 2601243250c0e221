-- What a run keeps of an agent that is never asked for a request of an id: settings, transport, the
-- one address that it may send to, and that no such request is outstanding.
use Rattle.std.proofs.Common.{ℕ, ◌≡◌, List, ap, refl, ◌∙◌}
use Rattle.std.specs.Prelude.{Option, Some, None}
use Rattle.std.specs.List.{AllByRecursion}
use Rattle.std.specs.Option.{option_map_or}
use Rattle.std.specs.declared.net.socket_addr.SocketAddr.{SocketAddr}
use Rattle.stun_base.specs.declared.wire.error.StunParseError.{StunParseError}
use Rattle.stun_base.specs.declared.wire.message_type.MessageClass.{MessageClass}
use Rattle.stun_base.specs.declared.wire.message_type.MessageClass.TheVariants.{Request, Indication}
use Rattle.stun_base.specs.declared.wire.message_type.MessageClass.TheVariants.{Success, Error}
use Rattle.stun_types.specs.Message.{refusal}
use Rattle.stun_base.specs.MessageType.{class_in}
use Rattle.stun_agent.specs.Agent.{Agent, with_transactions, answered_request, sending_refusal}
use Rattle.stun_agent.specs.Agent.{after_send}
use Rattle.stun_agent.specs.Agent.{request_refusal, after_send_request, after_class, with_tally}
use Rattle.stun_agent.specs.Agent.{tally_of_sent, tally_of_end, sent_by_poll, after_poll_transmit}
use Rattle.stun_agent.specs.Agent.{ended_by_poll, after_poll}
use Rattle.stun_agent.specs.Transactions.{IsAscending, Transaction, without}
use Rattle.stun_agent.specs.declared.error.StunError.{StunError}
use Rattle.stun_proto.specs.declared.replay.event.AgentEvent.{AgentEvent}
use Rattle.stun_proto.specs.declared.replay.event.AgentEvent.TheVariants.{Send, SendRequest}
use Rattle.stun_proto.specs.declared.replay.event.AgentEvent.TheVariants.{Receive, Cancel}
use Rattle.stun_proto.specs.declared.replay.event.AgentEvent.TheVariants.{CancelRetransmissions}
use Rattle.stun_proto.specs.declared.replay.event.AgentEvent.TheVariants.{Configure, ValidatePeer}
use Rattle.stun_proto.specs.Run.{Phase, Turn, sends, rests, ends, again, stops, Turns, turn, none}
use Rattle.stun_proto.specs.Run.{Run, done, event, after_event}
use Rattle.stun_proto.specs.Schedule.{Asks}
use Rattle.stun_proto.specs.Steps.{Step}
use Rattle.stun_proto.proofs.agent_runs.AfterCalls.{transmit_transport, poll_transport}
use Rattle.stun_proto.proofs.agent_runs.AfterCalls.{response_taken}
use Rattle.stun_proto.proofs.agent_runs.RunLemmas.{turn_ascends, turns_ascends, event_ascends}
use Rattle.stun_proto.proofs.agent_runs.Absent.{IsAbsent, apart, ended_there, transmit_absent}
use Rattle.stun_proto.proofs.agent_runs.Absent.{transmit_ascends, poll_absent, poll_ascends}
use Rattle.stun_proto.proofs.agent_runs.Absent.{event_absent}

-- ---- no event changes the agent's settings and transport
record Fixed (a b : Agent) : Type 0 where
  pub settings : b.settings ≡ a.settings
  pub transport : b.transport ≡ a.transport
  pub remote_addr : b.remote_addr ≡ a.remote_addr

fixed : (a : Agent) → Fixed a a
fixed a = record { settings = refl; transport = refl; remote_addr = refl }

response_fixed : (moment : Option ℕ) (bs : List ℕ) (from : SocketAddr) (a : Agent)
    (o : Option Transaction) → Fixed a (response_taken moment bs from a o)
response_fixed moment bs from a None = fixed a
response_fixed moment bs from a (Some t) =
    record { settings = refl; transport = refl; remote_addr = refl }

class_fixed : (class : MessageClass) (now : ℕ) (bs : List ℕ) (from : SocketAddr) (a : Agent)
    → Fixed a (after_class class (Some now) bs from a)
class_fixed Request now bs from a = record { settings = refl; transport = refl; remote_addr = refl }
class_fixed Indication now bs from a =
    record { settings = refl; transport = refl; remote_addr = refl }
class_fixed Success now bs from a = response_fixed (Some now) bs from a (answered_request bs from a)
class_fixed Error now bs from a = response_fixed (Some now) bs from a (answered_request bs from a)

event_fixed : (now : ℕ) (e : AgentEvent) (a : Agent) → Fixed a (after_event now e a)
event_fixed now (Send bs target) a = by (sending_refusal a bs.items target)
  where
    by : (o : Option StunError) → Fixed a (option_map_or (λ _. a) o (after_send bs.items a))
    by None = record { settings = refl; transport = refl; remote_addr = refl }
    by (Some error) = fixed a
event_fixed now (SendRequest bs target) a = by (request_refusal a bs.items target)
  where
    by : (o : Option StunError)
        → Fixed a (option_map_or (λ _. a) o (after_send_request a bs.items target now))
    by None = record { settings = refl; transport = refl; remote_addr = refl }
    by (Some error) = fixed a
event_fixed now (Receive bs from) a = by (refusal bs.items)
  where
    by : (o : Option StunParseError)
        → Fixed a
        (option_map_or (λ _. a) o (after_class (class_in bs.items) (Some now) bs.items from a))
    by None = class_fixed (class_in bs.items) now bs.items from a
    by (Some error) = fixed a
event_fixed now (Cancel j) a = record { settings = refl; transport = refl; remote_addr = refl }
event_fixed now (CancelRetransmissions j) a =
    record { settings = refl; transport = refl; remote_addr = refl }
event_fixed now (Configure j initial retransmits last max) a =
    record { settings = refl; transport = refl; remote_addr = refl }
event_fixed now (ValidatePeer address) a =
    record { settings = refl; transport = refl; remote_addr = refl }

module _ (id : ℕ) where
  -- ---- what stays up to the request: its absence, and the agent's settings and transport
  pub record Stays (a b : Agent) : Type 0 where
    pub absent : IsAbsent id a → IsAbsent id b
    pub settings : b.settings ≡ a.settings
    pub transport : b.transport ≡ a.transport
    pub remote_addr : b.remote_addr ≡ a.remote_addr

  same : (a : Agent) → Stays a a
  same a =
      record { absent = λ absent. absent; settings = refl; transport = refl; remote_addr = refl }

  then : (a b c : Agent) → Stays a b → Stays b c → Stays a c
  then a b c first second = record {
    absent = λ absent. second.absent (first.absent absent);
    settings = second.settings ∙ first.settings;
    transport = second.transport ∙ first.transport;
    remote_addr = second.remote_addr ∙ first.remote_addr;
  }

  transmit_stays : (now : ℕ) (a : Agent) → Stays a (after_poll_transmit now a)
  transmit_stays now a =
      record {
        absent = transmit_absent id now a;
        settings = by (sent_by_poll now a) _;
        transport = transmit_transport now a;
        remote_addr = by_address (sent_by_poll now a) _;
      }
    where
      by_address : (sent : Option (ℕ × Transaction)) (b : Agent)
          → (tally_of_sent sent b).remote_addr ≡ b.remote_addr
      by_address None b = refl
      by_address (Some e) b = refl

      by : (sent : Option (ℕ × Transaction)) (b : Agent)
          → (tally_of_sent sent b).settings ≡ b.settings
      by None b = refl
      by (Some e) b = refl

  poll_stays : (now : ℕ) (a : Agent) (e : ℕ × Transaction) → IsAscending a.transactions
      → ended_by_poll now a ≡ Some e → Stays a (after_poll now a)
  poll_stays now a e s f = record {
    absent =
        λ absent.
        poll_absent id now a e f (apart id a e.0 e.1 (ended_there id now a e s f) absent) absent;
    settings =
        ap (λ o.
        (option_map_or
        (λ (x : ℕ × Transaction). with_tally (tally_of_end x.1)
        (with_transactions a (without x.0 a.transactions))) o a).settings) f;
    transport = poll_transport now a e f;
    remote_addr =
        ap (λ o.
        (option_map_or
        (λ (x : ℕ × Transaction). with_tally (tally_of_end x.1)
        (with_transactions a (without x.0 a.transactions))) o a).remote_addr) f;
  }

  turn_stays : (now : ℕ) {phase : Phase} {a b : Agent} {steps : List Step}
      → Turn now phase a steps b → IsAscending a.transactions → Stays a b
  turn_stays now {a = a} {b = b} (sends e f t) s =
      then a (after_poll_transmit now a) b (transmit_stays now a)
      (turn_stays now t (transmit_ascends id now a s))
  turn_stays now {a = a} {b = b} (rests f t) s =
      then a (after_poll_transmit now a) b (transmit_stays now a)
      (turn_stays now t (transmit_ascends id now a s))
  turn_stays now {a = a} {b = b} (ends e f t) s =
      then a (after_poll now a) b (poll_stays now a e s f)
      (turn_stays now t (poll_ascends id now a e s f))
  turn_stays now (again f w less t) s = turn_stays now t s
  turn_stays now {a = a} (stops f late) s = same a

  turns_stay : {bound from : ℕ} {a b : Agent} {steps : List Step} → Turns bound from a steps b
      → IsAscending a.transactions → Stays a b
  turns_stay {a = a} {b = c} (turn {b = b} moment next less t rest) s =
      then a b c (turn_stays moment t s) (turns_stay rest (turn_ascends moment t s))
  turns_stay {a = a} (none h) s = same a

  event_stays : (now : ℕ) (e : AgentEvent) (a : Agent) → (Asks id e → ⊥)
      → Stays a (after_event now e a)
  event_stays now e a other =
      record {
        absent = event_absent id now e a other;
        settings = (event_fixed now e a).settings;
        transport = (event_fixed now e a).transport;
        remote_addr = (event_fixed now e a).remote_addr;
      }

  pub run_stays : {bound from : ℕ} {a b : Agent} {events : List (ℕ × AgentEvent)}
      {steps : List Step} → Run bound from a events steps b
      → IsAscending a.transactions → AllByRecursion (λ e. Asks id e.1 → ⊥) events → Stays a b
  run_stays (done t) s others = turns_stay t s
  run_stays {a = a} {b = d} (event {b = b} {c = c} moment e ts t rest) s others =
      let before_it = turns_ascends ts s in
      let after_it = event_ascends moment e b before_it in
      then a b d (turns_stay ts s)
      (then b (after_event moment e b) d (event_stays moment e b others.0)
      (then (after_event moment e b) c d (turn_stays moment t after_it)
      (run_stays rest (turn_ascends moment t after_it) others.1)))
