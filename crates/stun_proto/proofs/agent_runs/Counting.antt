-- The steps of a run are counted one by one: each call adds the tally of its step, and sums of
-- tallies are counts over the steps.
use Rattle.std.proofs.Common.{ℕ, ◌≡◌, ◌+◌, arith, Bool, true, false, List, []}
use Rattle.std.proofs.Common.{◌∷◌, ◌++◌, length, subst, ap, sym, refl, ◌∙◌}
use Rattle.std.proofs.lemmas.List.{length-append}
use Rattle.std.proofs.lemmas.List.Elements.{filter-append}
use Rattle.std.proofs.lemmas.List.Sums.{sum_by-append}
use Rattle.std.proofs.lemmas.Option.{none-some}
use Rattle.std.specs.Prelude.{Option, Some, None, filter, sum_by, if◌then◌else◌}
use Rattle.std.specs.Option.{option_map, option_map_or}
use Rattle.std.specs.declared.net.socket_addr.SocketAddr.{SocketAddr}
use Rattle.stun_base.specs.declared.wire.error.StunParseError.{StunParseError}
use Rattle.stun_base.specs.declared.wire.message_type.MessageClass.{MessageClass}
use Rattle.stun_base.specs.declared.wire.message_type.MessageClass.TheVariants.{Request, Indication}
use Rattle.stun_base.specs.declared.wire.message_type.MessageClass.TheVariants.{Success, Error}
use Rattle.stun_types.specs.Message.{refusal}
use Rattle.stun_base.specs.MessageType.{class_in, is_response, is_indication}
use Rattle.stun_agent.specs.Agent.{Agent, with_transactions, with_tally, tally_of_sent}
use Rattle.stun_agent.specs.Agent.{tally_of_end, sending_tally, sending_refusal, after_send}
use Rattle.stun_agent.specs.Agent.{request_refusal, after_send_request, answered_request}
use Rattle.stun_agent.specs.Agent.{takes_message}
use Rattle.stun_agent.specs.Agent.{after_class, after_message, with_validated, sent_by_poll}
use Rattle.stun_agent.specs.Agent.{after_poll_transmit, ended_by_poll, after_poll}
use Rattle.stun_agent.specs.Statistics.{Statistics, Tally, no_tally, request_sent}
use Rattle.stun_agent.specs.Statistics.{request_sent_again, request_received, indication_received}
use Rattle.stun_agent.specs.Statistics.{response_received, request_timed_out, request_cancelled}
use Rattle.stun_agent.specs.Statistics.{statistics_after, saturating_sum}
use Rattle.stun_agent.specs.Transactions.{Transaction, without, after_slots, repeats, round_trip}
use Rattle.stun_agent.specs.declared.error.StunError.{StunError}
use Rattle.stun_agent.specs.declared.error.StunError.TheVariants.{ParseError}
use Rattle.stun_base.specs.Header.{transaction_id_field}
use Rattle.stun_proto.specs.declared.replay.event.AgentEvent.{AgentEvent}
use Rattle.stun_proto.specs.declared.replay.event.AgentEvent.TheVariants.{Send, SendRequest}
use Rattle.stun_proto.specs.declared.replay.event.AgentEvent.TheVariants.{Receive, Cancel}
use Rattle.stun_proto.specs.declared.replay.event.AgentEvent.TheVariants.{CancelRetransmissions}
use Rattle.stun_proto.specs.declared.replay.event.AgentEvent.TheVariants.{Configure, ValidatePeer}
use Rattle.stun_proto.specs.Counters.{count_of, is_time_out, is_cancellation, is_sent}
use Rattle.stun_proto.specs.Counters.{sent_bytes, Adds, CountsSteps, RunsCountSteps}
use Rattle.stun_proto.specs.Run.{Phase, Turn, sends, rests, ends, again, stops, Turns, turn, none}
use Rattle.stun_proto.specs.Run.{Run, done, event, transmission_step, end_step, after_event}
use Rattle.stun_proto.specs.Run.{steps_of_event}
use Rattle.stun_proto.specs.Steps.{Step, Transmitted, Sent, Received, Refused, TimedOut, Cancelled}

-- ---- tallies
-- a tally is what these steps add
record Tells (tally : Tally) (steps : List Step) : Type 0 where
  timed_out : tally.timed_out ≡ count_of is_time_out steps
  cancelled : tally.cancelled ≡ count_of is_cancellation steps
  indications_sent : tally.indications_sent ≡ count_of (is_sent is_indication) steps
  responses_sent : tally.responses_sent ≡ count_of (is_sent is_response) steps
  bytes_sent : tally.bytes_sent ≡ sum_by sent_bytes steps

counted_adds : (tally : Tally) (steps : List Step) (o : Option Statistics) → Tells tally steps
    → CountsSteps steps o (option_map (statistics_after tally) o)
counted_adds tally steps None t = refl
counted_adds tally steps (Some s) t = record {
  timed_out = λ _. ap (saturating_sum s.transactions_timed_out) t.timed_out;
  cancelled = λ _. ap (saturating_sum s.transactions_cancelled) t.cancelled;
  indications_sent = λ _. ap (saturating_sum s.indications_sent) t.indications_sent;
  responses_sent = λ _. ap (saturating_sum s.responses_sent) t.responses_sent;
  bytes_sent = λ _. ap (saturating_sum s.bytes_sent) t.bytes_sent;
}

stays : (n more : ℕ) → 0 ≡ more → Adds n more n
stays n more is within = omega (arith, is, within)

-- steps that add nothing
quiet : (steps : List Step) (o : Option Statistics) → Tells no_tally steps → CountsSteps steps o o
quiet steps None t = refl
quiet steps (Some s) t = record {
  timed_out = stays _ _ t.timed_out;
  cancelled = stays _ _ t.cancelled;
  indications_sent = stays _ _ t.indications_sent;
  responses_sent = stays _ _ t.responses_sent;
  bytes_sent = stays _ _ t.bytes_sent;
}

nothing : (o : Option Statistics) → CountsSteps [] o o
nothing o =
    quiet [] o
    (record {
      timed_out = refl;
      cancelled = refl;
      indications_sent = refl;
      responses_sent = refl;
      bytes_sent = refl;
    })

-- ---- one list of steps after another
adds_more : (a b c m n total : ℕ) → total ≡ m + n → Adds a m b → Adds b n c → Adds a total c
adds_more a b c m n total is first second within =
    let one = first within in
    let two = second (omega (arith, one)) in
    omega (arith, one, two, is)

counts_more : (p : Step → Bool) (first more : List Step)
    → count_of p (first ++ more) ≡ count_of p first + count_of p more
counts_more p first more =
    ap length (filter-append p first more) ∙ length-append (filter p first) (filter p more)

both : (first more : List Step) (x y z : Option Statistics) → CountsSteps first x y
    → CountsSteps more y z → CountsSteps (first ++ more) x z
both first more None None z p q = q
both first more None (Some y) z p q = absurd (none-some y (sym p))
both first more (Some x) None z p q = absurd p
both first more (Some x) (Some y) None p q = absurd q
both first more (Some x) (Some y) (Some z) p q = record {
  timed_out = adds_more _ _ _ _ _ _ (counts_more is_time_out first more) p.timed_out q.timed_out;
  cancelled =
      adds_more _ _ _ _ _ _ (counts_more is_cancellation first more) p.cancelled q.cancelled;
  indications_sent =
      adds_more _ _ _ _ _ _ (counts_more (is_sent is_indication) first more) p.indications_sent
      q.indications_sent;
  responses_sent =
      adds_more _ _ _ _ _ _ (counts_more (is_sent is_response) first more) p.responses_sent
      q.responses_sent;
  bytes_sent =
      adds_more _ _ _ _ _ _ (sum_by-append sent_bytes first more) p.bytes_sent q.bytes_sent;
}

-- ---- the steps of events
-- a step that sends no bytes and ends nothing
refused_tells : (now : ℕ) (error : StunError) → Tells no_tally (Refused now error ∷ [])
refused_tells now error =
    record {
      timed_out = refl;
      cancelled = refl;
      indications_sent = refl;
      responses_sent = refl;
      bytes_sent = refl;
    }

received_counts : (tally : Tally) (now : ℕ) (accepted : Bool) (o : Option Statistics)
    → tally.timed_out ≡ 0 → tally.cancelled ≡ 0 → tally.indications_sent ≡ 0
    → tally.responses_sent ≡ 0 → tally.bytes_sent ≡ 0
    → CountsSteps (Received now accepted ∷ []) o (option_map (statistics_after tally) o)
received_counts tally now accepted o t c i r b =
    counted_adds tally (Received now accepted ∷ []) o
    (record {
      timed_out = t;
      cancelled = c;
      indications_sent = i;
      responses_sent = r;
      bytes_sent = b;
    })

if_one : (p : Step → Bool) (s : Step) (b : Bool) → p s ≡ b
    → (if b then 1 else 0) ≡ count_of p (s ∷ [])
if_one p s true is = rw is refl
if_one p s false is = rw is refl

tally_indications : (c : MessageClass) (n : ℕ)
    → (sending_tally c n).indications_sent ≡ (if is_indication c then 1 else 0)
tally_indications Request n = refl
tally_indications Indication n = refl
tally_indications Success n = refl
tally_indications Error n = refl

tally_responses : (c : MessageClass) (n : ℕ)
    → (sending_tally c n).responses_sent ≡ (if is_response c then 1 else 0)
tally_responses Request n = refl
tally_responses Indication n = refl
tally_responses Success n = refl
tally_responses Error n = refl

tally_ends : (c : MessageClass) (n : ℕ)
    → ((sending_tally c n).timed_out ≡ 0) × ((sending_tally c n).cancelled ≡ 0)
tally_ends Request n = (refl, refl)
tally_ends Indication n = (refl, refl)
tally_ends Success n = (refl, refl)
tally_ends Error n = (refl, refl)

tally_bytes : (c : MessageClass) (n : ℕ) → (sending_tally c n).bytes_sent ≡ n
tally_bytes Request n = refl
tally_bytes Indication n = refl
tally_bytes Success n = refl
tally_bytes Error n = refl

sent_tells : (now : ℕ) (to : SocketAddr) (bytes : List ℕ)
    → Tells (sending_tally (class_in bytes) (length bytes)) (Sent now to bytes ∷ [])
sent_tells now to bytes =
    let c = class_in bytes in
    let whole = tally_bytes c (length bytes) in
    record {
      timed_out = (tally_ends c (length bytes)).0;
      cancelled = (tally_ends c (length bytes)).1;
      indications_sent = tally_indications c (length bytes)
          ∙ if_one (is_sent is_indication) (Sent now to bytes) (is_indication c) refl;
      responses_sent = tally_responses c (length bytes)
          ∙ if_one (is_sent is_response) (Sent now to bytes) (is_response c) refl;
      bytes_sent = omega (arith, whole);
    }

-- a request, for the first time or again
request_tells : (tally : Tally) (now id : ℕ) (to : SocketAddr) (bytes : List ℕ)
    → tally.timed_out ≡ 0 → tally.cancelled ≡ 0 → tally.indications_sent ≡ 0
    → tally.responses_sent ≡ 0 → tally.bytes_sent ≡ length bytes
    → Tells tally (Transmitted now id to bytes ∷ [])
request_tells tally now id to bytes t c i r b =
    record {
      timed_out = t;
      cancelled = c;
      indications_sent = i;
      responses_sent = r;
      bytes_sent = omega (arith, b);
    }

send_counts : (o : Option StunError) (now : ℕ) (bytes : List ℕ) (to : SocketAddr) (a : Agent)
    → CountsSteps (option_map_or (λ error. Refused now error) o (Sent now to bytes) ∷ [])
    a.statistics (option_map_or (λ _. a) o (after_send bytes a)).statistics
send_counts (Some error) now bytes to a =
    quiet (Refused now error ∷ []) a.statistics (refused_tells now error)
send_counts None now bytes to a =
    counted_adds (sending_tally (class_in bytes) (length bytes)) (Sent now to bytes ∷ [])
    a.statistics (sent_tells now to bytes)

ask_counts : (o : Option StunError) (now : ℕ) (bytes : List ℕ) (to : SocketAddr) (a : Agent)
    → CountsSteps
    (option_map_or (λ error. Refused now error) o
    (Transmitted now (transaction_id_field bytes) to bytes) ∷ []) a.statistics
    (option_map_or (λ _. a) o (after_send_request a bytes to now)).statistics
ask_counts (Some error) now bytes to a =
    quiet (Refused now error ∷ []) a.statistics (refused_tells now error)
ask_counts None now bytes to a =
    counted_adds (request_sent (length bytes))
    (Transmitted now (transaction_id_field bytes) to bytes ∷ []) a.statistics
    (request_tells (request_sent (length bytes)) now (transaction_id_field bytes) to bytes refl refl
    refl refl refl)

response_counts : (o : Option Transaction) (now : ℕ) (accepted : Bool) (moment : Option ℕ)
    (bytes : List ℕ) (from : SocketAddr) (a : Agent)
    → CountsSteps (Received now accepted ∷ []) a.statistics
    (option_map_or
    (λ t. with_tally (response_received (length bytes) (round_trip moment t))
    (with_validated from
    (with_transactions a (without (transaction_id_field bytes) a.transactions))))
    o a).statistics
response_counts None now accepted moment bytes from a =
    quiet (Received now accepted ∷ []) a.statistics
    (record {
      timed_out = refl;
      cancelled = refl;
      indications_sent = refl;
      responses_sent = refl;
      bytes_sent = refl;
    })
response_counts (Some t) now accepted moment bytes from a =
    received_counts (response_received (length bytes) (round_trip moment t)) now accepted
    a.statistics refl refl refl refl refl

class_counts : (c : MessageClass) (now : ℕ) (accepted : Bool) (moment : Option ℕ) (bytes : List ℕ)
    (from : SocketAddr) (a : Agent)
    → CountsSteps (Received now accepted ∷ []) a.statistics
    (after_class c moment bytes from a).statistics
class_counts Request now accepted moment bytes from a =
    received_counts (request_received (length bytes)) now accepted a.statistics refl refl refl
    refl refl
class_counts Indication now accepted moment bytes from a =
    received_counts (indication_received (length bytes)) now accepted a.statistics refl refl refl
    refl refl
class_counts Success now accepted moment bytes from a =
    response_counts (answered_request bytes from a) now accepted moment bytes from a
class_counts Error now accepted moment bytes from a =
    response_counts (answered_request bytes from a) now accepted moment bytes from a

receive_counts : (o : Option StunParseError) (now : ℕ) (bytes : List ℕ) (from : SocketAddr)
    (a : Agent)
    → CountsSteps
    (option_map_or (λ error. Refused now (ParseError error)) o
    (Received now (takes_message bytes from a)) ∷ []) a.statistics
    (option_map_or (λ _. a) o (after_message (Some now) bytes from a)).statistics
receive_counts (Some error) now bytes from a =
    quiet (Refused now (ParseError error) ∷ []) a.statistics (refused_tells now (ParseError error))
receive_counts None now bytes from a =
    class_counts (class_in bytes) now (takes_message bytes from a) (Some now) bytes from a

event_counts : (now : ℕ) (e : AgentEvent) (a : Agent)
    → CountsSteps (steps_of_event now e a) a.statistics (after_event now e a).statistics
event_counts now (Send bytes to) a =
    send_counts (sending_refusal a bytes.items to) now bytes.items to a
event_counts now (SendRequest bytes to) a =
    ask_counts (request_refusal a bytes.items to) now bytes.items to a
event_counts now (Receive bytes from) a =
    receive_counts (refusal bytes.items) now bytes.items from a
event_counts now (Cancel id) a = nothing a.statistics
event_counts now (CancelRetransmissions id) a = nothing a.statistics
event_counts now (Configure id initial retransmits last max) a = nothing a.statistics
event_counts now (ValidatePeer address) a = nothing a.statistics

-- ---- turns
sent_counts : (now : ℕ) (a : Agent) (e : ℕ × Transaction) → sent_by_poll now a ≡ Some e
    → CountsSteps (transmission_step now e ∷ []) a.statistics (after_poll_transmit now a).statistics
sent_counts now a e f =
    let passed =
    with_transactions a
    (after_slots a.transport now (option_map (λ (x : ℕ × Transaction). x.0) (sent_by_poll now a))
    a.transactions) in
    let is : (after_poll_transmit now a).statistics
    ≡ option_map (statistics_after (request_sent_again (length e.1.bytes))) a.statistics =
    ap (λ o. (tally_of_sent o passed).statistics) f in
    subst (CountsSteps (transmission_step now e ∷ []) a.statistics) (sym is)
    (counted_adds (request_sent_again (length e.1.bytes))
    (transmission_step now e ∷ []) a.statistics
    (request_tells (request_sent_again (length e.1.bytes)) now e.0 e.1.to e.1.bytes refl refl refl
    refl refl))

rested : (now : ℕ) (a : Agent) → sent_by_poll now a ≡ None
    → (after_poll_transmit now a).statistics ≡ a.statistics
rested now a f =
    let passed =
    with_transactions a
    (after_slots a.transport now (option_map (λ (x : ℕ × Transaction). x.0) (sent_by_poll now a))
    a.transactions) in
    ap (λ o. (tally_of_sent o passed).statistics) f

end_tells : (now id : ℕ) (b : Bool)
    → Tells (if b then request_timed_out else request_cancelled)
    ((if b then TimedOut now id else Cancelled now id) ∷ [])
end_tells now id true =
    record {
      timed_out = refl;
      cancelled = refl;
      indications_sent = refl;
      responses_sent = refl;
      bytes_sent = refl;
    }
end_tells now id false =
    record {
      timed_out = refl;
      cancelled = refl;
      indications_sent = refl;
      responses_sent = refl;
      bytes_sent = refl;
    }

ended_counts : (now : ℕ) (a : Agent) (e : ℕ × Transaction) → ended_by_poll now a ≡ Some e
    → CountsSteps (end_step now e ∷ []) a.statistics (after_poll now a).statistics
ended_counts now a e f =
    let is : (after_poll now a).statistics
    ≡ option_map (statistics_after (tally_of_end e.1)) a.statistics =
    ap (λ o.
    (option_map_or
    (λ (x : ℕ × Transaction). with_tally (tally_of_end x.1)
    (with_transactions a (without x.0 a.transactions))) o a).statistics) f in
    subst (CountsSteps (end_step now e ∷ []) a.statistics) (sym is)
    (counted_adds (tally_of_end e.1) (end_step now e ∷ []) a.statistics
    (end_tells now e.0 (repeats e.1.sending)))

turn_counts : {now : ℕ} {phase : Phase} {a b : Agent} {steps : List Step} → Turn now phase a steps b
    → CountsSteps steps a.statistics b.statistics
turn_counts {now} {phase} {a} {b} {steps} (sends e f t) =
    both (transmission_step now e ∷ []) _ a.statistics _ b.statistics (sent_counts now a e f)
    (turn_counts t)
turn_counts {now} {phase} {a} {b} {steps} (rests f t) =
    subst (λ o. CountsSteps steps o b.statistics) (rested now a f) (turn_counts t)
turn_counts {now} {phase} {a} {b} {steps} (ends e f t) =
    both (end_step now e ∷ []) _ a.statistics _ b.statistics (ended_counts now a e f)
    (turn_counts t)
turn_counts (again f same less t) = turn_counts t
turn_counts {now} {phase} {a} {b} {steps} (stops f late) = nothing a.statistics

turns_count : {bound from : ℕ} {a b : Agent} {steps : List Step} → Turns bound from a steps b
    → CountsSteps steps a.statistics b.statistics
turns_count {bound} {from} {a} {b} {steps} (turn moment next less t rest) =
    both _ _ a.statistics _ b.statistics (turn_counts t) (turns_count rest)
turns_count {bound} {from} {a} {b} {steps} (none h) = nothing a.statistics

-- ---- a run
run_counts : {bound from : ℕ} {a b : Agent} {events : List (ℕ × AgentEvent)} {steps : List Step}
    → Run bound from a events steps b → CountsSteps steps a.statistics b.statistics
run_counts (done t) = turns_count t
run_counts {a = a} {b = d} (event {b = b} {c = c} moment e before after rest) =
    both _ _ a.statistics b.statistics d.statistics (turns_count before)
    (both (steps_of_event moment e b) _ b.statistics (after_event moment e b).statistics
    d.statistics (event_counts moment e b)
    (both _ _ (after_event moment e b).statistics c.statistics d.statistics (turn_counts after)
    (run_counts rest)))

pub runs_count_steps : RunsCountSteps
runs_count_steps until a b [] steps (none_made, same) =
    subst (λ x. CountsSteps steps a.statistics x.statistics) (sym same)
    (subst (λ ss. CountsSteps ss a.statistics a.statistics) (sym none_made) (nothing a.statistics))
runs_count_steps until a b (e ∷ es) steps r = run_counts r
