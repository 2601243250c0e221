-- All steps of a request that is asked once: there are none before it is asked, and none after its
-- end.
use Rattle.std.proofs.Common.{ℕ, ◌≡◌, ◌+◌, ◌≤◌, false, not, cond, List, [], ◌∷◌, ◌++◌, length}
use Rattle.std.proofs.Common.{subst, ap, sym, refl, ◌∙◌, arith}
use Rattle.std.specs.Prelude.{filter, ◌==◌, Option, Some, None}
use Rattle.std.specs.Cmp.{eq_by_cmp_equiv}
use Rattle.std.specs.Option.{option_map_or, is_some}
use Rattle.std.specs.Global.{Vec}
use Rattle.std.specs.declared.net.socket_addr.SocketAddr.{SocketAddr}
use Rattle.std.proofs.lemmas.List.Elements.{filter-append}
use Rattle.stun_base.specs.Address.{same_address}
use Rattle.stun_base.specs.Header.{header_refusal, transaction_id_field}
use Rattle.stun_base.specs.Moments.{last_moment}
use Rattle.stun_base.specs.declared.wire.message_type.MessageClass.TheVariants.{Request}
use Rattle.stun_base.specs.declared.wire.transport.TransportType.{TransportType}
use Rattle.stun_base.specs.MessageType.{class_in, is_request}
use Rattle.stun_agent.specs.Agent.{Agent, is_elsewhere, request_refusal, after_send_request}
use Rattle.stun_agent.specs.Timing.{Settings, planned_end}
use Rattle.stun_agent.specs.Transactions.{IsAscending, at}
use Rattle.stun_agent.specs.declared.error.StunError.{StunError}
use Rattle.stun_agent.specs.declared.error.StunError.TheVariants.{AlreadyInProgress}
use Rattle.stun_agent.specs.declared.error.StunError.TheVariants.{ProtocolViolation, ParseError}
use Rattle.stun_proto.specs.declared.replay.event.AgentEvent.{AgentEvent}
use Rattle.stun_proto.specs.declared.replay.event.AgentEvent.TheVariants.{SendRequest}
use Rattle.stun_proto.specs.Headline.{IsAskedOnce, SendsByPlan}
use Rattle.stun_proto.specs.Run.{Turn, sending, Run, IsDriven, after_event, steps_of_event}
use Rattle.stun_proto.specs.RunLaws.{requester}
use Rattle.stun_proto.specs.Schedule.{AreInOrder, IsUndisturbed, plan, steps_until}
use Rattle.stun_proto.specs.Steps.{Step, Transmitted, Refused, is_of, steps_to_end}
use Rattle.stun_base.proofs.Addresses.{address_total}
use Rattle.stun_proto.proofs.agent_runs.RunLemmas.{turn_ascends, event_ascends, run_ascends}
use Rattle.stun_proto.proofs.agent_runs.RunLemmas.{comes_to, in_order_then}
use Rattle.stun_proto.proofs.agent_runs.ScheduleLaw.{keeps_plan}
use Rattle.stun_proto.proofs.agent_runs.Said.{turn_said, run_said}
use Rattle.stun_proto.proofs.agent_runs.Stays.{run_stays}

-- an agent sends to the address that it was told to speak to
not_elsewhere : (a b : Agent) (to : SocketAddr) → b.remote_addr ≡ a.remote_addr
    → ((peer : SocketAddr) → a.remote_addr ≡ Some peer → to ≡ peer) → is_elsewhere b to ≡ false
not_elsewhere a b to same there =
    ap (λ o. option_map_or (λ peer. not (same_address to peer)) o false) same
    ∙ by a.remote_addr there
  where
    by : (o : Option SocketAddr) → ((peer : SocketAddr) → o ≡ Some peer → to ≡ peer)
        → option_map_or (λ peer. not (same_address to peer)) o false ≡ false
    by None there = refl
    by (Some peer) there = ap (λ p. not (same_address to p)) (sym (there peer refl))
        ∙ ap not ((eq_by_cmp_equiv address_total).refl to)

-- bytes with the header of a request are accepted where no request of their id is outstanding
accepted_there : (a : Agent) (bytes : List ℕ) (to : SocketAddr) → header_refusal bytes ≡ None
    → class_in bytes ≡ Request → is_elsewhere a to ≡ false
    → at (transaction_id_field bytes) a.transactions ≡ None → request_refusal a bytes to ≡ None
accepted_there a bytes to header class there absent = λ i.
    option_map_or (λ error. Some (ParseError error)) (header i)
    (cond (is_request (class i))
    (cond (there i) (Some ProtocolViolation)
    (cond (is_some (absent i)) (Some AlreadyInProgress) None)) (Some ProtocolViolation))

sent_by_plan : (until : ℕ) (a b : Agent) (steps : List Step) (start : ℕ) (bytes : Vec ℕ)
    (to : SocketAddr) (earlier later : List (ℕ × AgentEvent))
    → until ≤ last_moment → IsAscending a.transactions
    → AreInOrder until 0 (earlier ++ (start, SendRequest bytes to) ∷ later)
    → Run (until + 1) 0 a (earlier ++ (start, SendRequest bytes to) ∷ later) steps b
    → IsAskedOnce (requester a) (transaction_id_field bytes.items) start bytes.items to
    earlier later
    → filter (is_of (transaction_id_field bytes.items)) steps
    ≡ steps_until until
    (plan a.transport start a.settings (transaction_id_field bytes.items) to bytes.items)
unfolding steps_to_end
sent_by_plan until a b steps start bytes to earlier later within ascends order r once =
    let id = transaction_id_field bytes.items in
    let e = SendRequest bytes to in
    let found = comes_to start e earlier later r in
    let after = in_order_then until 0 earlier later (start, e) order in
    let stays = run_stays id found.comes ascends once.not_before in
    let there = run_ascends found.comes ascends in
    let accepted =
    accepted_there found.agent bytes.items to once.header once.class
    (not_elsewhere a found.agent to stays.remote_addr once.goes_there) (stays.absent once.new) in
    let asked : steps_of_event start e found.agent ≡ Transmitted start id to bytes.items ∷ [] =
    ap (λ (o : Option StunError). option_map_or (λ error. Refused start error) o
    (Transmitted start id to bytes.items) ∷ []) accepted in
    let added : after_event start e found.agent
    ≡ after_send_request found.agent bytes.items to start =
    ap (λ (o : Option StunError). option_map_or (λ _. found.agent) o
    (after_send_request found.agent bytes.items to start)) accepted in
    let quiet : IsUndisturbed id to (planned_end found.agent.transport found.agent.settings start)
    later =
    subst (λ (p : Settings × TransportType). IsUndisturbed id to (planned_end p.1 p.0 start) later)
    (λ i. (sym stays.settings i, sym stays.transport i)) once.undisturbed in
    let kept =
    keeps_plan until start bytes.items to found.agent found.next b later found.at_once found.rest
    after.0 within there accepted
    (subst (λ x. Turn start sending x found.at_once found.next) added found.turned) found.goes_on
    after.1 quiet in
    let taken = event_ascends start e found.agent there in
    let said =
    turn_said id start found.rest found.turned taken
    (run_said id found.goes_on (turn_ascends start found.turned taken) once.not_again) in
    let then_all = found.at_once ++ found.rest in
    ap (filter (is_of id)) found.divided
    ∙ filter-append (is_of id) found.before (steps_of_event start e found.agent ++ then_all)
    ∙ ap (λ ss. ss ++ filter (is_of id) (steps_of_event start e found.agent ++ then_all))
    ((run_said id found.comes ascends once.not_before).silent once.new)
    ∙ ap (λ ss. filter (is_of id) (ss ++ then_all)) asked
    ∙ ap (λ ss. cond (id == id) (Transmitted start id to bytes.items ∷ ss) ss) said.ends_once
    ∙ kept
    ∙ (λ i. steps_until until (plan (stays.transport i) start (stays.settings i) id to bytes.items))

pub sends_by_plan : (until : ℕ) (a b : Agent) (events : List (ℕ × AgentEvent)) (steps : List Step)
    → until ≤ last_moment → IsAscending a.transactions → AreInOrder until 0 events
    → Run (until + 1) 0 a events steps b → SendsByPlan until (requester a) events steps
sends_by_plan until a b events steps within ascends order r id start bytes to earlier later is
    once =
    subst (λ j. filter (is_of j) steps
    ≡ steps_until until (plan a.transport start a.settings j to bytes.items)) once.names
    (sent_by_plan until a b steps start bytes to earlier later within ascends
    (subst (AreInOrder until 0) is order) (subst (λ es. Run (until + 1) 0 a es steps b) is r)
    (subst (λ j. IsAskedOnce (requester a) j start bytes.items to earlier later) (sym once.names)
    once))

-- without events nothing is asked
pub nothing_is_asked : (until : ℕ) (a : Agent) (events : List (ℕ × AgentEvent)) (steps : List Step)
    → length events ≡ 0 → SendsByPlan until (requester a) events steps
nothing_is_asked until a events steps empty id start bytes to earlier later is once =
    absurd (none_there earlier (subst (λ es. length es ≡ 0) is empty))
  where
    none_there : (first : List (ℕ × AgentEvent))
        → length (first ++ (start, SendRequest bytes to) ∷ later) ≡ 0 → ⊥
    none_there [] h = omega (arith, h)
    none_there (x ∷ xs) h = omega (arith, h)

pub driven_by_plan : (until : ℕ) (a b : Agent) (events : List (ℕ × AgentEvent)) (steps : List Step)
    → until ≤ last_moment → IsAscending a.transactions → AreInOrder until 0 events
    → IsDriven until a events steps b → SendsByPlan until (requester a) events steps
driven_by_plan until a b [] steps within ascends order driven =
    nothing_is_asked until a [] steps refl
driven_by_plan until a b (e ∷ es) steps within ascends order driven =
    sends_by_plan until a b (e ∷ es) steps within ascends order driven
