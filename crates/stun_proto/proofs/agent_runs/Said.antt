-- All steps of an id from an agent on: none comes after their first end, and there are none where
-- no request of the id is outstanding.
use Rattle.std.proofs.Common.{ℕ, ◌≡◌, Bool, true, false, cond, List, [], ◌∷◌, ◌++◌, subst, ap}
use Rattle.std.proofs.Common.{sym, refl, ◌∙◌, append_assoc}
use Rattle.std.specs.Prelude.{filter, ◌==◌, Option, Some, None}
use Rattle.std.specs.List.{AllByRecursion}
use Rattle.std.specs.Option.{option_map_or}
use Rattle.std.proofs.lemmas.Bool.{ne_eqb, eqb-true}
use Rattle.std.proofs.lemmas.List.{append-nil}
use Rattle.stun_base.specs.Header.{transaction_id_field}
use Rattle.stun_base.specs.declared.wire.error.StunParseError.{StunParseError}
use Rattle.stun_types.specs.Message.{refusal}
use Rattle.stun_agent.specs.Agent.{Agent, sending_refusal, request_refusal, takes_message}
use Rattle.stun_agent.specs.Agent.{sent_by_poll, after_poll_transmit, ended_by_poll, after_poll}
use Rattle.stun_agent.specs.Transactions.{IsAscending, Transaction, repeats}
use Rattle.stun_agent.specs.declared.error.StunError.{StunError}
use Rattle.stun_agent.specs.declared.error.StunError.TheVariants.{ParseError}
use Rattle.stun_proto.specs.declared.replay.event.AgentEvent.{AgentEvent}
use Rattle.stun_proto.specs.declared.replay.event.AgentEvent.TheVariants.{Send, SendRequest}
use Rattle.stun_proto.specs.declared.replay.event.AgentEvent.TheVariants.{Receive, Cancel}
use Rattle.stun_proto.specs.declared.replay.event.AgentEvent.TheVariants.{CancelRetransmissions}
use Rattle.stun_proto.specs.declared.replay.event.AgentEvent.TheVariants.{Configure, ValidatePeer}
use Rattle.stun_proto.specs.Run.{Phase, Turn, sends, rests, ends, again, stops, Turns, turn, none}
use Rattle.stun_proto.specs.Run.{Run, done, event, transmission_step, end_step, after_event}
use Rattle.stun_proto.specs.Run.{steps_of_event}
use Rattle.stun_proto.specs.Schedule.{Asks}
use Rattle.stun_proto.specs.Steps.{Step, Transmitted, Sent, Received, Refused, TimedOut, Cancelled}
use Rattle.stun_proto.specs.Steps.{is_of, steps_to_end}
use Rattle.stun_proto.proofs.agent_runs.RunLemmas.{turn_ascends, turns_ascends, event_ascends}
use Rattle.stun_proto.proofs.agent_runs.Absent.{IsAbsent, apart, sent_there, ended_there}
use Rattle.stun_proto.proofs.agent_runs.Absent.{transmit_absent, transmit_ascends, poll_absent}
use Rattle.stun_proto.proofs.agent_runs.Absent.{poll_gone, poll_ascends, event_absent}

module _ (id : ℕ) where
  -- ---- the steps of the id
  abbrev pub steps_of_id : List Step → List Step
  steps_of_id steps = filter (is_of id) steps

  -- none is of the id
  abbrev HaveNone : List Step → Type 0
  HaveNone own_steps = (more : List Step) → (steps_of_id (own_steps ++ more) ≡ steps_of_id more)
      × (steps_to_end id (own_steps ++ more) ≡ steps_to_end id more)

  event_none : (now : ℕ) (e : AgentEvent) (a : Agent) → (Asks id e → ⊥)
      → HaveNone (steps_of_event now e a)
  unfolding steps_to_end
  event_none now (Send bs target) a other more = by (sending_refusal a bs.items target)
    where
      by : (o : Option StunError)
          → (steps_of_id
          (option_map_or (λ error. Refused now error) o (Sent now target bs.items) ∷ more)
          ≡ steps_of_id more)
          × (steps_to_end id
          (option_map_or (λ error. Refused now error) o (Sent now target bs.items) ∷ more)
          ≡ steps_to_end id more)
      by None = (refl, refl)
      by (Some error) = (refl, refl)
  event_none now (SendRequest bs target) a other more = by (request_refusal a bs.items target)
    where
      off : (id == transaction_id_field bs.items) ≡ false
      off = ne_eqb id (transaction_id_field bs.items) (λ h. other (sym h))

      by : (o : Option StunError)
          → (steps_of_id
          (option_map_or (λ error. Refused now error) o
          (Transmitted now (transaction_id_field bs.items) target bs.items) ∷ more)
          ≡ steps_of_id more)
          × (steps_to_end id
          (option_map_or (λ error. Refused now error) o
          (Transmitted now (transaction_id_field bs.items) target bs.items) ∷ more)
          ≡ steps_to_end id more)
      by None = (
        ap (λ b.
            cond b (Transmitted now (transaction_id_field bs.items) target bs.items
            ∷ steps_of_id more) (steps_of_id more)) off,
        ap (λ b.
            cond b (Transmitted now (transaction_id_field bs.items) target bs.items
            ∷ steps_to_end id more)
            (steps_to_end id more)) off,
      )
      by (Some error) = (refl, refl)
  event_none now (Receive bs from) a other more = by (refusal bs.items)
    where
      by : (o : Option StunParseError)
          → (steps_of_id
          (option_map_or (λ error. Refused now (ParseError error)) o
          (Received now (takes_message bs.items from a)) ∷ more) ≡ steps_of_id more)
          × (steps_to_end id
          (option_map_or (λ error. Refused now (ParseError error)) o
          (Received now (takes_message bs.items from a)) ∷ more) ≡ steps_to_end id more)
      by None = (refl, refl)
      by (Some error) = (refl, refl)
  event_none now (Cancel j) a other more = (refl, refl)
  event_none now (CancelRetransmissions j) a other more = (refl, refl)
  event_none now (Configure j initial retransmits last max) a other more = (refl, refl)
  event_none now (ValidatePeer address) a other more = (refl, refl)

  -- ---- what is said of the steps from an agent on
  pub record Said (a : Agent) (steps : List Step) : Type 0 where
    pub ends_once : steps_of_id steps ≡ steps_to_end id steps
    pub silent : IsAbsent id a → steps_of_id steps ≡ []

  said_sent : (now : ℕ) (a : Agent) (e : ℕ × Transaction) (more : List Step)
      → IsAscending a.transactions → sent_by_poll now a ≡ Some e
      → Said (after_poll_transmit now a) more → Said a (transmission_step now e ∷ more)
  unfolding steps_to_end
  said_sent now a e more s f rest = record {
    ends_once = ap (λ ss. cond (id == e.0) (transmission_step now e ∷ ss) ss) rest.ends_once;
    silent = λ absent.
        ap (λ b. cond b (transmission_step now e ∷ steps_of_id more) (steps_of_id more))
        (ne_eqb id e.0 (λ h. apart id a e.0 e.1 (sent_there id now a e s f) absent (sym h)))
        ∙ rest.silent (transmit_absent id now a absent);
  }

  said_ended : (now : ℕ) (a : Agent) (e : ℕ × Transaction) (more : List Step)
      → IsAscending a.transactions → ended_by_poll now a ≡ Some e
      → Said (after_poll now a) more → Said a (end_step now e ∷ more)
  unfolding steps_to_end
  said_ended now a e more s f rest = record {
    ends_once = by (repeats e.1.sending) (id == e.0) refl;
    silent = λ absent. let other = apart id a e.0 e.1 (ended_there id now a e s f) absent in
        skipped (repeats e.1.sending) (λ h. other (sym h))
        ∙ rest.silent (poll_absent id now a e f other absent);
  }
    where
      by : (r b : Bool) → (id == e.0) ≡ b
          → steps_of_id (cond r (TimedOut now e.0) (Cancelled now e.0) ∷ more)
          ≡ steps_to_end id (cond r (TimedOut now e.0) (Cancelled now e.0) ∷ more)
      by true true is =
          ap (λ c. cond c (TimedOut now e.0 ∷ steps_of_id more) (steps_of_id more)) is
          ∙ ap (λ ss. TimedOut now e.0 ∷ ss)
          (rest.silent (poll_gone id now a e s f (sym (eqb-true id e.0 is))))
          ∙ sym (ap (λ c. cond c (TimedOut now e.0 ∷ []) (steps_to_end id more)) is)
      by true false is =
          ap (λ c. cond c (TimedOut now e.0 ∷ steps_of_id more) (steps_of_id more)) is
          ∙ rest.ends_once
          ∙ sym (ap (λ c. cond c (TimedOut now e.0 ∷ []) (steps_to_end id more)) is)
      by false true is =
          ap (λ c. cond c (Cancelled now e.0 ∷ steps_of_id more) (steps_of_id more)) is
          ∙ ap (λ ss. Cancelled now e.0 ∷ ss)
          (rest.silent (poll_gone id now a e s f (sym (eqb-true id e.0 is))))
          ∙ sym (ap (λ c. cond c (Cancelled now e.0 ∷ []) (steps_to_end id more)) is)
      by false false is =
          ap (λ c. cond c (Cancelled now e.0 ∷ steps_of_id more) (steps_of_id more)) is
          ∙ rest.ends_once
          ∙ sym (ap (λ c. cond c (Cancelled now e.0 ∷ []) (steps_to_end id more)) is)

      skipped : (r : Bool) → (id ≡ e.0 → ⊥)
          → steps_of_id (cond r (TimedOut now e.0) (Cancelled now e.0) ∷ more) ≡ steps_of_id more
      skipped true other =
          ap (λ c. cond c (TimedOut now e.0 ∷ steps_of_id more) (steps_of_id more))
          (ne_eqb id e.0 other)
      skipped false other =
          ap (λ c. cond c (Cancelled now e.0 ∷ steps_of_id more) (steps_of_id more))
          (ne_eqb id e.0 other)

  -- ---- a turn, the turns, and a run
  pub turn_said : (now : ℕ) {phase : Phase} {a b : Agent} {steps : List Step} (more : List Step)
      → Turn now phase a steps b → IsAscending a.transactions → Said b more → Said a (steps ++ more)
  turn_said now {a = a} more (sends e f t) s rest =
      said_sent now a e _ s f (turn_said now more t (transmit_ascends id now a s) rest)
  turn_said now {a = a} more (rests f t) s rest =
      let r = turn_said now more t (transmit_ascends id now a s) rest in
      record {
        ends_once = r.ends_once;
        silent = λ absent. r.silent (transmit_absent id now a absent);
      }
  turn_said now {a = a} more (ends e f t) s rest =
      said_ended now a e _ s f (turn_said now more t (poll_ascends id now a e s f) rest)
  turn_said now more (again f w less t) s rest = turn_said now more t s rest
  turn_said now more (stops f late) s rest = rest

  turns_said : {bound from : ℕ} {a b : Agent} {steps : List Step} (more : List Step)
      → Turns bound from a steps b → IsAscending a.transactions → Said b more
      → Said a (steps ++ more)
  turns_said {a = a} more (turn {steps = here} {more = there} moment next less t rest) s said =
      subst (Said a) (sym (append_assoc here there more))
      (turn_said moment (there ++ more) t s (turns_said more rest (turn_ascends moment t s) said))
  turns_said more (none h) s said = said

  event_said : (now : ℕ) (e : AgentEvent) (a : Agent) (more : List Step) → (Asks id e → ⊥)
      → Said (after_event now e a) more → Said a (steps_of_event now e a ++ more)
  event_said now e a more other rest =
      let own_none = event_none now e a other more in
      record {
        ends_once = own_none.0 ∙ rest.ends_once ∙ sym own_none.1;
        silent = λ absent. own_none.0 ∙ rest.silent (event_absent id now e a other absent);
      }

  nothing : (a : Agent) → Said a []
  unfolding steps_to_end
  nothing a = record { ends_once = refl; silent = λ absent. refl }

  pub run_said : {bound from : ℕ} {a b : Agent} {events : List (ℕ × AgentEvent)} {steps : List Step}
      → Run bound from a events steps b
      → IsAscending a.transactions → AllByRecursion (λ e. Asks id e.1 → ⊥) events → Said a steps
  run_said {a = a} {b = b} {steps = steps} (done t) s others =
      subst (Said a) (append-nil steps) (turns_said [] t s (nothing b))
  run_said (event {b = b} {after = after} {more = more} moment e ts t rest) s others =
      let before_it = turns_ascends ts s in
      let after_it = event_ascends moment e b before_it in
      turns_said (steps_of_event moment e b ++ (after ++ more)) ts s
      (event_said moment e b (after ++ more) others.0
      (turn_said moment more t after_it (run_said rest (turn_ascends moment t after_it) others.1)))
