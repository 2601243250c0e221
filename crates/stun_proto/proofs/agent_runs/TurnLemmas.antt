-- A turn, call by call.
use Rattle.std.proofs.Common.{ℕ, ◌≡◌, ◌<◌, ◌≤◌, ◌⊎◌, inl, inr, arith, true, false, List}
use Rattle.std.proofs.Common.{[], ◌∷◌, ◌++◌, subst, ap, refl, sym, ◌∙◌, append_assoc}
use Rattle.std.proofs.lemmas.List.{append-nil}
use Rattle.std.proofs.lemmas.Option.{none-some}
use Rattle.std.specs.Prelude.{Option, Some, None, IfSome, option_map}
use Rattle.stun_base.specs.Moments.{last_moment}
use Rattle.stun_base.specs.Header.{transaction_id_field}
use Rattle.stun_agent.specs.Agent.{Agent, datagram_of, sent_by_poll}
use Rattle.stun_agent.specs.Agent.{after_poll_transmit, ended_by_poll}
use Rattle.stun_agent.specs.Datagrams.{Datagram}
use Rattle.stun_agent.specs.Transactions.{Transaction, IsNamed, wake_up}
use Rattle.stun_proto.specs.Steps.{Step, Transmitted}
use Rattle.stun_proto.specs.code.Calls.{Keeps, Leads, SendsOne, EndsOne}
use Rattle.stun_proto.specs.code.Calls.{SendsAll, EndsAll, TakesTurn, HasWorked}
use Rattle.stun_proto.specs.Run.{Phase, sending, ending, Turn, sends, rests}
use Rattle.stun_proto.specs.Run.{ends, again, stops, transmission_step, end_step}
use Rattle.stun_proto.specs.code.Work.{IsIdle}
use Rattle.stun_proto.proofs.agent_runs.Work.{work-sent, work-none, work-ended, wakes_later}

-- ---- what a log keeps
pub keeps_all : (before : Option (List Step)) → Keeps before [] before
keeps_all None = tt
keeps_all (Some before) = sym (append-nil before)

pub keeps_more : (before : Option (List Step)) (steps : List Step) (between : Option (List Step))
    (more : List Step) (after : Option (List Step))
    → Keeps before steps between → Keeps between more after → Keeps before (steps ++ more) after
keeps_more before steps between more None first second = tt
keeps_more before steps None more (Some after) first second = absurd second
keeps_more None steps (Some between) more (Some after) first second = absurd first
keeps_more (Some before) steps (Some between) more (Some after) first second =
    second ∙ ap (λ s. s ++ more) first ∙ append_assoc before steps more

one_datagram : (d e : Datagram) → Some d ≡ Some e → d ≡ e
one_datagram d e h = cc

-- what was lent is the transmission of the request that is due
pub sends_one : (now : ℕ) (a b : Agent) (before after : Option (List Step)) (d : Datagram)
    → Some d ≡ option_map (λ (e : ℕ × Transaction). datagram_of a e.1) (sent_by_poll now a)
    → IfSome (sent_by_poll now a) IsNamed → b ≡ after_poll_transmit now a
    → Keeps before (Transmitted now (transaction_id_field d.0) d.3 d.0 ∷ []) after
    → SendsOne now a b before after true
sends_one now a b before after d lent named is keeps = by (sent_by_poll now a) refl
  where
    step : (e : ℕ × Transaction) (d : Datagram) → d ≡ datagram_of a e.1 → IsNamed e
        → Transmitted now (transaction_id_field d.0) d.3 d.0 ≡ transmission_step now e
    step e d same name =
        ap (λ (x : Datagram). Transmitted now (transaction_id_field x.0) x.3 x.0) same
        ∙ ap (λ id. Transmitted now id e.1.to e.1.bytes) name.id_is

    by : (o : Option (ℕ × Transaction)) → sent_by_poll now a ≡ o
        → SendsOne now a b before after true
    by None f =
        absurd (none-some d
        (sym (lent ∙ ap (option_map (λ (e : ℕ × Transaction). datagram_of a e.1)) f)))
    by (Some e) f =
        let same : d ≡ datagram_of a e.1 =
        one_datagram d (datagram_of a e.1)
        (lent ∙ ap (option_map (λ (e : ℕ × Transaction). datagram_of a e.1)) f) in
        let name : IsNamed e = subst (λ o. IfSome o IsNamed) f named in
        (e, f, is, subst (λ s. Keeps before (s ∷ []) after) (step e d same name) keeps)

-- ---- a turn
pub leads_start : (now : ℕ) (p : Phase) (a : Agent) (steps : Option (List Step))
    → Leads now p p a a steps steps
leads_start now p a steps = record { steps = []; added = keeps_all steps; goes_on = λ more b t. t }

pub leads_sent : (now : ℕ) (a old new : Agent) (first before after : Option (List Step))
    → Leads now sending sending a old first before → SendsOne now old new before after true
    → Leads now sending sending a new first after
leads_sent now a old new first before after leads (e, found, is, added) = record {
  steps = leads.steps ++ transmission_step now e ∷ [];
  added = keeps_more first leads.steps before
      (transmission_step now e ∷ []) after leads.added added;
  goes_on = λ more b t.
      subst (λ s. Turn now sending a s b)
      (sym (append_assoc leads.steps (transmission_step now e ∷ []) more))
      (leads.goes_on (transmission_step now e ∷ more) b
      (sends e found (subst (λ x. Turn now sending x more b) is t)));
}

pub leads_rested : (now : ℕ) (a old new : Agent) (first before after : Option (List Step))
    → Leads now sending sending a old first before → SendsOne now old new before after false
    → Leads now sending ending a new first after
leads_rested now a old new first before after leads (found, is, added) = record {
  steps = leads.steps;
  added = subst (Keeps first leads.steps) (sym added) leads.added;
  goes_on =
      λ more b t. leads.goes_on more b (rests found (subst (λ x. Turn now ending x more b) is t));
}

-- work goes on
abbrev pub HasMoved : Agent → Agent → Type 0
HasMoved old new = HasWorked old new ⊎ (new ≡ old)

then_less : (a old new : Agent) → HasMoved a old → HasWorked old new → HasWorked a new
then_less a old new (inl first) less = omega arith
then_less a old new (inr same) less = subst (λ x. HasWorked x new) same less

pub less_sent : (now : ℕ) (old new : Agent) (before after : Option (List Step))
    → SendsOne now old new before after true → HasWorked old new
less_sent now old new before after (e, found, is, added) =
    subst (HasWorked old) (sym is) (work-sent now old e found)

pub moved_sent : (now : ℕ) (a old new : Agent) (before after : Option (List Step)) → HasMoved a old
    → SendsOne now old new before after true → HasMoved a new
moved_sent now a old new before after moved sent =
    inl (then_less a old new moved (less_sent now old new before after sent))

pub sends_all : (now : ℕ) (a old new : Agent) (first before after : Option (List Step))
    → Leads now sending sending a old first before → HasMoved a old
    → SendsOne now old new before after false → SendsAll now a new first after
sends_all now a old new first before after leads moved (found, is, added) = record {
  leads = leads_rested now a old new first before after leads (found, is, added);
  progress = by moved (work-none now old found);
}
  where
    by : HasMoved a old → HasWorked old (after_poll_transmit now old)
        ⊎ ((after_poll_transmit now old ≡ old) × IsIdle old.transport now old.transactions)
        → HasWorked a new ⊎ ((new ≡ a) × IsIdle new.transport now new.transactions)
    by moved (inl less) = inl (then_less a old new moved (subst (HasWorked old) (sym is) less))
    by (inl first) (inr (same, idle)) = inl (subst (HasWorked a) (sym (is ∙ same)) first)
    by (inr start) (inr (same, idle)) =
        inr (
          is ∙ same ∙ start,
          subst (λ x. IsIdle x.transport now x.transactions) (sym (is ∙ same)) idle,
        )

-- ---- ends
pub less_ended : (now : ℕ) (old new : Agent) (before after : Option (List Step))
    → EndsOne now old new before after None → HasWorked old new
less_ended now old new before after (e, found, is, added) =
    subst (HasWorked old) (sym is) (work-ended now old e found)

pub moved_ended : (now : ℕ) (a old new : Agent) (before after : Option (List Step)) → HasMoved a old
    → EndsOne now old new before after None → HasMoved a new
moved_ended now a old new before after moved one =
    inl (then_less a old new moved (less_ended now old new before after one))

pub leads_ended : (now : ℕ) (a old new : Agent) (first before after : Option (List Step))
    → Leads now ending ending a old first before → EndsOne now old new before after None
    → Leads now ending ending a new first after
leads_ended now a old new first before after leads (e, found, is, added) = record {
  steps = leads.steps ++ end_step now e ∷ [];
  added = keeps_more first leads.steps before (end_step now e ∷ []) after leads.added added;
  goes_on = λ more b t.
      subst (λ s. Turn now ending a s b) (sym (append_assoc leads.steps (end_step now e ∷ []) more))
      (leads.goes_on (end_step now e ∷ more) b
      (ends e found (subst (λ x. Turn now ending x more b) is t)));
}

-- ---- a turn
pub leads_both : (now : ℕ) (a old mid new : Agent) (first before between after : Option (List Step))
    (wait : ℕ) → Leads now sending sending a old first before
    → SendsAll now old mid before between → EndsAll now mid new between after wait
    → Leads now sending ending a new first after
leads_both now a old mid new first before between after wait leads sent over = record {
  steps = leads.steps ++ (sent.leads.steps ++ over.leads.steps);
  added =
      keeps_more first leads.steps before (sent.leads.steps ++ over.leads.steps) after leads.added
      (keeps_more before sent.leads.steps between over.leads.steps after sent.leads.added
      over.leads.added);
  goes_on = λ more b t.
      subst (λ s. Turn now sending a s b)
      (sym (append_assoc leads.steps (sent.leads.steps ++ over.leads.steps) more
      ∙ ap (λ s. leads.steps ++ s) (append_assoc sent.leads.steps over.leads.steps more)))
      (leads.goes_on (sent.leads.steps ++ (over.leads.steps ++ more)) b
      (sent.leads.goes_on (over.leads.steps ++ more) b (over.leads.goes_on more b t)));
}

pub leads_again : (now : ℕ) (a new : Agent) (first after : Option (List Step))
    → Leads now sending ending a new first after
    → ended_by_poll now new ≡ None → wake_up new.transport now new.transactions ≡ now
    → now < last_moment → Leads now sending sending a new first after
leads_again now a new first after leads settled same less = record {
  steps = leads.steps;
  added = leads.added;
  goes_on = λ more b t. leads.goes_on more b (again settled same less t);
}

pub takes_turn : (now : ℕ) (a new : Agent) (first after : Option (List Step))
    → Leads now sending ending a new first after
    → ended_by_poll now new ≡ None → (now < wake_up new.transport now new.transactions)
    ⊎ (now ≡ last_moment) → TakesTurn now a new first after
takes_turn now a new first after leads settled late = record {
  steps = leads.steps;
  added = leads.added;
  turned =
      subst (λ s. Turn now sending a s new) (append-nil leads.steps)
      (leads.goes_on [] new (stops settled late));
}

-- a turn that is taken again has less to do
pub less_again : (now : ℕ) (old mid new : Agent) (before between after : Option (List Step))
    (wait : ℕ) → SendsAll now old mid before between → EndsAll now mid new between after wait
    → wait ≤ now → now < last_moment → HasWorked old new
less_again now old mid new before between after wait sent over early less =
    by sent.progress over.progress
  where
    by : HasWorked old mid ⊎ ((mid ≡ old) × IsIdle mid.transport now mid.transactions)
        → HasMoved mid new → HasWorked old new
    by (inl first) (inl second) = omega arith
    by (inl first) (inr same) = subst (HasWorked old) (sym same) first
    by (inr (start, idle)) (inl second) = subst (λ x. HasWorked x new) start second
    by (inr (start, idle)) (inr same) =
        let later =
        wakes_later now new less
        (subst (λ x. IsIdle x.transport now x.transactions) (sym same) idle) over.settled in
        let waits = over.waits in
        absurd (omega arith)
