-- Polls that are at most so late say the plan of a request, and nothing else of it.
use Rattle.std.proofs.Common.{◌≡◌, ◌∙◌, ◌+◌, ◌*◌, ◌<◌, ◌≤◌, ◌∷◌, [], ℕ, suc, Bool, true, false}
use Rattle.std.proofs.Common.{List, Option, Some, None, IsSome, ap, arith, cond, inl, inr, refl}
use Rattle.std.proofs.Common.{subst, sym}
use Rattle.std.specs.BTreeMap.{is_at}
use Rattle.std.specs.List.{list_any}
use Rattle.std.specs.Option.{option_and_then}
use Rattle.std.specs.Ordering.{nat_cmp}
use Rattle.std.specs.Prelude.{nat_lt}
use Rattle.std.proofs.lemmas.Bool.{eq-eqb, ltb-false, ltb-true}
use Rattle.stun_base.specs.Moments.{last_moment, moment_after}
use Rattle.stun_base.specs.declared.wire.transport.TransportType.{TransportType}
use Rattle.stun_base.specs.declared.wire.transport.TransportType.TheVariants.{Tcp, Udp}
use Rattle.stun_agent.specs.Tables.{request_in}
use Rattle.stun_agent.specs.Timing.{Settings, final_wait, planned_end, timeout}
use Rattle.stun_agent.specs.Transactions.{Transaction}
use Rattle.stun_agent.proofs.Ascending.{lookup-insert_same}
use Rattle.stun_agent.proofs.ResponseLemmas.{same_end}
use Rattle.stun_agent.proofs.TimingLemmas.{sum_of_timeouts-zero}
use Rattle.stun_client.specs.Ids.{id_of}
use Rattle.stun_client_endpoint.specs.Bodies.{Body}
use Rattle.stun_client_endpoint.specs.Settings.{plan_of}
use Rattle.stun_client_requests.specs.Numbers.{id_at, id_in, known_at}
use Rattle.stun_client_requests.specs.declared.numbers.Known.TheVariants.{Outstanding}
use Rattle.stun_client_calls.specs.Clients.{Client, Poll, Told, ends, first_asked, refusal_to_start}
use Rattle.stun_client_calls.specs.Clients.{started, started_by, transmit}
use Rattle.stun_client_calls.specs.Options.{Options, plan_by}
use Rattle.stun_client_calls.specs.Runs.{Call, Event, call, is_told_of, next_number, no_call}
use Rattle.stun_client_calls.specs.Runs.{polled, polls}
use Rattle.stun_client_runs.specs.Kept.{IsClient, StaysAClient}
use Rattle.stun_client_plans.specs.Plan.{CallsInTime, ComesWithin, GoesOnByPlan, IsSentByPlan}
use Rattle.stun_client_plans.specs.Plan.{awaits, begins, due_after, id_of_request, is_given_up}
use Rattle.stun_client_plans.specs.Plan.{is_never_sent, is_poll, is_unsent, no_more, other, poll}
use Rattle.stun_client_plans.specs.Plan.{said_of, sends, times_out, unanswered_end}
use Rattle.stun_client_plans.proofs.CallLemmas.{started_is}
use Rattle.stun_client_plans.proofs.MomentLemmas.{awaited_end, awaited_slot, first_moment}
use Rattle.stun_client_plans.proofs.MomentLemmas.{late_together, one_more, sent_at}
use Rattle.stun_client_plans.proofs.OtherLemmas.{Rests, call_rests}
use Rattle.stun_client_plans.proofs.SpareLemmas.{gone_call, gone_told, told_next}
use Rattle.stun_client_plans.proofs.StepLemmas.{IsGivenUp, IsGone, IsSent, IsTimedOut, Says, Sent}
use Rattle.stun_client_plans.proofs.StepLemmas.{Stands, planned, slots_of, told_says, transport_of}
use Rattle.stun_client_plans.proofs.TimesLemmas.{times, times_absent, times_insert_own}

-- ---- any calls

-- what is said of a request from where it stands on
abbrev pub Follows : Sent → Bool → ℕ → ℕ → ℕ → List (ℕ × Told) → Type 0
Follows r true next k last said = IsSentByPlan r.late r.client r.plan r.start r.number next said
Follows r false next k last said =
    GoesOnByPlan r.late r.client r.plan r.start r.number next k last said

-- each call leaves a client in order
pub stays_one : StaysAClient → (c after : Client) (event : Event) → IsClient c → Call c event after
    → IsClient after
stays_one stays c after event is made =
    stays c after (event ∷ []) is (call c after after event [] made (no_call after))

-- nothing is said of a request that is gone
silent : StaysAClient → (late start n due next : ℕ) (c after : Client) (said : List (ℕ × Told))
    → IsClient c → IsGone n c → CallsInTime late start n due c said next after → said_of n said ≡ []
silent stays late start n due next c after said is gone (no_more _ _) = refl
silent stays late start n due next c after said is gone
    (poll _ now _ _ mid _ says more early soon polled_so rest) =
    let is_mid = stays_one stays c mid (polled says) is (polls c mid now says polled_so) in
    let over = subst (λ (p : Poll). (is_told_of n p.0 ≡ false) × IsGone n p.1) polled_so
    (gone_told n now c is gone) in
    ap (λ b. cond b ((now, says) ∷ said_of n more) (said_of n more)) over.0
    ∙ silent stays late start n (due_after due now says) next mid after more is_mid over.1 rest
silent stays late start n due next c after said is gone
    (other _ _ _ mid _ event _ no_poll made same rest) =
    silent stays late start n due next mid after said (stays_one stays c mid event is made)
    (gone_call n c mid event no_poll made gone) rest

-- it is sent, for the first time or again
sends_next : (r : Sent) (u : Bool) (k more last due now next : ℕ) (c : Client) (says : Told)
    (after : Client) → Stands r u k more last due c → r.start ≤ now → now ≤ due + r.late
    → (sent : IsSent r u k more last due now (says, after)) (said : List (ℕ × Told))
    → Follows r false next sent.was sent.was_last said → Follows r u next k last
    ((now, says) ∷ said)
sends_next r true k more last due now next c says after s early soon sent said tail =
    let first = s.first refl in
    subst (λ (t : Told). IsSentByPlan r.late r.client r.plan r.start r.number next
    ((now, t) ∷ said))
    (sym sent.told)
    (begins now said (record { no_earlier = early; no_later = at_first first.at_once }) sent.in_plan
    (subst (λ m. GoesOnByPlan r.late r.client r.plan r.start r.number next m r.start said)
    (sent.which.0 ∙ first.none)
    (subst (λ m. GoesOnByPlan r.late r.client r.plan r.start r.number next sent.was m said)
    (sent.which.2 ∙ first.last_is) tail)))
  where
    at_first : due ≤ r.start → now ≤ r.start + r.late
    at_first low = omega (arith, low, soon)
sends_next r false k more last due now next c says after s early soon sent said tail =
    subst (λ (t : Told). GoesOnByPlan r.late r.client r.plan r.start r.number next k last
    ((now, t) ∷ said))
    (sym sent.told)
    (sends k last now said within sent.which.is_due.0
    (subst (λ d. ComesWithin (suc k * r.late) d now) planned_is sent.which.is_due.1) sent.in_plan
    (subst (λ m. GoesOnByPlan r.late r.client r.plan r.start r.number next m now said)
    sent.which.was_is
    (subst (λ m. GoesOnByPlan r.late r.client r.plan r.start r.number next sent.was m said)
    sent.which.last_is tail)))
  where
    left : k + suc sent.now_left ≡ slots_of r
    left = ap (λ n. k + n) sent.which.left_is ∙ s.all

    within : k < slots_of r
    within = omega (arith, left)

    planned_is : planned r k ≡ sent_at r.start r.plan (suc k)
    planned_is =
        awaited_slot r.start (transport_of r) r.plan k sent.now_left left
        ∙ ap (sent_at r.start r.plan) (one_more k)

-- it would be sent after its plan
given_up_there : (r : Sent) (u : Bool) (k more last due now next : ℕ) (c : Client) (says : Told)
    (after : Client) → Stands r u k more last due c → r.start ≤ now → now ≤ due + r.late
    → IsGivenUp r u k more last now (says, after) → Follows r u next k last ((now, says) ∷ [])
given_up_there r true k more last due now next c says after s early soon given =
    subst (λ (t : Told). IsSentByPlan r.late r.client r.plan r.start r.number next ((now, t) ∷ []))
    (sym given.told)
    (is_never_sent now given.drops
    (record { no_earlier = early; no_later = at_first ((s.first refl).at_once) }) given.after_plan)
  where
    at_first : due ≤ r.start → now ≤ r.start + r.late
    at_first low = omega (arith, low, soon)
given_up_there r false k more last due now next c says after s early soon given =
    subst (λ (t : Told). GoesOnByPlan r.late r.client r.plan r.start r.number next k last
    ((now, t) ∷ []))
    (sym given.told)
    (is_given_up k last now given.drops within given.which.is_due.0 comes (record {
      is_over = given.after_plan;
      are_late = λ less.
          late_together r.start (transport_of r) r.plan given.which.left (suc k)
          (suc k * r.late) now counted comes given.after_plan less;
    }))
  where
    left : k + suc given.which.left ≡ slots_of r
    left = ap (λ n. k + n) given.which.left_is ∙ s.all

    within : k < slots_of r
    within = omega (arith, left)

    counted : suc k + given.which.left ≡ slots_of r
    counted = omega (arith, left)

    comes : ComesWithin (suc k * r.late) (sent_at r.start r.plan (suc k)) now
    comes =
        subst (λ d. ComesWithin (suc k * r.late) d now)
        (awaited_slot r.start (transport_of r) r.plan k given.which.left left
        ∙ ap (sent_at r.start r.plan) (one_more k)) given.which.is_due.1

-- it ends
ends_there : (r : Sent) (u : Bool) (k more last now next due : ℕ) (c : Client) (says : Told)
    (after : Client) → Stands r u k more last due c
    → IsTimedOut r u k more last now (says, after) → Follows r u next k last ((now, says) ∷ [])
ends_there r u k more last now next due c says after s over =
    subst (λ b. Follows r b next k last ((now, says) ∷ [])) (sym over.was_sent)
    (subst (λ (t : Told). GoesOnByPlan r.late r.client r.plan r.start r.number next k last
    ((now, t) ∷ []))
    (sym over.told)
    (times_out k last now over.drops (omega (arith, whole)) over.is_due.0
    (subst (λ d. ComesWithin (suc k * r.late) d now)
    (awaited_end r.start (transport_of r) r.plan k whole) over.is_due.1)))
  where
    whole : k + 0 ≡ slots_of r
    whole = subst (λ m. k + m ≡ slots_of r) over.none_left s.all

-- a call that is no poll
stands_on : (r : Sent) (u : Bool) (k more last due : ℕ) (c after : Client) (event : Event)
    → IsClient c → IsClient after → is_poll event ≡ false → Call c event after
    → id_of_request r.number after ≡ id_of_request r.number c
    → Stands r u k more last due c → Stands r u k more last due after
stands_on r u k more last due c after event is is_after no_poll made same s = record {
  id = s.id;
  asked = rests.asked;
  timer = s.timer;
  holds = rests.holds;
  until_is = rests.until_is ∙ s.until_is;
  settings_is = s.settings_is;
  goes_on = s.goes_on;
  slot_is = s.slot_is;
  last_is = s.last_is;
  all = s.all;
  on_plan = s.on_plan;
  low = s.low;
  first = s.first;
}
  where
    rests : Rests (transport_of r) r.number s.id s.timer u s.asked.until after.requests
    rests =
        call_rests (transport_of r) r.number s.id s.asked s.timer u c is.requests.one s.holds after
        event
        no_poll made is_after.requests.one (same ∙ s.holds.named)

module _ (stays : StaysAClient) (r : Sent) where
  -- a request that has ended is gone
  gone_after : (u : Bool) (k more last due now : ℕ) (c after : Client) → IsClient c
      → Stands r u k more last due c → c.requests.next ≤ after.requests.next
      → known_at r.number after.requests.numbers.known ≡ None
      → times r.number after.requests.numbers.unsent ≡ 0 → IsGone r.number after
  gone_after u k more last due now c after is s up unknown unsent = record {
    started = above (nat_lt r.number c.requests.next) refl;
    unknown = unknown;
    unsent = unsent;
  }
    where
      above : (b : Bool) → nat_lt r.number c.requests.next ≡ b → r.number < after.requests.next
      above true less =
          let low : r.number < c.requests.next = ltb-true r.number c.requests.next less in
          omega (arith, low, up)
      above false high =
          let up_to : c.requests.next ≤ r.number = ltb-false r.number c.requests.next high in
          let none : id_at r.number c.requests.numbers ≡ None =
          ap (λ o. option_and_then id_in o) (is.requests.one.fresh r.number up_to) in
          let no : None ≡ Some s.id = sym none ∙ s.holds.named in
          cc

  pub follow : (u : Bool) (k more last due next : ℕ) (c after : Client) (said : List (ℕ × Told))
      → IsClient c → Stands r u k more last due c
      → CallsInTime r.late r.start r.number due c said next after
      → Follows r u next k last (said_of r.number said)
  follow true k more last due next c after said is s (no_more _ _) = is_unsent
      ((s.first refl).at_once)
  follow false k more last due next c after said is s (no_more _ _) = awaits k last s.low
  follow u k more last due next c after said is s
      (other _ _ _ mid _ event _ no_poll made same rest) =
      let is_mid = stays_one stays c mid event is made in
      follow u k more last due next mid after said is_mid
      (stands_on r u k more last due c mid event is is_mid no_poll made same s) rest
  follow u k more last due next c after said is s
      (poll _ now _ _ mid _ says more_said early soon polled_so others) =
      elim (subst (λ (p : Poll). Says r u k more last due now p) polled_so
      (told_says r u k more last due now c is s soon)) [
        | inl quiet ↦
            subst (λ b. Follows r u next k last
            (cond b ((now, says) ∷ said_of r.number more_said) (said_of r.number more_said)))
            (sym quiet.unnamed)
            (follow u k more last (due_after due now says)
            next mid after more_said is_mid quiet.stands others)
        | inr (inl sent) ↦
            let at_once : due_after due now says ≡ due = ap (due_after due now) sent.told in
            let tail =
            follow false sent.was sent.now_left sent.was_last (due_after due now says)
            next mid after more_said is_mid
            (subst (λ m. Stands r false sent.was sent.now_left sent.was_last m mid) (sym at_once)
            sent.stands) others in
            said_so (transmit r.number) sent.told (eq-eqb r.number r.number refl)
            (sends_next r u k more last due now next c says mid s early soon sent
            (said_of r.number more_said) tail)
        | inr (inr (inl given)) ↦
            said_so (ends r.number (unanswered_end given.drops)) given.told
            (eq-eqb r.number r.number refl)
            (subst (λ (xs : List (ℕ × Told)). Follows r u next k last ((now, says) ∷ xs))
            (sym (nothing given.unknown given.unsent))
            (given_up_there r u k more last due now next c says mid s early soon given))
        | inr (inr (inr over)) ↦
            said_so (ends r.number (unanswered_end over.drops)) over.told
            (eq-eqb r.number r.number refl)
            (subst (λ (xs : List (ℕ × Told)). Follows r u next k last ((now, says) ∷ xs))
            (sym (nothing over.unknown over.unsent))
            (ends_there r u k more last now next due c says mid s over))
      ]
    where
      is_mid : IsClient mid
      is_mid = stays_one stays c mid (polled says) is (polls c mid now says polled_so)

      said_so : (t : Told) → says ≡ t → is_told_of r.number t ≡ true
          → Follows r u next k last ((now, says) ∷ said_of r.number more_said)
          → Follows r u next k last
          (cond (is_told_of r.number says) ((now, says) ∷ said_of r.number more_said)
          (said_of r.number more_said))
      said_so t same named it =
          subst (λ b. Follows r u next k last
          (cond b ((now, says) ∷ said_of r.number more_said) (said_of r.number more_said)))
          (sym (ap (is_told_of r.number) same ∙ named)) it

      nothing : known_at r.number mid.requests.numbers.known ≡ None
          → times r.number mid.requests.numbers.unsent ≡ 0 → said_of r.number more_said ≡ []
      nothing unknown unsent =
          silent stays r.late r.start r.number (due_after due now says)
          next mid after more_said is_mid
          (gone_after u k more last due now c mid is s
          (subst (λ (p : Poll). c.requests.next ≤ p.1.requests.next) polled_so (told_next now c))
          unknown unsent) others

-- ---- a request that is started

stream_end : (settings : Settings) (start : ℕ)
    → planned_end Tcp settings start ≡ moment_after start (plan_of settings)
stream_end settings start =
    ap (λ n. moment_after start (n + plan_of settings)) (sum_of_timeouts-zero settings)
    ∙ ap (moment_after start) (none_more (plan_of settings))
  where
    none_more : (n : ℕ) → 0 + n ≡ n
    none_more n = omega arith

plan_end : (transport : TransportType) (settings : Settings) (start : ℕ)
    → planned_end transport settings start ≡ moment_after start (plan_of settings)
plan_end Tcp settings start = stream_end settings start
plan_end Udp settings start = same_end settings start ∙ stream_end settings start

abbrev pub request_of : ℕ → Client → Option Options → ℕ → Sent
request_of late c options start = record {
  start = start;
  number = next_number c;
  late = late;
  client = c;
  plan = plan_by options c.plan;
}

module _ (late : ℕ) (c : Client) (method : ℕ) (body : Body) (options : Option Options) (start : ℕ)
    (is : IsClient c) (low : start ≤ last_moment) where
  abbrev r : Sent
  r = request_of late c options start

  first_at : sent_at start r.plan 0 ≡ start
  first_at = first_moment start r.plan low

  -- the next number is not among those whose bytes were not handed out
  none_unsent : times (next_number c) c.requests.numbers.unsent ≡ 0
  none_unsent =
      by (list_any (is_at (nat_cmp (next_number c))) c.requests.numbers.unsent) refl
    where
      none : id_at (next_number c) c.requests.numbers ≡ None
      none = ap (λ o. option_and_then id_in o)
          (is.requests.one.fresh (next_number c) (omega arith))

      by : (b : Bool) → list_any (is_at (nat_cmp (next_number c))) c.requests.numbers.unsent ≡ b
          → times (next_number c) c.requests.numbers.unsent ≡ 0
      by false absent = times_absent (next_number c) c.requests.numbers.unsent absent
      by true there =
          no_id (id_at (next_number c) c.requests.numbers) none (is.unsent (next_number c) there)
        where
          no_id : (o : Option ℕ) → o ≡ None → IsSome o
              → times (next_number c) c.requests.numbers.unsent ≡ 0
          no_id None is some = cc
          no_id (Some id) is some = cc

  begun : (number : ℕ) (bytes : List ℕ)
      → Stands r true 0 (slots_of r) start start
      (started_by c number method body options bytes start)
  begun number bytes = record {
    id = id_of c.seed number;
    asked = first_asked c method body options start;
    timer = timer;
    holds = record {
      transport_is = refl;
      named = ap (λ o. option_and_then id_in o)
          (lookup-insert_same (next_number c) (Outstanding (id_of c.seed number))
          c.requests.numbers.known);
      there = lookup-insert_same (id_of c.seed number)
          (record { number = next_number c; datum = first_asked c method body options start })
          c.requests.table.attached;
      timed = lookup-insert_same (id_of c.seed number) timer c.requests.table.requests;
      unsent = times_insert_own (next_number c) c.requests.numbers.unsent none_unsent;
    };
    until_is = sym (plan_end c.requests.table.transport r.plan start);
    settings_is = refl;
    goes_on = refl;
    slot_is = refl;
    last_is = refl;
    all = omega arith;
    on_plan = record { no_earlier = omega (arith, first_at); no_later = omega (arith, first_at) };
    low = at_once (cond (nat_lt 0 (slots_of r)) (timeout r.plan 0)
        (final_wait c.requests.table.transport r.plan)) low;
    first = λ on. record { none = refl; last_is = refl; at_once = omega arith };
  }
    where
      timer : Transaction
      timer = request_in c.requests.table bytes r.plan start

      at_once : (wait : ℕ) → start ≤ last_moment → start ≤ moment_after start wait
      at_once wait low = omega (arith, low)

  pub begins_at : refusal_to_start c method body options ≡ None
      → Stands r true 0 (slots_of r) start start (started method body options start c)
  begins_at none =
      let it = started_is c method body options none in
      subst (λ (x : Client). Stands r true 0 (slots_of r) start start x) (sym (it.is_so start))
      (begun it.number it.bytes)
