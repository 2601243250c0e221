-- From the end of two plans after its start on, a request is over once a poll says to wait.
use Rattle.std.proofs.Common.{◌≡◌, ◌∙◌, ◌<◌, ◌≤◌, ◌+◌, ℕ, Bool, true, false, List, [], Option}
use Rattle.std.proofs.Common.{Some, None, Ok, Err, ap, arith, refl, subst, sym}
use Rattle.std.specs.List.Sorted.{IsStrictlySortedBy}
use Rattle.std.specs.Option.{option_and_then, option_map, option_map_or}
use Rattle.std.specs.Ordering.{nat_cmp}
use Rattle.std.specs.declared.net.socket_addr.SocketAddr.{SocketAddr}
use Rattle.stun_base.specs.Moments.{last_moment, moment_after}
use Rattle.stun_base.specs.declared.wire.attribute_type.AttributeType.{AttributeType}
use Rattle.stun_base.specs.declared.wire.transport.TransportType.{TransportType}
use Rattle.stun_agent.specs.Tables.{after_transmission, datum_at}
use Rattle.stun_agent.specs.Timing.{Settings}
use Rattle.stun_client.specs.Judging.{Identity}
use Rattle.stun_client_endpoint.specs.Bodies.{Body}
use Rattle.stun_client_endpoint.specs.Settings.{plan_of}
use Rattle.stun_client_endpoint.specs.Written.{Form, Page?}
use Rattle.stun_client_requests.specs.Laws.{IsOver, IsRequests}
use Rattle.stun_client_requests.specs.Numbers.{NumbersSeen, end_in, end_of_first, first_ended}
use Rattle.stun_client_requests.specs.Numbers.{first_unsent, id_at, id_in, is_ended, known_at}
use Rattle.stun_client_requests.specs.Requests.{Poll as PollOf, datum_of, ends_or, over, over_or}
use Rattle.stun_client_requests.specs.Requests.{polled, repeated, repeats_or, unsent_or}
use Rattle.stun_client_requests.specs.declared.numbers.Known.{Known}
use Rattle.stun_client_requests.specs.declared.numbers.Known.TheVariants.{Ended, Outstanding}
use Rattle.stun_client_requests.specs.declared.requests.Polled.TheVariants as Of
use Rattle.stun_client_requests.specs.declared.requests.Request.{Request}
use Rattle.stun_client_requests.proofs.NumberLemmas.{Ascend, IsFirst, first_is, passes_at}
use Rattle.stun_client_calls.specs.Bounds.{HasPlan, IsPunctual, two_plans_after}
use Rattle.stun_client_calls.specs.Clients.{Client, Poll, by_polled, chosen, first_message}
use Rattle.stun_client_calls.specs.Clients.{new_client, refusal_of_number, refusal_of_page}
use Rattle.stun_client_calls.specs.Clients.{refusal_to_start, started, started_at, started_with}
use Rattle.stun_client_calls.specs.Clients.{plan_for, told, waits, with_requests}
use Rattle.stun_client_calls.specs.Options.{Options, plan_by}
use Rattle.stun_client_calls.specs.Endpoints.{EndSeen}
use Rattle.stun_client_calls.specs.Messages.{AskedSeen}
use Rattle.stun_client_calls.specs.Runs.{Call, Calls, Event, call, next_number, no_call, polls}
use Rattle.stun_client_calls.specs.Runs.{requests}
use Rattle.stun_client_calls.proofs.BoundLemmas.{begins_punctual, client_waits, not_told}
use Rattle.stun_client_calls.proofs.BoundLemmas.{stays_punctual}
use Rattle.stun_client_calls.proofs.KeepingLemmas.{HasOptions, keeps_options, keeps_plan}
use Rattle.stun_client_calls.proofs.KeepingLemmas.{starts_options, starts_plan}
use Rattle.stun_client_calls.proofs.StoredLemmas.{call_goes_on, stays_stored}
use Rattle.stun_client_calls.proofs.TurnLemmas.{All}

-- ---- a poll that says to wait

-- it leaves no end, and what is known of each request as it was
record IsWaiting (r after : All) : Type 0 where
  pub none : end_of_first r.numbers ≡ None
  pub same : after.numbers ≡ r.numbers

waiting : (now : ℕ) (until : Option ℕ) (r after : All) → polled now r ≡ (Of.Wait until, after)
    → IsWaiting r after
unfolding polled
waiting now until r after said = unsent (first_unsent r.numbers) said
  where
    again_at : All
    again_at = record r { table = after_transmission now r.table }

    times : (o : Option (Request AskedSeen)) → end_of_first r.numbers ≡ None
        → over_or now again_at o ≡ (Of.Wait until, after) → IsWaiting r after
    times None none said = record {
      none = none;
      same = sym (ap (λ (p : PollOf AskedSeen EndSeen). p.1.numbers) said);
    }
    times (Some q) none said = let no = ap (λ (p : PollOf AskedSeen EndSeen). p.0) said in cc

    ended : (o : Option (ℕ × EndSeen)) → end_of_first r.numbers ≡ o
        → ends_or now again_at o ≡ (Of.Wait until, after) → IsWaiting r after
    ended None is said = times (over now again_at.table) is said
    ended (Some p) is said = let no = ap (λ (x : PollOf AskedSeen EndSeen). x.0) said in cc

    again : (o : Option ℕ) → repeats_or now again_at o ≡ (Of.Wait until, after)
        → IsWaiting r after
    again (Some k) said = let no = ap (λ (p : PollOf AskedSeen EndSeen). p.0) said in cc
    again None said = ended (end_of_first r.numbers) refl said

    unsent : (o : Option ℕ) → unsent_or now r o ≡ (Of.Wait until, after) → IsWaiting r after
    unsent (Some k) said = let no = ap (λ (p : PollOf AskedSeen EndSeen). p.0) said in cc
    unsent None said = again (repeated now r.table) said

-- no request has ended then
not_ended : (s : NumbersSeen EndSeen) → Ascend s.known → end_of_first s ≡ None → (n : ℕ)
    (end : EndSeen) → known_at n s.known ≡ Some (Ended end) → ⊥
not_ended s sorted none n end there = by (first_ended s) refl (first_is is_ended s.known sorted)
  where
    at_first : (k : ℕ) (o : Option (Known EndSeen)) → first_ended s ≡ Some k
        → known_at k s.known ≡ o → option_map_or is_ended o false ≡ true → ⊥
    at_first k None first is passes = cc
    at_first k (Some (Outstanding id)) first is passes = cc
    at_first k (Some (Ended e)) first is passes =
        let some : end_of_first s ≡ Some (k, e) =
        ap (λ o. option_and_then
        (λ j. option_map (λ x. (j, x)) (option_and_then end_in (known_at j s.known))) o) first
        ∙ ap (λ (o : Option (Known EndSeen)). option_map (λ x. (k, x)) (option_and_then end_in o))
        is in
        cc

    by : (o : Option ℕ) → first_ended s ≡ o → IsFirst is_ended s.known o → ⊥
    by None is first =
        let on : passes_at is_ended n s.known ≡ true =
        ap (λ (o : Option (Known EndSeen)). option_map_or is_ended o false) there in
        let off = first n in
        cc
    by (Some k) is first = at_first k (known_at k s.known) is refl first.0

told_so : (now : ℕ) (until : Option ℕ) (c after : Client) → told now c ≡ (waits until, after)
    → polled now c.requests ≡ (Of.Wait until, after.requests)
told_so now until c after said = by (polled now c.requests) refl said
  where
    by : (p : PollOf AskedSeen EndSeen) → polled now c.requests ≡ p
        → by_polled now (with_requests p.1 c) p.0 ≡ (waits until, after)
        → polled now c.requests ≡ (Of.Wait until, after.requests)
    by (Of.Transmit n, r) same said =
        absurd (not_told now n until (with_requests r c) after (datum_of n r) said)
    by (Of.Ended n end, r) same said = let no = ap (λ (p : Poll). p.0) said in cc
    by (Of.TimedOut n x, r) same said = let no = ap (λ (p : Poll). p.0) said in cc
    by (Of.Wait u, r) same said =
        same
        ∙ ap (λ (x : Option ℕ). wait_at x r) (wait_is u until (ap (λ (p : Poll). p.0) said))
        ∙ ap (λ (x : All). wait_at until x) (ap (λ (p : Poll). p.1.requests) said)
      where
        wait_at : Option ℕ → All → PollOf AskedSeen EndSeen
        wait_at x y = (Of.Wait x, y)

        wait_is : (x y : Option ℕ) → waits x ≡ waits y → x ≡ y
        wait_is x y e = cc

crossed : (x y : ℕ) → x < y → y ≤ x → ⊥
crossed x y low high = omega (arith, low, high)

-- a request whose two plans are over is over
over_then : (n until now : ℕ) (options : Option Options) (at_last : Option ℕ) (later last : Client)
    → IsRequests later.requests → IsPunctual later → IsRequests last.requests
    → HasPlan n until last → HasOptions n options last → n < last.requests.next
    → told now later ≡ (waits at_last, last)
    → moment_after until (plan_of (plan_by options later.plan)) ≤ now → IsOver n last.requests
over_then n until now options at_last later last i is j has opted low said end = record {
  started = low;
  gone = by (known_at n last.requests.numbers.known) refl;
}
  where
    still : IsWaiting later.requests last.requests
    still = waiting now at_last later.requests last.requests (told_so now at_last later last said)

    in_time : (q : Request AskedSeen) → datum_of n last.requests ≡ Some q.datum → ⊥
    in_time q stored =
        crossed now (moment_after until (plan_of (plan_by options later.plan)))
        (subst (λ (o : Option Options). now < moment_after until (plan_of (plan_by o later.plan)))
        (opted q.datum stored)
        (subst (λ k. now < moment_after k (plan_of (plan_for later q.datum))) (has q.datum stored)
        (client_waits now at_last later last n q.datum is said stored).early))
        end

    at_id : (id : ℕ) → id_at n last.requests.numbers ≡ Some id → (o : Option (Request AskedSeen))
        → datum_at id last.requests.table.attached ≡ o → option_map (λ q. q.number) o ≡ Some n → ⊥
    at_id id named None there some = cc
    at_id id named (Some q) there some =
        in_time q
        (ap (λ o. option_map (λ (x : Request AskedSeen). x.datum)
        (option_and_then (λ k. datum_at k last.requests.table.attached) o)) named
        ∙ ap (λ (o : Option (Request AskedSeen)). option_map (λ x. x.datum) o) there)

    by : (o : Option (Known EndSeen)) → known_at n last.requests.numbers.known ≡ o
        → known_at n last.requests.numbers.known ≡ None
    by None is = is
    by (Some (Outstanding id)) is =
        let named : id_at n last.requests.numbers ≡ Some id =
        ap (λ o. option_and_then id_in o) is in
        absurd (at_id id named (datum_at id last.requests.table.attached) refl
        (j.one.timed n id named))
    by (Some (Ended e)) is =
        absurd (not_ended later.requests.numbers i.ascending still.none n e
        (ap (λ (s : NumbersSeen EndSeen). known_at n s.known) (sym still.same) ∙ is))

-- ---- calls, one after the other

record IsKept (plan : Settings) (c : Client) : Type 0 where
  pub stored : IsRequests c.requests
  pub punctual : IsPunctual c
  pub planned : c.plan ≡ plan

kept_call : (plan : Settings) (c after : Client) (event : Event) → IsKept plan c
    → Call c event after → IsKept plan after
kept_call plan c after event k made = record {
  stored = stays_stored c after event k.stored k.punctual made;
  punctual = stays_punctual c after event k.stored k.punctual made;
  planned = (call_goes_on c after event made).plan ∙ k.planned;
}

kept_calls : (plan : Settings) (c after : Client) (events : List Event) → IsKept plan c
    → Calls c events after → IsKept plan after
kept_calls plan c after events k (no_call _) = k
kept_calls plan c after events k (call _ next _ event others made rest) =
    kept_calls plan next after others (kept_call plan c next event k made) rest

-- the request with this number was started with these options, and its first plan ends then
record IsPlanned (plan : Settings) (n until : ℕ) (options : Option Options) (c : Client) : Type 0 where
  pub kept : IsKept plan c
  pub low : n < c.requests.next
  pub has : HasPlan n until c
  pub opted : HasOptions n options c

up_to : (n x y : ℕ) → n < x → x ≤ y → n < y
up_to n x y low high = omega (arith, low, high)

planned_call : (plan : Settings) (n until : ℕ) (options : Option Options) (c after : Client)
    (event : Event) → IsPlanned plan n until options c → Call c event after
    → IsPlanned plan n until options after
planned_call plan n until options c after event p made = record {
  kept = kept_call plan c after event p.kept made;
  low = up_to n c.requests.next after.requests.next p.low (call_goes_on c after event made).next;
  has = keeps_plan c after event n until p.kept.stored p.kept.punctual p.low made p.has;
  opted = keeps_options c after event n options p.kept.stored p.kept.punctual p.low made p.opted;
}

planned_calls : (plan : Settings) (n until : ℕ) (options : Option Options) (c after : Client)
    (events : List Event) → IsPlanned plan n until options c → Calls c events after
    → IsPlanned plan n until options after
planned_calls plan n until options c after events p (no_call _) = p
planned_calls plan n until options c after events p (call _ next _ event others made rest) =
    planned_calls plan n until options next after others
    (planned_call plan n until options c next event p made) rest

-- ---- law

none_sorted : IsStrictlySortedBy nat_cmp []
unfolding IsStrictlySortedBy
none_sorted = tt

pub begins_stored : (transport : TransportType) (server : SocketAddr)
    (counts requires_fingerprint : Bool) (identity : Identity) (form : Form)
    (understood : List AttributeType) (turns : ℕ) (plan : Settings) (seed : List ℕ)
    → IsRequests
    (new_client transport server counts requires_fingerprint identity form understood turns plan
    seed).requests
begins_stored transport server counts requires_fingerprint identity form understood turns plan
    seed =
    record {
      one = record {
        in_order = none_sorted;
        named = λ id number there. cc;
        timed = λ number id there. cc;
        fresh = λ number high. refl;
      };
      ascending = none_sorted;
    }

one_more : (n : ℕ) → n < n + 1
one_more n = omega arith

-- a request that is started has the next number
started_low : (c : Client) (method : ℕ) (body : Body) (options : Option Options) (now : ℕ)
    → refusal_to_start c method body options ≡ None
    → c.requests.next < (started method body options now c).requests.next
started_low c method body options now none = by (chosen c) none
  where
    written : (number : ℕ) (page : Page?) → refusal_of_page c number page ≡ None
        → c.requests.next < (started_with c number method body options now page).requests.next
    written number (Err why) none = cc
    written number (Ok bytes) none = one_more c.requests.next

    by : (o : Option ℕ) → refusal_of_number c method body options o ≡ None
        → c.requests.next < (started_at c method body options now o).requests.next
    by None none = cc
    by (Some number) none = written number (first_message c method number body options) none

pub ends_within : (transport : TransportType) (server : SocketAddr)
    (counts requires_fingerprint : Bool) (identity : Identity) (form : Form)
    (understood : List AttributeType) (turns : ℕ) (plan : Settings) (seed : List ℕ)
    (c later last : Client) (before between : List Event) (method : ℕ) (body : Body)
    (options : Option Options) (start now : ℕ) (until : Option ℕ)
    → Calls (new_client transport server counts requires_fingerprint identity form understood turns
    plan seed) before c
    → start ≤ last_moment → refusal_to_start c method body options ≡ None
    → Calls (started method body options start c) between later
    → two_plans_after (plan_by options plan) start ≤ now
    → told now later ≡ (waits until, last) → IsOver (next_number c) last.requests
ends_within transport server counts requires_fingerprint identity form understood turns plan seed c
    later last before between method body options start now until calls low none rest over_at said =
    let k : IsKept plan c =
    kept_calls plan (new_client transport server counts requires_fingerprint identity form
    understood turns plan seed) c before (record {
      stored = begins_stored transport server counts requires_fingerprint identity form understood
          turns plan seed;
      punctual = begins_punctual transport server counts requires_fingerprint identity form
          understood turns plan seed;
      planned = refl;
    }) calls in
    let p = planned_calls plan (next_number c) first_end options
    (started method body options start c) later between (begun k) rest in
    let q = planned_call plan (next_number c) first_end options later last _ p
    (polls later last now (waits until) said) in
    over_then (next_number c) first_end now options until later last p.kept.stored p.kept.punctual
    q.kept.stored q.has q.opted q.low said
    (subst (λ (s : Settings). moment_after first_end (plan_of (plan_by options s)) ≤ now)
    (sym p.kept.planned) over_at)
  where
    first_end : ℕ
    first_end = moment_after start (plan_of (plan_by options plan))

    begun : IsKept plan c
        → IsPlanned plan (next_number c) first_end options (started method body options start c)
    begun k = record {
      kept = kept_call plan c (started method body options start c) _ k
          (requests c (started method body options start c) method body options start low none refl);
      low = started_low c method body options start none;
      has = subst (λ (s : Settings).
          HasPlan (next_number c) (moment_after start (plan_of (plan_by options s)))
          (started method body options start c)) k.planned
          (starts_plan c method body options start k.stored);
      opted = starts_options c method body options start k.stored;
    }
