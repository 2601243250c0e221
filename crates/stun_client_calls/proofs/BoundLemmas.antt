-- The requests of a client stay punctual over each call.
use Rattle.std.proofs.Common.{◌≡◌, ◌∙◌, ◌≤◌, ℕ, Bool, true, false, List, Option, Some}
use Rattle.std.proofs.Common.{None, Ok, Err, ap, arith, cond, length, max, refl, subst, sym}
use Rattle.std.specs.Option.{option_and_then, option_map, option_map_or}
use Rattle.std.specs.Prelude.{◌==◌, nat_lt}
use Rattle.std.specs.declared.net.socket_addr.SocketAddr.{SocketAddr}
use Rattle.std.proofs.lemmas.Bool.{eqb-true}
use Rattle.stun_base.specs.Moments.{last_moment, moment_after}
use Rattle.stun_base.specs.declared.wire.attribute_type.AttributeType.{AttributeType}
use Rattle.stun_base.specs.declared.wire.transport.TransportType.{TransportType}
use Rattle.stun_agent.specs.Tables.{datum_at}
use Rattle.stun_agent.specs.Timing.{Settings}
use Rattle.stun_client.specs.Ids.{id_of}
use Rattle.stun_client.specs.Judging.{Identity}
use Rattle.stun_client_endpoint.specs.Bodies.{Body}
use Rattle.stun_client_endpoint.specs.Settings.{plan_of}
use Rattle.stun_client_endpoint.specs.Written.{Form, Page?}
use Rattle.stun_client_requests.specs.Laws.{IsRequests}
use Rattle.stun_client_requests.specs.Numbers.{id_at}
use Rattle.stun_client_requests.specs.OneTable.{IsOneTable}
use Rattle.stun_client_requests.specs.Requests.{Poll as PollOf}
use Rattle.stun_client_requests.specs.Requests.{after_replacing, datum_of, polled, stored_at}
use Rattle.stun_client_requests.specs.Timely.{IsInTime, IsTimely, bound_after}
use Rattle.stun_client_requests.specs.declared.requests.Polled.TheVariants as Of
use Rattle.stun_client_requests.specs.declared.requests.Request.{Request}
use Rattle.stun_client_requests.proofs.TimelyLemmas.{all_no_later, answer_timely, cancel_timely}
use Rattle.stun_client_requests.proofs.TimelyLemmas.{named_is_one}
use Rattle.stun_client_requests.proofs.TimelyLemmas.{none_timely, polls_keep_time, removed_timely}
use Rattle.stun_client_requests.proofs.TimelyLemmas.{replace_timely, start_timely, waits_in_time}
use Rattle.stun_client_calls.specs.Bounds.{IsPunctual, plan_in, until_of}
use Rattle.stun_client_calls.specs.Clients.{Client, Poll, by_polled, changed, changed_at}
use Rattle.stun_client_calls.specs.Clients.{chosen, first_asked, first_message, given_up}
use Rattle.stun_client_calls.specs.Clients.{handed_out_of, new_client, plan_for}
use Rattle.stun_client_calls.specs.Clients.{sent_by}
use Rattle.stun_client_calls.specs.Clients.{started_at, started_with, told, waits}
use Rattle.stun_client_calls.specs.Clients.{with_requests}
use Rattle.stun_client_calls.specs.Endpoints.{EndSeen}
use Rattle.stun_client_calls.specs.Messages.{AskedSeen, is_late}
use Rattle.stun_client_calls.specs.Options.{Options, plan_by}
use Rattle.stun_client_calls.specs.Receiving.{Answer, UnlessMemory, heard_in, moment_of, received}
use Rattle.stun_client_calls.specs.Runs.{Call, Event, changes_nothing, ends_one, polls, receives}
use Rattle.stun_client_calls.specs.Runs.{requests}
use Rattle.stun_client_calls.specs.declared.asked.Change.{Change}
use Rattle.stun_client_calls.specs.declared.asked.Change.TheVariants.{Noted, Refused, SentOut}
use Rattle.stun_client_calls.proofs.HeardLemmas.{answering_of, heard, nothing_of, turned_of}
use Rattle.stun_client_calls.proofs.TurnLemmas.{All, no_more, some_is, timely_after}

not_late : (until now : ℕ) → nat_lt until now ≡ false → now ≤ until
not_late until now is = grind arith

later : (now until : ℕ) → now ≤ until → max now until ≤ until
later now until low = omega (arith, low)

-- ---- starting

until_low : (now plan : ℕ) → now ≤ last_moment → now ≤ moment_after now plan
until_low now plan low = omega (arith, low)

started_punctual : (c : Client) (method : ℕ) (body : Body) (options : Option Options) (now : ℕ)
    → now ≤ last_moment → IsPunctual c → (o : Option ℕ)
    → IsPunctual (started_at c method body options now o)
started_punctual c method body options now low is None = is
started_punctual c method body options now low is (Some number) =
    by (first_message c method number body options)
  where
    by : (page : Page?) → IsPunctual (started_with c number method body options now page)
    by (Err why) = is
    by (Ok bytes) =
        start_timely (plan_in c) until_of c.requests is (id_of c.seed number) bytes
        (plan_by options c.plan) (first_asked c method body options now) now refl
        (until_low now (plan_of (plan_by options c.plan)) low)

-- ---- changes of what is stored

pub changed_until : (change : Change) (a : AskedSeen) → (changed change a).until ≡ a.until
changed_until (SentOut now) a = refl
changed_until (Noted why code) a = refl
changed_until (Refused code) a = refl

pub changed_options : (change : Change) (a : AskedSeen) → (changed change a).options ≡ a.options
changed_options (SentOut now) a = refl
changed_options (Noted why code) a = refl
changed_options (Refused code) a = refl

changed_punctual : (change : Change) (n : ℕ) (c : Client) → IsPunctual c
    → IsPunctual (with_requests (changed_at change n c.requests) c)
changed_punctual change n c is = by (datum_of n c.requests) refl
  where
    own : (a : AskedSeen) → datum_of n c.requests ≡ Some a → (q : Request AskedSeen)
        → stored_at n c.requests ≡ Some q → q.datum ≡ a
    own a some q stored =
        some_is q.datum a
        (sym (ap (λ (o : Option (Request AskedSeen)). option_map (λ x. x.datum) o) stored) ∙ some)

    by : (o : Option AskedSeen) → datum_of n c.requests ≡ o
        → IsTimely (plan_in c) until_of
        (option_map_or (λ a. after_replacing n (changed change a) c.requests) o c.requests)
    by None some = is
    by (Some a) some =
        replace_timely (plan_in c) until_of c.requests is n (changed change a)
        (λ q stored. ap (λ (x : AskedSeen). plan_for c x) (own a some q stored)
        ∙ ap (λ (o : Option Options). plan_by o c.plan) (sym (changed_options change a)))
        (λ q stored. no_more q.datum.until (changed change a).until
        (ap (λ (x : AskedSeen). x.until) (own a some q stored) ∙ sym (changed_until change a)))

-- ---- datagrams

heard_punctual : (from : SocketAddr) (bytes : List ℕ) (now : ℕ) (c : Client) (answer : Answer)
    → IsRequests c.requests → IsPunctual c
    → UnlessMemory (λ memory. received memory from bytes now c) bytes (heard_in from bytes c) c answer
    → IsPunctual answer.1
heard_punctual from bytes now c answer i is =
    heard IsPunctual c now bytes is (λ change n drop. changed_punctual change n c is)
    (λ end m standing. answer_timely (plan_in c) until_of c.requests is i.one.in_order m.number
    (length bytes) (moment_of now m) end)
    (λ memory m why d s page t. timely_after c.requests (plan_for c) now m.number s.id
    (answering_of now bytes) page (nothing_of m) m.asked (turned_of memory bytes m why d s) i.one is
    t.there t.free t.in_time refl refl)
    from answer

-- ---- polling

stored_is : (n id : ℕ) (q : Request AskedSeen) (r : All)
    → IsOneTable r.table.attached r.numbers r.next
    → datum_at id r.table.attached ≡ Some q → (q.number == n) ≡ true
    → stored_at n r ≡ Some q
stored_is n id q r one there is =
    let number : q.number ≡ n = eqb-true q.number n is in
    let named : id_at n r.numbers ≡ Some id =
    one.named id n
    (ap (λ (o : Option (Request AskedSeen)). option_map (λ x. x.number) o) there
    ∙ ap Some number) in
    ap (λ o. option_and_then (λ k. datum_at k r.table.attached) o) named ∙ there

-- a poll of the table has named a request. Its bytes are handed out, or it ends
module _ (plan : Request AskedSeen → Settings) (now n : ℕ) (r : All)
    (one : IsOneTable r.table.attached r.numbers r.next)
    (is : IsTimely plan (bound_after {E = EndSeen} now (Of.Transmit n) until_of) r) where
  abbrev bound : Request AskedSeen → ℕ
  bound q = bound_after {E = EndSeen} now (Of.Transmit n) until_of q

  no_datum : datum_of n r ≡ None → IsTimely plan until_of r
  no_datum none =
      all_no_later plan bound until_of r.table.requests r.table.attached
      (λ id q there. by id q there (n == q.number) refl) is
    where
      by : (id : ℕ) (q : Request AskedSeen) → datum_at id r.table.attached ≡ Some q → (b : Bool)
          → (n == q.number) ≡ b → cond b (max now q.datum.until) q.datum.until ≤ q.datum.until
      by id q there false is = omega arith
      by id q there true is =
          let stored = stored_is n id q r one there (turned n q.number is) in
          let some : datum_of n r ≡ Some q.datum =
          ap (λ (o : Option (Request AskedSeen)). option_map (λ x. x.datum) o) stored in
          cc
        where
          turned : (x y : ℕ) → (x == y) ≡ true → (y == x) ≡ true
          turned x y is = grind arith

  in_time : (a : AskedSeen) → datum_of n r ≡ Some a → now ≤ a.until → IsTimely plan until_of r
  in_time a some low =
      all_no_later plan bound until_of r.table.requests r.table.attached
      (λ id q there. by id q there (n == q.number) refl) is
    where
      by : (id : ℕ) (q : Request AskedSeen) → datum_at id r.table.attached ≡ Some q → (b : Bool)
          → (n == q.number) ≡ b → cond b (max now q.datum.until) q.datum.until ≤ q.datum.until
      by id q there false is = omega arith
      by id q there true is =
          let stored = stored_is n id q r one there (turned n q.number is) in
          let other : datum_of n r ≡ Some q.datum =
          ap (λ (o : Option (Request AskedSeen)). option_map (λ x. x.datum) o) stored in
          let same : a ≡ q.datum = same_asked a q.datum (sym some ∙ other) in
          let until : a.until ≡ q.datum.until = ap (λ x. x.until) same in
          later now q.datum.until (subst (λ u. now ≤ u) until low)
        where
          turned : (x y : ℕ) → (x == y) ≡ true → (y == x) ≡ true
          turned x y is = grind arith

          same_asked : (x y : AskedSeen) → Some x ≡ Some y → x ≡ y
          same_asked x y e = cc

-- the client then
module _ (now n : ℕ) (c : Client)
    (one : IsOneTable c.requests.table.attached c.requests.numbers c.requests.next)
    (is : IsTimely (plan_in c) (bound_after {E = EndSeen} now (Of.Transmit n) until_of) c.requests) where
  given_up_punctual : (a : AskedSeen) → IsPunctual (given_up n a c).1
  given_up_punctual a =
      removed_timely (plan_in c) (bound_after {E = EndSeen} now (Of.Transmit n) until_of) until_of
      c.requests one is n (λ q other. by q (n == q.number) other)
    where
      by : (q : Request AskedSeen) (b : Bool) → b ≡ false
          → cond b (max now q.datum.until) q.datum.until ≤ q.datum.until
      by q false other = omega arith
      by q true other = cc

  sent_punctual : (a : AskedSeen) → datum_of n c.requests ≡ Some a → now ≤ a.until
      → IsPunctual (sent_by now n c).1
  sent_punctual a some low =
      changed_punctual (SentOut now) n c (in_time (plan_in c) now n c.requests one is a some low)

  handed_punctual : (o : Option AskedSeen) → datum_of n c.requests ≡ o
      → IsPunctual (handed_out_of now n c o).1
  handed_punctual None none = no_datum (plan_in c) now n c.requests one is none
  handed_punctual (Some a) some = by (is_late now a) refl
    where
      by : (b : Bool) → is_late now a ≡ b → IsPunctual (cond b (given_up n a c) (sent_by now n c)).1
      by true late = given_up_punctual a
      by false early = sent_punctual a some (not_late a.until now early)

told_punctual : (now : ℕ) (c : Client) → IsRequests c.requests → IsPunctual c
    → IsPunctual (told now c).1
told_punctual now c i is = by (polled now c.requests) refl
  where
    kept : (p : PollOf AskedSeen EndSeen) → polled now c.requests ≡ p
        → IsTimely (plan_in c) (bound_after now p.0 until_of) p.1
    kept p same =
        subst (λ (x : PollOf AskedSeen EndSeen).
        IsTimely (plan_in c) (bound_after now x.0 until_of) x.1) same
        (polls_keep_time (plan_in c) until_of now c.requests i is)

    by : (p : PollOf AskedSeen EndSeen) → polled now c.requests ≡ p
        → IsPunctual (by_polled now (with_requests p.1 c) p.0).1
    by (Of.Transmit n, r) same =
        handed_punctual now n (with_requests r c)
        (subst (λ (x : PollOf AskedSeen EndSeen).
        IsOneTable x.1.table.attached x.1.numbers x.1.next) same
        (named_is_one now n c.requests i.one (ap (λ (x : PollOf AskedSeen EndSeen). x.0) same)))
        (kept (Of.Transmit n, r) same) (datum_of n r) refl
    by (Of.Ended number end, r) same = kept (Of.Ended number end, r) same
    by (Of.TimedOut number a, r) same = kept (Of.TimedOut number a, r) same
    by (Of.Wait until, r) same = kept (Of.Wait until, r) same

-- ---- laws

pub begins_punctual : (transport : TransportType) (server : SocketAddr)
    (counts requires_fingerprint : Bool) (identity : Identity) (form : Form)
    (understood : List AttributeType) (turns : ℕ) (plan : Settings) (seed : List ℕ)
    → IsPunctual
    (new_client transport server counts requires_fingerprint identity form understood turns plan seed)
begins_punctual transport server counts requires_fingerprint identity form understood turns plan seed =
    none_timely _ until_of

pub stays_punctual : (c after : Client) (event : Event) → IsRequests c.requests → IsPunctual c
    → Call c event after → IsPunctual after
stays_punctual c after event i is (requests _ _ method body options now low none made) =
    subst IsPunctual (sym made) (started_punctual c method body options now low is (chosen c))
stays_punctual c after event i is (receives _ _ from bytes now answer low hears made) =
    subst IsPunctual (sym made) (heard_punctual from bytes now c answer i is hears)
stays_punctual c after event i is (polls _ _ now says said) =
    subst IsPunctual (ap (λ (p : Poll). p.1) said) (told_punctual now c i is)
stays_punctual c after event i is (ends_one _ _ number a some made) =
    subst IsPunctual (sym made)
    (cancel_timely (plan_in c) until_of c.requests is i.one.in_order number _)
stays_punctual c after event i is (changes_nothing _) = is

-- what is stored of an outstanding request is in the table
stored_there : (n : ℕ) (a : AskedSeen) (r : All) → datum_of n r ≡ Some a
    → (id : ℕ) × (q : Request AskedSeen) × (datum_at id r.table.attached ≡ Some q) × (q.datum ≡ a)
stored_there n a r some = by (id_at n r.numbers) some
  where
    at : (id : ℕ) (o : Option (Request AskedSeen)) → datum_at id r.table.attached ≡ o
        → option_map (λ x. x.datum) o ≡ Some a
        → (id : ℕ) × (q : Request AskedSeen) × (datum_at id r.table.attached ≡ Some q)
        × (q.datum ≡ a)
    at id None there some = cc
    at id (Some q) there some = (id, q, there, same q.datum a some)
      where
        same : (x y : AskedSeen) → Some x ≡ Some y → x ≡ y
        same x y e = cc

    by : (o : Option ℕ)
        → option_map (λ x. x.datum) (option_and_then (λ id. datum_at id r.table.attached) o) ≡ Some a
        → (id : ℕ) × (q : Request AskedSeen) × (datum_at id r.table.attached ≡ Some q)
        × (q.datum ≡ a)
    by None some = cc
    by (Some id) some = at id (datum_at id r.table.attached) refl some

pub not_told : (now n : ℕ) (until : Option ℕ) (c after : Client) (o : Option AskedSeen)
    → handed_out_of now n c o ≡ (waits until, after) → ⊥
not_told now n until c after None said = let no = ap (λ (p : Poll). p.0) said in cc
not_told now n until c after (Some a) said = by (is_late now a) said
  where
    by : (b : Bool) → cond b (given_up n a c) (sent_by now n c) ≡ (waits until, after) → ⊥
    by true said = let no = ap (λ (p : Poll). p.0) said in cc
    by false said = let no = ap (λ (p : Poll). p.0) said in cc

pub client_waits : (now : ℕ) (until : Option ℕ) (c after : Client) (number : ℕ) (a : AskedSeen)
    → IsPunctual c → told now c ≡ (waits until, after) → datum_of number after.requests ≡ Some a
    → IsInTime now (moment_after a.until (plan_of (plan_for c a))) until
client_waits now until c after number a is said some = by (polled now c.requests) refl said
  where
    by : (p : PollOf AskedSeen EndSeen) → polled now c.requests ≡ p
        → by_polled now (with_requests p.1 c) p.0 ≡ (waits until, after)
        → IsInTime now (moment_after a.until (plan_of (plan_for c a))) until
    by (Of.Transmit n, r) same said =
        absurd (not_told now n until (with_requests r c) after (datum_of n r) said)
    by (Of.Ended n end, r) same said = let no = ap (λ (p : Poll). p.0) said in cc
    by (Of.TimedOut n x, r) same said = let no = ap (λ (p : Poll). p.0) said in cc
    by (Of.Wait u, r) same said =
        let told_is : u ≡ until = wait_is u until (ap (λ (p : Poll). p.0) said) in
        let after_is : r ≡ after.requests = ap (λ (p : Poll). p.1.requests) said in
        let stored =
        stored_there number a r (subst (λ (x : All). datum_of number x ≡ Some a) (sym after_is) some) in
        subst (λ (x : Option ℕ). IsInTime now (moment_after a.until (plan_of (plan_for c a))) x) told_is
        (subst (λ (x : AskedSeen). IsInTime now (moment_after x.until (plan_of (plan_for c x))) u)
        stored.3
        (waits_in_time (plan_in c) until_of now u c.requests r stored.0 stored.1 is same stored.2))
      where
        wait_is : (x y : Option ℕ) → waits x ≡ waits y → x ≡ y
        wait_is x y e = cc
