-- What is stored of a current message says how often `poll` returned its bytes, for every sequence
-- of calls.
use Rattle.std.proofs.Common.{◌≡◌, ◌∙◌, ◌<◌, ◌≤◌, ◌+◌, ◌-◌, ℕ, zero, suc, Bool, true, false, List, []}
use Rattle.std.proofs.Common.{◌∷◌, Option, Some, None, Ok, Err, ap, arith, cond, length}
use Rattle.std.proofs.Common.{refl, subst, sym}
use Rattle.std.proofs.lemmas.Bool.{eqb-true}
use Rattle.std.proofs.lemmas.List.{append-nil, append_assoc}
use Rattle.std.specs.BTreeMap.{is_at}
use Rattle.std.specs.List.{AllByRecursion}
use Rattle.std.specs.Map.{lookup}
use Rattle.std.specs.Option.{IsSome, is_some, option_and_then, option_map, option_map_or}
use Rattle.std.specs.Ordering.{nat_cmp}
use Rattle.std.specs.Prelude.{◌==◌, ◌++◌, ⊤, find}
use Rattle.std.specs.declared.net.socket_addr.SocketAddr.{SocketAddr}
use Rattle.stun_base.specs.Header.{transaction_id_field}
use Rattle.stun_base.specs.declared.wire.attribute_type.AttributeType.{AttributeType}
use Rattle.stun_base.specs.declared.wire.transport.TransportType.{TransportType}
use Rattle.stun_agent.specs.Tables.{datum_at}
use Rattle.stun_agent.specs.Timing.{Settings}
use Rattle.stun_client.specs.Challenges.{Answered}
use Rattle.stun_client.specs.Ids.{id_of}
use Rattle.stun_client.specs.Judging.{Identity}
use Rattle.stun_client.specs.Standing.{StandingSeen}
use Rattle.stun_client_endpoint.specs.Bodies.{Body}
use Rattle.stun_client_endpoint.specs.Written.{Form, Page?}
use Rattle.stun_client_requests.specs.Numbers.{id_at}
use Rattle.stun_client_requests.specs.Requests.{Poll as PollOf, after_replacing, datum_of, polled}
use Rattle.stun_client_requests.specs.declared.requests.Polled.TheVariants as Of
use Rattle.stun_client_requests.specs.declared.requests.Request.{Request}
use Rattle.stun_client_requests.proofs.NumberLemmas.{eqb-same, own_key}
use Rattle.stun_client_calls.specs.Clients.{Client, Poll, by_polled, cancelled, changed}
use Rattle.stun_client_calls.specs.Clients.{changed_at, chosen, first_asked, first_message, given_up}
use Rattle.stun_client_calls.specs.Clients.{handed_out_of, new_client, plan_for, sent_by, started}
use Rattle.stun_client_calls.specs.Clients.{started_at, started_with, told, with_requests}
use Rattle.stun_client_calls.specs.Endpoints.{EndSeen}
use Rattle.stun_client_calls.specs.Ids.{first_free, is_taken}
use Rattle.stun_client_calls.specs.Messages.{AllSent, AskedSeen, SentSeen, handed_out_before, is_late}
use Rattle.stun_client_calls.specs.Messages.{leaves_doubt, with_former, without_message}
use Rattle.stun_client_calls.specs.Options.{Options, handed_out_at, plan_by, round_trip}
use Rattle.stun_client_calls.specs.Receiving.{Answer, Memory, Met, Spot, UnlessMemory, ended_by}
use Rattle.stun_client_calls.specs.Receiving.{heard_in, moment_of, received, round_trip_of, turned_to}
use Rattle.stun_client_calls.specs.Runs.{Call, Calls, Event, call, changes_nothing, ends_one}
use Rattle.stun_client_calls.specs.Runs.{no_call, polls, receives, requests}
use Rattle.stun_client_calls.specs.declared.asked.Change.{Change}
use Rattle.stun_client_calls.specs.declared.asked.Change.TheVariants.{Noted, Refused, SentOut}
use Rattle.stun_client_calls.specs.declared.options.HandedOut.{HandedOut}
use Rattle.stun_client_calls.specs.declared.options.HandedOut.TheVariants.{Again, Never, Once}
use Rattle.stun_client_calls.specs.declared.turning.Why.{Why}
use Rattle.stun_client_calls.proofs.HeardLemmas.{IsDrop, IsOrigin, IsTurn, answering_of, earlier_one}
use Rattle.stun_client_calls.proofs.HeardLemmas.{heard, new_one, nothing_of, turned_of}
use Rattle.stun_client_calls.proofs.ReceivingLemmas.{heard_is, if_method_is}
use Rattle.stun_client_calls.proofs.TurnLemmas.{All, some_is}
use Rattle.stun_client_runs.specs.Kept.{IsClient}
use Rattle.stun_client_runs.specs.RoundTrips.{AreApart, IsOfOnePoll, is_id, times_of_call}
use Rattle.stun_client_runs.specs.RoundTrips.{times_of_calls, times_of_poll}
use Rattle.stun_client_runs.proofs.ChangeLemmas.{there_by_id}
use Rattle.stun_client_runs.proofs.EachAtLemmas.{Each, answer_each, cancel_each, is_there, numbered}
use Rattle.stun_client_runs.proofs.EachAtLemmas.{remove_each, replace_but, replace_each, start_each}
use Rattle.stun_client_runs.proofs.EachAtLemmas.{turn_each}
use Rattle.stun_client_runs.proofs.KeptLemmas.{call_is, new_is, stays_kept}
use Rattle.stun_client_runs.proofs.PollAtLemmas.{polls_each}
use Rattle.stun_client_runs.proofs.PollLemmas.{IsPolled, polled_client}
use Rattle.stun_client_runs.proofs.ReceivingLemmas.{IsMet, met_is}
use Rattle.stun_client_runs.proofs.SentLemmas.{numbers_changed}
use Rattle.stun_client_runs.proofs.TurnLemmas.{all_left, all_with}

-- ---- transaction IDs that were used

-- an ID is one of the first of a seed, of which there are so many
record IsBelow (many : ℕ) (seed : List ℕ) (id : ℕ) : Type 0 where
  number : ℕ
  low : number < many
  derived : id ≡ id_of seed number

below_up : (many more : ℕ) (seed : List ℕ) (id : ℕ) → many ≤ more → IsBelow many seed id
    → IsBelow more seed id
below_up many more seed id up is = record {
  number = is.number;
  low = let before = is.low in omega (arith, before, up);
  derived = is.derived;
}

abbrev AreBelow : ℕ → List ℕ → AllSent → Type 0
AreBelow many seed earlier = AllByRecursion (λ e. IsBelow many seed e.1.id) earlier

all_up : (many more : ℕ) (seed : List ℕ) (earlier : AllSent) → many ≤ more
    → AreBelow many seed earlier → AreBelow more seed earlier
all_up many more seed [] up are = tt
all_up many more seed (e ∷ others) up are =
    (below_up many more seed e.1.id up are.0, all_up many more seed others up are.1)

found_below : (many : ℕ) (seed : List ℕ) (f : ℕ × SentSeen → Bool) (earlier : AllSent)
    → AreBelow many seed earlier → (e : ℕ × SentSeen) → find f earlier ≡ Some e
    → IsBelow many seed e.1.id
found_below many seed f [] are e is = cc
found_below many seed f (x ∷ xs) are e is = by (f x) is (found_below many seed f xs are.1 e)
  where
    by : (b : Bool) → cond b (Some x) (find f xs) ≡ Some e
        → (find f xs ≡ Some e → IsBelow many seed e.1.id) → IsBelow many seed e.1.id
    by true is rest =
        subst (λ (y : ℕ × SentSeen). IsBelow many seed y.1.id) (some_is x e is) are.0
    by false is rest = rest is

-- a message that a search finds has its rank
found_there : (f : ℕ × SentSeen → Bool) (earlier : AllSent) (e : ℕ × SentSeen)
    → find f earlier ≡ Some e → is_some (lookup (is_at (nat_cmp e.0)) earlier) ≡ true
found_there f [] e is = cc
found_there f (x ∷ xs) e is = by (f x) is (found_there f xs e)
  where
    either : (b : Bool) → is_some (lookup (is_at (nat_cmp e.0)) xs) ≡ true
        → is_some (cond b (Some x.1) (lookup (is_at (nat_cmp e.0)) xs)) ≡ true
    either true there = refl
    either false there = there

    by : (b : Bool) → cond b (Some x) (find f xs) ≡ Some e
        → (find f xs ≡ Some e → is_some (lookup (is_at (nat_cmp e.0)) xs) ≡ true)
        → is_some (lookup (is_at (nat_cmp e.0)) (x ∷ xs)) ≡ true
    by true is rest =
        subst (λ (y : ℕ × SentSeen). is_some (lookup (is_at (nat_cmp y.0)) (x ∷ xs)) ≡ true)
        (some_is x e is)
        (ap (λ b. is_some (cond b (Some x.1) (lookup (is_at (nat_cmp x.0)) xs))) (own_key x.0))
    by false is rest = either (is_at (nat_cmp e.0) x.0) (rest is)

-- the number of the ID of a new message
first_is_low : (taken : ℕ → Bool) (number many found : ℕ)
    → first_free taken number many ≡ Some found → number ≤ found
first_is_low taken number zero found is = cc
first_is_low taken number (suc many) found is =
    by (taken number) is (first_is_low taken (number + 1) many found)
  where
    by : (b : Bool) → cond b (first_free taken (number + 1) many) (Some number) ≡ Some found
        → (first_free taken (number + 1) many ≡ Some found → number + 1 ≤ found)
        → number ≤ found
    by true is rest = let next = rest is in omega (arith, next)
    by false is rest = let same : number ≡ found = some_is number found is in omega (arith, same)

chosen_is_low : (c : Client) (number : ℕ) → chosen c ≡ Some number → c.next_id ≤ number
chosen_is_low c number some =
    first_is_low (is_taken c.seed c.requests.table.attached c.earlier) c.next_id _ number some

-- ---- when messages were handed out

-- when the message with each transaction ID was handed out
abbrev Times : Type 0
Times = ℕ → List ℕ

-- what is stored of a message says when it was handed out, unless it was handed out again
abbrev AreTimes : List ℕ → HandedOut → Type 0
AreTimes times Never = times ≡ []
AreTimes times (Once sent) = times ≡ sent ∷ []
AreTimes times Again = ⊤

-- of the current message of a request, whose IDs were used
record IsTimed (h : Times) (many : ℕ) (seed : List ℕ) (id : ℕ) (q : Request AskedSeen)
    : Type 0 where
  own : IsBelow many seed id
  earlier : AreBelow many seed q.datum.earlier
  times : AreTimes (h id) q.datum.handed_out

-- and no message with an ID that was not used was handed out
record AreTimed (h : Times) (most : ℕ) (seed : List ℕ) (c : Client) : Type 0 where
  seed_is : c.seed ≡ seed
  unused : (n : ℕ) → c.next_id ≤ n → n < most → h (id_of seed n) ≡ []
  each : Each (IsTimed h c.next_id seed) c.requests.table.attached

-- the times are the same
timed_alike : (h k : Times) (most : ℕ) (seed : List ℕ) (c : Client) → ((id : ℕ) → h id ≡ k id)
    → AreTimed h most seed c → AreTimed k most seed c
timed_alike h k most seed c same are = record {
  seed_is = are.seed_is;
  unused = λ n high low. sym (same (id_of seed n)) ∙ are.unused n high low;
  each = λ id q there.
      let is = are.each id q there in
      record {
        own = is.own;
        earlier = is.earlier;
        times = subst (λ ts. AreTimes ts q.datum.handed_out) (same id) is.times;
      };
}

-- other requests, and besides them anything
timed_around : (h : Times) (most : ℕ) (seed : List ℕ) (c : Client) (r : All)
    (standing : StandingSeen) (earlier : List (ℕ × ℕ))
    → Each (IsTimed h c.next_id seed) r.table.attached → AreTimed h most seed c
    → AreTimed h most seed (record c { requests = r; standing = standing; earlier = earlier })
timed_around h most seed c r standing earlier each are =
    record { seed_is = are.seed_is; unused = are.unused; each = each }

timed_up : (h : Times) (many more : ℕ) (seed : List ℕ) (id : ℕ) (q : Request AskedSeen)
    → many ≤ more → IsTimed h many seed id q → IsTimed h more seed id q
timed_up h many more seed id q up is = record {
  own = below_up many more seed id up is.own;
  earlier = all_up many more seed q.datum.earlier up is.earlier;
  times = is.times;
}

-- ---- calls that hand out nothing

module _ (h : Times) (most : ℕ) (seed : List ℕ) where
  abbrev Timed : Client → Type 0
  Timed c = AreTimed h most seed c

  -- a request is started
  started_timed : (method : ℕ) (body : Body) (options : Option Options) (now : ℕ) (c : Client)
      → (started method body options now c).next_id ≤ most → Timed c
      → Timed (started method body options now c)
  started_timed method body options now c = by (chosen c) refl
    where
      page : (number : ℕ) → chosen c ≡ Some number → (p : Page?)
          → (started_with c number method body options now p).next_id ≤ most → Timed c
          → Timed (started_with c number method body options now p)
      page number some (Err why) low are = are
      page number some (Ok bytes) low are = record {
        seed_is = are.seed_is;
        unused = λ n high below. are.unused n (omega (arith, high, at)) below;
        each = start_each (IsTimed h (number + 1) seed) c.requests
            (λ id q there.
            timed_up h c.next_id (number + 1) seed id q (omega (arith, at)) (are.each id q there))
            (id_of c.seed number) bytes (plan_by options c.plan)
            (first_asked c method body options now) now
            (record {
              own = record {
                number = number;
                low = omega arith;
                derived = ap (λ s. id_of s number) are.seed_is;
              };
              earlier = tt;
              times =
                  ap (λ s. h (id_of s number)) are.seed_is
                  ∙ are.unused number at (omega (arith, low));
            });
      }
        where
          at : c.next_id ≤ number
          at = chosen_is_low c number some

      by : (o : Option ℕ) → chosen c ≡ o
          → (started_at c method body options now o).next_id ≤ most → Timed c
          → Timed (started_at c method body options now o)
      by None some low are = are
      by (Some number) some low are =
          page number some (first_message c method number body options) low are

  module _ (c : Client) (is : IsClient c) (are : Timed c) where
    -- what is known of an outstanding request
    its_own : (n : ℕ) (a : AskedSeen) → datum_of n c.requests ≡ Some a
        → (id : ℕ) × (id_at n c.requests.numbers ≡ Some id)
        × IsTimed h c.next_id seed id (numbered n a)
    its_own n a some =
        let t = is_there n a c.requests is.requests.one some in
        (t.id, t.named, are.each t.id (numbered n a) t.there)

    -- a response is dropped
    drop_timed : (change : Change) (n : ℕ) → IsDrop change
        → Timed (with_requests (changed_at change n c.requests) c)
    drop_timed change n drop =
        timed_around h most seed c (changed_at change n c.requests) c.standing c.earlier
        (by (datum_of n c.requests) refl) are
      where
        same : (change : Change) (id : ℕ) (a : AskedSeen) → IsDrop change
            → IsTimed h c.next_id seed id (numbered n a)
            → IsTimed h c.next_id seed id (numbered n (changed change a))
        same (SentOut now) id a drop its = absurd drop
        same (Noted why code) id a drop its =
            record { own = its.own; earlier = its.earlier; times = its.times }
        same (Refused code) id a drop its =
            record { own = its.own; earlier = its.earlier; times = its.times }

        by : (o : Option AskedSeen) → datum_of n c.requests ≡ o
            → Each (IsTimed h c.next_id seed)
            (option_map_or (λ a. after_replacing n (changed change a) c.requests) o
            c.requests).table.attached
        by None some = are.each
        by (Some a) some =
            replace_each (IsTimed h c.next_id seed) c.requests are.each n (changed change a)
            (λ id named.
            let its = its_own n a some in
            same change id a drop
            (subst (λ k. IsTimed h c.next_id seed k (numbered n a))
            (some_is its.0 id (sym its.1 ∙ named)) its.2))

    -- a request ends by a response
    ended_timed : (end : EndSeen) (bytes : List ℕ) (now : ℕ) (m : Met) (standing : StandingSeen)
        → Timed (ended_by end bytes now m (record c { standing = standing }))
    ended_timed end bytes now m standing =
        timed_around h most seed c _ standing _
        (answer_each (IsTimed h c.next_id seed) c.requests are.each is.requests.one.in_order
        m.number (length bytes) (moment_of now m) end) are

    -- a request is canceled
    cancelled_timed : (number : ℕ) → Timed (cancelled number c)
    cancelled_timed number =
        timed_around h most seed c _ c.standing _
        (cancel_each (IsTimed h c.next_id seed) c.requests are.each is.requests.one.in_order number
        _) are

    -- ---- another message becomes the current one

    module _ (memory : Memory) (now : ℕ) (bytes : List ℕ) (m : Met) (why : Why)
        (d : Option Answered) (s : Spot) (page : List ℕ) (turn : IsTurn c now bytes m s) where
      met_so : IsMet c (transaction_id_field bytes) m
      met_so = met_is c (transaction_id_field bytes) m is.requests turn.met_so

      -- the former message has the ID of the response
      former_below : IsBelow c.next_id seed (transaction_id_field bytes)
      former_below =
          subst (λ k. IsBelow c.next_id seed k) (met_so.current turn.is_current)
          (are.each met_so.stored.id met_so.stored.q met_so.stored.there).own

      earlier_below : AreBelow c.next_id seed m.asked.earlier
      earlier_below = (its_own m.number m.asked turn.there).2.earlier

      stored_below : (many : ℕ) → c.next_id ≤ many
          → AreBelow many seed (turned_of memory bytes m why d s).earlier
      stored_below many up = by memory.is_kept
        where
          Below : SentSeen → Type 0
          Below x = IsBelow many seed x.id

          left : AreBelow many seed (without_message s.rank m.asked.earlier)
          left =
              all_left Below (is_at (nat_cmp s.rank)) m.asked.earlier
              (all_up c.next_id many seed m.asked.earlier up earlier_below)

          by : (b : Bool) → AreBelow many seed (with_former b m.asked.rank (record {
            id = transaction_id_field bytes;
            signed_for = m.asked.signed_for;
            is_doubted = leaves_doubt why;
          }) (without_message s.rank m.asked.earlier))
          by true =
              all_with Below (without_message s.rank m.asked.earlier) m.asked.rank _
              (below_up c.next_id many seed (transaction_id_field bytes) up former_below) left
          by false = left

      -- a new message was not handed out
      new_times : (b : Bool) → h s.id ≡ [] → AreTimes (h s.id) (cond b Again Never)
      new_times true none = tt
      new_times false none = none

      -- an earlier one may have been
      old_times : (e : ℕ × SentSeen) (f : ℕ × SentSeen → Bool) → find f m.asked.earlier ≡ Some e
          → s.rank ≡ e.0
          → AreTimes (h s.id) (handed_out_before s.rank m.asked.earlier)
      old_times e f found rank =
          subst (λ (b : Bool). AreTimes (h s.id) (cond b Again Never))
          (sym (subst (λ k. is_some (lookup (is_at (nat_cmp k)) m.asked.earlier) ≡ true) (sym rank)
          (found_there f m.asked.earlier e found))) tt

      turned_timed : (turned_to memory c now bytes m why d s page).1.next_id ≤ most
          → Timed (turned_to memory c now bytes m why d s page).1
      turned_timed low = by turn.origin
        where
          all : (many : ℕ) → s.next_id ≡ many → c.next_id ≤ many → IsBelow many seed s.id
              → AreTimes (h s.id) (handed_out_before s.rank m.asked.earlier)
              → Timed (turned_to memory c now bytes m why d s page).1
          all many same up own times = record {
            seed_is = are.seed_is;
            unused = λ n high below.
                are.unused n
                (let high : many ≤ n = subst (λ k. k ≤ n) same high in omega (arith, high, up))
                below;
            each = subst (λ k. Each (IsTimed h k seed)
                (turned_to memory c now bytes m why d s page).1.requests.table.attached) (sym same)
                (turn_each (IsTimed h many seed) c.requests
                (λ id q there. timed_up h c.next_id many seed id q up (are.each id q there))
                is.requests.one.in_order m.number (turned_of memory bytes m why d s)
                (answering_of now bytes) s.id page (plan_for c m.asked) (nothing_of m) now
                (record { own = own; earlier = stored_below many up; times = times }));
          }

          by : IsOrigin c m.asked s → Timed (turned_to memory c now bytes m why d s page).1
          by (new_one number some id next) =
              let at = chosen_is_low c number some in
              let below : number < most =
              let low : number + 1 ≤ most = subst (λ k. k ≤ most) next low in
              omega (arith, low) in
              let named : s.id ≡ id_of seed number = id ∙ ap (λ x. id_of x number) are.seed_is in
              all (number + 1) next (omega (arith, at))
              (record { number = number; low = omega arith; derived = named })
              (new_times (is_some (lookup (is_at (nat_cmp s.rank)) m.asked.earlier))
              (ap h named ∙ are.unused number at below))
          by (earlier_one e f found rank id next) =
              all c.next_id next (omega arith)
              (subst (λ k. IsBelow c.next_id seed k) (sym id)
              (found_below c.next_id seed f m.asked.earlier earlier_below e found))
              (old_times e f found rank)

  -- a datagram
  received_timed : (from : SocketAddr) (bytes : List ℕ) (now : ℕ) (c : Client) (answer : Answer)
      → IsClient c → Timed c
      → UnlessMemory (λ memory. received memory from bytes now c) bytes (heard_in from bytes c) c
      answer
      → answer.1.next_id ≤ most → Timed answer.1
  received_timed from bytes now c answer is are said =
      heard (λ (x : Client). x.next_id ≤ most → Timed x) c now bytes (λ low. are)
      (λ change n drop low. drop_timed c is are change n drop)
      (λ end m standing low. ended_timed c is are end bytes now m standing)
      (λ memory m why d s page turn low.
      turned_timed c is are memory now bytes m why d s page turn low)
      from answer said

-- ---- a poll

abbrev and_then : Times → Times → Times
and_then h k id = h id ++ k id

nothing_then : (h : Times) (most : ℕ) (seed : List ℕ) (c : Client) → AreTimed h most seed c
    → AreTimed (and_then h (λ id. [])) most seed c
nothing_then h most seed c = timed_alike h (and_then h (λ id. [])) most seed c
    (λ id. sym (append-nil (h id)))

module _ (h : Times) (most : ℕ) (seed : List ℕ) (now : ℕ) where
  -- the message with this ID is handed out
  abbrev sent_then : ℕ → Times
  sent_then k = and_then h (λ id. cond (k == id) (now ∷ []) [])

  others_then : (k id : ℕ) → (k == id) ≡ false → sent_then k id ≡ h id
  others_then k id off =
      ap (λ b. h id ++ cond b (now ∷ []) []) off ∙ append-nil (h id)

  times_then : (k : ℕ) (before : HandedOut) → AreTimes (h k) before
      → AreTimes (sent_then k k) (handed_out_at now before)
  times_then k Never are =
      ap (λ b. h k ++ cond b (now ∷ []) []) (eqb-same k) ∙ ap (λ ts. ts ++ (now ∷ [])) are
  times_then k (Once sent) are = tt
  times_then k Again are = tt

  -- a request is handed out whose current message has this ID
  handed_timed : (n k : ℕ) (a : AskedSeen) (c : Client) → IsClient c → AreApart most seed
      → c.next_id ≤ most → datum_of n c.requests ≡ Some a → id_at n c.requests.numbers ≡ Some k
      → AreTimed h most seed c
      → AreTimed (sent_then k) most seed
      (with_requests (changed_at (SentOut now) n c.requests) c)
  handed_timed n k a c is apart_all low some named are =
      subst (λ (o : Option AskedSeen). AreTimed (sent_then k) most seed
      (with_requests (option_map_or
      (λ x. after_replacing n (changed (SentOut now) x) c.requests) o c.requests) c)) (sym some)
      (record {
        seed_is = are.seed_is;
        unused = λ j high below.
            others_then k (id_of seed j) (differs j high below) ∙ are.unused j high below;
        each = replace_but (IsTimed (sent_then k) c.next_id seed) c.requests n
            (changed (SentOut now) a) k named (λ id q there away. record {
              own = (are.each id q there).own;
              earlier = (are.each id q there).earlier;
              times = subst (λ ts. AreTimes ts q.datum.handed_out)
                  (sym (others_then k id (miss id away))) (are.each id q there).times;
            }) (record {
              own = its.own;
              earlier = its.earlier;
              times = times_then k a.handed_out its.times;
            });
      })
    where
      its : IsTimed h c.next_id seed k (numbered n a)
      its =
          let own = its_own h most seed c is are n a some in
          subst (λ id. IsTimed h c.next_id seed id (numbered n a))
          (some_is own.0 k (sym own.1 ∙ named)) own.2

      miss : (id : ℕ) → is_at (nat_cmp k) id ≡ false → (k == id) ≡ false
      miss id away = by (k == id) refl
        where
          by : (b : Bool) → (k == id) ≡ b → (k == id) ≡ false
          by false off = off
          by true on =
              let hit : is_at (nat_cmp k) id ≡ true =
              subst (λ j. is_at (nat_cmp k) j ≡ true) (eqb-true k id on) (own_key k) in
              cc

      differs : (j : ℕ) → c.next_id ≤ j → j < most → (k == id_of seed j) ≡ false
      differs j high below = by (k == id_of seed j) refl
        where
          by : (b : Bool) → (k == id_of seed j) ≡ b → (k == id_of seed j) ≡ false
          by false off = off
          by true on =
              let own = its.own in
              let before = own.low in
              let same : own.number ≡ j =
              apart_all own.number j (omega (arith, before, low)) below
              (sym own.derived ∙ eqb-true k (id_of seed j) on) in
              absurd (omega (arith, same, before, high))

  -- what is left of the requests
  left_timed : (c : Client) (p : PollOf AskedSeen EndSeen) → IsClient c
      → polled now c.requests ≡ p → AreTimed h most seed c
      → AreTimed h most seed (with_requests p.1 c)
  left_timed c p is same are =
      timed_around h most seed c p.1 c.standing c.earlier
      (subst (λ (x : PollOf AskedSeen EndSeen). Each (IsTimed h c.next_id seed) x.1.table.attached)
      same (polls_each (IsTimed h c.next_id seed) c.requests are.each is.requests.one.in_order now))
      are

  -- what a poll says, and what is handed out by it
  abbrev times_said : Poll → Times
  times_said p id = times_of_poll id now p.0 p.1

  abbrev AreTimedBy : Poll → Type 0
  AreTimedBy p = AreTimed (and_then h (times_said p)) most seed p.1

  out_timed : (n : ℕ) (c : Client) → IsClient c → AreApart most seed → c.next_id ≤ most
      → IsSome (id_at n c.requests.numbers) → AreTimed h most seed c → (o : Option AskedSeen)
      → datum_of n c.requests ≡ o → AreTimedBy (handed_out_of now n c o)
  out_timed n c is apart_all low named are None none = absurd (no (id_at n c.requests.numbers) refl named)
    where
      no : (o : Option ℕ) → id_at n c.requests.numbers ≡ o → IsSome o → ⊥
      no None at there = cc
      no (Some k) at there =
          let found = there_by_id c.requests n k is.requests at in
          let some : datum_of n c.requests ≡ Some found.0.datum =
          ap (λ o. option_map (λ (x : Request AskedSeen). x.datum)
          (option_and_then (λ id. datum_at id c.requests.table.attached) o)) at
          ∙ ap (λ (o : Option (Request AskedSeen)). option_map (λ x. x.datum) o) found.1 in
          cc
  out_timed n c is apart_all low named are (Some a) some = by (is_late now a)
    where
      own : (k : ℕ) × (id_at n c.requests.numbers ≡ Some k)
          × IsTimed h c.next_id seed k (numbered n a)
      own = its_own h most seed c is are n a some

      sent_is : (id : ℕ)
          → sent_then own.0 id
          ≡ and_then h (times_said (sent_by now n c)) id
      sent_is id =
          ap (λ o. h id ++ cond (is_id id o) (now ∷ []) [])
          (sym own.1 ∙ ap (λ (s : _). id_at n s) (sym (numbers_changed (SentOut now) n c.requests)))

      by : (b : Bool) → AreTimedBy (cond b (given_up n a c) (sent_by now n c))
      by true =
          nothing_then h most seed _
          (timed_around h most seed c _ _ _
          (remove_each (IsTimed h c.next_id seed) c.requests are.each is.requests.one.in_order n) are)
      by false =
          timed_alike (sent_then own.0) (and_then h (times_said (sent_by now n c))) most seed
          (with_requests (changed_at (SentOut now) n c.requests) c) sent_is
          (handed_timed n own.0 a c is apart_all low some own.1 are)

  told_timed : (c : Client) → IsClient c → AreApart most seed → c.next_id ≤ most
      → AreTimed h most seed c → AreTimedBy (told now c)
  told_timed c is apart_all low are =
      by (polled now c.requests) refl (polled_client now c is)
    where
      by : (p : PollOf AskedSeen EndSeen) → polled now c.requests ≡ p → IsPolled c p
          → AreTimedBy (by_polled now (with_requests p.1 c) p.0)
      by (Of.Transmit n, r) same well =
          out_timed n (with_requests r c) well.client apart_all low well.named
          (left_timed c (Of.Transmit n, r) is same are) (datum_of n r) refl
      by (Of.Ended n end, r) same well =
          nothing_then h most seed _ (left_timed c (Of.Ended n end, r) is same are)
      by (Of.TimedOut n a, r) same well =
          nothing_then h most seed _
          (timed_around h most seed c r _ _ (left_timed c (Of.TimedOut n a, r) is same are).each are)
      by (Of.Wait until, r) same well =
          nothing_then h most seed _ (left_timed c (Of.Wait until, r) is same are)

-- ---- the next transaction ID

started_up : (c : Client) (method : ℕ) (body : Body) (options : Option Options) (now : ℕ)
    → c.next_id ≤ (started method body options now c).next_id
started_up c method body options now = by (chosen c) refl
  where
    page : (number : ℕ) → chosen c ≡ Some number → (p : Page?)
        → c.next_id ≤ (started_with c number method body options now p).next_id
    page number some (Err why) = omega arith
    page number some (Ok bytes) = let at = chosen_is_low c number some in omega (arith, at)

    by : (o : Option ℕ) → chosen c ≡ o
        → c.next_id ≤ (started_at c method body options now o).next_id
    by None some = omega arith
    by (Some number) some = page number some (first_message c method number body options)

received_up : (from : SocketAddr) (bytes : List ℕ) (now : ℕ) (c : Client) (answer : Answer)
    → UnlessMemory (λ memory. received memory from bytes now c) bytes (heard_in from bytes c) c
    answer
    → c.next_id ≤ answer.1.next_id
received_up from bytes now c answer =
    heard (λ (x : Client). c.next_id ≤ x.next_id) c now bytes (omega arith)
    (λ change n drop. omega arith) (λ end m standing. omega arith)
    (λ memory m why d s page turn. by m s turn.origin) from answer
  where
    by : (m : Met) (s : Spot) → IsOrigin c m.asked s → c.next_id ≤ s.next_id
    by m s (new_one number some id next) =
        let at = chosen_is_low c number some in omega (arith, at, next)
    by m s (earlier_one e f found rank id next) = omega (arith, next)

told_same : (now : ℕ) (c : Client) → (told now c).1.next_id ≡ c.next_id
told_same now c = by (polled now c.requests)
  where
    late : (n : ℕ) (r : All) (a : AskedSeen) (b : Bool)
        → (cond b (given_up n a (with_requests r c)) (sent_by now n (with_requests r c))).1.next_id
        ≡ c.next_id
    late n r a true = refl
    late n r a false = refl

    out : (n : ℕ) (r : All) (o : Option AskedSeen)
        → (handed_out_of now n (with_requests r c) o).1.next_id ≡ c.next_id
    out n r None = refl
    out n r (Some a) = late n r a (is_late now a)

    by : (p : PollOf AskedSeen EndSeen)
        → (by_polled now (with_requests p.1 c) p.0).1.next_id ≡ c.next_id
    by (Of.Transmit n, r) = out n r (datum_of n r)
    by (Of.Ended n end, r) = refl
    by (Of.TimedOut n a, r) = refl
    by (Of.Wait until, r) = refl

call_up : (c after : Client) (event : Event) → Call c event after → c.next_id ≤ after.next_id
call_up c after event (requests _ _ method body options now late none is) =
    subst (λ (x : Client). c.next_id ≤ x.next_id) (sym is) (started_up c method body options now)
call_up c after event (receives _ _ from bytes now answer late said is) =
    subst (λ (x : Client). c.next_id ≤ x.next_id) (sym is) (received_up from bytes now c answer said)
call_up c after event (polls _ _ now says said) =
    let same : after.next_id ≡ c.next_id =
    ap (λ (p : Poll). p.1.next_id) (sym said) ∙ told_same now c in
    omega (arith, same)
call_up c after event (ends_one _ _ number a there is) =
    subst (λ (x : Client). c.next_id ≤ x.next_id) (sym is) (omega arith)
call_up c after event (changes_nothing _) = omega arith

calls_up : (c after : Client) (events : List Event) → Calls c events after
    → c.next_id ≤ after.next_id
calls_up c after events (no_call _) = omega arith
calls_up c after events (call _ next _ event others made rest) =
    let first = call_up c next event made in
    let later = calls_up next after others rest in
    omega (arith, first, later)

-- ---- any calls

call_timed : (h : Times) (most : ℕ) (seed : List ℕ) (c after : Client) (event : Event)
    → IsClient c → AreApart most seed → after.next_id ≤ most → AreTimed h most seed c
    → (made : Call c event after)
    → AreTimed (and_then h (λ id. times_of_call id c event after made)) most seed after
call_timed h most seed c after event is apart_all low are
    (requests _ _ method body options now late none so) =
    nothing_then h most seed after
    (subst (λ (x : Client). AreTimed h most seed x) (sym so)
    (started_timed h most seed method body options now c
    (subst (λ (x : Client). x.next_id ≤ most) so low) are))
call_timed h most seed c after event is apart_all low are
    (receives _ _ from bytes now answer late said so) =
    nothing_then h most seed after
    (subst (λ (x : Client). AreTimed h most seed x) (sym so)
    (received_timed h most seed from bytes now c answer is are said
    (subst (λ (x : Client). x.next_id ≤ most) so low)))
call_timed h most seed c after event is apart_all low are (polls _ _ now says said) =
    subst (λ (p : Poll). AreTimed (and_then h (λ id. times_of_poll id now p.0 p.1)) most seed p.1)
    said
    (told_timed h most seed now c is apart_all
    (let same : after.next_id ≡ c.next_id =
    ap (λ (p : Poll). p.1.next_id) (sym said) ∙ told_same now c in
    omega (arith, same, low)) are)
call_timed h most seed c after event is apart_all low are (ends_one _ _ number a there so) =
    nothing_then h most seed after
    (subst (λ (x : Client). AreTimed h most seed x) (sym so)
    (cancelled_timed h most seed c is are number))
call_timed h most seed c after event is apart_all low are (changes_nothing _) =
    nothing_then h most seed after are

calls_timed : (h : Times) (most : ℕ) (seed : List ℕ) (c after : Client) (events : List Event)
    → IsClient c → AreApart most seed → after.next_id ≤ most → AreTimed h most seed c
    → (calls : Calls c events after)
    → AreTimed (and_then h (λ id. times_of_calls id c events after calls)) most seed after
calls_timed h most seed c after events is apart_all low are (no_call _) =
    nothing_then h most seed after are
calls_timed h most seed c after events is apart_all low are
    (call _ next _ event others made rest) =
    timed_alike
    (and_then (and_then h first) (λ id. times_of_calls id next others after rest))
    (and_then h (λ id. first id ++ times_of_calls id next others after rest)) most seed after
    (λ id. append_assoc (h id) (first id) (times_of_calls id next others after rest))
    (calls_timed (and_then h first) most seed next after others (call_is c next event is made)
    apart_all low
    (call_timed h most seed c next event is apart_all
    (let later = calls_up next after others rest in omega (arith, later, low)) are made) rest)
  where
    first : Times
    first id = times_of_call id c event next made

-- ---- the law

-- a round trip is that of a message which was handed out once
measured : (now trip : ℕ) (times : List ℕ) (before : HandedOut) → AreTimes times before
    → round_trip now before ≡ Some trip → IsOfOnePoll times now trip
measured now trip times Never are is = cc
measured now trip times (Once sent) are is =
    record { sent = sent; once = are; since = some_is trip (now - sent) (sym is) }
measured now trip times Again are is = cc

pub of_one_poll : (transport : TransportType) (server : SocketAddr)
    (counts requires_fingerprint : Bool) (identity : Identity) (form : Form)
    (understood : List AttributeType) (turns : ℕ) (plan : Settings) (seed : List ℕ) (c : Client)
    (events : List Event) (from : SocketAddr) (bytes : List ℕ) (now trip : ℕ) (m : Met)
    → (calls : Calls (new_client transport server counts requires_fingerprint identity form
    understood turns plan seed) events c)
    → AreApart c.next_id seed → heard_in from bytes c ≡ Some m
    → round_trip_of now m ≡ Some trip
    → IsOfOnePoll
    (times_of_calls (transaction_id_field bytes) (new_client transport server counts
    requires_fingerprint identity form understood turns plan seed) events c calls) now trip
of_one_poll transport server counts requires_fingerprint identity form understood turns plan seed c
    events from bytes now trip m calls apart_all found is = by m.is_current refl is
  where
    new : Client
    new =
        new_client transport server counts requires_fingerprint identity form understood turns plan
        seed

    is_new : IsClient new
    is_new =
        new_is transport server counts requires_fingerprint identity form understood turns plan seed

    times : Times
    times id = times_of_calls id new events c calls

    timed : AreTimed (and_then (λ id. []) times) c.next_id seed c
    timed =
        calls_timed (λ id. []) c.next_id seed new c events is_new apart_all (omega arith)
        (record {
          seed_is = refl;
          unused = λ n high low. refl;
          each = λ id q there. cc;
        }) calls

    so : IsMet c (transaction_id_field bytes) m
    so =
        met_is c (transaction_id_field bytes) m (stays_kept new c events is_new calls).requests
        (if_method_is bytes _ m (heard_is from bytes c m found))

    by : (b : Bool) → m.is_current ≡ b → cond b (round_trip now m.asked.handed_out) None ≡ Some trip
        → IsOfOnePoll (times (transaction_id_field bytes)) now trip
    by false current is = cc
    by true current is =
        subst (λ id. IsOfOnePoll (times id) now trip) (so.current current)
        (measured now trip (times so.stored.id) m.asked.handed_out
        (subst (λ (x : AskedSeen). AreTimes (times so.stored.id) x.handed_out) so.stored.datum
        (timed.each so.stored.id so.stored.q so.stored.there).times) is)
