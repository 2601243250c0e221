-- That a request has ended as unauthorized is stored by a 401 to its signed message alone.
use Rattle.std.proofs.Common.{◌≡◌, ◌∙◌, ◌⊎◌, ◌≤◌, inl, inr, ℕ, Bool, true, false, List, [], ◌∷◌}
use Rattle.std.proofs.Common.{length, Option, Some, None, ap, cond, refl, subst, sym}
use Rattle.std.specs.BTreeMap.{insert_entry, is_at}
use Rattle.std.specs.List.Sorted.{IsStrictlySortedBy}
use Rattle.std.specs.Map.{keys_of, remove_entry}
use Rattle.std.specs.Option.{IsSome, is_some, option_and_then, option_map, option_map_or}
use Rattle.std.specs.Ordering.{nat_cmp}
use Rattle.std.specs.Prelude.{◌==◌, ◌&&◌}
use Rattle.std.specs.declared.net.socket_addr.SocketAddr.{SocketAddr}
use Rattle.std.proofs.lemmas.Bool.{eqb-true}
use Rattle.stun_base.specs.MessageType.{class_in}
use Rattle.stun_base.specs.Moments.{last_moment}
use Rattle.stun_base.specs.declared.keys.algorithm.IntegrityAlgorithm.{IntegrityAlgorithm}
use Rattle.stun_base.specs.declared.wire.error.StunParseError.{StunParseError}
use Rattle.stun_base.specs.declared.wire.message_type.MessageClass.{MessageClass}
use Rattle.stun_base.specs.declared.wire.message_type.MessageClass.TheVariants as Classes
use Rattle.stun_types.specs.Message.{refusal}
use Rattle.stun_agent.specs.Tables.{after_answer, after_cancel, after_sending, after_transmission}
use Rattle.stun_agent.specs.Tables.{with_other_datum}
use Rattle.stun_agent.specs.Timing.{Settings}
use Rattle.stun_extra.specs.CanonicalAddress.{is_same_address}
use Rattle.stun_judging.specs.Reading.{UNAUTHORIZED, is_code}
use Rattle.stun_client.specs.Challenges.{Answered}
use Rattle.stun_client.specs.Challenging.{code_in}
use Rattle.stun_client.specs.Ids.{id_of}
use Rattle.stun_client.specs.Outcomes.{outcome_of}
use Rattle.stun_client_endpoint.specs.Bodies.{Body}
use Rattle.stun_client_endpoint.specs.declared.ended.RequestEnd.{RequestEnd}
use Rattle.stun_client_endpoint.specs.declared.ended.RequestEnd.TheVariants as how
use Rattle.stun_client_endpoint.specs.declared.told.Received.TheVariants.{Indication, NotOurs}
use Rattle.stun_client_requests.specs.Numbers.{AllKnown, after_end, after_mark, after_removal}
use Rattle.stun_client_requests.specs.Numbers.{after_rename, end_in, end_of_first, first_ended}
use Rattle.stun_client_requests.specs.Numbers.{first_unsent, id_at, known_at}
use Rattle.stun_client_requests.specs.Requests.{Answering, Poll as PollOf, after_again}
use Rattle.stun_client_requests.specs.Requests.{after_answering, after_canceling, after_removing}
use Rattle.stun_client_requests.specs.Requests.{after_replacing, datum_of, ends_or, over, over_or}
use Rattle.stun_client_requests.specs.Requests.{polled, repeated, repeats_or, unsent_or}
use Rattle.stun_client_requests.specs.declared.numbers.Known.{Known}
use Rattle.stun_client_requests.specs.declared.numbers.Known.TheVariants as Numbers
use Rattle.stun_client_requests.specs.declared.requests.Polled.{Polled}
use Rattle.stun_client_requests.specs.declared.requests.Polled.TheVariants as Of
use Rattle.stun_client_requests.specs.declared.requests.Request.{Request}
use Rattle.stun_client_requests.proofs.NumberLemmas.{own_key, same_key}
use Rattle.stun_client_requests.proofs.RequestLemmas.{at_insert, at_remove}
use Rattle.stun_client_calls.specs.Clients.{Client, Poll, Told, by_polled, cancelled, changed}
use Rattle.stun_client_calls.specs.Clients.{changed_at, ends, given_up, handed_out_of}
use Rattle.stun_client_calls.specs.Clients.{refusal_to_start, sent_by, started, started_by, told}
use Rattle.stun_client_calls.specs.Clients.{transmit, waits, with_requests}
use Rattle.stun_client_calls.specs.Deciding.{DecisionSeen, answered, challenged_out, drops}
use Rattle.stun_client_calls.specs.Deciding.{refuses, turns}
use Rattle.stun_client_calls.specs.Endpoints.{EndSeen, bare_end}
use Rattle.stun_client_calls.specs.Laws.{IsAnswerOrDrop, decision_on}
use Rattle.stun_client_calls.specs.Messages.{AskedSeen, is_late}
use Rattle.stun_client_calls.specs.Options.{Options}
use Rattle.stun_client_calls.specs.Receiving.{Answer, Memory, Met, UnlessMemory, as_expected}
use Rattle.stun_client_calls.specs.Receiving.{by_class, by_decision, by_met, decision_for}
use Rattle.stun_client_calls.specs.Receiving.{end_after, forgone, heard_in, judge_for, moment_of}
use Rattle.stun_client_calls.specs.Receiving.{received, round_trip_of}
use Rattle.stun_client_calls.specs.Runs.{Call, Calls, Event, call, changes_nothing, ends_one}
use Rattle.stun_client_calls.specs.Runs.{next_number, no_call, polls, receives, requests}
use Rattle.stun_client_calls.specs.declared.asked.Change.{Change}
use Rattle.stun_client_calls.specs.declared.asked.Change.TheVariants.{SentOut}
use Rattle.stun_client_calls.proofs.DecidingLemmas.{earlier_answers_or_drops}
use Rattle.stun_client_calls.proofs.ReceivingLemmas.{heard_is, met_is_stored}
use Rattle.stun_client_runs.specs.Kept.{IsClient, StaysAClient}
use Rattle.stun_client_runs.proofs.PollLemmas.{polled_client}
use Rattle.stun_client_plans.specs.Ends.{IsRefusal, IsRefusedIn, RefusesBy}
use Rattle.stun_client_plans.proofs.CallLemmas.{forgone_so, goes_on_so, started_is}
use Rattle.stun_client_plans.proofs.HoldLemmas.{All}
use Rattle.stun_client_plans.proofs.PlanLemmas.{stays_one}

-- ---- the ends that are stored after a change

abbrev Stored : Type 0
Stored = Known EndSeen

-- the end of a request is stored
abbrev HasEnd : ℕ → All → EndSeen → Type 0
HasEnd n r end = known_at n r.numbers.known ≡ Some (Numbers.Ended end)

-- each end of a request was stored before, or this holds of it
abbrev Adds : (EndSeen → Type 0) → ℕ → All → All → Type 0
Adds A n r after = (end : EndSeen) → HasEnd n after end → HasEnd n r end ⊎ A end

stored_in : (x y : Stored) → Some x ≡ Some y → x ≡ y
stored_in x y e = cc

ended_in : (x y : EndSeen) → ◌≡◌ {A = Stored} (Numbers.Ended x) (Numbers.Ended y) → x ≡ y
ended_in x y e = cc

put_end : (n k : ℕ) (v : Stored) (known : AllKnown EndSeen) (end : EndSeen)
    → known_at n (insert_entry nat_cmp known k v) ≡ Some (Numbers.Ended end)
    → (known_at n known ≡ Some (Numbers.Ended end)) ⊎ ((k ≡ n) × (v ≡ Numbers.Ended end))
put_end n k v known end there =
    by (is_at (nat_cmp k) n) refl (sym (at_insert k v known n) ∙ there)
  where
    by : (b : Bool) → is_at (nat_cmp k) n ≡ b
        → cond b (Some v) (known_at n known) ≡ Some (Numbers.Ended end)
        → (known_at n known ≡ Some (Numbers.Ended end)) ⊎ ((k ≡ n) × (v ≡ Numbers.Ended end))
    by true is same = inr (sym (same_key k n is), stored_in v (Numbers.Ended end) same)
    by false is same = inl same

cut_end : (n k : ℕ) (known : AllKnown EndSeen) (end : EndSeen)
    → IsStrictlySortedBy nat_cmp (keys_of known)
    → known_at n (remove_entry (is_at (nat_cmp k)) known) ≡ Some (Numbers.Ended end)
    → known_at n known ≡ Some (Numbers.Ended end)
cut_end n k known end sorted there =
    by (is_at (nat_cmp k) n) (sym (at_remove k known sorted n) ∙ there)
  where
    by : (b : Bool) → cond b None (known_at n known) ≡ Some (Numbers.Ended end)
        → known_at n known ≡ Some (Numbers.Ended end)
    by true same = cc
    by false same = same

adds_then : (A : EndSeen → Type 0) (n : ℕ) (r s t : All) → Adds A n r s → Adds A n s t
    → Adds A n r t
adds_then A n r s t one other end there =
    elim (other end there) [ inl before ↦ one end before | inr own ↦ inr own ]

replaced_end : (A : EndSeen → Type 0) (n m : ℕ) (b : AskedSeen) (r : All)
    → Adds A n r (after_replacing m b r)
replaced_end A n m b r = by (id_at m r.numbers)
  where
    by : (o : Option ℕ) → Adds A n r (option_map_or (λ id. record r {
      table = with_other_datum id (record { number = m; datum = b }) r.table;
    }) o r)
    by None end there = inl there
    by (Some id) end there = inl there

changed_end : (A : EndSeen → Type 0) (n m : ℕ) (change : Change) (r : All)
    → Adds A n r (changed_at change m r)
changed_end A n m change r = by (datum_of m r)
  where
    by : (o : Option AskedSeen)
        → Adds A n r (option_map_or (λ a. after_replacing m (changed change a) r) o r)
    by None end there = inl there
    by (Some a) end there = replaced_end A n m (changed change a) r end there

answered_end : (n m count : ℕ) (moment : Option ℕ) (given : EndSeen) (r : All)
    → Adds (λ end. (m ≡ n) × (given ≡ end)) n r (after_answering m count moment given r)
answered_end n m count moment given r = by (id_at m r.numbers)
  where
    by : (o : Option ℕ)
        → Adds (λ end. (m ≡ n) × (given ≡ end)) n r (option_map_or (λ id. record r {
          table = after_answer id count moment r.table;
          numbers = after_end m given r.numbers;
        }) o r)
    by None end there = inl there
    by (Some id) end there =
        elim (put_end n m (Numbers.Ended given) r.numbers.known end there) [
          | inl before ↦ inl before
          | inr own ↦ inr (own.0, ended_in given end own.1)
        ]

canceled_end : (n m : ℕ) (given : EndSeen) (r : All)
    → Adds (λ end. given ≡ end) n r (after_canceling m given r)
canceled_end n m given r = by (id_at m r.numbers)
  where
    by : (o : Option ℕ) → Adds (λ end. given ≡ end) n r (option_map_or (λ id. record r {
      table = after_cancel id r.table;
      numbers = after_end m given r.numbers;
    }) o r)
    by None end there = inl there
    by (Some id) end there =
        elim (put_end n m (Numbers.Ended given) r.numbers.known end there) [
          | inl before ↦ inl before
          | inr own ↦ inr (ended_in given end own.1)
        ]

again_end : (A : EndSeen → Type 0) (n m id now : ℕ) (empty : AskedSeen) (x : Answering)
    (bytes : List ℕ) (plan : Settings) (r : All)
    → Adds A n r (after_again m x id bytes plan empty now r)
again_end A n m id now empty x bytes plan r = by (id_at m r.numbers)
  where
    by : (o : Option ℕ) → Adds A n r (option_map_or (λ former. record r {
      table = after_answer former x.count x.moment
          (after_sending id bytes plan (record { number = m; datum = empty }) now r.table);
      numbers = after_rename m id (after_mark m r.numbers);
    }) o r)
    by None end there = inl there
    by (Some former) end there =
        elim (put_end n m (Numbers.Outstanding id) r.numbers.known end there) [
          | inl before ↦ inl before
          | inr own ↦ let no = own.1 in cc
        ]

removed_end : (n m : ℕ) (r : All) (end : EndSeen)
    → IsStrictlySortedBy nat_cmp (keys_of r.numbers.known) → HasEnd n (after_removing m r) end
    → HasEnd n r end
removed_end n m r end sorted = by (id_at m r.numbers)
  where
    by : (o : Option ℕ) → HasEnd n (option_map_or (λ id. record r {
      table = after_cancel id r.table;
      numbers = after_removal m r.numbers;
    }) o r) end
        → HasEnd n r end
    by None there = there
    by (Some id) there = cut_end n m r.numbers.known end sorted there

-- ---- polls

abbrev sent_again : ℕ → All → All
sent_again now r = record r { table = after_transmission now r.table }

polled_end : (n now : ℕ) (r : All) (end : EndSeen)
    → IsStrictlySortedBy nat_cmp (keys_of r.numbers.known) → HasEnd n (polled now r).1 end
    → HasEnd n r end
unfolding polled
polled_end n now r end sorted = unsent (first_unsent r.numbers)
  where
    times : (o : Option (Request AskedSeen)) → HasEnd n (over_or now (sent_again now r) o).1 end
        → HasEnd n r end
    times None there = there
    times (Some q) there = cut_end n q.number r.numbers.known end sorted there

    first : (o : Option ℕ)
        → known_at n (option_map_or (λ number. remove_entry (is_at (nat_cmp number)) r.numbers.known)
        o r.numbers.known) ≡ Some (Numbers.Ended end)
        → HasEnd n r end
    first None there = there
    first (Some k) there = cut_end n k r.numbers.known end sorted there

    ended : (o : Option (ℕ × EndSeen)) → HasEnd n (ends_or now (sent_again now r) o).1 end
        → HasEnd n r end
    ended None there = times (over now (sent_again now r).table) there
    ended (Some p) there = first (first_ended r.numbers) there

    again : (o : Option ℕ) → HasEnd n (repeats_or now (sent_again now r) o).1 end
        → HasEnd n r end
    again (Some k) there = there
    again None there = ended (end_of_first r.numbers) there

    unsent : (o : Option ℕ) → HasEnd n (unsent_or now r o).1 end → HasEnd n r end
    unsent (Some k) there = there
    unsent None there = again (repeated now r.table) there

told_end : (n now : ℕ) (c : Client) (end : EndSeen) → IsClient c
    → HasEnd n (told now c).1.requests end → HasEnd n c.requests end
told_end n now c end is there =
    polled_end n now c.requests end is.requests.ascending
    (by (polled now c.requests) (polled_client now c is).client.requests.ascending there)
  where
    handed : (m : ℕ) (x : All) (o : Option AskedSeen)
        → IsStrictlySortedBy nat_cmp (keys_of x.numbers.known)
        → HasEnd n (handed_out_of now m (with_requests x c) o).1.requests end
        → HasEnd n x end
    handed m x None sorted there = there
    handed m x (Some a) sorted there = late (is_late now a) there
      where
        late : (b : Bool)
            → HasEnd n (cond b (given_up m a (with_requests x c))
            (sent_by now m (with_requests x c))).1.requests end
            → HasEnd n x end
        late true there = removed_end n m x end sorted there
        late false there =
            elim (changed_end (λ end. ⊥) n m (SentOut now) x end there) [
              | inl before ↦ before
              | inr none ↦ absurd none
            ]

    by : (p : PollOf AskedSeen EndSeen)
        → IsStrictlySortedBy nat_cmp (keys_of p.1.numbers.known)
        → HasEnd n (by_polled now (with_requests p.1 c) p.0).1.requests end
        → HasEnd n p.1 end
    by (Of.Transmit m, x) sorted there = handed m x (datum_of m x) sorted there
    by (Of.Ended m e, x) sorted there = there
    by (Of.TimedOut m a, x) sorted there = there
    by (Of.Wait until, x) sorted there = there

abbrev Says : Type 0
Says = Polled AskedSeen EndSeen

-- an end that a poll returns was stored
first_has : (r : All) (p : ℕ × EndSeen) → end_of_first r.numbers ≡ Some p → HasEnd p.0 r p.1
first_has r p is = by (first_ended r.numbers) is
  where
    at : (k : ℕ) (o : Option Stored) → known_at k r.numbers.known ≡ o
        → option_map (λ end. (k, end)) (option_and_then end_in o) ≡ Some p
        → HasEnd p.0 r p.1
    at k None there is = cc
    at k (Some (Numbers.Outstanding id)) there is = cc
    at k (Some (Numbers.Ended end)) there is =
        let same : (k, end) ≡ p = cc in
        subst (λ (q : ℕ × EndSeen). HasEnd q.0 r q.1) same there

    by : (o : Option ℕ)
        → option_and_then
        (λ k. option_map (λ end. (k, end)) (option_and_then end_in (known_at k r.numbers.known))) o
        ≡ Some p
        → HasEnd p.0 r p.1
    by None is = cc
    by (Some k) is = at k (known_at k r.numbers.known) refl is

polled_has : (now m : ℕ) (r : All) (e : EndSeen) → (polled now r).0 ≡ Of.Ended m e → HasEnd m r e
unfolding polled
polled_has now m r e = unsent (first_unsent r.numbers)
  where
    times : (o : Option (Request AskedSeen))
        → ◌≡◌ {A = Says} (over_or now (sent_again now r) o).0 (Of.Ended m e) → HasEnd m r e
    times None is = cc
    times (Some q) is = cc

    ended : (o : Option (ℕ × EndSeen)) → end_of_first r.numbers ≡ o
        → ◌≡◌ {A = Says} (ends_or now (sent_again now r) o).0 (Of.Ended m e) → HasEnd m r e
    ended None first is = times (over now (sent_again now r).table) is
    ended (Some p) first is =
        let number : p.0 ≡ m = cc in
        let end : p.1 ≡ e = cc in
        subst (λ k. HasEnd k r e) number
        (subst (λ (x : EndSeen). HasEnd p.0 r x) end (first_has r p first))

    again : (o : Option ℕ)
        → ◌≡◌ {A = Says} (repeats_or now (sent_again now r) o).0 (Of.Ended m e) → HasEnd m r e
    again (Some k) is = cc
    again None is = ended (end_of_first r.numbers) refl is

    unsent : (o : Option ℕ) → ◌≡◌ {A = Says} (unsent_or now r o).0 (Of.Ended m e) → HasEnd m r e
    unsent (Some k) is = cc
    unsent None is = again (repeated now r.table) is

number_in : (a b : ℕ) (y z : EndSeen) → ◌≡◌ {A = Told} (ends a y) (ends b z) → a ≡ b
number_in a b y z e = cc

end_in_told : (a b : ℕ) (y z : EndSeen) → ◌≡◌ {A = Told} (ends a y) (ends b z) → y ≡ z
end_in_told a b y z e = cc

-- a poll that returns the end of a request as unauthorized found it stored
module _ (n now : ℕ) (c last : Client) (end : EndSeen) (so : end.end ≡ how.Unauthorized) where
  not_timed : (m : ℕ) (a : AskedSeen) (x : Client)
      → ◌≡◌ {A = Poll} (ends m (bare_end (how.TimedOut a.drops)), x) (ends n end, last)
      → HasEnd n c.requests end
  not_timed m a x said =
      let same : bare_end (how.TimedOut a.drops) ≡ end =
      end_in_told m n (bare_end (how.TimedOut a.drops)) end (ap (λ (p : Poll). p.0) said) in
      let no : how.TimedOut a.drops ≡ how.Unauthorized =
      ap (λ (e : EndSeen). e.end) same ∙ so in
      cc

  handed_none : (m : ℕ) (x : All) (o : Option AskedSeen)
      → handed_out_of now m (with_requests x c) o ≡ (ends n end, last)
      → HasEnd n c.requests end
  handed_none m x None said = let no = ap (λ (p : Poll). p.0) said in cc
  handed_none m x (Some a) said = late (is_late now a) said
    where
      late : (b : Bool)
          → cond b (given_up m a (with_requests x c)) (sent_by now m (with_requests x c))
          ≡ (ends n end, last)
          → HasEnd n c.requests end
      late true said = not_timed m a (given_up m a (with_requests x c)).1 said
      late false said = let no = ap (λ (p : Poll). p.0) said in cc

  said_has : told now c ≡ (ends n end, last) → HasEnd n c.requests end
  said_has = by (polled now c.requests) refl
    where
      by : (p : PollOf AskedSeen EndSeen) → polled now c.requests ≡ p
          → by_polled now (with_requests p.1 c) p.0 ≡ (ends n end, last)
          → HasEnd n c.requests end
      by (Of.Transmit m, x) same said = handed_none m x (datum_of m x) said
      by (Of.Ended m e, x) same said =
          let its = ap (λ (p : Poll). p.0) said in
          let has = polled_has now m c.requests e
          (ap (λ (p : PollOf AskedSeen EndSeen). p.0) same) in
          subst (λ k. HasEnd k c.requests end) (number_in m n e end its)
          (subst (λ (y : EndSeen). HasEnd m c.requests y) (end_in_told m n e end its) has)
      by (Of.TimedOut m a, x) same said =
          not_timed m a (by_polled now (with_requests x c) (Of.TimedOut m a)).1 said
      by (Of.Wait until, x) same said = let no = ap (λ (p : Poll). p.0) said in cc

-- ---- datagrams

both_hold : (a b : Bool) → (a && b) ≡ true → (a ≡ true) × (b ≡ true)
both_hold true true is = (refl, refl)
both_hold true false is = cc
both_hold false b is = cc

some_of : (o : Option Answered) → is_some o ≡ true → IsSome o
some_of None is = cc
some_of (Some x) is = refl

code_of : (o : Option ℕ) → is_code UNAUTHORIZED o ≡ true → o ≡ Some UNAUTHORIZED
code_of None is = cc
code_of (Some other) is = ap (λ (k : ℕ). Some k) (eqb-true other UNAUTHORIZED is)

chosen_end : (b : Bool) → cond b how.Unauthorized how.TooManyChallenges ≡ how.Unauthorized
    → b ≡ true
chosen_end true is = refl
chosen_end false is = cc

module _ (n : ℕ) (c : Client) (from : SocketAddr) (bytes : List ℕ) (now : ℕ) where
  abbrev Refused : EndSeen → Type 0
  Refused end = end.end ≡ how.Unauthorized → IsRefusal n c from bytes

  abbrev Leaves : All → Type 0
  Leaves r = Adds Refused n c.requests r

  itself : Leaves c.requests
  itself end there = inl there

  noted : (m : ℕ) (a b : AskedSeen) → datum_of m c.requests ≡ Some a → b.until ≡ a.until
      → Leaves (after_replacing m b c.requests)
  noted m a b there until = replaced_end Refused n m b c.requests

  sent : (m id now : ℕ) (a b empty : AskedSeen) (x : Answering) (bytes : List ℕ)
      (plan : Settings) → datum_of m c.requests ≡ Some a
      → Leaves (after_replacing m b (after_again m x id bytes plan empty now c.requests))
  sent m id now a b empty x bytes plan there =
      adds_then Refused n c.requests (after_again m x id bytes plan empty now c.requests)
      (after_replacing m b (after_again m x id bytes plan empty now c.requests))
      (again_end Refused n m id now empty x bytes plan c.requests)
      (replaced_end Refused n m b (after_again m x id bytes plan empty now c.requests))

  module _ (memory : Memory) (m : Met) (is_read : refusal bytes ≡ None)
      (answers : heard_in from bytes c ≡ Some m) where
    there : datum_of m.number c.requests ≡ Some m.asked
    there = met_is_stored bytes c m m.number (heard_is from bytes c m answers) refl

    -- only a challenge to the current message ends the request so
    is_current : (b : Bool) → m.is_current ≡ b → decision_for c now bytes m ≡ challenged_out
        → m.is_current ≡ true
    is_current true so is = so
    is_current false so is =
        absurd (subst IsAnswerOrDrop
        (ap (λ b. decision_on (judge_for c m.asked) b now m.asked m.signed_for bytes) (sym so) ∙ is)
        (earlier_answers_or_drops (judge_for c m.asked) now m.asked m.signed_for bytes))

    refuses_it : (end : EndSeen) → m.number ≡ n → decision_for c now bytes m ≡ challenged_out
        → bare_end (end_after m.asked.signed_for bytes) ≡ end → Refused end
    refuses_it end named is same so =
        let holds = both_hold (is_some m.asked.signed_for) (is_code UNAUTHORIZED (code_in bytes))
        (chosen_end (is_some m.asked.signed_for && is_code UNAUTHORIZED (code_in bytes))
        (ap (λ (e : EndSeen). e.end) same ∙ so)) in
        record {
          message = m;
          is_read = is_read;
          answers = answers;
          of_request = named;
          current = is_current m.is_current refl is;
          signed = some_of m.asked.signed_for holds.0;
          code = code_of (code_in bytes) holds.1;
        }

    by_its : (d : DecisionSeen) → decision_for c now bytes m ≡ d
        → Leaves (by_decision memory c now bytes m d).1.requests
    by_its (answered by) is end left =
        elim (answered_end n m.number (length bytes) (moment_of now m) (record {
          end = how.Answered (outcome_of c.understood bytes) by;
          response = bytes;
          round_trip = round_trip_of now m;
        }) c.requests end left) [
          | inl before ↦ inl before
          | inr own ↦ inr (λ so.
              let no : how.Answered (outcome_of c.understood bytes) by ≡ how.Unauthorized =
              ap (λ (e : EndSeen). e.end) own.1 ∙ so in
              cc)
        ]
    by_its challenged_out is end left =
        elim (answered_end n m.number (length bytes) (moment_of now m)
        (bare_end (end_after m.asked.signed_for bytes)) c.requests end left) [
          | inl before ↦ inl before
          | inr own ↦ inr (refuses_it end own.0 is own.1)
        ]
    by_its (turns why place d) is end left =
        goes_on_so c Leaves itself noted sent memory now bytes m there (turns why place d) tt end
        left
    by_its refuses is end left =
        goes_on_so c Leaves itself noted sent memory now bytes m there refuses tt end left
    by_its (drops why) is end left =
        goes_on_so c Leaves itself noted sent memory now bytes m there (drops why) tt end left

  met_leaves : (memory : Memory) → refusal bytes ≡ None → (o : Option Met)
      → heard_in from bytes c ≡ o → Leaves (by_met memory c now bytes o).1.requests
  met_leaves memory is_read None answers = itself
  met_leaves memory is_read (Some m) answers =
      by_its memory m is_read answers (decision_for c now bytes m) refl

  class_leaves : (memory : Memory) → refusal bytes ≡ None → (class : MessageClass)
      → Leaves (by_class memory from c now bytes class).1.requests
  class_leaves memory is_read Classes.Request = itself
  class_leaves memory is_read Classes.Indication = by (is_same_address from c.server)
    where
      by : (b : Bool) → Leaves (cond {A = Answer} b (Indication bytes, c) (NotOurs, c)).1.requests
      by true = itself
      by false = itself
  class_leaves memory is_read Classes.Success =
      met_leaves memory is_read (heard_in from bytes c) refl
  class_leaves memory is_read Classes.Error =
      met_leaves memory is_read (heard_in from bytes c) refl

  received_leaves : (memory : Memory) → Leaves (received memory from bytes now c).1.requests
  received_leaves memory = by (refusal bytes) refl
    where
      by : (o : Option StunParseError) → refusal bytes ≡ o
          → Leaves (cond (is_some o) (NotOurs, c)
          (by_class memory from c now bytes (class_in bytes))).1.requests
      by None is = class_leaves memory is (class_in bytes)
      by (Some why) is = itself

  receives_leaves : (given : Answer)
      → UnlessMemory (λ memory. received memory from bytes now c) bytes (heard_in from bytes c) c
      given
      → Leaves given.1.requests
  receives_leaves given (as_expected memory is) =
      subst (λ (x : Answer). Leaves x.1.requests) (sym is) (received_leaves memory)
  receives_leaves given (forgone is) =
      subst (λ (x : Answer). Leaves x.1.requests) (sym is)
      (forgone_so c Leaves itself noted sent bytes (heard_in from bytes c))

-- ---- calls

started_has : (n method : ℕ) (body : Body) (options : Option Options) (now : ℕ) (c : Client)
    (end : EndSeen) → refusal_to_start c method body options ≡ None
    → HasEnd n (started method body options now c).requests end
    → (HasEnd n c.requests end) × (c.requests.next ≡ n → ⊥)
started_has n method body options now c end none there =
    let it = started_is c method body options none in
    by it.number
    (subst (λ (x : Client). HasEnd n x.requests end) (it.is_so now) there)
  where
    by : (number : ℕ)
        → known_at n
        (insert_entry nat_cmp c.requests.numbers.known c.requests.next
        (Numbers.Outstanding (id_of c.seed number))) ≡ Some (Numbers.Ended end)
        → (HasEnd n c.requests end) × (c.requests.next ≡ n → ⊥)
    by number left = at (is_at (nat_cmp c.requests.next) n) refl
        (sym (at_insert c.requests.next (Numbers.Outstanding (id_of c.seed number))
        c.requests.numbers.known n) ∙ left)
      where
        at : (b : Bool) → is_at (nat_cmp c.requests.next) n ≡ b
            → cond b (Some (Numbers.Outstanding (id_of c.seed number)))
            (known_at n c.requests.numbers.known) ≡ Some (Numbers.Ended end)
            → (HasEnd n c.requests end) × (c.requests.next ≡ n → ⊥)
        at true is same = cc
        at false is same = (
          same,
          λ named.
              let hit : is_at (nat_cmp c.requests.next) n ≡ true =
              subst (λ k. is_at (nat_cmp c.requests.next) k ≡ true) named (own_key c.requests.next) in
              let no : true ≡ false = sym hit ∙ is in
              cc,
        )

module _ (stays : StaysAClient) (n : ℕ) (end : EndSeen) (so : end.end ≡ how.Unauthorized) where
  call_has : (c after : Client) (event : Event) → IsClient c → (made : Call c event after)
      → HasEnd n after.requests end → HasEnd n c.requests end ⊎ RefusesBy n c event after made
  call_has c after event is (requests _ _ method body options now low none same) there =
      inl (started_has n method body options now c end none
      (subst (λ (x : Client). HasEnd n x.requests end) same there)).0
  call_has c after event is (receives _ _ from bytes now given low made same) there =
      elim (receives_leaves n c from bytes now given made end
      (subst (λ (x : Client). HasEnd n x.requests end) same there)) [
        | inl before ↦ inl before
        | inr own ↦ inr (own so)
      ]
  call_has c after event is (polls _ _ now says said) there =
      inl (told_end n now c end is
      (subst (λ (p : Poll). HasEnd n p.1.requests end) (sym said) there))
  call_has c after event is (ends_one _ _ number a stored same) there =
      elim (canceled_end n number (bare_end how.Cancelled) c.requests end
      (subst (λ (x : Client). HasEnd n x.requests end) same there)) [
        | inl before ↦ inl before
        | inr own ↦
            let no : how.Cancelled ≡ how.Unauthorized = ap (λ (e : EndSeen). e.end) own ∙ so in
            cc
      ]
  call_has c after event is (changes_nothing _) there = inl there

  calls_have : (c after : Client) (events : List Event) → IsClient c
      → (calls : Calls c events after) → HasEnd n after.requests end
      → HasEnd n c.requests end ⊎ IsRefusedIn n c events after calls
  calls_have c after events is (no_call _) there = inl there
  calls_have c after events is (call _ next _ event others made rest) there =
      elim (calls_have next after others (stays_one stays c next event is made) rest there) [
        | inl has ↦
            elim (call_has c next event is made has) [
              | inl before ↦ inl before
              | inr own ↦ inr (inl own)
            ]
        | inr later ↦ inr (inr later)
      ]

pub only_by_refusal : StaysAClient → (c later last : Client) (between : List Event)
    (method : ℕ) (body : Body) (options : Option Options) (start now : ℕ) (end : EndSeen)
    → IsClient c → start ≤ last_moment → refusal_to_start c method body options ≡ None
    → (calls : Calls (started method body options start c) between later)
    → told now later ≡ (ends (next_number c) end, last) → end.end ≡ how.Unauthorized
    → IsRefusedIn (next_number c) (started method body options start c) between later calls
only_by_refusal stays c later last between method body options start now end is low none calls said
    so =
    let first = started method body options start c in
    let n = next_number c in
    let first_is : IsClient first =
    stays_one stays c first _ is
    (requests c first method body options start low none refl) in
    elim (calls_have stays n end so first later between first_is calls
    (said_has n now later last end so said)) [
      | inl has ↦ absurd ((started_has n method body options start c end none has).1 refl)
      | inr refused ↦ refused
    ]
