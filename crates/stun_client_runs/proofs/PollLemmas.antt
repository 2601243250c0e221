-- A client stays in order over each poll, and what the poll names is there.
use Rattle.std.proofs.Common.{◌≡◌, ◌∙◌, ℕ, Bool, true, false, List, [], ◌∷◌, Option, Some, None}
use Rattle.std.proofs.Common.{ap, cond, inl, inr, refl, subst, sym}
use Rattle.std.specs.BTreeMap.{insert_entry, is_at}
use Rattle.std.specs.List.Sorted.{IsStrictlySortedBy}
use Rattle.std.specs.Map.{remove_entry}
use Rattle.std.specs.Option.{IsSome, is_some, option_and_then, option_map, option_map_or}
use Rattle.std.specs.Ordering.{nat_cmp}
use Rattle.std.specs.Prelude.{◌||◌, ⊤}
use Rattle.std.specs.Set.{remove_key}
use Rattle.std.proofs.lemmas.Map.Keys.{sorted_tail}
use Rattle.stun_agent.specs.Agent.{tally_of_end}
use Rattle.stun_agent.specs.Statistics.{Tally, request_cancelled, response_received}
use Rattle.stun_agent.specs.Tables.{after_end as after_end_in}
use Rattle.stun_agent.specs.Tables.{after_answer, after_cancel, after_transmission, counted}
use Rattle.stun_agent.specs.Tables.{datum_at, over_in, sent_in, with_other_datum, without_datum}
use Rattle.stun_agent.specs.Tables.{without_request}
use Rattle.stun_agent.specs.Transactions.{Transaction, at as transaction_at, round_trip}
use Rattle.stun_agent.proofs.Ascending.{IsAscending-insert, IsAscending-remove}
use Rattle.stun_client_requests.specs.Laws.{IsRequests}
use Rattle.stun_client_requests.specs.Numbers.{AllKnown, IsAt, NumbersSeen, after_end}
use Rattle.stun_client_requests.specs.Numbers.{after_removal, end_of_first, first_in, first_unsent}
use Rattle.stun_client_requests.specs.Numbers.{id_at, id_in, known_at, others_in, without_first}
use Rattle.stun_client_requests.specs.Numbers.{without_first_unsent}
use Rattle.stun_client_requests.specs.Requests.{Poll as PollOf, after_answering, after_canceling}
use Rattle.stun_client_requests.specs.Requests.{after_removing, after_replacing}
use Rattle.stun_client_requests.specs.Requests.{datum_of, ends_or}
use Rattle.stun_client_requests.specs.Requests.{number_at, over, over_or, polled, repeated}
use Rattle.stun_client_requests.specs.Requests.{repeats_or, unsent_or}
use Rattle.stun_client_requests.specs.declared.numbers.Known.{Known}
use Rattle.stun_client_requests.specs.declared.numbers.Known.TheVariants.{Ended}
use Rattle.stun_client_requests.specs.declared.requests.Polled.{Polled as OfRequests}
use Rattle.stun_client_requests.specs.declared.requests.Polled.TheVariants as Of
use Rattle.stun_client_requests.specs.declared.requests.Request.{Request}
use Rattle.stun_client_requests.proofs.IndexLemmas.{without_some}
use Rattle.stun_client_requests.proofs.LawLemmas.{IsFirstEnd, first_end, has}
use Rattle.stun_client_requests.proofs.NumberLemmas.{Ascend, own_key}
use Rattle.stun_client_requests.proofs.RequestLemmas.{at_insert, at_remove, attached_over}
use Rattle.stun_client_requests.proofs.RequestLemmas.{attached_sent}
use Rattle.stun_client_requests.proofs.RequestLemmas.{former_datum, ids_changed}
use Rattle.stun_client_requests.proofs.RequestLemmas.{one_handed_out}
use Rattle.stun_client_calls.specs.Clients.{Client, by_polled, changed, changed_at, given_up}
use Rattle.stun_client_calls.specs.Clients.{handed_out_of, sent_by, told, with_requests}
use Rattle.stun_client_calls.specs.Endpoints.{EndSeen, without_all}
use Rattle.stun_client_calls.specs.Messages.{AskedSeen, is_late, stepped_back}
use Rattle.stun_client_calls.specs.declared.asked.Change.{Change}
use Rattle.stun_client_calls.specs.declared.asked.Change.TheVariants.{Noted, Refused, SentOut}
use Rattle.stun_client_calls.proofs.EachLemmas.{Each, Stored, polls_each, remove_each, replace_each}
use Rattle.stun_client_calls.proofs.TurnLemmas.{All, some_is}
use Rattle.stun_client_runs.specs.Kept.{IsClient}
use Rattle.stun_client_runs.specs.Noted.{AreNoted, NotesMessages}
use Rattle.stun_client_runs.proofs.ChangeLemmas.{HasSameMessages, IsThere, id_is, other_client}
use Rattle.stun_client_runs.proofs.ChangeLemmas.{out_client, replaced_client, sent_client}
use Rattle.stun_client_runs.proofs.ChangeLemmas.{there_by_datum, there_by_id}
use Rattle.stun_client_runs.proofs.EachLemmas.{IsAfter, Was, after_around, after_none, after_then}
use Rattle.stun_client_runs.proofs.EachLemmas.{after_with, was_same, was_there}
use Rattle.stun_client_runs.proofs.NotedLemmas.{noted_out, noted_set}
use Rattle.stun_client_runs.proofs.EntryLemmas.{among, at_split}

-- ---- changes of what is stored of a request

same_messages : (change : Change) (a : AskedSeen) → HasSameMessages a (changed change a)
same_messages (SentOut now) a = record {
  method = refl;
  body = refl;
  options = refl;
  signed_for = refl;
  earlier = refl;
  rank = refl;
  turns = refl;
}
same_messages (Noted why code) a = record {
  method = refl;
  body = refl;
  options = refl;
  signed_for = refl;
  earlier = refl;
  rank = refl;
  turns = refl;
}
same_messages (Refused code) a = record {
  method = refl;
  body = refl;
  options = refl;
  signed_for = refl;
  earlier = refl;
  rank = refl;
  turns = refl;
}

replaced_noted : (c : Client) (n : ℕ) (b : AskedSeen) → IsRequests c.requests
    → ((a : AskedSeen) → datum_of n c.requests ≡ Some a → HasSameMessages a b) → NotesMessages c
    → AreNoted c.turns c.earlier (after_replacing n b c.requests).table.attached
replaced_noted c n b i keeps notes = by (id_at n c.requests.numbers) refl
  where
    by : (o : Option ℕ) → id_at n c.requests.numbers ≡ o
        → AreNoted c.turns c.earlier (option_map_or (λ id. record c.requests {
          table = with_other_datum id (record { number = n; datum = b }) c.requests.table;
        }) o c.requests).table.attached
    by None named = notes
    by (Some id) named =
        let found = there_by_id c.requests n id i named in
        let stored : datum_of n c.requests ≡ Some found.0.datum =
        former_datum c.requests n id found.0 named found.1 in
        noted_set c.turns c.earlier c.requests.table.attached notes id found.0
        (record { number = n; datum = b }) found.1 (sym found.2) (keeps found.0.datum stored)

pub changed_after : (change : Change) (n : ℕ) (c : Client) → IsClient c
    → IsAfter c (with_requests (changed_at change n c.requests) c)
changed_after change n c is = by (datum_of n c.requests) refl
  where
    by : (o : Option AskedSeen) → datum_of n c.requests ≡ o
        → IsAfter c (with_requests (option_map_or
        (λ a. after_replacing n (changed change a) c.requests) o c.requests) c)
    by None some = after_none c is
    by (Some a) some =
        let keeps = same_messages change a in
        let its : (b : AskedSeen) → datum_of n c.requests ≡ Some b
        → HasSameMessages b (changed change a) =
        λ b stored.
        subst (λ (x : AskedSeen). HasSameMessages x (changed change a))
        (some_is a b (sym some ∙ stored)) keeps in
        after_with c (after_replacing n (changed change a) c.requests)
        (replaced_client c n (changed change a) is its)
        (replace_each (Was c) c.requests (was_same c) n (changed change a)
        (was_there c n a (changed change a) (there_by_datum c.requests n a is.requests some)
        keeps.method keeps.body keeps.options))
        (λ notes. replaced_noted c n (changed change a) is.requests its notes)

-- ---- ends

-- a request ends, however that is counted, and whatever is known of it then
pub ending_client : (c : Client) (n id : ℕ) (tally : Transaction → Tally)
    (w : Option (Known EndSeen)) (known : AllKnown EndSeen) → IsClient c
    → id_at n c.requests.numbers ≡ Some id → option_and_then id_in w ≡ None
    → IsAt n w c.requests.numbers.known known → Ascend known
    → IsClient (with_requests (record c.requests {
      table = option_map_or (λ t. counted (tally t) (without_request id c.requests.table))
          (transaction_at id c.requests.table.requests) c.requests.table;
      numbers = record {
        known = known;
        unsent = remove_key (is_at (nat_cmp n)) c.requests.numbers.unsent;
      };
    }) c)
ending_client c n id tally w known is named shut at order =
    let found = there_by_id c.requests n id is.requests named in
    by found.0 found.1 found.2 (transaction_at id c.requests.table.requests) refl
  where
    by : (q : Request AskedSeen) → datum_at id c.requests.table.attached ≡ Some q → q.number ≡ n
        → (o : Option Transaction) → transaction_at id c.requests.table.requests ≡ o
        → IsClient (with_requests (record c.requests {
          table = option_map_or (λ t. counted (tally t) (without_request id c.requests.table)) o
              c.requests.table;
          numbers = record {
            known = known;
            unsent = remove_key (is_at (nat_cmp n)) c.requests.numbers.unsent;
          };
        }) c)
    by q there number None missing = let found = (is.current id q there).sent in cc
    by q there number (Some t) here =
        out_client c id n q (tally t) w known is there number shut at order

-- the owner ends a request, and nothing is stored of it any more
pub removing_client : (n : ℕ) (c : Client) → IsClient c
    → IsClient (with_requests (after_removing n c.requests) c)
removing_client n c is = by (id_at n c.requests.numbers) refl
  where
    by : (o : Option ℕ) → id_at n c.requests.numbers ≡ o
        → IsClient (with_requests (option_map_or (λ id. record c.requests {
          table = after_cancel id c.requests.table;
          numbers = after_removal n c.requests.numbers;
        }) o c.requests) c)
    by None named = is
    by (Some id) named =
        ending_client c n id (λ t. request_cancelled) None
        (remove_entry (is_at (nat_cmp n)) c.requests.numbers.known) is named refl
        (at_remove n c.requests.numbers.known is.requests.ascending)
        (IsAscending-remove (is_at (nat_cmp n)) c.requests.numbers.known is.requests.ascending)

-- the owner ends a request, whose end is known then
pub canceling_client : (n : ℕ) (end : EndSeen) (c : Client) → IsClient c
    → IsClient (with_requests (after_canceling n end c.requests) c)
canceling_client n end c is = by (id_at n c.requests.numbers) refl
  where
    by : (o : Option ℕ) → id_at n c.requests.numbers ≡ o
        → IsClient (with_requests (option_map_or (λ id. record c.requests {
          table = after_cancel id c.requests.table;
          numbers = after_end n end c.requests.numbers;
        }) o c.requests) c)
    by None named = is
    by (Some id) named =
        ending_client c n id (λ t. request_cancelled) (Some (Ended end))
        (insert_entry nat_cmp c.requests.numbers.known n (Ended end)) is named refl
        (at_insert n (Ended end) c.requests.numbers.known)
        (IsAscending-insert c.requests.numbers.known n (Ended end) is.requests.ascending)

-- a response ends a request
pub answering_client : (n count : ℕ) (moment : Option ℕ) (end : EndSeen) (c : Client) → IsClient c
    → IsClient (with_requests (after_answering n count moment end c.requests) c)
answering_client n count moment end c is = by (id_at n c.requests.numbers) refl
  where
    by : (o : Option ℕ) → id_at n c.requests.numbers ≡ o
        → IsClient (with_requests (option_map_or (λ id. record c.requests {
          table = after_answer id count moment c.requests.table;
          numbers = after_end n end c.requests.numbers;
        }) o c.requests) c)
    by None named = is
    by (Some id) named =
        ending_client c n id (λ t. response_received count (round_trip moment t))
        (Some (Ended end)) (insert_entry nat_cmp c.requests.numbers.known n (Ended end)) is named
        refl (at_insert n (Ended end) c.requests.numbers.known)
        (IsAscending-insert c.requests.numbers.known n (Ended end) is.requests.ascending)

-- the IDs of its earlier messages are forgotten then
ending_noted : (c : Client) (k : ℕ) (q : Request AskedSeen) (tally : Transaction → Tally)
    → IsClient c → datum_at k c.requests.table.attached ≡ Some q → NotesMessages c
    → AreNoted c.turns (without_all q.datum.earlier c.earlier)
    (option_map_or (λ t. counted (tally t) (without_request k c.requests.table))
    (transaction_at k c.requests.table.requests) c.requests.table).attached
ending_noted c k q tally is there notes = by (transaction_at k c.requests.table.requests) refl
  where
    by : (o : Option Transaction) → transaction_at k c.requests.table.requests ≡ o
        → AreNoted c.turns (without_all q.datum.earlier c.earlier)
        (option_map_or (λ t. counted (tally t) (without_request k c.requests.table)) o
        c.requests.table).attached
    by None missing = let found = (is.current k q there).sent in cc
    by (Some t) here =
        noted_out c.turns c.earlier c.requests.table.attached notes
        (without_datum k c.requests.table.attached) k q there
        (at_remove k c.requests.table.attached is.requests.one.in_order)

removing_noted : (n : ℕ) (c : Client) (a : AskedSeen) → IsClient c → IsThere c.requests n a
    → NotesMessages c
    → AreNoted c.turns (without_all a.earlier c.earlier)
    (after_removing n c.requests).table.attached
removing_noted n c a is at notes =
    subst (λ (o : Option ℕ). AreNoted c.turns (without_all a.earlier c.earlier)
    (option_map_or (λ id. record c.requests {
      table = after_cancel id c.requests.table;
      numbers = after_removal n c.requests.numbers;
    }) o c.requests).table.attached) (sym at.named)
    (subst (λ (x : AskedSeen). AreNoted c.turns (without_all x.earlier c.earlier)
    (after_cancel at.id c.requests.table).attached) at.datum
    (ending_noted c at.id at.q (λ t. request_cancelled) is at.there notes))

pub canceling_noted : (n : ℕ) (end : EndSeen) (c : Client) (a : AskedSeen) → IsClient c
    → IsThere c.requests n a → NotesMessages c
    → AreNoted c.turns (without_all a.earlier c.earlier)
    (after_canceling n end c.requests).table.attached
canceling_noted n end c a is at notes =
    subst (λ (o : Option ℕ). AreNoted c.turns (without_all a.earlier c.earlier)
    (option_map_or (λ id. record c.requests {
      table = after_cancel id c.requests.table;
      numbers = after_end n end c.requests.numbers;
    }) o c.requests).table.attached) (sym at.named)
    (subst (λ (x : AskedSeen). AreNoted c.turns (without_all x.earlier c.earlier)
    (after_cancel at.id c.requests.table).attached) at.datum
    (ending_noted c at.id at.q (λ t. request_cancelled) is at.there notes))

pub answering_noted : (n count : ℕ) (moment : Option ℕ) (end : EndSeen) (c : Client)
    (a : AskedSeen) → IsClient c → IsThere c.requests n a → NotesMessages c
    → AreNoted c.turns (without_all a.earlier c.earlier)
    (after_answering n count moment end c.requests).table.attached
answering_noted n count moment end c a is at notes =
    subst (λ (o : Option ℕ). AreNoted c.turns (without_all a.earlier c.earlier)
    (option_map_or (λ id. record c.requests {
      table = after_answer id count moment c.requests.table;
      numbers = after_end n end c.requests.numbers;
    }) o c.requests).table.attached) (sym at.named)
    (subst (λ (x : AskedSeen). AreNoted c.turns (without_all x.earlier c.earlier)
    (after_answer at.id count moment c.requests.table).attached) at.datum
    (ending_noted c at.id at.q (λ t. response_received count (round_trip moment t)) is at.there
    notes))

-- ---- one poll of the requests

-- what a poll of the requests names is there
abbrev pub IsNamed : Client → All → OfRequests AskedSeen EndSeen → Type 0
IsNamed c r (Of.Transmit n) = IsSome (id_at n r.numbers)
IsNamed c r (Of.Ended n end) = has n c.requests.numbers.known ≡ true
IsNamed c r (Of.TimedOut n a) = has n c.requests.numbers.known ≡ true
IsNamed c r (Of.Wait until) = ⊤

-- what is noted stays that of earlier messages, once the IDs of a request that timed out are
-- forgotten
abbrev pub IsNotedThen : Client → All → OfRequests AskedSeen EndSeen → Type 0
IsNotedThen c r (Of.Transmit n) = AreNoted c.turns c.earlier r.table.attached
IsNotedThen c r (Of.Ended n end) = AreNoted c.turns c.earlier r.table.attached
IsNotedThen c r (Of.TimedOut n a) =
    AreNoted c.turns (without_all a.earlier c.earlier) r.table.attached
IsNotedThen c r (Of.Wait until) = AreNoted c.turns c.earlier r.table.attached

pub record IsPolled (c : Client) (p : PollOf AskedSeen EndSeen) : Type 0 where
  pub client : IsClient (with_requests p.1 c)
  pub named : IsNamed c p.1 p.0
  pub noted : NotesMessages c → IsNotedThen c p.1 p.0

tail_ordered : (ks : List ℕ) → IsStrictlySortedBy nat_cmp ks
    → IsStrictlySortedBy nat_cmp (others_in ks)
tail_ordered [] s = s
tail_ordered (k ∷ ks) s = sorted_tail nat_cmp k ks s

tail_among : (q : ℕ) (ks : List ℕ) → among q (others_in ks) ≡ true → among q ks ≡ true
tail_among q [] hit = hit
tail_among q (k ∷ ks) hit = by (is_at (nat_cmp q) k)
  where
    by : (b : Bool) → (b || among q ks) ≡ true
    by true = refl
    by false = hit

first_among : (k : ℕ) (ks : List ℕ) → first_in ks ≡ Some k → among k ks ≡ true
first_among k [] is = cc
first_among k (x ∷ ks) is =
    subst (λ y. (is_at (nat_cmp k) y || among k ks) ≡ true) (sym (some_is x k is))
    (ap (λ b. b || among k ks) (own_key k))

id_has : (k id : ℕ) (s : NumbersSeen EndSeen) → id_at k s ≡ Some id → has k s.known ≡ true
id_has k id s some = by (known_at k s.known) some
  where
    by : (o : Option (Known EndSeen)) → option_and_then id_in o ≡ Some id → is_some o ≡ true
    by None some = cc
    by (Some v) some = refl

-- an end is handed out
pub ended_client : (c : Client) (p : ℕ × EndSeen) → IsClient c
    → end_of_first c.requests.numbers ≡ Some p
    → IsClient (with_requests (record c.requests {
      numbers = without_first c.requests.numbers;
    }) c)
ended_client c p is some =
    subst (λ (s : NumbersSeen EndSeen). IsClient (with_requests (record c.requests {
      numbers = s;
    }) c)) (sym (without_some c.requests.numbers p.0 first.first))
    (other_client c left c.standing c.next_id c.earlier is
    (one_handed_out c.requests.table.attached c.requests.numbers left c.requests.next p.0 p.1
    is.requests.one first.there at)
    (IsAscending-remove (is_at (nat_cmp p.0)) c.requests.numbers.known is.requests.ascending)
    is.in_order
    (λ k hit. still k (is_at (nat_cmp p.0) k) refl (is.unsent k hit)))
  where
    first : IsFirstEnd c.requests.numbers p
    first = first_end c.requests.numbers p some

    left : NumbersSeen EndSeen
    left = record c.requests.numbers {
      known = remove_entry (is_at (nat_cmp p.0)) c.requests.numbers.known;
    }

    at : IsAt p.0 None c.requests.numbers.known left.known
    at = at_remove p.0 c.requests.numbers.known is.requests.ascending

    none : id_at p.0 c.requests.numbers ≡ None
    none = ap (λ o. option_and_then id_in o) first.there

    still : (k : ℕ) (b : Bool) → is_at (nat_cmp p.0) k ≡ b → IsSome (id_at k c.requests.numbers)
        → IsSome (id_at k left)
    still k true hit there =
        elim (at_split p.0 None c.requests.numbers.known left.known at k
        (known_at k left.known) refl) [
          | inl gone ↦
              let missing : id_at k c.requests.numbers ≡ None =
              subst (λ j. id_at j c.requests.numbers ≡ None) (sym gone.0) none in
              let no : is_some (id_at k c.requests.numbers) ≡ false = ap is_some missing in
              let yes : is_some (id_at k c.requests.numbers) ≡ true = there in
              cc
          | inr old ↦ let off = old.0 in cc
        ]
    still k false off there =
        ap is_some (ids_changed p.0 None c.requests.numbers left at k
        ∙ ap (λ b. cond b None (id_at k c.requests.numbers)) off)
        ∙ there

-- the IDs of the earlier messages of a request whose time is over are forgotten
timed_noted : (c : Client) (now : ℕ) (e : ℕ × Transaction) (q : Request AskedSeen) → IsClient c
    → over_in now c.requests.table ≡ Some e → datum_at e.0 c.requests.table.attached ≡ Some q
    → NotesMessages c
    → AreNoted c.turns (without_all q.datum.earlier c.earlier)
    (after_end_in now c.requests.table).attached
timed_noted c now e q is here there notes =
    subst (λ (es : Stored). AreNoted c.turns (without_all q.datum.earlier c.earlier) es)
    (sym (attached_over c.requests.table now e.0
    (ap (λ (o : Option (ℕ × Transaction)). option_map (λ x. x.0) o) here)))
    (noted_out c.turns c.earlier c.requests.table.attached notes
    (without_datum e.0 c.requests.table.attached) e.0 q there
    (at_remove e.0 c.requests.table.attached is.requests.one.in_order))

-- a request whose time is over
timed_is : (c : Client) (now : ℕ) (e : ℕ × Transaction) (q : Request AskedSeen) → IsClient c
    → over_in now c.requests.table ≡ Some e → datum_at e.0 c.requests.table.attached ≡ Some q
    → IsClient (with_requests (record c.requests {
      table = after_end_in now c.requests.table;
      numbers = after_removal q.number c.requests.numbers;
    }) c)
timed_is c now e q is here there =
    subst (λ (o : Option (ℕ × Transaction)). IsClient (with_requests (record c.requests {
      table = option_map_or
          (λ x. counted (tally_of_end x.1) (without_request x.0 c.requests.table)) o
          c.requests.table;
      numbers = after_removal q.number c.requests.numbers;
    }) c)) (sym here)
    (out_client c e.0 q.number q (tally_of_end e.1) None
    (remove_entry (is_at (nat_cmp q.number)) c.requests.numbers.known) is there refl refl
    (at_remove q.number c.requests.numbers.known is.requests.ascending)
    (IsAscending-remove (is_at (nat_cmp q.number)) c.requests.numbers.known
    is.requests.ascending))

timed_there : (c : Client) (now : ℕ) (q : Request AskedSeen) → over now c.requests.table ≡ Some q
    → (e : ℕ × Transaction) × (over_in now c.requests.table ≡ Some e)
    × (datum_at e.0 c.requests.table.attached ≡ Some q)
timed_there c now q some = by (over_in now c.requests.table) refl some
  where
    by : (o : Option (ℕ × Transaction)) → over_in now c.requests.table ≡ o
        → option_and_then (λ e. datum_at e.0 c.requests.table.attached) o ≡ Some q
        → (e : ℕ × Transaction) × (over_in now c.requests.table ≡ Some e)
        × (datum_at e.0 c.requests.table.attached ≡ Some q)
    by None here some = cc
    by (Some e) here some = (e, here, some)

timed_client : (c : Client) (now : ℕ) (q : Request AskedSeen) → IsClient c
    → (e : ℕ × Transaction) → over_in now c.requests.table ≡ Some e
    → datum_at e.0 c.requests.table.attached ≡ Some q
    → IsPolled c (over_or now c.requests (Some q))
timed_client c now q is e here there = record {
  client = timed_is c now e q is here there;
  named = id_has q.number e.0 c.requests.numbers
      (id_is c.requests e.0 q.number q is.requests there refl);
  noted = timed_noted c now e q is here there;
}

-- a request that is named by a search
repeated_there : (c : Client) (now k : ℕ) → IsClient c → repeated now c.requests.table ≡ Some k
    → IsSome (id_at k c.requests.numbers)
repeated_there c now k is some = by (sent_in now c.requests.table) some
  where
    by : (o : Option (ℕ × Transaction))
        → option_and_then (λ e. number_at e.0 c.requests.table.attached) o ≡ Some k
        → IsSome (id_at k c.requests.numbers)
    by None some = cc
    by (Some e) some = ap is_some (is.requests.one.named e.0 k some)

pub polled_client : (now : ℕ) (c : Client) → IsClient c → IsPolled c (polled now c.requests)
unfolding polled
polled_client now c is = unsent (first_unsent c.requests.numbers) refl
  where
    sent : Client
    sent = with_requests (record c.requests { table = after_transmission now c.requests.table }) c

    still : IsClient sent
    still = sent_client c now is

    notes_still : NotesMessages c → AreNoted c.turns c.earlier sent.requests.table.attached
    notes_still notes =
        subst (λ (es : Stored). AreNoted c.turns c.earlier es)
        (sym (attached_sent c.requests.table now)) notes

    over_is : (p : PollOf AskedSeen EndSeen) → IsPolled sent p → IsPolled c p
    over_is (Of.Transmit n, r) is = record {
      client = is.client;
      named = is.named;
      noted = λ notes. is.noted (notes_still notes);
    }
    over_is (Of.Ended n end, r) is = record {
      client = is.client;
      named = is.named;
      noted = λ notes. is.noted (notes_still notes);
    }
    over_is (Of.TimedOut n a, r) is = record {
      client = is.client;
      named = is.named;
      noted = λ notes. is.noted (notes_still notes);
    }
    over_is (Of.Wait until, r) is = record {
      client = is.client;
      named = is.named;
      noted = λ notes. is.noted (notes_still notes);
    }

    times : (o : Option (Request AskedSeen)) → over now sent.requests.table ≡ o
        → IsPolled c (over_or now sent.requests o)
    times None none = record { client = still; named = tt; noted = notes_still }
    times (Some q) some =
        let found = timed_there sent now q some in
        over_is (over_or now sent.requests (Some q))
        (timed_client sent now q still found.0 found.1 found.2)

    ended : (o : Option (ℕ × EndSeen)) → end_of_first sent.requests.numbers ≡ o
        → IsPolled c (ends_or now sent.requests o)
    ended None none = times (over now sent.requests.table) refl
    ended (Some p) some = record {
      client = ended_client sent p still some;
      named = ap is_some (first_end c.requests.numbers p some).there;
      noted = notes_still;
    }

    again : (o : Option ℕ) → repeated now c.requests.table ≡ o
        → IsPolled c (repeats_or now sent.requests o)
    again (Some k) some = record {
      client = still;
      named = repeated_there c now k is some;
      noted = notes_still;
    }
    again None none = ended (end_of_first sent.requests.numbers) refl

    unsent : (o : Option ℕ) → first_unsent c.requests.numbers ≡ o
        → IsPolled c (unsent_or now c.requests o)
    unsent (Some k) some = record {
      client =
          other_client c (without_first_unsent c.requests.numbers) c.standing c.next_id c.earlier is
          (record {
            in_order = is.requests.one.in_order;
            named = is.requests.one.named;
            timed = is.requests.one.timed;
            fresh = is.requests.one.fresh;
          })
          is.requests.ascending (tail_ordered c.requests.numbers.unsent is.in_order)
          (λ q hit. is.unsent q (tail_among q c.requests.numbers.unsent hit));
      named = is.unsent k (first_among k c.requests.numbers.unsent some);
      noted = λ notes. notes;
    }
    unsent None none = again (repeated now c.requests.table) refl

-- ---- one poll of a client

handed_after : (now n : ℕ) (c : Client) → IsClient c → (o : Option AskedSeen)
    → datum_of n c.requests ≡ o → IsAfter c (handed_out_of now n c o).1
handed_after now n c is None some = after_none c is
handed_after now n c is (Some a) some = by (is_late now a)
  where
    by : (b : Bool) → IsAfter c (cond b (given_up n a c) (sent_by now n c)).1
    by true =
        after_around c (after_removing n c.requests) (stepped_back a c.standing) c.next_id
        (without_all a.earlier c.earlier) (removing_client n c is)
        (remove_each (Was c) c.requests (was_same c) is.requests.one.in_order n)
        (λ notes. removing_noted n c a is (there_by_datum c.requests n a is.requests some) notes)
    by false = changed_after (SentOut now) n c is

pub told_after : (now : ℕ) (c : Client) → IsClient c → IsAfter c (told now c).1
told_after now c is =
    by (polled now c.requests) (polled_client now c is)
    (polls_each (Was c) c.requests (was_same c) is.requests.one.in_order now)
  where
    by : (p : PollOf AskedSeen EndSeen) → IsPolled c p → Each (Was c) p.1.table.attached
        → IsAfter c (by_polled now (with_requests p.1 c) p.0).1
    by (Of.Transmit n, r) well each =
        after_then c (with_requests r c) _ (after_with c r well.client each well.noted)
        (handed_after now n (with_requests r c) well.client (datum_of n r) refl)
    by (Of.Ended n end, r) well each = after_with c r well.client each well.noted
    by (Of.TimedOut n a, r) well each =
        after_around c r (stepped_back a c.standing) c.next_id (without_all a.earlier c.earlier)
        well.client each well.noted
    by (Of.Wait until, r) well each = after_with c r well.client each well.noted
