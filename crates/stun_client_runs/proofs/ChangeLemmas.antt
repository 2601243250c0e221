-- A client stays in order over each change of its requests.
use Rattle.std.proofs.Common.{◌≡◌, ◌∙◌, ◌⊎◌, ℕ, Bool, true, false, List, Option, Some, None, Ok, ap}
use Rattle.std.proofs.Common.{cond, inl, inr, refl, subst, sym}
use Rattle.std.specs.BTreeMap.{is_at}
use Rattle.std.specs.List.Sorted.{IsStrictlySortedBy}
use Rattle.std.specs.Option.{IsSome, is_some, option_and_then, option_map, option_map_or}
use Rattle.std.specs.Ordering.{nat_cmp}
use Rattle.std.specs.Prelude.{◌&&◌}
use Rattle.std.specs.Set.{remove_key}
use Rattle.stun_base.specs.Header.{transaction_id_field}
use Rattle.stun_agent.specs.Statistics.{Statistics, Tally}
use Rattle.stun_agent.specs.Tables.{after_transmission, counted, counted_sent, datum_at, request_in}
use Rattle.stun_agent.specs.Tables.{sent_in, set_datum, with_datum, with_other_datum, without_datum}
use Rattle.stun_agent.specs.Tables.{without_request}
use Rattle.stun_agent.specs.Transactions.{Transaction, Transactions, after_slot}
use Rattle.stun_agent.specs.Transactions.{after_slots, at as transaction_at, is_due, is_reached}
use Rattle.stun_agent.specs.Transactions.{slot_passed, with, without}
use Rattle.stun_agent.proofs.Ascending.{IsAscending-insert, IsAscending-map, IsAscending-remove}
use Rattle.stun_agent.proofs.EntryLemmas.{lookup-map}
use Rattle.stun_client.specs.Challenges.{Answered}
use Rattle.stun_client.specs.Ids.{id_of}
use Rattle.stun_client.specs.Judging.{Identity}
use Rattle.stun_client.specs.Standing.{StandingSeen}
use Rattle.stun_client_endpoint.specs.Bodies.{Body}
use Rattle.stun_client_endpoint.specs.Written.{Form, request_bytes}
use Rattle.stun_client_endpoint.proofs.WrittenLemmas.{request_id}
use Rattle.stun_client_requests.specs.Laws.{IsRequests}
use Rattle.stun_client_requests.specs.Numbers.{AllKnown, IsAt, NumbersSeen, after_put, id_at, id_in}
use Rattle.stun_client_requests.specs.OneTable.{IsOneTable}
use Rattle.stun_client_requests.specs.Requests.{after_replacing, datum_of, number_at}
use Rattle.stun_client_requests.specs.declared.numbers.Known.{Known}
use Rattle.stun_client_requests.specs.declared.numbers.Known.TheVariants.{Outstanding}
use Rattle.stun_client_requests.specs.declared.requests.Request.{Request}
use Rattle.stun_client_requests.proofs.NumberLemmas.{Ascend, own_key}
use Rattle.stun_client_requests.proofs.RequestLemmas.{at_insert, at_remove, ids_changed}
use Rattle.stun_client_requests.proofs.RequestLemmas.{one_out, one_replaced, one_started}
use Rattle.stun_client_calls.specs.Clients.{Client, chosen, first_asked, first_message, started_by}
use Rattle.stun_client_calls.specs.Clients.{with_requests}
use Rattle.stun_client_calls.specs.Endpoints.{EndSeen}
use Rattle.stun_client_calls.specs.Ids.{Earlier}
use Rattle.stun_client_calls.specs.Messages.{AskedSeen}
use Rattle.stun_client_calls.specs.Options.{Options, challenge_by, identity_by, plan_by}
use Rattle.stun_client_calls.proofs.EachLemmas.{Stored}
use Rattle.stun_client_calls.proofs.HeardLemmas.{chosen_is_free}
use Rattle.stun_client_calls.proofs.TurnLemmas.{All, some_is}
use Rattle.stun_client_runs.specs.Kept.{AreDerived, IsClient, IsCurrent, IsDerived, is_unsent}
use Rattle.stun_client_runs.proofs.EntryLemmas.{among_insert, among_remove, at_other, at_own}
use Rattle.stun_client_runs.proofs.EntryLemmas.{at_set, at_split, ordered_insert, ordered_remove}

-- ---- what two clients share

-- the server, and what decides on the bytes of a message
pub record IsSame (c after : Client) : Type 0 where
  pub server : after.server ≡ c.server
  pub form : after.form ≡ c.form
  pub identity : after.identity ≡ c.identity
  pub seed : after.seed ≡ c.seed

pub same_client : (c : Client) → IsSame c c
same_client c = record { server = refl; form = refl; identity = refl; seed = refl }

pub same_then : (c next after : Client) → IsSame c next → IsSame next after → IsSame c after
same_then c next after one other = record {
  server = other.server ∙ one.server;
  form = other.form ∙ one.form;
  identity = other.identity ∙ one.identity;
  seed = other.seed ∙ one.seed;
}

-- ---- one request

pub number_is : (id n : ℕ) (q : Request AskedSeen) (all : Stored) → datum_at id all ≡ Some q
    → q.number ≡ n → number_at id all ≡ Some n
number_is id n q all there number =
    ap (λ (o : Option (Request AskedSeen)). option_map (λ x. x.number) o) there ∙ ap Some number

pub none_at : (id : ℕ) (all : Stored) → number_at id all ≡ None → datum_at id all ≡ None
none_at id all none = by (datum_at id all) none
  where
    by : (o : Option (Request AskedSeen)) → option_map (λ x. x.number) o ≡ None → o ≡ None
    by None is = refl
    by (Some q) is = cc

pub no_number : (id : ℕ) (all : Stored) → datum_at id all ≡ None → number_at id all ≡ None
no_number id all none = ap (λ (o : Option (Request AskedSeen)). option_map (λ x. x.number) o) none

-- the ID of an outstanding request
pub id_is : (r : All) (id n : ℕ) (q : Request AskedSeen) → IsRequests r
    → datum_at id r.table.attached ≡ Some q → q.number ≡ n → id_at n r.numbers ≡ Some id
id_is r id n q i there number = i.one.named id n (number_is id n q r.table.attached there number)

-- an outstanding request: where it is
pub record IsThere (r : All) (n : ℕ) (a : AskedSeen) : Type 0 where
  pub id : ℕ
  pub q : Request AskedSeen
  pub named : id_at n r.numbers ≡ Some id
  pub there : datum_at id r.table.attached ≡ Some q
  pub number : q.number ≡ n
  pub datum : q.datum ≡ a

pub there_by_id : (r : All) (n id : ℕ) → IsRequests r → id_at n r.numbers ≡ Some id
    → (q : Request AskedSeen) × (datum_at id r.table.attached ≡ Some q) × (q.number ≡ n)
there_by_id r n id i named = by (datum_at id r.table.attached) refl (i.one.timed n id named)
  where
    by : (o : Option (Request AskedSeen)) → datum_at id r.table.attached ≡ o
        → option_map (λ x. x.number) o ≡ Some n
        → (q : Request AskedSeen) × (datum_at id r.table.attached ≡ Some q) × (q.number ≡ n)
    by None here is = cc
    by (Some q) here is = (q, here, some_is q.number n is)

pub there_by_datum : (r : All) (n : ℕ) (a : AskedSeen) → IsRequests r → datum_of n r ≡ Some a
    → IsThere r n a
there_by_datum r n a i some = by (id_at n r.numbers) refl some
  where
    by : (o : Option ℕ) → id_at n r.numbers ≡ o
        → option_map (λ (x : Request AskedSeen). x.datum)
        (option_and_then (λ id. datum_at id r.table.attached) o) ≡ Some a
        → IsThere r n a
    by None named is = cc
    by (Some id) named is =
        let found = there_by_id r n id i named in
        let same : Some found.0.datum ≡ Some a =
        sym (ap (λ (o : Option (Request AskedSeen)). option_map (λ x. x.datum) o) found.1) ∙ is in
        record {
          id = id;
          q = found.0;
          named = named;
          there = found.1;
          number = found.2;
          datum = some_is found.0.datum a same;
        }

-- ---- what stays of the messages

-- the timers still have the bytes that they had at an ID
abbrev pub HasBytesOf : ℕ → Transactions → Transactions → Type 0
HasBytesOf id before after = (t : Transaction) → transaction_at id before ≡ Some t
    → (u : Transaction) × (transaction_at id after ≡ Some u) × (u.bytes ≡ t.bytes) × (u.to ≡ t.to)

pub bytes_same : (id : ℕ) (before after : Transactions)
    → transaction_at id after ≡ transaction_at id before → HasBytesOf id before after
bytes_same id before after same = λ t here. (t, same ∙ here, refl, refl)

pub written_alike : (f g : Form) (i j : Identity) (d e : Option Answered) (m k id : ℕ) (x y : Body)
    → f ≡ g → i ≡ j → d ≡ e → m ≡ k → x ≡ y
    → request_bytes f i d m id x ≡ request_bytes g j e k id y
written_alike f g i j d e m k id x y form identity challenge method body =
    ap (λ z. request_bytes z i d m id x) form ∙ ap (λ z. request_bytes g z d m id x) identity
    ∙ ap (λ z. request_bytes g j z m id x) challenge ∙ ap (λ z. request_bytes g j e z id x) method
    ∙ ap (λ z. request_bytes g j e k id z) body

derived_on : (c after : Client) (id : ℕ) → IsSame c after → IsDerived c.seed id
    → IsDerived after.seed id
derived_on c after id same is = record {
  id_number = is.id_number;
  derived = is.derived ∙ ap (λ s. id_of s is.id_number) (sym same.seed);
}

-- a request whose message stays
pub current_on : (c after : Client) (id : ℕ) (a b : AskedSeen) → IsSame c after
    → b.method ≡ a.method → b.body ≡ a.body → b.options ≡ a.options → b.signed_for ≡ a.signed_for
    → HasBytesOf id c.requests.table.requests after.requests.table.requests → IsCurrent c id a
    → IsCurrent after id b
current_on c after id a b same method body options challenge keeps is =
    let new = keeps is.transaction is.sent in
    record {
      from_seed = derived_on c after id same is.from_seed;
      transaction = new.0;
      sent = new.1;
      to = new.3 ∙ is.to ∙ sym same.server;
      written = written_alike after.form c.form (identity_by b.options after.identity)
          (identity_by a.options c.identity) b.signed_for a.signed_for b.method a.method id b.body
          a.body same.form (who same.identity options) challenge method body
          ∙ is.written ∙ ap Ok (sym new.2);
      named = ap transaction_id_field new.2 ∙ is.named;
    }
  where
    who : after.identity ≡ c.identity → b.options ≡ a.options
        → identity_by b.options after.identity ≡ identity_by a.options c.identity
    who identity options = ap (identity_by b.options) identity
        ∙ ap (λ o. identity_by o c.identity) options

-- ---- the numbers, the standing challenge and the next ID

unsent_still : (n k : ℕ) (w : Option (Known EndSeen)) (old new : NumbersSeen EndSeen)
    → IsAt n w old.known new.known → is_at (nat_cmp n) k ≡ false → IsSome (id_at k old)
    → IsSome (id_at k new)
unsent_still n k w old new at off some =
    ap is_some (ids_changed n w old new at k
    ∙ ap (λ b. cond b (option_and_then id_in w) (id_at k old)) off)
    ∙ some

-- a request is outstanding under an ID, and the others are as before
pub put_unsent : (n id k : ℕ) (old new : NumbersSeen EndSeen)
    → IsAt n (Some (Outstanding id)) old.known new.known → (k ≡ n) ⊎ IsSome (id_at k old)
    → IsSome (id_at k new)
put_unsent n id k old new at which = by (is_at (nat_cmp n) k) refl which
  where
    all : id_at k new ≡ cond (is_at (nat_cmp n) k) (Some id) (id_at k old)
    all = ids_changed n (Some (Outstanding id)) old new at k

    by : (b : Bool) → is_at (nat_cmp n) k ≡ b → (k ≡ n) ⊎ IsSome (id_at k old)
        → IsSome (id_at k new)
    by true here which = ap is_some (all ∙ ap (λ b. cond b (Some id) (id_at k old)) here)
    by false here (inl same) =
        let hit : is_at (nat_cmp n) k ≡ true =
        subst (λ j. is_at (nat_cmp n) j ≡ true) (sym same) (own_key n) in
        cc
    by false here (inr some) =
        ap is_some (all ∙ ap (λ b. cond b (Some id) (id_at k old)) here) ∙ some

pub other_client : (c : Client) (numbers : NumbersSeen EndSeen) (standing : StandingSeen)
    (next_id : ℕ) (earlier : Earlier) → IsClient c
    → IsOneTable c.requests.table.attached numbers c.requests.next
    → Ascend numbers.known → IsStrictlySortedBy nat_cmp numbers.unsent
    → ((k : ℕ) → is_unsent k numbers.unsent ≡ true → IsSome (id_at k numbers))
    → IsClient (record c {
      requests = record c.requests { numbers = numbers };
      standing = standing;
      next_id = next_id;
      earlier = earlier;
    })
other_client c numbers standing next_id earlier is one known order unsent = record {
  requests = record { one = one; ascending = known };
  timers = is.timers;
  owned = is.owned;
  in_order = order;
  unsent = unsent;
  server = is.server;
  current = λ id q there. current_on c after id q.datum q.datum same refl refl refl refl
      (λ t here. (t, here, refl, refl)) (is.current id q there);
  earlier = is.earlier;
}
  where
    after : Client
    after = record c {
      requests = record c.requests { numbers = numbers };
      standing = standing;
      next_id = next_id;
      earlier = earlier;
    }

    same : IsSame c after
    same = record { server = refl; form = refl; identity = refl; seed = refl }

-- the standing challenge, the next ID and what is noted of earlier messages are others
pub around_client : (c : Client) (standing : StandingSeen) (next_id : ℕ) (earlier : Earlier)
    → IsClient c
    → IsClient (record c { standing = standing; next_id = next_id; earlier = earlier })
around_client c standing next_id earlier is =
    other_client c c.requests.numbers standing next_id earlier is is.requests.one
    is.requests.ascending is.in_order is.unsent

-- ---- a request is started

pub started_client : (c : Client) (number method : ℕ) (body : Body) (options : Option Options)
    (bytes : List ℕ) (now : ℕ) → IsClient c → chosen c ≡ Some number
    → first_message c method number body options ≡ Ok bytes
    → IsClient (started_by c number method body options bytes now)
started_client c number method body options bytes now is some written = record {
  requests = record {
    one = one_started all (with_datum id q all) c.requests.numbers
        (after_put next id c.requests.numbers) next id q is.requests.one refl free refl
        known_after;
    ascending = IsAscending-insert c.requests.numbers.known next (Outstanding id)
        is.requests.ascending;
  };
  timers = IsAscending-insert timers id t is.timers;
  owned = λ k u there. elim (at_split id (Some t) timers (with id t timers) timers_at k (Some u)
      there) [
        | inl new ↦
            subst (λ j. IsSome (datum_at j (with_datum id q all))) (sym new.0)
            (ap is_some (at_own id (Some q) all (with_datum id q all) all_at))
        | inr old ↦
            ap is_some (at_other id (Some q) all (with_datum id q all) all_at k old.0)
            ∙ is.owned k u old.1
      ];
  in_order = ordered_insert c.requests.numbers.unsent next is.in_order;
  unsent = λ k hit. put_unsent next id k c.requests.numbers (after_put next id c.requests.numbers)
      known_after (elim (among_insert k next c.requests.numbers.unsent hit) [
        | inl new ↦ inl new
        | inr old ↦ inr (is.unsent k old)
      ]);
  server = is.server;
  current = λ k p there. elim (at_split id (Some q) all (with_datum id q all) all_at k (Some p)
      there) [
        | inl new ↦
            subst (λ j. IsCurrent after j p.datum) (sym new.0)
            (subst (λ (x : Request AskedSeen). IsCurrent after id x.datum) (some_is q p new.1) own)
        | inr old ↦
            current_on c after k p.datum p.datum same refl refl refl refl
            (bytes_same k timers (with id t timers)
            (at_other id (Some t) timers (with id t timers) timers_at k old.0))
            (is.current k p old.1)
      ];
  earlier = λ k p there. elim (at_split id (Some q) all (with_datum id q all) all_at k (Some p)
      there) [
        | inl new ↦
            subst (λ (x : Request AskedSeen). AreDerived c.seed x.datum.earlier)
            (some_is q p new.1) tt
        | inr old ↦ is.earlier k p old.1
      ];
}
  where
    id : ℕ
    id = id_of c.seed number

    next : ℕ
    next = c.requests.next

    all : Stored
    all = c.requests.table.attached

    timers : Transactions
    timers = c.requests.table.requests

    q : Request AskedSeen
    q = record { number = c.requests.next; datum = first_asked c method body options now }

    t : Transaction
    t = request_in c.requests.table bytes (plan_by options c.plan) now

    after : Client
    after = started_by c number method body options bytes now

    same : IsSame c after
    same = record { server = refl; form = refl; identity = refl; seed = refl }

    free : number_at (id_of c.seed number) c.requests.table.attached ≡ None
    free = chosen_is_free c number some

    all_at : IsAt id (Some q) all (with_datum id q all)
    all_at = at_insert id q all

    timers_at : IsAt id (Some t) timers (with id t timers)
    timers_at = at_insert id t timers

    known_after : IsAt next (Some (Outstanding id)) c.requests.numbers.known
        (after_put next id c.requests.numbers).known
    known_after = at_insert next (Outstanding id) c.requests.numbers.known

    own : IsCurrent after id q.datum
    own = record {
      from_seed = record { id_number = number; derived = refl };
      transaction = t;
      sent = at_own id (Some t) timers (with id t timers) timers_at;
      to = is.server;
      written = written;
      named =
          request_id c.form (identity_by options c.identity)
          (challenge_by options c.standing.current) method number c.seed body bytes written;
    }

-- ---- a request is outstanding no more

pub out_client : (c : Client) (id n : ℕ) (q : Request AskedSeen) (tally : Tally)
    (w : Option (Known EndSeen)) (known : AllKnown EndSeen) → IsClient c
    → datum_at id c.requests.table.attached ≡ Some q → q.number ≡ n
    → option_and_then id_in w ≡ None → IsAt n w c.requests.numbers.known known → Ascend known
    → IsClient (with_requests (record c.requests {
      table = counted tally (without_request id c.requests.table);
      numbers = record {
        known = known;
        unsent = remove_key (is_at (nat_cmp n)) c.requests.numbers.unsent;
      };
    }) c)
out_client c id n q tally w known is there number shut at order = record {
  requests = record {
    one = one_out all (without_datum id all) c.requests.numbers numbers c.requests.next id n w
        is.requests.one (id_is c.requests id n q is.requests there number) refl shut at;
    ascending = order;
  };
  timers = IsAscending-remove (is_at (nat_cmp id)) timers is.timers;
  owned = λ k u here. elim (at_split id None timers (without id timers) timers_at k (Some u) here) [
    | inl gone ↦ let no = gone.1 in cc
    | inr old ↦
        ap is_some (at_other id None all (without_datum id all) all_at k old.0)
        ∙ is.owned k u old.1
  ];
  in_order = ordered_remove (is_at (nat_cmp n)) c.requests.numbers.unsent is.in_order;
  unsent = λ k hit.
      let left = among_remove k n c.requests.numbers.unsent is.in_order hit in
      unsent_still n k w c.requests.numbers numbers at left.0 (is.unsent k left.1);
  server = is.server;
  current = λ k p here. elim (at_split id None all (without_datum id all) all_at k (Some p) here) [
    | inl gone ↦ let no = gone.1 in cc
    | inr old ↦
        current_on c after k p.datum p.datum same refl refl refl refl
        (bytes_same k timers (without id timers)
        (at_other id None timers (without id timers) timers_at k old.0))
        (is.current k p old.1)
  ];
  earlier = λ k p here. elim (at_split id None all (without_datum id all) all_at k (Some p) here) [
    | inl gone ↦ let no = gone.1 in cc
    | inr old ↦ is.earlier k p old.1
  ];
}
  where
    all : Stored
    all = c.requests.table.attached

    timers : Transactions
    timers = c.requests.table.requests

    numbers : NumbersSeen EndSeen
    numbers = record {
      known = known;
      unsent = remove_key (is_at (nat_cmp n)) c.requests.numbers.unsent;
    }

    after : Client
    after = with_requests (record c.requests {
      table = counted tally (without_request id c.requests.table);
      numbers = record {
        known = known;
        unsent = remove_key (is_at (nat_cmp n)) c.requests.numbers.unsent;
      };
    }) c

    same : IsSame c after
    same = record { server = refl; form = refl; identity = refl; seed = refl }

    all_at : IsAt id None all (without_datum id all)
    all_at = at_remove id all is.requests.one.in_order

    timers_at : IsAt id None timers (without id timers)
    timers_at = at_remove id timers is.timers

-- ---- something else is stored of a request, whose messages stay

pub record HasSameMessages (a b : AskedSeen) : Type 0 where
  pub method : b.method ≡ a.method
  pub body : b.body ≡ a.body
  pub options : b.options ≡ a.options
  pub signed_for : b.signed_for ≡ a.signed_for
  pub earlier : b.earlier ≡ a.earlier
  pub rank : b.rank ≡ a.rank
  pub turns : b.turns ≡ a.turns

set_client : (c : Client) (n id : ℕ) (q : Request AskedSeen) (b : AskedSeen) → IsClient c
    → id_at n c.requests.numbers ≡ Some id → datum_at id c.requests.table.attached ≡ Some q
    → q.number ≡ n → HasSameMessages q.datum b
    → IsClient (with_requests (record c.requests {
      table = with_other_datum id (record { number = n; datum = b }) c.requests.table;
    }) c)
set_client c n id q b is named there number keeps = record {
  requests = record {
    one = one_replaced all (set_datum id w all) c.requests.numbers c.requests.next id n w
        is.requests.one named refl refl;
    ascending = is.requests.ascending;
  };
  timers = is.timers;
  owned = λ k u here. still_there k (is_at (nat_cmp id) k) refl (is.owned k u here);
  in_order = is.in_order;
  unsent = is.unsent;
  server = is.server;
  current = λ k p here. elim (at_split id (Some w) all (set_datum id w all) all_at k (Some p)
      here) [
        | inl new ↦
            subst (λ j. IsCurrent after j p.datum) (sym new.0)
            (subst (λ (x : Request AskedSeen). IsCurrent after id x.datum) (some_is w p new.1)
            (current_on c after id q.datum b same keeps.method keeps.body keeps.options
            keeps.signed_for
            (λ t found. (t, found, refl, refl)) (is.current id q there)))
        | inr old ↦
            current_on c after k p.datum p.datum same refl refl refl refl
            (λ t found. (t, found, refl, refl))
            (is.current k p old.1)
      ];
  earlier = λ k p here. elim (at_split id (Some w) all (set_datum id w all) all_at k (Some p)
      here) [
        | inl new ↦
            subst (λ (x : Request AskedSeen). AreDerived c.seed x.datum.earlier) (some_is w p new.1)
            (subst (λ es. AreDerived c.seed es) (sym keeps.earlier) (is.earlier id q there))
        | inr old ↦ is.earlier k p old.1
      ];
}
  where
    all : Stored
    all = c.requests.table.attached

    w : Request AskedSeen
    w = record { number = n; datum = b }

    after : Client
    after = with_requests (record c.requests {
      table = with_other_datum id (record { number = n; datum = b }) c.requests.table;
    }) c

    same : IsSame c after
    same = record { server = refl; form = refl; identity = refl; seed = refl }

    all_at : IsAt id (Some w) all (set_datum id w all)
    all_at = at_set id q w all there

    still_there : (k : ℕ) (x : Bool) → is_at (nat_cmp id) k ≡ x → IsSome (datum_at k all)
        → IsSome (datum_at k (set_datum id w all))
    still_there k true hit some =
        ap is_some (all_at k ∙ ap (λ x. cond x (Some w) (datum_at k all)) hit)
    still_there k false hit some =
        ap is_some (at_other id (Some w) all (set_datum id w all) all_at k hit) ∙ some

pub replaced_client : (c : Client) (n : ℕ) (b : AskedSeen) → IsClient c
    → ((a : AskedSeen) → datum_of n c.requests ≡ Some a → HasSameMessages a b)
    → IsClient (with_requests (after_replacing n b c.requests) c)
replaced_client c n b is keeps = by (id_at n c.requests.numbers) refl
  where
    by : (o : Option ℕ) → id_at n c.requests.numbers ≡ o
        → IsClient (with_requests (option_map_or (λ id. record c.requests {
          table = with_other_datum id (record { number = n; datum = b }) c.requests.table;
        }) o c.requests) c)
    by None named = is
    by (Some id) named =
        let found = there_by_id c.requests n id is.requests named in
        let stored : datum_of n c.requests ≡ Some found.0.datum =
        ap (λ o. option_map (λ (x : Request AskedSeen). x.datum)
        (option_and_then (λ k. datum_at k c.requests.table.attached) o)) named
        ∙ ap (λ (o : Option (Request AskedSeen)). option_map (λ x. x.datum) o) found.1 in
        set_client c n id found.0 b is named found.1 found.2 (keeps found.0.datum stored)

-- ---- timeouts pass

slots_client : (c : Client) (now : ℕ) (last : Option ℕ) (statistics : Option Statistics)
    → IsClient c
    → IsClient (with_requests (record c.requests {
      table = record c.requests.table {
        statistics = statistics;
        requests = after_slots c.requests.table.transport now last c.requests.table.requests;
      };
    }) c)
slots_client c now last statistics is = record {
  requests = record { one = is.requests.one; ascending = is.requests.ascending };
  timers = IsAscending-map passed timers is.timers;
  owned = λ k u here. was k u (transaction_at k timers) refl
      (sym (lookup-map passed k timers) ∙ here);
  in_order = is.in_order;
  unsent = is.unsent;
  server = is.server;
  current = λ k p here. current_on c after k p.datum p.datum same refl refl refl refl
      (λ t found. (
        passed (k, t),
        lookup-map passed k timers ∙ ap (λ o. option_map (λ v. passed (k, v)) o) found,
        bytes_stay t (is_reached last k && is_due c.requests.table.transport now t),
        to_stays t (is_reached last k && is_due c.requests.table.transport now t),
      )) (is.current k p here);
  earlier = is.earlier;
}
  where
    timers : Transactions
    timers = c.requests.table.requests

    passed : ℕ × Transaction → Transaction
    passed = slot_passed c.requests.table.transport now last

    after : Client
    after = with_requests (record c.requests {
      table = record c.requests.table {
        statistics = statistics;
        requests = after_slots c.requests.table.transport now last c.requests.table.requests;
      };
    }) c

    same : IsSame c after
    same = record { server = refl; form = refl; identity = refl; seed = refl }

    was : (k : ℕ) (u : Transaction) (o : Option Transaction) → transaction_at k timers ≡ o
        → option_map (λ v. passed (k, v)) o ≡ Some u
        → IsSome (datum_at k c.requests.table.attached)
    was k u None here some = cc
    was k u (Some t) here some = is.owned k t here

    bytes_stay : (t : Transaction) (b : Bool) → (cond b (after_slot now t) t).bytes ≡ t.bytes
    bytes_stay t true = refl
    bytes_stay t false = refl

    to_stays : (t : Transaction) (b : Bool) → (cond b (after_slot now t) t).to ≡ t.to
    to_stays t true = refl
    to_stays t false = refl

pub sent_client : (c : Client) (now : ℕ) → IsClient c
    → IsClient (with_requests (record c.requests {
      table = after_transmission now c.requests.table;
    }) c)
sent_client c now is = by (sent_in now c.requests.table)
  where
    by : (o : Option (ℕ × Transaction)) → IsClient (with_requests (record c.requests {
      table = counted_sent o (record c.requests.table {
        requests = after_slots c.requests.table.transport now
            (option_map (λ e. e.0) (sent_in now c.requests.table)) c.requests.table.requests;
      });
    }) c)
    by None =
        slots_client c now (option_map (λ e. e.0) (sent_in now c.requests.table))
        c.requests.table.statistics is
    by (Some e) =
        slots_client c now (option_map (λ e. e.0) (sent_in now c.requests.table)) _ is
