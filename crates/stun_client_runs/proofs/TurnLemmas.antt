-- A client stays in order when another message of a request becomes the current one.
use Rattle.std.proofs.Common.{◌≡◌, ◌∙◌, ◌⊎◌, ℕ, Bool, true, false, List, [], ◌∷◌, Some, None}
use Rattle.std.proofs.Common.{Ok, ap, cond, inl, inr, length, refl, subst, sym}
use Rattle.std.specs.BTreeMap.{insert_entry, is_at}
use Rattle.std.specs.List.{AllByRecursion}
use Rattle.std.specs.Map.{remove_entry}
use Rattle.std.specs.Option.{IsSome, is_some, option_map_or}
use Rattle.std.specs.Ordering.{match_ordering, nat_cmp}
use Rattle.std.specs.declared.cmp.Ordering.{Ordering}
use Rattle.std.specs.declared.cmp.Ordering.TheVariants.{Less, Equal, Greater}
use Rattle.stun_agent.specs.Statistics.{Tally, request_sent, response_received}
use Rattle.stun_agent.specs.Tables.{TableSeen, after_answer, after_sending, counted, datum_at}
use Rattle.stun_agent.specs.Tables.{request_in, set_datum, with_datum, with_other_datum}
use Rattle.stun_agent.specs.Tables.{without_datum, without_request}
use Rattle.stun_agent.specs.Timing.{Settings}
use Rattle.stun_agent.specs.Transactions.{Transaction, Transactions, at as transaction_at}
use Rattle.stun_agent.specs.Transactions.{round_trip, with, without}
use Rattle.stun_agent.proofs.Ascending.{IsAscending-insert, IsAscending-remove}
use Rattle.stun_client_endpoint.specs.Written.{request_bytes}
use Rattle.stun_client_endpoint.proofs.WrittenLemmas.{request_id}
use Rattle.stun_client_requests.specs.Numbers.{IsAt, NumbersSeen, after_mark, after_rename, id_at}
use Rattle.stun_client_requests.specs.OneTable.{IsOneTable}
use Rattle.stun_client_requests.specs.Requests.{Answering, after_again, after_replacing, number_at}
use Rattle.stun_client_requests.specs.declared.numbers.Known.TheVariants.{Outstanding}
use Rattle.stun_client_requests.specs.declared.requests.Request.{Request}
use Rattle.stun_client_requests.proofs.NumberLemmas.{apart, own_key, same_key}
use Rattle.stun_client_requests.proofs.RequestLemmas.{at_insert, at_remove, ids_changed, one_again}
use Rattle.stun_client_requests.proofs.RequestLemmas.{one_replaced}
use Rattle.stun_client_calls.specs.Clients.{Client, with_requests}
use Rattle.stun_client_calls.specs.Endpoints.{EndSeen}
use Rattle.stun_client_calls.specs.Messages.{AllSent, AskedSeen, SentSeen, with_former}
use Rattle.stun_client_calls.specs.Messages.{without_message}
use Rattle.stun_client_calls.specs.Options.{identity_by}
use Rattle.stun_client_calls.specs.Writing.{message_bytes}
use Rattle.stun_client_calls.proofs.EachLemmas.{Stored}
use Rattle.stun_client_calls.proofs.TurnLemmas.{All, some_is}
use Rattle.stun_client_runs.specs.Kept.{AreDerived, IsClient, IsCurrent, IsDerived}
use Rattle.stun_client_runs.proofs.ChangeLemmas.{IsSame, bytes_same, current_on, number_is}
use Rattle.stun_client_runs.proofs.ChangeLemmas.{put_unsent}
use Rattle.stun_client_runs.proofs.EntryLemmas.{among_insert, at_other, at_own, at_set, at_split}
use Rattle.stun_client_runs.proofs.EntryLemmas.{ordered_insert}

-- ---- earlier messages

pub all_left : {X : Type 0} (P : X → Type 0) (test : ℕ → Bool) (es : List (ℕ × X))
    → AllByRecursion (λ (e : ℕ × X). P e.1) es
    → AllByRecursion (λ (e : ℕ × X). P e.1) (remove_entry test es)
all_left P test [] a = tt
all_left {X} P test (e ∷ es) a = by (test e.0) (all_left P test es a.1)
  where
    by : (b : Bool) → AllByRecursion (λ (x : ℕ × X). P x.1) (remove_entry test es)
        → AllByRecursion (λ (x : ℕ × X). P x.1) (cond b es (e ∷ remove_entry test es))
    by true rest = a.1
    by false rest = (a.0, rest)

pub all_with : {X : Type 0} (P : X → Type 0) (es : List (ℕ × X)) (k : ℕ) (w : X) → P w
    → AllByRecursion (λ (e : ℕ × X). P e.1) es
    → AllByRecursion (λ (e : ℕ × X). P e.1) (insert_entry nat_cmp es k w)
all_with P [] k w own a = (own, tt)
all_with {X} P (e ∷ es) k w own a = by (nat_cmp k e.0) (all_with P es k w own a.1)
  where
    by : (r : Ordering) → AllByRecursion (λ (x : ℕ × X). P x.1) (insert_entry nat_cmp es k w)
        → AllByRecursion (λ (x : ℕ × X). P x.1)
        (match_ordering r ((k, w) ∷ e ∷ es) ((e.0, w) ∷ es) (e ∷ insert_entry nat_cmp es k w))
    by Less rest = (own, a)
    by Equal rest = (own, a.1)
    by Greater rest = (a.0, rest)

-- the message that was the current one is stored, or it is not
pub derived_former : (seed : List ℕ) (is_kept : Bool) (rank new_rank : ℕ) (s : SentSeen)
    (earlier : AllSent) → IsDerived seed s.id → AreDerived seed earlier
    → AreDerived seed (with_former is_kept rank s (without_message new_rank earlier))
derived_former seed true rank new_rank s earlier own are =
    all_with (λ (x : SentSeen). IsDerived seed x.id) (without_message new_rank earlier) rank s own
    (all_left (λ (x : SentSeen). IsDerived seed x.id) (is_at (nat_cmp new_rank)) earlier are)
derived_former seed false rank new_rank s earlier own are =
    all_left (λ (x : SentSeen). IsDerived seed x.id) (is_at (nat_cmp new_rank)) earlier are

-- ---- the requests then

abbrev pub moved_table : All → ℕ → ℕ → ℕ → Transaction → AskedSeen → AskedSeen → Tally → Tally
    → TableSeen (Request AskedSeen)
moved_table r n former id t empty b sent answered =
    with_other_datum id (record { number = n; datum = b }) (counted answered (without_request former
    (counted sent (record r.table {
      requests = with id t r.table.requests;
      attached = with_datum id (record { number = n; datum = empty }) r.table.attached;
    }))))

abbrev pub moved_numbers : All → ℕ → ℕ → NumbersSeen EndSeen
moved_numbers r n id = after_rename n id (after_mark n r.numbers)

abbrev pub moved : All → ℕ → ℕ → ℕ → Transaction → AskedSeen → AskedSeen → Tally → Tally → All
moved r n former id t empty b sent answered = record r {
  table = moved_table r n former id t empty b sent answered;
  numbers = moved_numbers r n id;
}

known_then : (r : All) (n id : ℕ) → IsAt n (Some (Outstanding id)) r.numbers.known
    (moved_numbers r n id).known
known_then r n id = at_insert n (Outstanding id) r.numbers.known

pub named_then : (r : All) (n id : ℕ) → id_at n (moved_numbers r n id) ≡ Some id
named_then r n id =
    ids_changed n (Some (Outstanding id)) r.numbers (moved_numbers r n id) (known_then r n id) n
    ∙ ap (λ b. cond b (Some id) (id_at n r.numbers)) (own_key n)

-- a message that is sent again, and what is stored with it
pub moved_is : (r : All) (n former id now : ℕ) (x : Answering) (bytes : List ℕ) (plan : Settings)
    (empty b : AskedSeen) (t : Transaction) → id_at n r.numbers ≡ Some former
    → transaction_at former r.table.requests ≡ Some t → is_at (nat_cmp id) former ≡ false
    → (sent : Tally) × (answered : Tally)
    × (after_replacing n b (after_again n x id bytes plan empty now r)
    ≡ moved r n former id (request_in r.table bytes plan now) empty b sent answered)
moved_is r n former id now x bytes plan empty b t named timer off = (
  request_sent (length bytes),
  response_received x.count (round_trip x.moment t),
  ap (λ s. after_replacing n b s) again ∙ ap (λ o. option_map_or (λ k. record answered_by {
    table = with_other_datum k (record { number = n; datum = b }) answered_by.table;
  }) o answered_by) (named_then r n id),
)
  where
    sent_by : TableSeen (Request AskedSeen)
    sent_by = after_sending id bytes plan (record { number = n; datum = empty }) now r.table

    answered_by : All
    answered_by = record r {
      table = counted (response_received x.count (round_trip x.moment t))
          (without_request former sent_by);
      numbers = moved_numbers r n id;
    }

    still : transaction_at former sent_by.requests ≡ Some t
    still =
        at_other id (Some (request_in r.table bytes plan now)) r.table.requests sent_by.requests
        (at_insert id (request_in r.table bytes plan now) r.table.requests) former off
        ∙ timer

    again : after_again n x id bytes plan empty now r ≡ answered_by
    again =
        ap (λ o. option_map_or (λ k. record r {
          table = after_answer k x.count x.moment sent_by;
          numbers = moved_numbers r n id;
        }) o r) named
        ∙ ap (λ o. record r {
          table = option_map_or (λ u. counted (response_received x.count (round_trip x.moment u))
              (without_request former sent_by)) o sent_by;
          numbers = moved_numbers r n id;
        }) still

-- ---- the client then

-- a request has moved from one ID to another: each of the requests then is this one, or was there
-- before, and all others are as before
pub record IsMoved (c : Client) (n former id : ℕ) (b : AskedSeen) (r : All) : Type 0 where
  pub client : IsClient (with_requests r c)
  pub which : (k : ℕ) (p : Request AskedSeen) → datum_at k r.table.attached ≡ Some p
      → (record { number = n; datum = b } ≡ p) ⊎ (datum_at k c.requests.table.attached ≡ Some p)
  pub own : datum_at id r.table.attached ≡ Some (record { number = n; datum = b })
  pub others : (k : ℕ) → is_at (nat_cmp id) k ≡ false → is_at (nat_cmp former) k ≡ false
      → datum_at k r.table.attached ≡ datum_at k c.requests.table.attached

module _ (c : Client) (n former id : ℕ) (q : Request AskedSeen) (empty b : AskedSeen)
    (t : Transaction) (sent answered : Tally) (is : IsClient c)
    (named : id_at n c.requests.numbers ≡ Some former)
    (there : datum_at former c.requests.table.attached ≡ Some q) (number : q.number ≡ n)
    (free : number_at id c.requests.table.attached ≡ None) (own_id : IsDerived c.seed id)
    (to : t.to ≡ c.server)
    (written : message_bytes c.form c.identity b.signed_for id b ≡ Ok t.bytes)
    (earlier : AreDerived c.seed b.earlier) where
  abbrev all : Stored
  all = c.requests.table.attached

  abbrev first : Request AskedSeen
  first = record { number = n; datum = empty }

  abbrev last : Request AskedSeen
  last = record { number = n; datum = b }

  abbrev put : Stored
  put = with_datum id first all

  abbrev left : Stored
  left = without_datum former put

  abbrev ended : Stored
  ended = set_datum id last left

  abbrev timers : Transactions
  timers = c.requests.table.requests

  abbrev timed : Transactions
  timed = with id t timers

  abbrev timers_left : Transactions
  timers_left = without former timed

  abbrev after : Client
  after = with_requests (moved c.requests n former id t empty b sent answered) c

  same : IsSame c after
  same = record { server = refl; form = refl; identity = refl; seed = refl }

  apart_ids : is_at (nat_cmp former) id ≡ false
  apart_ids = apart former id (λ equal. differs equal)
    where
      differs : former ≡ id → ⊥
      differs equal =
          let none : number_at former all ≡ None =
          subst (λ k. number_at k all ≡ None) (sym equal) free in
          let found = number_is former n q all there number in
          cc

  put_at : IsAt id (Some first) all put
  put_at = at_insert id first all

  left_at : IsAt former None put left
  left_at =
      at_remove former put (IsAscending-insert all id first is.requests.one.in_order)

  there_then : datum_at id left ≡ Some first
  there_then = at_other former None put left left_at id apart_ids
      ∙ at_own id (Some first) all put put_at

  ended_at : IsAt id (Some last) left ended
  ended_at = at_set id first last left there_then

  timed_at : IsAt id (Some t) timers timed
  timed_at = at_insert id t timers

  timers_left_at : IsAt former None timed timers_left
  timers_left_at = at_remove former timed (IsAscending-insert timers id t is.timers)

  -- another request is as before
  others : (k : ℕ) → is_at (nat_cmp id) k ≡ false → is_at (nat_cmp former) k ≡ false
      → datum_at k ended ≡ datum_at k all
  others k off away =
      at_other id (Some last) left ended ended_at k off
      ∙ at_other former None put left left_at k away ∙ at_other id (Some first) all put put_at k off

  other_timers : (k : ℕ) → is_at (nat_cmp id) k ≡ false → is_at (nat_cmp former) k ≡ false
      → transaction_at k timers_left ≡ transaction_at k timers
  other_timers k off away =
      at_other former None timed timers_left timers_left_at k away
      ∙ at_other id (Some t) timers timed timed_at k off

  -- a request that is there is the one that was moved, or another one
  which : (k : ℕ) (p : Request AskedSeen) → datum_at k ended ≡ Some p
      → ((k ≡ id) × (last ≡ p))
      ⊎ ((is_at (nat_cmp id) k ≡ false) × (is_at (nat_cmp former) k ≡ false)
      × (datum_at k all ≡ Some p))
  which k p here = elim (at_split id (Some last) left ended ended_at k (Some p) here) [
    | inl new ↦ inl (new.0, some_is last p new.1)
    | inr old ↦ before old.0 old.1
  ]
    where
      before : is_at (nat_cmp id) k ≡ false → datum_at k left ≡ Some p
          → ((k ≡ id) × (last ≡ p))
          ⊎ ((is_at (nat_cmp id) k ≡ false) × (is_at (nat_cmp former) k ≡ false)
          × (datum_at k all ≡ Some p))
      before off here = elim (at_split former None put left left_at k (Some p) here) [
        | inl gone ↦ let no = gone.1 in cc
        | inr old ↦
            inr (off, old.0, sym (at_other id (Some first) all put put_at k off) ∙ old.1)
      ]

  own : IsCurrent after id b
  own = record {
    from_seed = own_id;
    transaction = t;
    sent = at_other former None timed timers_left timers_left_at id apart_ids
        ∙ at_own id (Some t) timers timed timed_at;
    to = to;
    written = written;
    named =
        request_id c.form (identity_by b.options c.identity) b.signed_for b.method
        own_id.id_number c.seed b.body t.bytes
        (subst (λ k. request_bytes c.form (identity_by b.options c.identity) b.signed_for b.method k
        b.body ≡ Ok t.bytes) own_id.derived written)
        ∙ sym own_id.derived;
  }

  one_left : IsOneTable left (moved_numbers c.requests n id) c.requests.next
  one_left =
      one_again all put left c.requests.numbers (moved_numbers c.requests n id) c.requests.next id
      former n first is.requests.one named free refl refl refl (known_then c.requests n id)

  owner : (k : ℕ) (u : Transaction) → transaction_at k timers_left ≡ Some u
      → IsSome (datum_at k ended)
  owner k u here =
      elim (at_split former None timed timers_left timers_left_at k (Some u) here) [
        | inl gone ↦ let no = gone.1 in cc
        | inr old ↦ before old.0 old.1
      ]
    where
      new : k ≡ id → IsSome (datum_at k ended)
      new equal =
          subst (λ j. IsSome (datum_at j ended)) (sym equal)
          (ap is_some (at_own id (Some last) left ended ended_at))

      either : is_at (nat_cmp former) k ≡ false → transaction_at k timers ≡ Some u → (x : Bool)
          → is_at (nat_cmp id) k ≡ x → IsSome (datum_at k ended)
      either away here true hit = new (same_key id k hit)
      either away here false off = ap is_some (others k off away) ∙ is.owned k u here

      before : is_at (nat_cmp former) k ≡ false → transaction_at k timed ≡ Some u
          → IsSome (datum_at k ended)
      before away here = elim (at_split id (Some t) timers timed timed_at k (Some u) here) [
        | inl equal ↦ new equal.0
        | inr old ↦ either away old.1 (is_at (nat_cmp id) k) refl
      ]

  moved_client : IsClient after
  moved_client = record {
    requests = record {
      one = one_replaced left ended (moved_numbers c.requests n id) c.requests.next id n last
          one_left (named_then c.requests n id) refl refl;
      ascending = IsAscending-insert c.requests.numbers.known n (Outstanding id)
          is.requests.ascending;
    };
    timers = IsAscending-remove (is_at (nat_cmp former)) timed
        (IsAscending-insert timers id t is.timers);
    owned = owner;
    in_order = ordered_insert c.requests.numbers.unsent n is.in_order;
    unsent = λ k hit. put_unsent n id k c.requests.numbers (moved_numbers c.requests n id)
        (known_then c.requests n id)
        (elim (among_insert k n c.requests.numbers.unsent hit) [
          | inl new ↦ inl new
          | inr old ↦ inr (is.unsent k old)
        ]);
    server = is.server;
    current = λ k p here. elim (which k p here) [
      | inl new ↦
          subst (λ j. IsCurrent after j p.datum) (sym new.0)
          (subst (λ (x : Request AskedSeen). IsCurrent after id x.datum) new.1 own)
      | inr old ↦
          current_on c after k p.datum p.datum same refl refl refl refl
          (bytes_same k timers timers_left (other_timers k old.0 old.1)) (is.current k p old.2)
    ];
    earlier = λ k p here. elim (which k p here) [
      | inl new ↦
          subst (λ (x : Request AskedSeen). AreDerived c.seed x.datum.earlier) new.1 earlier
      | inr old ↦ is.earlier k p old.2
    ];
  }

  pub moved_so : IsMoved c n former id b (moved c.requests n former id t empty b sent answered)
  moved_so = record {
    client = moved_client;
    which = λ k p here. elim (which k p here) [
      | inl new ↦ inl new.1
      | inr old ↦ inr old.2
    ];
    own = at_own id (Some last) left ended ended_at;
    others = others;
  }
