-- The requests of a client once another message of one of them has become the current one.
use Rattle.std.proofs.Common.{◌≡◌, ◌∙◌, ◌≤◌, ℕ, Bool, true, false, List, Option, Some, None, ap}
use Rattle.std.proofs.Common.{arith, cond, refl, subst, sym}
use Rattle.std.specs.BTreeMap.{is_at}
use Rattle.std.specs.List.Sorted.{IsStrictlySortedBy}
use Rattle.std.specs.Map.{keys_of}
use Rattle.std.specs.Option.{option_and_then, option_map, option_map_or}
use Rattle.std.specs.Ordering.{nat_cmp}
use Rattle.std.specs.Prelude.{◌==◌}
use Rattle.std.proofs.lemmas.Bool.{eqb-true}
use Rattle.stun_agent.specs.Tables.{TableSeen, after_answer, after_sending, datum_at, request_in}
use Rattle.stun_agent.specs.Tables.{with_other_datum}
use Rattle.stun_agent.specs.Timing.{Settings}
use Rattle.stun_agent.specs.Transactions.{Transaction, at}
use Rattle.stun_agent.proofs.Ascending.{IsAscending-insert}
use Rattle.stun_client_requests.specs.Laws.{IsRequests}
use Rattle.stun_client_requests.specs.Numbers.{after_mark, after_rename, id_at}
use Rattle.stun_client_requests.specs.OneTable.{IsOneTable}
use Rattle.stun_client_requests.specs.Requests.{Answering, RequestsSeen, after_again}
use Rattle.stun_client_requests.specs.Requests.{after_replacing, datum_of, number_at, stored_at}
use Rattle.stun_client_requests.specs.Timely.{HasTimer, IsTimely}
use Rattle.stun_client_requests.specs.declared.numbers.Known.TheVariants.{Outstanding}
use Rattle.stun_client_requests.specs.declared.requests.Request.{Request}
use Rattle.stun_client_requests.proofs.NumberLemmas.{eqb-same, own_key}
use Rattle.stun_client_requests.proofs.RequestLemmas.{at_insert, attached_answer, ids_changed}
use Rattle.stun_client_requests.proofs.RequestLemmas.{one_again, one_replaced, set_same}
use Rattle.stun_client_requests.proofs.TimelyLemmas.{again_timely, all_no_later, replace_timely}
use Rattle.stun_client_calls.specs.Bounds.{until_of}
use Rattle.stun_client_calls.specs.Endpoints.{EndSeen}
use Rattle.stun_client_calls.specs.Messages.{AskedSeen}

abbrev pub All : Type 0
All = RequestsSeen AskedSeen EndSeen

abbrev pub IsOne : All → Type 0
IsOne r = IsOneTable r.table.attached r.numbers r.next

pub some_is : {X : Type 0} (x y : X) → Some x ≡ Some y → x ≡ y
some_is x y e = cc

pub no_more : (x y : ℕ) → x ≡ y → x ≤ y
no_more x y same = omega (arith, same)

-- ---- the request with a number

-- a request in the table is the one with its number
pub stored_one : (n id : ℕ) (q : Request AskedSeen) (r : All) → IsOne r
    → datum_at id r.table.attached ≡ Some q → q.number ≡ n → datum_of n r ≡ Some q.datum
stored_one n id q r one there number =
    let named : id_at n r.numbers ≡ Some id =
    one.named id n
    (ap (λ (o : Option (Request AskedSeen)). option_map (λ x. x.number) o) there
    ∙ ap Some number) in
    ap (λ (o : Option (Request AskedSeen)). option_map (λ x. x.datum) o)
    (ap (λ o. option_and_then (λ k. datum_at k r.table.attached) o) named ∙ there)

-- what is stored under a number has this number
stored_number : (n : ℕ) (q : Request AskedSeen) (r : All) → IsOne r → stored_at n r ≡ Some q
    → q.number ≡ n
stored_number n q r one there = by (id_at n r.numbers) refl there
  where
    by : (o : Option ℕ) → id_at n r.numbers ≡ o
        → option_and_then (λ id. datum_at id r.table.attached) o ≡ Some q → q.number ≡ n
    by None named is = cc
    by (Some id) named is =
        some_is q.number n
        (sym (ap (λ (o : Option (Request AskedSeen)). option_map (λ x. x.number) o) is)
        ∙ one.timed n id named)

-- the requests are timely by another plan that says the same of them
all_planned : (plan other : Request AskedSeen → Settings) (bound : Request AskedSeen → ℕ) (r : All)
    → ((id : ℕ) (q : Request AskedSeen) → datum_at id r.table.attached ≡ Some q → plan q ≡ other q)
    → IsTimely plan bound r → IsTimely other bound r
all_planned plan other bound r same a = record {
  ordered = a.ordered;
  timed = λ id q there.
      subst (λ s. HasTimer s (bound q) id r.table.requests) (same id q there) (a.timed id q there);
  owned = a.owned;
}

-- ---- another message

-- the request with number n is sent under another ID, and b is stored of it
module _ (r : All) (plan : AskedSeen → Settings) (now n id : ℕ) (x : Answering) (bytes : List ℕ)
    (empty a b : AskedSeen) (one : IsOne r) (timely : IsTimely (λ q. plan q.datum) until_of r)
    (there : datum_of n r ≡ Some a) (free : number_at id r.table.attached ≡ None)
    (in_time : now ≤ a.until) (same : b.until ≡ a.until) (as_planned : plan b ≡ plan a) where
  abbrev again : All
  again = after_again n x id bytes (plan a) empty now r

  abbrev after : All
  after = after_replacing n b again

  abbrev kept : Request AskedSeen
  kept = record { number = n; datum = b }

  abbrev sent : TableSeen (Request AskedSeen)
  sent = after_sending id bytes (plan a) (record { number = n; datum = empty }) now r.table

  abbrev moved : ℕ → All
  moved former = record r {
    table = after_answer former x.count x.moment sent;
    numbers = after_rename n id (after_mark n r.numbers);
  }

  -- the ID that it had
  former_of : (former : ℕ) × (id_at n r.numbers ≡ Some former)
  former_of = by (id_at n r.numbers) refl there
    where
      by : (o : Option ℕ) → id_at n r.numbers ≡ o
          → option_map (λ q. q.datum) (option_and_then (λ k. datum_at k r.table.attached) o)
          ≡ Some a
          → (former : ℕ) × (id_at n r.numbers ≡ Some former)
      by None named some = cc
      by (Some former) named some = (former, named)

  abbrev others : All
  others = moved former_of.0

  again_is : again ≡ others
  again_is =
      ap (λ o. option_map_or (λ former. record r {
        table = after_answer former x.count x.moment sent;
        numbers = after_rename n id (after_mark n r.numbers);
      }) o r) former_of.1

  -- its timer is still there
  timer_of : (t : Transaction) × (at former_of.0 sent.requests ≡ Some t)
  timer_of = by (datum_at former_of.0 r.table.attached) refl (one.timed n former_of.0 former_of.1)
    where
      in_sent : (t : Transaction) (c : Bool)
          → at former_of.0 sent.requests
          ≡ cond c (Some (request_in r.table bytes (plan a) now)) (at former_of.0 r.table.requests)
          → at former_of.0 r.table.requests ≡ Some t
          → (u : Transaction) × (at former_of.0 sent.requests ≡ Some u)
      in_sent t true is found = (request_in r.table bytes (plan a) now, is)
      in_sent t false is found = (t, is ∙ found)

      by : (o : Option (Request AskedSeen)) → datum_at former_of.0 r.table.attached ≡ o
          → option_map (λ q. q.number) o ≡ Some n
          → (t : Transaction) × (at former_of.0 sent.requests ≡ Some t)
      by None is some = cc
      by (Some q) is some =
          let h = timely.timed former_of.0 q is in
          in_sent h.timer (is_at (nat_cmp id) former_of.0)
          (at_insert id (request_in r.table bytes (plan a) now) r.table.requests former_of.0) h.there

  one_again_then : IsOne others
  one_again_then =
      one_again r.table.attached sent.attached others.table.attached r.numbers others.numbers r.next
      id former_of.0 n (record { number = n; datum = empty }) one former_of.1 free refl refl
      (attached_answer sent former_of.0 x.count x.moment timer_of.0.bytes
      (sym (ap (λ (o : Option Transaction). option_map (λ t. t.bytes) o) timer_of.1)))
      (at_insert n (Outstanding id) r.numbers.known)

  named_then : id_at n others.numbers ≡ Some id
  named_then =
      ids_changed n (Some (Outstanding id)) r.numbers others.numbers
      (at_insert n (Outstanding id) r.numbers.known) n
      ∙ ap (λ c. cond c (Some id) (id_at n r.numbers)) (own_key n)

  abbrev stored : All
  stored = record others { table = with_other_datum id kept others.table }

  after_is : after ≡ stored
  after_is =
      ap (λ (s : All). after_replacing n b s) again_is
      ∙ ap (λ o. option_map_or (λ k. record others {
        table = with_other_datum k kept others.table;
      }) o others) named_then

  one_stored : IsOne stored
  one_stored =
      one_replaced others.table.attached stored.table.attached others.numbers others.next id n kept
      one_again_then named_then refl refl

  stored_there : datum_of n stored ≡ Some b
  stored_there =
      ap (λ o. option_map (λ (q : Request AskedSeen). q.datum)
      (option_and_then (λ k. datum_at k stored.table.attached) o)) named_then
      ∙ ap (λ (o : Option (Request AskedSeen)). option_map (λ q. q.datum) o)
      (by (datum_at id others.table.attached) refl (one_again_then.timed n id named_then))
    where
      by : (o : Option (Request AskedSeen)) → datum_at id others.table.attached ≡ o
          → option_map (λ q. q.number) o ≡ Some n
          → datum_at id stored.table.attached ≡ Some kept
      by None is some = cc
      by (Some q) is some = set_same id q kept others.table.attached is

  pub one_after : IsOne after
  one_after = subst IsOne (sym after_is) one_stored

  pub requests_after : IsStrictlySortedBy nat_cmp (keys_of r.numbers.known) → IsRequests after
  requests_after ascending =
      subst (λ (s : All). IsRequests s) (sym after_is) (record {
        one = one_stored;
        ascending = IsAscending-insert r.numbers.known n (Outstanding id) ascending;
      })

  pub datum_after : datum_of n after ≡ Some b
  datum_after = ap (λ (s : All). datum_of n s) after_is ∙ stored_there

  abbrev planned : Request AskedSeen → Settings
  planned q = plan q.datum

  -- when each request was sent for the last time at the latest, and its plan, while nothing is stored of
  -- this one
  abbrev early : Request AskedSeen → ℕ
  early q = cond (q.number == n) a.until q.datum.until

  abbrev early_plan : Request AskedSeen → Settings
  early_plan q = cond (q.number == n) (plan a) (plan q.datum)

  early_plan_own : (q : Request AskedSeen) → q.number ≡ n → early_plan q ≡ plan a
  early_plan_own q number =
      ap (λ k. cond (k == n) (plan a) (plan q.datum)) number
      ∙ ap (λ c. cond c (plan a) (plan q.datum)) (eqb-same n)

  early_own : (q : Request AskedSeen) → q.number ≡ n → early q ≡ a.until
  early_own q number =
      ap (λ k. cond (k == n) a.until q.datum.until) number
      ∙ ap (λ c. cond c a.until q.datum.until) (eqb-same n)

  early_before : IsTimely early_plan early r
  early_before =
      all_no_later early_plan until_of early r.table.requests r.table.attached
      (λ k q found. by k q found (q.number == n) refl)
      (all_planned planned early_plan until_of r
      (λ k q found. as_before k q found (q.number == n) refl) timely)
    where
      as_before : (k : ℕ) (q : Request AskedSeen) → datum_at k r.table.attached ≡ Some q → (c : Bool)
          → (q.number == n) ≡ c → plan q.datum ≡ cond c (plan a) (plan q.datum)
      as_before k q found true is =
          ap plan (some_is q.datum a
          (sym (stored_one n k q r one found (eqb-true q.number n is)) ∙ there))
      as_before k q found false is = refl

      by : (k : ℕ) (q : Request AskedSeen) → datum_at k r.table.attached ≡ Some q → (c : Bool)
          → (q.number == n) ≡ c → q.datum.until ≤ cond c a.until q.datum.until
      by k q found true is =
          no_more q.datum.until a.until
          (ap (λ (y : AskedSeen). y.until) (some_is q.datum a
          (sym (stored_one n k q r one found (eqb-true q.number n is)) ∙ there)))
      by k q found false is = no_more q.datum.until q.datum.until refl

  early_after : IsTimely early_plan early after
  early_after =
      replace_timely early_plan early again
      (again_timely early_plan early r early_before one.in_order n x id bytes (plan a) empty now
      (sym (early_plan_own (record { number = n; datum = empty }) refl))
      (subst (λ t. now ≤ t) (sym (early_own (record { number = n; datum = empty }) refl)) in_time))
      n b
      (λ q found.
      early_plan_own q (stored_number n q again (subst IsOne (sym again_is) one_again_then) found)
      ∙ sym (early_plan_own kept refl))
      (λ q found. no_more (early q) (early kept)
      (early_own q (stored_number n q again (subst IsOne (sym again_is) one_again_then) found)
      ∙ sym (early_own kept refl)))

  timely_stored : IsTimely planned until_of stored
  timely_stored =
      all_no_later planned early until_of stored.table.requests stored.table.attached
      (λ k q found. by k q found (q.number == n) refl)
      (all_planned early_plan planned early stored
      (λ k q found. as_after k q found (q.number == n) refl)
      (subst (λ (s : All). IsTimely early_plan early s) after_is early_after))
    where
      as_after : (k : ℕ) (q : Request AskedSeen) → datum_at k stored.table.attached ≡ Some q
          → (c : Bool) → (q.number == n) ≡ c → cond c (plan a) (plan q.datum) ≡ plan q.datum
      as_after k q found true is =
          sym as_planned ∙ ap plan (some_is b q.datum
          (sym stored_there ∙ stored_one n k q stored one_stored found (eqb-true q.number n is)))
      as_after k q found false is = refl

      by : (k : ℕ) (q : Request AskedSeen) → datum_at k stored.table.attached ≡ Some q → (c : Bool)
          → (q.number == n) ≡ c → cond c a.until q.datum.until ≤ q.datum.until
      by k q found true is =
          no_more a.until q.datum.until
          (sym same ∙ ap (λ (y : AskedSeen). y.until) (some_is b q.datum
          (sym stored_there ∙ stored_one n k q stored one_stored found (eqb-true q.number n is))))
      by k q found false is = no_more q.datum.until q.datum.until refl

  pub timely_after : IsTimely planned until_of after
  timely_after = subst (λ (s : All). IsTimely planned until_of s) (sym after_is) timely_stored
