-- What holds of each stored request holds over each change of a table.
use Rattle.std.proofs.Common.{◌≡◌, ◌∙◌, ℕ, Bool, true, false, List, [], ◌∷◌, Option, Some, None}
use Rattle.std.proofs.Common.{ap, cond, refl, subst, sym}
use Rattle.std.specs.BTreeMap.{is_at}
use Rattle.std.specs.Map.{lookup, set_value}
use Rattle.std.specs.Option.{option_and_then, option_map, option_map_or}
use Rattle.std.specs.Ordering.{nat_cmp}
use Rattle.stun_agent.specs.Agent.{tally_of_end}
use Rattle.stun_agent.specs.Statistics.{Tally, request_cancelled, response_received}
use Rattle.stun_agent.specs.Tables.{TableSeen, after_answer, after_cancel}
use Rattle.stun_agent.specs.Tables.{after_end as after_end_in, after_sending, counted, datum_at}
use Rattle.stun_agent.specs.Tables.{over_in, set_datum, with_datum, with_other_datum, without_datum}
use Rattle.stun_agent.specs.Tables.{without_request}
use Rattle.stun_agent.specs.Timing.{Settings}
use Rattle.stun_agent.specs.Transactions.{Transaction, at, round_trip}
use Rattle.stun_agent.proofs.Ascending.{IsAscending-insert, lookup-insert_same, lookup-set_other}
use Rattle.stun_client_requests.specs.Numbers.{after_end, after_mark, after_removal, after_rename}
use Rattle.stun_client_requests.specs.Numbers.{id_at, id_in}
use Rattle.stun_client_requests.specs.Requests.{Answering, after_again, after_answering}
use Rattle.stun_client_requests.specs.Requests.{after_canceling, after_removing, after_replacing}
use Rattle.stun_client_requests.specs.Requests.{after_start, datum_of}
use Rattle.stun_client_requests.specs.declared.numbers.Known.TheVariants.{Outstanding}
use Rattle.stun_client_requests.specs.declared.requests.Request.{Request}
use Rattle.stun_client_requests.proofs.NumberLemmas.{Ascend, same_key}
use Rattle.stun_client_requests.proofs.RequestLemmas.{at_insert, at_remove, differs}
use Rattle.stun_client_calls.specs.Endpoints.{EndSeen}
use Rattle.stun_client_calls.specs.Messages.{AskedSeen}
use Rattle.stun_client_calls.proofs.EachLemmas.{Stored}
use Rattle.stun_client_calls.proofs.TurnLemmas.{All, IsOne, some_is}

-- a request under its number
abbrev pub numbered : ℕ → AskedSeen → Request AskedSeen
numbered number a = record { number = number; datum = a }

-- ---- each request of a table

-- a fact holds of each request and of its transaction ID
abbrev pub Each : (ℕ → Request AskedSeen → Type 0) → Stored → Type 0
Each P all = (id : ℕ) (q : Request AskedSeen) → datum_at id all ≡ Some q → P id q

-- but for the one with this ID
abbrev pub But : ℕ → (ℕ → Request AskedSeen → Type 0) → ℕ → Request AskedSeen → Type 0
But k P id q = is_at (nat_cmp k) id ≡ false → P id q

-- the value that is set is found
set_is : {X : Type 0} (p : ℕ → Bool) (es : List (ℕ × X)) (w q : X)
    → lookup p (set_value p es w) ≡ Some q → w ≡ q
set_is p [] w q there = cc
set_is {X} p (e ∷ es) w q there = by (p e.0) refl there (set_is p es w q)
  where
    by : (b : Bool) → p e.0 ≡ b
        → lookup p (cond b ((e.0, w) ∷ es) (e ∷ set_value p es w)) ≡ Some q
        → (lookup p (set_value p es w) ≡ Some q → w ≡ q) → w ≡ q
    by true is there rest =
        some_is w q (sym (ap (λ b. cond b (Some w) (lookup p es)) is) ∙ there)
    by false is there rest =
        rest (sym (ap (λ b. cond b (Some e.1) (lookup p (set_value p es w))) is) ∙ there)

module _ (P : ℕ → Request AskedSeen → Type 0) (all : Stored) where
  -- at the same ID
  moved : (k id : ℕ) (w q : Request AskedSeen) → is_at (nat_cmp k) id ≡ true → w ≡ q → P k w
      → P id q
  moved k id w q hit same own =
      subst (λ n. P n q) (sym (same_key k id hit)) (subst (λ x. P k x) same own)

  put_each : Each P all → (k : ℕ) (w : Request AskedSeen) → P k w → Each P (with_datum k w all)
  put_each each k w own id q there = by (is_at (nat_cmp k) id) refl
    where
      by : (b : Bool) → is_at (nat_cmp k) id ≡ b → P id q
      by true is =
          moved k id w q is (some_is w q
          (sym (at_insert k w all id ∙ ap (λ b. cond b (Some w) (datum_at id all)) is) ∙ there)) own
      by false is =
          each id q
          (sym (at_insert k w all id ∙ ap (λ b. cond b (Some w) (datum_at id all)) is) ∙ there)

  put_but : Each P all → (k : ℕ) (w : Request AskedSeen) → Each (But k P) (with_datum k w all)
  put_but each k w id q there miss =
      each id q
      (sym (at_insert k w all id ∙ ap (λ b. cond b (Some w) (datum_at id all)) miss) ∙ there)

  left_each : Each P all → Ascend all → (k : ℕ) → Each P (without_datum k all)
  left_each each sorted k id q there = by (is_at (nat_cmp k) id) refl
    where
      by : (b : Bool) → is_at (nat_cmp k) id ≡ b → P id q
      by true is =
          let none : datum_at id (without_datum k all) ≡ None =
          at_remove k all sorted id ∙ ap (λ b. cond b None (datum_at id all)) is in
          cc
      by false is =
          each id q
          (sym (at_remove k all sorted id ∙ ap (λ b. cond b None (datum_at id all)) is) ∙ there)

  set_each : (k : ℕ) → Each (But k P) all → (w : Request AskedSeen) → P k w
      → Each P (set_datum k w all)
  set_each k each w own id q there = by (is_at (nat_cmp k) id) refl
    where
      by : (b : Bool) → is_at (nat_cmp k) id ≡ b → P id q
      by true is =
          moved k id w q is (set_is (is_at (nat_cmp k)) all w q
          (subst (λ n. datum_at n (set_datum k w all) ≡ Some q) (same_key k id is) there)) own
      by false is =
          each id q (sym (lookup-set_other id k w all (differs k id is)) ∙ there) is

-- one is taken out of a table
pub out_each : (P : ℕ → Request AskedSeen → Type 0) (t : TableSeen (Request AskedSeen))
    → Each P t.attached → Ascend t.attached → (id : ℕ) (tally : Transaction → Tally)
    → Each P (option_map_or (λ x. counted (tally x) (without_request id t)) (at id t.requests)
    t).attached
out_each P t each sorted id tally = by (at id t.requests)
  where
    by : (o : Option Transaction)
        → Each P (option_map_or (λ x. counted (tally x) (without_request id t)) o t).attached
    by None = each
    by (Some x) = left_each P t.attached each sorted id

pub over_each : (P : ℕ → Request AskedSeen → Type 0) (t : TableSeen (Request AskedSeen))
    → Each P t.attached → Ascend t.attached → (now : ℕ) → Each P (after_end_in now t).attached
over_each P t each sorted now = by (over_in now t)
  where
    by : (o : Option (ℕ × Transaction))
        → Each P
        (option_map_or (λ e. counted (tally_of_end e.1) (without_request e.0 t)) o t).attached
    by None = each
    by (Some e) = left_each P t.attached each sorted e.0

-- ---- each request over a call

module _ (P : ℕ → Request AskedSeen → Type 0) (r : All) where
  abbrev Holds : All → Type 0
  Holds x = Each P x.table.attached

  pub start_each : Holds r → (id : ℕ) (bytes : List ℕ) (plan : Settings) (datum : AskedSeen)
      (now : ℕ) → P id (numbered r.next datum) → Holds (after_start id bytes plan datum now r)
  start_each each id bytes plan datum now own =
      put_each P r.table.attached each id (numbered r.next datum) own

  -- something else is stored of the request that has an ID, of which nothing had to be known
  pub replace_but : (n : ℕ) (datum : AskedSeen) (k : ℕ) → id_at n r.numbers ≡ Some k
      → Each (But k P) r.table.attached → P k (numbered n datum) → Holds (after_replacing n datum r)
  replace_but n datum k named each own =
      subst (λ (o : Option ℕ). Holds (option_map_or (λ id. record r {
        table = with_other_datum id (record { number = n; datum = datum }) r.table;
      }) o r)) (sym named) (set_each P r.table.attached k each (numbered n datum) own)

  pub replace_each : Holds r → (n : ℕ) (datum : AskedSeen)
      → ((id : ℕ) → id_at n r.numbers ≡ Some id → P id (numbered n datum))
      → Holds (after_replacing n datum r)
  replace_each each n datum own = by (id_at n r.numbers) refl
    where
      by : (o : Option ℕ) → id_at n r.numbers ≡ o → Holds (after_replacing n datum r)
      by None is =
          subst (λ (o : Option ℕ). Holds (option_map_or (λ id. record r {
            table = with_other_datum id (record { number = n; datum = datum }) r.table;
          }) o r)) (sym is) each
      by (Some k) is =
          replace_but n datum k is (λ id q there miss. each id q there) (own k is)

  pub answer_each : Holds r → Ascend r.table.attached → (n count : ℕ) (moment : Option ℕ)
      (end : EndSeen) → Holds (after_answering n count moment end r)
  answer_each each sorted n count moment end = by (id_at n r.numbers)
    where
      by : (o : Option ℕ) → Holds (option_map_or (λ id. record r {
        table = after_answer id count moment r.table;
        numbers = after_end n end r.numbers;
      }) o r)
      by None = each
      by (Some id) =
          out_each P r.table each sorted id (λ t. response_received count (round_trip moment t))

  pub cancel_each : Holds r → Ascend r.table.attached → (n : ℕ) (end : EndSeen)
      → Holds (after_canceling n end r)
  cancel_each each sorted n end = by (id_at n r.numbers)
    where
      by : (o : Option ℕ) → Holds (option_map_or (λ id. record r {
        table = after_cancel id r.table;
        numbers = after_end n end r.numbers;
      }) o r)
      by None = each
      by (Some id) = out_each P r.table each sorted id (λ t. request_cancelled)

  pub remove_each : Holds r → Ascend r.table.attached → (n : ℕ) → Holds (after_removing n r)
  remove_each each sorted n = by (id_at n r.numbers)
    where
      by : (o : Option ℕ) → Holds (option_map_or (λ id. record r {
        table = after_cancel id r.table;
        numbers = after_removal n r.numbers;
      }) o r)
      by None = each
      by (Some id) = out_each P r.table each sorted id (λ t. request_cancelled)

-- ---- another message

-- a request is sent by another message
abbrev again_by : ℕ → Answering → ℕ → List ℕ → Settings → AskedSeen → ℕ → All → ℕ → All
again_by n a id bytes plan datum now r former = record r {
  table = after_answer former a.count a.moment
      (after_sending id bytes plan (record { number = n; datum = datum }) now r.table);
  numbers = after_rename n id (after_mark n r.numbers);
}

abbrev again_sent : ℕ → ℕ → List ℕ → Settings → AskedSeen → ℕ → All
    → TableSeen (Request AskedSeen)
again_sent n id bytes plan datum now r =
    after_sending id bytes plan (record { number = n; datum = datum }) now r.table

pub turn_each : (P : ℕ → Request AskedSeen → Type 0) (r : All) → Each P r.table.attached
    → Ascend r.table.attached → (n : ℕ) (w : AskedSeen) (a : Answering) (id : ℕ) (bytes : List ℕ)
    (plan : Settings) (datum : AskedSeen) (now : ℕ) → P id (numbered n w)
    → Each P (after_replacing n w (after_again n a id bytes plan datum now r)).table.attached
turn_each P r each sorted n w a id bytes plan datum now own = by (id_at n r.numbers) refl
  where
    but : (former : ℕ)
        → Each (But id P) (again_by n a id bytes plan datum now r former).table.attached
    but former =
        out_each (But id P) (again_sent n id bytes plan datum now r)
        (put_but P r.table.attached each id (record { number = n; datum = datum }))
        (IsAscending-insert r.table.attached id (record { number = n; datum = datum }) sorted)
        former (λ t. response_received a.count (round_trip a.moment t))

    named : (former : ℕ)
        → id_at n (again_by n a id bytes plan datum now r former).numbers ≡ Some id
    named former =
        ap (λ o. option_and_then id_in o) (lookup-insert_same n (Outstanding id) r.numbers.known)

    by : (o : Option ℕ) → id_at n r.numbers ≡ o
        → Each P (after_replacing n w
        (option_map_or (λ former. again_by n a id bytes plan datum now r former) o
        r)).table.attached
    by None is = replace_each P r each n w (λ k found. absurd (no k found))
      where
        no : (k : ℕ) → id_at n r.numbers ≡ Some k → ⊥
        no k found = let clash : ◌≡◌ {A = Option ℕ} None (Some k) = sym is ∙ found in cc
    by (Some former) is =
        replace_but P (again_by n a id bytes plan datum now r former) n w id (named former)
        (but former) own

-- ---- one request

-- what is stored under an ID
abbrev pub datum_in : All → Option ℕ → Option AskedSeen
datum_in r o =
    option_map (λ (x : Request AskedSeen). x.datum)
    (option_and_then (λ id. datum_at id r.table.attached) o)

-- a request is stored under its ID, which is named
pub record IsThere (n : ℕ) (a : AskedSeen) (r : All) : Type 0 where
  pub id : ℕ
  pub named : id_at n r.numbers ≡ Some id
  pub there : datum_at id r.table.attached ≡ Some (numbered n a)

pub is_there : (n : ℕ) (a : AskedSeen) (r : All) → IsOne r → datum_of n r ≡ Some a → IsThere n a r
is_there n a r one some = by (id_at n r.numbers) refl some
  where
    found : (id : ℕ) → id_at n r.numbers ≡ Some id → (o : Option (Request AskedSeen))
        → datum_at id r.table.attached ≡ o → option_map (λ x. x.datum) o ≡ Some a → IsThere n a r
    found id named None there is = cc
    found id named (Some q) there is =
        let number : Some q.number ≡ Some n =
        sym (ap (λ (o : Option (Request AskedSeen)). option_map (λ x. x.number) o) there)
        ∙ one.timed n id named in
        let first : q.number ≡ n = some_is q.number n number in
        let second : q.datum ≡ a = some_is q.datum a is in
        let same : q ≡ numbered n a =
        ap (λ k. numbered k q.datum) first ∙ ap (λ x. numbered n x) second in
        record {
          id = id;
          named = named;
          there = there ∙ ap (λ (x : Request AskedSeen). Some x) same;
        }

    by : (o : Option ℕ) → id_at n r.numbers ≡ o
        → option_map (λ x. x.datum) (option_and_then (λ id. datum_at id r.table.attached) o)
        ≡ Some a
        → IsThere n a r
    by None named is = cc
    by (Some id) named is = found id named (datum_at id r.table.attached) refl is

-- a fact of each request holds of the one with a number
pub asked_at : (P : ℕ → Request AskedSeen → Type 0) (r : All) → Each P r.table.attached → IsOne r
    → (n : ℕ) (a : AskedSeen) → datum_of n r ≡ Some a → (id : ℕ) → id_at n r.numbers ≡ Some id
    → P id (numbered n a)
asked_at P r each one n a some id named =
    let t = is_there n a r one some in
    subst (λ k. P k (numbered n a)) (some_is t.id id (sym t.named ∙ named))
    (each t.id (numbered n a) t.there)

-- what is stored under an ID is what is stored of the request with its number
pub stored_one : (id : ℕ) (q : Request AskedSeen) (r : All) → IsOne r
    → datum_at id r.table.attached ≡ Some q
    → (id_at q.number r.numbers ≡ Some id) × (datum_of q.number r ≡ Some q.datum)
stored_one id q r one there =
    let named : id_at q.number r.numbers ≡ Some id =
    one.named id q.number
    (ap (λ (o : Option (Request AskedSeen)). option_map (λ x. x.number) o) there) in (
      named,
      ap (λ (o : Option (Request AskedSeen)). option_map (λ x. x.datum) o)
          (ap (λ o. option_and_then (λ k. datum_at k r.table.attached) o) named ∙ there),
    )

abbrev pub with_at : ℕ → AskedSeen → All → ℕ → All
with_at n w r id = record r { table = with_other_datum id (numbered n w) r.table }

-- what is stored of a request once something else was
pub replaced_is : (n : ℕ) (w b : AskedSeen) (r : All)
    → datum_of n (after_replacing n w r) ≡ Some b → w ≡ b
replaced_is n w b r some = by (id_at n r.numbers) refl some
  where
    found : (id : ℕ) (o : Option (Request AskedSeen))
        → datum_at id (set_datum id (numbered n w) r.table.attached) ≡ o
        → option_map (λ x. x.datum) o ≡ Some b → w ≡ b
    found id None there is = cc
    found id (Some q) there is =
        let same : numbered n w ≡ q =
        set_is (is_at (nat_cmp id)) r.table.attached (numbered n w) q there in
        ap (λ (x : Request AskedSeen). x.datum) same ∙ some_is q.datum b is

    by : (o : Option ℕ) → id_at n r.numbers ≡ o
        → datum_of n (option_map_or (λ id. with_at n w r id) o r) ≡ Some b → w ≡ b
    by None is some =
        let gone : datum_of n r ≡ None =
        ap (λ o. option_map (λ (x : Request AskedSeen). x.datum)
        (option_and_then (λ id. datum_at id r.table.attached) o)) is in
        let clash : ◌≡◌ {A = Option AskedSeen} None (Some b) = sym gone ∙ some in
        cc
    by (Some id) is some =
        found id (datum_at id (set_datum id (numbered n w) r.table.attached)) refl
        (sym (ap (λ o. option_map (λ (x : Request AskedSeen). x.datum)
        (option_and_then (λ k. datum_at k (with_at n w r id).table.attached) o)) is) ∙ some)

-- ---- the next number

-- what changes no next number
pub same_next : (r : All) (f : ℕ → All) (o : Option ℕ) → ((id : ℕ) → (f id).next ≡ r.next)
    → (option_map_or f o r).next ≡ r.next
same_next r f None each = refl
same_next r f (Some id) each = each id
