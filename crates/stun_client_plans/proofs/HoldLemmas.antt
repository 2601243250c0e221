-- What each change of the requests of a client leaves of one of them.
use Rattle.std.proofs.Common.{◌≡◌, ◌∙◌, ℕ, Bool, false, List, Option, Some, None, ap, refl, subst}
use Rattle.std.proofs.Common.{sym}
use Rattle.std.specs.BTreeMap.{is_at}
use Rattle.std.specs.Option.{option_and_then, option_map, option_map_or}
use Rattle.std.specs.Ordering.{nat_cmp}
use Rattle.stun_base.specs.declared.wire.transport.TransportType.{TransportType}
use Rattle.stun_agent.specs.Statistics.{Tally, request_cancelled, response_received}
use Rattle.stun_agent.specs.Tables.{TableSeen, after_answer, after_cancel, after_sending, counted}
use Rattle.stun_agent.specs.Tables.{datum_at, request_in, with_other_datum, without_request}
use Rattle.stun_agent.specs.Timing.{Settings}
use Rattle.stun_agent.specs.Transactions.{Transaction, round_trip, at as transaction_at}
use Rattle.stun_agent.proofs.Ascending.{lookup-insert_other, lookup-remove_other, lookup-set_other}
use Rattle.stun_client_requests.specs.Numbers.{NumbersSeen, after_end, after_mark, after_put}
use Rattle.stun_client_requests.specs.Numbers.{after_removal, after_rename, id_at, id_in, known_at}
use Rattle.stun_client_requests.specs.OneTable.{IsOneTable}
use Rattle.stun_client_requests.specs.Requests.{Answering, RequestsSeen, after_again}
use Rattle.stun_client_requests.specs.Requests.{after_answering, after_canceling, after_removing}
use Rattle.stun_client_requests.specs.Requests.{after_replacing, after_start, number_at}
use Rattle.stun_client_requests.specs.declared.numbers.Known.TheVariants.{Ended, Outstanding}
use Rattle.stun_client_requests.specs.declared.requests.Request.{Request}
use Rattle.stun_client_requests.proofs.NumberLemmas.{apart}
use Rattle.stun_client_requests.proofs.RequestLemmas.{set_same}
use Rattle.stun_client_calls.specs.Endpoints.{EndSeen}
use Rattle.stun_client_calls.specs.Messages.{AskedSeen}
use Rattle.stun_client_plans.proofs.TimesLemmas.{one_if, times, times_insert_other}
use Rattle.stun_client_plans.proofs.TimesLemmas.{times_remove_other}

abbrev pub All : Type 0
All = RequestsSeen AskedSeen EndSeen

abbrev pub Table : Type 0
Table = TableSeen (Request AskedSeen)

abbrev pub IsOne : All → Type 0
IsOne r = IsOneTable r.table.attached r.numbers r.next

pub some_is : {X : Type 0} (x y : X) → Some x ≡ Some y → x ≡ y
some_is x y e = cc

-- an outstanding request, as it stands: its transaction ID, what is stored of it, its timer, and
-- whether its bytes are still to be handed out for the first time
pub record Holds (transport : TransportType) (n id : ℕ) (q : Request AskedSeen) (t : Transaction)
    (is_unsent : Bool) (r : All) : Type 0 where
  pub transport_is : r.table.transport ≡ transport
  pub named : id_at n r.numbers ≡ Some id
  pub there : datum_at id r.table.attached ≡ Some q
  pub timed : transaction_at id r.table.requests ≡ Some t
  pub unsent : times n r.numbers.unsent ≡ one_if is_unsent

-- ---- tables

-- a table has the transport of another one, and at an ID what that has
pub record Leaves (id : ℕ) (t after : Table) : Type 0 where
  pub transport : after.transport ≡ t.transport
  pub datum : datum_at id after.attached ≡ datum_at id t.attached
  pub timer : transaction_at id after.requests ≡ transaction_at id t.requests

pub leaves_itself : (id : ℕ) (t : Table) → Leaves id t t
leaves_itself id t = record { transport = refl; datum = refl; timer = refl }

pub leaves_then : (id : ℕ) (t u v : Table) → Leaves id t u → Leaves id u v → Leaves id t v
leaves_then id t u v one then = record {
  transport = then.transport ∙ one.transport;
  datum = then.datum ∙ one.datum;
  timer = then.timer ∙ one.timer;
}

pub out_leaves : (id other : ℕ) (tally : Tally) (t : Table) → (other ≡ id → ⊥)
    → Leaves id t (counted tally (without_request other t))
out_leaves id other tally t differ =
    let off : is_at (nat_cmp id) other ≡ false = apart id other (λ same. differ (sym same)) in
    record {
      transport = refl;
      datum = lookup-remove_other id other t.attached off;
      timer = lookup-remove_other id other t.requests off;
    }

pub cancel_leaves : (id other : ℕ) (t : Table) → (other ≡ id → ⊥)
    → Leaves id t (after_cancel other t)
cancel_leaves id other t differ = by (transaction_at other t.requests)
  where
    by : (o : Option Transaction) → Leaves id t
        (option_map_or (λ x. counted request_cancelled (without_request other t)) o t)
    by None = leaves_itself id t
    by (Some x) = out_leaves id other request_cancelled t differ

pub answer_leaves : (id other count : ℕ) (moment : Option ℕ) (t : Table) → (other ≡ id → ⊥)
    → Leaves id t (after_answer other count moment t)
answer_leaves id other count moment t differ = by (transaction_at other t.requests)
  where
    by : (o : Option Transaction) → Leaves id t
        (option_map_or
        (λ x. counted (response_received count (round_trip moment x)) (without_request other t))
        o t)
    by None = leaves_itself id t
    by (Some x) = out_leaves id other (response_received count (round_trip moment x)) t differ

pub sending_leaves : (id other : ℕ) (bytes : List ℕ) (plan : Settings) (q : Request AskedSeen)
    (now : ℕ) (t : Table) → (other ≡ id → ⊥) → Leaves id t (after_sending other bytes plan q now t)
sending_leaves id other bytes plan q now t differ =
    let off : is_at (nat_cmp id) other ≡ false = apart id other (λ same. differ (sym same)) in
    record {
      transport = refl;
      datum = lookup-insert_other id other q t.attached off;
      timer = lookup-insert_other id other (request_in t bytes plan now) t.requests off;
    }

pub setting_leaves : (id other : ℕ) (q : Request AskedSeen) (t : Table) → (other ≡ id → ⊥)
    → Leaves id t (with_other_datum other q t)
setting_leaves id other q t differ = record {
  transport = refl;
  datum = lookup-set_other id other q t.attached (apart id other (λ same. differ (sym same)));
  timer = refl;
}

-- ---- numbers

-- of one number the same is known, and it is as often among those whose bytes were not handed out
pub record Spares (n : ℕ) (s after : NumbersSeen EndSeen) : Type 0 where
  pub known : known_at n after.known ≡ known_at n s.known
  pub unsent : times n after.unsent ≡ times n s.unsent

module _ (n m : ℕ) (s : NumbersSeen EndSeen) (differ : m ≡ n → ⊥) where
  off : is_at (nat_cmp n) m ≡ false
  off = apart n m (λ same. differ (sym same))

  pub put_spares : (id : ℕ) → Spares n s (after_put m id s)
  put_spares id = record {
    known = lookup-insert_other n m (Outstanding id) s.known off;
    unsent = times_insert_other n m s.unsent differ;
  }

  pub removal_spares : Spares n s (after_removal m s)
  removal_spares = record {
    known = lookup-remove_other n m s.known off;
    unsent = times_remove_other n m s.unsent differ;
  }

  pub end_spares : (end : EndSeen) → Spares n s (after_end m end s)
  end_spares end = record {
    known = lookup-insert_other n m (Ended end) s.known off;
    unsent = times_remove_other n m s.unsent differ;
  }

  pub again_spares : (id : ℕ) → Spares n s (after_rename m id (after_mark m s))
  again_spares id = record {
    known = lookup-insert_other n m (Outstanding id) s.known off;
    unsent = times_insert_other n m s.unsent differ;
  }

-- ---- requests

-- what is left of the request where its table and the numbers are others
pub held_over : (transport : TransportType) (n id : ℕ) (q : Request AskedSeen) (t : Transaction)
    (u : Bool) (r after : All) → Holds transport n id q t u r → Leaves id r.table after.table
    → Spares n r.numbers after.numbers → Holds transport n id q t u after
held_over transport n id q t u r after h leaves spares = record {
  transport_is = leaves.transport ∙ h.transport_is;
  named = ap (λ o. option_and_then id_in o) spares.known ∙ h.named;
  there = leaves.datum ∙ h.there;
  timed = leaves.timer ∙ h.timed;
  unsent = spares.unsent ∙ h.unsent;
}

-- no two requests have one transaction ID
pub ids_apart : (n m id other : ℕ) (r : All) → IsOne r → id_at n r.numbers ≡ Some id
    → id_at m r.numbers ≡ Some other → (m ≡ n → ⊥) → other ≡ id → ⊥
ids_apart n m id other r one named another differ same =
    differ (some_is m n
    (sym (subst (λ k. number_at k r.table.attached ≡ Some m) same (one.timed m other another))
    ∙ one.timed n id named))

module _ (transport : TransportType) (n id : ℕ) (q : Request AskedSeen) (t : Transaction) (u : Bool)
    (r : All) (one : IsOne r) (h : Holds transport n id q t u r) where
  pub number_is : q.number ≡ n
  number_is =
      some_is q.number n
      (sym (ap (λ (o : Option (Request AskedSeen)). option_map (λ x. x.number) o) h.there)
      ∙ one.timed n id h.named)

  -- a change of another request, if it is outstanding
  other_holds : (m : ℕ) (f : ℕ → All) → (m ≡ n → ⊥)
      → ((other : ℕ) → (other ≡ id → ⊥) → Holds transport n id q t u (f other))
      → Holds transport n id q t u (option_map_or f (id_at m r.numbers) r)
  other_holds m f differ each = by (id_at m r.numbers) refl
    where
      by : (o : Option ℕ) → id_at m r.numbers ≡ o
          → Holds transport n id q t u (option_map_or f o r)
      by None is = h
      by (Some other) is = each other (ids_apart n m id other r one h.named is differ)

  pub replacing_holds : (m : ℕ) (datum : AskedSeen) → (m ≡ n → ⊥)
      → Holds transport n id q t u (after_replacing m datum r)
  replacing_holds m datum differ =
      other_holds m _ differ
      (λ other off. held_over transport n id q t u r
      (record r { table = with_other_datum other (record { number = m; datum = datum }) r.table }) h
      (setting_leaves id other (record { number = m; datum = datum }) r.table off)
      (record { known = refl; unsent = refl }))

  pub answering_holds : (m count : ℕ) (moment : Option ℕ) (end : EndSeen) → (m ≡ n → ⊥)
      → Holds transport n id q t u (after_answering m count moment end r)
  answering_holds m count moment end differ =
      other_holds m _ differ
      (λ other off. held_over transport n id q t u r (record r {
        table = after_answer other count moment r.table;
        numbers = after_end m end r.numbers;
      }) h (answer_leaves id other count moment r.table off) (end_spares n m r.numbers differ end))

  pub canceling_holds : (m : ℕ) (end : EndSeen) → (m ≡ n → ⊥)
      → Holds transport n id q t u (after_canceling m end r)
  canceling_holds m end differ =
      other_holds m _ differ
      (λ other off. held_over transport n id q t u r (record r {
        table = after_cancel other r.table;
        numbers = after_end m end r.numbers;
      }) h (cancel_leaves id other r.table off) (end_spares n m r.numbers differ end))

  pub removing_holds : (m : ℕ) → (m ≡ n → ⊥) → Holds transport n id q t u (after_removing m r)
  removing_holds m differ =
      other_holds m _ differ
      (λ other off. held_over transport n id q t u r (record r {
        table = after_cancel other r.table;
        numbers = after_removal m r.numbers;
      }) h (cancel_leaves id other r.table off) (removal_spares n m r.numbers differ))

  pub starting_holds : (new : ℕ) (bytes : List ℕ) (plan : Settings) (datum : AskedSeen) (now : ℕ)
      → (new ≡ id → ⊥) → (r.next ≡ n → ⊥)
      → Holds transport n id q t u (after_start new bytes plan datum now r)
  starting_holds new bytes plan datum now off differ =
      held_over transport n id q t u r (after_start new bytes plan datum now r) h
      (sending_leaves id new bytes plan (record { number = r.next; datum = datum }) now r.table off)
      (put_spares n r.next r.numbers differ new)

  pub again_holds : (m new : ℕ) (a : Answering) (bytes : List ℕ) (plan : Settings)
      (datum : AskedSeen) (now : ℕ) → (new ≡ id → ⊥) → (m ≡ n → ⊥)
      → Holds transport n id q t u (after_again m a new bytes plan datum now r)
  again_holds m new a bytes plan datum now off differ =
      other_holds m _ differ
      (λ former other. held_over transport n id q t u r (record r {
        table = after_answer former a.count a.moment (sent_by former);
        numbers = after_rename m new (after_mark m r.numbers);
      }) h
      (leaves_then id r.table (sent_by former) (after_answer former a.count a.moment
      (sent_by former))
      (sending_leaves id new bytes plan (record { number = m; datum = datum }) now r.table off)
      (answer_leaves id former a.count a.moment (sent_by former) other))
      (again_spares n m r.numbers differ new))
    where
      sent_by : ℕ → Table
      sent_by former =
          after_sending new bytes plan (record { number = m; datum = datum }) now r.table

  -- something else is stored of it
  pub own_holds : (datum : AskedSeen)
      → Holds transport n id (record { number = n; datum = datum }) t u (after_replacing n datum r)
  own_holds datum =
      subst (λ o. Holds transport n id (record { number = n; datum = datum }) t u
      (option_map_or (λ k. record r {
        table = with_other_datum k (record { number = n; datum = datum }) r.table;
      }) o r)) (sym h.named) (record {
        transport_is = h.transport_is;
        named = h.named;
        there = set_same id q (record { number = n; datum = datum }) r.table.attached h.there;
        timed = h.timed;
        unsent = h.unsent;
      })
