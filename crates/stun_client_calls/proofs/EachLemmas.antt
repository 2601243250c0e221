-- What holds of each stored request holds of each after a call of the table, if it holds of the
-- request that the call stores.
use Rattle.std.proofs.Common.{◌≡◌, ◌∙◌, ◌⊎◌, ℕ, Bool, true, false, List, [], ◌∷◌, Option, Some}
use Rattle.std.proofs.Common.{None, ap, cond, inl, inr, refl, subst, sym}
use Rattle.std.specs.BTreeMap.{is_at}
use Rattle.std.specs.Map.{lookup, set_value}
use Rattle.std.specs.Option.{option_map_or}
use Rattle.std.specs.Ordering.{nat_cmp}
use Rattle.stun_agent.specs.Agent.{tally_of_end}
use Rattle.stun_agent.specs.Statistics.{Tally, request_cancelled, response_received}
use Rattle.stun_agent.specs.Tables.{Attached, TableSeen, after_answer, after_cancel, after_sending}
use Rattle.stun_agent.specs.Tables.{after_transmission, counted, datum_at, over_in, set_datum}
use Rattle.stun_agent.specs.Tables.{with_datum, with_other_datum, without_datum, without_request}
use Rattle.stun_agent.specs.Timing.{Settings}
use Rattle.stun_agent.specs.Transactions.{Transaction, at, round_trip}
use Rattle.stun_agent.proofs.Ascending.{IsAscending-insert}
use Rattle.stun_client_requests.specs.Numbers.{after_end, after_mark, after_removal, after_rename}
use Rattle.stun_client_requests.specs.Numbers.{end_of_first, first_unsent, id_at}
use Rattle.stun_client_requests.specs.Requests.{Answering, after_again, after_answering}
use Rattle.stun_client_requests.specs.Requests.{after_canceling, after_removing, after_replacing}
use Rattle.stun_client_requests.specs.Requests.{after_start, ends_or, over, over_or, polled}
use Rattle.stun_client_requests.specs.Requests.{repeated, repeats_or, unsent_or}
use Rattle.stun_client_requests.specs.declared.requests.Request.{Request}
use Rattle.stun_client_requests.proofs.NumberLemmas.{Ascend}
use Rattle.stun_client_requests.proofs.RequestLemmas.{at_insert, at_remove, attached_sent}
use Rattle.stun_client_calls.specs.Endpoints.{EndSeen}
use Rattle.stun_client_calls.specs.Messages.{AskedSeen}
use Rattle.stun_client_calls.proofs.TurnLemmas.{All, some_is}

abbrev pub Stored : Type 0
Stored = Attached (Request AskedSeen)

-- ---- each request of a table

abbrev pub Each : (Request AskedSeen → Type 0) → Stored → Type 0
Each P all = (id : ℕ) (q : Request AskedSeen) → datum_at id all ≡ Some q → P q

-- an entry of a list with another value is that value, or it was there
set_from : {X : Type 0} (t p : ℕ → Bool) (es : List (ℕ × X)) (w q : X)
    → lookup t (set_value p es w) ≡ Some q → (w ≡ q) ⊎ (lookup t es ≡ Some q)
set_from t p [] w q there = cc
set_from {X} t p (e ∷ es) w q there = by (p e.0) there (set_from t p es w q)
  where
    first : (c : Bool) → cond c (Some w) (lookup t es) ≡ Some q
        → (w ≡ q) ⊎ (cond c (Some e.1) (lookup t es) ≡ Some q)
    first true is = inl (some_is w q is)
    first false is = inr is

    other : (c : Bool) → cond c (Some e.1) (lookup t (set_value p es w)) ≡ Some q
        → (lookup t (set_value p es w) ≡ Some q → (w ≡ q) ⊎ (lookup t es ≡ Some q))
        → (w ≡ q) ⊎ (cond c (Some e.1) (lookup t es) ≡ Some q)
    other true is rest = inr is
    other false is rest = rest is

    by : (b : Bool) → lookup t (cond b ((e.0, w) ∷ es) (e ∷ set_value p es w)) ≡ Some q
        → (lookup t (set_value p es w) ≡ Some q → (w ≡ q) ⊎ (lookup t es ≡ Some q))
        → (w ≡ q) ⊎ (cond (t e.0) (Some e.1) (lookup t es) ≡ Some q)
    by true is rest = first (t e.0) is
    by false is rest = other (t e.0) is rest

module _ (P : Request AskedSeen → Type 0) where
  pub put_each : (all : Stored) → Each P all → (k : ℕ) (w : Request AskedSeen) → P w
      → Each P (with_datum k w all)
  put_each all each k w own id q there = by (is_at (nat_cmp k) id) refl
    where
      by : (b : Bool) → is_at (nat_cmp k) id ≡ b → P q
      by true is =
          subst P (some_is w q
          (sym (at_insert k w all id ∙ ap (λ b. cond b (Some w) (datum_at id all)) is) ∙ there)) own
      by false is =
          each id q
          (sym (at_insert k w all id ∙ ap (λ b. cond b (Some w) (datum_at id all)) is) ∙ there)

  pub left_each : (all : Stored) → Each P all → Ascend all → (k : ℕ) → Each P (without_datum k all)
  left_each all each sorted k id q there = by (is_at (nat_cmp k) id) refl
    where
      by : (b : Bool) → is_at (nat_cmp k) id ≡ b → P q
      by true is =
          let none : datum_at id (without_datum k all) ≡ None =
          at_remove k all sorted id ∙ ap (λ b. cond b None (datum_at id all)) is in
          cc
      by false is =
          each id q
          (sym (at_remove k all sorted id ∙ ap (λ b. cond b None (datum_at id all)) is) ∙ there)

  pub set_each : (all : Stored) → Each P all → (k : ℕ) (w : Request AskedSeen) → P w
      → Each P (set_datum k w all)
  set_each all each k w own id q there =
      by (set_from (is_at (nat_cmp id)) (is_at (nat_cmp k)) all w q there)
    where
      by : (w ≡ q) ⊎ (datum_at id all ≡ Some q) → P q
      by (inl same) = subst P same own
      by (inr here) = each id q here

  -- ---- over a call of the table

  pub start_each : (r : All) → Each P r.table.attached → (id : ℕ) (bytes : List ℕ)
      → (plan : Settings) (datum : AskedSeen) (now : ℕ)
      → P (record { number = r.next; datum = datum })
      → Each P (after_start id bytes plan datum now r).table.attached
  start_each r each id bytes plan datum now own =
      put_each r.table.attached each id (record { number = r.next; datum = datum }) own

  pub replace_each : (r : All) → Each P r.table.attached → (n : ℕ) (datum : AskedSeen)
      → P (record { number = n; datum = datum })
      → Each P (after_replacing n datum r).table.attached
  replace_each r each n datum own = by (id_at n r.numbers)
    where
      by : (o : Option ℕ) → Each P (option_map_or (λ id. record r {
        table = with_other_datum id (record { number = n; datum = datum }) r.table;
      }) o r).table.attached
      by None = each
      by (Some id) =
          set_each r.table.attached each id (record { number = n; datum = datum }) own

  -- a request that ends, if it is there
  out_each : (t : TableSeen (Request AskedSeen)) → Each P t.attached → Ascend t.attached → (id : ℕ)
      → (tally : Transaction → Tally) (o : Option Transaction)
      → Each P (option_map_or (λ x. counted (tally x) (without_request id t)) o t).attached
  out_each t each sorted id tally None = each
  out_each t each sorted id tally (Some x) = left_each t.attached each sorted id

  pub answer_each : (r : All) → Each P r.table.attached → Ascend r.table.attached → (n count : ℕ)
      → (moment : Option ℕ) (end : EndSeen)
      → Each P (after_answering n count moment end r).table.attached
  answer_each r each sorted n count moment end = by (id_at n r.numbers)
    where
      by : (o : Option ℕ) → Each P (option_map_or (λ id. record r {
        table = after_answer id count moment r.table;
        numbers = after_end n end r.numbers;
      }) o r).table.attached
      by None = each
      by (Some id) =
          out_each r.table each sorted id (λ t. response_received count (round_trip moment t))
          (at id r.table.requests)

  pub cancel_each : (r : All) → Each P r.table.attached → Ascend r.table.attached → (n : ℕ)
      → (end : EndSeen) → Each P (after_canceling n end r).table.attached
  cancel_each r each sorted n end = by (id_at n r.numbers)
    where
      by : (o : Option ℕ) → Each P (option_map_or (λ id. record r {
        table = after_cancel id r.table;
        numbers = after_end n end r.numbers;
      }) o r).table.attached
      by None = each
      by (Some id) =
          out_each r.table each sorted id (λ t. request_cancelled)
          (at id r.table.requests)

  pub remove_each : (r : All) → Each P r.table.attached → Ascend r.table.attached → (n : ℕ)
      → Each P (after_removing n r).table.attached
  remove_each r each sorted n = by (id_at n r.numbers)
    where
      by : (o : Option ℕ) → Each P (option_map_or (λ id. record r {
        table = after_cancel id r.table;
        numbers = after_removal n r.numbers;
      }) o r).table.attached
      by None = each
      by (Some id) =
          out_each r.table each sorted id (λ t. request_cancelled)
          (at id r.table.requests)

  -- a request is sent by another message
  pub again_each : (r : All) → Each P r.table.attached → Ascend r.table.attached → (n : ℕ)
      → (x : Answering) (id : ℕ) (bytes : List ℕ) (plan : Settings) (datum : AskedSeen) (now : ℕ)
      → P (record { number = n; datum = datum })
      → Each P (after_again n x id bytes plan datum now r).table.attached
  again_each r each sorted n x id bytes plan datum now own = by (id_at n r.numbers)
    where
      sent : TableSeen (Request AskedSeen)
      sent = after_sending id bytes plan (record { number = n; datum = datum }) now r.table

      by : (o : Option ℕ) → Each P (option_map_or (λ former. record r {
        table = after_answer former x.count x.moment sent;
        numbers = after_rename n id (after_mark n r.numbers);
      }) o r).table.attached
      by None = each
      by (Some former) =
          out_each sent
          (put_each r.table.attached each id (record { number = n; datum = datum }) own)
          (IsAscending-insert r.table.attached id (record { number = n; datum = datum }) sorted)
          former (λ t. response_received x.count (round_trip x.moment t)) (at former sent.requests)

  over_each : (r : All) → Each P r.table.attached → Ascend r.table.attached → (now : ℕ)
      → (o : Option (Request AskedSeen)) → Each P (over_or now r o).1.table.attached
  over_each r each sorted now None = each
  over_each r each sorted now (Some q) = by (over_in now r.table)
    where
      by : (o : Option (ℕ × Transaction))
          → Each P
          (option_map_or (λ e. counted (tally_of_end e.1) (without_request e.0 r.table)) o
          r.table).attached
      by None = each
      by (Some e) = left_each r.table.attached each sorted e.0

  pub polls_each : (r : All) → Each P r.table.attached → Ascend r.table.attached → (now : ℕ)
      → Each P (polled now r).1.table.attached
  unfolding polled
  polls_each r each sorted now = unsent (first_unsent r.numbers)
    where
      again_at : All
      again_at = record r { table = after_transmission now r.table }

      still : Each P again_at.table.attached
      still = subst (λ (es : Stored). Each P es) (sym (attached_sent r.table now)) each

      ordered : Ascend again_at.table.attached
      ordered = subst Ascend (sym (attached_sent r.table now)) sorted

      ended : (o : Option (ℕ × EndSeen)) → Each P (ends_or now again_at o).1.table.attached
      ended None = over_each again_at still ordered now (over now again_at.table)
      ended (Some p) = still

      again : (o : Option ℕ) → Each P (repeats_or now again_at o).1.table.attached
      again (Some k) = still
      again None = ended (end_of_first again_at.numbers)

      unsent : (o : Option ℕ) → Each P (unsent_or now r o).1.table.attached
      unsent (Some k) = each
      unsent None = again (repeated now r.table)
