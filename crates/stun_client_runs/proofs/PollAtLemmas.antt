-- What a poll of the table says of its requests, and what it leaves of them.
use Rattle.std.proofs.Common.{◌≡◌, ◌∙◌, ℕ, false, Option, Some, None}
use Rattle.std.proofs.Common.{ap, refl, subst, sym}
use Rattle.std.specs.Option.{IsSome, is_some, option_and_then, option_map}
use Rattle.stun_agent.specs.Tables.{after_transmission, datum_at, over_in}
use Rattle.stun_agent.specs.Transactions.{Transaction, at as transaction_at}
use Rattle.stun_client_requests.specs.Numbers.{end_of_first, first_unsent, id_at}
use Rattle.stun_client_requests.specs.Requests.{bytes_at}
use Rattle.stun_client_requests.specs.Requests.{datum_of, ends_or, over, over_or, polled, repeated}
use Rattle.stun_client_requests.specs.Requests.{repeats_or, unsent_or}
use Rattle.stun_client_requests.specs.declared.requests.Polled.{Polled}
use Rattle.stun_client_requests.specs.declared.requests.Polled.TheVariants as Of
use Rattle.stun_client_requests.specs.declared.requests.Request.{Request}
use Rattle.stun_client_requests.proofs.NumberLemmas.{Ascend}
use Rattle.stun_client_requests.proofs.RequestLemmas.{attached_sent}
use Rattle.stun_client_requests.proofs.TimelyLemmas.{named_is_one}
use Rattle.stun_client_calls.specs.Endpoints.{EndSeen}
use Rattle.stun_client_calls.specs.Messages.{AskedSeen}
use Rattle.stun_client_calls.proofs.EachLemmas.{Stored}
use Rattle.stun_client_calls.proofs.TurnLemmas.{All, IsOne}
use Rattle.stun_client_runs.proofs.EachAtLemmas.{Each, datum_in, is_there, numbered, over_each}
use Rattle.stun_client_runs.proofs.EachAtLemmas.{stored_one}

-- the requests once what is due is retransmitted
abbrev sent_again : ℕ → All → All
sent_again now r = record r { table = after_transmission now r.table }

pub polls_each : (P : ℕ → Request AskedSeen → Type 0) (r : All) → Each P r.table.attached
    → Ascend r.table.attached → (now : ℕ) → Each P (polled now r).1.table.attached
unfolding polled
polls_each P r each sorted now = unsent (first_unsent r.numbers)
  where
    still : Each P (sent_again now r).table.attached
    still = subst (λ (es : Stored). Each P es) (sym (attached_sent r.table now)) each

    ordered : Ascend (sent_again now r).table.attached
    ordered = subst (λ (es : Stored). Ascend es) (sym (attached_sent r.table now)) sorted

    times : (o : Option (Request AskedSeen))
        → Each P (over_or now (sent_again now r) o).1.table.attached
    times None = still
    times (Some q) = over_each P (sent_again now r).table still ordered now

    ended : (o : Option (ℕ × EndSeen))
        → Each P (ends_or now (sent_again now r) o).1.table.attached
    ended None = times (over now (sent_again now r).table)
    ended (Some p) = still

    again : (o : Option ℕ) → Each P (repeats_or now (sent_again now r) o).1.table.attached
    again (Some k) = still
    again None = ended (end_of_first r.numbers)

    unsent : (o : Option ℕ) → Each P (unsent_or now r o).1.table.attached
    unsent (Some k) = each
    unsent None = again (repeated now r.table)

pub poll_next : (now : ℕ) (r : All) → (polled now r).1.next ≡ r.next
unfolding polled
poll_next now r = unsent (first_unsent r.numbers)
  where
    times : (o : Option (Request AskedSeen)) → (over_or now (sent_again now r) o).1.next ≡ r.next
    times None = refl
    times (Some q) = refl

    ended : (o : Option (ℕ × EndSeen)) → (ends_or now (sent_again now r) o).1.next ≡ r.next
    ended None = times (over now (sent_again now r).table)
    ended (Some p) = refl

    again : (o : Option ℕ) → (repeats_or now (sent_again now r) o).1.next ≡ r.next
    again (Some k) = refl
    again None = ended (end_of_first r.numbers)

    unsent : (o : Option ℕ) → (unsent_or now r o).1.next ≡ r.next
    unsent (Some k) = refl
    unsent None = again (repeated now r.table)

abbrev Says : Type 0
Says = Polled AskedSeen EndSeen

timed_number : (x y : ℕ) (a b : AskedSeen) → ◌≡◌ {A = Says} (Of.TimedOut x a) (Of.TimedOut y b)
    → x ≡ y
timed_number x y a b is = cc

timed_datum : (x y : ℕ) (a b : AskedSeen) → ◌≡◌ {A = Says} (Of.TimedOut x a) (Of.TimedOut y b)
    → a ≡ b
timed_datum x y a b is = cc

-- a request whose time is over is stored
pub timed_is : (now : ℕ) (r : All) (n : ℕ) (a : AskedSeen) → IsOne r
    → (polled now r).0 ≡ Of.TimedOut n a → datum_of n r ≡ Some a
unfolding polled
timed_is now r n a one = unsent (first_unsent r.numbers)
  where
    found : (q : Request AskedSeen) (o : Option (ℕ × Transaction))
        → option_and_then (λ e. datum_at e.0 (sent_again now r).table.attached) o ≡ Some q
        → datum_of q.number r ≡ Some q.datum
    found q None is = cc
    found q (Some e) is =
        (stored_one e.0 q r one
        (ap (λ (es : Stored). datum_at e.0 es) (sym (attached_sent r.table now)) ∙ is)).1

    times : (o : Option (Request AskedSeen)) → over now (sent_again now r).table ≡ o
        → (over_or now (sent_again now r) o).0 ≡ Of.TimedOut n a → datum_of n r ≡ Some a
    times None was is = cc
    times (Some q) was is =
        subst (λ k. datum_of k r ≡ Some a) (timed_number q.number n q.datum a is)
        (found q (over_in now (sent_again now r).table) was
        ∙ ap (λ (x : AskedSeen). Some x) (timed_datum q.number n q.datum a is))

    ended : (o : Option (ℕ × EndSeen)) → (ends_or now (sent_again now r) o).0 ≡ Of.TimedOut n a
        → datum_of n r ≡ Some a
    ended None is = times (over now (sent_again now r).table) refl is
    ended (Some p) is = cc

    again : (o : Option ℕ) → (repeats_or now (sent_again now r) o).0 ≡ Of.TimedOut n a
        → datum_of n r ≡ Some a
    again (Some k) is = cc
    again None is = ended (end_of_first r.numbers) is

    unsent : (o : Option ℕ) → (unsent_or now r o).0 ≡ Of.TimedOut n a → datum_of n r ≡ Some a
    unsent (Some k) is = cc
    unsent None is = again (repeated now r.table) is

-- what is stored of a request whose bytes are asked for was stored before
pub sent_datum : (now : ℕ) (r : All) (n : ℕ) (a : AskedSeen) → IsOne r
    → (polled now r).0 ≡ Of.Transmit n → datum_of n (polled now r).1 ≡ Some a
    → datum_of n r ≡ Some a
sent_datum now r n a one says some =
    let t = is_there n a (polled now r).1 (named_is_one now n r one says) some in
    (stored_one t.id (numbered n a) r one
    (polls_each (λ id q. datum_at id r.table.attached ≡ Some q) r (λ id q there. there) one.in_order
    now t.id (numbered n a) t.there)).1

-- a request whose bytes are there is outstanding
pub record IsOutstanding (number : ℕ) (r : All) : Type 0 where
  pub asked : AskedSeen
  pub there : datum_of number r ≡ Some asked

pub outstanding : (number : ℕ) (r : All) → IsOne r → IsSome (bytes_at number r)
    → IsOutstanding number r
outstanding number r one some = by (id_at number r.numbers) refl
  where
    stored : (id : ℕ) → id_at number r.numbers ≡ Some id
        → (o : Option (Request AskedSeen)) → datum_at id r.table.attached ≡ o
        → option_map (λ q. q.number) o ≡ Some number → IsOutstanding number r
    stored id named None there numbers = cc
    stored id named (Some q) there numbers = record {
      asked = q.datum;
      there = ap (λ o. datum_in r o) named
          ∙ ap (λ (o : Option (Request AskedSeen)). option_map (λ x. x.datum) o) there;
    }

    by : (o : Option ℕ) → id_at number r.numbers ≡ o → IsOutstanding number r
    by None named =
        let none : is_some (bytes_at number r) ≡ false =
        ap (λ o. is_some (option_and_then (λ id. option_map (λ (t : Transaction). t.bytes)
        (transaction_at id r.table.requests)) o)) named in
        cc
    by (Some id) named =
        stored id named (datum_at id r.table.attached) refl (one.timed number id named)
