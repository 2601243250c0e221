-- A change of what is stored of a request, or its end, leaves what is stored of each other one.
use Rattle.std.proofs.Common.{◌≡◌, ◌∙◌, ℕ, false, Option, Some, None, ap, cond, refl, subst, sym}
use Rattle.std.specs.BTreeMap.{is_at}
use Rattle.std.specs.Option.{option_and_then, option_map, option_map_or}
use Rattle.std.specs.Ordering.{nat_cmp}
use Rattle.std.specs.Prelude.{◌≢◌}
use Rattle.stun_agent.specs.Statistics.{response_received}
use Rattle.stun_agent.specs.Tables.{after_answer, counted, datum_at, without_request}
use Rattle.stun_agent.specs.Transactions.{Transaction, at, round_trip}
use Rattle.stun_agent.proofs.Ascending.{lookup-insert_other, lookup-set_other}
use Rattle.stun_client_requests.specs.Numbers.{after_end, id_at, id_in}
use Rattle.stun_client_requests.specs.Requests.{after_answering, after_replacing, datum_of}
use Rattle.stun_client_requests.specs.Requests.{number_at}
use Rattle.stun_client_requests.specs.declared.numbers.Known.TheVariants.{Ended}
use Rattle.stun_client_requests.specs.declared.requests.Request.{Request}
use Rattle.stun_client_requests.proofs.NumberLemmas.{apart}
use Rattle.stun_client_requests.proofs.RequestLemmas.{at_remove, differs}
use Rattle.stun_client_calls.specs.Clients.{changed, changed_at}
use Rattle.stun_client_calls.specs.Endpoints.{EndSeen}
use Rattle.stun_client_calls.specs.Messages.{AskedSeen}
use Rattle.stun_client_calls.specs.declared.asked.Change.{Change}
use Rattle.stun_client_calls.proofs.TurnLemmas.{All, IsOne, some_is}
use Rattle.stun_client_runs.proofs.EachAtLemmas.{datum_in, numbered, with_at}

module _ (n other : ℕ) (another : other ≢ n) (r : All) (one : IsOne r) where
  -- IDs of two requests differ
  other_id : (k j : ℕ) → id_at n r.numbers ≡ Some k → id_at other r.numbers ≡ Some j
      → is_at (nat_cmp k) j ≡ false
  other_id k j named named_other = apart k j wrong
    where
      wrong : k ≡ j → ⊥
      wrong same =
          let first : number_at j r.table.attached ≡ Some n =
          subst (λ i. number_at i r.table.attached ≡ Some n) same (one.timed n k named) in
          another (some_is other n (sym (one.timed other j named_other) ∙ first))

  -- if its ID is the same, and what is stored under other IDs
  same_datum : (after : All) (k : ℕ) → id_at n r.numbers ≡ Some k
      → id_at other after.numbers ≡ id_at other r.numbers
      → ((j : ℕ) → is_at (nat_cmp k) j ≡ false
      → datum_at j after.table.attached ≡ datum_at j r.table.attached)
      → datum_of other after ≡ datum_of other r
  same_datum after k named same_id stored =
      ap (λ o. datum_in after o) same_id ∙ by (id_at other r.numbers) refl
    where
      by : (o : Option ℕ) → id_at other r.numbers ≡ o → datum_in after o ≡ datum_in r o
      by None is = refl
      by (Some j) is =
          ap (λ (o : Option (Request AskedSeen)). option_map (λ x. x.datum) o)
          (stored j (other_id k j named is))

  replaced_other : (w : AskedSeen) → datum_of other (after_replacing n w r) ≡ datum_of other r
  replaced_other w = by (id_at n r.numbers) refl
    where
      by : (o : Option ℕ) → id_at n r.numbers ≡ o
          → datum_of other (option_map_or (λ id. with_at n w r id) o r) ≡ datum_of other r
      by None is = refl
      by (Some k) is =
          same_datum (with_at n w r k) k is refl
          (λ j off. lookup-set_other j k (numbered n w) r.table.attached (differs k j off))

  pub changed_other : (change : Change) → datum_of other (changed_at change n r) ≡ datum_of other r
  changed_other change = by (datum_of n r)
    where
      by : (o : Option AskedSeen)
          → datum_of other (option_map_or (λ a. after_replacing n (changed change a) r) o r)
          ≡ datum_of other r
      by None = refl
      by (Some a) = replaced_other (changed change a)

  module _ (count : ℕ) (moment : Option ℕ) (end : EndSeen) where
    abbrev ended : ℕ → All
    ended k = record r {
      table = after_answer k count moment r.table;
      numbers = after_end n end r.numbers;
    }

    left : (k j : ℕ) → is_at (nat_cmp k) j ≡ false → (o : Option Transaction)
        → datum_at j (option_map_or (λ x. counted (response_received count (round_trip moment x))
        (without_request k r.table)) o r.table).attached
        ≡ datum_at j r.table.attached
    left k j off None = refl
    left k j off (Some x) =
        at_remove k r.table.attached one.in_order j
        ∙ ap (λ b. cond b None (datum_at j r.table.attached)) off

    pub answered_other : datum_of other (after_answering n count moment end r) ≡ datum_of other r
    answered_other = by (id_at n r.numbers) refl
      where
        by : (o : Option ℕ) → id_at n r.numbers ≡ o
            → datum_of other (option_map_or ended o r) ≡ datum_of other r
        by None is = refl
        by (Some k) is =
            same_datum (ended k) k is
            (ap (λ o. option_and_then id_in o)
            (lookup-insert_other other n (Ended end) r.numbers.known (apart other n another)))
            (λ j off. left k j off (at k r.table.requests))
