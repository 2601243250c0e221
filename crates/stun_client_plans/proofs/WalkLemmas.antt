-- What a poll comes to, case by case, and what it leaves of a request that is not outstanding.
use Rattle.std.proofs.Common.{◌≡◌, ◌∙◌, ◌⊎◌, ◌+◌, ℕ, false, Option, Some, None, ap, arith, cond}
use Rattle.std.proofs.Common.{inl, inr, refl, subst, sym}
use Rattle.std.specs.BTreeMap.{is_at}
use Rattle.std.specs.Map.{remove_entry}
use Rattle.std.specs.Option.{option_and_then, option_map, option_map_or}
use Rattle.std.specs.Ordering.{nat_cmp}
use Rattle.std.specs.Prelude.{◌==◌}
use Rattle.std.proofs.lemmas.Bool.{eq-eqb, ne_eqb}
use Rattle.stun_agent.specs.Tables.{after_end as after_end_in, after_transmission, datum_at}
use Rattle.stun_agent.specs.Tables.{over_in, sent_in}
use Rattle.stun_agent.specs.Transactions.{Transaction}
use Rattle.stun_agent.proofs.Ascending.{lookup-remove_other}
use Rattle.stun_client_requests.specs.Laws.{IsRequests}
use Rattle.stun_client_requests.specs.Numbers.{after_removal, end_in, first_ended, first_unsent}
use Rattle.stun_client_requests.specs.Numbers.{id_at, known_at, others_in, without_first}
use Rattle.stun_client_requests.specs.Numbers.{without_first_unsent}
use Rattle.stun_client_requests.specs.Requests.{ends_or, number_at, over_or, polled, repeats_or}
use Rattle.stun_client_requests.specs.Requests.{unsent_or, wait_of}
use Rattle.stun_client_requests.specs.declared.numbers.Known.{Known}
use Rattle.stun_client_requests.specs.declared.numbers.Known.TheVariants as Numbers
use Rattle.stun_client_requests.specs.declared.requests.Polled.{Polled}
use Rattle.stun_client_requests.specs.declared.requests.Polled.TheVariants.{Ended, TimedOut}
use Rattle.stun_client_requests.specs.declared.requests.Polled.TheVariants.{Transmit, Wait}
use Rattle.stun_client_requests.specs.declared.requests.Request.{Request}
use Rattle.stun_client_requests.proofs.NumberLemmas.{apart, own_key}
use Rattle.stun_client_requests.proofs.RequestLemmas.{at_remove, attached_sent}
use Rattle.stun_client_calls.specs.Endpoints.{EndSeen}
use Rattle.stun_client_calls.specs.Messages.{AskedSeen}
use Rattle.stun_client_plans.proofs.HoldLemmas.{All}
use Rattle.stun_client_plans.proofs.PolledLemmas.{Polls, is_named}
use Rattle.stun_client_plans.proofs.TimesLemmas.{one_if, times, times_first, times_remove_none}

-- the requests after a poll for transmissions
abbrev pub passed : ℕ → All → All
passed now r = record r { table = after_transmission now r.table }

module _ (now : ℕ) (r : All) (P : Polls → Type 0) where
  pub polled_by : ((m : ℕ) → first_unsent r.numbers ≡ Some m
      → P (Transmit m, record r { numbers = without_first_unsent r.numbers }))
      → ((m id : ℕ) → number_at id r.table.attached ≡ Some m → P (Transmit m, passed now r))
      → ((k : ℕ) (end : EndSeen) → first_ended r.numbers ≡ Some k
      → known_at k r.numbers.known ≡ Some (Numbers.Ended end)
      → P (Ended k end, record (passed now r) { numbers = without_first r.numbers }))
      → ((id : ℕ) (q : Request AskedSeen) → datum_at id r.table.attached ≡ Some q
      → P (
        TimedOut q.number q.datum,
        record (passed now r) {
          table = after_end_in now (passed now r).table;
          numbers = after_removal q.number r.numbers;
        },
      ))
      → P (Wait (wait_of now (passed now r)), passed now r) → P (polled now r)
  unfolding polled
  polled_by unsent again ended over_one waits = at_unsent (first_unsent r.numbers) refl
    where
      at_over : (o : Option (ℕ × Transaction))
          → P (over_or now (passed now r) (option_and_then
          (λ e. datum_at e.0 (passed now r).table.attached) o))
      at_over None = waits
      at_over (Some e) = of (datum_at e.0 (passed now r).table.attached) refl
        where
          of : (o : Option (Request AskedSeen)) → datum_at e.0 (passed now r).table.attached ≡ o
              → P (over_or now (passed now r) o)
          of None there = waits
          of (Some q) there =
              over_one e.0 q (sym (ap (λ es. datum_at e.0 es) (attached_sent r.table now)) ∙ there)

      at_end : (o : Option ℕ) → first_ended r.numbers ≡ o
          → P (ends_or now (passed now r)
          (option_and_then
          (λ k. option_map (λ end. (k, end)) (option_and_then end_in (known_at k r.numbers.known)))
          o))
      at_end None found = at_over (over_in now (passed now r).table)
      at_end (Some k) found = of (known_at k r.numbers.known) refl
        where
          of : (o : Option (Known EndSeen)) → known_at k r.numbers.known ≡ o
              → P (ends_or now (passed now r)
              (option_map (λ end. (k, end)) (option_and_then end_in o)))
          of None there = at_over (over_in now (passed now r).table)
          of (Some (Numbers.Outstanding id)) there = at_over (over_in now (passed now r).table)
          of (Some (Numbers.Ended end)) there = ended k end found there

      at_repeat : (o : Option (ℕ × Transaction))
          → P (repeats_or now (passed now r) (option_and_then (λ e. number_at e.0 r.table.attached)
          o))
      at_repeat None = at_end (first_ended r.numbers) refl
      at_repeat (Some e) = of (number_at e.0 r.table.attached) refl
        where
          of : (o : Option ℕ) → number_at e.0 r.table.attached ≡ o → P
              (repeats_or now (passed now r) o)
          of None there = at_end (first_ended r.numbers) refl
          of (Some m) there = again m e.0 there

      at_unsent : (o : Option ℕ) → first_unsent r.numbers ≡ o → P (unsent_or now r o)
      at_unsent None found = at_repeat (sent_in now r.table)
      at_unsent (Some m) found = unsent m found

pub polled_next : (now : ℕ) (r : All) → (polled now r).1.next ≡ r.next
polled_next now r =
    polled_by now r (λ p. p.1.next ≡ r.next) (λ m first. refl) (λ m id there. refl)
    (λ k end found there. refl) (λ id q there. refl) refl

pub named_known : (now m : ℕ) (r : All) → (polled now r).0 ≡ Transmit m
    → (polled now r).1.numbers.known ≡ r.numbers.known
named_known now m r said =
    polled_by now r (λ p. (k : ℕ) → p.0 ≡ Transmit k → p.1.numbers.known ≡ r.numbers.known)
    (λ k first other named. refl) (λ k id there other named. refl)
    (λ k end found there other named. cc) (λ id q there other named. cc) (λ other named. cc) m said

-- ---- a request that is not outstanding

-- a poll returns its end
pub record IsHandedOut (n : ℕ) (r : All) (p : Polls) : Type 0 where
  pub end : EndSeen
  pub was_ended : known_at n r.numbers.known ≡ Some (Numbers.Ended end)
  pub told : p.0 ≡ Ended n end
  pub unknown : known_at n p.1.numbers.known ≡ None

-- or it leaves what is known of it, and names it only as one whose bytes were not handed out
pub record IsLeft (n : ℕ) (r : All) (p : Polls) : Type 0 where
  pub known : known_at n p.1.numbers.known ≡ known_at n r.numbers.known
  pub unsent : times n r.numbers.unsent ≡ 0 → times n p.1.numbers.unsent ≡ 0
  pub unnamed : times n r.numbers.unsent ≡ 0 → is_named n p.0 ≡ false
  pub ends_none : (end : EndSeen) → p.0 ≡ Ended n end → ⊥
  pub over_none : (a : AskedSeen) → p.0 ≡ TimedOut n a → ⊥

module _ (n now : ℕ) (r : All) (is : IsRequests r) (closed : id_at n r.numbers ≡ None) where
  -- no outstanding request has its number
  differs_from : (m id : ℕ) → number_at id r.table.attached ≡ Some m → m ≡ n → ⊥
  differs_from m id there same =
      let open_one : id_at n r.numbers ≡ Some id =
      is.one.named id n (there ∙ ap Some same) in
      let no : None ≡ Some id = sym closed ∙ open_one in
      cc

  ended_left : (k : ℕ) (end : EndSeen) → first_ended r.numbers ≡ Some k
      → known_at k r.numbers.known ≡ Some (Numbers.Ended end) → (o : (k ≡ n) ⊎ (k ≡ n → ⊥))
      → IsHandedOut n r (
        Ended k end,
        record (passed now r) {
          numbers = without_first r.numbers;
        },
      )
      ⊎ IsLeft n r (
        Ended k end,
        record (passed now r) {
          numbers = without_first r.numbers;
        },
      )
  ended_left k end found there (inl same) = inl (record {
    end = end;
    was_ended = subst (λ m. known_at m r.numbers.known ≡ Some (Numbers.Ended end)) same there;
    told = ap (λ m. Ended m end) same;
    unknown = ap (λ o. known_at n (option_map_or
        (λ m. remove_entry (is_at (nat_cmp m)) r.numbers.known) o r.numbers.known)) found
        ∙ ap (λ m. known_at n (remove_entry (is_at (nat_cmp m)) r.numbers.known)) same
        ∙ at_remove n r.numbers.known is.ascending n
        ∙ ap (λ b. cond b None (known_at n r.numbers.known)) (own_key n);
  })
  ended_left k end found there (inr differ) = inr (record {
    known = ap (λ o. known_at n (option_map_or
        (λ m. remove_entry (is_at (nat_cmp m)) r.numbers.known) o r.numbers.known)) found
        ∙ lookup-remove_other n k r.numbers.known (apart n k (λ same. differ (sym same)));
    unsent = λ none. none;
    unnamed = λ none. ne_eqb k n differ;
    ends_none = λ other said. differ (number_in k n end other said);
    over_none = λ a said. cc;
  })
    where
      number_in : (a b : ℕ) (x y : EndSeen)
          → ◌≡◌ {A = Polled AskedSeen EndSeen} (Ended a x) (Ended b y) → a ≡ b
      number_in a b x y e = cc

  pub polled_left : (decide : (k : ℕ) → (k ≡ n) ⊎ (k ≡ n → ⊥))
      → IsHandedOut n r (polled now r) ⊎ IsLeft n r (polled now r)
  polled_left decide =
      polled_by now r (λ p. IsHandedOut n r p ⊎ IsLeft n r p)
      (λ m first. inr (record {
        known = refl;
        unsent = λ none. fewer m (times_first n m r.numbers.unsent first) none;
        unnamed = λ none. unsent_apart m (times_first n m r.numbers.unsent first) none;
        ends_none = λ end said. cc;
        over_none = λ a said. cc;
      }))
      (λ m id there. inr (record {
        known = refl;
        unsent = λ none. none;
        unnamed = λ none. ne_eqb m n (differs_from m id there);
        ends_none = λ end said. cc;
        over_none = λ a said. cc;
      }))
      (λ k end found there. ended_left k end found there (decide k))
      (λ id q there.
      let differ = differs_from q.number id
      (ap (λ (o : Option (Request AskedSeen)). option_map (λ x. x.number) o) there) in
      inr (record {
        known = lookup-remove_other n q.number r.numbers.known
            (apart n q.number (λ same. differ (sym same)));
        unsent = λ none.
            times_remove_none n (is_at (nat_cmp q.number)) r.numbers.unsent none;
        unnamed = λ none. ne_eqb q.number n differ;
        ends_none = λ end said. cc;
        over_none = λ a said. differ (number_in q.number n q.datum a said);
      }))
      (inr (record {
        known = refl;
        unsent = λ none. none;
        unnamed = λ none. refl;
        ends_none = λ end said. cc;
        over_none = λ a said. cc;
      }))
    where
      number_in : (a b : ℕ) (x y : AskedSeen)
          → ◌≡◌ {A = Polled AskedSeen EndSeen} (TimedOut a x) (TimedOut b y) → a ≡ b
      number_in a b x y e = cc

      fewer : (m : ℕ) → times n r.numbers.unsent
          ≡ one_if (m == n) + times n (others_in r.numbers.unsent)
          → times n r.numbers.unsent ≡ 0 → times n (others_in r.numbers.unsent) ≡ 0
      fewer m first none = omega (arith, first, none)

      unsent_apart : (m : ℕ) → times n r.numbers.unsent
          ≡ one_if (m == n) + times n (others_in r.numbers.unsent)
          → times n r.numbers.unsent ≡ 0 → (m == n) ≡ false
      unsent_apart m first none =
          ne_eqb m n
          (λ same. let one : one_if (m == n) ≡ 1 = ap one_if (eq-eqb m n same) in
          absurd (omega (arith, one, first, none)))
