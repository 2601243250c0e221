-- Calls leave what is known of a request that is not outstanding.
use Rattle.std.proofs.Common.{◌≡◌, ◌∙◌, ◌⊎◌, ◌<◌, ◌≤◌, ℕ, Bool, true, false, List, Option, Some}
use Rattle.std.proofs.Common.{None, ap, arith, cond, inl, inr, refl, subst, sym}
use Rattle.std.specs.Option.{option_and_then, option_map, option_map_or}
use Rattle.std.specs.Prelude.{◌==◌}
use Rattle.std.proofs.lemmas.Bool.{eq-eqb, eqb-true}
use Rattle.stun_agent.specs.Tables.{after_answer, after_cancel, after_sending, datum_at}
use Rattle.stun_agent.specs.Tables.{with_other_datum}
use Rattle.stun_agent.specs.Timing.{Settings}
use Rattle.stun_client.specs.Ids.{id_of}
use Rattle.stun_client_endpoint.specs.Bodies.{Body}
use Rattle.stun_client_endpoint.specs.declared.ended.RequestEnd.TheVariants as how
use Rattle.stun_client_requests.specs.Numbers.{after_end, after_mark, after_removal, after_rename}
use Rattle.stun_client_requests.specs.Numbers.{id_at, id_in, known_at}
use Rattle.stun_client_requests.specs.Requests.{Answering, after_again, after_answering}
use Rattle.stun_client_requests.specs.Requests.{after_canceling, after_removing, after_replacing}
use Rattle.stun_client_requests.specs.Requests.{datum_of, polled}
use Rattle.stun_client_requests.specs.declared.numbers.Known.TheVariants as Numbers
use Rattle.stun_client_requests.specs.declared.requests.Polled.TheVariants as Of
use Rattle.stun_client_requests.specs.declared.requests.Request.{Request}
use Rattle.stun_client_calls.specs.Clients.{Client, Poll, Told, by_polled, changed, ends, given_up}
use Rattle.stun_client_calls.specs.Clients.{handed_out, handed_out_of, refusal_to_start, sent_by}
use Rattle.stun_client_calls.specs.Clients.{started, told, transmit, with_requests}
use Rattle.stun_client_calls.specs.Endpoints.{EndSeen, bare_end}
use Rattle.stun_client_calls.specs.Messages.{AskedSeen, is_late, sent_out}
use Rattle.stun_client_calls.specs.Options.{Options}
use Rattle.stun_client_calls.specs.Runs.{Call, Event, changes_nothing, ends_one, is_told_of, polls}
use Rattle.stun_client_calls.specs.Runs.{receives, requests}
use Rattle.stun_client_calls.specs.declared.asked.Change.TheVariants.{SentOut}
use Rattle.stun_client_runs.specs.Kept.{IsClient}
use Rattle.stun_client_plans.specs.Plan.{is_poll}
use Rattle.stun_client_plans.proofs.CallLemmas.{receives_so, same_or_not, started_is}
use Rattle.stun_client_plans.proofs.HoldLemmas.{All, Spares, again_spares, end_spares, put_spares}
use Rattle.stun_client_plans.proofs.HoldLemmas.{removal_spares}
use Rattle.stun_client_plans.proofs.OtherLemmas.{stored_id}
use Rattle.stun_client_plans.proofs.PolledLemmas.{Polls}
use Rattle.stun_client_plans.proofs.StepLemmas.{IsGone, eqb_differs, handed_named}
use Rattle.stun_client_plans.proofs.WalkLemmas.{IsHandedOut, IsLeft, polled_left, polled_next}
use Rattle.stun_client_plans.proofs.TimesLemmas.{times}

-- requests have of one number what others have, and no fewer numbers were given out
pub record Spared (n : ℕ) (r after : All) : Type 0 where
  pub spares : Spares n r.numbers after.numbers
  pub grows : r.next ≤ after.next

pub spared_itself : (n : ℕ) (r : All) → Spared n r r
spared_itself n r =
    record { spares = record { known = refl; unsent = refl }; grows = omega arith }

spared_then : (n : ℕ) (r s t : All) → Spared n r s → Spared n s t → Spared n r t
spared_then n r s t one then = record {
  spares = record {
    known = then.spares.known ∙ one.spares.known;
    unsent = then.spares.unsent ∙ one.spares.unsent;
  };
  grows = omega (arith, one.grows, then.grows);
}

-- ---- changes of another request

replacing_spares : (n m : ℕ) (b : AskedSeen) (r : All) → Spared n r (after_replacing m b r)
replacing_spares n m b r = by (id_at m r.numbers)
  where
    by : (o : Option ℕ) → Spared n r (option_map_or (λ id. record r {
      table = with_other_datum id (record { number = m; datum = b }) r.table;
    }) o r)
    by None = spared_itself n r
    by (Some id) =
        record { spares = record { known = refl; unsent = refl }; grows = omega arith }

module _ (n m : ℕ) (r : All) (differ : m ≡ n → ⊥) where
  answering_spares : (count : ℕ) (moment : Option ℕ) (end : EndSeen)
      → Spared n r (after_answering m count moment end r)
  answering_spares count moment end = by (id_at m r.numbers)
    where
      by : (o : Option ℕ) → Spared n r (option_map_or (λ id. record r {
        table = after_answer id count moment r.table;
        numbers = after_end m end r.numbers;
      }) o r)
      by None = spared_itself n r
      by (Some id) = record { spares = end_spares n m r.numbers differ end; grows = omega arith }

  canceling_spares : (end : EndSeen) → Spared n r (after_canceling m end r)
  canceling_spares end = by (id_at m r.numbers)
    where
      by : (o : Option ℕ) → Spared n r (option_map_or (λ id. record r {
        table = after_cancel id r.table;
        numbers = after_end m end r.numbers;
      }) o r)
      by None = spared_itself n r
      by (Some id) = record { spares = end_spares n m r.numbers differ end; grows = omega arith }

  removing_spares : Spared n r (after_removing m r)
  removing_spares = by (id_at m r.numbers)
    where
      by : (o : Option ℕ) → Spared n r (option_map_or (λ id. record r {
        table = after_cancel id r.table;
        numbers = after_removal m r.numbers;
      }) o r)
      by None = spared_itself n r
      by (Some id) = record { spares = removal_spares n m r.numbers differ; grows = omega arith }

  sending_spares : (x : Answering) (new : ℕ) (bytes : List ℕ) (plan : Settings) (empty : AskedSeen)
      (now : ℕ) → Spared n r (after_again m x new bytes plan empty now r)
  sending_spares x new bytes plan empty now = by (id_at m r.numbers)
    where
      by : (o : Option ℕ) → Spared n r (option_map_or (λ former. record r {
        table = after_answer former x.count x.moment
            (after_sending new bytes plan (record { number = m; datum = empty }) now r.table);
        numbers = after_rename m new (after_mark m r.numbers);
      }) o r)
      by None = spared_itself n r
      by (Some former) = record {
        spares = again_spares n m r.numbers differ new;
        grows = omega
            arith;
      }

-- ---- bytes that are due

handed_spares : (n m now : ℕ) (c : Client) → (m ≡ n → ⊥)
    → Spared n c.requests (handed_out now m c).1.requests
handed_spares n m now c differ = of (datum_of m c.requests) refl
  where
    of : (o : Option AskedSeen) → datum_of m c.requests ≡ o
        → Spared n c.requests (handed_out_of now m c o).1.requests
    of None there = spared_itself n c.requests
    of (Some a) there = by (is_late now a)
      where
        by : (b : Bool) → Spared n c.requests (cond b (given_up m a c) (sent_by now m c)).1.requests
        by true = removing_spares n m c.requests differ
        by false =
            subst (λ o. Spared n c.requests
            (option_map_or (λ x. after_replacing m (changed (SentOut now) x) c.requests) o
            c.requests))
            (sym there) (replacing_spares n m (sent_out now a) c.requests)

closed_datum : (n : ℕ) (r : All) → id_at n r.numbers ≡ None → datum_of n r ≡ None
closed_datum n r closed =
    ap (λ o. option_map (λ (q : Request AskedSeen). q.datum)
    (option_and_then (λ id. datum_at id r.table.attached) o)) closed

-- one that is not outstanding is named, and nothing is changed
handed_closed : (n now : ℕ) (c : Client) → id_at n c.requests.numbers ≡ None
    → handed_out now n c ≡ (transmit n, c)
handed_closed n now c closed =
    ap (λ o. handed_out_of now n c o) (closed_datum n c.requests closed)

-- ---- polls

-- what a poll leaves of it, beside its end
pub record IsPolled (n : ℕ) (c : Client) (p : Poll) : Type 0 where
  pub known : known_at n p.1.requests.numbers.known ≡ known_at n c.requests.numbers.known
  pub ends_none : (end : EndSeen) → p.0 ≡ ends n end → ⊥

-- or its end is handed out
pub record IsSaid (n : ℕ) (c : Client) (p : Poll) : Type 0 where
  pub end : EndSeen
  pub was_ended : known_at n c.requests.numbers.known ≡ Some (Numbers.Ended end)
  pub told : p.0 ≡ ends n end
  pub unknown : known_at n p.1.requests.numbers.known ≡ None

module _ (n now : ℕ) (c : Client) (is : IsClient c) (closed : id_at n c.requests.numbers ≡ None)
  where
    closed_still : (x : All) → known_at n x.numbers.known ≡ known_at n c.requests.numbers.known
        → id_at n x.numbers ≡ None
    closed_still x same = ap (λ o. option_and_then id_in o) same ∙ closed

    left_polled : (p : Polls) → IsLeft n c.requests p
        → IsPolled n c (by_polled now (with_requests p.1 c) p.0)
    left_polled (Of.Transmit m, x) left = by (same_or_not n m)
      where
        by : (m ≡ n) ⊎ (m ≡ n → ⊥) → IsPolled n c (handed_out now m (with_requests x c))
        by (inl same) =
            subst (λ k. IsPolled n c (handed_out now k (with_requests x c))) (sym same)
            (subst (λ (p : Poll). IsPolled n c p)
            (sym (handed_closed n now (with_requests x c) (closed_still x left.known)))
            (record { known = left.known; ends_none = λ end said. cc }))
        by (inr differ) = record {
          known = (handed_spares n m now (with_requests x c) differ).spares.known ∙ left.known;
          ends_none = λ end said. absurd (named_other
              (sym (handed_named n m now (with_requests x c))
              ∙ ap (λ (t : Told). is_told_of n t) said ∙ eq-eqb n n refl));
        }
          where
            named_other : (m == n) ≡ true → ⊥
            named_other on = differ (eqb-true m n on)
    left_polled (Of.Ended m other, x) left = record {
      known = left.known;
      ends_none = λ end said. left.ends_none other
          (ap (λ k. Of.Ended k other) (number_in m n other end said));
    }
      where
        number_in : (a b : ℕ) (y z : EndSeen) → ◌≡◌ {A = Told} (ends a y) (ends b z) → a ≡ b
        number_in a b y z e = cc
    left_polled (Of.TimedOut m a, x) left = record {
      known = left.known;
      ends_none = λ end said. left.over_none a
          (ap (λ k. Of.TimedOut k a) (number_in m n _ end said));
    }
      where
        number_in : (a b : ℕ) (y z : EndSeen) → ◌≡◌ {A = Told} (ends a y) (ends b z) → a ≡ b
        number_in a b y z e = cc
    left_polled (Of.Wait until, x) left =
        record { known = left.known; ends_none = λ end said. cc }

    said_polled : (p : Polls) → IsHandedOut n c.requests p
        → IsSaid n c (by_polled now (with_requests p.1 c) p.0)
    said_polled p out =
        subst (λ x. IsSaid n c (by_polled now (with_requests p.1 c) x)) (sym out.told) (record {
          end = out.end;
          was_ended = out.was_ended;
          told = refl;
          unknown = out.unknown;
        })

    pub told_closed : IsSaid n c (told now c) ⊎ IsPolled n c (told now c)
    told_closed =
        elim (polled_left n now c.requests is.requests closed (λ k. same_or_not n k)) [
          | inl out ↦ inl (said_polled (polled now c.requests) out)
          | inr left ↦ inr (left_polled (polled now c.requests) left)
        ]

    -- of one that is gone nothing is said
    gone_polled : times n c.requests.numbers.unsent ≡ 0
        → known_at n c.requests.numbers.known ≡ None → (p : Polls) → IsLeft n c.requests p
        → p.1.next ≡ c.requests.next → n < c.requests.next
        → (is_told_of n (by_polled now (with_requests p.1 c) p.0).0 ≡ false)
        × IsGone n (by_polled now (with_requests p.1 c) p.0).1
    gone_polled unsent unknown (Of.Transmit m, x) left next low =
        let differ = eqb_differs m n (left.unnamed unsent) in
        let spared = handed_spares n m now (with_requests x c) differ in (
          handed_named n m now (with_requests x c) ∙ left.unnamed unsent,
          record {
            started = omega (arith, low, next, spared.grows);
            unknown = spared.spares.known ∙ left.known ∙ unknown;
            unsent = spared.spares.unsent ∙ left.unsent unsent;
          },
        )
    gone_polled unsent unknown (Of.Ended m end, x) left next low = (
      left.unnamed unsent,
      record {
        started = omega (arith, low, next);
        unknown = left.known ∙ unknown;
        unsent = left.unsent unsent;
      },
    )
    gone_polled unsent unknown (Of.TimedOut m a, x) left next low = (
      left.unnamed unsent,
      record {
        started = omega (arith, low, next);
        unknown = left.known ∙ unknown;
        unsent = left.unsent unsent;
      },
    )
    gone_polled unsent unknown (Of.Wait until, x) left next low = (
      refl,
      record {
        started = omega (arith, low, next);
        unknown = left.known ∙ unknown;
        unsent = left.unsent unsent;
      },
    )

unknown_closed : (n : ℕ) (c : Client) → known_at n c.requests.numbers.known ≡ None
    → id_at n c.requests.numbers ≡ None
unknown_closed n c unknown = ap (λ o. option_and_then id_in o) unknown

pub gone_told : (n now : ℕ) (c : Client) → IsClient c → IsGone n c
    → (is_told_of n (told now c).0 ≡ false) × IsGone n (told now c).1
gone_told n now c is gone =
    elim (polled_left n now c.requests is.requests (unknown_closed n c gone.unknown)
    (λ k. same_or_not n k)) [
      | inl out ↦ let no = sym gone.unknown ∙ out.was_ended in cc
      | inr left ↦ gone_polled n now c is (unknown_closed n c gone.unknown) gone.unsent gone.unknown
          (polled now c.requests) left (polled_next now c.requests) gone.started
    ]

-- ---- other calls

module _ (n : ℕ) (c : Client) (closed : id_at n c.requests.numbers ≡ None)
    (low : n < c.requests.next)
  where
    differs_from : (m : ℕ) (a : AskedSeen) → datum_of m c.requests ≡ Some a → m ≡ n → ⊥
    differs_from m a there same =
        let named = stored_id m a c.requests there in
        let no : None ≡ Some named.0 =
        sym (subst (λ k. id_at k c.requests.numbers ≡ None) (sym same) closed) ∙ named.1 in
        cc

    started_spares : (method : ℕ) (body : Body) (options : Option Options) (now : ℕ)
        → refusal_to_start c method body options ≡ None
        → Spared n c.requests (started method body options now c).requests
    started_spares method body options now none =
        let it = started_is c method body options none in
        subst (λ (x : Client). Spared n c.requests x.requests) (sym (it.is_so now)) (record {
          spares = put_spares n c.requests.next c.requests.numbers (λ same. later same)
              (id_of c.seed it.number);
          grows = omega arith;
        })
      where
        later : c.requests.next ≡ n → ⊥
        later same = absurd (omega (arith, low, same))

    pub call_spares : (after : Client) (event : Event) → is_poll event ≡ false → Call c event after
        → Spared n c.requests after.requests
    call_spares after event no_poll (requests _ _ method body options now in_time none so) =
        subst (λ (x : Client). Spared n c.requests x.requests) (sym so)
        (started_spares method body options now none)
    call_spares after event no_poll (receives _ _ from bytes now given in_time made so) =
        subst (λ (x : Client). Spared n c.requests x.requests) (sym so)
        (receives_so c (λ r. Spared n c.requests r) (spared_itself n c.requests)
        (λ m a b there until. replacing_spares n m b c.requests)
        (λ m count a moment end there.
        answering_spares n m c.requests (differs_from m a there) count moment end)
        (λ m id now a b empty x bytes plan there.
        spared_then n c.requests (after_again m x id bytes plan empty now c.requests)
        (after_replacing m b (after_again m x id bytes plan empty now c.requests))
        (sending_spares n m c.requests (differs_from m a there) x id bytes plan empty now)
        (replacing_spares n m b (after_again m x id bytes plan empty now c.requests)))
        from bytes now given made)
    call_spares after event no_poll (polls _ _ now says said) = cc
    call_spares after event no_poll (ends_one _ _ number a there so) =
        subst (λ (x : Client). Spared n c.requests x.requests) (sym so)
        (canceling_spares n number c.requests (differs_from number a there)
        (bare_end how.Cancelled))
    call_spares after event no_poll (changes_nothing _) = spared_itself n c.requests

pub gone_call : (n : ℕ) (c after : Client) (event : Event) → is_poll event ≡ false
    → Call c event after → IsGone n c → IsGone n after
gone_call n c after event no_poll made gone =
    let spared = call_spares n c (unknown_closed n c gone.unknown)
    gone.started after event no_poll made in
    record {
      started = omega (arith, gone.started, spared.grows);
      unknown = spared.spares.known ∙ gone.unknown;
      unsent = spared.spares.unsent ∙ gone.unsent;
    }

-- the number of the next request does not fall
pub told_next : (now : ℕ) (c : Client) → c.requests.next ≤ (told now c).1.requests.next
told_next now c = by (polled now c.requests) (polled_next now c.requests)
  where
    removed_next : (m : ℕ) (r : All) → (after_removing m r).next ≡ r.next
    removed_next m r = of (id_at m r.numbers)
      where
        of : (o : Option ℕ) → (option_map_or (λ id. record r {
          table = after_cancel id r.table;
          numbers = after_removal m r.numbers;
        }) o r).next ≡ r.next
        of None = refl
        of (Some id) = refl

    handed_next : (m : ℕ) (d : Client) (o : Option AskedSeen) → datum_of m d.requests ≡ o
        → d.requests.next ≤ (handed_out_of now m d o).1.requests.next
    handed_next m d None there = omega arith
    handed_next m d (Some a) there = of (is_late now a)
      where
        of : (b : Bool)
            → d.requests.next ≤ (cond b (given_up m a d) (sent_by now m d)).1.requests.next
        of true = let same = removed_next m d.requests in omega (arith, same)
        of false =
            subst (λ o. d.requests.next ≤
            (option_map_or (λ x. after_replacing m (changed (SentOut now) x) d.requests)
            o d.requests).next)
            (sym there) ((replacing_spares m m (sent_out now a) d.requests).grows)

    by : (p : Polls) → p.1.next ≡ c.requests.next
        → c.requests.next ≤ (by_polled now (with_requests p.1 c) p.0).1.requests.next
    by (Of.Transmit m, x) same =
        let up = handed_next m (with_requests x c) (datum_of m x) refl in omega (arith, same, up)
    by (Of.Ended m end, x) same = omega (arith, same)
    by (Of.TimedOut m a, x) same = omega (arith, same)
    by (Of.Wait until, x) same = omega (arith, same)
