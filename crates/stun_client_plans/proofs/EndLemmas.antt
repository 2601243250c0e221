-- An end is set once, and stays until it is said.
use Rattle.std.proofs.Common.{◌≡◌, ◌∙◌, ◌⊎◌, ◌<◌, ◌≤◌, ℕ, Bool, true, false, List, Option, Some}
use Rattle.std.proofs.Common.{None, ap, arith, cond, inl, inr, length, refl, subst, sym}
use Rattle.std.specs.Option.{is_some, option_and_then, option_map_or}
use Rattle.std.specs.Prelude.{nat_lt}
use Rattle.std.specs.declared.net.socket_addr.SocketAddr.{SocketAddr}
use Rattle.std.proofs.lemmas.Bool.{ltb-false, ltb-true}
use Rattle.stun_base.specs.Header.{transaction_id_field}
use Rattle.stun_base.specs.MessageType.{class_in}
use Rattle.stun_base.specs.declared.keys.algorithm.IntegrityAlgorithm.{IntegrityAlgorithm}
use Rattle.stun_base.specs.declared.wire.error.StunParseError.{StunParseError}
use Rattle.stun_base.specs.declared.wire.message_type.MessageClass.{MessageClass}
use Rattle.stun_base.specs.declared.wire.message_type.MessageClass.TheVariants as Classes
use Rattle.stun_agent.specs.Tables.{after_answer, after_cancel}
use Rattle.stun_agent.proofs.Ascending.{lookup-insert_same}
use Rattle.stun_client.specs.Outcomes.{outcome_of}
use Rattle.stun_client.specs.Answers.{is_answer, is_answer_of}
use Rattle.stun_client_endpoint.specs.declared.ended.RequestEnd.TheVariants as how
use Rattle.stun_client_endpoint.specs.declared.told.Received.TheVariants.{NotOurs}
use Rattle.stun_client_requests.specs.Numbers.{after_end, id_at, id_in, known_at}
use Rattle.stun_client_requests.specs.Requests.{after_answering, datum_of}
use Rattle.stun_client_requests.specs.declared.numbers.Known.{Known}
use Rattle.stun_client_requests.specs.declared.numbers.Known.TheVariants as Numbers
use Rattle.stun_client_calls.specs.Clients.{Client, Poll, Told, cancelled, ends, told}
use Rattle.stun_client_calls.specs.Deciding.{DecisionSeen, answered}
use Rattle.stun_client_calls.specs.Endpoints.{EndSeen, bare_end}
use Rattle.stun_client_calls.specs.Messages.{AskedSeen}
use Rattle.stun_client_calls.specs.Receiving.{Memory, Met, answered_in, by_class, by_decision}
use Rattle.stun_client_calls.specs.Receiving.{by_met, heard_in, if_method, met, moment_of, received}
use Rattle.stun_client_calls.specs.Receiving.{round_trip_of}
use Rattle.stun_client_calls.specs.Runs.{Call, Calls, Event, call, changes_nothing, ends_one}
use Rattle.stun_client_calls.specs.Runs.{no_call, polls, receives, requests}
use Rattle.stun_client_calls.proofs.ReceivingLemmas.{heard_is, met_is_stored}
use Rattle.stun_client_runs.specs.Kept.{IsClient, StaysAClient}
use Rattle.stun_client_plans.specs.Ends.{IsBelievedResponse, IsEndedAs}
use Rattle.stun_client_plans.proofs.HoldLemmas.{All}
use Rattle.stun_client_plans.proofs.OtherLemmas.{stored_id}
use Rattle.stun_client_plans.proofs.PlanLemmas.{stays_one}
use Rattle.stun_client_plans.proofs.SpareLemmas.{IsSaid, call_spares, told_closed, told_next}

-- ---- how a request ends

pub cancels_end : (c : Client) (number : ℕ) (a : AskedSeen) → datum_of number c.requests ≡ Some a
    → IsEndedAs number (bare_end how.Cancelled) (cancelled number c)
cancels_end c number a there =
    let named = stored_id number a c.requests there in
    let end : EndSeen = bare_end how.Cancelled in
    subst (λ o. known_at number (option_map_or (λ id. record c.requests {
      table = after_cancel id c.requests.table;
      numbers = after_end number (bare_end how.Cancelled) c.requests.numbers;
    }) o c.requests).numbers.known
    ≡ Some (Numbers.Ended (bare_end how.Cancelled))) (sym named.1)
    (lookup-insert_same number (Numbers.Ended end) c.requests.numbers.known)

answering_ends : (n count : ℕ) (a : AskedSeen) (moment : Option ℕ) (end : EndSeen) (r : All)
    → datum_of n r ≡ Some a
    → known_at n (after_answering n count moment end r).numbers.known ≡ Some (Numbers.Ended end)
answering_ends n count a moment end r there =
    let named = stored_id n a r there in
    subst (λ o. known_at n (option_map_or (λ id. record r {
      table = after_answer id count moment r.table;
      numbers = after_end n end r.numbers;
    }) o r).numbers.known ≡ Some (Numbers.Ended end)) (sym named.1)
    (lookup-insert_same n (Numbers.Ended end) r.numbers.known)

module _ (memory : Memory) (from : SocketAddr) (bytes : List ℕ) (now : ℕ) (c : Client) (m : Met)
    (by : Option IntegrityAlgorithm) (is : IsBelievedResponse from bytes now c m by) where
  abbrev answered_end : EndSeen
  answered_end = record {
    end = how.Answered (outcome_of c.understood bytes) by;
    response = bytes;
    round_trip = round_trip_of now m;
  }

  is_answered : answered_in bytes c ≡ Some m
  is_answered = heard_is from bytes c m is.answers

  by_decision_ends : IsEndedAs m.number answered_end
      (by_decision memory c now bytes m (answered by)).1
  by_decision_ends =
      answering_ends m.number (length bytes) m.asked (moment_of now m) answered_end c.requests
      (met_is_stored bytes c m m.number is_answered refl)

  by_met_ends : IsEndedAs m.number answered_end
      (by_met memory c now bytes (heard_in from bytes c)).1
  by_met_ends =
      subst (λ (o : Option Met). IsEndedAs m.number answered_end (by_met memory c now bytes o).1)
      (sym is.answers)
      (subst (λ (d : DecisionSeen).
      IsEndedAs m.number answered_end (by_decision memory c now bytes m d).1)
      (sym is.is_so) by_decision_ends)

  -- what is no response answers nothing
  unanswering : (o : Option Met) → ((method : ℕ) → is_answer method bytes ≡ false)
      → if_method bytes o ≡ Some m → ⊥
  unanswering None none found = cc
  unanswering (Some x) none found =
      let no : ◌≡◌ {A = Option Met} None (Some m) =
      sym (ap (λ b. cond b (Some x) None) (none x.asked.method)) ∙ found in
      cc

  by_class_ends : (class : MessageClass) → class_in bytes ≡ class
      → IsEndedAs m.number answered_end (by_class memory from c now bytes class).1
  by_class_ends Classes.Request said = absurd (unanswering (met (transaction_id_field bytes) c)
      (λ method. ap (λ k. is_answer_of method k bytes) said) is_answered)
  by_class_ends Classes.Indication said = absurd (unanswering (met (transaction_id_field bytes) c)
      (λ method. ap (λ k. is_answer_of method k bytes) said) is_answered)
  by_class_ends Classes.Success said = by_met_ends
  by_class_ends Classes.Error said = by_met_ends

  pub answers_end : IsEndedAs m.number answered_end (received memory from bytes now c).1
  answers_end =
      subst (λ (o : Option StunParseError). IsEndedAs m.number answered_end
      (cond (is_some o) (NotOurs, c) (by_class memory from c now bytes (class_in bytes))).1)
      (sym is.is_read) (by_class_ends (class_in bytes) refl)

-- ---- until it is said

known_below : (n : ℕ) (known : Known EndSeen) (c : Client) → IsClient c
    → known_at n c.requests.numbers.known ≡ Some known → n < c.requests.next
known_below n known c is there = by (nat_lt n c.requests.next) refl
  where
    by : (b : Bool) → nat_lt n c.requests.next ≡ b → n < c.requests.next
    by true less = ltb-true n c.requests.next less
    by false high =
        let gone = is.requests.one.fresh n (ltb-false n c.requests.next high) in cc

module _ (stays : StaysAClient) (n : ℕ) where
  -- it is ended so, or nothing is known of it any more
  abbrev IsEndedOrGone : EndSeen → Client → Type 0
  IsEndedOrGone end c =
      IsEndedAs n end c
      ⊎ ((known_at n c.requests.numbers.known ≡ None) × (n < c.requests.next))

  closed : (end : EndSeen) (c : Client) → IsEndedOrGone end c → id_at n c.requests.numbers ≡ None
  closed end c (inl ended) = ap (λ o. option_and_then id_in o) ended
  closed end c (inr gone) = ap (λ o. option_and_then id_in o) gone.0

  started_so : (end : EndSeen) (c : Client) → IsClient c → IsEndedOrGone end c
      → n < c.requests.next
  started_so end c is (inl ended) = known_below n (Numbers.Ended end) c is ended
  started_so end c is (inr gone) = gone.1

  same_still : (end : EndSeen) (c after : Client)
      → known_at n after.requests.numbers.known ≡ known_at n c.requests.numbers.known
      → c.requests.next ≤ after.requests.next → IsEndedOrGone end c → IsEndedOrGone end after
  same_still end c after same up (inl ended) = inl (same ∙ ended)
  same_still end c after same up (inr gone) =
      let low = gone.1 in inr (same ∙ gone.0, omega (arith, low, up))

  polled_still : (end : EndSeen) (now : ℕ) (c : Client) → IsClient c → IsEndedOrGone end c
      → IsEndedOrGone end (told now c).1
  polled_still end now c is over =
      elim (told_closed n now c is (closed end c over)) [
        | inl said ↦
            let low = started_so end c is over in
            let up = told_next now c in
            inr (said.unknown, omega (arith, low, up))
        | inr left ↦ same_still end c (told now c).1 left.known (told_next now c) over
      ]

  call_still : (end : EndSeen) (c after : Client) (event : Event) → IsClient c
      → IsEndedOrGone end c → Call c event after → IsEndedOrGone end after
  call_still end c after event is over (polls _ _ now says said) =
      subst (λ (p : Poll). IsEndedOrGone end p.1) said (polled_still end now c is over)
  call_still end c after event is over (requests _ _ method body options now low none so) =
      let spared = call_spares n c (closed end c over) (started_so end c is over) after event refl
      (requests c after method body options now low none so) in
      same_still end c after spared.spares.known spared.grows over
  call_still end c after event is over (receives _ _ from bytes now given low made so) =
      let spared = call_spares n c (closed end c over) (started_so end c is over) after event refl
      (receives c after from bytes now given low made so) in
      same_still end c after spared.spares.known spared.grows over
  call_still end c after event is over (ends_one _ _ number a there so) =
      let spared = call_spares n c (closed end c over) (started_so end c is over) after event refl
      (ends_one c after number a there so) in
      same_still end c after spared.spares.known spared.grows over
  call_still end c after event is over (changes_nothing _) = over

  calls_still : (end : EndSeen) (c after : Client) (events : List Event) → IsClient c
      → IsEndedOrGone end c → Calls c events after → IsClient after × IsEndedOrGone end after
  calls_still end c after events is over (no_call _) = (is, over)
  calls_still end c after events is over (call _ next _ event others made rest) =
      calls_still end next after others (stays_one stays c next event is made)
      (call_still end c next event is over made) rest

  says_it : (end said : EndSeen) (now : ℕ) (c last : Client) → IsClient c → IsEndedOrGone end c
      → told now c ≡ (ends n said, last) → said ≡ end
  says_it end said now c last is over says_so =
      elim (told_closed n now c is (closed end c over)) [
        | inl out ↦ by over out
        | inr left ↦ absurd (left.ends_none said (ap (λ (p : Poll). p.0) says_so))
      ]
    where
      end_in : (x y : EndSeen) → ◌≡◌ {A = Told} (ends n x) (ends n y) → x ≡ y
      end_in x y e = cc

      known_in : (x y : EndSeen) → Some (Numbers.Ended x) ≡ Some (Numbers.Ended y) → x ≡ y
      known_in x y e = cc

      by : IsEndedOrGone end c → IsSaid n c (told now c) → said ≡ end
      by (inl ended) out =
          end_in said out.end (sym (ap (λ (p : Poll). p.0) says_so) ∙ out.told)
          ∙ known_in out.end end (sym out.was_ended ∙ ended)
      by (inr gone) out =
          let no : None ≡ Some (Numbers.Ended out.end) = sym gone.0 ∙ out.was_ended in cc

  pub said_as_it_came : (end said : EndSeen) (c later last : Client) (between : List Event)
      (now : ℕ)
      → IsClient c → IsEndedAs n end c → Calls c between later
      → told now later ≡ (ends n said, last) → said ≡ end
  said_as_it_came end said c later last between now is ended calls says_so =
      let then = calls_still end c later between is (inl ended) calls in
      says_it end said now later last then.0 then.1 says_so
