-- What a response to the current message of a request comes to, from what is decided on it.
use Rattle.std.proofs.Common.{◌≡◌, ◌∙◌, ◌≤◌, ◌<◌, ◌+◌, ℕ, zero, suc, Bool, true, false, List, []}
use Rattle.std.proofs.Common.{Option, Some, None, Ok, ap, cond, length, refl, subst, sym}
use Rattle.std.specs.BTreeMap.{is_at}
use Rattle.std.specs.Option.{IsSome, is_some, option_map}
use Rattle.std.specs.Ordering.{nat_cmp}
use Rattle.std.specs.Prelude.{◌||◌}
use Rattle.std.specs.declared.net.socket_addr.SocketAddr.{SocketAddr}
use Rattle.std.proofs.lemmas.Bool.{le-ltb, lt-leb}
use Rattle.stun_base.specs.Header.{transaction_id_field}
use Rattle.stun_base.specs.MessageType.{class_in}
use Rattle.stun_base.specs.declared.keys.algorithm.IntegrityAlgorithm.{IntegrityAlgorithm}
use Rattle.stun_base.specs.declared.wire.message_type.MessageClass.{MessageClass}
use Rattle.stun_base.specs.declared.wire.message_type.MessageClass.TheVariants as Classes
use Rattle.stun_types.specs.Message.{refusal}
use Rattle.stun_extra.specs.CanonicalAddress.{is_same_address}
use Rattle.stun_client.specs.Challenges.{Answered}
use Rattle.stun_client.specs.Ids.{id_of}
use Rattle.stun_client.specs.Judging.{Verdict, anew, believed, judged}
use Rattle.stun_client.specs.Outcomes.{outcome_of}
use Rattle.stun_client.specs.Answers.{is_answer, is_answer_of}
use Rattle.stun_client_endpoint.specs.Written.{Page?}
use Rattle.stun_client_endpoint.specs.declared.ended.DropReason.TheVariants.{LateChallenge}
use Rattle.stun_client_endpoint.specs.declared.ended.RequestEnd.TheVariants as how
use Rattle.stun_client_endpoint.specs.declared.told.Received.TheVariants.{Consumed, NotOurs}
use Rattle.stun_client_requests.specs.Numbers.{id_at, known_at}
use Rattle.stun_client_requests.specs.OneTable.{IsOneTable}
use Rattle.stun_client_requests.specs.Requests.{bytes_at, datum_of, number_at}
use Rattle.stun_client_requests.specs.declared.numbers.Known.TheVariants.{Ended}
use Rattle.stun_client_requests.proofs.NumberLemmas.{apart}
use Rattle.stun_client_calls.specs.Clients.{Client, address_for, chosen, identity_for, plan_for}
use Rattle.stun_client_calls.specs.Deciding.{DecisionSeen, Place, answered, decided, drops}
use Rattle.stun_client_calls.specs.Deciding.{is_spent}
use Rattle.stun_client_calls.specs.Deciding.{place_of, turns, turns_for, challenged_out}
use Rattle.stun_client_calls.specs.Endpoints.{EndSeen}
use Rattle.stun_client_calls.specs.Ids.{first_free, is_taken, number_in}
use Rattle.stun_client_calls.specs.Messages.{AskedSeen, SentSeen, counted_on, message_for}
use Rattle.stun_client_calls.specs.Messages.{new_asked, rank_after, turned}
use Rattle.stun_client_calls.specs.Receiving.{Answer, Memory, Met, Spot, answered_by, answered_in}
use Rattle.stun_client_calls.specs.Receiving.{as_current, by_class, by_decision, by_met}
use Rattle.stun_client_calls.specs.Receiving.{decision_for, heard_in, if_from, if_method, judge_for}
use Rattle.stun_client_calls.specs.Receiving.{met_by, moment_of, received, round_trip_of, spot_of}
use Rattle.stun_client_calls.specs.Receiving.{turn_to, turned_at, turned_by, turned_to}
use Rattle.stun_client_calls.specs.Writing.{message_bytes}
use Rattle.stun_client_calls.specs.declared.turning.Why.TheVariants.{Challenged}
use Rattle.stun_client_meetings.proofs.TurnedLemmas.{bytes_then, ended_then, stored_then}

-- ---- IDs

-- a number that is chosen is not taken
is_free : (taken : ℕ → Bool) (number many n : ℕ) → first_free taken number many ≡ Some n
    → taken n ≡ false
is_free taken number zero n is = cc
is_free taken number (suc many) n is =
    by (taken number) refl (λ later. is_free taken (number + 1) many n later) is
  where
    by : (b : Bool) → taken number ≡ b
        → (first_free taken (number + 1) many ≡ Some n → taken n ≡ false)
        → cond b (first_free taken (number + 1) many) (Some number) ≡ Some n → taken n ≡ false
    by true was rest is = rest is
    by false was rest is =
        let same : number ≡ n = cc in
        subst (λ k. taken k ≡ false) same was

first_false : (a b : Bool) → (a || b) ≡ false → a ≡ false
first_false true b is = is
first_false false b is = refl

none_there : {A : Type 0} (o : Option A) → is_some o ≡ false → o ≡ None
none_there None is = refl
none_there (Some x) is = cc

pub some_there : {A : Type 0} (o : Option A) → IsSome o → (x : A) × (o ≡ Some x)
some_there None is = cc
some_there (Some x) is = (x, refl)

-- the ID of a chosen number is that of no current message
pub chosen_free : (c : Client) (n : ℕ) → chosen c ≡ Some n
    → number_at (id_of c.seed n) c.requests.table.attached ≡ None
chosen_free c n is =
    none_there (number_at (id_of c.seed n) c.requests.table.attached)
    (first_false (is_some (number_at (id_of c.seed n) c.requests.table.attached))
    (is_some (number_in (id_of c.seed n) c.earlier))
    (is_free (is_taken c.seed c.requests.table.attached c.earlier) c.next_id _ n is))

-- ---- the message that is answered

module _ (c : Client) (number id : ℕ) (a : AskedSeen) (server : SocketAddr) (response : List ℕ)
    (one : IsOneTable c.requests.table.attached c.requests.numbers c.requests.next)
    (named : id_at number c.requests.numbers ≡ Some id)
    (stored : datum_of number c.requests ≡ Some a) (message : refusal response ≡ None)
    (hears : is_same_address server (address_for c a) ≡ true)
    (same_id : transaction_id_field response ≡ id)
    (answers : is_answer a.method response ≡ true) where
  abbrev its : Met
  its = as_current number a

  abbrev nothing : Answer
  nothing = (NotOurs, c)

  abbrev verdict : Verdict
  verdict =
      judged c.requires_fingerprint true (identity_for c a) c.standing a.signed_for response

  answered_so : answered_in response c ≡ Some its
  answered_so =
      ap (λ k. if_method response (met_by k c (number_at k c.requests.table.attached))) same_id
      ∙ ap (λ (o : Option ℕ). if_method response (met_by id c o)) (one.timed number id named)
      ∙ ap (λ (o : Option AskedSeen). if_method response (option_map (as_current number) o)) stored
      ∙ ap (λ b. cond b (Some its) None) answers

  found : heard_in server response c ≡ Some its
  found =
      ap (λ (o : Option Met). if_from server c o) answered_so
      ∙ ap (λ b. cond b (Some its) None) hears

  module _ (memory : Memory) (now : ℕ) where
    of_class : (class : MessageClass) → is_answer_of a.method class response ≡ true
        → by_class memory server c now response class
        ≡ by_met memory c now response (heard_in server response c)
    of_class Classes.Request is = cc
    of_class Classes.Indication is = cc
    of_class Classes.Success is = refl
    of_class Classes.Error is = refl

    acts : received memory server response now c
        ≡ by_decision memory c now response its (decision_for c now response its)
    acts =
        ap (λ o. cond (is_some o) nothing
        (by_class memory server c now response (class_in response))) message
        ∙ of_class (class_in response) answers
        ∙ ap (λ (o : Option Met). by_met memory c now response o) found

    acts_on : (d : DecisionSeen) (v : Verdict) → verdict ≡ v
        → decided (judge_for c a).limits c.standing now a v ≡ d
        → received memory server response now c ≡ by_decision memory c now response its d
    acts_on d v says comes_to =
        acts
        ∙ ap (λ (x : Verdict). by_decision memory c now response its
        (decided (judge_for c a).limits c.standing now a x)) says
        ∙ ap (λ (x : DecisionSeen). by_decision memory c now response its x) comes_to

    -- ---- a signed answer

    abbrev pub end_by : Option IntegrityAlgorithm → EndSeen
    end_by by = record {
      end = how.Answered (outcome_of c.understood response) by;
      response = response;
      round_trip = round_trip_of now its;
    }

    abbrev pub after_answer : Option IntegrityAlgorithm → Client
    after_answer by = (answered_by c now response its (end_by by)).1

    pub answer_is : (by : Option IntegrityAlgorithm) → verdict ≡ believed by
        → received memory server response now c ≡ (Consumed, after_answer by)
    answer_is by says = acts_on (answered by) (believed by) says refl

    pub answer_ends : (by : Option IntegrityAlgorithm)
        → known_at number (after_answer by).requests.numbers.known ≡ Some (Ended (end_by by))
    answer_ends by = ended_then c.requests number id (length response) (moment_of now its) (end_by
        by) named

    -- ---- a challenge

    module _ (d : Answered) (says : verdict ≡ anew d) (in_time : now ≤ a.until)
        (often : a.turns < c.turns) (s : Spot)
        (stands : spot_of c a (option_map place_of (message_for d a.earlier)) ≡ Some s)
        (off : is_at (nat_cmp s.id) id ≡ false) (bytes : List ℕ)
        (written : message_bytes c.form c.identity (Some d) s.id a ≡ Ok bytes) where
      abbrev place : Option Place
      place = option_map place_of (message_for d a.earlier)

      comes_to : decided (judge_for c a).limits c.standing now a (anew d)
          ≡ turns Challenged place (Some d)
      comes_to =
          ap (λ b. cond b (drops LateChallenge)
          (cond (is_spent (judge_for c a).limits a) challenged_out (turns_for Challenged d a)))
          (le-ltb a.until now in_time)
          ∙ ap (λ b. cond b challenged_out (turns_for Challenged d a)) (lt-leb c.turns a.turns often)

      abbrev pub after_challenge : Client
      after_challenge = (turned_to memory c now response its Challenged (Some d) s bytes).1

      pub challenge_is : received memory server response now c ≡ (Consumed, after_challenge)
      challenge_is =
          acts_on (turns Challenged place (Some d)) (anew d) says comes_to
          ∙ ap (λ (o : Option Spot). turned_at memory c now response its Challenged (Some d) o)
          stands
          ∙ ap (λ (p : Page?). turned_by memory c now response its Challenged (Some d) s p) written

      abbrev pub asked_then : AskedSeen
      asked_then =
          turned memory.is_kept (transaction_id_field response) (turn_to s Challenged (Some d)) a

      pub challenge_stores : datum_of number after_challenge.requests ≡ Some asked_then
      challenge_stores =
          stored_then c.requests number id s.id bytes (plan_for c a)
          (new_asked a.method [] None 0 None)
          asked_then
          (record { count = length response; moment = Some now }) now named off

      pub challenge_sends : bytes_at number after_challenge.requests ≡ Some bytes
      challenge_sends =
          bytes_then c.requests number id s.id bytes (plan_for c a)
          (new_asked a.method [] None 0 None)
          asked_then
          (record { count = length response; moment = Some now }) now named off

-- ---- where the message for a challenge stands

-- it has an ID of its own
pub record IsSpot (c : Client) (a : AskedSeen) (id : ℕ) (d : Answered) : Type 0 where
  pub spot : Spot
  pub stands : spot_of c a (option_map place_of (message_for d a.earlier)) ≡ Some spot
  pub off : is_at (nat_cmp spot.id) id ≡ false

-- IDs of two messages differ, if one is that of a current message and the other is not
pub other_id : (c : Client) (id number other : ℕ)
    → number_at id c.requests.table.attached ≡ Some number
    → number_at other c.requests.table.attached ≡ None → is_at (nat_cmp other) id ≡ false
other_id c id number other here none = apart other id wrong
  where
    wrong : other ≡ id → ⊥
    wrong same =
        let no : ◌≡◌ {A = Option ℕ} None (Some number) =
        sym none ∙ ap (λ k. number_at k c.requests.table.attached) same ∙ here in
        cc

pub new_spot : (c : Client) (a : AskedSeen) (id number n : ℕ) (d : Answered)
    → number_at id c.requests.table.attached ≡ Some number → chosen c ≡ Some n
    → message_for d a.earlier ≡ None → IsSpot c a id d
new_spot c a id number n d here left none = record {
  spot = record {
    id = id_of c.seed n;
    rank = rank_after (counted_on a.turns);
    next_id = n + 1;
  };
  stands =
      ap (λ (o : Option (ℕ × SentSeen)). spot_of c a (option_map place_of o)) none
      ∙ ap (λ (o : Option ℕ). option_map (λ k. record {
        id = id_of c.seed k;
        rank = rank_after (counted_on a.turns);
        next_id = k + 1;
      }) o) left;
  off = other_id c id number (id_of c.seed n) here (chosen_free c n left);
}

abbrev earlier_place : Client → ℕ × SentSeen → Spot
earlier_place c e = record { id = e.1.id; rank = e.0; next_id = c.next_id }

pub earlier_spot : (c : Client) (a : AskedSeen) (id number : ℕ) (d : Answered) (e : ℕ × SentSeen)
    → number_at id c.requests.table.attached ≡ Some number
    → number_at e.1.id c.requests.table.attached ≡ None
    → message_for d a.earlier ≡ Some e → IsSpot c a id d
earlier_spot c a id number d e here none is = record {
  spot = earlier_place c e;
  stands = ap (λ (o : Option (ℕ × SentSeen)). spot_of c a (option_map place_of o)) is
      ∙ ap (λ (o : Option ℕ). cond (is_some o) None (Some (earlier_place c e))) none;
  off = other_id c id number e.1.id here none;
}
