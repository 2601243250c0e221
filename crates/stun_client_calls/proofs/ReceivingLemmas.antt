-- What a client makes of a response, from what its steps make of it.
use Rattle.std.proofs.Common.{◌≡◌, ◌∙◌, [], ℕ, Bool, true, false, List, Option, Some, None, Result}
use Rattle.std.proofs.Common.{Err, ap, cond, inl, inr, length, refl, subst, sym}
use Rattle.std.specs.BTreeMap.{insert_entry, is_at}
use Rattle.std.specs.Map.{remove_entry}
use Rattle.std.specs.Option.{is_some, option_and_then, option_map}
use Rattle.std.specs.Ordering.{nat_cmp}
use Rattle.std.specs.Prelude.{◌⊎◌, IfErr, if◌then◌else◌}
use Rattle.std.specs.declared.net.socket_addr.SocketAddr.{SocketAddr}
use Rattle.stun_base.specs.Header.{transaction_id_field}
use Rattle.stun_base.specs.MessageType.{class_in}
use Rattle.stun_base.specs.declared.keys.algorithm.IntegrityAlgorithm.{IntegrityAlgorithm}
use Rattle.stun_base.specs.declared.wire.error.StunParseError.{StunParseError}
use Rattle.stun_base.specs.declared.wire.error.StunWriteError.{StunWriteError}
use Rattle.stun_base.specs.declared.wire.error.StunWriteError.TheVariants.{OutOfMemory}
use Rattle.stun_base.specs.declared.wire.message_type.MessageClass.{MessageClass}
use Rattle.stun_base.specs.declared.wire.message_type.MessageClass.TheVariants as Classes
use Rattle.stun_types.specs.Message.{refusal}
use Rattle.stun_extra.specs.CanonicalAddress.{is_same_address}
use Rattle.stun_client.specs.Challenges.{Answered}
use Rattle.stun_client.specs.Standing.{answering, confirming}
use Rattle.stun_client.specs.Judging.{Identity, Verdict, judged}
use Rattle.stun_client.specs.Outcomes.{outcome_of}
use Rattle.stun_client.specs.Answers.{is_answer}
use Rattle.stun_client.specs.Standing.{StandingSeen, after_success}
use Rattle.stun_client_endpoint.specs.Written.{Page?}
use Rattle.stun_client_endpoint.specs.declared.ended.DropReason.{DropReason}
use Rattle.stun_client_endpoint.specs.declared.ended.DropReason.TheVariants as Reasons
use Rattle.stun_client_endpoint.specs.declared.ended.RequestEnd.{RequestEnd}
use Rattle.stun_client_endpoint.specs.declared.ended.RequestEnd.TheVariants as how
use Rattle.stun_client_endpoint.specs.declared.told.Received.TheVariants.{Consumed}
use Rattle.stun_client_endpoint.specs.declared.told.Received.TheVariants.{NotOurs}
use Rattle.stun_client_requests.specs.Requests.{RequestsSeen, after_again, after_answering}
use Rattle.stun_client_requests.specs.Requests.{after_replacing, datum_of, number_at}
use Rattle.stun_agent.specs.Timing.{Settings}
use Rattle.stun_client_calls.specs.Clients.{Client, address_for, identity_for, plan_for}
use Rattle.stun_client_calls.specs.Clients.{with_requests}
use Rattle.stun_client_calls.specs.Deciding.{DecisionSeen, Place, answered, decided, drops, refuses}
use Rattle.stun_client_calls.specs.Deciding.{challenged_out}
use Rattle.stun_client_calls.specs.Endpoints.{EndSeen, bare_end, without_all}
use Rattle.stun_client_calls.specs.Ids.{Earlier, number_in}
use Rattle.stun_client_calls.specs.Messages.{AskedSeen, SentSeen, TurnSeen, message_at, new_asked}
use Rattle.stun_client_calls.specs.Messages.{turned}
use Rattle.stun_client_calls.specs.Receiving.{end_after}
use Rattle.stun_client_calls.specs.Receiving.{Answer, Memory, Met, Spot, UnlessMemory, all_memory}
use Rattle.stun_client_calls.specs.Receiving.{answered_in}
use Rattle.stun_client_calls.specs.Receiving.{is_success_class}
use Rattle.stun_client_calls.specs.Receiving.{as_current, as_earlier, as_expected, by_class}
use Rattle.stun_client_calls.specs.Receiving.{by_decision, by_met}
use Rattle.stun_client_calls.specs.Receiving.{current_of, decision_for, dropping, dropping_refusal}
use Rattle.stun_client_calls.specs.Receiving.{earlier_of, received, unwritten}
use Rattle.stun_client_calls.specs.Options.{round_trip}
use Rattle.stun_client_calls.specs.Receiving.{exchanged_ids, forgone, heard_in, if_from, if_method}
use Rattle.stun_client_calls.specs.Receiving.{indicated, judge_for, met, round_trip_of}
use Rattle.stun_client_calls.specs.Receiving.{met_by}
use Rattle.stun_client_calls.specs.Receiving.{moment_of, notes, spot_of, turned_at, turned_by}
use Rattle.stun_client_calls.specs.Receiving.{turned_to}
use Rattle.stun_client_calls.specs.Writing.{message_bytes}
use Rattle.stun_client_calls.specs.code.Acting.{IsExchanged, confirmed_in, exchanging}
use Rattle.stun_client_calls.specs.declared.deciding.Limits.{Limits}
use Rattle.stun_client_calls.specs.declared.turning.Why.{Why}

-- what does not need memory for the former message
pub always : (expected : Memory → Answer) (bytes : List ℕ) (o : Option Met) (c : Client)
    (answer : Answer) → ((memory : Memory) → answer ≡ expected memory)
    → UnlessMemory expected bytes o c answer
always expected bytes o c answer is = as_expected all_memory (is all_memory)

-- what is expected is the same by another name
pub renamed : (expected other : Memory → Answer) (bytes : List ℕ) (o : Option Met) (c : Client)
    (answer : Answer) → ((memory : Memory) → other memory ≡ expected memory)
    → UnlessMemory other bytes o c answer → UnlessMemory expected bytes o c answer
renamed expected other bytes o c answer same (as_expected memory is) =
    as_expected memory (is ∙ same memory)
renamed expected other bytes o c answer same (forgone is) = forgone is

-- a response for which there is no memory is dropped
pub forgone_for : (expected : Memory → Answer) (bytes : List ℕ) (c : Client) (m : Met) (number : ℕ)
    (answer : Answer) → answered_in bytes c ≡ Some m → number ≡ m.number
    → answer ≡ dropping number Reasons.OutOfMemory bytes c
    → UnlessMemory expected bytes (Some m) c answer
forgone_for expected bytes c m number answer found same is =
    forgone (is ∙ ap (λ n. dropping n Reasons.OutOfMemory bytes c) same)

-- ---- the address that a response comes from

from_its_address : (from : SocketAddr) (c : Client) (o : Option Met) (m : Met)
    → if_from from c o ≡ Some m → o ≡ Some m
from_its_address from c None m is = cc
from_its_address from c (Some n) m is = by (is_same_address from (address_for c n.asked)) is
  where
    by : (b : Bool) → ◌≡◌ {A = Option Met} (cond b (Some n) None) (Some m)
        → ◌≡◌ {A = Option Met} (Some n) (Some m)
    by true is = is
    by false is = cc

-- what is heard from an address is answered
pub heard_is : (from : SocketAddr) (bytes : List ℕ) (c : Client) (m : Met)
    → heard_in from bytes c ≡ Some m → answered_in bytes c ≡ Some m
heard_is from bytes c m = from_its_address from c (answered_in bytes c) m

-- what is heard from an address, by the message that is answered
pub heard_so : (from : SocketAddr) (bytes : List ℕ) (c : Client) (m n : Met) (address : SocketAddr)
    (b : Bool) → Some n ≡ answered_in bytes c → n ≡ m → address ≡ address_for c m.asked
    → is_same_address from address ≡ b → cond b (Some m) None ≡ heard_in from bytes c
heard_so from bytes c m n address b found meets there is =
    ap (λ (x : Bool). cond_met x) (sym is)
    ∙ ap (λ (a : SocketAddr). cond_met (is_same_address from a)) there
    ∙ ap (λ (o : Option Met). if_from from c o) (ap (λ (y : Met). Some y) (sym meets) ∙ found)
  where
    cond_met : Bool → Option Met
    cond_met x = cond x (Some m) None

-- a response to no message is not for this client
pub unanswered : (from : SocketAddr) (bytes : List ℕ) (c : Client) (now : ℕ)
    → heard_in from bytes c ≡ None
    → UnlessMemory (λ memory. by_met memory c now bytes (heard_in from bytes c)) bytes
    (heard_in from bytes c) c (NotOurs, c)
unanswered from bytes c now none =
    always (λ memory. by_met memory c now bytes (heard_in from bytes c)) bytes
    (heard_in from bytes c) c (NotOurs, c)
    (λ memory. sym (ap (λ o. by_met memory c now bytes o) none))

-- a response comes to what is decided on it
pub by_its_decision : (from : SocketAddr) (bytes : List ℕ) (c : Client) (now : ℕ) (m : Met)
    (d : DecisionSeen) (answer : Answer) → heard_in from bytes c ≡ Some m
    → d ≡ decision_for c now bytes m
    → UnlessMemory (λ memory. by_decision memory c now bytes m d) bytes (Some m) c answer
    → UnlessMemory (λ memory. by_met memory c now bytes (heard_in from bytes c)) bytes
    (heard_in from bytes c) c answer
by_its_decision from bytes c now m d answer found decides said =
    subst (λ (o : Option Met).
    UnlessMemory (λ memory. by_met memory c now bytes o) bytes o c answer) (sym found)
    (renamed (λ memory. by_met memory c now bytes (Some m))
    (λ memory. by_decision memory c now bytes m d) bytes (Some m) c answer
    (λ memory. ap (λ x. by_decision memory c now bytes m x) decides) said)

-- ---- another message

pub without_spot : (bytes : List ℕ) (c : Client) (now : ℕ) (m : Met) (number : ℕ) (why : Why)
    (d : Option Answered) (place : Option Place) (answer : Answer) → answered_in bytes c ≡ Some m
    → number ≡ m.number → answer ≡ dropping number Reasons.OutOfMemory bytes c
    → UnlessMemory (λ memory. turned_at memory c now bytes m why d (spot_of c m.asked place)) bytes
    (Some m) c answer
without_spot bytes c now m number why d place answer =
    forgone_for (λ memory. turned_at memory c now bytes m why d (spot_of c m.asked place)) bytes c m
    number answer

pub with_spot : (bytes : List ℕ) (c : Client) (now : ℕ) (m : Met) (why : Why) (d : Option Answered)
    (place : Option Place) (s : Spot) (page : Page?) (answer : Answer)
    → spot_of c m.asked place ≡ Some s
    → message_bytes c.form c.identity d s.id m.asked ≡ page
    → UnlessMemory (λ memory. turned_by memory c now bytes m why d s page) bytes (Some m) c answer
    → UnlessMemory (λ memory. turned_at memory c now bytes m why d (spot_of c m.asked place)) bytes
    (Some m) c answer
with_spot bytes c now m why d place s page answer stands written =
    renamed (λ memory. turned_at memory c now bytes m why d (spot_of c m.asked place))
    (λ memory. turned_by memory c now bytes m why d s page) bytes (Some m) c answer
    (λ memory. ap (λ p. turned_by memory c now bytes m why d s p) (sym written)
    ∙ sym (ap (λ o. turned_at memory c now bytes m why d o) stands))

-- ---- the message that is answered

pub if_method_is : (bytes : List ℕ) (o : Option Met) (m : Met) → if_method bytes o ≡ Some m
    → o ≡ Some m
if_method_is bytes None m is = cc
if_method_is bytes (Some n) m is = by (is_answer n.asked.method bytes) is
  where
    by : (b : Bool) → ◌≡◌ {A = Option Met} (cond b (Some n) None) (Some m)
        → ◌≡◌ {A = Option Met} (Some n) (Some m)
    by true is = is
    by false is = cc

current_has : (c : Client) (number : ℕ) (m : Met) → current_of c number ≡ Some m
    → datum_of m.number c.requests ≡ Some m.asked
current_has c number m is = by (datum_of number c.requests) refl is
  where
    by : (o : Option AskedSeen) → datum_of number c.requests ≡ o
        → option_map (as_current number) o ≡ Some m → datum_of m.number c.requests ≡ Some m.asked
    by None found is = cc
    by (Some a) found is =
        let same : as_current number a ≡ m = cc in
        subst (λ (x : Met). datum_of x.number c.requests ≡ Some x.asked) same found

earlier_has : (id : ℕ) (c : Client) (number : ℕ) (m : Met) → earlier_of id c number ≡ Some m
    → datum_of m.number c.requests ≡ Some m.asked
earlier_has id c number m is = by (datum_of number c.requests) refl is
  where
    by_message : (a : AskedSeen) (o : Option (ℕ × SentSeen))
        → datum_of number c.requests ≡ Some a → option_map (as_earlier number a) o ≡ Some m
        → datum_of m.number c.requests ≡ Some m.asked
    by_message a None found is = cc
    by_message a (Some e) found is =
        let same : as_earlier number a e ≡ m = cc in
        subst (λ (x : Met). datum_of x.number c.requests ≡ Some x.asked) same found

    by : (o : Option AskedSeen) → datum_of number c.requests ≡ o
        → option_and_then (λ a. option_map (as_earlier number a) (message_at id a.earlier)) o
        ≡ Some m → datum_of m.number c.requests ≡ Some m.asked
    by None found is = cc
    by (Some a) found is = by_message a (message_at id a.earlier) found is

met_has : (id : ℕ) (c : Client) (o : Option ℕ) (m : Met) → met_by id c o ≡ Some m
    → datum_of m.number c.requests ≡ Some m.asked
met_has id c (Some number) m is = current_has c number m is
met_has id c None m is = by (number_in id c.earlier) is
  where
    by : (o : Option ℕ) → option_and_then (earlier_of id c) o ≡ Some m
        → datum_of m.number c.requests ≡ Some m.asked
    by None is = cc
    by (Some number) is = earlier_has id c number m is

-- a message that is answered is one of an outstanding request
pub met_is_stored : (bytes : List ℕ) (c : Client) (m : Met) (number : ℕ)
    → answered_in bytes c ≡ Some m → number ≡ m.number
    → datum_of number c.requests ≡ Some m.asked
met_is_stored bytes c m number found same =
    ap (λ (n : ℕ). datum_of n c.requests) same
    ∙ met_has (transaction_id_field bytes) c
    (number_at (transaction_id_field bytes) c.requests.table.attached) m
    (if_method_is bytes (met (transaction_id_field bytes) c) m found)

pub met_is_not_gone : {P : Type 0} (bytes : List ℕ) (c : Client) (m : Met) (number : ℕ)
    → answered_in bytes c ≡ Some m → number ≡ m.number → datum_of number c.requests ≡ None → P
met_is_not_gone bytes c m number found same gone =
    let there = met_is_stored bytes c m number found same in
    let is : ◌≡◌ {A = Option AskedSeen} None (Some m.asked) = sym gone ∙ there in
    cc

-- what is stored of an answered request is what is met
pub same_asked : (bytes : List ℕ) (c : Client) (m : Met) (number : ℕ) (a : AskedSeen)
    → answered_in bytes c ≡ Some m → number ≡ m.number → Some a ≡ datum_of number c.requests
    → a ≡ m.asked
same_asked bytes c m number a found same is =
    let both : ◌≡◌ {A = Option AskedSeen} (Some a) (Some m.asked) =
    is ∙ met_is_stored bytes c m number found same in
    cc

-- the earlier message with an ID, from what is found on the way
pub earlier_is : (id : ℕ) (c : Client) (number : ℕ) (a : AskedSeen) (e : Option (ℕ × SentSeen))
    → Some number ≡ number_in id c.earlier → Some a ≡ datum_of number c.requests
    → e ≡ message_at id a.earlier
    → option_map (as_earlier number a) e
    ≡ option_and_then (earlier_of id c) (number_in id c.earlier)
earlier_is id c number a e noted stored is =
    ap (λ (o : Option (ℕ × SentSeen)). option_map (as_earlier number a) o) is
    ∙ ap (λ (o : Option AskedSeen).
    option_and_then (λ b. option_map (as_earlier number b) (message_at id b.earlier)) o) stored
    ∙ ap (λ (o : Option ℕ). option_and_then (earlier_of id c) o) noted

-- ---- decisions

pub decided_so : (c : Client) (now : ℕ) (bytes : List ℕ) (m : Met) (limits : Limits) (v : Verdict)
    (d : DecisionSeen) (i : Identity) → limits ≡ (judge_for c m.asked).limits
    → i ≡ identity_for c m.asked
    → v ≡ judged c.requires_fingerprint m.is_current i c.standing m.signed_for bytes
    → d ≡ decided limits c.standing now m.asked v → d ≡ decision_for c now bytes m
decided_so c now bytes m limits v d i same who verdict is =
    is ∙ ap (λ (l : Limits). decided l c.standing now m.asked v) same
    ∙ ap (λ (x : Verdict). decided (judge_for c m.asked).limits c.standing now m.asked x) verdict
    ∙ ap (λ (x : Identity). decided (judge_for c m.asked).limits c.standing now m.asked
    (judged c.requires_fingerprint m.is_current x c.standing m.signed_for bytes)) who

pub decided_at : (c e : Client) (now : ℕ) (bytes : List ℕ) (m n : Met) (limits : Limits)
    (v : Verdict) (d : DecisionSeen) (i : Identity) → e ≡ c → n ≡ m
    → limits ≡ (judge_for c n.asked).limits → i ≡ identity_for e n.asked
    → v ≡ judged e.requires_fingerprint n.is_current i e.standing n.signed_for bytes
    → d ≡ decided limits e.standing now n.asked v → d ≡ decision_for c now bytes m
decided_at c e now bytes m n limits v d i opens meets same who verdict is =
    subst (λ (x : Client). d ≡ decision_for x now bytes m) opens
    (subst (λ (y : Met). d ≡ decision_for e now bytes y) meets
    (decided_so e now bytes n limits v d i
    (same ∙ ap (λ (x : Client). (judge_for x n.asked).limits) (sym opens)) who verdict is))

-- ---- ends

confirming_is : (b : Bool) (standing : StandingSeen) (s : Option Answered)
    → after_success standing (if b then s else None) ≡ confirming b standing s
confirming_is true standing s = refl
confirming_is false standing s = refl

-- a client once a request has ended
abbrev ending : ℕ → Option ℕ → EndSeen → List ℕ → StandingSeen → AskedSeen → Client → Client
ending number moment end bytes standing a c = record c {
  standing = standing;
  requests = after_answering number (length bytes) moment end c.requests;
  earlier = without_all a.earlier c.earlier;
}

ended_so : (c new : Client) (now : ℕ) (bytes : List ℕ) (m : Met) (number : ℕ) (is_current : Bool)
    (end other : EndSeen) (standing its : StandingSeen) (a : AskedSeen) → number ≡ m.number
    → is_current ≡ m.is_current → end ≡ other → standing ≡ its → a ≡ m.asked
    → new ≡ ending number (if is_current then Some now else None) end bytes standing a c
    → new ≡ ending m.number (moment_of now m) other bytes its m.asked c
ended_so c new now bytes m number is_current end other standing its a same current ends stands asked
    is =
    is
    ∙ ap (λ (x : AskedSeen).
    ending number (if is_current then Some now else None) end bytes standing x c) asked
    ∙ ap (λ (x : StandingSeen).
    ending number (if is_current then Some now else None) end bytes x m.asked c) stands
    ∙ ap (λ (x : EndSeen).
    ending number (if is_current then Some now else None) x bytes its m.asked c) ends
    ∙ ap (λ (x : Bool). ending number (if x then Some now else None) other bytes its m.asked c)
    current
    ∙ ap (λ (x : ℕ). ending x (moment_of now m) other bytes its m.asked c) same

abbrev consumed : Client → Answer
consumed c = (Consumed, c)

abbrev pub end_of : RequestEnd → List ℕ → Option ℕ → EndSeen
end_of end response trip = record { end = end; response = response; round_trip = trip }

pub end_so : (end other : RequestEnd) (response bytes : List ℕ) (trip its : Option ℕ) → end ≡ other
    → response ≡ bytes → trip ≡ its → end_of end response trip ≡ end_of other bytes its
end_so end other response bytes trip its is same took =
    ap (λ (x : RequestEnd). end_of x response trip) is
    ∙ ap (λ (x : List ℕ). end_of other x trip) same
    ∙ ap (λ (x : Option ℕ). end_of other bytes x) took

-- the round trip of a response, from what is stored of its request
pub trip_so : (bytes : List ℕ) (c : Client) (now : ℕ) (m : Met) (is_current : Bool)
    (trip : Option ℕ) → is_current ≡ m.is_current
    → trip ≡ (if is_current then round_trip now m.asked.handed_out else None)
    → trip ≡ round_trip_of now m
trip_so bytes c now m is_current trip current is =
    is ∙ ap (λ (b : Bool). if b then round_trip now m.asked.handed_out else None) current

pub page_so : {T : Type 0} (r : Result T StunWriteError) (page other : Page?) → page ≡ other
    → IfErr r (λ why. (why ≡ OutOfMemory) ⊎ (page ≡ Err why))
    → IfErr r (λ why. (why ≡ OutOfMemory) ⊎ (other ≡ Err why))
page_so r page other same =
    subst (λ (p : Page?). IfErr r (λ why. (why ≡ OutOfMemory) ⊎ (p ≡ Err why))) same

-- what was stored of a request is taken out, and the transaction IDs of its earlier messages
ending_so : (c mid : Client) (number : ℕ) (moment : Option ℕ) (end : EndSeen) (bytes : List ℕ)
    (standing : StandingSeen) (a : AskedSeen) (earlier : Earlier)
    → mid ≡ with_requests (after_answering number (length bytes) moment end c.requests) c
    → earlier ≡ without_all a.earlier mid.earlier
    → record mid { standing = standing; earlier = earlier }
    ≡ ending number moment end bytes standing a c
ending_so c mid number moment end bytes standing a earlier mid_is is =
    ap (λ (x : Earlier). record mid { standing = standing; earlier = x }) is
    ∙ ap (λ (x : Client).
    record x { standing = standing; earlier = without_all a.earlier x.earlier }) mid_is

-- a response that is believed has ended its request
pub answered_as : (c mid : Client) (now : ℕ) (bytes : List ℕ) (m : Met) (number : ℕ)
    (is_current : Bool) (by : Option IntegrityAlgorithm) (end : EndSeen)
    (confirmed : Option Answered) (a : AskedSeen) (standing : StandingSeen) (earlier : Earlier)
    → answered_in bytes c ≡ Some m → number ≡ m.number → is_current ≡ m.is_current
    → end ≡ end_of (how.Answered (outcome_of c.understood bytes) by) bytes (round_trip_of now m)
    → confirmed ≡ confirmed_in (class_in bytes) m → Some a ≡ datum_of number c.requests
    → mid ≡ with_requests (after_answering number (length bytes)
    (if is_current then Some now else None) end c.requests) c
    → standing ≡ after_success mid.standing confirmed → earlier ≡ without_all a.earlier mid.earlier
    → (memory : Memory)
    → (Consumed, record mid { standing = standing; earlier = earlier })
    ≡ by_decision memory c now bytes m (answered by)
answered_as c mid now bytes m number is_current by end confirmed a standing earlier found same current
    ends confirms stored mid_is standing_is earlier_is memory =
    ap (λ (x : Client). consumed x)
    (ended_so c (record mid { standing = standing; earlier = earlier }) now bytes m number is_current
    end (end_of (how.Answered (outcome_of c.understood bytes) by) bytes (round_trip_of now m))
    standing (confirming (is_success_class (class_in bytes)) c.standing m.signed_for) a same current
    ends
    (standing_is ∙ ap (λ (x : Client). after_success x.standing confirmed) mid_is
    ∙ ap (λ (x : Option Answered). after_success c.standing x) confirms
    ∙ confirming_is (is_success_class (class_in bytes)) c.standing m.signed_for)
    (same_asked bytes c m number a found same stored)
    (ending_so c mid number (if is_current then Some now else None) end bytes standing a earlier mid_is
    earlier_is))

pub answered_so : (c mid : Client) (now : ℕ) (bytes : List ℕ) (m : Met) (number : ℕ)
    (is_current : Bool) (by : Option IntegrityAlgorithm) (end : EndSeen)
    (confirmed : Option Answered) (a : AskedSeen) (standing : StandingSeen) (earlier : Earlier)
    → answered_in bytes c ≡ Some m → number ≡ m.number → is_current ≡ m.is_current
    → end ≡ end_of (how.Answered (outcome_of c.understood bytes) by) bytes (round_trip_of now m)
    → confirmed ≡ confirmed_in (class_in bytes) m → Some a ≡ datum_of number c.requests
    → mid ≡ with_requests (after_answering number (length bytes)
    (if is_current then Some now else None) end c.requests) c
    → standing ≡ after_success mid.standing confirmed → earlier ≡ without_all a.earlier mid.earlier
    → UnlessMemory (λ memory. by_decision memory c now bytes m (answered by)) bytes (Some m) c
    (Consumed, record mid { standing = standing; earlier = earlier })
answered_so c mid now bytes m number is_current by end confirmed a standing earlier found same current
    ends confirms stored mid_is standing_is earlier_is =
    always (λ memory. by_decision memory c now bytes m (answered by)) bytes (Some m) c
    (Consumed, record mid { standing = standing; earlier = earlier })
    (answered_as c mid now bytes m number is_current by end confirmed a standing earlier found same current ends confirms stored mid_is standing_is earlier_is)

-- a request has ended that was challenged or refused as often as it may be
pub challenged_out_as : (c mid : Client) (now : ℕ) (bytes : List ℕ) (m : Met) (number : ℕ)
    (is_current : Bool) (end : EndSeen) (a : AskedSeen) (earlier : Earlier)
    → answered_in bytes c ≡ Some m → number ≡ m.number → is_current ≡ m.is_current
    → end ≡ bare_end (end_after m.asked.signed_for bytes) → Some a ≡ datum_of number c.requests
    → mid ≡ with_requests (after_answering number (length bytes)
    (if is_current then Some now else None) end c.requests) c
    → earlier ≡ without_all a.earlier mid.earlier
    → (memory : Memory)
    → (Consumed, record mid { earlier = earlier })
    ≡ by_decision memory c now bytes m challenged_out
challenged_out_as c mid now bytes m number is_current end a earlier found same current ends stored
    mid_is earlier_is memory =
    ap (λ (x : Client). consumed x)
    (ended_so c (record mid { earlier = earlier }) now bytes m number is_current end
    (bare_end (end_after m.asked.signed_for bytes)) mid.standing c.standing a same current ends
    (ap (λ (x : Client). x.standing) mid_is) (same_asked bytes c m number a found same stored)
    (ending_so c mid number (if is_current then Some now else None) end bytes mid.standing a earlier
    mid_is earlier_is))

pub challenged_out_so : (c mid : Client) (now : ℕ) (bytes : List ℕ) (m : Met) (number : ℕ)
    (is_current : Bool) (end : EndSeen) (a : AskedSeen) (earlier : Earlier)
    → answered_in bytes c ≡ Some m → number ≡ m.number → is_current ≡ m.is_current
    → end ≡ bare_end (end_after m.asked.signed_for bytes) → Some a ≡ datum_of number c.requests
    → mid ≡ with_requests (after_answering number (length bytes)
    (if is_current then Some now else None) end c.requests) c
    → earlier ≡ without_all a.earlier mid.earlier
    → UnlessMemory (λ memory. by_decision memory c now bytes m challenged_out) bytes (Some m) c
    (Consumed, record mid { earlier = earlier })
challenged_out_so c mid now bytes m number is_current end a earlier found same current ends stored
    mid_is earlier_is =
    always (λ memory. by_decision memory c now bytes m challenged_out) bytes (Some m) c
    (Consumed, record mid { earlier = earlier })
    (challenged_out_as c mid now bytes m number is_current end a earlier found same current ends stored mid_is earlier_is)

-- ---- the message that was the current one

-- its transaction ID is noted, or it is not
pub ids_so : (is_noted : Bool) (former id number : ℕ) (old removed new : Earlier)
    → removed ≡ remove_entry (is_at (nat_cmp id)) old
    → new ≡ (if is_noted then insert_entry nat_cmp removed former number else removed)
    → new ≡ exchanged_ids is_noted former id number old
ids_so is_noted former id number old removed new is noted =
    noted
    ∙ ap (λ (y : Earlier). if is_noted then insert_entry nat_cmp y former number else y) is

-- another message is stored as the current one
pub exchanged_as : (c old : Client) (number former next id : ℕ) (a b : AskedSeen) (t : TurnSeen)
    (memory : Memory) (standing : StandingSeen) (requests : RequestsSeen AskedSeen EndSeen)
    (earlier : Earlier) → old ≡ c → next ≡ t.next_id → id ≡ t.id
    → b ≡ turned memory.is_kept former t a → standing ≡ answering old.standing t.answered
    → requests ≡ after_replacing number b old.requests
    → earlier ≡ exchanged_ids (notes memory) former id number old.earlier
    → record old { next_id = next; standing = standing; requests = requests; earlier = earlier }
    ≡ exchanging memory number former a t c
exchanged_as c old number former next id a b t memory standing requests earlier is next_is id_is
    turns_to stands stored noted =
    ap (λ (x : ℕ). record old {
      next_id = x;
      standing = standing;
      requests = requests;
      earlier = earlier;
    }) next_is
    ∙ ap (λ (x : StandingSeen). record old {
      next_id = t.next_id;
      standing = x;
      requests = requests;
      earlier = earlier;
    }) stands
    ∙ ap (λ (x : RequestsSeen AskedSeen EndSeen). record old {
      next_id = t.next_id;
      standing = answering old.standing t.answered;
      requests = x;
      earlier = earlier;
    }) (stored ∙ ap (λ (y : AskedSeen). after_replacing number y old.requests) turns_to)
    ∙ ap (λ (x : Earlier). record old {
      next_id = t.next_id;
      standing = answering old.standing t.answered;
      requests = after_replacing number (turned memory.is_kept former t a) old.requests;
      earlier = x;
    }) (noted ∙ ap (λ (y : ℕ). exchanged_ids (notes memory) former y number old.earlier) id_is)
    ∙ ap (λ (x : Client). exchanging memory number former a t x) is

pub exchanged_at : (c old : Client) (number former next id : ℕ) (a b : AskedSeen) (t : TurnSeen)
    (memory : Memory) (standing : StandingSeen) (requests : RequestsSeen AskedSeen EndSeen)
    (earlier : Earlier) → old ≡ c → next ≡ t.next_id → id ≡ t.id
    → b ≡ turned memory.is_kept former t a → standing ≡ answering old.standing t.answered
    → requests ≡ after_replacing number b old.requests
    → earlier ≡ exchanged_ids (notes memory) former id number old.earlier
    → IsExchanged number former a t c
    (record old { next_id = next; standing = standing; requests = requests; earlier = earlier })
exchanged_at c old number former next id a b t memory standing requests earlier is next_is id_is
    turns_to stands stored noted =
    record {
      memory = memory;
      after =
          exchanged_as c old number former next id a b t memory standing requests earlier is next_is
          id_is turns_to stands stored noted;
    }

-- with all memory granted the former message is kept and noted
kept_and_noted : (kept noted : Bool) → kept ≡ true → noted ≡ true
    → ◌≡◌ {A = Memory} (record { is_kept = kept; is_noted = noted }) all_memory
kept_and_noted kept noted is_kept is_noted =
    ap (λ (b : Bool). memory_of b noted) is_kept ∙ ap (λ (b : Bool). memory_of true b) is_noted
  where
    memory_of : Bool → Bool → Memory
    memory_of b d = record { is_kept = b; is_noted = d }

pub all_exchanged : (number former : ℕ) (a : AskedSeen) (t : TurnSeen) (c new : Client)
    (kept noted : Bool) → kept ≡ true → noted ≡ true
    → new ≡ exchanging (record { is_kept = kept; is_noted = noted }) number former a t c
    → new ≡ exchanging all_memory number former a t c
all_exchanged number former a t c new kept noted is_kept is_noted is =
    is
    ∙ ap (λ (m : Memory). exchanging m number former a t c)
    (kept_and_noted kept noted is_kept is_noted)

abbrev pub turn_with : Spot → Why → Option Answered → Option Answered → TurnSeen
turn_with s why d o = record {
  id = s.id;
  rank = s.rank;
  signed_for = d;
  next_id = s.next_id;
  answered = o;
  why = why;
}

abbrev pub sent_again : ℕ → AskedSeen → List ℕ → Spot → List ℕ → ℕ → Client → Client
sent_again number a response s bytes now c =
    with_requests (after_again number (record { count = length response; moment = Some now }) s.id
    bytes (plan_for c a) (new_asked a.method [] None 0 None) now c.requests) c

-- another message has become the current one
pub turned_as : (memory : Memory) (c before new : Client) (now : ℕ) (response : List ℕ) (m : Met) (number : ℕ)
    (why : Why) (d o : Option Answered) (s : Spot) (bytes : List ℕ) (a kept : AskedSeen)
    → answered_in response c ≡ Some m → number ≡ m.number → o ≡ d
    → datum_of number c.requests ≡ Some a → Some kept ≡ datum_of number c.requests
    → before ≡ sent_again number kept response s bytes now c
    → new ≡ exchanging memory number (transaction_id_field response) a (turn_with s why d o) before
    → (Consumed, new) ≡ turned_to memory c now response m why d s bytes
turned_as memory c before new now response m number why d o s bytes a kept found same answers stored keeps
    before_is x =
    ap (λ (e : Client). consumed e)
    (x
    ∙ ap (λ (y : Client). exchanging memory number (transaction_id_field response) a
    (turn_with s why d o) y) before_is
    ∙ ap (λ (y : AskedSeen). exchanging memory number (transaction_id_field response) a
    (turn_with s why d o) (sent_again number y response s bytes now c))
    (same_asked response c m number kept found same keeps)
    ∙ ap (λ (y : Option Answered). exchanging memory number
    (transaction_id_field response) a (turn_with s why d y)
    (sent_again number m.asked response s bytes now c)) answers
    ∙ ap (λ (y : AskedSeen). exchanging memory number (transaction_id_field response) y
    (turn_with s why d d) (sent_again number m.asked response s bytes now c))
    (same_asked response c m number a found same (sym stored))
    ∙ ap (λ (y : ℕ). exchanging memory y (transaction_id_field response) m.asked
    (turn_with s why d d) (sent_again y m.asked response s bytes now c)) same)

pub turned_from_as : (memory : Memory) (c e new : Client) (requests : RequestsSeen AskedSeen EndSeen) (now : ℕ)
    (response : List ℕ) (m : Met) (number former method count : ℕ) (why : Why)
    (d o : Option Answered) (s t : Spot) (bytes : List ℕ) (a kept empty : AskedSeen)
    (settings : Settings) → answered_in response c ≡ Some m → number ≡ m.number → e ≡ c → t ≡ s → o ≡ d
    → datum_of number e.requests ≡ Some a → Some kept ≡ datum_of number e.requests
    → method ≡ kept.method → settings ≡ plan_for e kept → empty ≡ new_asked method [] None 0 None
    → count ≡ length response
    → requests ≡ after_again number (record { count = count; moment = Some now }) t.id bytes settings
    empty now e.requests
    → former ≡ transaction_id_field response
    → new ≡ exchanging memory number former a (turn_with t why d o) (with_requests requests e)
    → (Consumed, new) ≡ turned_to memory c now response m why d s bytes
turned_from_as memory c e new requests now response m number former method count why d o s t bytes a kept empty
    settings found same opens stands answers stored keeps method_is plan_is empty_is count_is
    requests_is former_is x =
    turned_as memory c (with_requests requests e) new now response m number why d o s bytes a kept found same
    answers (sym (ap (λ (y : Client). datum_of number y.requests) opens) ∙ stored)
    (keeps ∙ ap (λ (y : Client). datum_of number y.requests) opens)
    (ap (λ (r : RequestsSeen AskedSeen EndSeen). with_requests r e)
    (requests_is
    ∙ ap (λ (k : ℕ). after_again number (record { count = k; moment = Some now }) t.id bytes settings
    empty now e.requests) count_is
    ∙ ap (λ (p : Settings). after_again number
    (record { count = length response; moment = Some now }) t.id bytes p empty now e.requests) plan_is
    ∙ ap (λ (y : AskedSeen). after_again number (record { count = length response; moment = Some now })
    t.id bytes (plan_for e kept) y now e.requests)
    (empty_is ∙ ap (λ (k : ℕ). new_asked k [] None 0 None) method_is))
    ∙ ap (λ (y : Spot). sent_again number kept response y bytes now e) stands
    ∙ ap (λ (y : Client). sent_again number kept response s bytes now y) opens)
    (subst (λ (y : Spot). new ≡ exchanging memory number (transaction_id_field response) a
    (turn_with y why d o) (with_requests requests e)) stands
    (subst (λ (k : ℕ). new ≡ exchanging memory number k a (turn_with t why d o)
    (with_requests requests e))
    former_is x))

pub turned_from : (c e new : Client) (requests : RequestsSeen AskedSeen EndSeen) (now : ℕ)
    (response : List ℕ) (m : Met) (number former method count : ℕ) (why : Why)
    (d o : Option Answered) (s t : Spot) (bytes : List ℕ) (a kept empty : AskedSeen)
    (settings : Settings) → answered_in response c ≡ Some m → number ≡ m.number → e ≡ c → t ≡ s → o ≡ d
    → datum_of number e.requests ≡ Some a → Some kept ≡ datum_of number e.requests
    → method ≡ kept.method → settings ≡ plan_for e kept → empty ≡ new_asked method [] None 0 None
    → count ≡ length response
    → requests ≡ after_again number (record { count = count; moment = Some now }) t.id bytes settings
    empty now e.requests
    → former ≡ transaction_id_field response
    → IsExchanged number former a (turn_with t why d o) (with_requests requests e) new
    → UnlessMemory (λ memory. turned_to memory c now response m why d s bytes) response (Some m) c
    (Consumed, new)
turned_from c e new requests now response m number former method count why d o s t bytes a kept empty
    settings found same opens stands answers stored keeps method_is plan_is empty_is count_is
    requests_is former_is x =
    as_expected x.memory
    (turned_from_as x.memory c e new requests now response m number former method count why d o s t bytes a kept empty settings found same opens stands answers stored keeps method_is plan_is empty_is count_is requests_is former_is
    x.after)

-- the bytes cannot be written
pub unwritten_so : (bytes : List ℕ) (c : Client) (now : ℕ) (m : Met) (number : ℕ) (why : Why)
    (d : Option Answered) (place : Option Place) (s : Spot) (error : StunWriteError)
    (answer : Answer) → number ≡ m.number → spot_of c m.asked place ≡ Some s
    → message_bytes c.form c.identity d s.id m.asked ≡ Err error
    → answer ≡ dropping number (unwritten why) bytes c
    → UnlessMemory (λ memory. turned_at memory c now bytes m why d (spot_of c m.asked place)) bytes
    (Some m) c answer
unwritten_so bytes c now m number why d place s error answer same stands written is =
    with_spot bytes c now m why d place s (Err error) answer stands written
    (always (λ memory. turned_by memory c now bytes m why d s (Err error)) bytes (Some m) c answer
    (λ memory. is ∙ ap (λ (n : ℕ). dropping n (unwritten why) bytes c) same))

-- writing the bytes fails
pub not_written : (bytes : List ℕ) (c : Client) (now : ℕ) (m : Met) (number : ℕ) (why : Why)
    (d : Option Answered) (place : Option Place) (s t : Spot) (error : StunWriteError)
    (reason : DropReason) (answer : Answer) → answered_in bytes c ≡ Some m → number ≡ m.number
    → spot_of c m.asked place ≡ Some s → t ≡ s
    → (error ≡ OutOfMemory) ⊎ (message_bytes c.form c.identity d t.id m.asked ≡ Err error)
    → (error ≡ OutOfMemory → reason ≡ Reasons.OutOfMemory)
    → (error ≡ OutOfMemory) ⊎ (reason ≡ unwritten why) → answer ≡ dropping number reason bytes c
    → UnlessMemory (λ memory. turned_at memory c now bytes m why d (spot_of c m.asked place)) bytes
    (Some m) c answer
not_written bytes c now m number why d place s t error reason answer found same stands opens refused
    memory other is =
    by refused other
  where
    forgets : error ≡ OutOfMemory
        → UnlessMemory (λ memory. turned_at memory c now bytes m why d (spot_of c m.asked place))
        bytes (Some m) c answer
    forgets fails =
        forgone_for (λ memory. turned_at memory c now bytes m why d (spot_of c m.asked place)) bytes c
        m number answer found same
        (is ∙ ap (λ (r : DropReason). dropping number r bytes c) (memory fails))

    by : (error ≡ OutOfMemory) ⊎ (message_bytes c.form c.identity d t.id m.asked ≡ Err error)
        → (error ≡ OutOfMemory) ⊎ (reason ≡ unwritten why)
        → UnlessMemory (λ memory. turned_at memory c now bytes m why d (spot_of c m.asked place))
        bytes (Some m) c answer
    by (inl fails) o = forgets fails
    by (inr page) (inl fails) = forgets fails
    by (inr page) (inr reasoned) =
        unwritten_so bytes c now m number why d place s error answer same stands
        (ap (λ (y : Spot). message_bytes c.form c.identity d y.id m.asked) (sym opens) ∙ page)
        (is ∙ ap (λ (r : DropReason). dropping number r bytes c) reasoned)

-- ---- all of it

-- what a datagram comes to, by whether it is not a message
abbrev by_parts : Memory → SocketAddr → List ℕ → ℕ → Client → Bool → Answer
by_parts memory from bytes now c is_refused =
    if is_refused then (NotOurs, c) else by_class memory from c now bytes (class_in bytes)

-- what is decided, by another name
pub decided_as : (bytes : List ℕ) (c : Client) (now : ℕ) (m : Met) (d other : DecisionSeen)
    (answer : Answer) → d ≡ other
    → UnlessMemory (λ memory. by_decision memory c now bytes m other) bytes (Some m) c answer
    → UnlessMemory (λ memory. by_decision memory c now bytes m d) bytes (Some m) c answer
decided_as bytes c now m d other answer is =
    renamed (λ memory. by_decision memory c now bytes m d)
    (λ memory. by_decision memory c now bytes m other) bytes (Some m) c answer
    (λ memory. ap (λ (x : DecisionSeen). by_decision memory c now bytes m x) (sym is))

pub dropped_so : (bytes : List ℕ) (c : Client) (now : ℕ) (m : Met) (d : DecisionSeen) (number : ℕ)
    (why : DropReason) (answer : Answer) → d ≡ drops why → number ≡ m.number
    → answer ≡ dropping number why bytes c
    → UnlessMemory (λ memory. by_decision memory c now bytes m d) bytes (Some m) c answer
dropped_so bytes c now m d number why answer is same said =
    decided_as bytes c now m d (drops why) answer is
    (always (λ memory. by_decision memory c now bytes m (drops why)) bytes (Some m) c answer
    (λ memory. said ∙ ap (λ (n : ℕ). dropping n why bytes c) same))

pub refused_so : (bytes : List ℕ) (c : Client) (now : ℕ) (m : Met) (d : DecisionSeen) (number : ℕ)
    (answer : Answer) → d ≡ refuses → number ≡ m.number
    → answer ≡ dropping_refusal number bytes c
    → UnlessMemory (λ memory. by_decision memory c now bytes m d) bytes (Some m) c answer
refused_so bytes c now m d number answer is same said =
    decided_as bytes c now m d refuses answer is
    (always (λ memory. by_decision memory c now bytes m refuses) bytes (Some m) c answer
    (λ memory. said ∙ ap (λ (n : ℕ). dropping_refusal n bytes c) same))

pub class_so : (from : SocketAddr) (bytes : List ℕ) (o : Option Met) (c : Client) (now : ℕ)
    (class : MessageClass) (answer : Answer) → class_in bytes ≡ class
    → UnlessMemory (λ memory. by_class memory from c now bytes class) bytes o c answer
    → UnlessMemory (λ memory. by_class memory from c now bytes (class_in bytes)) bytes o c answer
class_so from bytes o c now class answer is =
    renamed (λ memory. by_class memory from c now bytes (class_in bytes))
    (λ memory. by_class memory from c now bytes class) bytes o c answer
    (λ memory. ap (λ (x : MessageClass). by_class memory from c now bytes x) (sym is))

pub not_ours_so : (from : SocketAddr) (bytes : List ℕ) (o : Option Met) (c : Client) (now : ℕ)
    → class_in bytes ≡ Classes.Request
    → UnlessMemory (λ memory. by_class memory from c now bytes (class_in bytes)) bytes o c
    (NotOurs, c)
not_ours_so from bytes o c now is =
    class_so from bytes o c now Classes.Request (NotOurs, c) is
    (always (λ memory. by_class memory from c now bytes Classes.Request) bytes o c (NotOurs, c)
    (λ memory. refl))

pub indication_so : (from : SocketAddr) (bytes : List ℕ) (o : Option Met) (c : Client) (now : ℕ)
    (answer : Answer) → class_in bytes ≡ Classes.Indication → answer ≡ indicated from bytes c
    → UnlessMemory (λ memory. by_class memory from c now bytes (class_in bytes)) bytes o c answer
indication_so from bytes o c now answer is said =
    class_so from bytes o c now Classes.Indication answer is
    (always (λ memory. by_class memory from c now bytes Classes.Indication) bytes o c answer
    (λ memory. said))

pub unread_so : (from : SocketAddr) (bytes : List ℕ) (o : Option Met) (now : ℕ) (c : Client)
    (why : StunParseError) → refusal bytes ≡ Some why
    → UnlessMemory (λ memory. received memory from bytes now c) bytes o c (NotOurs, c)
unread_so from bytes o now c why is =
    always (λ memory. received memory from bytes now c) bytes o c (NotOurs, c)
    (λ memory. sym (ap (λ (x : Option StunParseError). by_parts memory from bytes now c (is_some x))
    is))

pub received_so : (from : SocketAddr) (bytes message : List ℕ) (now : ℕ) (c : Client)
    (answer : Answer) → message ≡ bytes → refusal bytes ≡ None
    → UnlessMemory (λ memory. by_class memory from c now message (class_in message)) message
    (heard_in from message c) c answer
    → UnlessMemory (λ memory. received memory from bytes now c) bytes (heard_in from bytes c) c answer
received_so from bytes message now c answer same read said =
    renamed (λ memory. received memory from bytes now c)
    (λ memory. by_class memory from c now bytes (class_in bytes)) bytes (heard_in from bytes c) c
    answer
    (λ memory. sym
    (ap (λ (o : Option StunParseError). by_parts memory from bytes now c (is_some o)) read))
    (subst (λ (x : List ℕ).
    UnlessMemory (λ memory. by_class memory from c now x (class_in x)) x (heard_in from x c) c answer)
    same said)
