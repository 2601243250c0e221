-- A request is sent again for a challenge, or ends by a signed answer, in the words of a meeting.
use Rattle.std.proofs.Common.{◌≡◌, ◌∙◌, ℕ, true, List, Option, Some, None, Ok, ap, refl, subst, sym}
use Rattle.std.specs.Option.{IfSome}
use Rattle.stun_base.specs.Header.{transaction_id_field}
use Rattle.stun_base.specs.declared.keys.algorithm.IntegrityAlgorithm.{IntegrityAlgorithm}
use Rattle.stun_types.specs.Message.{refusal}
use Rattle.stun_extra.specs.CanonicalAddress.{is_same_address}
use Rattle.stun_client.specs.Challenges.{Answered}
use Rattle.stun_client.specs.Judging.{Identity, Verdict, anew, believed, judged, long_term}
use Rattle.stun_client.specs.Answers.{is_answer}
use Rattle.stun_client_endpoint.specs.Bodies.{Body}
use Rattle.stun_client_endpoint.specs.Written.{Form, request_bytes}
use Rattle.stun_client_endpoint.specs.declared.told.Received.TheVariants.{Consumed}
use Rattle.stun_client_requests.specs.Numbers.{id_at}
use Rattle.stun_client_requests.specs.OneTable.{IsOneTable}
use Rattle.stun_client_requests.specs.Requests.{datum_of, number_at}
use Rattle.stun_client_calls.specs.Clients.{Client, address_for, chosen, identity_for}
use Rattle.stun_client_calls.specs.Messages.{AskedSeen, SentSeen, message_for}
use Rattle.stun_client_calls.specs.Receiving.{Answer, Memory, as_expected, received}
use Rattle.stun_client_calls.specs.Runs.{Calls, Event, receives, silent}
use Rattle.stun_client_calls.specs.Writing.{message_bytes}
use Rattle.stun_requests.specs.Fitting.{IsWritten}
use Rattle.stun_client_meetings.specs.Meeting.{CanGoOn, ClientSide, IsEndedBy, IsSentAgain}
use Rattle.stun_client_meetings.proofs.ActingLemmas.{IsSpot, after_answer, after_challenge}
use Rattle.stun_client_meetings.proofs.ActingLemmas.{answer_ends}
use Rattle.stun_client_meetings.proofs.ActingLemmas.{answer_is, asked_then, challenge_is}
use Rattle.stun_client_meetings.proofs.ActingLemmas.{challenge_sends, challenge_stores}
use Rattle.stun_client_meetings.proofs.ActingLemmas.{earlier_spot}
use Rattle.stun_client_meetings.proofs.ActingLemmas.{end_by, new_spot, some_there}
use Rattle.stun_client_meetings.proofs.SideLemmas.{one_more, with_event}

module _ (side : ClientSide) (c : Client) (number id : ℕ) (a : AskedSeen) (response : List ℕ)
    (one : IsOneTable c.requests.table.attached c.requests.numbers c.requests.next)
    (named : id_at number c.requests.numbers ≡ Some id)
    (stored : datum_of number c.requests ≡ Some a) (message : refusal response ≡ None)
    (hears : is_same_address side.server (address_for c a) ≡ true)
    (signs : identity_for c a ≡ c.identity)
    (same_id : transaction_id_field response ≡ id)
    (answers : is_answer a.method response ≡ true) (memory : Memory) (now : ℕ) where
  -- who the client is for the request
  by_identity : (v : Verdict)
      → judged c.requires_fingerprint true c.identity c.standing a.signed_for response ≡ v
      → judged c.requires_fingerprint true (identity_for c a) c.standing a.signed_for response ≡ v
  by_identity v says =
      ap (λ (i : Identity). judged c.requires_fingerprint true i c.standing a.signed_for response)
      signs
      ∙ says

  -- a signed answer
  pub ends_so : (by : IntegrityAlgorithm)
      → judged c.requires_fingerprint true c.identity c.standing a.signed_for response
      ≡ believed (Some by)
      → IsEndedBy side number by a c response now memory
  ends_so by says = record {
    next = after_answer c number id a side.server response one named stored message hears same_id
        answers
        memory now (Some by);
    consumed = answer_is c number id a side.server response one named stored message hears same_id
        answers memory now (Some by) (by_identity (believed (Some by)) says);
    end = end_by c number id a side.server response one named stored message hears same_id answers
        memory now (Some by);
    there = answer_ends c number id a side.server response one named stored message hears same_id
        answers memory now (Some by);
    end_is = refl;
    response_is = refl;
    round_trip_is = refl;
  }

  -- a challenge
  module _ (method : ℕ) (body : Body) (d : Answered) (method_is : a.method ≡ method)
      (body_is : a.body ≡ body) (form_is : c.form ≡ side.form)
      (identity : c.identity ≡ long_term side.who side.preferences side.accepts_unsigned)
      (says : judged c.requires_fingerprint true c.identity c.standing a.signed_for response ≡ anew
      d)
      (can : CanGoOn c a d now)
      (page : (k : ℕ)
      → IsWritten side.form side.who side.preferences side.accepts_unsigned (Some d) method k body)
    where
      so : judged c.requires_fingerprint true (identity_for c a) c.standing a.signed_for
          response
          ≡ anew d
      so = by_identity (anew d) says

      here : number_at id c.requests.table.attached ≡ Some number
      here = one.timed number id named

      spot_is : IsSpot c a id d
      spot_is = by (message_for d a.earlier) refl
        where
          by : (o : Option (ℕ × SentSeen)) → message_for d a.earlier ≡ o → IsSpot c a id d
          by None none =
              let left = some_there (chosen c) can.left in
              new_spot c a id number left.0 d here left.1 none
          by (Some e) is =
              earlier_spot c a id number d e here
              (subst (λ (o : Option (ℕ × SentSeen)).
              IfSome o (λ x. number_at x.1.id c.requests.table.attached ≡ None)) is can.apart) is

      abbrev its_id : ℕ
      its_id = spot_is.spot.id

      abbrev its_bytes : List ℕ
      its_bytes = (page its_id).bytes

      fits : message_bytes c.form c.identity (Some d) its_id a ≡ Ok its_bytes
      fits =
          ap (λ (i : Identity). request_bytes c.form i (Some d) a.method its_id a.body) signs
          ∙ ap (λ (f : Form). request_bytes f c.identity (Some d) a.method its_id a.body) form_is
          ∙ ap (λ (i : Identity). request_bytes side.form i (Some d) a.method its_id a.body) identity
          ∙ ap (λ (m : ℕ). request_bytes side.form
          (long_term side.who side.preferences side.accepts_unsigned) (Some d) m its_id a.body)
          method_is
          ∙ ap (λ (b : Body). request_bytes side.form
          (long_term side.who side.preferences side.accepts_unsigned) (Some d) method its_id b)
          body_is
          ∙ (page its_id).is

      abbrev after : Client
      after =
          after_challenge c number id a side.server response one named stored message hears same_id
          answers
          memory now d so can.in_time can.often spot_is.spot spot_is.stands spot_is.off its_bytes
          fits

      consumed : received memory side.server response now c ≡ (Consumed, after)
      consumed =
          challenge_is c number id a side.server response one named stored message hears same_id
          answers
          memory now d so can.in_time can.often spot_is.spot spot_is.stands spot_is.off its_bytes
          fits

      pub sends_again : (begun : Client) (events : List Event) → Calls begun events c
          → IsSentAgain side begun number d c response now memory
      sends_again begun events calls = record {
        next = after;
        consumed = consumed;
        events = with_event events silent;
        calls = one_more begun c after events silent calls
            (receives c after side.server response now (received memory side.server response now c)
            can.instant (as_expected memory refl) (sym (ap (λ (x : Answer). x.1) consumed)));
        bytes = its_bytes;
        signed = record {
          asked = asked_then c number id a side.server response one named stored message hears same_id
              answers memory now d so can.in_time can.often spot_is.spot spot_is.stands spot_is.off
              its_bytes fits;
          stored = challenge_stores c number id a side.server response one named stored message hears
              same_id answers memory now d so can.in_time can.often spot_is.spot spot_is.stands
              spot_is.off its_bytes fits;
          signed = refl;
          sent = challenge_sends c number id a side.server response one named stored message hears
              same_id
              answers memory now d so can.in_time can.often spot_is.spot spot_is.stands spot_is.off
              its_bytes fits;
        };
      }
