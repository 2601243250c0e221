-- What datagrams come to: who is handed out, whatever came before, and whatever others send.
use Rattle.std.proofs.Common.{◌≡◌, ℕ, zero, suc, List, [], ◌∷◌, ◌++◌, length, take}
use Rattle.std.proofs.Common.{Option, Some, None, Bool, true, false, refl, sym, ◌∙◌, ap, Ok, Err}
use Rattle.std.specs.Prelude.{cond, slice_get, not, ◌&&◌}
use Rattle.std.specs.Option.{is_none}
use Rattle.std.specs.declared.net.socket_addr.SocketAddr.{SocketAddr}
use Rattle.std.specs.declared.result.Result.{Result}
use Rattle.stun_base.specs.MessageType.{class_in, is_request}
use Rattle.stun_base.specs.declared.wire.message_type.MessageClass.{MessageClass}
use Rattle.stun_base.specs.declared.wire.message_type.MessageClass.TheVariants.{Request}
use Rattle.stun_base.specs.declared.wire.message_type.MessageClass.TheVariants.{Indication}
use Rattle.stun_base.specs.declared.wire.message_type.MessageClass.TheVariants.{Success, Error}
use Rattle.stun_judging.specs.declared.refusal.VerdictRefusal.{VerdictRefusal}
use Rattle.stun_judging.specs.Reading.{reading_of}
use Rattle.stun_judging.specs.Verdict.{ClientSeen}
use Rattle.stun_extra.specs.Unknown.{unknown_types}
use Rattle.stun_endpoint.specs.Judged.{Realm, judged, key_of_client}
use Rattle.stun_endpoint.specs.Nonces.{epoch_of}
use Rattle.stun_endpoint.specs.Received.{AcceptedRequest, Answer, Outcome, by_class, by_verdict}
use Rattle.stun_endpoint.specs.Received.{dropped, indicated, or_handed, received_by}
use Rattle.stun_endpoint.specs.Received.{requested, responding_of, signature_for}
use Rattle.stun_endpoint.specs.Received.{unless_dropped}
use Rattle.stun_endpoint.specs.Responding.{binding_by, is_binding, is_empty, is_undropped_request}
use Rattle.stun_endpoint.specs.Responding.{drop_reason, reply_by, unknown_by}
use Rattle.stun_endpoint.specs.Settings.{Settings}
use Rattle.stun_endpoint.specs.declared.received.DropReason.{DropReason}
use Rattle.stun_endpoint.specs.declared.received.DropReason.TheVariants.{UnknownAttribute}
use Rattle.stun_endpoint.proofs.AcceptedLemmas.{accepted_at}
use Rattle.stun_datagrams.specs.Events.{ServerEvent, UserAdded, UserRemoved, Arrived, UserSecrets}
use Rattle.stun_datagrams.specs.Events.{is_of_source, outcome_of_event, outcomes, own_events}
use Rattle.stun_datagrams.specs.Events.{own_outcomes, realm_with, users_after, users_after_event}
use Rattle.stun_datagrams.specs.Sentence.{AreIsolated, AreJudgedAlone, HandsOutAccepted}
use Rattle.stun_datagrams.specs.Sentence.{IsHandedOut, is_for_caller}
use Rattle.stun_datagrams.proofs.EventLemmas.{kept_request}

-- ---- one index

pub outcome_at : (s : Settings) (users : UserSecrets) (events : List ServerEvent) (i : ℕ)
    (e : ServerEvent)
    → slice_get events i ≡ Some e
    → slice_get (outcomes s users events) i
    ≡ Some (outcome_of_event s (users_after users (take i events)) e)
outcome_at s users [] i e h = cc
outcome_at s users (first ∷ later) zero e h =
    let same : first ≡ e = cc in ap (λ x. Some (outcome_of_event s users x)) same
outcome_at s users (first ∷ later) (suc i) e h =
    outcome_at s (users_after_event users first) later i e h

-- ---- whatever came before

pub outcome_after : (s : Settings) (start : UserSecrets) (before after : List ServerEvent)
    (e : ServerEvent)
    → slice_get (outcomes s start (before ++ e ∷ after)) (length before)
    ≡ Some (outcome_of_event s (users_after start before) e)
outcome_after s start [] after e = refl
outcome_after s start (first ∷ before) after e =
    outcome_after s (users_after_event start first) before after e

pub judged_alone : (s : Settings) → AreJudgedAlone s
judged_alone s start other before instead after then e same =
    outcome_after s start before after e
    ∙ ap (λ users. Some (outcome_of_event s users e)) same
    ∙ sym (outcome_after s other instead then e)

-- ---- whatever others send

-- the datagram of another source leaves the users
other_source : (from : SocketAddr) (users : UserSecrets) (e : ServerEvent)
    → is_of_source from e ≡ false
    → users_after_event users e ≡ users
other_source from users (UserAdded name password) h = cc
other_source from users (UserRemoved name) h = cc
other_source from users (Arrived source now message) h = refl

isolated_if : (s : Settings) (from : SocketAddr) (start : UserSecrets) (e : ServerEvent)
    (later : List ServerEvent) (own : List (Option Outcome)) (b : Bool) → is_of_source from e ≡ b
    → own ≡ outcomes s (users_after_event start e) (own_events from later)
    → cond b (outcome_of_event s start e ∷ own) own
    ≡ outcomes s start (cond b (e ∷ own_events from later) (own_events from later))
isolated_if s from start e later own true is h = ap (λ os. outcome_of_event s start e ∷ os) h
isolated_if s from start e later own false is h =
    h ∙ ap (λ users. outcomes s users (own_events from later)) (other_source from start e is)

pub isolated : (s : Settings) (events : List ServerEvent) (start : UserSecrets)
    → AreIsolated s start events (outcomes s start events)
isolated s [] start from = refl
isolated s (e ∷ later) start from =
    isolated_if s from start e later
    (own_outcomes from later (outcomes s (users_after_event start e) later))
    (is_of_source from e) refl
    (isolated s later (users_after_event start e) from)

-- ---- who is handed out

abbrev for_caller : Bool → Bool → Bool → Bool
for_caller e x y = e && not (x && y)

abbrev own_by : Bool → Bool → Bool → Answer → Answer → Option Answer
own_by e x y one other = cond e (cond (x && y) (Some one) None) (Some other)

for_caller_is : (e x y : Bool) (one other : Answer) → for_caller e x y ≡ true
    → own_by e x y one other ≡ None
for_caller_is true true true one other h = cc
for_caller_is true true false one other h = refl
for_caller_is true false y one other h = refl
for_caller_is false x y one other h = cc

pub undropped_is : (why : Option DropReason) (class : MessageClass) → why ≡ None
    → class ≡ Request → (is_none why && is_request class) ≡ true
undropped_is (Some why) class kept is = cc
undropped_is None class kept is = ap is_request is

module _ (s : Settings) (realm : Realm) (from : SocketAddr) (now : ℕ) (bytes : List ℕ)
    (client : ClientSeen) where
  abbrev IsHanded : Outcome → Type 0
  IsHanded o = (request : AcceptedRequest) × (o ≡ requested request) × (request.client ≡ client)

  abbrev IsHandedFrom : Type 0
  IsHandedFrom =
      (is_for_caller s bytes ≡ true) × (judged s realm from now (reading_of bytes) ≡ Ok client)

  abbrev request_for : ClientSeen → List ℕ → AcceptedRequest
  request_for accepted key = record {
    message = bytes;
    client = accepted;
    reply = reply_by (responding_of s) (signature_for key bytes) from bytes;
  }

  same_client : (accepted : ClientSeen) (key : List ℕ) (request : AcceptedRequest)
      → ◌≡◌ {A = Outcome} (requested (request_for accepted key)) (requested request)
      → request.client ≡ client → accepted ≡ client
  same_client accepted key request h is =
      let same : request_for accepted key ≡ request = cc in
      ap (λ (q : AcceptedRequest). q.client) same ∙ is

  -- by the server's own answer
  forth_own : (accepted : ClientSeen) (key : List ℕ) (e x y : Bool) (one other : Answer)
      → IsHanded (or_handed s key from bytes accepted (own_by e x y one other))
      → (for_caller e x y ≡ true) × (accepted ≡ client)
  forth_own accepted key true true true one other (request, h, is) = cc
  forth_own accepted key true true false one other (request, h, is) =
      (refl, same_client accepted key request h is)
  forth_own accepted key true false y one other (request, h, is) =
      (refl, same_client accepted key request h is)
  forth_own accepted key false x y one other (request, h, is) = cc

  forth_verdict : (v : Result ClientSeen VerdictRefusal)
      → judged s realm from now (reading_of bytes) ≡ v
      → IsHanded (by_verdict s realm from now bytes v) → IsHandedFrom
  forth_verdict (Ok accepted) is h =
      let key = key_of_client realm accepted in
      let by = signature_for key bytes in
      let one =
      forth_own accepted key (is_empty (unknown_types s.known bytes)) s.answers_binding
      (is_binding bytes) (binding_by (responding_of s) by from bytes)
      (unknown_by (responding_of s) by from bytes) h in
      (one.0, is ∙ ap Ok one.1)
  forth_verdict (Err refusal) is (request, h, same) = cc

  not_handed : (b : Bool) → IsHanded (cond b (indicated bytes) (dropped UnknownAttribute))
      → (A : Type 0) → A
  not_handed true (request, h, is) A = cc
  not_handed false (request, h, is) A = cc

  forth_class : (class : MessageClass) → IsHanded (by_class s realm from now bytes class)
      → (class ≡ Request) × IsHandedFrom
  forth_class Request h =
      (refl, forth_verdict (judged s realm from now (reading_of bytes)) refl h)
  forth_class Indication h = not_handed (is_empty (unknown_types s.known bytes)) h _
  forth_class Success (request, h, is) = cc
  forth_class Error (request, h, is) = cc

  forth_kept : (why : Option DropReason) (rest : Outcome) → IsHanded (unless_dropped rest why)
      → (why ≡ None) × IsHanded rest
  forth_kept (Some why) rest (request, h, is) = cc
  forth_kept None rest h = (refl, h)

  forth : IsHanded (received_by s realm from now bytes)
      → (is_undropped_request s.requires_fingerprint bytes ≡ true) × IsHandedFrom
  forth h =
      let why = drop_reason s.requires_fingerprint bytes in
      let kept = forth_kept why (by_class s realm from now bytes (class_in bytes)) h in
      let by = forth_class (class_in bytes) kept.1 in
      (undropped_is why (class_in bytes) kept.0 by.0, by.1)

  back : is_undropped_request s.requires_fingerprint bytes ≡ true → IsHandedFrom
      → IsHanded (received_by s realm from now bytes)
  back is (caller, accepted) =
      let kept = kept_request s.requires_fingerprint bytes is in
      let key = key_of_client realm client in
      let by = signature_for key bytes in (
        request_for client key,
        ap (unless_dropped (by_class s realm from now bytes (class_in bytes))) kept.undropped
            ∙ ap (by_class s realm from now bytes) kept.request
            ∙ ap (by_verdict s realm from now bytes) accepted
            ∙ ap (or_handed s key from bytes client)
            (for_caller_is (is_empty (unknown_types s.known bytes)) s.answers_binding
            (is_binding bytes) (binding_by (responding_of s) by from bytes)
            (unknown_by (responding_of s) by from bytes) caller),
        refl,
      )

-- a datagram of a list
pub hands_out_accepted : (s : Settings) (start : UserSecrets) (events : List ServerEvent)
    → HandsOutAccepted s start events (outcomes s start events)
hands_out_accepted s start events i from now message client is =
    let users = users_after start (take i events) in
    let realm = realm_with s users in
    let bytes = message.items in
    let found = outcome_at s start events i (Arrived from now message) is in
    let accepted = accepted_at s realm from (reading_of bytes) client (epoch_of s now) in (
      λ (h : IsHandedOut (slice_get (outcomes s start events) i) client).
          let same : Some (Some (received_by s realm from now bytes))
          ≡ Some (Some (requested h.0)) =
          sym found ∙ h.1 in
          let one : received_by s realm from now bytes ≡ requested h.0 = cc in
          let all = forth s realm from now bytes client (h.0, one, h.2) in
          (all.1.0, (all.0, accepted.0 all.1.1)),
      λ h.
          let one = back s realm from now bytes client h.1.0 (h.0, accepted.1 h.1.1) in
          (one.0, found ∙ ap (λ o. Some (Some o)) one.1, one.2),
    )
