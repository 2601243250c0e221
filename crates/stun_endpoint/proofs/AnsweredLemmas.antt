-- Who gets a success or a 420 is accepted, who is accepted gets what an accepted request does, and
-- everybody else is refused.
use Rattle.std.proofs.Common.{◌≡◌, ◌⊎◌, inl, inr, ℕ, List, [], Option, Some, None}
use Rattle.std.proofs.Common.{refl, sym, ◌∙◌, ap, subst, Ok, Err}
use Rattle.std.specs.declared.net.socket_addr.SocketAddr.{SocketAddr}
use Rattle.std.specs.declared.result.Result.{Result}
use Rattle.stun_base.specs.MessageType.{class_in}
use Rattle.stun_base.specs.declared.wire.message_type.MessageClass.{MessageClass}
use Rattle.stun_base.specs.declared.wire.message_type.MessageClass.TheVariants.{Request}
use Rattle.stun_base.specs.declared.wire.message_type.MessageClass.TheVariants.{Indication}
use Rattle.stun_base.specs.declared.wire.message_type.MessageClass.TheVariants.{Success, Error}
use Rattle.stun_judging.specs.Verdict.{told_refusal, ClientSeen}
use Rattle.stun_judging.specs.Reading.{reading_of}
use Rattle.stun_judging.specs.declared.refusal.VerdictRefusal.{VerdictRefusal}
use Rattle.stun_judging.specs.declared.refusal.VerdictRefusal.TheVariants as verdict
use Rattle.stun_extra.specs.Unknown.{unknown_types}
use Rattle.stun_endpoint.specs.Judged.{IsAcceptedAt, Realm, judged, key_of_client}
use Rattle.stun_endpoint.specs.Nonces.{current_nonce, epoch_of}
use Rattle.stun_endpoint.specs.Received.{Answer, answer_to_refused, answered, by_class, by_verdict}
use Rattle.stun_endpoint.specs.Received.{is_empty}
use Rattle.stun_endpoint.specs.Received.{outcome_of_accepted, received_by, refused_with}
use Rattle.stun_endpoint.specs.Received.{responding_of}
use Rattle.stun_endpoint.specs.Responding.{Responding, drop_reason, refusal_by}
use Rattle.stun_endpoint.specs.Settings.{Settings}
use Rattle.stun_endpoint.specs.declared.received.Refusal.{Refusal}
use Rattle.stun_endpoint.specs.declared.received.Refusal.TheVariants as refused
use Rattle.stun_endpoint.proofs.AcceptedLemmas.{accepted_at}
use Rattle.stun_endpoint.proofs.HandedLemmas.{challenge_told, not_dropped_answer}
use Rattle.stun_endpoint.proofs.HandedLemmas.{not_indicated_answer}
use Rattle.stun_endpoint.proofs.JudgementLemmas.{request_received}

-- ---- how a response refuses

abbrev pub IsGivenToAccepted : Option Refusal → Type 0
IsGivenToAccepted refusal = (refusal ≡ None) ⊎ (refusal ≡ Some refused.UnknownAttribute)

abbrev pub refusal_told : VerdictRefusal → Refusal
refusal_told verdict.Unauthorized = refused.Unauthenticated
refusal_told verdict.StaleNonce = refused.StaleNonce
refusal_told verdict.BadRequest = refused.BadRequest

pub plain_told : (s : Responding) (why : Refusal) (from : SocketAddr) (bytes : List ℕ)
    → (refusal_by s why from bytes).refusal ≡ Some why
unfolding refusal_by
plain_told s why from bytes = refl

pub refused_told : (s : Settings) (nonce : List ℕ) (from : SocketAddr) (bytes : List ℕ)
    (told : VerdictRefusal)
    → (answer_to_refused s nonce from bytes told).refusal ≡ Some (refusal_told told)
refused_told s nonce from bytes verdict.Unauthorized =
    challenge_told s refused.Unauthenticated nonce from bytes
refused_told s nonce from bytes verdict.StaleNonce =
    challenge_told s refused.StaleNonce nonce from bytes
refused_told s nonce from bytes verdict.BadRequest =
    plain_told (responding_of s) refused.BadRequest from bytes

not_given : (told : VerdictRefusal) → IsGivenToAccepted (Some (refusal_told told)) → (A : Type 0)
    → A
not_given verdict.Unauthorized (inl h) A = cc
not_given verdict.Unauthorized (inr h) A = cc
not_given verdict.StaleNonce (inl h) A = cc
not_given verdict.StaleNonce (inr h) A = cc
not_given verdict.BadRequest (inl h) A = cc
not_given verdict.BadRequest (inr h) A = cc

module _ (s : Settings) (realm : Realm) (from : SocketAddr) (now : ℕ) (bytes : List ℕ) where
  verdict_of_answered : (a : Answer) (v : Result ClientSeen VerdictRefusal)
      → by_verdict s realm from now bytes v ≡ answered a → IsGivenToAccepted a.refusal
      → (client : ClientSeen) × (v ≡ Ok client)
  verdict_of_answered a (Ok client) h given = (client, refl)
  verdict_of_answered a (Err why) h given =
      let nonce = current_nonce s from now in
      let told = told_refusal nonce (reading_of bytes) why in
      let same : answer_to_refused s nonce from bytes told ≡ a = cc in
      let is : a.refusal ≡ Some (refusal_told told) =
      sym (ap (λ (x : Answer). x.refusal) same) ∙ refused_told s nonce from bytes told in
      not_given told (subst IsGivenToAccepted is given) _

  class_of_answered : (a : Answer) (class : MessageClass)
      → by_class s realm from now bytes class ≡ answered a → IsGivenToAccepted a.refusal
      → (client : ClientSeen) × (judged s realm from now (reading_of bytes) ≡ Ok client)
  class_of_answered a Request h given =
      verdict_of_answered a (judged s realm from now (reading_of bytes)) h given
  class_of_answered a Indication h given =
      not_indicated_answer (is_empty (unknown_types s.known bytes)) bytes _ a _ h
  class_of_answered a Success h given = cc
  class_of_answered a Error h given = cc

  pub answered_is_accepted : (a : Answer) → received_by s realm from now bytes ≡ answered a
      → IsGivenToAccepted a.refusal
      → (client : ClientSeen) × IsAcceptedAt s realm from now (reading_of bytes) client
  answered_is_accepted a h given =
      let one =
      class_of_answered a (class_in bytes)
      (not_dropped_answer (drop_reason s.requires_fingerprint bytes) _ a h)
      given in
      (one.0, (accepted_at s realm from (reading_of bytes) one.0 (epoch_of s now)).0 one.1)

  -- ---- a request that is not dropped
  pub accepted_comes_to : (client : ClientSeen) → drop_reason s.requires_fingerprint bytes ≡ None
      → class_in bytes ≡ Request → IsAcceptedAt s realm from now (reading_of bytes) client
      → received_by s realm from now bytes
      ≡ outcome_of_accepted s (key_of_client realm client) from bytes client
  accepted_comes_to client kept request is =
      request_received s realm from now bytes [] kept request
      ∙ ap (by_verdict s realm from now bytes)
      ((accepted_at s realm from (reading_of bytes) client (epoch_of s now)).1 is)

  by_refused : (v : Result ClientSeen VerdictRefusal)
      → judged s realm from now (reading_of bytes) ≡ v
      → ((client : ClientSeen) → IsAcceptedAt s realm from now (reading_of bytes) client → ⊥)
      → (why : VerdictRefusal)
      × (by_verdict s realm from now bytes (judged s realm from now (reading_of bytes))
      ≡ refused_with s (current_nonce s from now) from bytes why)
  by_refused (Ok client) is nobody =
      absurd (nobody client
      ((accepted_at s realm from (reading_of bytes) client (epoch_of s now)).0 is))
  by_refused (Err why) is nobody = (why, ap (by_verdict s realm from now bytes) is)

  pub refused_comes_to : drop_reason s.requires_fingerprint bytes ≡ None
      → class_in bytes ≡ Request
      → ((client : ClientSeen) → IsAcceptedAt s realm from now (reading_of bytes) client → ⊥)
      → (why : VerdictRefusal) × (received_by s realm from now bytes
      ≡ refused_with s (current_nonce s from now) from bytes why)
  refused_comes_to kept request nobody =
      let one = by_refused (judged s realm from now (reading_of bytes)) refl nobody in
      (one.0, request_received s realm from now bytes [] kept request ∙ one.1)
