-- Which datagrams get a response, where it goes, and what an accepted request and an indication come
-- to by their attributes.
use Rattle.std.proofs.Common.{◌≡◌, ℕ, List, Option, Some, None}
use Rattle.std.proofs.Common.{Bool, true, false, refl, sym, ◌∙◌, ap, Ok, Err}
use Rattle.std.specs.Prelude.{cond, ◌&&◌}
use Rattle.std.specs.Option.{is_none}
use Rattle.std.specs.declared.net.socket_addr.SocketAddr.{SocketAddr}
use Rattle.std.specs.declared.result.Result.{Result}
use Rattle.stun_base.specs.MessageType.{class_in, is_request}
use Rattle.stun_base.specs.declared.wire.message_type.MessageClass.{MessageClass}
use Rattle.stun_base.specs.declared.wire.message_type.MessageClass.TheVariants.{Request}
use Rattle.stun_base.specs.declared.wire.message_type.MessageClass.TheVariants.{Indication}
use Rattle.stun_base.specs.declared.wire.message_type.MessageClass.TheVariants.{Success, Error}
use Rattle.stun_judging.specs.Verdict.{told_refusal, ClientSeen}
use Rattle.stun_judging.specs.Reading.{reading_of}
use Rattle.stun_judging.specs.declared.refusal.VerdictRefusal.{VerdictRefusal}
use Rattle.stun_judging.specs.declared.refusal.VerdictRefusal.TheVariants as verdict
use Rattle.stun_extra.specs.Unknown.{unknown_types}
use Rattle.stun_endpoint.specs.Answers.{Signature}
use Rattle.stun_endpoint.specs.Judged.{IsAcceptedAt, Realm, judged, key_of_client}
use Rattle.stun_endpoint.specs.Nonces.{current_nonce}
use Rattle.stun_endpoint.specs.Open as openly
use Rattle.stun_endpoint.specs.Open.{OpenRequest, by_class_openly, or_requested, received_openly}
use Rattle.stun_endpoint.specs.Received.{AcceptedRequest, Outcome, answer_to_refused, answered}
use Rattle.stun_endpoint.specs.Received.{by_class, by_verdict, challenge_answer, dropped, indicated}
use Rattle.stun_endpoint.specs.Received.{or_handed, received_by, requested, responding_of}
use Rattle.stun_endpoint.specs.Received.{signature_for, unless_dropped}
use Rattle.stun_endpoint.specs.Responding.{Answer, Responding, binding_by, drop_reason, is_binding}
use Rattle.stun_endpoint.specs.Responding.{is_empty, is_undropped_request, own_answer, refusal_by}
use Rattle.stun_endpoint.specs.Responding.{reply_by, unknown_by}
use Rattle.stun_endpoint.specs.Settings.{Settings}
use Rattle.stun_endpoint.specs.ShortTerm as short
use Rattle.stun_endpoint.specs.ShortTerm.{IsSignedBy, Keys, Signer, by_class_signed, by_signer}
use Rattle.stun_endpoint.specs.ShortTerm.{indicated_by, received_signed, signature_of, signer_of}
use Rattle.stun_endpoint.specs.declared.received.DropReason.{DropReason}
use Rattle.stun_endpoint.specs.declared.received.DropReason.TheVariants.{UnknownAttribute}
use Rattle.stun_endpoint.specs.declared.received.Refusal.{Refusal}
use Rattle.stun_endpoint.specs.declared.received.Refusal.TheVariants as refused
use Rattle.stun_endpoint.proofs.AnsweredLemmas.{accepted_comes_to}
use Rattle.stun_endpoint.proofs.HandedLemmas.{not_dropped_answer, not_indicated_answer, unknown_odd}
use Rattle.stun_endpoint.proofs.SignedLemmas.{signed_comes_to}
use Rattle.stun_endpoint.proofs.SignerLemmas.{signed-iff}

-- ---- where a response goes

refusal_to : (s : Responding) (why : Refusal) (from : SocketAddr) (bytes : List ℕ)
    → (refusal_by s why from bytes).to ≡ from
unfolding refusal_by
refusal_to s why from bytes = refl

challenge_to : (s : Settings) (why : Refusal) (nonce : List ℕ) (from : SocketAddr)
    (bytes : List ℕ) → (challenge_answer s why nonce from bytes).to ≡ from
unfolding challenge_answer
challenge_to s why nonce from bytes = refl

unknown_to : (s : Responding) (by : Option Signature) (from : SocketAddr) (bytes : List ℕ)
    → (unknown_by s by from bytes).to ≡ from
unfolding unknown_by
unknown_to s by from bytes = refl

binding_to : (s : Responding) (by : Option Signature) (from : SocketAddr) (bytes : List ℕ)
    → (binding_by s by from bytes).to ≡ from
unfolding binding_by
binding_to s by from bytes = refl

refused_to : (s : Settings) (nonce : List ℕ) (from : SocketAddr) (bytes : List ℕ)
    (told : VerdictRefusal) → (answer_to_refused s nonce from bytes told).to ≡ from
refused_to s nonce from bytes verdict.Unauthorized =
    challenge_to s refused.Unauthenticated nonce from bytes
refused_to s nonce from bytes verdict.StaleNonce =
    challenge_to s refused.StaleNonce nonce from bytes
refused_to s nonce from bytes verdict.BadRequest =
    refusal_to (responding_of s) refused.BadRequest from bytes

module _ (s : Responding) (by : Option Signature) (from : SocketAddr) (bytes : List ℕ) where
  either_to : (b c : Bool) (a : Answer)
      → cond b (cond c (Some (binding_by s by from bytes)) None) (Some (unknown_by s by from bytes))
      ≡ Some a → a.to ≡ from
  either_to true true a h =
      let same : binding_by s by from bytes ≡ a = cc in
      sym (ap (λ (x : Answer). x.to) same) ∙ binding_to s by from bytes
  either_to true false a h = cc
  either_to false c a h =
      let same : unknown_by s by from bytes ≡ a = cc in
      sym (ap (λ (x : Answer). x.to) same) ∙ unknown_to s by from bytes

  own_to : (a : Answer) → own_answer s by from bytes ≡ Some a → a.to ≡ from
  own_to = either_to (is_empty (unknown_types s.known bytes)) (s.answers_binding && is_binding bytes)

  -- ---- what an accepted request comes to by its attributes
  own_unknown : is_empty (unknown_types s.known bytes) ≡ false
      → own_answer s by from bytes ≡ Some (unknown_by s by from bytes)
  own_unknown odd = ap (λ b. cond b
      (cond (s.answers_binding && is_binding bytes) (Some (binding_by s by from bytes)) None)
      (Some (unknown_by s by from bytes))) odd

  own_nothing : is_empty (unknown_types s.known bytes) ≡ true
      → (s.answers_binding && is_binding bytes) ≡ false → own_answer s by from bytes ≡ None
  own_nothing fine left =
      ap (λ b. cond b
      (cond (s.answers_binding && is_binding bytes) (Some (binding_by s by from bytes)) None)
      (Some (unknown_by s by from bytes))) fine
      ∙ ap (λ c. cond c (Some (binding_by s by from bytes)) None) left

undropped : (required : Bool) (bytes : List ℕ) → drop_reason required bytes ≡ None
    → class_in bytes ≡ Request → is_undropped_request required bytes ≡ true
undropped required bytes kept request =
    ap (λ d. is_none d && is_request (class_in bytes)) kept ∙ ap is_request request

-- ---- a server with long-term credentials
module _ (s : Settings) (realm : Realm) (from : SocketAddr) (now : ℕ) (bytes : List ℕ) where
  kept_of : (why : Option DropReason) (rest : Outcome) (a : Answer)
      → unless_dropped rest why ≡ answered a → why ≡ None
  kept_of None rest a h = refl
  kept_of (Some why) rest a h = cc

  handed_to : (key : List ℕ) (client : ClientSeen) (o : Option Answer) (a : Answer)
      → ((x : Answer) → o ≡ Some x → x.to ≡ from)
      → or_handed s key from bytes client o ≡ answered a → a.to ≡ from
  handed_to key client (Some one) a to h = to a (let same : one ≡ a = cc in ap Some same)
  handed_to key client None a to h = cc

  verdict_to : (v : Result ClientSeen VerdictRefusal) (a : Answer)
      → by_verdict s realm from now bytes v ≡ answered a → a.to ≡ from
  verdict_to (Ok client) a h =
      let key = key_of_client realm client in
      handed_to key client (own_answer (responding_of s) (signature_for key bytes) from bytes) a
      (own_to (responding_of s) (signature_for key bytes) from bytes) h
  verdict_to (Err why) a h =
      let nonce = current_nonce s from now in
      let told = told_refusal nonce (reading_of bytes) why in
      let same : answer_to_refused s nonce from bytes told ≡ a = cc in
      sym (ap (λ (x : Answer). x.to) same) ∙ refused_to s nonce from bytes told

  class_to : (class : MessageClass) (a : Answer)
      → by_class s realm from now bytes class ≡ answered a
      → (class ≡ Request) × (a.to ≡ from)
  class_to Request a h = (refl, verdict_to (judged s realm from now (reading_of bytes)) a h)
  class_to Indication a h =
      not_indicated_answer (is_empty (unknown_types s.known bytes)) bytes _ a _ h
  class_to Success a h = cc
  class_to Error a h = cc

  pub answered_requests : (a : Answer) → received_by s realm from now bytes ≡ answered a
      → (is_undropped_request s.requires_fingerprint bytes ≡ true) × (a.to ≡ from)
  answered_requests a h =
      let why = drop_reason s.requires_fingerprint bytes in
      let one = class_to (class_in bytes) a (not_dropped_answer why _ a h) in
      (undropped s.requires_fingerprint bytes (kept_of why _ a h) one.0, one.1)

  pub accepted_unknown : (client : ClientSeen) → drop_reason s.requires_fingerprint bytes ≡ None
      → class_in bytes ≡ Request → IsAcceptedAt s realm from now (reading_of bytes) client
      → is_empty (unknown_types s.known bytes) ≡ false
      → (a : Answer) × (received_by s realm from now bytes ≡ answered a)
      × (a.refusal ≡ Some refused.UnknownAttribute)
  accepted_unknown client kept request is odd =
      let key = key_of_client realm client in
      let by = signature_for key bytes in (
        unknown_by (responding_of s) by from bytes,
        accepted_comes_to s realm from now bytes client kept request is
            ∙ ap (or_handed s key from bytes client) (own_unknown (responding_of s) by from bytes odd),
        unknown_odd (responding_of s) by from bytes,
      )

  pub accepted_handed : (client : ClientSeen) → drop_reason s.requires_fingerprint bytes ≡ None
      → class_in bytes ≡ Request → IsAcceptedAt s realm from now (reading_of bytes) client
      → is_empty (unknown_types s.known bytes) ≡ true
      → (s.answers_binding && is_binding bytes) ≡ false
      → (q : AcceptedRequest) × (received_by s realm from now bytes ≡ requested q)
      × (q.message ≡ bytes) × (q.client ≡ client) × (q.reply.to ≡ from)
  accepted_handed client kept request is fine left =
      let key = key_of_client realm client in
      let by = signature_for key bytes in (
        record {
          message = bytes;
          client = client;
          reply = reply_by (responding_of s) by from bytes;
        },
        accepted_comes_to s realm from now bytes client kept request is
            ∙ ap (or_handed s key from bytes client)
            (own_nothing (responding_of s) by from bytes fine left),
        refl,
        refl,
        refl,
      )

  indication_received : drop_reason s.requires_fingerprint bytes ≡ None
      → class_in bytes ≡ Indication
      → received_by s realm from now bytes
      ≡ cond (is_empty (unknown_types s.known bytes)) (indicated bytes) (dropped UnknownAttribute)
  indication_received kept is =
      ap (unless_dropped (by_class s realm from now bytes (class_in bytes))) kept
      ∙ ap (by_class s realm from now bytes) is

  pub indications : drop_reason s.requires_fingerprint bytes ≡ None
      → class_in bytes ≡ Indication
      → ((is_empty (unknown_types s.known bytes) ≡ true)
      → received_by s realm from now bytes ≡ indicated bytes)
      × ((is_empty (unknown_types s.known bytes) ≡ false)
      → received_by s realm from now bytes ≡ dropped UnknownAttribute)
  indications kept is = (
    λ fine. indication_received kept is
        ∙ ap (λ b. cond {A = Outcome} b (indicated bytes) (dropped UnknownAttribute)) fine,
    λ odd. indication_received kept is
        ∙ ap (λ b. cond {A = Outcome} b (indicated bytes) (dropped UnknownAttribute)) odd,
  )

-- ---- a server with short-term credentials
module _ (s : Responding) (users : Keys) (from : SocketAddr) (bytes : List ℕ) where
  kept_short : (why : Option DropReason) (rest : short.ShortTermOutcome) (a : Answer)
      → short.unless_dropped rest why ≡ short.answered a
      → (why ≡ None) × (rest ≡ short.answered a)
  kept_short None rest a h = (refl, h)
  kept_short (Some why) rest a h = cc

  handed_short_to : (signer : Signer) (o : Option Answer) (a : Answer)
      → ((x : Answer) → o ≡ Some x → x.to ≡ from)
      → short.or_handed s from bytes signer o ≡ short.answered a → a.to ≡ from
  handed_short_to signer (Some one) a to h = to a (let same : one ≡ a = cc in ap Some same)
  handed_short_to signer None a to h = cc

  signer_to : (r : Result Signer Refusal) (a : Answer)
      → by_signer s from bytes r ≡ short.answered a → a.to ≡ from
  signer_to (Ok signer) a h =
      let by = Some (signature_of signer) in
      handed_short_to signer (own_answer s by from bytes) a (own_to s by from bytes) h
  signer_to (Err why) a h =
      let same : refusal_by s why from bytes ≡ a = cc in
      sym (ap (λ (x : Answer). x.to) same) ∙ refusal_to s why from bytes

  not_shown : (b : Bool) (i : short.SignedIndication) (a : Answer) (A : Type 0)
      → cond {A = short.ShortTermOutcome} b (short.indicated i) (short.dropped UnknownAttribute) ≡ short.answered a → A
  not_shown true i a A h = cc
  not_shown false i a A h = cc

  not_answered : (r : Result Signer Refusal) (a : Answer) (A : Type 0)
      → indicated_by s bytes r ≡ short.answered a → A
  not_answered (Err why) a A h = cc
  not_answered (Ok signer) a A h =
      not_shown (is_empty (unknown_types s.known bytes))
      (record { message = bytes; client = signer.client }) a A h

  class_short_to : (class : MessageClass) (a : Answer)
      → by_class_signed s users from bytes class ≡ short.answered a
      → (class ≡ Request) × (a.to ≡ from)
  class_short_to Request a h = (refl, signer_to (signer_of users bytes) a h)
  class_short_to Indication a h = not_answered (signer_of users bytes) a _ h
  class_short_to Success a h = cc
  class_short_to Error a h = cc

  pub answered_short : (a : Answer) → received_signed s users from bytes ≡ short.answered a
      → (is_undropped_request s.requires_fingerprint bytes ≡ true) × (a.to ≡ from)
  answered_short a h =
      let kept = kept_short (drop_reason s.requires_fingerprint bytes) _ a h in
      let one = class_short_to (class_in bytes) a kept.1 in
      (undropped s.requires_fingerprint bytes kept.0 one.0, one.1)

  pub signed_unknown : (signer : Signer) → drop_reason s.requires_fingerprint bytes ≡ None
      → class_in bytes ≡ Request → IsSignedBy users bytes signer
      → is_empty (unknown_types s.known bytes) ≡ false
      → (a : Answer) × (received_signed s users from bytes ≡ short.answered a)
      × (a.refusal ≡ Some refused.UnknownAttribute)
  signed_unknown signer kept request is odd =
      let by = Some (signature_of signer) in (
        unknown_by s by from bytes,
        signed_comes_to s users from bytes signer kept request is
            ∙ ap (short.or_handed s from bytes signer) (own_unknown s by from bytes odd),
        unknown_odd s by from bytes,
      )

  pub signed_handed : (signer : Signer) → drop_reason s.requires_fingerprint bytes ≡ None
      → class_in bytes ≡ Request → IsSignedBy users bytes signer
      → is_empty (unknown_types s.known bytes) ≡ true
      → (s.answers_binding && is_binding bytes) ≡ false
      → (q : AcceptedRequest) × (received_signed s users from bytes ≡ short.requested q)
      × (q.message ≡ bytes) × (q.client ≡ signer.client) × (q.reply.to ≡ from)
  signed_handed signer kept request is fine left =
      let by = Some (signature_of signer) in (
        record {
          message = bytes;
          client = signer.client;
          reply = reply_by s by from bytes;
        },
        signed_comes_to s users from bytes signer kept request is
            ∙ ap (short.or_handed s from bytes signer) (own_nothing s by from bytes fine left),
        refl,
        refl,
        refl,
      )

  abbrev shown : Signer → short.SignedIndication
  shown signer = record { message = bytes; client = signer.client }

  signed_indication : (signer : Signer) → drop_reason s.requires_fingerprint bytes ≡ None
      → class_in bytes ≡ Indication → IsSignedBy users bytes signer
      → received_signed s users from bytes
      ≡ cond (is_empty (unknown_types s.known bytes)) (short.indicated (shown signer))
      (short.dropped UnknownAttribute)
  signed_indication signer kept indication is =
      ap (short.unless_dropped (by_class_signed s users from bytes (class_in bytes))) kept
      ∙ ap (by_class_signed s users from bytes) indication
      ∙ ap (indicated_by s bytes) ((signed-iff users bytes signer).1 is)

  pub signed_indications : (signer : Signer) → drop_reason s.requires_fingerprint bytes ≡ None
      → class_in bytes ≡ Indication → IsSignedBy users bytes signer
      → ((is_empty (unknown_types s.known bytes) ≡ true)
      → received_signed s users from bytes ≡ short.indicated (shown signer))
      × ((is_empty (unknown_types s.known bytes) ≡ false)
      → received_signed s users from bytes ≡ short.dropped UnknownAttribute)
  signed_indications signer kept indication is =
      let whole = signed_indication signer kept indication is in (
        λ fine. whole ∙ ap (λ b. cond {A = short.ShortTermOutcome} b (short.indicated (shown signer))
            (short.dropped UnknownAttribute)) fine,
        λ odd. whole ∙ ap (λ b. cond {A = short.ShortTermOutcome} b (short.indicated (shown signer))
            (short.dropped UnknownAttribute)) odd,
      )

-- ---- a server without credentials
module _ (s : Responding) (from : SocketAddr) (bytes : List ℕ) where
  kept_open : (why : Option DropReason) (rest : openly.OpenOutcome) (a : Answer)
      → openly.unless_dropped rest why ≡ openly.answered a → (why ≡ None) × (rest ≡ openly.answered a)
  kept_open None rest a h = (refl, h)
  kept_open (Some why) rest a h = cc

  requested_to : (o : Option Answer) (a : Answer) → ((x : Answer) → o ≡ Some x → x.to ≡ from)
      → or_requested s from bytes o ≡ openly.answered a → a.to ≡ from
  requested_to (Some one) a to h = to a (let same : one ≡ a = cc in ap Some same)
  requested_to None a to h = cc

  not_openly : (b : Bool) (a : Answer) (A : Type 0)
      → cond {A = openly.OpenOutcome} b (openly.indicated bytes) (openly.dropped UnknownAttribute) ≡ openly.answered a → A
  not_openly true a A h = cc
  not_openly false a A h = cc

  class_open_to : (class : MessageClass) (a : Answer)
      → by_class_openly s from bytes class ≡ openly.answered a → (class ≡ Request) × (a.to ≡ from)
  class_open_to Request a h =
      (refl, requested_to (own_answer s None from bytes) a (own_to s None from bytes) h)
  class_open_to Indication a h = not_openly (is_empty (unknown_types s.known bytes)) a _ h
  class_open_to Success a h = cc
  class_open_to Error a h = cc

  pub answered_open : (a : Answer) → received_openly s from bytes ≡ openly.answered a
      → (is_undropped_request s.requires_fingerprint bytes ≡ true) × (a.to ≡ from)
  answered_open a h =
      let kept = kept_open (drop_reason s.requires_fingerprint bytes) _ a h in
      let one = class_open_to (class_in bytes) a kept.1 in
      (undropped s.requires_fingerprint bytes kept.0 one.0, one.1)

  open_received : (class : MessageClass) → drop_reason s.requires_fingerprint bytes ≡ None
      → class_in bytes ≡ class → received_openly s from bytes ≡ by_class_openly s from bytes class
  open_received class kept is =
      ap (openly.unless_dropped (by_class_openly s from bytes (class_in bytes))) kept
      ∙ ap (by_class_openly s from bytes) is

  pub open_unknown : drop_reason s.requires_fingerprint bytes ≡ None → class_in bytes ≡ Request
      → is_empty (unknown_types s.known bytes) ≡ false
      → (a : Answer) × (received_openly s from bytes ≡ openly.answered a)
      × (a.refusal ≡ Some refused.UnknownAttribute)
  open_unknown kept request odd = (
    unknown_by s None from bytes,
    open_received Request kept request
        ∙ ap (or_requested s from bytes) (own_unknown s None from bytes odd),
    unknown_odd s None from bytes,
  )

  pub open_handed : drop_reason s.requires_fingerprint bytes ≡ None → class_in bytes ≡ Request
      → is_empty (unknown_types s.known bytes) ≡ true
      → (s.answers_binding && is_binding bytes) ≡ false
      → (q : OpenRequest) × (received_openly s from bytes ≡ openly.requested q)
      × (q.message ≡ bytes) × (q.reply.to ≡ from)
  open_handed kept request fine left = (
    record { message = bytes; reply = reply_by s None from bytes },
    open_received Request kept request
        ∙ ap (or_requested s from bytes) (own_nothing s None from bytes fine left),
    refl,
    refl,
  )

  pub open_indications : drop_reason s.requires_fingerprint bytes ≡ None
      → class_in bytes ≡ Indication
      → ((is_empty (unknown_types s.known bytes) ≡ true)
      → received_openly s from bytes ≡ openly.indicated bytes)
      × ((is_empty (unknown_types s.known bytes) ≡ false)
      → received_openly s from bytes ≡ openly.dropped UnknownAttribute)
  open_indications kept is = (
    λ fine. open_received Indication kept is
        ∙ ap (λ b. cond {A = openly.OpenOutcome} b (openly.indicated bytes) (openly.dropped UnknownAttribute)) fine,
    λ odd. open_received Indication kept is
        ∙ ap (λ b. cond {A = openly.OpenOutcome} b (openly.indicated bytes) (openly.dropped UnknownAttribute)) odd,
  )
