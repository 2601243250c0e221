-- What a server with short-term credentials hands out or accepts is signed by a user, and everybody
-- else is refused.
use Rattle.std.proofs.Common.{◌≡◌, inl, inr, ℕ, List, Option, Some, None}
use Rattle.std.proofs.Common.{Bool, true, false, refl, sym, ◌∙◌, ap, subst, Ok, Err}
use Rattle.std.specs.Prelude.{◌⊎◌, cond}
use Rattle.std.specs.FinMap as map
use Rattle.std.specs.Option.{is_none}
use Rattle.std.specs.declared.net.socket_addr.SocketAddr.{SocketAddr}
use Rattle.std.specs.declared.result.Result.{Result}
use Rattle.stun_base.specs.Attributes.{USERNAME}
use Rattle.stun_base.specs.MessageType.{class_in}
use Rattle.stun_base.specs.declared.keys.algorithm.IntegrityAlgorithm.{IntegrityAlgorithm}
use Rattle.stun_base.specs.declared.wire.message_type.MessageClass.{MessageClass}
use Rattle.stun_base.specs.declared.wire.message_type.MessageClass.TheVariants.{Request}
use Rattle.stun_base.specs.declared.wire.message_type.MessageClass.TheVariants.{Indication}
use Rattle.stun_base.specs.declared.wire.message_type.MessageClass.TheVariants.{Success, Error}
use Rattle.stun_types.specs.Integrity.{deciding, first_of, verified_algorithm}
use Rattle.stun_types.specs.Limits.{USERNAME_LIMIT}
use Rattle.stun_types.specs.Text.{text_of}
use Rattle.stun_types.specs.Visible.{visible}
use Rattle.stun_types.specs.Walk.{Member}
use Rattle.stun_judging.specs.Verdict.{ClientSeen}
use Rattle.stun_extra.specs.Unknown.{unknown_types}
use Rattle.stun_endpoint.specs.Received.{AcceptedRequest, Answer}
use Rattle.stun_endpoint.specs.Responding.{Responding, drop_reason, is_empty, own_answer}
use Rattle.stun_endpoint.specs.Responding.{refusal_by, reply_by}
use Rattle.stun_endpoint.specs.ShortTerm.{IsSignedBy, Keys, ShortTermOutcome, SignedIndication}
use Rattle.stun_endpoint.specs.ShortTerm.{Signer, answered, by_class_signed, by_digest, by_key}
use Rattle.stun_endpoint.specs.ShortTerm.{by_signer, dropped, indicated, indicated_by}
use Rattle.stun_endpoint.specs.ShortTerm.{name_or_refusal, named_by, named_or_refusal, or_handed}
use Rattle.stun_endpoint.specs.ShortTerm.{received_signed, requested, signature_of, signer_named}
use Rattle.stun_endpoint.specs.ShortTerm.{signer_of, unless_dropped}
use Rattle.stun_endpoint.specs.declared.received.DropReason.{DropReason}
use Rattle.stun_endpoint.specs.declared.received.DropReason.TheVariants.{NotSigned}
use Rattle.stun_endpoint.specs.declared.received.DropReason.TheVariants.{UnknownAttribute}
use Rattle.stun_endpoint.specs.declared.received.Refusal.{Refusal}
use Rattle.stun_endpoint.specs.declared.received.Refusal.TheVariants as refused
use Rattle.stun_endpoint.proofs.AnsweredLemmas.{IsGivenToAccepted, plain_told}
use Rattle.stun_endpoint.proofs.SignerLemmas.{signed-iff}

-- ---- a refusal is a 400 or a 401

abbrev IsPlain : {T : Type 0} → Result T Refusal → Type 0
IsPlain (Ok value) = Unit {0}
IsPlain (Err refused.BadRequest) = Unit {0}
IsPlain (Err refused.Unauthenticated) = Unit {0}
IsPlain (Err refused.UnknownAttribute) = ⊥
IsPlain (Err refused.StaleNonce) = ⊥

plain_digest : (name key : List ℕ) (digest : Option IntegrityAlgorithm)
    → IsPlain (by_digest name key digest)
plain_digest name key None = tt
plain_digest name key (Some algorithm) = tt

plain_key : (bytes name : List ℕ) (key : Option (List ℕ)) → IsPlain (by_key bytes name key)
plain_key bytes name None = tt
plain_key bytes name (Some key) = plain_digest name key (verified_algorithm bytes key)

plain_text : (name : Option (List ℕ)) → IsPlain (name_or_refusal name)
plain_text None = tt
plain_text (Some name) = tt

plain_member : (m : Option Member) → IsPlain (named_or_refusal m)
plain_member None = tt
plain_member (Some m) = plain_text (text_of USERNAME USERNAME_LIMIT m.1)

plain_named : (users : Keys) (bytes : List ℕ) (named : Result (List ℕ) Refusal) → IsPlain named
    → IsPlain (signer_named users bytes named)
plain_named users bytes (Ok name) h = plain_key bytes name (map.get users name)
plain_named users bytes (Err refused.BadRequest) h = tt
plain_named users bytes (Err refused.Unauthenticated) h = tt
plain_named users bytes (Err refused.UnknownAttribute) h = absurd h
plain_named users bytes (Err refused.StaleNonce) h = absurd h

plain_test : (none : Bool) (rest : Result Signer Refusal) → IsPlain rest
    → IsPlain (cond none (Err refused.BadRequest) rest)
plain_test true rest h = tt
plain_test false rest h = h

plain_signer : (users : Keys) (bytes : List ℕ) → IsPlain (signer_of users bytes)
plain_signer users bytes =
    plain_test (is_none (deciding bytes)) (signer_named users bytes (named_by bytes))
    (plain_named users bytes (named_by bytes)
    (plain_member (first_of USERNAME (visible bytes))))

not_given : (why : Refusal) → IsPlain {T = Signer} (Err why) → IsGivenToAccepted (Some why)
    → (A : Type 0) → A
not_given refused.BadRequest h (inl none) A = cc
not_given refused.BadRequest h (inr odd) A = cc
not_given refused.Unauthenticated h (inl none) A = cc
not_given refused.Unauthenticated h (inr odd) A = cc
not_given refused.UnknownAttribute h given A = absurd h
not_given refused.StaleNonce h given A = absurd h

-- ---- outcomes

kept_request : (o : ShortTermOutcome) (d : Option DropReason) (q : AcceptedRequest)
    → unless_dropped o d ≡ requested q → o ≡ requested q
kept_request o None q h = h
kept_request o (Some why) q h = cc

kept_indication : (o : ShortTermOutcome) (d : Option DropReason) (i : SignedIndication)
    → unless_dropped o d ≡ indicated i → o ≡ indicated i
kept_indication o None i h = h
kept_indication o (Some why) i h = cc

kept_answer : (o : ShortTermOutcome) (d : Option DropReason) (a : Answer)
    → unless_dropped o d ≡ answered a → o ≡ answered a
kept_answer o None a h = h
kept_answer o (Some why) a h = cc

module _ (s : Responding) (users : Keys) (from : SocketAddr) (bytes : List ℕ) where
  handed : (signer : Signer) (o : Option Answer) (q : AcceptedRequest)
      → or_handed s from bytes signer o ≡ requested q → signer.client ≡ q.client
  handed signer (Some answer) q h = cc
  handed signer None q h =
      let request : AcceptedRequest = record {
        message = bytes;
        client = signer.client;
        reply = reply_by s (Some (signature_of signer)) from bytes;
      } in
      let same : request ≡ q = cc in ap (λ (x : AcceptedRequest). x.client) same

  signer_of_request : (q : AcceptedRequest) (r : Result Signer Refusal)
      → by_signer s from bytes r ≡ requested q
      → (key : List ℕ) × (r ≡ Ok (record { client = q.client; key = key }))
  signer_of_request q (Err why) h = cc
  signer_of_request q (Ok signer) h =
      let same =
      handed signer (own_answer s (Some (signature_of signer)) from bytes) q h in
      (signer.key, ap (λ (c : ClientSeen). Ok (record { client = c; key = signer.key })) same)

  not_indicated : (b : Bool) (i : SignedIndication) (why : DropReason) (q : AcceptedRequest)
      (A : Type 0) → cond b (indicated i) (dropped why) ≡ requested q → A
  not_indicated true i why q A h = cc
  not_indicated false i why q A h = cc

  not_indicated_by : (r : Result Signer Refusal) (q : AcceptedRequest) (A : Type 0)
      → indicated_by s bytes r ≡ requested q → A
  not_indicated_by (Err why) q A h = cc
  not_indicated_by (Ok signer) q A h =
      not_indicated (is_empty (unknown_types s.known bytes))
      (record { message = bytes; client = signer.client }) UnknownAttribute q A h

  class_of_request : (q : AcceptedRequest) (class : MessageClass)
      → by_class_signed s users from bytes class ≡ requested q
      → (key : List ℕ) × (signer_of users bytes ≡ Ok (record { client = q.client; key = key }))
  class_of_request q Request h = signer_of_request q (signer_of users bytes) h
  class_of_request q Indication h = not_indicated_by (signer_of users bytes) q _ h
  class_of_request q Success h = cc
  class_of_request q Error h = cc

  pub requested_is_signed : (q : AcceptedRequest) → received_signed s users from bytes ≡ requested q
      → (key : List ℕ) × IsSignedBy users bytes (record { client = q.client; key = key })
  requested_is_signed q h =
      let one =
      class_of_request q (class_in bytes)
      (kept_request _ (drop_reason s.requires_fingerprint bytes) q h) in
      (one.0, (signed-iff users bytes (record { client = q.client; key = one.0 })).0 one.1)

  -- ---- indications
  passed : (b : Bool) (one : SignedIndication) (why : DropReason) (i : SignedIndication)
      → cond {A = ShortTermOutcome} b (indicated one) (dropped why) ≡ indicated i → one ≡ i
  passed true one why i h = cc
  passed false one why i h = cc

  signer_of_indication : (i : SignedIndication) (r : Result Signer Refusal)
      → indicated_by s bytes r ≡ indicated i
      → (key : List ℕ) × (r ≡ Ok (record { client = i.client; key = key }))
  signer_of_indication i (Err why) h = cc
  signer_of_indication i (Ok signer) h =
      let same =
      ap (λ (x : SignedIndication). x.client)
      (passed (is_empty (unknown_types s.known bytes))
      (record { message = bytes; client = signer.client }) UnknownAttribute i h) in
      (signer.key, ap (λ (c : ClientSeen). Ok (record { client = c; key = signer.key })) same)

  not_answer : (o : Option Answer) (signer : Signer) (i : SignedIndication) (A : Type 0)
      → or_handed s from bytes signer o ≡ indicated i → A
  not_answer (Some answer) signer i A h = cc
  not_answer None signer i A h = cc

  not_requested : (r : Result Signer Refusal) (i : SignedIndication) (A : Type 0)
      → by_signer s from bytes r ≡ indicated i → A
  not_requested (Err why) i A h = cc
  not_requested (Ok signer) i A h =
      not_answer (own_answer s (Some (signature_of signer)) from bytes) signer i A h

  class_of_indication : (i : SignedIndication) (class : MessageClass)
      → by_class_signed s users from bytes class ≡ indicated i
      → (key : List ℕ) × (signer_of users bytes ≡ Ok (record { client = i.client; key = key }))
  class_of_indication i Request h = not_requested (signer_of users bytes) i _ h
  class_of_indication i Indication h = signer_of_indication i (signer_of users bytes) h
  class_of_indication i Success h = cc
  class_of_indication i Error h = cc

  pub indicated_is_signed : (i : SignedIndication)
      → received_signed s users from bytes ≡ indicated i
      → (key : List ℕ) × IsSignedBy users bytes (record { client = i.client; key = key })
  indicated_is_signed i h =
      let one =
      class_of_indication i (class_in bytes)
      (kept_indication _ (drop_reason s.requires_fingerprint bytes) i h) in
      (one.0, (signed-iff users bytes (record { client = i.client; key = one.0 })).0 one.1)

  -- ---- responses
  signer_of_answer : (a : Answer) (r : Result Signer Refusal) → IsPlain r
      → by_signer s from bytes r ≡ answered a → IsGivenToAccepted a.refusal
      → (signer : Signer) × (r ≡ Ok signer)
  signer_of_answer a (Ok signer) plain h given = (signer, refl)
  signer_of_answer a (Err why) plain h given =
      let same : refusal_by s why from bytes ≡ a = cc in
      let is : a.refusal ≡ Some why =
      sym (ap (λ (x : Answer). x.refusal) same) ∙ plain_told s why from bytes in
      not_given why plain (subst IsGivenToAccepted is given) _

  not_shown : (b : Bool) (i : SignedIndication) (why : DropReason) (a : Answer) (A : Type 0)
      → cond {A = ShortTermOutcome} b (indicated i) (dropped why) ≡ answered a → A
  not_shown true i why a A h = cc
  not_shown false i why a A h = cc

  not_answered : (r : Result Signer Refusal) (a : Answer) (A : Type 0)
      → indicated_by s bytes r ≡ answered a → A
  not_answered (Err why) a A h = cc
  not_answered (Ok signer) a A h =
      not_shown (is_empty (unknown_types s.known bytes))
      (record { message = bytes; client = signer.client }) UnknownAttribute a A h

  class_of_answer : (a : Answer) (class : MessageClass)
      → by_class_signed s users from bytes class ≡ answered a → IsGivenToAccepted a.refusal
      → (signer : Signer) × (signer_of users bytes ≡ Ok signer)
  class_of_answer a Request h given =
      signer_of_answer a (signer_of users bytes) (plain_signer users bytes) h given
  class_of_answer a Indication h given = not_answered (signer_of users bytes) a _ h
  class_of_answer a Success h given = cc
  class_of_answer a Error h given = cc

  pub answered_is_signed : (a : Answer) → received_signed s users from bytes ≡ answered a
      → IsGivenToAccepted a.refusal → (signer : Signer) × IsSignedBy users bytes signer
  answered_is_signed a h given =
      let one =
      class_of_answer a (class_in bytes)
      (kept_answer _ (drop_reason s.requires_fingerprint bytes) a h) given in
      (one.0, (signed-iff users bytes one.0).0 one.1)

  -- ---- a request that is not dropped
  request_comes_to : drop_reason s.requires_fingerprint bytes ≡ None → class_in bytes ≡ Request
      → received_signed s users from bytes ≡ by_signer s from bytes (signer_of users bytes)
  request_comes_to kept request =
      ap (unless_dropped (by_class_signed s users from bytes (class_in bytes))) kept
      ∙ ap (by_class_signed s users from bytes) request

  pub signed_comes_to : (signer : Signer) → drop_reason s.requires_fingerprint bytes ≡ None → class_in bytes ≡ Request
      → IsSignedBy users bytes signer
      → received_signed s users from bytes
      ≡ or_handed s from bytes signer (own_answer s (Some (signature_of signer)) from bytes)
  signed_comes_to signer kept request is =
      request_comes_to kept request
      ∙ ap (by_signer s from bytes) ((signed-iff users bytes signer).1 is)

  -- ---- an indication that no user has signed
  unsigned_by : (r : Result Signer Refusal) → signer_of users bytes ≡ r → IsPlain r
      → ((signer : Signer) → IsSignedBy users bytes signer → ⊥)
      → (indicated_by s bytes r ≡ dropped (NotSigned refused.BadRequest))
      ⊎ (indicated_by s bytes r ≡ dropped (NotSigned refused.Unauthenticated))
  unsigned_by (Ok signer) is plain nobody =
      absurd (nobody signer ((signed-iff users bytes signer).0 is))
  unsigned_by (Err refused.BadRequest) is plain nobody = inl refl
  unsigned_by (Err refused.Unauthenticated) is plain nobody = inr refl
  unsigned_by (Err refused.UnknownAttribute) is plain nobody = absurd plain
  unsigned_by (Err refused.StaleNonce) is plain nobody = absurd plain

  indication_comes_to : drop_reason s.requires_fingerprint bytes ≡ None
      → class_in bytes ≡ Indication
      → received_signed s users from bytes ≡ indicated_by s bytes (signer_of users bytes)
  indication_comes_to kept indication =
      ap (unless_dropped (by_class_signed s users from bytes (class_in bytes))) kept
      ∙ ap (by_class_signed s users from bytes) indication

  pub unsigned_indication : drop_reason s.requires_fingerprint bytes ≡ None
      → class_in bytes ≡ Indication
      → ((signer : Signer) → IsSignedBy users bytes signer → ⊥)
      → (received_signed s users from bytes ≡ dropped (NotSigned refused.BadRequest))
      ⊎ (received_signed s users from bytes ≡ dropped (NotSigned refused.Unauthenticated))
  unsigned_indication kept indication nobody =
      by (unsigned_by (signer_of users bytes) refl (plain_signer users bytes) nobody)
    where
      by : (indicated_by s bytes (signer_of users bytes)
          ≡ dropped (NotSigned refused.BadRequest))
          ⊎ (indicated_by s bytes (signer_of users bytes)
          ≡ dropped (NotSigned refused.Unauthenticated))
          → (received_signed s users from bytes ≡ dropped (NotSigned refused.BadRequest))
          ⊎ (received_signed s users from bytes ≡ dropped (NotSigned refused.Unauthenticated))
      by (inl is) = inl (indication_comes_to kept indication ∙ is)
      by (inr is) = inr (indication_comes_to kept indication ∙ is)

  by_refused : (r : Result Signer Refusal) → signer_of users bytes ≡ r
      → ((signer : Signer) → IsSignedBy users bytes signer → ⊥)
      → (why : Refusal) × (by_signer s from bytes (signer_of users bytes)
      ≡ answered (refusal_by s why from bytes))
  by_refused (Ok signer) is nobody = absurd (nobody signer ((signed-iff users bytes signer).0 is))
  by_refused (Err why) is nobody = (why, ap (by_signer s from bytes) is)

  pub unsigned_comes_to : drop_reason s.requires_fingerprint bytes ≡ None → class_in bytes ≡ Request
      → ((signer : Signer) → IsSignedBy users bytes signer → ⊥)
      → (why : Refusal)
      × (received_signed s users from bytes ≡ answered (refusal_by s why from bytes))
  unsigned_comes_to kept request nobody =
      let one = by_refused (signer_of users bytes) refl nobody in
      (one.0, request_comes_to kept request ∙ one.1)
