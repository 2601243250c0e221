-- What a request comes to by the verdict that the code found is what it comes to by definition.
use Rattle.std.proofs.Common.{◌≡◌, ℕ, List, [], Some, None, true, false, sym, ◌∙◌, ap, Ok, Err}
use Rattle.std.specs.Prelude.{◌&&◌, not, IfOk, unwrap_or}
use Rattle.std.specs.declared.net.socket_addr.SocketAddr.{SocketAddr}
use Rattle.std.specs.declared.result.Result.{Result}
use Rattle.stun_base.specs.MessageType.{class_in}
use Rattle.stun_base.specs.declared.wire.message_type.MessageClass.TheVariants.{Request}
use Rattle.stun_judging.specs.Judged.{AcceptedSeen, HasVerifyingKey, client_judged}
use Rattle.stun_judging.specs.Reading.{reading_of}
use Rattle.stun_judging.specs.Verdict.{verdict_offering}
use Rattle.stun_judging.specs.declared.refusal.VerdictRefusal.{VerdictRefusal}
use Rattle.stun_endpoint.specs.Judged.{Realm, judged, key_of_client, realm_of_user}
use Rattle.stun_endpoint.specs.Lookups.{waits_for}
use Rattle.stun_endpoint.specs.Nonces.{current_nonce, epoch_of, nonce_in}
use Rattle.stun_endpoint.specs.Answers.{is_fingerprinted}
use Rattle.stun_endpoint.specs.Received.{by_class, by_verdict, dropped, outcome_of_accepted}
use Rattle.stun_endpoint.specs.Received.{received_by, refused_with, unless_dropped}
use Rattle.stun_endpoint.specs.Responding.{drop_reason}
use Rattle.stun_endpoint.specs.Settings.{Settings, registered_of}
use Rattle.stun_endpoint.specs.code.Judgements.{by_judgement}
use Rattle.stun_endpoint.specs.code.Waiting.{IsWaiting}
use Rattle.stun_endpoint.specs.declared.received.DropReason.TheVariants.{MissingFingerprint}
use Rattle.stun_endpoint.proofs.DroppedLemmas.{dropped_for_lack, undropped_again}
use Rattle.stun_endpoint.proofs.UnnamedLemmas.{refusal_under, unnamed_by_current}
use Rattle.stun_endpoint.proofs.UnnamedLemmas.{unnamed_is_refused}

module _ (s : Settings) (realm : Realm) (from : SocketAddr) (now : ℕ) (bytes nonce : List ℕ) where
  -- the verdict of the code is the one of the definitions, and the key is the client's
  pub judgement_is_verdict : (v : Result AcceptedSeen VerdictRefusal)
      → client_judged v ≡ judged s realm from now (reading_of bytes)
      → IfOk v (HasVerifyingKey realm.users (reading_of bytes))
      → nonce ≡ current_nonce s from now
      → by_judgement s nonce from bytes v
      ≡ by_verdict s realm from now bytes (judged s realm from now (reading_of bytes))
  judgement_is_verdict (Ok accepted) is key made =
      let same : key_of_client realm accepted.client ≡ accepted.key =
      ap (λ o. unwrap_or o []) key.0 in
      ap (λ k. outcome_of_accepted s k from bytes accepted.client) (sym same)
      ∙ ap (by_verdict s realm from now bytes) is
  judgement_is_verdict (Err refusal) is key made =
      ap (λ n. refused_with s n from bytes refusal) made
      ∙ ap (by_verdict s realm from now bytes) is

  -- a request that is not dropped comes to what the verdict does
  pub request_received : drop_reason s.requires_fingerprint bytes ≡ None
      → class_in bytes ≡ Request → received_by s realm from now bytes
      ≡ by_verdict s realm from now bytes (judged s realm from now (reading_of bytes))
  request_received kept request =
      ap (unless_dropped (by_class s realm from now bytes (class_in bytes))) kept
      ∙ ap (by_class s realm from now bytes) request

  -- a request that has waited is dropped only if it lacks a FINGERPRINT that is required
  pub resumed_received : IsWaiting bytes
      → (s.requires_fingerprint && not (is_fingerprinted bytes)) ≡ false
      → received_by s realm from now bytes
      ≡ by_verdict s realm from now bytes (judged s realm from now (reading_of bytes))
  resumed_received w kept =
      request_received (undropped_again bytes s.requires_fingerprint w.undropped kept) w.request

  pub resumed_dropped : IsWaiting bytes
      → (s.requires_fingerprint && not (is_fingerprinted bytes)) ≡ true
      → received_by s realm from now bytes ≡ dropped MissingFingerprint
  resumed_dropped w lacks =
      ap (unless_dropped (by_class s realm from now bytes (class_in bytes)))
      (dropped_for_lack bytes s.requires_fingerprint w.undropped lacks)

-- one that waits for nobody comes to what the current nonce tells
pub unnamed_done : (s : Settings) (from : SocketAddr) (now : ℕ) (bytes nonce : List ℕ)
    (v : Result AcceptedSeen VerdictRefusal)
    → drop_reason s.requires_fingerprint bytes ≡ None → class_in bytes ≡ Request
    → waits_for s from (epoch_of s now) (reading_of bytes) ≡ None
    → nonce ≡ nonce_in s s.secret from (epoch_of s now)
    → client_judged v
    ≡ verdict_offering (registered_of s) s.feature nonce s.algorithms (reading_of bytes)
    → by_judgement s nonce from bytes v ≡ received_by s (realm_of_user s None) from now bytes
unnamed_done s from now bytes nonce v kept request none made is =
    let r = reading_of bytes in
    let ours = nonce_in s s.secret from (epoch_of s now) in
    let refused : client_judged v ≡ Err (refusal_under s r ours) =
    is ∙ ap (λ n. verdict_offering (registered_of s) s.feature n s.algorithms r) made
    ∙ unnamed_by_current s r (registered_of s) from (epoch_of s now) none in
    by v refused
    ∙ ap (λ n. refused_with s n from bytes (refusal_under s r ours)) made
    ∙ sym (ap (by_verdict s (realm_of_user s None) from now bytes)
    (unnamed_is_refused s r (registered_of s) from (epoch_of s now) none))
    ∙ sym (request_received s (realm_of_user s None) from now bytes nonce kept request)
  where
    why : VerdictRefusal
    why = refusal_under s (reading_of bytes) (nonce_in s s.secret from (epoch_of s now))

    by : (v : Result AcceptedSeen VerdictRefusal) → client_judged v ≡ Err why
        → by_judgement s nonce from bytes v ≡ refused_with s nonce from bytes why
    by (Ok accepted) h = cc
    by (Err refusal) h =
        let same : refusal ≡ why = cc in ap (refused_with s nonce from bytes) same
