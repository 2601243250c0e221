-- The code of a cause is that of the response, and what is not refused has no cause.
use Rattle.std.proofs.Common.{◌≡◌, ℕ, List, [], Option, Some, None, Bool, true, false, refl, sym, ◌∙◌}
use Rattle.std.proofs.Common.{ap, Ok, Err}
use Rattle.std.specs.Prelude.{cond, ◌||◌, ◌&&◌, IfOk}
use Rattle.std.specs.Option.{is_some, option_map}
use Rattle.std.specs.Str.{bytes_eq}
use Rattle.std.specs.declared.net.socket_addr.SocketAddr.{SocketAddr}
use Rattle.std.specs.declared.result.Result.{Result}
use Rattle.stun_base.specs.MessageType.{class_in}
use Rattle.stun_base.specs.declared.wire.message_type.MessageClass.{MessageClass}
use Rattle.stun_base.specs.declared.wire.message_type.MessageClass.TheVariants.{Request}
use Rattle.stun_base.specs.declared.wire.message_type.MessageClass.TheVariants.{Indication}
use Rattle.stun_base.specs.declared.wire.message_type.MessageClass.TheVariants.{Success, Error}
use Rattle.stun_judging.specs.Verdict.{told_refusal, ClientSeen, their_nonce}
use Rattle.stun_judging.specs.Reading.{Reading, reading_of, is_malformed}
use Rattle.stun_judging.specs.declared.refusal.VerdictRefusal.{VerdictRefusal}
use Rattle.stun_judging.specs.declared.refusal.VerdictRefusal.TheVariants as verdict
use Rattle.stun_extra.specs.Unknown.{unknown_types}
use Rattle.stun_judging.specs.Registered.{Registered}
use Rattle.stun_endpoint.specs.Causes.{cause_by_class, cause_for, cause_of, code_of_cause}
use Rattle.stun_endpoint.specs.Causes.{credential_cause}
use Rattle.stun_endpoint.specs.Causes.{or_unknown, refused_code}
use Rattle.stun_endpoint.specs.Judged.{Realm, has_other_realm, judged, key_of_client}
use Rattle.stun_endpoint.specs.Judged.{realm_of_user}
use Rattle.stun_endpoint.specs.Nonces.{current_nonce}
use Rattle.stun_endpoint.specs.Received.{Answer, Outcome, answer_to_refused, by_class, by_verdict}
use Rattle.stun_endpoint.specs.Received.{dropped, indicated, is_binding, is_empty}
use Rattle.stun_endpoint.specs.Received.{or_handed, outcome_of_accepted, received_by}
use Rattle.stun_endpoint.specs.Received.{received_for, responding_of, signature_for}
use Rattle.stun_endpoint.specs.Received.{unless_dropped}
use Rattle.stun_endpoint.specs.Refusals.{code_of}
use Rattle.stun_endpoint.specs.Responding.{binding_by, drop_reason, unknown_by}
use Rattle.stun_endpoint.specs.Settings.{Settings}
use Rattle.stun_endpoint.specs.code.Refusing.{cause_told, is_unauthorized}
use Rattle.stun_endpoint.specs.code.Refusing.{unknown_among, unknown_in, verdict_under_none}
use Rattle.stun_endpoint.specs.declared.received.DropReason.{DropReason}
use Rattle.stun_endpoint.specs.declared.received.DropReason.TheVariants as drop
use Rattle.stun_endpoint.specs.declared.received.Refusal.TheVariants as refused
use Rattle.stun_endpoint.specs.declared.server.causes.Cause.{Cause}
use Rattle.stun_endpoint.specs.declared.server.causes.Cause.TheVariants.{NoSignature, Incomplete}
use Rattle.stun_endpoint.specs.declared.server.causes.Cause.TheVariants.{OtherAlgorithms}
use Rattle.stun_endpoint.specs.declared.server.causes.Cause.TheVariants.{OtherFeatures}
use Rattle.stun_endpoint.specs.declared.server.causes.Cause.TheVariants.{WrongCredentials}
use Rattle.stun_endpoint.specs.declared.server.causes.Cause.TheVariants.{UnknownAttribute}
use Rattle.stun_endpoint.proofs.AnsweredLemmas.{refusal_told, refused_told}
use Rattle.stun_endpoint.proofs.CauseLemmas.{accepted_cause, refused_cause}
use Rattle.stun_endpoint.proofs.HandedLemmas.{binding_fine, unknown_odd}

-- the code of what a client is told
unauthorized_code : (bare current : Bool)
    → code_of_cause (cond bare NoSignature (cond current WrongCredentials OtherFeatures)) ≡ 401
unauthorized_code true current = refl
unauthorized_code false true = refl
unauthorized_code false false = refl

bad_code : (malformed : Bool) → code_of_cause (cond malformed Incomplete OtherAlgorithms) ≡ 400
bad_code true = refl
bad_code false = refl

told_code : (s : Settings) (ours : List ℕ) (r : Reading) (told : VerdictRefusal)
    → code_of_cause (cause_told s ours r told) ≡ code_of (refusal_told told)
told_code s ours r verdict.Unauthorized =
    unauthorized_code (is_unauthorized (verdict_under_none s r)) (bytes_eq (their_nonce r) ours)
told_code s ours r verdict.StaleNonce = refl
told_code s ours r verdict.BadRequest = bad_code (is_malformed r || bytes_eq (their_nonce r) [])

-- what a dropped datagram comes to
undropped_code : (why : Option DropReason) (rest : Outcome) (cause : Option Cause)
    → option_map code_of_cause cause ≡ refused_code rest
    → option_map code_of_cause (cond (is_some why) None cause)
    ≡ refused_code (unless_dropped rest why)
undropped_code (Some why) rest cause h = refl
undropped_code None rest cause h = h

-- a result that has one cause has another that is equal
pub told_cause : {X E : Type 0} (r : Result X E) (f : X → Option Cause) (a b : Option Cause)
    → a ≡ b → IfOk r (λ x. f x ≡ a) → IfOk r (λ x. f x ≡ b)
told_cause (Ok x) f a b e h = h ∙ e
told_cause (Err why) f a b e h = tt

module _ (s : Settings) (realm : Realm) (from : SocketAddr) (now : ℕ) (bytes : List ℕ) where
  -- what an accepted request comes to
  handed_code : (b c : Bool) (one other : Answer) (key : List ℕ) (client : ClientSeen)
      → one.refusal ≡ None → other.refusal ≡ Some refused.UnknownAttribute
      → option_map code_of_cause (cond b None (Some UnknownAttribute))
      ≡ refused_code
      (or_handed s key from bytes client (cond b (cond c (Some one) None) (Some other)))
  handed_code true true one other key client fine odd = sym (ap (option_map code_of) fine)
  handed_code true false one other key client fine odd = refl
  handed_code false c one other key client fine odd = sym (ap (option_map code_of) odd)

  -- of what an accepted request comes to, the 420 alone has a cause
  handed_unknown : (b c : Bool) (one other : Answer) (key : List ℕ) (client : ClientSeen)
      → one.refusal ≡ None → other.refusal ≡ Some refused.UnknownAttribute
      → unknown_in
      (or_handed s key from bytes client (cond b (cond c (Some one) None) (Some other)))
      ≡ cond b None (Some UnknownAttribute)
  handed_unknown true true one other key client fine odd = ap unknown_among fine
  handed_unknown true false one other key client fine odd = refl
  handed_unknown false c one other key client fine odd = ap unknown_among odd

  pub unknown_accepted : (key : List ℕ) (client : ClientSeen)
      → judged s realm from now (reading_of bytes) ≡ Ok client
      → unknown_in (outcome_of_accepted s key from bytes client)
      ≡ or_unknown s bytes (credential_cause s realm from now (reading_of bytes))
  unknown_accepted key client is =
      let by = signature_for key bytes in
      handed_unknown (is_empty (unknown_types s.known bytes))
      (s.answers_binding && is_binding bytes) (binding_by (responding_of s) by from bytes)
      (unknown_by (responding_of s) by from bytes) key client
      (binding_fine (responding_of s) by from bytes) (unknown_odd (responding_of s) by from bytes)
      ∙ sym (ap (or_unknown s bytes) (accepted_cause s realm from (reading_of bytes) now client is))

  indicated_code : (b : Bool)
      → None ≡ refused_code (cond b (indicated bytes) (dropped drop.UnknownAttribute))
  indicated_code true = refl
  indicated_code false = refl

  verdict_code : (v : Result ClientSeen VerdictRefusal)
      → judged s realm from now (reading_of bytes) ≡ v
      → option_map code_of_cause
      (or_unknown s bytes (credential_cause s realm from now (reading_of bytes)))
      ≡ refused_code (by_verdict s realm from now bytes v)
  verdict_code (Ok client) is =
      let by = signature_for (key_of_client realm client) bytes in
      ap (λ cause. option_map code_of_cause (or_unknown s bytes cause))
      (accepted_cause s realm from (reading_of bytes) now client is)
      ∙ handed_code (is_empty (unknown_types s.known bytes))
      (s.answers_binding && is_binding bytes) (binding_by (responding_of s) by from bytes)
      (unknown_by (responding_of s) by from bytes) (key_of_client realm client) client
      (binding_fine (responding_of s) by from bytes) (unknown_odd (responding_of s) by from bytes)
  verdict_code (Err why) is =
      let ours = current_nonce s from now in
      let told = told_refusal ours (reading_of bytes) why in
      ap (λ cause. option_map code_of_cause (or_unknown s bytes cause))
      (refused_cause s realm from (reading_of bytes) now why is)
      ∙ ap (λ n. Some n) (told_code s ours (reading_of bytes) told)
      ∙ sym (ap (option_map code_of) (refused_told s ours from bytes told))

  class_code : (class : MessageClass)
      → option_map code_of_cause (cause_by_class s realm from now bytes class)
      ≡ refused_code (by_class s realm from now bytes class)
  class_code Request = verdict_code (judged s realm from now (reading_of bytes)) refl
  class_code Indication = indicated_code (is_empty (unknown_types s.known bytes))
  class_code Success = refl
  class_code Error = refl

  pub cause_code : option_map code_of_cause (cause_of s realm from now bytes)
      ≡ refused_code (received_by s realm from now bytes)
  cause_code =
      undropped_code (drop_reason s.requires_fingerprint bytes)
      (by_class s realm from now bytes (class_in bytes))
      (cause_by_class s realm from now bytes (class_in bytes)) (class_code (class_in bytes))

-- so it is with the users whom a server is passed
pub cause_for_code : (s : Settings) (users : Option Registered) (from : SocketAddr) (now : ℕ)
    (bytes : List ℕ)
    → option_map code_of_cause (cause_for s users from now bytes)
    ≡ refused_code (received_for s users from now bytes)
cause_for_code s users from now bytes = by (has_other_realm s users)
  where
    by : (b : Bool)
        → option_map code_of_cause
        (cond b None (cause_of s (realm_of_user s users) from now bytes))
        ≡ refused_code (cond b (dropped drop.OtherRealm)
        (received_by s (realm_of_user s users) from now bytes))
    by true = refl
    by false = cause_code s (realm_of_user s users) from now bytes
