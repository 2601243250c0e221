-- Who is handed to the caller is accepted, and who gets a 400 has the current nonce or is malformed.
use Rattle.std.proofs.Common.{◌≡◌, ◌⊎◌, inl, inr, ℕ, List, Option, Some, None}
use Rattle.std.proofs.Common.{Bool, true, false, refl, sym, ◌∙◌, ap, Ok, Err}
use Rattle.std.specs.Prelude.{cond, ◌||◌, ◌&&◌}
use Rattle.std.specs.Str.{bytes_eq}
use Rattle.std.specs.declared.net.socket_addr.SocketAddr.{SocketAddr}
use Rattle.std.specs.declared.result.Result.{Result}
use Rattle.stun_base.specs.MessageType.{class_in}
use Rattle.stun_base.specs.declared.wire.message_type.MessageClass.{MessageClass}
use Rattle.stun_base.specs.declared.wire.message_type.MessageClass.TheVariants.{Request}
use Rattle.stun_base.specs.declared.wire.message_type.MessageClass.TheVariants.{Indication}
use Rattle.stun_base.specs.declared.wire.message_type.MessageClass.TheVariants.{Success, Error}
use Rattle.stun_judging.specs.Verdict.{told_refusal, ClientSeen, their_nonce}
use Rattle.stun_judging.specs.Reading.{Reading, reading_of, is_malformed}
use Rattle.stun_judging.specs.declared.refusal.VerdictRefusal.{VerdictRefusal}
use Rattle.stun_judging.specs.declared.refusal.VerdictRefusal.TheVariants as verdict
use Rattle.stun_extra.specs.Unknown.{unknown_types}
use Rattle.stun_endpoint.specs.Judged.{IsAcceptedAt, Realm, judged, key_of_client}
use Rattle.stun_endpoint.specs.Nonces.{current_nonce, epoch_of}
use Rattle.stun_endpoint.specs.Answers.{Signature}
use Rattle.stun_endpoint.specs.Received.{AcceptedRequest, Answer, Outcome, answer_to_refused}
use Rattle.stun_endpoint.specs.Received.{answered, by_class, by_verdict, challenge_answer, dropped}
use Rattle.stun_endpoint.specs.Received.{indicated, is_binding, is_empty, or_handed}
use Rattle.stun_endpoint.specs.Received.{received_by, requested, responding_of, signature_for}
use Rattle.stun_endpoint.specs.Received.{unless_dropped}
use Rattle.stun_endpoint.specs.Responding.{Responding, binding_by, drop_reason, own_answer}
use Rattle.stun_endpoint.specs.Responding.{reply_by, unknown_by}
use Rattle.stun_endpoint.specs.Settings.{Settings}
use Rattle.stun_endpoint.specs.declared.received.DropReason.{DropReason}
use Rattle.stun_endpoint.specs.declared.received.Refusal.{Refusal}
use Rattle.stun_endpoint.specs.declared.received.Refusal.TheVariants as refused
use Rattle.stun_endpoint.proofs.AcceptedLemmas.{accepted_at}

-- ---- outcomes

handed : (s : Settings) (key : List ℕ) (from : SocketAddr) (bytes : List ℕ) (client : ClientSeen)
    (o : Option Answer) (q : AcceptedRequest)
    → or_handed s key from bytes client o ≡ requested q → client ≡ q.client
handed s key from bytes client (Some answer) q h = cc
handed s key from bytes client None q h =
    let request : AcceptedRequest = record {
      message = bytes;
      client = client;
      reply = reply_by (responding_of s) (signature_for key bytes) from bytes;
    } in
    let same : request ≡ q = cc in
    ap (λ (x : AcceptedRequest). x.client) same

pub not_indicated : (b : Bool) (bytes : List ℕ) (why : DropReason) (q : AcceptedRequest) (A : Type 0)
    → cond b (indicated bytes) (dropped why) ≡ requested q → A
not_indicated true bytes why q A h = cc
not_indicated false bytes why q A h = cc

pub not_indicated_answer : (b : Bool) (bytes : List ℕ) (why : DropReason) (a : Answer) (A : Type 0)
    → cond {A = Outcome} b (indicated bytes) (dropped why) ≡ answered a → A
not_indicated_answer true bytes why a A h = cc
not_indicated_answer false bytes why a A h = cc

not_dropped : (why : Option DropReason) (rest : Outcome) (q : AcceptedRequest)
    → unless_dropped rest why ≡ requested q → rest ≡ requested q
not_dropped None rest q h = h
not_dropped (Some why) rest q h = cc

pub not_dropped_answer : (why : Option DropReason) (rest : Outcome) (a : Answer)
    → unless_dropped rest why ≡ answered a → rest ≡ answered a
not_dropped_answer None rest a h = h
not_dropped_answer (Some why) rest a h = cc

-- an accepted request does not get a 400
not_bad : (b c : Bool) (one other : Answer) (s : Settings) (key : List ℕ) (from : SocketAddr)
    (bytes : List ℕ) (client : ClientSeen) (a : Answer)
    → one.refusal ≡ None → other.refusal ≡ Some refused.UnknownAttribute
    → or_handed s key from bytes client (cond b (cond c (Some one) None) (Some other)) ≡ answered a
    → a.refusal ≡ Some refused.BadRequest → (A : Type 0) → A
not_bad true true one other s key from bytes client a fine odd h bad A =
    let same : one ≡ a = cc in
    let wrong : None ≡ Some refused.BadRequest =
    sym fine ∙ ap (λ (x : Answer). x.refusal) same ∙ bad in cc
not_bad true false one other s key from bytes client a fine odd h bad A = cc
not_bad false c one other s key from bytes client a fine odd h bad A =
    let same : other ≡ a = cc in
    let wrong : Some refused.UnknownAttribute ≡ Some refused.BadRequest =
    sym odd ∙ ap (λ (x : Answer). x.refusal) same ∙ bad in cc

-- ---- a refusal that is told as a bad request
told_so : (m n : Bool) → cond (m || n) verdict.BadRequest verdict.StaleNonce ≡ verdict.BadRequest
    → (m ≡ true) ⊎ (n ≡ true)
told_so true n h = inl refl
told_so false true h = inr refl
told_so false false h = cc

told_of : (nonce : List ℕ) (r : Reading) (why : VerdictRefusal)
    → told_refusal nonce r why ≡ verdict.BadRequest
    → (is_malformed r ≡ true) ⊎ (bytes_eq (their_nonce r) nonce ≡ true)
told_of nonce r verdict.Unauthorized h = cc
told_of nonce r verdict.StaleNonce h = cc
told_of nonce r verdict.BadRequest h = told_so (is_malformed r) (bytes_eq (their_nonce r) nonce) h

pub binding_fine : (s : Responding) (by : Option Signature) (from : SocketAddr) (bytes : List ℕ)
    → (binding_by s by from bytes).refusal ≡ None
unfolding binding_by
binding_fine s by from bytes = refl

pub unknown_odd : (s : Responding) (by : Option Signature) (from : SocketAddr) (bytes : List ℕ)
    → (unknown_by s by from bytes).refusal ≡ Some refused.UnknownAttribute
unfolding unknown_by
unknown_odd s by from bytes = refl

pub challenge_told : (s : Settings) (why : Refusal) (nonce : List ℕ) (from : SocketAddr)
    (bytes : List ℕ) → (challenge_answer s why nonce from bytes).refusal ≡ Some why
unfolding challenge_answer
challenge_told s why nonce from bytes = refl

told_bad : (s : Settings) (nonce : List ℕ) (from : SocketAddr) (bytes : List ℕ)
    (told : VerdictRefusal)
    → (answer_to_refused s nonce from bytes told).refusal ≡ Some refused.BadRequest
    → told ≡ verdict.BadRequest
told_bad s nonce from bytes verdict.Unauthorized h =
    let wrong : Some refused.Unauthenticated ≡ Some refused.BadRequest =
    sym (challenge_told s refused.Unauthenticated nonce from bytes) ∙ h in cc
told_bad s nonce from bytes verdict.StaleNonce h =
    let wrong : Some refused.StaleNonce ≡ Some refused.BadRequest =
    sym (challenge_told s refused.StaleNonce nonce from bytes) ∙ h in cc
told_bad s nonce from bytes verdict.BadRequest h = refl

module _ (s : Settings) (realm : Realm) (from : SocketAddr) (now : ℕ) (bytes : List ℕ) where
  verdict_of_handed : (q : AcceptedRequest) (v : Result ClientSeen VerdictRefusal)
      → by_verdict s realm from now bytes v ≡ requested q → v ≡ Ok q.client
  verdict_of_handed q (Ok client) h =
      let key = key_of_client realm client in
      ap (λ (c : ClientSeen). Ok c)
      (handed s key from bytes client
      (own_answer (responding_of s) (signature_for key bytes) from bytes) q h)
  verdict_of_handed q (Err why) h = cc

  class_of_handed : (q : AcceptedRequest) (class : MessageClass)
      → by_class s realm from now bytes class ≡ requested q
      → judged s realm from now (reading_of bytes) ≡ Ok q.client
  class_of_handed q Request h = verdict_of_handed q (judged s realm from now (reading_of bytes)) h
  class_of_handed q Indication h =
      not_indicated (is_empty (unknown_types s.known bytes)) bytes _ q _ h
  class_of_handed q Success h = cc
  class_of_handed q Error h = cc

  pub judged_of_handed : (q : AcceptedRequest)
      → received_by s realm from now bytes ≡ requested q
      → judged s realm from now (reading_of bytes) ≡ Ok q.client
  judged_of_handed q h =
      class_of_handed q (class_in bytes)
      (not_dropped (drop_reason s.requires_fingerprint bytes) _ q h)

  pub handed_is_accepted : (q : AcceptedRequest)
      → received_by s realm from now bytes ≡ requested q
      → IsAcceptedAt s realm from now (reading_of bytes) q.client
  handed_is_accepted q h =
      (accepted_at s realm from (reading_of bytes) q.client (epoch_of s now)).0
      (judged_of_handed q h)

  verdict_of_bad : (a : Answer) (v : Result ClientSeen VerdictRefusal)
      → by_verdict s realm from now bytes v ≡ answered a → a.refusal ≡ Some refused.BadRequest
      → (is_malformed (reading_of bytes) ≡ true)
      ⊎ (bytes_eq (their_nonce (reading_of bytes)) (current_nonce s from now) ≡ true)
  verdict_of_bad a (Ok client) h bad =
      let key = key_of_client realm client in
      let by = signature_for key bytes in
      not_bad (is_empty (unknown_types s.known bytes)) (s.answers_binding && is_binding bytes)
      (binding_by (responding_of s) by from bytes) (unknown_by (responding_of s) by from bytes)
      s key from bytes client a (binding_fine (responding_of s) by from bytes)
      (unknown_odd (responding_of s) by from bytes) h bad _
  verdict_of_bad a (Err why) h bad =
      let nonce = current_nonce s from now in
      let told = told_refusal nonce (reading_of bytes) why in
      let same : answer_to_refused s nonce from bytes told ≡ a = cc in
      told_of nonce (reading_of bytes) why
      (told_bad s nonce from bytes told (ap (λ (x : Answer). x.refusal) same ∙ bad))

  class_of_bad : (a : Answer) (class : MessageClass)
      → by_class s realm from now bytes class ≡ answered a → a.refusal ≡ Some refused.BadRequest
      → (is_malformed (reading_of bytes) ≡ true)
      ⊎ (bytes_eq (their_nonce (reading_of bytes)) (current_nonce s from now) ≡ true)
  class_of_bad a Request h bad =
      verdict_of_bad a (judged s realm from now (reading_of bytes)) h bad
  class_of_bad a Indication h bad =
      not_indicated_answer (is_empty (unknown_types s.known bytes)) bytes _ a _ h
  class_of_bad a Success h bad = cc
  class_of_bad a Error h bad = cc

  pub bad_is_malformed : (a : Answer)
      → received_by s realm from now bytes ≡ answered a → a.refusal ≡ Some refused.BadRequest
      → (is_malformed (reading_of bytes) ≡ true)
      ⊎ (bytes_eq (their_nonce (reading_of bytes)) (current_nonce s from now) ≡ true)
  bad_is_malformed a h bad =
      class_of_bad a (class_in bytes)
      (not_dropped_answer (drop_reason s.requires_fingerprint bytes) _ a h) bad
