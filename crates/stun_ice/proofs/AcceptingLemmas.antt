-- An agent accepts a check if and only if `Accepts` holds, and takes a pair for valid if and only if
-- `IsValid` holds.
use Rattle.std.proofs.Common.{◌≡◌, ◌↔◌, ℕ, List, [], ◌∷◌, Bool, true, false, refl, ◌∙◌, sym, ap}
use Rattle.std.proofs.Common.{Option, Some, None, eq-eqb, subst}
use Rattle.std.proofs.lemmas.Bool.{eqb-true}
use Rattle.std.specs.Prelude.{if◌then◌else◌, ◌==◌, IfOk, Result, Ok, Err}
use Rattle.std.specs.Option.{is_some, is_none, option_and_then}
use Rattle.std.specs.declared.net.socket_addr.SocketAddr.{SocketAddr}
use Rattle.stun_base.specs.Header.{transaction_id_field, type_field}
use Rattle.stun_base.specs.Keys.{with_colon}
use Rattle.stun_base.specs.MessageType.{class_in, method_of}
use Rattle.stun_base.specs.declared.keys.algorithm.IntegrityAlgorithm.{IntegrityAlgorithm}
use Rattle.stun_base.specs.declared.keys.algorithm.IntegrityAlgorithm.TheVariants.{Sha1, Sha256}
use Rattle.stun_base.specs.declared.wire.attribute_type.AttributeType.{AttributeType}
use Rattle.stun_base.specs.declared.wire.error.StunParseError.{StunParseError}
use Rattle.stun_base.specs.declared.wire.message_type.MessageClass.{MessageClass}
use Rattle.stun_base.specs.declared.wire.message_type.MessageClass.TheVariants.{Request}
use Rattle.stun_base.specs.declared.wire.message_type.MessageClass.TheVariants.{Indication}
use Rattle.stun_base.specs.declared.wire.message_type.MessageClass.TheVariants.{Success, Error}
use Rattle.stun_types.specs.ErrorCode.{CodeAndReason}
use Rattle.stun_types.specs.Integrity.{deciding, verified_algorithm, verified_at}
use Rattle.stun_types.specs.Message.{refusal}
use Rattle.stun_types.specs.Walk.{Member}
use Rattle.stun_types.specs.XorMappedAddress.{XoredAddress}
use Rattle.stun_extra.specs.Binding.{is_binding}
use Rattle.stun_extra.specs.CanonicalAddress.{is_same_address}
use Rattle.stun_extra.specs.Fingerprint.{fingerprint_in}
use Rattle.stun_extra.specs.Unknown.{is_empty, unknown_types}
use Rattle.stun_extra.specs.declared.fingerprint.Fingerprint.{Fingerprint}
use Rattle.stun_extra.specs.declared.fingerprint.Fingerprint.TheVariants.{Right, Wrong}
use Rattle.stun_extra.specs.declared.fingerprint.Fingerprint.TheVariants.{Misplaced, Absent}
use Rattle.stun_ice.specs.Agent.{Agent, SentCheck, peer_name_in}
use Rattle.stun_ice.specs.Checks.{Accepts, by_name, by_priority, by_role, by_signature}
use Rattle.stun_ice.specs.Checks.{is_nominated, verdict_of}
use Rattle.stun_ice.specs.Parts.{UNDERSTOOD, error_in, mapped_address_in}
use Rattle.stun_ice.specs.Parts.{priority_in, rival, username_in}
use Rattle.stun_ice.specs.Received.{by_class, by_fingerprint, by_response, judgement_of}
use Rattle.stun_ice.specs.Received.{Given, given, given_of, no_message, of_indication}
use Rattle.stun_ice.specs.Responses.{IsValid, is_answered, is_by_sha1, is_signed, of_address}
use Rattle.stun_ice.specs.Responses.{of_error, of_path, of_response, of_unknown, peer_algorithm}
use Rattle.stun_ice.proofs.NameLemmas.{is_named-means, is_named-with_colon}
use Rattle.stun_ice.specs.Roles.{is_same_role, role_after_check}
use Rattle.stun_ice.specs.Told.{IsAcceptedCheck, IsValidAnswer, TellsAccepted, TellsValid}
use Rattle.stun_ice.specs.declared.checker.judging.Acceptance.{Acceptance}
use Rattle.stun_ice.specs.declared.checker.judging.Verdict.{Verdict}
use Rattle.stun_ice.specs.declared.checker.judging.Verdict.TheVariants.{Accepted, Conflict, Refused}
use Rattle.stun_ice.specs.declared.checker.receiving.Judgement.{Judgement}
use Rattle.stun_ice.specs.declared.checker.receiving.Judgement.TheVariants.{Check, Response}
use Rattle.stun_ice.specs.declared.checker.receiving.Judgement.TheVariants.{Indication as Keepalive}
use Rattle.stun_ice.specs.declared.checker.receiving.Judgement.TheVariants.{Dropped}
use Rattle.stun_ice.specs.declared.received.DropReason.{DropReason}
use Rattle.stun_ice.specs.declared.received.DropReason.TheVariants.{NotAsked, OtherMethod}
use Rattle.stun_ice.specs.declared.received.DropReason.TheVariants.{WrongFingerprint}
use Rattle.stun_ice.specs.declared.received.DropReason.TheVariants.{WrongSignature}
use Rattle.stun_ice.specs.declared.received.DropReason.TheVariants.{UnknownAttribute as UnknownDrop}
use Rattle.stun_ice.specs.declared.received.Failure.TheVariants.{Error as ErrorFailure}
use Rattle.stun_ice.specs.declared.received.Failure.TheVariants.{OtherPath}
use Rattle.stun_ice.specs.declared.received.Mapped.{Mapped}
use Rattle.stun_ice.specs.declared.received.Received.{Received}
use Rattle.stun_ice.specs.declared.received.Outcome.{Outcome}
use Rattle.stun_ice.specs.declared.received.Outcome.TheVariants.{Failed, RoleConflict, Valid}
use Rattle.stun_ice.specs.declared.received.Refusal.TheVariants.{BadRequest, Unauthenticated}
use Rattle.stun_ice.specs.declared.received.Refusal.TheVariants.{UnknownAttribute}
use Rattle.stun_ice.specs.declared.role.Role.{Role}

-- ---- tests

else_of : {A : Type 0} (b : Bool) (x y z : A) → (x ≡ z → ⊥) → (if b then x else y) ≡ z
    → (b ≡ false) × (y ≡ z)
else_of true x y z apart h = absurd (apart h)
else_of false x y z apart h = (refl, h)

then_of : {A : Type 0} (b : Bool) (x y z : A) → (y ≡ z → ⊥) → (if b then x else y) ≡ z
    → (b ≡ true) × (x ≡ z)
then_of true x y z apart h = (refl, h)
then_of false x y z apart h = absurd (apart h)

none-of : {A : Type 0} (o : Option A) → is_some o ≡ false → o ≡ None
none-of None h = refl
none-of (Some x) h = cc

empty-of : (kinds : List AttributeType) → is_empty kinds ≡ true → kinds ≡ []
empty-of [] h = refl
empty-of (kind ∷ kinds) h = cc

-- ---- a check

-- what holds of a message that comes to a check
pub record IsChecked (a : Agent) (bytes b : List ℕ) (v : Verdict) : Type 0 where
  pub message : refusal bytes ≡ None
  pub fingerprint : fingerprint_in bytes ≡ Right
  pub class : class_in bytes ≡ Request
  pub method : is_binding bytes ≡ true
  pub bytes_are : b ≡ bytes
  pub verdict : verdict_of a bytes ≡ v

no-judgement : (b : Bool) (x y j : Judgement) → (x ≡ j → ⊥) → (y ≡ j → ⊥)
    → (if b then x else y) ≡ j → ⊥
no-judgement true x y j f g h = f h
no-judgement false x y j f g h = g h

module _ (a : Agent) (c : Option SentCheck) (from : SocketAddr) (bytes : List ℕ) where
  no-response : (c : Option SentCheck) (b : List ℕ) (v : Verdict)
      → by_response a c from bytes ≡ Check b v → ⊥
  no-response None b v h = cc
  no-response (Some check) b v h =
      no-judgement (is_answered check bytes)
      (if is_signed a bytes then Response (of_path a.role check from bytes)
      else Dropped WrongSignature) (Dropped NotAsked) (Check b v)
      (no-judgement (is_signed a bytes) (Response (of_path a.role check from bytes))
      (Dropped WrongSignature) (Check b v) (λ e. cc) (λ e. cc)) (λ e. cc) h

  class-checked : (class : MessageClass) (b : List ℕ) (v : Verdict)
      → by_class a c from bytes class ≡ Check b v
      → (class ≡ Request) × (b ≡ bytes) × (verdict_of a bytes ≡ v)
  class-checked Request b v h = (refl, cc, cc)
  class-checked Indication b v h =
      absurd (no-judgement (is_empty (unknown_types UNDERSTOOD bytes)) (Keepalive bytes)
      (Dropped UnknownDrop) (Check b v) (λ e. cc) (λ e. cc) h)
  class-checked Success b v h = absurd (no-response c b v h)
  class-checked Error b v h = absurd (no-response c b v h)

  fingerprint-checked : (f : Fingerprint) (j : Judgement) → ((reason : DropReason) → Dropped reason ≡ j → ⊥)
      → by_fingerprint a c from bytes f ≡ j
      → (f ≡ Right) × (is_binding bytes ≡ true) × (by_class a c from bytes (class_in bytes) ≡ j)
  fingerprint-checked Right j apart h =
      let both =
      then_of (is_binding bytes) (by_class a c from bytes (class_in bytes)) (Dropped OtherMethod) j
      (apart OtherMethod) h in
      (refl, both.0, both.1)
  fingerprint-checked Wrong j apart h = absurd (apart WrongFingerprint h)
  fingerprint-checked Misplaced j apart h = absurd (apart WrongFingerprint h)
  fingerprint-checked Absent j apart h = absurd (apart WrongFingerprint h)

  pub checked-of : (b : List ℕ) (v : Verdict) → judgement_of a c from bytes ≡ Check b v
      → IsChecked a bytes b v
  checked-of b v h =
      let first =
      else_of (is_some (refusal bytes)) (Dropped (no_message bytes))
      (by_fingerprint a c from bytes (fingerprint_in bytes)) (Check b v) (λ e. cc) h in
      let second = fingerprint-checked (fingerprint_in bytes) (Check b v) (λ r e. cc) first.1 in
      let third = class-checked (class_in bytes) b v second.2 in
      record {
        message = none-of (refusal bytes) first.0;
        fingerprint = second.0;
        class = third.0;
        method = second.1;
        bytes_are = third.1;
        verdict = third.2;
      }

  -- an accepted verdict
  role-accepted : (algorithm : IntegrityAlgorithm) (priority : ℕ) (o : Option Role)
      (check : Acceptance) → by_role bytes algorithm priority o ≡ Accepted check
      → (o ≡ Some check.role) × (algorithm ≡ check.algorithm) × (priority ≡ check.priority)
      × (check.nominated ≡ is_nominated check.role bytes)
  role-accepted algorithm priority None check h = cc
  role-accepted algorithm priority (Some role) check h =
      let same : check ≡ record {
        algorithm = algorithm;
        role = role;
        priority = priority;
        nominated = is_nominated role bytes;
      } = cc in
      let roles : Some role ≡ Some check.role =
      sym (ap (λ (x : Acceptance). Some x.role) same) in
      let algorithms : algorithm ≡ check.algorithm =
      sym (ap (λ (x : Acceptance). x.algorithm) same) in
      let priorities : priority ≡ check.priority =
      sym (ap (λ (x : Acceptance). x.priority) same) in
      let nominations : check.nominated ≡ is_nominated role bytes =
      ap (λ (x : Acceptance). x.nominated) same in
      let roles_again : is_nominated role bytes ≡ is_nominated check.role bytes =
      sym (ap (λ (x : Acceptance). is_nominated x.role bytes) same) in
      (roles, algorithms, priorities, nominations ∙ roles_again)

  priority-accepted : (algorithm : IntegrityAlgorithm) (o : Option ℕ) (check : Acceptance)
      → by_priority a bytes algorithm o ≡ Accepted check
      → (o ≡ Some check.priority)
      × (role_after_check a.role a.tie_breaker (rival a.role bytes) ≡ Some check.role)
      × (algorithm ≡ check.algorithm) × (check.nominated ≡ is_nominated check.role bytes)
  priority-accepted algorithm None check h = cc
  priority-accepted algorithm (Some priority) check h =
      let of =
      role-accepted algorithm priority
      (role_after_check a.role a.tie_breaker (rival a.role bytes)) check h in
      (ap Some of.2, of.0, of.1, of.3)

  signature-accepted : (o : Option IntegrityAlgorithm) (check : Acceptance)
      → by_signature a bytes o ≡ Accepted check
      → (o ≡ Some check.algorithm) × (is_empty (unknown_types UNDERSTOOD bytes) ≡ true)
      × (priority_in bytes ≡ Some check.priority)
      × (role_after_check a.role a.tie_breaker (rival a.role bytes) ≡ Some check.role)
      × (check.nominated ≡ is_nominated check.role bytes)
  signature-accepted None check h = cc
  signature-accepted (Some algorithm) check h =
      let both =
      then_of (is_empty (unknown_types UNDERSTOOD bytes))
      (by_priority a bytes algorithm (priority_in bytes))
      (Refused UnknownAttribute (Some algorithm)) (Accepted check) (λ e. cc) h in
      let of = priority-accepted algorithm (priority_in bytes) check both.1 in
      (ap Some of.2, both.0, of.0, of.1, of.3)

  name-accepted : (o : Option (List ℕ)) (check : Acceptance)
      → by_name a bytes o ≡ Accepted check
      → ((peer : List ℕ) × (o ≡ Some (with_colon a.name peer)))
      × (by_signature a bytes (verified_algorithm bytes a.password) ≡ Accepted check)
  name-accepted None check h = cc
  name-accepted (Some name) check h =
      let both =
      then_of (is_some (peer_name_in a.name name))
      (by_signature a bytes (verified_algorithm bytes a.password)) (Refused Unauthenticated None)
      (Accepted check) (λ e. cc) h in
      let peer = is_named-means a.name name both.0 in
      ((peer.0, ap Some peer.1), both.1)

  pub accepted-means : (b : List ℕ) (check : Acceptance)
      → judgement_of a c from bytes ≡ Check b (Accepted check) → Accepts a bytes check
  accepted-means b check h =
      let of = checked-of b (Accepted check) h in
      let named =
      else_of (is_none (deciding bytes)) (Refused BadRequest None)
      (by_name a bytes (username_in bytes)) (Accepted check) (λ e. cc) of.verdict in
      let signed = name-accepted (username_in bytes) check named.1 in
      let all = signature-accepted (verified_algorithm bytes a.password) check signed.1 in
      record {
        message = of.message;
        fingerprint = of.fingerprint;
        class = of.class;
        method = eqb-true (method_of (type_field bytes)) 1 of.method;
        name = signed.0;
        digest = all.0;
        understood = empty-of (unknown_types UNDERSTOOD bytes) all.1;
        priority = all.2;
        role = all.3;
        nominated = all.4;
      }

  -- ---- and back

  -- a message with a valid FINGERPRINT and the method Binding is judged by its class
  pub reaches-class : (class : MessageClass) → refusal bytes ≡ None → fingerprint_in bytes ≡ Right
      → class_in bytes ≡ class → method_of (type_field bytes) ≡ 1
      → judgement_of a c from bytes ≡ by_class a c from bytes class
  reaches-class class message fingerprint is method =
      ap (λ (r : Option StunParseError). if is_some r then Dropped (no_message bytes)
      else by_fingerprint a c from bytes (fingerprint_in bytes)) message
      ∙ ap (by_fingerprint a c from bytes) fingerprint
      ∙ ap (λ (b : Bool). if b then by_class a c from bytes (class_in bytes) else Dropped OtherMethod)
      (eq-eqb (method_of (type_field bytes)) 1 method)
      ∙ ap (by_class a c from bytes) is

  decided : (o : Option Member) (algorithm : IntegrityAlgorithm)
      → option_and_then (verified_at (λ (x : IntegrityAlgorithm). a.password) bytes) o ≡ Some algorithm
      → is_none o ≡ false
  decided None algorithm h = cc
  decided (Some m) algorithm h = refl

  accepts-verdict : (check : Acceptance) → Accepts a bytes check → verdict_of a bytes ≡ Accepted check
  accepts-verdict check h =
      ap (λ (b : Bool). if b then Refused BadRequest None else by_name a bytes (username_in bytes))
      (decided (deciding bytes) check.algorithm h.digest)
      ∙ ap (by_name a bytes) h.name.1
      ∙ ap (λ (b : Bool). if b then by_signature a bytes (verified_algorithm bytes a.password)
      else Refused Unauthenticated None) (is_named-with_colon a.name h.name.0)
      ∙ ap (by_signature a bytes) h.digest
      ∙ ap (λ (kinds : List AttributeType). if is_empty kinds
      then by_priority a bytes check.algorithm (priority_in bytes)
      else Refused UnknownAttribute (Some check.algorithm)) h.understood
      ∙ ap (by_priority a bytes check.algorithm) h.priority
      ∙ ap (by_role bytes check.algorithm check.priority) h.role
      ∙ ap (λ (n : Bool). Accepted (record {
        algorithm = check.algorithm;
        role = check.role;
        priority = check.priority;
        nominated = n;
      })) (sym h.nominated)

  pub means-accepted : (check : Acceptance) → Accepts a bytes check
      → judgement_of a c from bytes ≡ Check bytes (Accepted check)
  means-accepted check h =
      reaches-class Request h.message h.fingerprint h.class h.method
      ∙ ap (Check bytes) (accepts-verdict check h)

  pub accepts-iff : (check : Acceptance)
      → (judgement_of a c from bytes ≡ Check bytes (Accepted check)) ↔ Accepts a bytes check
  accepts-iff check = (accepted-means bytes check, means-accepted check)

-- ---- a response

sha1-of : (o : Option IntegrityAlgorithm) → is_by_sha1 o ≡ true → o ≡ Some Sha1
sha1-of None h = cc
sha1-of (Some Sha1) h = refl
sha1-of (Some Sha256) h = cc

module _ (a : Agent) (check : SentCheck) (from : SocketAddr) (bytes : List ℕ) where
  neither : (b : Bool) (x y : Outcome) (mapped : Mapped) → (x ≡ Valid mapped → ⊥)
      → (y ≡ Valid mapped → ⊥) → (if b then x else y) ≡ Valid mapped → ⊥
  neither true x y mapped f g h = f h
  neither false x y mapped f g h = g h

  error-not_valid : (role sent : Role) (o : Option CodeAndReason) (mapped : Mapped)
      → of_error role sent o ≡ Valid mapped → ⊥
  error-not_valid role sent None mapped h = cc
  error-not_valid role sent (Some error) mapped h =
      neither (error.code == 487) (RoleConflict (is_same_role role sent))
      (Failed (ErrorFailure error.code)) mapped (λ e. cc) (λ e. cc) h

  address-valid : (o : Option XoredAddress) (mapped : Mapped)
      → of_address bytes o ≡ Valid mapped
      → (o ≡ Some mapped.attribute) × (mapped.id ≡ transaction_id_field bytes)
  address-valid None mapped h = cc
  address-valid (Some address) mapped h =
      let same : mapped ≡ record { attribute = address; id = transaction_id_field bytes } = cc in
      let addresses : Some address ≡ Some mapped.attribute =
      sym (ap (λ (x : Mapped). Some x.attribute) same) in
      (addresses, ap (λ (x : Mapped). x.id) same)

  class-valid : (class : MessageClass) (mapped : Mapped)
      → of_response a.role check bytes class ≡ Valid mapped
      → (class ≡ Success) × (of_address bytes (mapped_address_in bytes) ≡ Valid mapped)
  class-valid Success mapped h = (refl, h)
  class-valid Request mapped h =
      absurd (error-not_valid a.role check.role (error_in bytes) mapped h)
  class-valid Indication mapped h =
      absurd (error-not_valid a.role check.role (error_in bytes) mapped h)
  class-valid Error mapped h =
      absurd (error-not_valid a.role check.role (error_in bytes) mapped h)

  unknown-valid : (kinds : List AttributeType) (mapped : Mapped)
      → of_unknown a.role check bytes kinds ≡ Valid mapped
      → (kinds ≡ []) × (of_response a.role check bytes (class_in bytes) ≡ Valid mapped)
  unknown-valid [] mapped h = (refl, h)
  unknown-valid (kind ∷ kinds) mapped h = cc

  response-ends : (outcome : Outcome)
      → by_response a (Some check) from bytes ≡ Response outcome
      → (is_answered check bytes ≡ true) × (is_signed a bytes ≡ true)
      × (of_path a.role check from bytes ≡ outcome)
  response-ends outcome h =
      let first =
      then_of (is_answered check bytes)
      (if is_signed a bytes then Response (of_path a.role check from bytes)
      else Dropped WrongSignature) (Dropped NotAsked) (Response outcome) (λ e. cc) h in
      let second =
      then_of (is_signed a bytes) (Response (of_path a.role check from bytes))
      (Dropped WrongSignature) (Response outcome) (λ e. cc) first.1 in
      let ends : Response (of_path a.role check from bytes) ≡ Response outcome = second.1 in
      (first.0, second.0, cc)

  no-keepalive : (outcome : Outcome) → of_indication bytes ≡ Response outcome → ⊥
  no-keepalive outcome h =
      no-judgement (is_empty (unknown_types UNDERSTOOD bytes)) (Keepalive bytes)
      (Dropped UnknownDrop) (Response outcome) (λ e. cc) (λ e. cc) h

  -- only a response ends a check
  class-ends : (class : MessageClass) (outcome : Outcome)
      → by_class a (Some check) from bytes class ≡ Response outcome
      → by_response a (Some check) from bytes ≡ Response outcome
  class-ends Request outcome h = cc
  class-ends Indication outcome h = absurd (no-keepalive outcome h)
  class-ends Success outcome h = h
  class-ends Error outcome h = h

  pub valid-means : (mapped : Mapped)
      → judgement_of a (Some check) from bytes ≡ Response (Valid mapped)
      → IsValid a check from bytes mapped
  valid-means mapped h =
      let first =
      else_of (is_some (refusal bytes)) (Dropped (no_message bytes))
      (by_fingerprint a (Some check) from bytes (fingerprint_in bytes)) (Response (Valid mapped))
      (λ e. cc) h in
      let second =
      fingerprint-checked a (Some check) from bytes (fingerprint_in bytes) (Response (Valid mapped))
      (λ r e. cc) first.1 in
      let third =
      response-ends (Valid mapped) (class-ends (class_in bytes) (Valid mapped) second.2) in
      let path =
      then_of (is_same_address from check.to)
      (of_unknown a.role check bytes (unknown_types UNDERSTOOD bytes)) (Failed OtherPath)
      (Valid mapped) (λ e. cc) third.2 in
      let known = unknown-valid (unknown_types UNDERSTOOD bytes) mapped path.1 in
      let class = class-valid (class_in bytes) mapped known.1 in
      let address = address-valid (mapped_address_in bytes) mapped class.1 in
      record {
        message = none-of (refusal bytes) first.0;
        fingerprint = second.0;
        class = class.0;
        method = eqb-true (method_of (type_field bytes)) 1 second.1;
        id = sym (eqb-true check.id (transaction_id_field bytes) third.0);
        digest = sha1-of (peer_algorithm a.peer bytes) third.1;
        path = path.0;
        understood = known.0;
        address = address.0;
        of_id = address.1;
      }

  pub means-valid : (mapped : Mapped) → IsValid a check from bytes mapped
      → judgement_of a (Some check) from bytes ≡ Response (Valid mapped)
  means-valid mapped h =
      reaches-class a (Some check) from bytes Success h.message h.fingerprint h.class h.method
      ∙ ap (λ (b : Bool). if b then (if is_signed a bytes
      then Response (of_path a.role check from bytes) else Dropped WrongSignature)
      else Dropped NotAsked) (eq-eqb check.id (transaction_id_field bytes) (sym h.id))
      ∙ ap (λ (o : Option IntegrityAlgorithm). if is_by_sha1 o
      then Response (of_path a.role check from bytes) else Dropped WrongSignature) h.digest
      ∙ ap Response (
      ap (λ (b : Bool). if b then of_unknown a.role check bytes (unknown_types UNDERSTOOD bytes)
      else Failed OtherPath) h.path
      ∙ ap (of_unknown a.role check bytes) h.understood
      ∙ ap (of_response a.role check bytes) h.class
      ∙ ap (of_address bytes) h.address
      ∙ ap (λ (id : ℕ). Valid (record { attribute = mapped.attribute; id = id })) (sym h.of_id))

  pub valid-iff : (mapped : Mapped)
      → (judgement_of a (Some check) from bytes ≡ Response (Valid mapped))
      ↔ IsValid a check from bytes mapped
  valid-iff mapped = (valid-means mapped, means-valid mapped)

-- ---- what the caller is told

-- without a check nothing ends one
class-none : (a : Agent) (from : SocketAddr) (bytes : List ℕ) (class : MessageClass)
    (outcome : Outcome) → by_class a None from bytes class ≡ Response outcome → ⊥
class-none a from bytes Request outcome h = cc
class-none a from bytes Indication outcome h =
    no-judgement (is_empty (unknown_types UNDERSTOOD bytes)) (Keepalive bytes)
    (Dropped UnknownDrop) (Response outcome) (λ e. cc) (λ e. cc) h
class-none a from bytes Success outcome h = cc
class-none a from bytes Error outcome h = cc

none-ends : (a : Agent) (from : SocketAddr) (bytes : List ℕ) (outcome : Outcome)
    → judgement_of a None from bytes ≡ Response outcome → ⊥
none-ends a from bytes outcome h =
    let first =
    else_of (is_some (refusal bytes)) (Dropped (no_message bytes))
    (by_fingerprint a None from bytes (fingerprint_in bytes)) (Response outcome) (λ e. cc) h in
    let second =
    fingerprint-checked a None from bytes (fingerprint_in bytes) (Response outcome) (λ r e. cc)
    first.1 in
    class-none a from bytes (class_in bytes) outcome second.2

told-valid : (a : Agent) (c : Option SentCheck) (from : SocketAddr) (bytes : List ℕ)
    (mapped : Mapped) → judgement_of a c from bytes ≡ Response (Valid mapped)
    → IsValidAnswer a c from bytes
told-valid a None from bytes mapped h = absurd (none-ends a from bytes (Valid mapped) h)
told-valid a (Some check) from bytes mapped h =
    (check, refl, (mapped, valid-means a check from bytes mapped h))

valid-judged : (a : Agent) (c : Option SentCheck) (from : SocketAddr) (bytes : List ℕ)
    (check : SentCheck) (mapped : Mapped) → c ≡ Some check → IsValid a check from bytes mapped
    → judgement_of a c from bytes ≡ Response (Valid mapped)
valid-judged a c from bytes check mapped is valid =
    ap (λ (o : Option SentCheck). judgement_of a o from bytes) is
    ∙ means-valid a check from bytes mapped valid

module _ (a : Agent) (c : Option SentCheck) (from : SocketAddr) (bytes : List ℕ) where
  by-accepted : (j : Judgement) → judgement_of a c from bytes ≡ j
      → TellsAccepted (given a from j) → IsAcceptedCheck a bytes
  by-accepted (Check b (Accepted check)) h is = (check, accepted-means a c from bytes b check h)
  by-accepted (Check b (Conflict algorithm)) h is = absurd is
  by-accepted (Check b (Refused reason by)) h is = absurd is
  by-accepted (Response outcome) h is = absurd is
  by-accepted (Keepalive b) h is = absurd is
  by-accepted (Dropped reason) h is = absurd is

  pub tells-accepted : (g : Given) → g ≡ given a from (judgement_of a c from bytes)
      → TellsAccepted g ↔ IsAcceptedCheck a bytes
  tells-accepted g e = (
    λ is. by-accepted (judgement_of a c from bytes) refl (subst TellsAccepted e is),
    λ accepts. subst TellsAccepted
        (sym (e ∙ ap (given a from) (means-accepted a c from bytes accepts.0 accepts.1))) tt,
  )

  by-valid : (j : Judgement) → judgement_of a c from bytes ≡ j
      → TellsValid (given a from j) → IsValidAnswer a c from bytes
  by-valid (Check b verdict) h is = absurd is
  by-valid (Response (Valid mapped)) h is = told-valid a c from bytes mapped h
  by-valid (Response (RoleConflict switched)) h is = absurd is
  by-valid (Response (Failed failure)) h is = absurd is
  by-valid (Keepalive b) h is = absurd is
  by-valid (Dropped reason) h is = absurd is

  pub tells-valid : (g : Given) → g ≡ given a from (judgement_of a c from bytes)
      → TellsValid g ↔ IsValidAnswer a c from bytes
  tells-valid g e = (
    λ is. by-valid (judgement_of a c from bytes) refl (subst TellsValid e is),
    λ valid. subst TellsValid
        (sym (e ∙ ap (given a from)
        (valid-judged a c from bytes valid.0 valid.2.0 valid.1 valid.2.1))) tt,
  )

pub result_accepted : {A E : Type 0} (a : Agent) (c : Option SentCheck) (from : SocketAddr)
    (bytes : List ℕ) (result : Result (Received A) E)
    → IfOk result (λ received. given_of received ≡ given a from (judgement_of a c from bytes))
    → IfOk result (λ received. TellsAccepted (given_of received) ↔ IsAcceptedCheck a bytes)
result_accepted a c from bytes (Ok received) h = tells-accepted a c from bytes (given_of received) h
result_accepted a c from bytes (Err error) h = tt

pub result_valid : {A E : Type 0} (a : Agent) (c : Option SentCheck) (from : SocketAddr)
    (bytes : List ℕ) (result : Result (Received A) E)
    → IfOk result (λ received. given_of received ≡ given a from (judgement_of a c from bytes))
    → IfOk result (λ received. TellsValid (given_of received) ↔ IsValidAnswer a c from bytes)
result_valid a c from bytes (Ok received) h = tells-valid a c from bytes (given_of received) h
result_valid a c from bytes (Err error) h = tt
