-- The answers of an agent to a check are heard by its peer as they are meant.
use Rattle.std.proofs.Common.{◌≡◌, ◌≤◌, ◌<◌, ◌^◌, ℕ, Bool, true, false, List, [], ◌∷◌, length}
use Rattle.std.proofs.Common.{Option, Some, inl, inr, refl, sym, ◌∙◌, ap, arith, subst, eq-eqb}
use Rattle.std.specs.Prelude.{codes, filter, if◌then◌else◌}
use Rattle.std.proofs.lemmas.Str.{IsUtf8-from_ascii}
use Rattle.std.specs.Option.{option_and_then}
use Rattle.std.specs.Net.Socket.{IsSocketAddr, socket_ip, socket_port}
use Rattle.std.specs.declared.net.socket_addr.SocketAddr.{SocketAddr}
use Rattle.stun_base.specs.Attributes.{ERROR_CODE, XOR_MAPPED_ADDRESS}
use Rattle.stun_base.specs.Header.{transaction_id_field, type_field}
use Rattle.stun_base.specs.MessageType.{class_in, class_of, method_of, type_number}
use Rattle.stun_base.specs.declared.keys.algorithm.IntegrityAlgorithm.TheVariants.{Sha1}
use Rattle.stun_base.specs.declared.wire.attribute_type.AttributeType.{AttributeType}
use Rattle.stun_base.specs.declared.wire.message_type.MessageClass.{MessageClass}
use Rattle.stun_base.specs.declared.wire.message_type.MessageClass.TheVariants.{Success, Error}
use Rattle.stun_types.specs.Attribute.{TypedValue, attribute_length}
use Rattle.stun_types.specs.ErrorCode.{CodeAndReason, IsError, error_of}
use Rattle.stun_types.specs.ErrorCodeLaws.{error_of-written}
use Rattle.stun_types.specs.Integrity.{first_of, verified_algorithm}
use Rattle.stun_types.specs.Walk.{Member}
use Rattle.stun_types.specs.Writing.{empty_message, is_set_apart, with_attribute, with_integrity}
use Rattle.stun_types.specs.XorMappedAddress.{IsXored, XoredAddress, xored_of, xored_value}
use Rattle.stun_types.specs.XorMappedAddressLaws.{xored_of-written}
use Rattle.stun_extra.specs.CanonicalAddress.{is_same_address, xored_canonical}
use Rattle.stun_extra.specs.Errors.{error_code_attribute}
use Rattle.stun_extra.specs.Fingerprint.{with_fingerprint}
use Rattle.stun_extra.specs.Unknown.{is_unknown, kinds_of, types_of, unknown_types, without_repeats}
use Rattle.stun_ice.specs.Agent.{Agent, Peer, SentCheck}
use Rattle.stun_ice.specs.Answers.{conflict_answer, success_answer}
use Rattle.stun_ice.specs.Parts.{UNDERSTOOD, error_in}
use Rattle.stun_peers.specs.Peers.{Knows, mapped_of}
use Rattle.stun_ice.specs.Received.{by_class, given, judgement_of, responded, role_after_outcome}
use Rattle.stun_ice.specs.Received.{role_left}
use Rattle.stun_ice.specs.Responses.{is_answered, IsValid, is_by_sha1, is_signed, of_error, of_path}
use Rattle.stun_ice.specs.Responses.{of_response, of_unknown, peer_algorithm}
use Rattle.stun_ice.specs.Roles.{is_same_role}
use Rattle.stun_ice.specs.declared.received.Failure.TheVariants.{OtherPath}
use Rattle.stun_ice.specs.declared.received.Outcome.TheVariants.{Failed, RoleConflict}
use Rattle.stun_ice.proofs.AcceptingLemmas.{reaches-class}
use Rattle.stun_exchanges.proofs.Ascii.{from_small}
use Rattle.stun_peers.proofs.MappedLemmas.{xored}
use Rattle.stun_peers.proofs.SealedLemmas.{IsSealed, added, begun, sealed}

-- a request that an answer is written to
pub record Asks (request : List ℕ) (id : ℕ) : Type 0 where
  pub method : method_of (type_field request) ≡ 1
  pub of_id : transaction_id_field request ≡ id

-- an answer with one attribute
abbrev answer_page : MessageClass → ℕ → TypedValue → List ℕ
answer_page class id a = with_attribute (empty_message class 1 id) a

whole : (class : MessageClass) (id : ℕ) (a : TypedValue) (key : List ℕ)
    → type_number class 1 < 2 ^ 14 → id < 2 ^ 96 → a.kind < 2 ^ 16 → is_set_apart a.kind ≡ false
    → attribute_length (length a.value) ≤ 500
    → IsSealed (type_number class 1) id ((length (empty_message class 1 id), a) ∷ []) key
    (with_fingerprint (with_integrity (answer_page class id a) Sha1 key))
whole class id a key fits small typed plain short =
    sealed (type_number class 1) id ((length (empty_message class 1 id), a) ∷ []) 520
    (answer_page class id a) key
    (added (type_number class 1) id [] 20 (empty_message class 1 id) a 500
    (begun class id fits small) typed plain short (omega arith)) (omega arith)

abbrev unknown_among : List Member → List AttributeType
unknown_among members =
    types_of (without_repeats (filter (is_unknown UNDERSTOOD) (kinds_of members)))

abbrev mapped_among : List Member → Option XoredAddress
mapped_among members =
    option_and_then (λ m. xored_of m.1) (first_of XOR_MAPPED_ADDRESS members)

abbrev error_among : List Member → Option CodeAndReason
error_among members = option_and_then (λ m. error_of m.1) (first_of ERROR_CODE members)

-- ---- a success

abbrev mapped_value : XoredAddress → TypedValue
mapped_value x = record { kind = XOR_MAPPED_ADDRESS; value = xored_value x }

octets_short : (x : XoredAddress) → IsXored x → length x.octets ≤ 16
octets_short x (fits, inl four) = omega (arith, four.1)
octets_short x (fits, inr sixteen) = omega (arith, sixteen.1)

success_sealed : (b : Agent) (from : SocketAddr) (request : List ℕ) (id : ℕ) → Asks request id
    → id < 2 ^ 96 → IsSocketAddr from
    → IsSealed (type_number Success 1) id ((
      length (empty_message Success 1 id),
      mapped_value (xored_canonical (socket_ip from) (socket_port from) id),
    ) ∷ []) b.password
    (success_answer b from request Sha1)
success_sealed b from request id asks small is =
    let x = xored_canonical (socket_ip from) (socket_port from) in
    let octets = octets_short (x id) (xored from id is) in
    subst (λ (page : List ℕ). IsSealed (type_number Success 1) id
    ((length (empty_message Success 1 id), mapped_value (x id)) ∷ []) b.password
    (with_fingerprint (with_integrity page Sha1 b.password)))
    (λ i. with_attribute (empty_message Success (sym asks.method i) (sym asks.of_id i))
    (mapped_value (x (sym asks.of_id i))))
    (whole Success id (mapped_value (x id)) b.password (omega arith) small (omega arith) refl
    (omega (arith, octets)))

-- a digest under the password of a peer that is known
of_peer : (a : Agent) (peer : Peer) (bytes : List ℕ) → a.peer ≡ Some peer
    → verified_algorithm bytes peer.password ≡ Some Sha1 → peer_algorithm a.peer bytes ≡ Some Sha1
of_peer a peer bytes known digest =
    ap (λ (p : Option Peer). peer_algorithm p bytes) known ∙ digest

valid : (a : Agent) (peer : Peer) (check : SentCheck) (at : SocketAddr) (x : XoredAddress)
    (place : ℕ) (bytes : List ℕ) → a.peer ≡ Some peer → IsXored x
    → is_same_address at check.to ≡ true
    → IsSealed (type_number Success 1) check.id ((place, mapped_value x) ∷ []) peer.password bytes
    → IsValid a check at bytes (record { attribute = x; id = check.id })
valid a peer check at x place bytes known is path done = record {
  message = done.message;
  fingerprint = done.fingerprint;
  class = ap class_of done.type_is;
  method = ap method_of done.type_is;
  id = done.id_is;
  digest = of_peer a peer bytes known done.digest;
  path = path;
  understood = ap unknown_among done.visible_is;
  address = ap mapped_among done.visible_is ∙ xored_of-written x is;
  of_id = sym done.id_is;
}

pub success_heard : (a b : Agent) (peer : Peer) (check : SentCheck) (from at : SocketAddr)
    (request : List ℕ) → Knows a b peer → Asks request check.id → check.id < 2 ^ 96 → IsSocketAddr from
    → is_same_address at check.to ≡ true
    → IsValid a check at (success_answer b from request Sha1) (mapped_of from check.id)
success_heard a b peer check from at request knows asks small is path =
    let x = xored_canonical (socket_ip from) (socket_port from) check.id in
    let answer = success_answer b from request Sha1 in
    let place = length (empty_message Success 1 check.id) in
    valid a peer check at x place answer knows.known (xored from check.id is) path
    (subst (λ (key : List ℕ). IsSealed (type_number Success 1) check.id
    ((place, mapped_value x) ∷ []) key answer) (sym knows.password)
    (success_sealed b from request check.id asks small is))

-- ---- a 487

-- the error of a 487
abbrev conflict_error : CodeAndReason
conflict_error = record { code = 487; reason = codes "Role Conflict" }

IsError-conflict : IsError conflict_error
IsError-conflict = record {
  from_300 = omega arith;
  below_700 = omega arith;
  text = IsUtf8-from_ascii (codes "Role Conflict") (from_small (codes "Role Conflict") refl);
  short = omega arith;
}

abbrev conflict_value : TypedValue
conflict_value = error_code_attribute 487 (codes "Role Conflict")

conflict_sealed : (b : Agent) (request : List ℕ) (id : ℕ) → Asks request id → id < 2 ^ 96
    → IsSealed (type_number Error 1) id ((length (empty_message Error 1 id), conflict_value) ∷ [])
    b.password (conflict_answer b request Sha1)
conflict_sealed b request id asks small =
    subst (λ (page : List ℕ). IsSealed (type_number Error 1) id
    ((length (empty_message Error 1 id), conflict_value) ∷ []) b.password
    (with_fingerprint (with_integrity page Sha1 b.password)))
    (λ i. with_attribute (empty_message Error (sym asks.method i) (sym asks.of_id i))
    conflict_value)
    (whole Error id conflict_value b.password (omega arith) small (omega arith) refl (omega arith))

ended : (a : Agent) (check : SentCheck) (at : SocketAddr) (place : ℕ) (key bytes : List ℕ)
    → is_same_address at check.to ≡ true
    → IsSealed (type_number Error 1) check.id ((place, conflict_value) ∷ []) key bytes
    → of_path a.role check at bytes ≡ RoleConflict (is_same_role a.role check.role)
ended a check at place key bytes path done =
    let class : class_in bytes ≡ Error = ap class_of done.type_is in
    let understood : unknown_types UNDERSTOOD bytes ≡ [] = ap unknown_among done.visible_is in
    let error : error_in bytes ≡ Some conflict_error =
    ap error_among done.visible_is ∙ error_of-written conflict_error IsError-conflict in
    ap (λ (t : Bool). if t then of_unknown a.role check bytes (unknown_types UNDERSTOOD bytes)
    else Failed OtherPath) path
    ∙ ap (of_unknown a.role check bytes) understood
    ∙ ap (of_response a.role check bytes) class
    ∙ ap (of_error a.role check.role) error

conflicts : (a : Agent) (peer : Peer) (check : SentCheck) (at : SocketAddr) (place : ℕ)
    (bytes : List ℕ) → a.peer ≡ Some peer → is_same_address at check.to ≡ true
    → IsSealed (type_number Error 1) check.id ((place, conflict_value) ∷ []) peer.password bytes
    → (given a at (judgement_of a (Some check) at bytes)
    ≡ responded (RoleConflict (is_same_role a.role check.role)))
    × (role_left a.role (judgement_of a (Some check) at bytes)
    ≡ role_after_outcome a.role (RoleConflict (is_same_role a.role check.role)))
conflicts a peer check at place bytes known path done =
    let class : class_in bytes ≡ Error = ap class_of done.type_is in
    let id : is_answered check bytes ≡ true =
    eq-eqb check.id (transaction_id_field bytes) (sym done.id_is) in
    let outcome = ended a check at place peer.password bytes path done in
    let reached =
    reaches-class a (Some check) at bytes Error done.message done.fingerprint class
    (ap method_of done.type_is) in
    let digest = of_peer a peer bytes known done.digest in
    let given_is : given a at (by_class a (Some check) at bytes Error)
    ≡ responded (of_path a.role check at bytes) = rw (id, digest) refl in
    let role_is : role_left a.role (by_class a (Some check) at bytes Error)
    ≡ role_after_outcome a.role (of_path a.role check at bytes) = rw (id, digest) refl in
    let told : given a at (judgement_of a (Some check) at bytes)
    ≡ responded (of_path a.role check at bytes) = ap (given a at) reached ∙ given_is in
    let left : role_left a.role (judgement_of a (Some check) at bytes)
    ≡ role_after_outcome a.role (of_path a.role check at bytes) =
    ap (role_left a.role) reached ∙ role_is in
    (told ∙ ap responded outcome, left ∙ ap (role_after_outcome a.role) outcome)

pub conflict_heard : (a b : Agent) (peer : Peer) (check : SentCheck) (at : SocketAddr)
    (request : List ℕ) → Knows a b peer → Asks request check.id → check.id < 2 ^ 96 → is_same_address at check.to ≡ true
    → let j = judgement_of a (Some check) at (conflict_answer b request Sha1) in
    (given a at j ≡ responded (RoleConflict (is_same_role a.role check.role)))
    × (role_left a.role j
    ≡ role_after_outcome a.role (RoleConflict (is_same_role a.role check.role)))
conflict_heard a b peer check at request knows asks small path =
    let answer = conflict_answer b request Sha1 in
    let place = length (empty_message Error 1 check.id) in
    conflicts a peer check at place answer knows.known path
    (subst (λ (key : List ℕ). IsSealed (type_number Error 1) check.id
    ((place, conflict_value) ∷ []) key answer) (sym knows.password)
    (conflict_sealed b request check.id asks small))
