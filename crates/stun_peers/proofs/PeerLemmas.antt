-- What is read of a check is what it was made of, and its peer judges it so.
use Rattle.std.proofs.Common.{◌≡◌, ◌≤◌, ◌<◌, ◌^◌, ◌+◌, ℕ, Bool, true, false, List, [], ◌∷◌, ◌++◌}
use Rattle.std.proofs.Common.{length, Option, Some, None, refl, sym, ◌∙◌, ap, arith}
use Rattle.std.specs.Prelude.{filter, not, if◌then◌else◌}
use Rattle.std.proofs.lemmas.List.{append-nil}
use Rattle.std.specs.Option.{is_none, is_some, option_and_then, option_map}
use Rattle.std.specs.declared.net.socket_addr.SocketAddr.{SocketAddr}
use Rattle.stun_base.specs.Attributes.{USERNAME}
use Rattle.stun_base.specs.MessageType.{class_of, method_of, type_number}
use Rattle.stun_base.specs.declared.keys.algorithm.IntegrityAlgorithm.{IntegrityAlgorithm}
use Rattle.stun_base.specs.declared.keys.algorithm.IntegrityAlgorithm.TheVariants.{Sha1}
use Rattle.stun_base.specs.declared.wire.message_type.MessageClass.TheVariants.{Request}
use Rattle.stun_types.specs.Attribute.{attribute_length}
use Rattle.stun_types.specs.Integrity.{deciding, first_of, verified_algorithm, verified_at}
use Rattle.stun_types.specs.Visible.{visible}
use Rattle.stun_types.specs.Walk.{Member}
use Rattle.stun_types.specs.Writing.{empty_message, is_set_apart, with_attribute}
use Rattle.stun_extra.specs.AttributeTypes.{ICE_CONTROLLED, ICE_CONTROLLING, PRIORITY}
use Rattle.stun_extra.specs.AttributeTypes.{USE_CANDIDATE}
use Rattle.stun_extra.specs.Unknown.{is_empty, is_unknown, kinds_of, types_of, unknown_types}
use Rattle.stun_extra.specs.Unknown.{without_repeats}
use Rattle.stun_extra.specs.Values.{number_of, number_of_4-written, number_of_8-written}
use Rattle.stun_base.specs.Keys.{with_colon}
use Rattle.stun_ice.specs.Agent.{Agent, Peer, check_bytes, check_page, priority_attribute}
use Rattle.stun_ice.specs.Agent.{role_attribute}
use Rattle.stun_ice.specs.Agent.{username_attribute, with_nomination, SentCheck, can_nominate}
use Rattle.stun_ice.specs.Parts.{UNDERSTOOD, has_use_candidate, priority_in, rival, username_in}
use Rattle.stun_peers.specs.Peers.{IsAgent, IsNumbered, Knows, SaysCheck, said_by, given_by}
use Rattle.stun_peers.specs.Peers.{role_by}
use Rattle.stun_base.specs.declared.wire.attribute_type.AttributeType.{AttributeType}
use Rattle.stun_ice.specs.Checks.{by_name, by_priority, by_role, by_signature, is_nominated}
use Rattle.stun_ice.specs.Checks.{judged_of, role_of, verdict_of}
use Rattle.stun_ice.specs.Conflicts.{rival_of}
use Rattle.stun_ice.specs.Answers.{answer_of, success_answer}
use Rattle.stun_ice.specs.Received.{checked, given, judgement_of, role_left}
use Rattle.stun_ice.specs.Roles.{is_same_role, opposite, role_after_check}
use Rattle.stun_ice.specs.declared.received.Judged.TheVariants.{Accepted}
use Rattle.stun_ice.proofs.AcceptingLemmas.{reaches-class}
use Rattle.stun_ice.proofs.NameLemmas.{is_named-with_colon}
use Rattle.stun_peers.proofs.SealedLemmas.{IsPage, IsSealed, added, begun, closed, sealed}
use Rattle.stun_ice.specs.declared.role.Role.{Role}
use Rattle.stun_ice.specs.declared.role.Role.TheVariants.{Controlling, Controlled}

-- ---- the attributes of a check

-- those of its page, at these places
abbrev nominating : Bool → ℕ → List Member
nominating true place = (place, record { kind = USE_CANDIDATE; value = [] }) ∷ []
nominating false place = []

abbrev of_check : List ℕ → ℕ → Role → ℕ → Bool → ℕ → ℕ → ℕ → ℕ → List Member
of_check name priority role tie nominates p q r s =
    (p, username_attribute name) ∷ (q, priority_attribute priority) ∷ (r, role_attribute role tie)
    ∷ nominating nominates s

-- what is found among them
abbrev name_among : List Member → Option (List ℕ)
name_among members = option_map (λ m. m.1.value) (first_of USERNAME members)

abbrev priority_among : List Member → Option ℕ
priority_among members =
    option_and_then (λ m. number_of PRIORITY 4 m.1) (first_of PRIORITY members)

abbrev rival_among : Role → List Member → Option ℕ
rival_among Controlling members =
    option_and_then (λ m. number_of ICE_CONTROLLING 8 m.1) (first_of ICE_CONTROLLING members)
rival_among Controlled members =
    option_and_then (λ m. number_of ICE_CONTROLLED 8 m.1) (first_of ICE_CONTROLLED members)

abbrev unknown_among : List Member → List AttributeType
unknown_among members =
    types_of (without_repeats (filter (is_unknown UNDERSTOOD) (kinds_of members)))

-- what a check says of the role is what is found among its attributes
rival-among : (role : Role) (bytes : List ℕ) → rival role bytes ≡ rival_among role (visible bytes)
rival-among Controlling bytes = refl
rival-among Controlled bytes = refl

record IsFound (name : List ℕ) (priority : ℕ) (role : Role) (tie : ℕ) (nominates : Bool)
    (members : List Member) : Type 0 where
  name_is : name_among members ≡ Some name
  priority_is : priority_among members ≡ Some priority
  role_is : rival_among role members ≡ Some tie
  no_other : rival_among (opposite role) members ≡ None
  nominated : is_some (first_of USE_CANDIDATE members) ≡ nominates
  understood : unknown_among members ≡ []

found : (name : List ℕ) (priority : ℕ) (role : Role) (tie : ℕ) (nominates : Bool)
    (p q r s place end : ℕ) (digest print : List ℕ) → priority < 2 ^ 32 → tie < 2 ^ 64
    → IsFound name priority role tie nominates
    (closed (of_check name priority role tie nominates p q r s) place end digest print)
found name priority Controlling tie true p q r s place end digest print fits wide = record {
  name_is = refl;
  priority_is = number_of_4-written PRIORITY priority fits;
  role_is = number_of_8-written ICE_CONTROLLING tie wide;
  no_other = refl;
  nominated = refl;
  understood = refl;
}
found name priority Controlling tie false p q r s place end digest print fits wide = record {
  name_is = refl;
  priority_is = number_of_4-written PRIORITY priority fits;
  role_is = number_of_8-written ICE_CONTROLLING tie wide;
  no_other = refl;
  nominated = refl;
  understood = refl;
}
found name priority Controlled tie true p q r s place end digest print fits wide = record {
  name_is = refl;
  priority_is = number_of_4-written PRIORITY priority fits;
  role_is = number_of_8-written ICE_CONTROLLED tie wide;
  no_other = refl;
  nominated = refl;
  understood = refl;
}
found name priority Controlled tie false p q r s place end digest print fits wide = record {
  name_is = refl;
  priority_is = number_of_4-written PRIORITY priority fits;
  role_is = number_of_8-written ICE_CONTROLLED tie wide;
  no_other = refl;
  nominated = refl;
  understood = refl;
}

-- what is read of bytes with these attributes
says_check : (a : Agent) (peer : Peer) (id priority : ℕ) (nominates : Bool) (p q r s : ℕ) (bytes : List ℕ)
    → IsAgent a peer → IsNumbered id priority
    → IsSealed (type_number Request 1) id
    (of_check peer.outgoing priority a.role a.tie_breaker nominates p q r s) peer.password bytes
    → SaysCheck a peer id priority nominates bytes
says_check a peer id priority nominates p q r s bytes agent numbered whole =
    let all =
    found peer.outgoing priority a.role a.tie_breaker nominates p q r s whole.place whole.end
    whole.value whole.print numbered.priority_fits agent.tie_breaker in
    let shown = whole.visible_is in
    record {
      message = whole.message;
      fingerprint = whole.fingerprint;
      class = ap class_of whole.type_is;
      method = ap method_of whole.type_is;
      of_id = whole.id_is;
      name = ap name_among shown ∙ all.name_is;
      digest = whole.digest;
      understood = ap unknown_among shown ∙ all.understood;
      priority_is = ap priority_among shown ∙ all.priority_is;
      role = rival-among a.role bytes ∙ ap (rival_among a.role) shown ∙ all.role_is;
      no_other_role = rival-among (opposite a.role) bytes
          ∙ ap (rival_among (opposite a.role)) shown ∙ all.no_other;
      nominated = ap (λ ms. is_some (first_of USE_CANDIDATE ms)) shown ∙ all.nominated;
    }

-- ---- the page of a check

-- the attribute of a role can be added
role_typed : (role : Role) (tie : ℕ) → (role_attribute role tie).kind < 2 ^ 16
role_typed Controlling tie = omega arith
role_typed Controlled tie = omega arith

role_plain : (role : Role) (tie : ℕ) → is_set_apart (role_attribute role tie).kind ≡ false
role_plain Controlling tie = refl
role_plain Controlled tie = refl

role_short : (role : Role) (tie : ℕ)
    → attribute_length (length (role_attribute role tie).value) ≤ 12
role_short Controlling tie = omega arith
role_short Controlled tie = omega arith

nominated_page : (nominates : Bool) (kind id : ℕ) (members : List Member) (most : ℕ) (page : List ℕ)
    → IsPage kind id members most page → most + 4 ≤ 2000
    → IsPage kind id (members ++ nominating nominates (length page)) (most + 4)
    (with_nomination nominates page)
nominated_page true kind id members most page is small =
    added kind id members most page (record { kind = USE_CANDIDATE; value = [] }) 4 is (omega arith)
    refl (omega arith) small
nominated_page false kind id members most page is small = record {
  is_open = is.is_open;
  type_is = is.type_is;
  id_is = is.id_is;
  walk_is = is.walk_is ∙ sym (append-nil members);
  short = omega (arith, is.short);
}

pub check_read : (a : Agent) (peer : Peer) (id priority : ℕ) (nominates : Bool) → IsAgent a peer
    → IsNumbered id priority
    → SaysCheck a peer id priority nominates (check_bytes a peer id priority nominates)
unfolding check_bytes
check_read a peer id priority nominates agent numbered =
    let page_0 = empty_message Request 1 id in
    let page_1 = with_attribute page_0 (username_attribute peer.outgoing) in
    let page_2 = with_attribute page_1 (priority_attribute priority) in
    let page_3 = with_attribute page_2 (role_attribute a.role a.tie_breaker) in
    let is_0 = begun Request id (omega arith) numbered.id_fits in
    let is_1 =
    added (type_number Request 1) id [] 20 page_0 (username_attribute peer.outgoing) 520 is_0
    (omega arith) refl (omega (arith, agent.name)) (omega arith) in
    let is_2 =
    added (type_number Request 1) id ((length page_0, username_attribute peer.outgoing) ∷ []) 540
    page_1 (priority_attribute priority) 8 is_1 (omega arith) refl (omega arith) (omega arith) in
    let is_3 =
    added (type_number Request 1) id
    ((length page_0, username_attribute peer.outgoing) ∷ (length page_1, priority_attribute priority)
    ∷ []) 548 page_2 (role_attribute a.role a.tie_breaker) 12 is_2 (role_typed a.role a.tie_breaker)
    (role_plain a.role a.tie_breaker) (role_short a.role a.tie_breaker) (omega arith) in
    let is_4 =
    nominated_page nominates (type_number Request 1) id
    ((length page_0, username_attribute peer.outgoing) ∷ (length page_1, priority_attribute priority)
    ∷ (length page_2, role_attribute a.role a.tie_breaker) ∷ []) 560 page_3 is_3 (omega arith) in
    let members =
    of_check peer.outgoing priority a.role a.tie_breaker nominates (length page_0) (length page_1)
    (length page_2) (length page_3) in
    let whole =
    sealed (type_number Request 1) id members 564 (check_page a peer id priority nominates)
    peer.password is_4 (omega arith) in
    says_check a peer id priority nominates (length page_0) (length page_1) (length page_2)
    (length page_3) (check_bytes a peer id priority nominates) agent numbered whole

-- ---- what the peer makes of it

-- its sender is a rival of an agent with the same role
rival_said : (mine role : Role) (tie : ℕ) (bytes : List ℕ) → rival mine bytes ≡ Some tie
    → rival (opposite mine) bytes ≡ None
    → rival role bytes ≡ rival_of role (record { role = mine; tie_breaker = tie })
rival_said Controlling Controlling tie bytes says other = says
rival_said Controlling Controlled tie bytes says other = other
rival_said Controlled Controlling tie bytes says other = other
rival_said Controlled Controlled tie bytes says other = says

nominated_by : (role : Role) (nominates : Bool) (bytes : List ℕ)
    → has_use_candidate bytes ≡ nominates
    → is_nominated role bytes ≡ can_nominate (opposite role) nominates
nominated_by Controlling nominates bytes is = refl
nominated_by Controlled nominates bytes is = is

-- what verifies is decided
decided : (key bytes : List ℕ) (o : Option Member)
    → option_and_then (verified_at (λ (x : IntegrityAlgorithm). key) bytes) o ≡ Some Sha1
    → is_none o ≡ false
decided key bytes None is = cc
decided key bytes (Some m) is = refl

-- an agent judges such a check by the roles
verdict_is : (a b : Agent) (peer : Peer) (id priority : ℕ) (nominates : Bool) (bytes : List ℕ)
    → Knows a b peer → SaysCheck a peer id priority nominates bytes
    → verdict_of b bytes
    ≡ by_role bytes Sha1 priority
    (role_after_check b.role b.tie_breaker (rival_of b.role (said_by a)))
verdict_is a b peer id priority nominates bytes knows says =
    let digest : verified_algorithm bytes b.password ≡ Some Sha1 =
    ap (verified_algorithm bytes) (sym knows.password) ∙ says.digest in
    let name : username_in bytes ≡ Some (with_colon b.name a.name) =
    says.name ∙ ap Some knows.name in
    let theirs = rival_said a.role b.role a.tie_breaker bytes says.role says.no_other_role in
    let left : Option ℕ → Option Role = λ o. role_after_check b.role b.tie_breaker o in
    let decides = decided b.password bytes (deciding bytes) digest in
    let same = is_named-with_colon b.name a.name in
    let signed : verdict_of b bytes ≡ by_name b bytes (username_in bytes) = rw decides refl in
    let named : by_name b bytes (Some (with_colon b.name a.name))
    ≡ by_signature b bytes (verified_algorithm bytes b.password) = rw same refl in
    let known : by_signature b bytes (Some Sha1) ≡ by_priority b bytes Sha1 (priority_in bytes) =
    rw says.understood refl in
    signed
    ∙ ap (by_name b bytes) name
    ∙ named
    ∙ ap (by_signature b bytes) digest
    ∙ known
    ∙ ap (by_priority b bytes Sha1) says.priority_is
    ∙ ap (λ o. by_role bytes Sha1 priority (left o)) theirs

given_is : (b : Agent) (from : SocketAddr) (priority : ℕ) (nominates : Bool) (bytes : List ℕ)
    (left : Option Role) → has_use_candidate bytes ≡ nominates
    → checked bytes (answer_of b from bytes (by_role bytes Sha1 priority left))
    (judged_of b.role (by_role bytes Sha1 priority left))
    ≡ given_by b from bytes priority nominates left
given_is b from priority nominates bytes None is = refl
given_is b from priority nominates bytes (Some role) is =
    ap (λ (n : Bool). checked bytes (success_answer b from bytes Sha1)
    (Accepted priority n (not (is_same_role b.role role)))) (nominated_by role nominates bytes is)

left_is : (before : Role) (priority : ℕ) (bytes : List ℕ) (left : Option Role)
    → role_of before (by_role bytes Sha1 priority left) ≡ role_by before left
left_is before priority bytes None = refl
left_is before priority bytes (Some role) = refl

pub check_judged : (a b : Agent) (peer : Peer) (c : Option SentCheck) (from : SocketAddr)
    (id priority : ℕ) (nominates : Bool) (bytes : List ℕ) → Knows a b peer
    → SaysCheck a peer id priority nominates bytes
    → given b from (judgement_of b c from bytes)
    ≡ given_by b from bytes priority nominates
    (role_after_check b.role b.tie_breaker (rival_of b.role (said_by a)))
check_judged a b peer c from id priority nominates bytes knows says =
    let left = role_after_check b.role b.tie_breaker (rival_of b.role (said_by a)) in
    let reached : given b from (judgement_of b c from bytes)
    ≡ checked bytes (answer_of b from bytes (verdict_of b bytes))
    (judged_of b.role (verdict_of b bytes)) =
    ap (given b from)
    (reaches-class b c from bytes Request says.message says.fingerprint says.class says.method) in
    reached
    ∙ ap (λ v. checked bytes (answer_of b from bytes v) (judged_of b.role v))
    (verdict_is a b peer id priority nominates bytes knows says)
    ∙ given_is b from priority nominates bytes left says.nominated

pub role_judged : (a b : Agent) (peer : Peer) (c : Option SentCheck) (from : SocketAddr)
    (id priority : ℕ) (nominates : Bool) (bytes : List ℕ) → Knows a b peer
    → SaysCheck a peer id priority nominates bytes
    → role_left b.role (judgement_of b c from bytes)
    ≡ role_by b.role (role_after_check b.role b.tie_breaker (rival_of b.role (said_by a)))
role_judged a b peer c from id priority nominates bytes knows says =
    let left = role_after_check b.role b.tie_breaker (rival_of b.role (said_by a)) in
    let reached : role_left b.role (judgement_of b c from bytes)
    ≡ role_of b.role (verdict_of b bytes) =
    ap (role_left b.role)
    (reaches-class b c from bytes Request says.message says.fingerprint says.class says.method) in
    reached
    ∙ ap (role_of b.role) (verdict_is a b peer id priority nominates bytes knows says)
    ∙ left_is b.role priority bytes left
