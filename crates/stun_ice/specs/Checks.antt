-- The outcome of a check of the peer (RFC 8489, sections 6.3.1 and 9.1.3; RFC 8445, section 7.3).
use Rattle.std.specs.Prelude.{◌≡◌, ℕ, List, [], Bool, false, not}
use Rattle.std.specs.Prelude.{if◌then◌else◌, Option, Some, None}
use Rattle.std.specs.Option.{is_none, is_some, option_and_then}
use Rattle.stun_base.specs.Header.{type_field}
use Rattle.stun_base.specs.Keys.{with_colon}
use Rattle.stun_base.specs.MessageType.{class_in, method_of}
use Rattle.stun_base.specs.declared.keys.algorithm.IntegrityAlgorithm.{IntegrityAlgorithm}
use Rattle.stun_base.specs.declared.wire.message_type.MessageClass.TheVariants.{Request}
use Rattle.stun_types.specs.Integrity.{deciding, verified_algorithm}
use Rattle.stun_types.specs.Message.{refusal}
use Rattle.stun_extra.specs.Fingerprint.{fingerprint_in}
use Rattle.stun_extra.specs.Unknown.{is_empty, unknown_types}
use Rattle.stun_extra.specs.declared.fingerprint.Fingerprint.TheVariants.{Right}
use Rattle.stun_ice.specs.Agent.{Agent, peer_name_in}
use Rattle.stun_ice.specs.Parts.{UNDERSTOOD, has_use_candidate, priority_in, rival}
use Rattle.stun_ice.specs.Parts.{username_in}
use Rattle.stun_ice.specs.Roles.{is_same_role, role_after_check}
use Rattle.stun_ice.specs.declared.checker.judging.Acceptance.{Acceptance}
use Rattle.stun_ice.specs.declared.checker.judging.Verdict.{Verdict}
use Rattle.stun_ice.specs.declared.checker.judging.Verdict.TheVariants.{Accepted, Conflict, Refused}
use Rattle.stun_ice.specs.declared.received.Judged.{Judged}
use Rattle.stun_ice.specs.declared.received.Judged.TheVariants as told
use Rattle.stun_ice.specs.declared.received.Refusal.TheVariants.{BadRequest, Unauthenticated}
use Rattle.stun_ice.specs.declared.received.Refusal.TheVariants.{UnknownAttribute}
use Rattle.stun_ice.specs.declared.role.Role.{Role}
use Rattle.stun_ice.specs.declared.role.Role.TheVariants.{Controlling, Controlled}

-- ---- which checks an agent accepts

-- whether a check nominates its pair to a receiver that has this role (section 7.3.1.5)
abbrev pub is_nominated : Role → List ℕ → Bool
is_nominated Controlling bytes = false
is_nominated Controlled bytes = has_use_candidate bytes

-- an agent accepts a datagram as a check: it is a Binding request with a valid FINGERPRINT and a
-- PRIORITY. Its USERNAME is the name of this agent, a colon and any name, its digest verifies under
-- the password of this agent, and the agent understands all attributes that it must understand. If
-- the check states that its sender has the same role as this agent, it is this agent that has to
-- switch its role
pub record Accepts (a : Agent) (bytes : List ℕ) (check : Acceptance) : Type 0 where
  pub message : refusal bytes ≡ None
  pub fingerprint : fingerprint_in bytes ≡ Right
  pub class : class_in bytes ≡ Request
  pub method : method_of (type_field bytes) ≡ 1
  pub name : (peer : List ℕ) × (username_in bytes ≡ Some (with_colon a.name peer))
  pub digest : verified_algorithm bytes a.password ≡ Some check.algorithm
  pub understood : unknown_types UNDERSTOOD bytes ≡ []
  pub priority : priority_in bytes ≡ Some check.priority
  pub role : role_after_check a.role a.tie_breaker (rival a.role bytes) ≡ Some check.role
  pub nominated : check.nominated ≡ is_nominated check.role bytes

-- the name of the sender of a check, if USERNAME begins with the name of the agent and a colon
abbrev pub sender_in : Agent → List ℕ → Option (List ℕ)
sender_in a bytes = option_and_then (λ name. peer_name_in a.name name) (username_in bytes)

-- ---- in which order a check is judged

-- the roles are compared last: if they conflict, either the sender has to switch its role, or the
-- receiver
abbrev pub by_role : List ℕ → IntegrityAlgorithm → ℕ → Option Role → Verdict
by_role bytes algorithm priority None = Conflict algorithm
by_role bytes algorithm priority (Some role) = Accepted (record {
  algorithm = algorithm;
  role = role;
  priority = priority;
  nominated = is_nominated role bytes;
})

-- before the roles are compared, PRIORITY is read
abbrev pub by_priority : Agent → List ℕ → IntegrityAlgorithm → Option ℕ → Verdict
by_priority a bytes algorithm None = Refused BadRequest (Some algorithm)
by_priority a bytes algorithm (Some priority) =
    by_role bytes algorithm priority
    (role_after_check a.role a.tie_breaker (rival a.role bytes))

-- before PRIORITY is read, the digest and then the unknown attributes are checked
abbrev pub by_signature : Agent → List ℕ → Option IntegrityAlgorithm → Verdict
by_signature a bytes None = Refused Unauthenticated None
by_signature a bytes (Some algorithm) =
    if is_empty (unknown_types UNDERSTOOD bytes)
    then by_priority a bytes algorithm (priority_in bytes)
    else Refused UnknownAttribute (Some algorithm)

-- before the digest is checked, the first half of the name in USERNAME must be the name of the
-- agent
abbrev pub by_name : Agent → List ℕ → Option (List ℕ) → Verdict
by_name a bytes None = Refused BadRequest None
by_name a bytes (Some name) =
    if is_some (peer_name_in a.name name)
    then by_signature a bytes (verified_algorithm bytes a.password)
    else Refused Unauthenticated None

-- first of all, there must be an integrity attribute and a USERNAME
abbrev pub verdict_of : Agent → List ℕ → Verdict
verdict_of a bytes =
    if is_none (deciding bytes) then Refused BadRequest None else by_name a bytes (username_in bytes)

-- ---- what the caller learns

-- the outcome that the caller learns, given the role before the check
abbrev pub judged_of : Role → Verdict → Judged
judged_of before (Accepted check) =
    told.Accepted check.priority check.nominated (not (is_same_role before check.role))
judged_of before (Conflict algorithm) = told.RoleConflict
judged_of before (Refused reason by) = told.Refused reason

-- the role of an agent after a check, given its role before the check
abbrev pub role_of : Role → Verdict → Role
role_of before (Accepted check) = check.role
role_of before (Conflict algorithm) = before
role_of before (Refused reason by) = before
