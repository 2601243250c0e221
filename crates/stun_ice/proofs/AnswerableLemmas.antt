-- A check is refused for what is not understood only if it has that.
use Rattle.std.proofs.Common.{◌≡◌, ℕ, List, [], ◌∷◌, Bool, true, false, Option, Some, None, refl}
use Rattle.std.specs.Prelude.{if◌then◌else◌}
use Rattle.std.specs.Option.{is_none, is_some}
use Rattle.stun_base.specs.MessageType.{class_in}
use Rattle.stun_base.specs.declared.keys.algorithm.IntegrityAlgorithm.{IntegrityAlgorithm}
use Rattle.stun_base.specs.declared.wire.attribute_type.AttributeType.{AttributeType}
use Rattle.stun_base.specs.declared.wire.message_type.MessageClass.TheVariants.{Request}
use Rattle.stun_types.specs.Integrity.{deciding, verified_algorithm}
use Rattle.stun_extra.specs.Unknown.{is_empty, unknown_types}
use Rattle.stun_ice.specs.Agent.{Agent, peer_name_in}
use Rattle.stun_ice.specs.Checks.{by_name, by_priority, by_role, by_signature, verdict_of}
use Rattle.stun_ice.specs.Parts.{UNDERSTOOD, priority_in, rival, username_in}
use Rattle.stun_ice.specs.Roles.{role_after_check}
use Rattle.stun_ice.specs.code.Answerable.{IsAnswerable}
use Rattle.stun_ice.specs.declared.checker.judging.Verdict.{Verdict}
use Rattle.stun_ice.specs.declared.checker.judging.Verdict.TheVariants.{Refused}
use Rattle.stun_ice.specs.declared.received.Refusal.TheVariants.{BadRequest, Unauthenticated}
use Rattle.stun_ice.specs.declared.received.Refusal.TheVariants.{UnknownAttribute}
use Rattle.stun_ice.specs.declared.role.Role.{Role}

module _ (a : Agent) (bytes : List ℕ) (request : class_in bytes ≡ Request) where
  of_role : (algorithm : IntegrityAlgorithm) (priority : ℕ) (role : Option Role)
      → IsAnswerable bytes (by_role bytes algorithm priority role)
  of_role algorithm priority None = tt
  of_role algorithm priority (Some role) = tt

  of_priority : (algorithm : IntegrityAlgorithm) (priority : Option ℕ)
      → IsAnswerable bytes (by_priority a bytes algorithm priority)
  of_priority algorithm None = tt
  of_priority algorithm (Some priority) =
      of_role algorithm priority (role_after_check a.role a.tie_breaker (rival a.role bytes))

  of_types : (algorithm : IntegrityAlgorithm) (types : List AttributeType)
      → types ≡ unknown_types UNDERSTOOD bytes
      → IsAnswerable bytes (if is_empty types then by_priority a bytes algorithm (priority_in bytes)
      else Refused UnknownAttribute (Some algorithm))
  of_types algorithm [] is = of_priority algorithm (priority_in bytes)
  of_types algorithm (kind ∷ kinds) is = (request, λ none. cc)

  of_signature : (algorithm : Option IntegrityAlgorithm)
      → IsAnswerable bytes (by_signature a bytes algorithm)
  of_signature None = tt
  of_signature (Some algorithm) = of_types algorithm (unknown_types UNDERSTOOD bytes) refl

  of_sender : (b : Bool) (verdict : Verdict) → IsAnswerable bytes verdict
      → IsAnswerable bytes (if b then verdict else Refused Unauthenticated None)
  of_sender true verdict h = h
  of_sender false verdict h = tt

  of_name : (name : Option (List ℕ)) → IsAnswerable bytes (by_name a bytes name)
  of_name None = tt
  of_name (Some name) =
      of_sender (is_some (peer_name_in a.name name))
      (by_signature a bytes (verified_algorithm bytes a.password))
      (of_signature (verified_algorithm bytes a.password))

  of_digest : (b : Bool) (verdict : Verdict) → IsAnswerable bytes verdict
      → IsAnswerable bytes (if b then Refused BadRequest None else verdict)
  of_digest true verdict h = tt
  of_digest false verdict h = h

  judged : IsAnswerable bytes (verdict_of a bytes)
  judged = of_digest (is_none (deciding bytes)) (by_name a bytes (username_in bytes)) (of_name (username_in bytes))

pub verdict_answerable : (a : Agent) (bytes : List ℕ) → class_in bytes ≡ Request
    → IsAnswerable bytes (verdict_of a bytes)
verdict_answerable a bytes request = judged a bytes request
