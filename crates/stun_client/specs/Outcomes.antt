-- How a response that is believed ends its request (RFC 8489, sections 6.3.3, 6.3.4 and 10).
use Rattle.std.specs.Prelude.{ℕ, ◌==◌, List, [], ◌∷◌, if◌then◌else◌, Option, Some, None}
use Rattle.stun_base.specs.MessageType.{class_in, is_error}
use Rattle.stun_base.specs.declared.wire.attribute_type.AttributeType.{AttributeType}
use Rattle.stun_extra.specs.Unknown.{unknown_types}
use Rattle.stun_client.specs.Challenging.{code_in}
use Rattle.stun_client.specs.declared.judged.Outcome.{Outcome}
use Rattle.stun_client.specs.declared.judged.Outcome.TheVariants.{Success, Refused, Redirected}
use Rattle.stun_client.specs.declared.judged.Outcome.TheVariants.{NotUnderstood, Malformed}

-- an error must have a code, and 300 names another server
abbrev pub by_code : Option ℕ → Outcome
by_code None = Malformed
by_code (Some code) = if code == 300 then Redirected else Refused code

abbrev pub by_class : List ℕ → Outcome
by_class bytes = if is_error (class_in bytes) then by_code (code_in bytes) else Success

-- before that, attributes must be understood
abbrev pub by_unknown : List ℕ → List AttributeType → Outcome
by_unknown bytes [] = by_class bytes
by_unknown bytes (kind ∷ kinds) = NotUnderstood kind

abbrev pub outcome_of : List AttributeType → List ℕ → Outcome
outcome_of understood bytes = by_unknown bytes (unknown_types understood bytes)
