-- A request that is not dropped is a message of that class.
use Rattle.std.proofs.Common.{◌≡◌, ℕ, List, Option, Some, None, Bool, true, refl}
use Rattle.std.specs.Prelude.{◌&&◌}
use Rattle.std.specs.Option.{is_none}
use Rattle.stun_base.specs.MessageType.{class_in, is_request}
use Rattle.stun_base.specs.declared.wire.message_type.MessageClass.{MessageClass}
use Rattle.stun_base.specs.declared.wire.message_type.MessageClass.TheVariants.{Request}
use Rattle.stun_base.specs.declared.wire.message_type.MessageClass.TheVariants.{Indication}
use Rattle.stun_base.specs.declared.wire.message_type.MessageClass.TheVariants.{Success, Error}
use Rattle.stun_judging.specs.Reading.{reading_of}
use Rattle.stun_endpoint.specs.Responding.{drop_reason, is_undropped_request}
use Rattle.stun_endpoint.specs.declared.received.DropReason.{DropReason}

request_parts : (why : Option DropReason) (class : MessageClass)
    → (is_none why && is_request class) ≡ true → (why ≡ None) × (class ≡ Request)
request_parts (Some why) class h = cc
request_parts None Request h = (refl, refl)
request_parts None Indication h = cc
request_parts None Success h = cc
request_parts None Error h = cc

pub record IsKeptRequest (required : Bool) (bytes : List ℕ) : Type 0 where
  pub undropped : drop_reason required bytes ≡ None
  pub request : class_in bytes ≡ Request

pub kept_request : (required : Bool) (bytes : List ℕ) → is_undropped_request required bytes ≡ true
    → IsKeptRequest required bytes
kept_request required bytes h =
    let all = request_parts (drop_reason required bytes) (class_in bytes) h in
    record { undropped = all.0; request = all.1 }

pub class_read : (bytes : List ℕ) → (reading_of bytes).class ≡ class_in bytes
unfolding reading_of
class_read bytes = refl
