-- What the code knows about a datagram before it judges it.
use Rattle.std.specs.Prelude.{◌≡◌, ◌⊎◌, ℕ, List, Option, Some, None}
use Rattle.stun_base.specs.MessageType.{class_in}
use Rattle.stun_base.specs.declared.wire.message_type.MessageClass.TheVariants as class
use Rattle.stun_endpoint.specs.Answers.{is_fingerprinted}
use Rattle.stun_endpoint.specs.declared.arrived.Arrived.{Arrived}
use Rattle.stun_endpoint.specs.declared.arrived.Arrived.TheVariants.{Request, Indication}
use Rattle.stun_endpoint.specs.declared.arrived.Arrived.TheVariants.{Response, Dropped}
use Rattle.stun_endpoint.specs.declared.received.DropReason.{DropReason}

-- why the datagram is dropped, if it is
abbrev pub dropped_in : Arrived → Option DropReason
dropped_in (Request message has_fingerprint) = None
dropped_in (Indication message) = None
dropped_in (Response message) = None
dropped_in (Dropped reason) = Some reason

-- a message that is not dropped has the bytes of the datagram, and the class that they name
abbrev pub IsByClass : List ℕ → Arrived → Type 0
IsByClass bytes (Request message has_fingerprint) =
    (message ≡ bytes) × (has_fingerprint ≡ is_fingerprinted bytes)
    × (class_in bytes ≡ class.Request)
IsByClass bytes (Indication message) = (message ≡ bytes) × (class_in bytes ≡ class.Indication)
IsByClass bytes (Response message) =
    (message ≡ bytes) × ((class_in bytes ≡ class.Success) ⊎ (class_in bytes ≡ class.Error))
IsByClass bytes (Dropped reason) = Unit {0}
